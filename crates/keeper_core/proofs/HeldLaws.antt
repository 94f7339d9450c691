-- Tables that are held by paths.
use Rattle.std.proofs.Common.{◌≡◌, ◌<◌, ℕ, zero, suc, true, List, [], ◌∷◌, ◌++◌, length, drop, get_or, refl, ap, ◌∙◌, arith, inl, inr}
use Rattle.std.specs.Prelude.{string_bytes}
use Rattle.std.specs.Str.{bytes_eq}
use Rattle.std.proofs.lemmas.Bool.{cases_Bool}
use Rattle.keeper_core.specs.declared.mem_keepers.HeldTables.{HeldTables}
use Rattle.keeper_core.specs.HeldByPath.{held_at}
use Rattle.keeper_core.specs.EitherSchema.{fresh_stored}

-- fresh tables for one more path
pub held_more : (hs : List HeldTables) (h : HeldTables) (q : List ℕ) → h.stored ≡ fresh_stored → held_at (hs ++ h ∷ []) q ≡ held_at hs q
held_more [] h q fresh = elim (cases_Bool (bytes_eq (string_bytes h.path) q)) [ inl t ↦ rw t fresh | inr f ↦ rw f refl ]
held_more (x ∷ hs) h q fresh = elim (cases_Bool (bytes_eq (string_bytes x.path) q)) [ inl t ↦ rw t refl | inr f ↦ rw f (held_more hs h q fresh) ]

pub held_pushed : (hs new : List HeldTables) (h : HeldTables) (q : List ℕ) → new ≡ hs ++ h ∷ [] → h.stored ≡ fresh_stored → held_at new q ≡ held_at hs q
held_pushed hs new h q is fresh = ap (λ (l : List HeldTables). held_at l q) is ∙ held_more hs h q fresh

-- the first that has the path
pub held_here : (hs : List HeldTables) (i : ℕ) (d : HeldTables) (q : List ℕ) → i < length hs → bytes_eq (string_bytes (get_or hs i d).path) q ≡ true → held_at (drop i hs) q ≡ (get_or hs i d).stored
held_here [] i d q within e = absurd (omega arith)
held_here (h ∷ hs) zero d q within e = rw e refl
held_here (h ∷ hs) (suc i) d q within e = held_here hs i d q (omega arith) e
