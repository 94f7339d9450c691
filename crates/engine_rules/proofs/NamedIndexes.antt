-- Where no two names are equal, a name's place is the one place where it stands.
use Rattle.std.proofs.Common.{◌≡◌, ℕ, zero, suc, ◌+◌, ◌<◌, true, false, cond, ◌||◌, List, [], ◌∷◌, map, length, Some, None, refl, ap, sym, ◌∙◌, arith}
use Rattle.std.proofs.lemmas.Bool.{and_parts, lt-ltb}
use Rattle.std.specs.Prelude.{not, slice_get, if◌then◌else◌}
use Rattle.std.specs.List.{list_any}
use Rattle.std.specs.Str.{bytes_eq}
use Rattle.std.specs.Cmp.Lexicographic.{bytes_decides}
use Rattle.op_keys.specs.Names.{are_apart, index_named}
use Rattle.fair_pool.specs.Layouts.{declared}

-- a name that stands somewhere is one of them
stands : {D : Type 0} (name : D → List ℕ) (ds : List D) (k : ℕ) (d : D) (n : List ℕ) → slice_get ds k ≡ Some d → bytes_eq n (name d) ≡ true → list_any (bytes_eq n) (map name ds) ≡ true
stands name [] k d n e f = let z : ⊥ = cc in absurd z
stands name (x ∷ ds) zero d n e f =
    let same : x ≡ d = cc in
    ap (λ y. bytes_eq n (name y) || list_any (bytes_eq n) (map name ds)) same ∙ ap (λ b. b || list_any (bytes_eq n) (map name ds)) f
stands name (x ∷ ds) (suc k) d n e f = elim (bytes_eq n (name x)) as (λ b. (b || list_any (bytes_eq n) (map name ds)) ≡ true) [
  | true ↦ refl
  | false ↦ stands name ds k d n e f
]

pub index_own : {D : Type 0} (name : D → List ℕ) (at : ℕ) (ds : List D) (k : ℕ) (d : D) → are_apart (map name ds) ≡ true → slice_get ds k ≡ Some d → index_named at (map name ds) (name d) ≡ at + k
index_own name at [] k d a e = let z : ⊥ = cc in absurd z
index_own name at (x ∷ ds) zero d a e =
    let same : x ≡ d = cc in
    let is : bytes_eq (name x) (name d) ≡ true = (bytes_decides (name x) (name d)).1 (ap name same) in
    ap (λ b. cond b at (index_named (at + 1) (map name ds) (name d))) is ∙ omega arith
index_own name at (x ∷ ds) (suc k) d a e =
    let parts = and_parts (not (list_any (bytes_eq (name x)) (map name ds))) (are_apart (map name ds)) a in
    elim (bytes_eq (name x) (name d)) as (λ b. bytes_eq (name x) (name d) ≡ b → cond b at (index_named (at + 1) (map name ds) (name d)) ≡ at + suc k) [
      | true ↦ λ is.
          let h : list_any (bytes_eq (name x)) (map name ds) ≡ true = stands name ds k d (name x) e is in
          let z : false ≡ true = ap not (sym h) ∙ parts.0 in
          let w : ⊥ = cc in absurd w
      | false ↦ λ is. index_own name (at + 1) ds k d parts.1 e ∙ omega arith
    ] refl

within : {D : Type 0} (ds : List D) (k : ℕ) (d : D) → slice_get ds k ≡ Some d → k < length ds
within [] k d e = let z : ⊥ = cc in absurd z
within (x ∷ ds) zero d e = omega arith
within (x ∷ ds) (suc k) d e = let h = within ds k d e in omega (arith, h)

-- and it is declared there
pub declared_own : {D : Type 0} (name : D → List ℕ) (ds : List D) (k : ℕ) (d : D) → are_apart (map name ds) ≡ true → slice_get ds k ≡ Some d → declared (length ds) (index_named 0 (map name ds) (name d)) ≡ Some k
declared_own name ds k d a e =
    let p : index_named 0 (map name ds) (name d) ≡ k = index_own name 0 ds k d a e ∙ omega arith in
    ap (declared (length ds)) p ∙ ap (λ b. if b then Some k else None) (lt-ltb k (length ds) (within ds k d e))
