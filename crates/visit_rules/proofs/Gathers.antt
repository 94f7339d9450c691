-- What a tree wants, told by its parts and bodies in order.
use Rattle.std.proofs.Common.{◌≡◌, ℕ, zero, suc, ◌+◌, List, [], ◌∷◌, ◌++◌, map, drop, slice_get, Some, refl, ap, ◌∙◌, add-one}
use Rattle.std.specs.List.{flat_map}
use Rattle.value_core.specs.declared.state.Triple.{Triple}
use Rattle.visit_rules.specs.Visits.{read_wants, wants_of, wants_step}
use Rattle.visit_rules.specs.declared.visit.Visit.{Visit}
use Rattle.visit_rules.specs.declared.visit.Visit.TheViews.{out-Visit}
use Rattle.visit_rules.specs.declared.visit.Visit.TheFolds.{fold_out-Visit}

joined : (vs : List Visit) → flat_map (λ w. w) (map wants_of vs) ≡ flat_map wants_of vs
joined [] = refl
joined (v ∷ vs) = ap (λ (ws : List Triple). wants_of v ++ ws) (joined vs)

pub wants_is : (v : Visit) → wants_of v ≡ flat_map wants_of (out-Visit v).parts ++ (flat_map wants_of (out-Visit v).bodies ++ read_wants (out-Visit v).read)
wants_is v = fold_out-Visit (List Triple) wants_step v ∙ rw (joined (out-Visit v).parts, joined (out-Visit v).bodies) refl

wants_next : (vs : List Visit) (i : ℕ) (v : Visit) → slice_get vs i ≡ Some v → flat_map wants_of (drop i vs) ≡ wants_of v ++ flat_map wants_of (drop (suc i) vs)
wants_next [] i v e = absurd cc
wants_next (w ∷ vs) zero v e = let h : w ≡ v = cc in ap (λ (x : Visit). wants_of x ++ flat_map wants_of vs) h
wants_next (w ∷ vs) (suc i) v e = wants_next vs i v e

pub wants_at : (vs : List Visit) (i : ℕ) (v : Visit) → slice_get vs i ≡ Some v → flat_map wants_of (drop i vs) ≡ wants_of v ++ flat_map wants_of (drop (i + 1) vs)
wants_at vs i v e = rw add-one (wants_next vs i v e)
