-- Versions that rise.
use Rattle.std.proofs.Common.{◌≡◌, ℕ, ◌+◌, ◌<◌, ◌≤◌, List, [], ◌∷◌, ◌++◌, subst, sym, arith}
use Rattle.std.specs.declared.option.Option.{Option}
use Rattle.std.specs.declared.option.Option.TheVariants.{None, Some}
use mathlib.Core.List.{IsPrefix}
use Rattle.std.specs.List.{All}
use Rattle.value_core.specs.declared.state.Published.{Published}
use Rattle.snap_read.specs.Lists.{AreAbove, AreBelow, AreRising, EndsWith, IsBelow, IsLast, with_next}
use Rattle.snap_read.proofs.Fronts.{last_passes}

above_more : (v : ℕ) (ps : List Published) (p : Published) → AreAbove v ps → v < p.version → AreAbove v (ps ++ p ∷ [])
above_more v [] p h k = (k, tt)
above_more v (q ∷ ps) p h k = (h.0, above_more v ps p h.1 k)

-- one more, above all
pub rising_more : (ps : List Published) (p : Published) → AreRising ps → AreBelow p.version ps → AreRising (ps ++ p ∷ [])
rising_more [] p h k = (tt, tt)
rising_more (q ∷ ps) p h k = (above_more q.version ps p h.0 k.0, rising_more ps p h.1 k.1)

above_last : (v : ℕ) (ps : List Published) (p : Published) → AreAbove v (ps ++ p ∷ []) → v < p.version
above_last v [] p h = h.0
above_last v (q ∷ ps) p h = above_last v ps p h.1

below_last : (ps : List Published) (p : Published) → AreRising (ps ++ p ∷ []) → AreBelow (p.version + 1) (ps ++ p ∷ [])
below_last [] p h = (omega arith, tt)
below_last (q ∷ ps) p h = (omega (arith, above_last q.version ps p h.0), below_last ps p h.1)

-- the last of states that pass the test, with rising versions
pub is_last : (test : Published → Type 0) (ps : List Published) (p : Published) → All test ps → AreRising ps → EndsWith ps p → IsLast test ps p
is_last test ps p all rising ends = record {
  ends = ends;
  newest = subst (AreBelow (p.version + 1)) (sym ends.1) (below_last ends.0 p (subst AreRising ends.1 rising));
  passes = last_passes test ps ends.0 p all ends.1;
}

-- what is below a version is below a greater one
pub below_next : (v w : ℕ) (ps : List Published) → v < w + 1 → AreBelow v ps → AreBelow w ps
below_next v w [] le h = tt
below_next v w (p ∷ ps) le h = (omega (arith, h.0), below_next v w ps le h.1)

-- one more version below
pub below_more : (v : ℕ) (ps : List Published) (p : Published) → AreBelow v ps → p.version < v → AreBelow v (ps ++ p ∷ [])
below_more v [] p h k = (k, tt)
below_more v (q ∷ ps) p h k = (h.0, below_more v ps p h.1 k)

-- with the state of this version at its end, all are below the next version
pub below_added : (v : ℕ) (before after : Option (List Published)) (p : Published) → IsBelow before v → p.version ≡ v → after ≡ with_next before p → IsBelow after (v + 1)
below_added v None after p h is added = subst (λ (o : Option (List Published)). IsBelow o (v + 1)) (sym added) tt
below_added v (Some ps) after p h is added =
    subst (λ (o : Option (List Published)). IsBelow o (v + 1)) (sym added) (below_more (v + 1) ps p (below_next v (v + 1) ps (omega arith) h) (omega (arith, is)))

last_below : (v : ℕ) (ps rest : List Published) (p : Published) → AreBelow v ((ps ++ p ∷ []) ++ rest) → p.version < v
last_below v [] rest p h = h.0
last_below v (q ∷ ps) rest p h = last_below v ps rest p h.1

-- who learnt of a list that ends with this version reads none below it
pub read_after : (v : ℕ) (test : Published → Type 0) (before seen : List Published) (next p : Published) → next.version ≡ v → IsPrefix (before ++ next ∷ []) seen → IsLast test seen p → v ≤ p.version
read_after v test before seen next p is pre last =
    omega (arith, is, last_below (p.version + 1) before pre.0 next (subst (AreBelow (p.version + 1)) (sym pre.1) last.newest))
