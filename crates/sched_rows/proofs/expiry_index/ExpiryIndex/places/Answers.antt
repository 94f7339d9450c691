use Rattle.std.proofs.Common.{ap, subst, List, ℕ}
use Rattle.std.proofs.lemmas.List.Sorted.{IsNonDecreasingBy-from_sort}
use Rattle.std.specs.List.Sorted.{IsPermutation}
use Rattle.sched_rows.proofs.EndSets.{places_are}
use Rattle.sched_rows.proofs.expiry_index.ExpiryIndex.places.Goals as goal

pub returns-clause-rising : goal.returns-clause-rising
returns-clause-rising c = IsNonDecreasingBy-from_sort (λ n. n) c.sort_unstable.new.self.items c.sort_unstable.ensures.sorted

pub returns-clause-within : goal.returns-clause-within
returns-clause-within c =
    let found = places_are c.self.inside.ends.items c.as_slice-ends.result.now c.args.self.now.set c.args.after c.args.upto c.count_upto-start.result c.in_ok-places.places.items
    (ap (λ e. e.set) c.self.view_is) c.self.invariant c.as_slice-ends.ensures.value c.count_upto-start.ensures.point c.in_ok-places.ensures in
    subst (λ (ps : List ℕ). IsPermutation ps c.sort_unstable.new.self.items) found c.sort_unstable.ensures.permutation
