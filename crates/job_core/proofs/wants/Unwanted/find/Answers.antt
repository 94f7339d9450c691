use Rattle.std.proofs.Common.{◌≡◌, ◌+◌, ◌≤◌, ◌++◌, [], suc, drop, not, Some, None, sym, subst, ap, ◌∙◌, arith}
use Rattle.std.specs.Prelude.{slice_get}
use Rattle.std.specs.List.Sorted.{IsPermutation}
use Rattle.fair_pool.proofs.Ordered.{length_in_order}
use Rattle.core_rules.specs.Settling.{stays}
use Rattle.core_rules.specs.declared.jobs.Job.{Job}
use Rattle.term_core.specs.Counts.{is_wanted}
use Rattle.job_core.specs.Keys.{by_keys, key_before}
use Rattle.job_core.specs.Walks.{wants_passed}
use Rattle.job_core.specs.Wants.{TriplesRise, drops_of, is_lost_by, lost_of, triples_in}
use Rattle.job_core.proofs.Merging.{ahead_next, append_none, drop_all, drops_one, found_over, found_step, get_some, lost_one, no_drop, no_loss}
use Rattle.job_core.proofs.SortedNumbers.{sorted_numbers}
use Rattle.job_core.proofs.Walks.{IsAhead}
use Rattle.job_core.proofs.wants.Unwanted.find.Goals as goal
use Rattle.job_core.proofs.wants.Unwanted.find.Goals.{in-Some+else-not-has, in-Some+then-not-has+in_ok-add, in_default}

pub has-requires-clause-rising : goal.has-requires-clause-rising
has-requires-clause-rising c = subst (λ w. TriplesRise (triples_in w)) (sym c.loop-rank.invariant.wants) c.requires

pub has-requires-clause-later : goal.has-requires-clause-later
has-requires-clause-later c =
    let inv = c.loop-rank.invariant in
    subst (λ w. c.loop-rank.walk.passed ≤ wants_passed c.in-Some.job.now.triple (triples_in w)) (sym inv.wants)
    (subst (IsAhead (triples_in c.args.wants.now) c.loop-rank.walk.passed) (sym c.in-Some.ensures.job) inv.ahead)

pub loop-rank-preserved : goal.loop-rank-preserved
loop-rank-preserved c =
    let ws = triples_in c.args.wants.now in
    let js = c.args.live.now.jobs in
    let ks = by_keys js in
    let i = c.loop-rank.rank in
    let next : i + 1 ≡ suc i = omega arith in
    let inv = c.loop-rank.invariant in
    let n = length_in_order key_before js in
    elim c.match-in_keys.branch [
      | in-Some+then-not-has+in_ok-add b ↦
          let j : Job = b.in-Some.job.now in
          let here : slice_get ks i ≡ Some j = sym b.in-Some.ensures.job in
          let passed : b.has.new.self.passed ≡ wants_passed j.triple ws = b.has.ensures.passed ∙ ap (λ w. wants_passed j.triple (triples_in w)) inv.wants in
          let no : is_wanted ws j.triple ≡ _ = ap (λ w. is_wanted (triples_in w) j.triple) (sym inv.wants) ∙ sym b.has.ensures.wanted ∙ b.if-not-has.true in
          record {
            wants = ap (λ w. w.wants.now) b.walk-is ∙ ap (λ w. w.now) b.has.ensures.wants ∙ inv.wants;
            ahead = subst (λ w. IsAhead ws w.passed (slice_get ks (i + 1))) (sym b.walk-is) (ahead_next ws js i (i + 1) j b.has.new.self.passed next c.len-rank-end.ensures.one_each here passed);
            drops = ap (λ u. u.drops.items ++ drops_of ws (drop (i + 1) ks)) b.unwanted-is ∙ ap (λ ns. ns ++ drops_of ws (drop (i + 1) ks)) b.in_ok-add.ensures.drops
                ∙ found_step (λ k. not (stays ws k)) ks i (i + 1) j next here c.loop-rank.unwanted.drops.items inv.drops _ (drops_one ws j no);
            lost = ap (λ u. u.lost.items ++ lost_of ws c.args.ops.now (drop (i + 1) ks)) b.unwanted-is ∙ ap (λ ns. ns ++ lost_of ws c.args.ops.now (drop (i + 1) ks)) b.in_ok-add.ensures.lost
                ∙ found_step (is_lost_by ws c.args.ops.now) ks i (i + 1) j next here c.loop-rank.unwanted.lost.items inv.lost _ (lost_one ws c.args.ops.now j no);
          }
      | in-Some+else-not-has b ↦
          let j : Job = b.in-Some.job.now in
          let here : slice_get ks i ≡ Some j = sym b.in-Some.ensures.job in
          let passed : b.has.new.self.passed ≡ wants_passed j.triple ws = b.has.ensures.passed ∙ ap (λ w. wants_passed j.triple (triples_in w)) inv.wants in
          let yes : is_wanted ws j.triple ≡ _ = ap (λ w. is_wanted (triples_in w) j.triple) (sym inv.wants) ∙ sym b.has.ensures.wanted ∙ b.if-not-has.false in
          record {
            wants = ap (λ w. w.wants.now) b.walk-is ∙ ap (λ w. w.now) b.has.ensures.wants ∙ inv.wants;
            ahead = subst (λ w. IsAhead ws w.passed (slice_get ks (i + 1))) (sym b.walk-is) (ahead_next ws js i (i + 1) j b.has.new.self.passed next c.len-rank-end.ensures.one_each here passed);
            drops = ap (λ u. u.drops.items ++ drops_of ws (drop (i + 1) ks)) b.unwanted-is
                ∙ found_over (λ k. not (stays ws k)) ks i (i + 1) j next here c.loop-rank.unwanted.drops.items inv.drops (no_drop ws j yes);
            lost = ap (λ u. u.lost.items ++ lost_of ws c.args.ops.now (drop (i + 1) ks)) b.unwanted-is
                ∙ found_over (is_lost_by ws c.args.ops.now) ks i (i + 1) j next here c.loop-rank.unwanted.lost.items inv.lost (no_loss ws c.args.ops.now j yes);
          }
      | in_default b ↦
          let h = get_some ks i (omega (arith, c.loop-rank-test.true, c.len-rank-end.ensures.len)) in
          let e : None ≡ Some h.0 = b.in_default.ensures.job ∙ h.1 in
          let z : ⊥ = cc in absurd z
    ]

pub returns : goal.returns
returns c =
    let ws = triples_in c.args.wants.now in
    let js = c.args.live.now.jobs in
    let ks = by_keys js in
    let inv = c.loop-rank.invariant in
    let n = length_in_order key_before js in
    let none : drop c.loop-rank.rank ks ≡ [] = drop_all ks c.loop-rank.rank (omega (arith, c.loop-rank-test.false, c.len-rank-end.ensures.len)) in
    let drops : c.loop-rank.unwanted.drops.items ≡ drops_of ws ks =
    sym (ap (λ us. c.loop-rank.unwanted.drops.items ++ drops_of ws us) none ∙ append_none c.loop-rank.unwanted.drops.items) ∙ inv.drops in
    let lost : c.loop-rank.unwanted.lost.items ≡ lost_of ws c.args.ops.now ks =
    sym (ap (λ us. c.loop-rank.unwanted.lost.items ++ lost_of ws c.args.ops.now us) none ∙ append_none c.loop-rank.unwanted.lost.items) ∙ inv.lost in
    record {
      drops = sorted_numbers (λ j. not (stays ws j)) js c.sort_unstable.new.self.items c.len-rank-end.ensures.rising (subst (λ ns. IsPermutation ns c.sort_unstable.new.self.items) drops c.sort_unstable.ensures.permutation) c.sort_unstable.ensures.sorted;
      lost = sorted_numbers (is_lost_by ws c.args.ops.now) js c.sort_unstable-2.new.self.items c.len-rank-end.ensures.rising (subst (λ ns. IsPermutation ns c.sort_unstable-2.new.self.items) lost c.sort_unstable-2.ensures.permutation) c.sort_unstable-2.ensures.sorted;
    }
