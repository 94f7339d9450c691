use Rattle.std.proofs.Common.{ℕ, length, sym, subst, ap, ◌∙◌}
use Rattle.std.proofs.lemmas.Bool.{le-ltb}
use Rattle.value_core.specs.declared.state.Triple.{Triple}
use Rattle.value_core.specs.Orders.{same_triple}
use Rattle.term_core.specs.Counts.{is_wanted}
use Rattle.job_core.specs.Walks.{is_before, wants_passed}
use Rattle.job_core.specs.Wants.{TriplesRise, triples_in}
use Rattle.job_core.proofs.Walks.{walk_ends, walk_on}
use Rattle.job_core.proofs.Wanted.{wanted_here, wanted_past}
use Rattle.job_core.proofs.wants.WantsWalk.has.Goals as goal

pub loop-self-preserved : goal.loop-self-preserved
loop-self-preserved c = record {
  wants = c.loop-self.invariant.wants;
  passed = walk_on (is_before c.args.triple.now) (triples_in c.loop-self.self.wants.now) c.loop-self.self.passed c.loop-self.invariant.passed (sym c.is_past.ensures ∙ c.loop-self-test.true);
}

pub returns-then-self-clause-passed : goal.returns-then-self-clause-passed
returns-then-self-clause-passed c =
    walk_ends (is_before c.args.triple.now) (triples_in c.loop-self.self.wants.now) c.loop-self.self.passed c.loop-self.invariant.passed (sym c.is_past.ensures ∙ c.loop-self-test.false)
    ∙ ap (λ w. wants_passed c.args.triple.now (triples_in w.now)) c.loop-self.invariant.wants

pub returns-else-self-clause-passed : goal.returns-else-self-clause-passed
returns-else-self-clause-passed c =
    walk_ends (is_before c.args.triple.now) (triples_in c.loop-self.self.wants.now) c.loop-self.self.passed c.loop-self.invariant.passed (sym c.is_past.ensures ∙ c.loop-self-test.false)
    ∙ ap (λ w. wants_passed c.args.triple.now (triples_in w.now)) c.loop-self.invariant.wants

pub returns-then-self-clause-wanted : goal.returns-then-self-clause-wanted
returns-then-self-clause-wanted c =
    let ws = c.loop-self.self.wants.now in
    let at = walk_ends (is_before c.args.triple.now) (triples_in ws) c.loop-self.self.passed c.loop-self.invariant.passed (sym c.is_past.ensures ∙ c.loop-self-test.false) in
    let r = subst (λ w. TriplesRise (triples_in w.now)) (sym c.loop-self.invariant.wants) c.requires.rising in
    c.is_same.ensures ∙ ap (λ (w : Triple × ℕ). same_triple w.0 c.args.triple.now) (sym c.index-self-self.is)
    ∙ wanted_here ws c.args.triple.now c.loop-self.self.passed c.index-self-self.result r at c.if-self.true c.index-self-self.is
    ∙ ap (λ w. is_wanted (triples_in w.now) c.args.triple.now) c.loop-self.invariant.wants

pub returns-else-self-clause-wanted : goal.returns-else-self-clause-wanted
returns-else-self-clause-wanted c =
    let ws = c.loop-self.self.wants.now in
    let at = walk_ends (is_before c.args.triple.now) (triples_in ws) c.loop-self.self.passed c.loop-self.invariant.passed (sym c.is_past.ensures ∙ c.loop-self-test.false) in
    let r = subst (λ w. TriplesRise (triples_in w.now)) (sym c.loop-self.invariant.wants) c.requires.rising in
    le-ltb c.loop-self.self.passed (length ws) c.if-self.false
    ∙ wanted_past ws c.args.triple.now c.loop-self.self.passed r at c.if-self.false
    ∙ ap (λ w. is_wanted (triples_in w.now) c.args.triple.now) c.loop-self.invariant.wants
