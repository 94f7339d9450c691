use Rattle.std.proofs.Common.{◌≡◌, ◌+◌, refl, ap, ◌∙◌, List, [], ◌∷◌, length, drop, rules, arith}
use Rattle.std.proofs.lemmas.Grind.{common_steps}
use Rattle.std.specs.Vec.Iter.{into_iter_items}
use Rattle.value_core.specs.declared.value.Value.{Value}
use Rattle.value_core.specs.Parts.{items_in, text_in}
use Rattle.term_core.specs.declared.gathering.Collected.TheVariants as collected
use Rattle.term_core.specs.declared.lookup.OpKind.TheVariants as kind
use Rattle.term_core.specs.declared.context.Binding.{Binding}
use Rattle.term_core.specs.Evaluation.{Context, bind, eval, items_run, looked_up, all_run, bind_run, build_run, gate_run, list_run, map_run, outcome_run, output_run, pair_run, triple_of}
use Rattle.term_core.specs.Gathering.{made_by}
use Rattle.term_core.specs.States.{applied_state, caught, mapped, observed, paired}
use Rattle.term_core.specs.Runs.{follow, follow_both}
use Rattle.term_core.specs.Views.{context_in, value_for}
use Rattle.term_core.proofs.Evaluating.{eval_all_is}
use Rattle.term_core.proofs.Resumes.{if_ok, runs_as, same_within, mapped_runs, visited_runs, turned_runs, pair_runs, gate_runs, then_runs, then_both_runs, stated_runs, untimed, resumes_step, resumes_same, resumes_last}
use Rattle.term_core.proofs.evaluation.Evaluator.+evaluation.Goals as goal

length-zero : {A : Type 0} (xs : List A) → length xs ≡ 0 → xs ≡ []
length-zero [] e = refl
length-zero (x ∷ xs) e = absurd (omega arith)

pub term-returns-in-All-clause-run : goal.term-returns-in-All-clause-run
term-returns-in-All-clause-run g t c = rw (c.in-All.is, eval_all_is, ← c.as_slice-in-All.ensures) c.all.ensures.run

pub pair-returns-clause-run : goal.pair-returns-clause-run
unfolding pair_run
pair-returns-clause-run g t c =
    let f = c.in_ok-first.ensures.run in
    let h = runs_as (same_within g.E.Entries.world (λ x. eval x c.args.b.now) c.args.self.now _ _ f.wanted) c.in_ok-second.ensures.run in
    if_ok c.pair_state.result (λ s is. visited_runs c.tick.ensures (pair_runs (paired c.args.self.now.context.node) f h is)) c.pair_state.ensures

pub gate-returns-clause-run : goal.gate-returns-clause-run
unfolding gate_run
gate-returns-clause-run g t c =
    let f = c.in_ok-on.ensures.run in
    let h = runs_as (same_within g.E.Entries.world (λ x. eval x c.args.term.now) c.args.self.now _ _ f.wanted) c.in_ok-state.ensures.run in
    visited_runs c.tick.ensures (gate_runs c.gated_state.ensures f h)

pub outcome-returns-then-observes-clause-run : goal.outcome-returns-then-observes-clause-run
unfolding outcome_run
outcome-returns-then-observes-clause-run g t c =
    rw c.if-observes.true (if_ok c.observed_state.result (λ s is. visited_runs c.tick.ensures (turned_runs observed is c.in_ok-state.ensures.run)) c.observed_state.ensures)

pub outcome-returns-else-observes-clause-run : goal.outcome-returns-else-observes-clause-run
unfolding outcome_run
outcome-returns-else-observes-clause-run g t c =
    rw c.if-observes.false (if_ok c.caught_state.result (λ s is. visited_runs c.tick.ensures (turned_runs caught is c.in_ok-state.ensures.run)) c.caught_state.ensures)

pub map-returns-in_ok-applied-in-Fine-clause-run : goal.map-returns-in_ok-applied-in-Fine-clause-run
unfolding map_run
map-returns-in_ok-applied-in-Fine-clause-run g t c =
    let f = rw c.in-Fine.is at c.in_ok-value.ensures.run in
    let node = c.args.self.now.context.node in
    mapped_runs (mapped node c.args.fun) c.in_ok-applied-in-Fine.ensures.ticks (c.state_of_applied.ensures ∙ ap (applied_state node) c.in_ok-applied-in-Fine.ensures.value) f

pub map-returns-in-Failed-clause-run : goal.map-returns-in-Failed-clause-run
unfolding map_run
map-returns-in-Failed-clause-run g t c =
    let f = rw c.in-Failed.is at c.in_ok-value.ensures.run in mapped_runs (mapped c.args.self.now.context.node c.args.fun) c.tick.ensures refl f

pub map-returns-in-Active-clause-run : goal.map-returns-in-Active-clause-run
unfolding map_run
map-returns-in-Active-clause-run g t c =
    let f = rw c.in-Active.is at c.in_ok-value.ensures.run in mapped_runs (mapped c.args.self.now.context.node c.args.fun) c.tick-in-Active.ensures refl f

pub bind-returns-in-Fine-clause-run : goal.bind-returns-in-Fine-clause-run
unfolding bind_run
bind-returns-in-Fine-clause-run g t c =
    let f = rw c.in-Fine.is at c.in_ok-value.ensures.run in
    let body = λ (x : Context) (v : Value) (bound : List Binding). eval x c.args.body.term.now (bind bound c.args.body.name.now v) in
    let next = λ (v : Value). body (context_in g.E.Entries.world c.args.self.now.context) v c.args.self.now.bound in
    if_ok c.under.result (λ s h. visited_runs c.tick.ensures (then_runs next f (runs_as (same_within g.E.Entries.world (λ x. body x c.in-Fine.value) c.args.self.now _ _ f.wanted) h))) c.under.ensures.run

pub bind-returns-in-Failed-clause-run : goal.bind-returns-in-Failed-clause-run
unfolding bind_run
bind-returns-in-Failed-clause-run g t c =
    let f = rw c.in-Failed.is at c.in_ok-value.ensures.run in
    visited_runs c.tick.ensures (then_runs _ f (stated_runs _ _ _))

pub bind-returns-in-Active-clause-run : goal.bind-returns-in-Active-clause-run
unfolding bind_run
bind-returns-in-Active-clause-run g t c =
    let f = rw c.in-Active.is at c.in_ok-value.ensures.run in
    visited_runs c.tick.ensures (then_runs _ f (stated_runs _ _ _))

pub list-returns-in-Fine-clause-run : goal.list-returns-in-Fine-clause-run
unfolding list_run
list-returns-in-Fine-clause-run g t c =
    let f = rw c.in-Fine.is at c.in_ok-value.ensures.run in
    let items = λ (x : Context) (v : Value). items_run (made_by c.args.collected x.node) c.args.body.name.now (items_in v) (eval x c.args.body.term.now) in
    let next = λ (v : Value). items (context_in g.E.Entries.world c.args.self.now.context) v c.args.self.now.bound in
    if_ok c.items.result (λ s h. visited_runs c.tick.ensures (then_runs next f (runs_as (same_within g.E.Entries.world (λ x. items x c.in-Fine.value) c.args.self.now _ _ f.wanted) h))) (rw c.items_of.ensures at c.items.ensures.run)

pub list-returns-in-Failed-clause-run : goal.list-returns-in-Failed-clause-run
unfolding list_run
list-returns-in-Failed-clause-run g t c =
    let f = rw c.in-Failed.is at c.in_ok-value.ensures.run in
    visited_runs c.tick.ensures (then_runs _ f (stated_runs _ _ _))

pub list-returns-in-Active-clause-run : goal.list-returns-in-Active-clause-run
unfolding list_run
list-returns-in-Active-clause-run g t c =
    let f = rw c.in-Active.is at c.in_ok-value.ensures.run in
    visited_runs c.tick.ensures (then_runs _ f (stated_runs _ _ _))

pub build-returns-clause-run : goal.build-returns-clause-run
unfolding build_run
build-returns-clause-run g t c =
    let f = c.in_ok-key.ensures.run in
    let next = λ (x : Context) (k : Value). looked_up x (value_for kind.Build) (triple_of x c.args.op.now (text_in k) []) in
    if_ok c.look_up_build.result (λ s h.
    let k = runs_as (same_within g.E.Entries.world (λ x (_ : List Binding). follow c.in_ok-key.key (next x)) c.args.self.now _ _ f.wanted) h in
    visited_runs c.tick.ensures (then_runs (next (context_in g.E.Entries.world c.args.self.now.context)) f (untimed _ k))) c.look_up_build.ensures

pub output-returns-clause-run : goal.output-returns-clause-run
unfolding output_run
output-returns-clause-run g t c =
    let f = c.in_ok-key.ensures.run in
    let h = runs_as (same_within g.E.Entries.world (λ x. eval x c.args.value.now) c.args.self.now _ _ f.wanted) c.in_ok-value.ensures.run in
    let next = λ (x : Context) (k v : Value). looked_up x (value_for kind.Output) (triple_of x c.args.op.now (text_in k) (text_in v)) in
    let both = λ (x : Context) (_ : List Binding). follow_both c.in_ok-key.key c.in_ok-value.value (next x) in
    if_ok c.look_up_output.result (λ s k.
    let same = same_within g.E.Entries.world both c.term.new.self c.term-2.new.self _ h.wanted ∙ same_within g.E.Entries.world both c.args.self.now c.term.new.self _ f.wanted in
    visited_runs c.tick.ensures (then_both_runs (next (context_in g.E.Entries.world c.args.self.now.context)) f h (untimed _ (runs_as same k)))) c.look_up_output.ensures

pub all-returns-clause-run : goal.all-returns-clause-run
unfolding all_run
all-returns-clause-run g t c =
    let none : drop c.loop-part.part-index c.args.terms.now ≡ [] = grind (arith, common_steps) in
    let all = rw none at c.loop-part.invariant.resumes in
    if_ok c.finish.result (λ s is. visited_runs c.tick.ensures (resumes_last (made_by collected.Unit c.args.self.now.context.node) all is)) c.finish.ensures

pub all-loop-part-preserved : goal.all-loop-part-preserved
all-loop-part-preserved g t c =
    let cons : drop c.loop-part.part-index c.args.terms.now ≡ c.part-item.result ∷ drop (c.loop-part.part-index + 1) c.args.terms.now = grind (arith, common_steps) in
    let left = rw cons at c.loop-part.invariant.resumes in
    let run = runs_as (resumes_same g.E.Entries.world (λ x. eval x c.part-item.result) c.loop-part.invariant.resumes) c.in_ok-state.ensures.run in
    record { not_fallen = omega arith; resumes = rw c.in_ok-add.ensures (resumes_step left run) }

pub items-returns-clause-run : goal.items-returns-clause-run
unfolding items_run
items-returns-clause-run g t c =
    let none : into_iter_items c.loop-item.item-iterator ≡ [] = length-zero _ (omega (arith, c.in-None.ensures.steps.0, c.loop-item.item-iterator.rest.ok.0)) in
    let left = rw none at c.loop-item.invariant.resumes in
    let items : into_iter_items c.into_iter-item-iterator.result ≡ c.args.items = search rules in
    let all = rw items at left in
    if_ok c.finish.result (λ s is. resumes_last (made_by c.args.collected c.args.self.now.context.node) all is) c.finish.ensures

pub items-loop-item-preserved : goal.items-loop-item-preserved
items-loop-item-preserved g t c =
    let cons : into_iter_items c.loop-item.item-iterator ≡ c.in-Some.item ∷ into_iter_items c.next.new.self = search rules in
    let left = rw cons at c.loop-item.invariant.resumes in
    let body = λ (x : Context) (bound : List Binding). eval x c.args.body.term.now (bind bound c.args.body.name.now c.in-Some.item) in
    let run = runs_as (resumes_same g.E.Entries.world body c.loop-item.invariant.resumes) c.in_ok-state.ensures.run in
    record { can_next = tt; is_finite = tt; not_fallen = omega arith; resumes = rw c.in_ok-add.ensures (resumes_step left run) }
