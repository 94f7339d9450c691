use Rattle.std.proofs.Common.{◌≡◌, length, ap, sym, ◌∙◌, subst, arith, rules}
use Rattle.term_core.specs.Soundness.{IsSound}
use Rattle.term_core.specs.declared.program.Program.{Program}
use Rattle.core_rules.specs.Openings.{start}
use Rattle.core_rules.specs.declared.events.Refusal.{Refusal}
use Rattle.core_rules.specs.declared.events.Refusal.TheVariants as refusal
use Rattle.engine_core.specs.Answers.{IsUnopened}
use Rattle.engine_core.proofs.Evaluating.{failed_err, failed_ok}
use Rattle.engine_core.proofs.Opened.{can_settle_first, first_kept, first_opening, nodes_opened, parts_opened, pieces_of, ticks_opened, unopened_memory, unopened_so}
use Rattle.engine_core.proofs.engine.Engine.open.Goals as goal

pub opened_parts-requires-clause-sound : goal.opened_parts-requires-clause-sound
opened_parts-requires-clause-sound g c =
    subst IsSound (sym c.program-program.ensures.program) c.program-program.ensures.sound

pub opened_parts-requires-clause-openable : goal.opened_parts-requires-clause-openable
opened_parts-requires-clause-openable g c =
    c.requires.openable

pub returns-in_err-begun-clause-opening : goal.returns-in_err-begun-clause-opening
returns-in_err-begun-clause-opening g c =
    failed_ok _ (λ (e : Refusal). e ≡ refusal.NoMemory) c.from_residual.result c.from_residual.ensures.1

pub returns-in_err-begun-clause-unopened : goal.returns-in_err-begun-clause-unopened
returns-in_err-begun-clause-unopened g c =
    failed_err (λ (e : Refusal). e ≡ refusal.NoMemory) (IsUnopened (start c.args.checked c.args.durable c.args.threshold c.args.at)) c.from_residual.result (unopened_memory (start c.args.checked c.args.durable c.args.threshold c.args.at)) c.from_residual.ensures.1

pub returns-in_err-begun-clause-ticks : goal.returns-in_err-begun-clause-ticks
returns-in_err-begun-clause-ticks g c =
    failed_ok _ (λ (e : Refusal). e ≡ refusal.NoMemory) c.from_residual.result c.from_residual.ensures.1

pub returns-in_err-begun-clause-not_fallen : goal.returns-in_err-begun-clause-not_fallen
returns-in_err-begun-clause-not_fallen g c =
    omega arith

pub evaluate-requires : goal.evaluate-requires
evaluate-requires g c =
    let sound : IsSound c.program-program.result.now = subst IsSound (sym c.program-program.ensures.program) c.program-program.ensures.sound in
    parts_opened c.program-program.result.now c.args.durable c.args.threshold c.args.at c.in_ok-begun.begun c.in_ok-begun.ensures sound

pub returns-in_err-evaluation-clause-opening : goal.returns-in_err-evaluation-clause-opening
returns-in_err-evaluation-clause-opening g c =
    failed_ok _ (λ (e : Refusal). e ≡ refusal.NoMemory) c.from_residual-in_err-evaluation.result c.from_residual-in_err-evaluation.ensures.1

pub returns-in_err-evaluation-clause-unopened : goal.returns-in_err-evaluation-clause-unopened
returns-in_err-evaluation-clause-unopened g c =
    failed_err (λ (e : Refusal). e ≡ refusal.NoMemory) (IsUnopened (start c.args.checked c.args.durable c.args.threshold c.args.at)) c.from_residual-in_err-evaluation.result (unopened_memory (start c.args.checked c.args.durable c.args.threshold c.args.at)) c.from_residual-in_err-evaluation.ensures.1

pub returns-in_err-evaluation-clause-ticks : goal.returns-in_err-evaluation-clause-ticks
returns-in_err-evaluation-clause-ticks g c =
    failed_ok _ (λ (e : Refusal). e ≡ refusal.NoMemory) c.from_residual-in_err-evaluation.result c.from_residual-in_err-evaluation.ensures.1

pub returns-in_err-evaluation-clause-not_fallen : goal.returns-in_err-evaluation-clause-not_fallen
returns-in_err-evaluation-clause-not_fallen g c =
    c.evaluate.ensures.not_fallen

pub first_reply-requires-clause-nodes : goal.first_reply-requires-clause-nodes
first_reply-requires-clause-nodes g c =
    let is : c.program-program.result.now ≡ c.args.checked = search rules in
    let sound : IsSound c.program-program.result.now = subst IsSound (sym c.program-program.ensures.program) c.program-program.ensures.sound in
    let pieces = pieces_of c.program-program.result.now c.args.checked c.args.durable c.args.threshold c.args.at c.in_ok-begun.begun c.in_ok-evaluation.evaluation is sound c.requires.openable c.requires.proper c.in_ok-begun.ensures c.in_ok-evaluation.ensures.trees in
    c.len.ensures ∙ ap (λ (p : Program). length p.nodes) is ∙ sym (nodes_opened c.args.checked c.args.durable c.args.threshold c.args.at c.in_ok-begun.begun c.in_ok-evaluation.evaluation pieces)

pub first_reply-requires-clause-few : goal.first_reply-requires-clause-few
first_reply-requires-clause-few g c =
    let sound : IsSound c.program-program.result.now = subst IsSound (sym c.program-program.ensures.program) c.program-program.ensures.sound in
    let few = sound.within.few_nodes in
    omega (arith, c.len.ensures, few)

pub returns-in_err-first-clause-opening : goal.returns-in_err-first-clause-opening
returns-in_err-first-clause-opening g c =
    failed_ok _ (λ (e : Refusal). e ≡ refusal.NoMemory) c.from_residual-in_err-first.result c.from_residual-in_err-first.ensures.1

pub returns-in_err-first-clause-unopened : goal.returns-in_err-first-clause-unopened
returns-in_err-first-clause-unopened g c =
    failed_err (λ (e : Refusal). e ≡ refusal.NoMemory) (IsUnopened (start c.args.checked c.args.durable c.args.threshold c.args.at)) c.from_residual-in_err-first.result (unopened_memory (start c.args.checked c.args.durable c.args.threshold c.args.at)) c.from_residual-in_err-first.ensures.1

pub returns-in_err-first-clause-ticks : goal.returns-in_err-first-clause-ticks
returns-in_err-first-clause-ticks g c =
    failed_ok _ (λ (e : Refusal). e ≡ refusal.NoMemory) c.from_residual-in_err-first.result c.from_residual-in_err-first.ensures.1

pub returns-in_err-first-clause-not_fallen : goal.returns-in_err-first-clause-not_fallen
returns-in_err-first-clause-not_fallen g c =
    c.evaluate.ensures.not_fallen

pub settled-requires : goal.settled-requires
settled-requires g c =
    let is : c.program-program.result.now ≡ c.args.checked = search rules in
    let sound : IsSound c.program-program.result.now = subst IsSound (sym c.program-program.ensures.program) c.program-program.ensures.sound in
    let pieces = pieces_of c.program-program.result.now c.args.checked c.args.durable c.args.threshold c.args.at c.in_ok-begun.begun c.in_ok-evaluation.evaluation is sound c.requires.openable c.requires.proper c.in_ok-begun.ensures c.in_ok-evaluation.ensures.trees in
    can_settle_first c.args.checked c.args.durable c.args.threshold c.args.at c.in_ok-begun.begun c.in_ok-evaluation.evaluation pieces

pub returns-in_err-parts-clause-opening : goal.returns-in_err-parts-clause-opening
returns-in_err-parts-clause-opening g c =
    failed_ok _ (λ (e : Refusal). e ≡ c.in_err-parts.field-0.0) c.from_residual-in_err-parts.result c.from_residual-in_err-parts.ensures.1

pub returns-in_err-parts-clause-unopened : goal.returns-in_err-parts-clause-unopened
returns-in_err-parts-clause-unopened g c =
    let is : c.program-program.result.now ≡ c.args.checked = search rules in
    let sound : IsSound c.program-program.result.now = subst IsSound (sym c.program-program.ensures.program) c.program-program.ensures.sound in
    let pieces = pieces_of c.program-program.result.now c.args.checked c.args.durable c.args.threshold c.args.at c.in_ok-begun.begun c.in_ok-evaluation.evaluation is sound c.requires.openable c.requires.proper c.in_ok-begun.ensures c.in_ok-evaluation.ensures.trees in
    let unopened = unopened_so c.args.checked c.args.durable c.args.threshold c.args.at c.in_ok-begun.begun c.in_ok-evaluation.evaluation pieces c.in_err-parts.field-0.0 c.in_err-parts.ensures.unsettled in
    failed_err (λ (e : Refusal). e ≡ c.in_err-parts.field-0.0) (IsUnopened (start c.args.checked c.args.durable c.args.threshold c.args.at)) c.from_residual-in_err-parts.result (λ e same. subst (IsUnopened (start c.args.checked c.args.durable c.args.threshold c.args.at)) (sym same) unopened) c.from_residual-in_err-parts.ensures.1

pub returns-in_err-parts-clause-ticks : goal.returns-in_err-parts-clause-ticks
returns-in_err-parts-clause-ticks g c =
    failed_ok _ (λ (e : Refusal). e ≡ c.in_err-parts.field-0.0) c.from_residual-in_err-parts.result c.from_residual-in_err-parts.ensures.1

pub returns-in_err-parts-clause-not_fallen : goal.returns-in_err-parts-clause-not_fallen
returns-in_err-parts-clause-not_fallen g c =
    c.evaluate.ensures.not_fallen

pub same-checked : goal.same-checked
same-checked g c =
    search rules

pub same-evaluation : goal.same-evaluation
same-evaluation g c =
    search rules

pub first_engine-requires : goal.first_engine-requires
first_engine-requires g c =
    let is : c.program-program.result.now ≡ c.args.checked = search rules in
    let sound : IsSound c.program-program.result.now = subst IsSound (sym c.program-program.ensures.program) c.program-program.ensures.sound in
    let pieces = pieces_of c.program-program.result.now c.args.checked c.args.durable c.args.threshold c.args.at c.in_ok-begun.begun c.in_ok-evaluation.evaluation is sound c.requires.openable c.requires.proper c.in_ok-begun.ensures c.in_ok-evaluation.ensures.trees in
    first_kept c.args.checked c.args.durable c.args.threshold c.args.at c.in_ok-begun.begun c.in_ok-evaluation.evaluation pieces c.in_ok-parts.parts c.in_ok-parts.ensures.settled

pub returns-clause-opening : goal.returns-clause-opening
returns-clause-opening g c =
    let is : c.program-program.result.now ≡ c.args.checked = search rules in
    let sound : IsSound c.program-program.result.now = subst IsSound (sym c.program-program.ensures.program) c.program-program.ensures.sound in
    let pieces = pieces_of c.program-program.result.now c.args.checked c.args.durable c.args.threshold c.args.at c.in_ok-begun.begun c.in_ok-evaluation.evaluation is sound c.requires.openable c.requires.proper c.in_ok-begun.ensures c.in_ok-evaluation.ensures.trees in
    first_opening c.args.checked c.args.durable c.args.threshold c.args.at c.in_ok-begun.begun c.in_ok-evaluation.evaluation pieces c.in_ok-parts.parts c.in_ok-parts.ensures.settled c.in_ok-first.first _ _ c.in_ok-first.ensures c.first_engine.ensures

pub returns-clause-ticks : goal.returns-clause-ticks
returns-clause-ticks g c =
    let is : c.program-program.result.now ≡ c.args.checked = search rules in
    ticks_opened c.program-program.result.now c.args.checked c.args.durable c.args.threshold c.args.at c.in_ok-begun.begun c.args.steps.now c.evaluate.new.steps is c.in_ok-begun.ensures c.in_ok-evaluation.ensures.ticks

pub returns-clause-not_fallen : goal.returns-clause-not_fallen
returns-clause-not_fallen g c =
    c.evaluate.ensures.not_fallen
