-- The tables of a desk's keeper hold the core's state.
use Rattle.std.proofs.Common.{◌≡◌, ℕ, Option, Some, refl, sym, subst}
use Rattle.op_keys.specs.declared.level.Level.{Level}
use Rattle.core_rules.specs.Core.{CoreState}
use Rattle.core_rules.specs.Openings.{start}
use Rattle.core_rules.specs.Steps.{Accepted, Answer, Idle, Refused, step}
use Rattle.core_rules.specs.Stored.{durable}
use Rattle.core_rules.specs.declared.done.Done.{Done}
use Rattle.core_rules.specs.declared.events.Event.{Event}
use Rattle.engine_rules.specs.Proper.{IsProperWhat}
use Rattle.engine_rules.specs.Reached.{IsWithinBounds}
use Rattle.engine_rules.proofs.BoundedStates.{bounds_through_steps}
use Rattle.keeper_core.specs.Chains.{ArePrintable, durable_in}
use Rattle.keeper_core.specs.Contents.{Contents}
use Rattle.keeper_core.specs.EitherSchema.{committed}
use Rattle.keeper_core.specs.declared.stored.Stored.{Stored}
use Rattle.keeper_core.specs.declared.stored.Stored.TheVariants.{Current, Old}
use Rattle.keeper_core.proofs.ChainLaws.{next_opening_follows, steps_are_held}
use Rattle.keeper_core.proofs.StepsStored.{steps_may_be_stored}
use Rattle.engine_core.specs.Answers.{IsStep, Meets, stored_by}
use Rattle.engine_core.specs.State.{IsEngineLawful}
use Rattle.desk_core.specs.Laws.{AreHeld, BringsTexts, HaveTexts, SetsTexts, StoresTexts, after_commit}
use Rattle.desk_core.proofs.Printable.{are_printable}
use Rattle.desk_core.proofs.Within.{delta_storable, inputs_have_texts}

printable_in : (s : CoreState) → IsWithinBounds s → HaveTexts s.inputs → ArePrintable s.program.inputs s.inputs
printable_in s bounds texts = are_printable s.program.inputs s.inputs bounds.limits.inputs bounds.proper.inputs texts

held_after : (s : CoreState) (e : Event) (t : CoreState) (d : Done) (x : Stored) → step s e ≡ Accepted t d → IsEngineLawful s → IsProperWhat e.what → SetsTexts e.what → StoresTexts (Some d.delta) → AreHeld x s → AreHeld (committed d.delta x) t
held_after s e t d (Current c) is lawful proper sets stores held =
    let texts = inputs_have_texts s e t d is lawful sets held.inputs in
    record {
      core = steps_are_held s e t d c is lawful.invariant lawful.bounds.limits.inputs_apart (printable_in s lawful.bounds held.inputs) (printable_in t (bounds_through_steps s e t d is proper lawful.bounds) texts)
          (steps_may_be_stored s e t d is lawful.invariant (delta_storable s e t d is lawful proper sets stores)) held.core;
      inputs = texts;
    }
held_after s e t d (Old o) is lawful proper sets stores held = absurd held.core

held_by : (s : CoreState) (e : Event) (t : CoreState) (done : Done) (x : Stored) (a : Answer) → step s e ≡ a → IsEngineLawful s → IsProperWhat e.what → SetsTexts e.what → StoresTexts (stored_by a) → Meets a s t done → AreHeld x s →
    AreHeld (after_commit (stored_by a) x) t
held_by s e t done x (Refused r) is lawful proper sets stores made held = absurd made
held_by s e t done x (Idle d) is lawful proper sets stores made held = subst (AreHeld x) (sym made.0) held
held_by s e t done x (Accepted u d) is lawful proper sets stores made held = subst (AreHeld (committed d.delta x)) (sym made.0) (held_after s e u d x is lawful proper sets stores held)

pub desk_steps_are_held : (s : CoreState) (e : Event) (t : CoreState) (done : Done) (x : Stored) → IsEngineLawful s → IsProperWhat e.what → BringsTexts s e → IsStep s e t done → AreHeld x s → AreHeld (after_commit (stored_by (step s e)) x) t
desk_steps_are_held s e t done x lawful proper texts made held = held_by s e t done x (step s e) refl lawful proper texts.sets texts.stores made held

pub desk_openings_follow : (s : CoreState) (threshold : Option Level) (reading : ℕ) (t : Contents) → IsEngineLawful s → AreHeld (Current t) s → start s.program (durable_in t) threshold reading ≡ start s.program (durable s) threshold reading
desk_openings_follow s threshold reading t lawful held = next_opening_follows s threshold reading t lawful.bounds.limits.inputs_apart (printable_in s lawful.bounds held.inputs) held.core
