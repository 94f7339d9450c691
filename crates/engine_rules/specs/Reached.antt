-- What holds of each state that is reached, beside the core's invariant.
use Rattle.std.specs.Prelude.{◌≡◌, ◌<◌, ℕ, List, Option, Some, length}
use Rattle.std.specs.List.{AllByRecursion}
use Rattle.value_core.specs.declared.state.Triple.{Triple}
use Rattle.op_keys.specs.declared.level.Level.{Level}
use Rattle.term_core.specs.Limits.{IsWithinLimits}
use Rattle.term_core.specs.Soundness.{IsSound}
use Rattle.term_core.specs.declared.program.Program.{Program}
use Rattle.term_check.specs.Laws.{IsWantable}
use Rattle.core_rules.specs.declared.done.Done.{Done}
use Rattle.core_rules.specs.declared.events.Event.{Event}
use Rattle.core_rules.specs.declared.jobs.Job.{Job}
use Rattle.core_rules.specs.Core.{CoreState}
use Rattle.core_rules.specs.Openings.{Durable, start}
use Rattle.core_rules.specs.Replays.{Leads}
use Rattle.core_rules.specs.Settling.{wanted}
use Rattle.core_rules.specs.Steps.{Accepted, step}
use Rattle.engine_rules.specs.Proper.{IsProperCore, IsProperDurable, IsProperWhat}

-- a triple of a declared operation, with a key and a value within the limit of texts, whose order has words that are short enough
pub record IsTripleWithin (p : Program) (t : Triple) : Type 0 where
  pub declared : t.op < length p.ops
  pub wantable : IsWantable p t

-- a sound program within the limits, proper inputs and rows, and such triples among the wanted ones and those of jobs
pub record IsWithinBounds (s : CoreState) : Type 0 where
  pub sound : IsSound s.program
  pub limits : IsWithinLimits s.program
  pub proper : IsProperCore s
  pub wants : AllByRecursion (IsTripleWithin s.program) (wanted s)
  pub jobs : AllByRecursion (λ (j : Job). IsTripleWithin s.program j.triple) s.jobs

-- an opening from what is proper gives a state within the bounds
abbrev pub BoundsAtOpening : Type 0
BoundsAtOpening = (program : Program) (durable : Durable) (threshold : Option Level) (reading : ℕ) (s : CoreState) →
    IsSound program → IsWithinLimits program → IsProperDurable durable → start program durable threshold reading ≡ Some s → IsWithinBounds s

-- an accepted event that brings what is proper keeps them
abbrev pub BoundsThroughSteps : Type 0
BoundsThroughSteps = (s : CoreState) (e : Event) (s' : CoreState) (r : Done) → step s e ≡ Accepted s' r → IsProperWhat e.what → IsWithinBounds s → IsWithinBounds s'

-- so each state is within them to which such events lead from such an opening
abbrev pub BoundsWhereReached : Type 0
BoundsWhereReached = (program : Program) (durable : Durable) (threshold : Option Level) (reading : ℕ) (s : CoreState) (es : List Event) (t : CoreState) →
    IsSound program → IsWithinLimits program → IsProperDurable durable → start program durable threshold reading ≡ Some s →
    Leads s es t → AllByRecursion (λ (e : Event). IsProperWhat e.what) es → IsWithinBounds t
