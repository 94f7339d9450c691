-- What a plan holds, and what it makes of the engine.
use Rattle.std.specs.Prelude.{◌≡◌, ℕ, ◌+◌, ◌-◌, ◌^◌, ◌<◌, ◌≤◌, List, length, Option, Some, None, option_map}
use Rattle.core_rules.specs.Core.{CoreState}
use Rattle.core_rules.specs.Own.{PutsInTime, rows_made}
use Rattle.core_rules.specs.Parts.{core_of, dressed, work_of}
use Rattle.core_rules.specs.Steps.{Accepted, step}
use Rattle.core_rules.specs.declared.done.Delta.{Delta}
use Rattle.core_rules.specs.declared.done.Done.{Done}
use Rattle.core_rules.specs.declared.events.Event.{Event}
use Rattle.core_rules.specs.declared.own.RowChange.{RowChange}
use Rattle.core_rules.specs.declared.own.RowChange.TheVariants as row
use Rattle.job_core.specs.Plans.{IsPlanFor, plan_signals, planned}
use Rattle.engine_rules.specs.Edits.{inputs_made}
use Rattle.engine_rules.specs.Proper.{IsProperWhat}
use Rattle.engine_rules.specs.declared.edits.InputChange.{InputChange}
use Rattle.engine_rules.specs.declared.edits.InputChange.TheVariants as input
use Rattle.incr_eval.specs.Plans.{PlanView}
use Rattle.visit_rules.specs.Differences.{changed_states}
use Rattle.visit_rules.specs.declared.visit.Visit.{Visit}
use Rattle.engine_core.specs.Evaluated.{trees_of}
use Rattle.engine_core.specs.State.{EngineState}
use Rattle.engine_core.specs.declared.planned.Planned.{Planned}
use Rattle.engine_core.specs.declared.planned.StepChange.{StepChange}

-- ---- what a plan makes

-- the state of the next version with what a step changes
abbrev pub changed_by : StepChange → CoreState → CoreState
changed_by c s = dressed (inputs_made c.input s.inputs) (s.version + 1) (core_of (planned c.jobs (work_of s)) (rows_made c.row s.rows) c.moment)

-- the same for what may change nothing
abbrev pub changed_if : Option StepChange → CoreState → CoreState
changed_if None s = s
changed_if (Some c) s = changed_by c s

-- the state after a plan is installed
abbrev pub state_planned : Planned → CoreState → CoreState
state_planned p s = changed_if p.change s

-- a reply with the jobs that a step marks
abbrev pub reply_with : Option StepChange → Done → Done
reply_with None d = d
reply_with (Some c) d = record d { signals = plan_signals c.jobs }

-- the reply of a plan
abbrev pub reply_planned : Planned → Done
reply_planned p = reply_with p.change p.done

-- what a plan stores, unless it changes nothing
abbrev pub delta_planned : Planned → Option Delta
delta_planned p = option_map (λ c. p.done.delta) p.change

-- ---- when a plan may be installed

-- there is room for a row that is put
abbrev pub HasRowRoom : RowChange → ℕ → Type 0
HasRowRoom (row.Put r) room = 1 ≤ room
HasRowRoom c room = Unit {0}

-- an input that is set is there
abbrev pub HasInput : InputChange → ℕ → Type 0
HasInput input.None inputs = Unit {0}
HasInput (input.Set index v) inputs = index < inputs

-- an evaluation was planned over these trees
abbrev pub IsPlannedOver : List Visit → PlanView → Type 0
IsPlannedOver trees p = p.changed ≡ changed_states trees p.trees

-- what changes is what an accepted event changes, and there is room for it
pub record IsChangeFor (c : StepChange) (e : EngineState) : Type 0 where
  pub event : Event
  pub reply : Done
  pub proper : IsProperWhat event.what
  pub accepted : step e.core event ≡ Accepted (changed_by c e.core) reply
  pub version : e.core.version < 2 ^ 64 - 1
  pub input : HasInput c.input (length e.core.inputs)
  pub row : PutsInTime c.row
  pub row_room : HasRowRoom c.row e.row_room
  pub jobs : IsPlanFor c.jobs (record { work = work_of e.core; spare = e.job_room })
  pub evaluation : IsPlannedOver (trees_of e.core) c.evaluation
  pub trees : c.evaluation.trees ≡ trees_of (changed_by c e.core)

-- the same for what may change nothing
abbrev pub IsChangeIf : Option StepChange → EngineState → Type 0
IsChangeIf None e = Unit {0}
IsChangeIf (Some c) e = IsChangeFor c e

-- a plan may be installed
abbrev pub IsPlannedFor : Planned → EngineState → Type 0
IsPlannedFor p e = IsChangeIf p.change e
