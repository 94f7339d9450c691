-- The laws of desks, as statements.
use Rattle.std.specs.Prelude.{◌≡◌, ℕ, true, List, Option, Some, None, IfSome}
use Rattle.std.specs.List.{AllByRecursion}
use Rattle.value_core.specs.declared.value.Value.{Value}
use Rattle.value_core.specs.Texts.{is_text}
use Rattle.op_keys.specs.declared.level.Level.{Level}
use Rattle.sched_rows.specs.declared.row.Row.{Row}
use Rattle.core_rules.specs.Core.{CoreState}
use Rattle.core_rules.specs.Openings.{start}
use Rattle.core_rules.specs.Steps.{step}
use Rattle.core_rules.specs.Stored.{durable}
use Rattle.core_rules.specs.declared.done.Delta.{Delta}
use Rattle.core_rules.specs.declared.done.Done.{Done}
use Rattle.core_rules.specs.declared.events.Event.{Event}
use Rattle.core_rules.specs.declared.events.What.{What}
use Rattle.core_rules.specs.declared.events.What.TheVariants as what
use Rattle.engine_rules.specs.Proper.{IsProperWhat}
use Rattle.keeper_core.specs.Chains.{durable_in}
use Rattle.keeper_core.specs.Contents.{Contents}
use Rattle.keeper_core.specs.EitherSchema.{committed}
use Rattle.keeper_core.specs.Printables.{has_texts}
use Rattle.keeper_core.specs.declared.stored.Stored.{Stored}
use Rattle.keeper_core.specs.declared.stored.Stored.TheVariants.{Current}
use Rattle.engine_core.specs.Answers.{IsStep, stored_by}
use Rattle.engine_core.specs.State.{IsEngineLawful}
use Rattle.desk_core.specs.Desk.{HoldsCore}

-- ---- texts are UTF-8 without NUL, as the type of a text keeps it

-- those of some values
abbrev pub HaveTexts : List Value → Type 0
HaveTexts vs = AllByRecursion (λ v. has_texts v ≡ true) vs

-- those of the value that an event sets
abbrev pub SetsTexts : What → Type 0
SetsTexts (what.SetInput name v) = has_texts v ≡ true
SetsTexts w = Unit {0}

-- those of a row
pub record HasRowTexts (r : Row) : Type 0 where
  pub key : is_text r.key ≡ true
  pub value : is_text r.value ≡ true
  pub result : is_text r.result ≡ true

-- those of the row that is stored, if one is
abbrev pub StoresTexts : Option Delta → Type 0
StoresTexts o = IfSome o (λ d. IfSome d.put HasRowTexts)

-- those that an event brings to a state
pub record BringsTexts (s : CoreState) (e : Event) : Type 0 where
  pub sets : SetsTexts e.what
  pub stores : StoresTexts (stored_by (step s e))

-- ---- how tables follow the state

-- tables after the commit of what is to be stored, if something is
abbrev pub after_commit : Option Delta → Stored → Stored
after_commit None x = x
after_commit (Some d) x = committed d x

-- tables hold a state, whose inputs have such texts
pub record AreHeld (x : Stored) (s : CoreState) : Type 0 where
  pub core : HoldsCore s x
  pub inputs : HaveTexts s.inputs

-- tables that hold the state before a step hold the one after it, once what it stores is committed
abbrev pub DeskStepsAreHeld : Type 0
DeskStepsAreHeld = (s : CoreState) (e : Event) (t : CoreState) (done : Done) (x : Stored) → IsEngineLawful s → IsProperWhat e.what → BringsTexts s e →
    IsStep s e t done → AreHeld x s → AreHeld (after_commit (stored_by (step s e)) x) t

-- an opening on tables that hold a state begins as one on the state's durable part
abbrev pub DeskOpeningsFollow : Type 0
DeskOpeningsFollow = (s : CoreState) (threshold : Option Level) (reading : ℕ) (t : Contents) → IsEngineLawful s → AreHeld (Current t) s →
    start s.program (durable_in t) threshold reading ≡ start s.program (durable s) threshold reading
