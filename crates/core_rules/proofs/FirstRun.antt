-- A worked run: the build that a node wants has a job, which is taken and can't be run.
use Rattle.std.proofs.Common.{◌≡◌, false, [], ◌∷◌, Some, None, refl}
use Rattle.std.specs.Prelude.{codes}
use Rattle.std.specs.FinMap.{from_entries}
use Rattle.value_core.specs.declared.state.State.TheVariants.{Failed, Active}
use Rattle.value_core.specs.declared.state.Stage.TheVariants.{Ready, Running}
use Rattle.op_keys.specs.declared.declarations.Expiry.TheVariants.{Never}
use Rattle.op_keys.specs.declared.order.Exit.TheVariants as exit
use Rattle.sched_rows.specs.declared.row.Row.{Row}
use Rattle.core_rules.specs.declared.events.What.TheVariants as what
use Rattle.core_rules.specs.declared.notes.Ending.TheVariants as ending
use Rattle.core_rules.specs.declared.notes.Note.TheVariants as note
use Rattle.core_rules.specs.Core.{CoreState}
use Rattle.core_rules.specs.Entries.{states}
use Rattle.core_rules.specs.Openings.{start}
use Rattle.core_rules.specs.Replies.{next_alone}
use Rattle.core_rules.specs.Steps.{Idle, Accepted, step}
use Rattle.core_rules.proofs.OneBuild.{first, order, pipeline, row_left, running, tickets, x}
use Rattle.core_rules.proofs.WorkedRuns.{answered, at, keyed, nothing_stored, opens, quiet, states_are}

-- ---- the opening

abbrev pub opened : CoreState
opened = first Never false None 0

pub opening : start pipeline nothing_stored None 0 ≡ Some opened
opening = opens x None 0 refl refl

pub opened_states : states opened ≡ Active 0 Ready ∷ []
opened_states = states_are x [] opened

-- ---- the worker takes the job

abbrev pub taken : CoreState
taken = record opened { version = 2; jobs = running 1 (codes "x") ∷ []; fair = tickets [] 1000 }

pub takes : step opened (at 0 (what.Take 0)) ≡ Accepted taken (record (quiet 2 2) { note = note.Started (order 1 (codes "x")); changed = (0, Active 0 Running) ∷ [] })
takes = answered x [] opened x [] _ refl refl refl refl refl refl

pub taken_states : states taken ≡ Active 0 Running ∷ []
taken_states = states_are x [] taken

-- ---- the order can't be run: its job leaves a failed row, and none follows

abbrev pub left : Row
left = row_left 1 (codes "x") false (codes "cannot run") 5

abbrev pub ended : CoreState
ended = record taken { now = 5; version = 3; rows = from_entries (keyed left ∷ []); jobs = [] }

pub ends : step taken (at 5 (what.Finish 1 exit.Fault)) ≡ Accepted ended (record (quiet 3 2) {
  note = note.Ended 1 (ending.Failed (codes "cannot run"));
  changed = (0, Failed 0 (codes "cannot run")) ∷ [];
  delta = record (next_alone 2) { put = Some left; log = Some (1, []) };
})
ends = answered x [] taken x (keyed left ∷ []) _ refl refl refl refl refl refl

pub ended_states : states ended ≡ Failed 0 (codes "cannot run") ∷ []
ended_states = states_are x (keyed left ∷ []) ended

-- a second end of the job is ignored
pub ignores : step ended (at 9 (what.Finish 1 exit.Fault)) ≡ Idle (record (quiet 3 2) { note = note.Ignored })
unfolding step
ignores = refl
