-- One step: an event at a moment, its own change, settling, and the answer.
use Rattle.std.specs.Prelude.{ℕ, ◌+◌, ◌-◌, ◌^◌, min, max, true, false, ◌==◌, if◌then◌else◌, [], Option, Some, None, slice_get}
use Rattle.core_rules.specs.declared.events.What.{What}
use Rattle.core_rules.specs.declared.events.What.TheVariants as what
use Rattle.core_rules.specs.declared.events.Event.{Event}
use Rattle.core_rules.specs.declared.events.Refusal.{Refusal}
use Rattle.core_rules.specs.declared.events.Refusal.TheVariants as refusal
use Rattle.core_rules.specs.declared.notes.Note.{Note}
use Rattle.core_rules.specs.Core.{CoreState, job_numbered}
use Rattle.core_rules.specs.Changes.{Change, Tried, Refuses, Idles, Makes, plain, input_index, set_input, confirm, cancel, op_named, rebuild, worker_named, client_named, pause, set_rate}
use Rattle.core_rules.specs.Entries.{states, wants}
use Rattle.core_rules.specs.Orders.{take_by, finish}
use Rattle.core_rules.specs.declared.done.Done.{Done}
use Rattle.core_rules.specs.Replies.{next_alone, changed_from, new_conflicts, with_numbers}
use Rattle.core_rules.specs.Settling.{wanted, newly_marked, settle}

-- an event is refused, answered without a change, or accepted with a new state
pub data Answer : Type 0 where
  Refused : Refusal → Answer
  Idle : Done → Answer
  Accepted : CoreState → Done → Answer

-- what an event changes by itself, at a moment that is set already
abbrev pub change : CoreState → What → Tried
change s (what.SetInput name v) = set_input s name v (input_index s name) (slice_get s.program.inputs (input_index s name))
change s what.Tick = plain s
change s (what.SetLevel threshold) = plain (record s { threshold = threshold })
change s (what.Confirm n) = confirm s (job_numbered s.jobs n)
change s (what.Cancel n) = cancel s (job_numbered s.jobs n)
change s (what.Rebuild op key) = rebuild s op key (op_named s op)
change s (what.Pause w) = pause true s (worker_named s w)
change s (what.Resume w) = pause false s (worker_named s w)
change s (what.Rate pool client rate) = set_rate s rate (client_named s pool client)
change s (what.Take w) = take_by s w
change s (what.Finish n x) = finish s (job_numbered s.jobs n) x

-- at the larger of the moment and the reading, which counts as 2^60 at most
abbrev pub at_time : CoreState → ℕ → CoreState
at_time s reading = record s { now = max s.now (min reading (2 ^ 60)) }

-- the reply of a step from a state, by its own change, to the settled state
abbrev pub reply_of : CoreState → Change → CoreState → Done
reply_of s c after = record {
  note = c.note;
  version = s.version + 1;
  changed = changed_from 0 (states s) (states after);
  conflicts = new_conflicts (wants s) (wants after);
  signals = with_numbers c.marks (newly_marked (wanted c.state) c.state);
  delta = record c.delta { next = after.next };
}

-- the reply of an event that changes nothing
abbrev pub idle_reply : CoreState → Note → Done
idle_reply s n = record { note = n; version = s.version; changed = []; conflicts = []; signals = []; delta = next_alone s.next }

-- the settled state of the next version, or that the numbers of jobs are used up
abbrev pub settled_answer : CoreState → Change → Option CoreState → Answer
settled_answer s c (Some after) = Accepted (record after { version = s.version + 1 }) (reply_of s c after)
settled_answer s c None = Refused refusal.NumbersUsed

-- a change is settled, unless the versions are used up
abbrev pub answer : CoreState → Tried → Answer
answer s (Refuses r) = Refused r
answer s (Idles n) = Idle (idle_reply s n)
answer s (Makes c) = if s.version == 2 ^ 64 - 1 then Refused refusal.NumbersUsed else settled_answer s c (settle c.state)

-- what is answered to an event
unfoldable pub step : CoreState → Event → Answer
step s e = answer s (change (at_time s e.at) e.what)

-- the state behind an answer: all but an accepted event leave it as it was
abbrev pub state_after : CoreState → Answer → CoreState
state_after s (Refused r) = s
state_after s (Idle r) = s
state_after s (Accepted after r) = after
