-- Worked runs: what they are written with, what an opening leads to, and what a step is answered.
use Rattle.std.proofs.Common.{◌≡◌, ℕ, ◌+◌, false, List, [], ◌∷◌, Option, Some, None, length, refl, ap, sym, ◌∙◌, arith}
use Rattle.std.specs.Prelude.{◌^◌, ◌-◌, ◌==◌, min, if◌then◌else◌}
use Rattle.std.specs.FinMap.{empty, entries, from_entries, len-empty, len-entries}
use Rattle.value_core.specs.declared.value.Value.{Value}
use Rattle.op_keys.specs.declared.order.Exit.TheVariants as exit
use Rattle.core_rules.specs.declared.events.What.{What}
use Rattle.core_rules.specs.declared.events.What.TheVariants as what
use Rattle.core_rules.specs.declared.notes.Note.TheVariants as note
use Rattle.core_rules.proofs.FewEntries.{put_over}
use Rattle.sched_rows.proofs.KeyOrders.{row_key_cmp_tells}
use Rattle.value_core.specs.declared.state.State.{State}
use Rattle.value_core.specs.declared.state.Triple.{Triple}
use Rattle.op_keys.specs.declared.level.Level.{Level}
use Rattle.term_core.specs.declared.entries.Entry.{Entry}
use Rattle.term_core.specs.declared.program.Program.{Program}
use Rattle.term_core.specs.Fresh.{FreshRun, fresh}
use Rattle.term_core.specs.World.{World, entry_of}
use Rattle.sched_rows.specs.declared.row.Row.{Row}
use Rattle.sched_rows.specs.RowKeys.{RowKey, key_of, row_key_cmp, row_key_cmp_total}
use Rattle.core_rules.specs.declared.events.Event.{Event}
use Rattle.core_rules.specs.declared.jobs.Job.{Job}
use Rattle.core_rules.specs.declared.jobs.Mark.TheVariants.{Unmarked}
use Rattle.core_rules.specs.declared.events.Refusal.TheVariants as refusal
use Rattle.core_rules.specs.Changes.{Change, Makes}
use Rattle.core_rules.specs.Core.{CoreState}
use Rattle.core_rules.specs.Entries.{fresh_of, states, world}
use Rattle.core_rules.specs.Openings.{Durable, latest, opened, start}
use Rattle.core_rules.specs.declared.done.Done.{Done}
use Rattle.core_rules.specs.Replies.{changed_from, next_alone, new_conflicts, with_numbers}
use Rattle.core_rules.specs.Settling.{newly_marked, settle, settle_for}
use Rattle.term_core.specs.Counts.{in_order}
use Rattle.core_rules.specs.Steps.{Refused, Accepted, answer, at_time, change, reply_of, settled_answer, step}
use Rattle.core_rules.proofs.Entries.{world_entry}
use Rattle.core_rules.proofs.RowLooks.{entry_found, entry_is, listed, listed_is, settle_found, settle_is}

-- ---- what runs are written with

-- something happens at a reading
abbrev pub at : ℕ → What → Event
at reading w = record { at = reading; what = w }

-- an order ends with code 0 and an output
abbrev pub ends : ℕ → List ℕ → What
ends job output = what.Finish job (exit.Ended (Some 0) output)

-- a reply of a version and a next number that tells nothing else
abbrev pub quiet : ℕ → ℕ → Done
quiet version next = record { note = note.Plain; version = version; changed = []; conflicts = []; signals = []; delta = next_alone next }

-- a job for a triple that no worker has taken
abbrev pub job : ℕ → Triple → Job
job n t = record { number = n; triple = t; confirmed = false; worker = None; mark = Unmarked }

-- a row behind what it stands under
abbrev pub keyed : Row → RowKey × Row
keyed r = (key_of r, r)

-- a row in place of another one of its key
pub over : (s : CoreState) (new old : Row) → key_of new ≡ key_of old → record s { rows = from_entries (keyed new ∷ keyed old ∷ []) } ≡ record s { rows = from_entries (keyed new ∷ []) }
over s new old is = ap (λ k. record s { rows = from_entries (keyed new ∷ (k, old) ∷ []) }) (sym is) ∙ ap (λ rows. record s { rows = rows }) (put_over row_key_cmp_total row_key_cmp_tells (key_of new) new old [])

-- ---- what the nodes come to

-- a program and its inputs' values, and what its nodes come to by the entries that are asked for
pub record Evaluated : Type 0 where
  pub program : Program
  pub inputs : List Value
  pub run : (Triple → Entry) → FreshRun
  pub is : (w : World) → fresh program inputs w ≡ run (entry_of w)

-- a state of the program with these inputs' values and some rows
abbrev pub on : Evaluated → List (RowKey × Row) → CoreState → CoreState
on v es s = record s { program = v.program; inputs = v.inputs; rows = from_entries es }

-- what its nodes come to
abbrev pub found : Evaluated → List (RowKey × Row) → CoreState → FreshRun
found v es s = v.run (entry_found (listed es) (on v es s))

pub found_is : (v : Evaluated) (es : List (RowKey × Row)) (s : CoreState) → fresh_of (on v es s) ≡ found v es s
found_is v es s = v.is (world (on v es s)) ∙ (λ i. v.run (λ t. (world_entry (on v es s) t ∙ entry_is (listed es) (on v es s) t (listed_is es)) i))

pub states_are : (v : Evaluated) (es : List (RowKey × Row)) (s : CoreState) → states (on v es s) ≡ (found v es s).states
states_are v es s = ap (λ f. f.states) (found_is v es s)

-- settled by it
abbrev pub settled : Evaluated → List (RowKey × Row) → CoreState → Option CoreState
settled v es s = settle_found (listed es) (in_order (found v es s).wants) (on v es s)

pub settled_is : (v : Evaluated) (es : List (RowKey × Row)) (s : CoreState) → settle (on v es s) ≡ settled v es s
settled_is v es s = ap (λ f. settle_for (in_order f.wants) (on v es s)) (found_is v es s) ∙ settle_is (listed es) (in_order (found v es s).wants) (on v es s) (listed_is es)

-- ---- openings where nothing is stored

-- nothing
abbrev pub nothing_stored : Durable
nothing_stored = record { inputs = []; rows = empty; next = 1 }

no_length : (es : List (RowKey × Row)) → length es ≡ 0 → es ≡ []
no_length [] h = refl
no_length (e ∷ es) h = absurd (omega (arith, h))

pub none_listed : entries (empty {X = Row} {R = row_key_cmp}) ≡ []
none_listed = no_length (entries empty) (sym (len-entries empty) ∙ len-empty row_key_cmp Row)

-- before the first job
abbrev pub jobless : Program → Option Level → ℕ → CoreState
jobless program threshold reading = record (opened program nothing_stored threshold reading) { now = min reading (2 ^ 60) }

pub opens : (v : Evaluated) (threshold : Option Level) (reading : ℕ) {after : CoreState} → jobless v.program threshold reading ≡ on v [] (jobless v.program threshold reading) →
    settled v [] (jobless v.program threshold reading) ≡ Some after → start v.program nothing_stored threshold reading ≡ Some after
unfolding start
opens v threshold reading is settles =
    ap (λ es. settle (record (jobless v.program threshold reading) { now = latest (min reading (2 ^ 60)) es })) none_listed ∙ ap settle is ∙ settled_is v [] (jobless v.program threshold reading) ∙ settles

-- ---- the answer to an event

-- the reply to a change, by what the nodes came to before, come to after the own change, and come to now
abbrev pub reply_found : CoreState → Change → CoreState → FreshRun → FreshRun → FreshRun → List (ℕ × State) → Done
reply_found s c after before own new changed = record {
  note = c.note;
  version = s.version + 1;
  changed = changed;
  conflicts = new_conflicts before.wants new.wants;
  signals = with_numbers c.marks (newly_marked (in_order own.wants) c.state);
  delta = record c.delta { next = after.next };
}

replied : (s : CoreState) (c : Change) (after : CoreState) (before own new : FreshRun) (changed : List (ℕ × State)) → fresh_of s ≡ before → fresh_of c.state ≡ own → fresh_of after ≡ new →
    changed_from 0 before.states new.states ≡ changed → reply_of s c after ≡ reply_found s c after before own new changed
replied s c after before own new changed p q r differ =
    let d : changed_from 0 (states s) (states after) ≡ changed = (λ i. changed_from 0 (p i).states (r i).states) ∙ differ in
    λ i. record {
      note = c.note;
      version = s.version + 1;
      changed = d i;
      conflicts = new_conflicts (p i).wants (r i).wants;
      signals = with_numbers c.marks (newly_marked (in_order (q i).wants) c.state);
      delta = record c.delta { next = after.next };
    }

-- a change to these inputs' values and rows
abbrev pub to : Evaluated → List (RowKey × Row) → Change → Change
to v es c = record c { state = on v es c.state }

-- a step from some inputs' values and rows to others
pub answered : (v : Evaluated) (es : List (RowKey × Row)) (s : CoreState) (w : Evaluated) (fs : List (RowKey × Row)) (e : Event) {c : Change} {after : CoreState} {changed : List (ℕ × State)} →
    change (at_time (on v es s) e.at) e.what ≡ Makes c → c.state ≡ on w fs c.state → (s.version == 2 ^ 64 - 1) ≡ false →
    settled w fs c.state ≡ Some after → after ≡ on w fs after → changed_from 0 (found v es s).states (found w fs after).states ≡ changed →
    step (on v es s) e ≡ Accepted (record after { version = s.version + 1 }) (reply_found (on v es s) (to w fs c) after (found v es s) (found w fs c.state) (found w fs after) changed)
unfolding step
answered v es s w fs e {c} {after} {changed} changes is below settles kept differ =
    ap (answer (on v es s)) (changes ∙ ap (λ z. Makes (record c { state = z })) is)
    ∙ ap (λ b. if b then Refused refusal.NumbersUsed else settled_answer (on v es s) (to w fs c) (settle (on w fs c.state))) below
    ∙ ap (settled_answer (on v es s) (to w fs c)) (settled_is w fs c.state ∙ settles)
    ∙ ap (Accepted (record after { version = s.version + 1 })) (replied (on v es s) (to w fs c) after (found v es s) (found w fs c.state) (found w fs after) changed (found_is v es s) (found_is w fs c.state) (ap fresh_of kept ∙ found_is w fs after) differ)
