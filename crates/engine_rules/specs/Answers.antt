-- The replies by what a state is before it is settled, and the notes of steps.
use Rattle.std.specs.Prelude.{◌≡◌, ℕ, ◌+◌, Bool, true, false, []}
use Rattle.core_rules.specs.declared.events.What.{What}
use Rattle.core_rules.specs.declared.events.What.TheVariants as what
use Rattle.core_rules.specs.declared.notes.Note.{Note}
use Rattle.core_rules.specs.declared.notes.Note.TheVariants as note
use Rattle.core_rules.specs.Changes.{Change}
use Rattle.core_rules.specs.Core.{CoreState}
use Rattle.core_rules.specs.Entries.{states, wants}
use Rattle.core_rules.specs.Replies.{changed_from, new_conflicts, next_alone, with_numbers}
use Rattle.core_rules.specs.declared.done.Done.{Done}
use Rattle.core_rules.specs.Settling.{newly_marked, wanted}

-- the reply of a step by its own change, before it is settled, with the next number after it
abbrev pub reply_before : CoreState → Change → ℕ → Done
reply_before s c next = record {
  note = c.note;
  version = s.version + 1;
  changed = changed_from 0 (states s) (states c.state);
  conflicts = new_conflicts (wants s) (wants c.state);
  signals = with_numbers c.marks (newly_marked (wanted c.state) c.state);
  delta = record c.delta { next = next };
}

-- the reply of an opening, by the state before it is settled
abbrev pub opening_before : CoreState → ℕ → Done
opening_before s next = record {
  note = note.Plain;
  version = 1;
  changed = changed_from 0 [] (states s);
  conflicts = new_conflicts [] (wants s);
  signals = [];
  delta = next_alone next;
}

-- whether a note says that nothing has changed
abbrev pub is_idle : Note → Bool
is_idle note.Nothing = true
is_idle note.Ignored = true
is_idle n = false

-- only what a worker takes and what ends may leave all as it was, each with its note
abbrev pub IdlesBy : What → Note → Type 0
IdlesBy (what.Take w) n = n ≡ note.Nothing
IdlesBy (what.Finish m x) n = n ≡ note.Ignored
IdlesBy w n = ⊥
