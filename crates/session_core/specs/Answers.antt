-- What a call of the desk answers to an event.
use Rattle.std.specs.Prelude.{ℕ, Option, Some, None}
use Rattle.core_rules.specs.declared.events.What.{What}
use Rattle.core_rules.specs.declared.notes.Note.{Note}
use Rattle.core_rules.specs.declared.notes.Note.TheVariants as note
use Rattle.core_rules.specs.Steps.{Answer, Refused, Idle, Accepted, step}
use Rattle.desk_core.specs.Desk.{DeskState}

-- the answer to an event at a reading
abbrev pub answer_of : {K : Type 0} → DeskState K → ℕ → What → Answer
answer_of desk at w = step desk.engine.core (record { at = at; what = w })

-- the note of an event, if it was accepted
abbrev pub accepted_note : Answer → Option Note
accepted_note (Refused r) = None
accepted_note (Idle r) = None
accepted_note (Accepted core r) = Some r.note

-- a note, unless it says that nothing changed
abbrev pub news : Note → Option Note
news note.Plain = Some note.Plain
news (note.Started o) = Some (note.Started o)
news (note.Ended job e) = Some (note.Ended job e)
news note.Nothing = None
news note.Ignored = None
