-- Events and orders, as parts of a session.
use Rattle.std.specs.Prelude.{ℕ, zero, suc, List, [], ◌∷◌, length, Option, Some, None, is_some}
use Rattle.std.specs.List.{find, range_with_len}
use Rattle.std.specs.Option.{option_map}
use Rattle.op_keys.specs.declared.order.Exit.{Exit}
use Rattle.core_rules.specs.declared.done.Done.{Done}
use Rattle.core_rules.specs.declared.events.Event.{Event}
use Rattle.core_rules.specs.declared.events.What.{What}
use Rattle.core_rules.specs.declared.events.What.TheVariants as what
use Rattle.core_rules.specs.declared.notes.Note.{Note}
use Rattle.core_rules.specs.declared.notes.Note.TheVariants as note
use Rattle.core_rules.specs.Core.{CoreState}
use Rattle.core_rules.specs.Orders.{picked}
use Rattle.core_rules.specs.Steps.{Answer, Refused, Idle, Accepted, at_time, step}
use Rattle.report_text.specs.Lines.{paused_line, refusal_words, refused_line, reply_text}
use Rattle.session_rules.specs.Outputs.{Output, Commit, Print, Run}
use Rattle.session_rules.specs.Parts.{Turn, Part, does, nothing, used_up, followed}
use Rattle.session_rules.specs.Scenes.{Scene, at_reading, exit_now, exits_later, expecting}

-- how many terms an event evaluates in a state, if they are counted
abbrev pub Counting : Type 0
Counting = Option (CoreState → Event → ℕ)

-- the number for one event, if they are counted
abbrev pub counted : Counting → CoreState → Event → Option ℕ
counted counting s e = option_map (λ count. count s e) counting

-- ---- events

-- the commit of an accepted step, and its lines
abbrev pub step_outputs : Option ℕ → CoreState → Done → List Output
step_outputs n core r = Commit r.delta ∷ Print (reply_text core.program r n) ∷ []

-- the line of a refusal; if numbers are used up there is none, and the session ends
abbrev pub refused : Scene → Option (List ℕ) → Turn
refused s None = used_up
refused s (Some why) = does (Print (refused_line why) ∷ []) s

-- what is done for an answer, with the number of evaluations if they are counted
abbrev pub answered : Option ℕ → Scene → Answer → Turn
answered n s (Refused r) = refused s (refusal_words r)
answered n s (Idle r) = nothing s
answered n s (Accepted core r) = does (step_outputs n core r) (record s { core = core })

-- an event at the last reading
abbrev pub event_at : What → Scene → Event
event_at w s = record { at = s.last; what = w }

-- the answer to it
abbrev pub answer_to : What → Scene → Answer
answer_to w s = step s.core (event_at w s)

-- what is done for it
abbrev pub event : Counting → What → Part
event counting w s = answered (counted counting s.core (event_at w s)) s (answer_to w s)

-- ---- one order

-- its end, at the next reading
abbrev pub end_of : Counting → ℕ → Exit → Part
end_of counting job exit s = event counting (what.Finish job exit) (at_reading s)

-- what a worker took is run to its end
abbrev pub run_of : Counting → Note → Part
run_of counting (note.Started o) s =
    followed (does (Run o (exit_now s.exits) ∷ []) (expecting (exits_later s.exits) s)) (end_of counting o.job (exit_now s.exits))
run_of counting note.Plain s = nothing s
run_of counting (note.Ended job e) s = nothing s
run_of counting note.Nothing s = nothing s
run_of counting note.Ignored s = nothing s

-- the same, if the worker was given an order
abbrev pub run_after : Counting → Answer → Part
run_after counting (Accepted core r) s = run_of counting r.note s
run_after counting (Idle r) s = nothing s
run_after counting (Refused r) s = nothing s

-- a worker takes its pick, which is run to its end
abbrev pub one_order : Counting → ℕ → Part
one_order counting w s = followed (event counting (what.Take w) s) (run_after counting (answer_to (what.Take w) s))

-- ---- all orders

-- the first worker that has a pick at the last reading
abbrev pub free_worker : Scene → Option ℕ
free_worker s = find (λ w. is_some (picked (at_time s.core s.last) w)) (range_with_len 0 (length s.core.program.workers))

-- an order of that worker, and what follows; nothing if no worker has a pick
abbrev pub next_order : Counting → Part → Scene → Option ℕ → Turn
next_order counting more s None = nothing s
next_order counting more s (Some w) = followed (one_order counting w s) more

-- `paused`, if a worker still has a pick
abbrev pub pause_outputs : Option ℕ → List Output
pause_outputs None = []
pause_outputs (Some w) = Print paused_line ∷ []

-- orders one after the other, each of the first worker that has a pick: so many at most
abbrev pub orders : Counting → ℕ → Part
orders counting zero s = does (pause_outputs (free_worker s)) s
orders counting (suc n) s = next_order counting (orders counting n) s (free_worker s)

-- how many there are at most for one line
abbrev pub order_limit : ℕ
order_limit = 1000

-- all of them
unfoldable pub all_orders : Counting → Part
all_orders counting = orders counting order_limit
