-- What lists of events and of entries lead to.
use Rattle.std.specs.Prelude.{◌≡◌, List, [], ◌∷◌}
use Rattle.core_rules.specs.declared.events.Event.{Event}
use Rattle.core_rules.specs.declared.log.Logged.{Logged}
use Rattle.core_rules.specs.declared.log.Logged.TheVariants as logged
use Rattle.core_rules.specs.declared.notes.Note.TheVariants as note
use Rattle.core_rules.specs.Core.{CoreState}
use Rattle.core_rules.specs.declared.done.Done.{Done}
use Rattle.core_rules.specs.Steps.{Refused, Idle, Accepted, idle_reply, step}

-- the events lead from the first state to the second, and each is accepted in its turn
abbrev pub Leads : CoreState → List Event → CoreState → Type 0
Leads s [] t = s ≡ t
Leads s (e ∷ es) t = (after : CoreState) × (r : Done) × (step s e ≡ Accepted after r) × Leads after es t

-- the events of the entries that were accepted
abbrev pub accepted_events : List Logged → List Event
accepted_events [] = []
accepted_events (logged.Accepted e ∷ es) = e ∷ accepted_events es
accepted_events (logged.Refused e r ∷ es) = accepted_events es
accepted_events (logged.Ignored e ∷ es) = accepted_events es

-- the entries lead from the first state to the second, and each event is answered in its turn as its entry says
abbrev pub Replays : CoreState → List Logged → CoreState → Type 0
Replays s [] t = s ≡ t
Replays s (logged.Accepted e ∷ es) t = (after : CoreState) × (r : Done) × (step s e ≡ Accepted after r) × Replays after es t
Replays s (logged.Refused e r ∷ es) t = (step s e ≡ Refused r) × Replays s es t
Replays s (logged.Ignored e ∷ es) t = (step s e ≡ Idle (idle_reply s note.Ignored)) × Replays s es t
