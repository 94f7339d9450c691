-- All parts of the invariant, at the opening, through a step, and at the end of a replay.
use Rattle.std.proofs.Common.{◌≡◌, ℕ, ◌+◌, List, [], ◌∷◌, length, Option, Some, ap, subst, arith}
use Rattle.core_rules.proofs.Bounded.{bounded_at_opening, bounded_through_step, durable_from}
use Rattle.core_rules.proofs.Loads.{within_start, within_step}
use Rattle.core_rules.proofs.Moves.{accepts}
use Rattle.core_rules.proofs.Numbers.{numbered_start, numbered_step}
use Rattle.core_rules.proofs.OwnTickets.{own_start, own_step}
use Rattle.core_rules.proofs.Reach.{kept_by, one_start, one_step}
use Rattle.core_rules.proofs.Referred.{referred_settled, referred_step}
use Rattle.core_rules.proofs.Tickets.{ticketed_start, ticketed_step}
use Rattle.core_rules.specs.Core.{CoreState}
use Rattle.core_rules.specs.Laws.{Invariant, IsLawful}
use Rattle.core_rules.specs.Openings.{Durable, IsDurable, IsOpenable, opened, start}
use Rattle.core_rules.specs.Replays.{Leads, Replays}
use Rattle.core_rules.specs.declared.log.Logged.{Logged}
use Rattle.core_rules.specs.declared.done.Done.{Done}
use Rattle.core_rules.specs.Steps.{Accepted, step}
use Rattle.core_rules.specs.declared.events.Event.{Event}
use Rattle.op_keys.specs.declared.level.Level.{Level}
use Rattle.term_core.specs.Limits.{IsWithinLimits}
use Rattle.term_core.specs.declared.program.Program.{Program}

pub lawful_at_opening : (program : Program) (durable : Durable) (threshold : Option Level) (reading : ℕ) (s : CoreState) → IsDurable durable → start program durable threshold reading ≡ Some s → IsLawful s
unfolding start
lawful_at_opening program durable threshold reading s d h = record {
  one_each = one_start program durable threshold reading s h;
  within = within_start program durable threshold reading s h;
  numbered = numbered_start program durable threshold reading s d h;
  ticketed = ticketed_start program durable threshold reading s d h;
  tickets_own = own_start program durable threshold reading s d h;
  referred = referred_settled (opened program durable threshold reading) s h;
}

pub lawful_through_step : (s : CoreState) (e : Event) (s' : CoreState) (r : Done) → step s e ≡ Accepted s' r → IsLawful s → IsLawful s'
lawful_through_step s e s' r h i = record {
  one_each = one_step s e s' r h i.one_each;
  within = within_step s e s' r h i.within;
  numbered = numbered_step s e s' r h i.numbered;
  ticketed = ticketed_step s e s' r h i.numbered i.ticketed;
  tickets_own = own_step s e s' r h i.numbered i.ticketed i.tickets_own;
  referred = referred_step s e s' r h;
}

pub lawful_after_replays : (program : Program) (durable : Durable) (threshold : Option Level) (reading : ℕ) (s : CoreState) (es : List Logged) (t : CoreState) →
    IsDurable durable → start program durable threshold reading ≡ Some s → Replays s es t → IsLawful t
lawful_after_replays program durable threshold reading s es t d h k = kept_by IsLawful lawful_through_step s t es k (lawful_at_opening program durable threshold reading s d h)

pub invariant_at_opening : (program : Program) (durable : Durable) (threshold : Option Level) (reading : ℕ) (s : CoreState) → IsWithinLimits program → IsOpenable durable → start program durable threshold reading ≡ Some s → Invariant s
invariant_at_opening program durable threshold reading s within openable h = record {
  lawful = lawful_at_opening program durable threshold reading s (durable_from durable openable) h;
  bounded = bounded_at_opening program durable threshold reading s within openable h;
}

pub invariant_through_step : (s : CoreState) (e : Event) (s' : CoreState) (r : Done) → step s e ≡ Accepted s' r → Invariant s → Invariant s'
invariant_through_step s e s' r h i = record {
  lawful = lawful_through_step s e s' r h i.lawful;
  bounded = bounded_through_step s e s' r h i.bounded;
}

pub version_rises : (s : CoreState) (e : Event) (s' : CoreState) (r : Done) → step s e ≡ Accepted s' r → s'.version ≡ s.version + 1
version_rises s e s' r h = let a = accepts s e s' r h in ap (λ z. z.version) a.new

pub invariant_after_replays : (program : Program) (durable : Durable) (threshold : Option Level) (reading : ℕ) (s : CoreState) (es : List Logged) (t : CoreState) →
    IsWithinLimits program → IsOpenable durable → start program durable threshold reading ≡ Some s → Replays s es t → Invariant t
invariant_after_replays program durable threshold reading s es t within d h k = kept_by Invariant invariant_through_step s t es k (invariant_at_opening program durable threshold reading s within d h)

pub invariant_along_events : (s : CoreState) (es : List Event) (t : CoreState) → Leads s es t → Invariant s → Invariant t × (t.version ≡ s.version + length es)
invariant_along_events s [] t h i = (subst Invariant h i, (let e : s.version ≡ t.version = ap (λ z. z.version) h in omega arith))
invariant_along_events s (e ∷ es) t h i =
    let rest = invariant_along_events h.0 es t h.3 (invariant_through_step s e h.0 h.1 h.2 i) in
    let rise = version_rises s e h.0 h.1 h.2 in
    let last = rest.1 in
    (rest.0, omega (arith, rise, last))
