-- What holds in each state that is reached.
use Rattle.std.proofs.Common.{◌≡◌, ℕ, not, List, [], ◌∷◌, ◌++◌, Option, Some, refl, sym, subst}
use Rattle.std.specs.Prelude.{◌==◌}
use Rattle.core_rules.proofs.Live.{one_each_filtered, one_each_like, one_settled, triples_with}
use Rattle.core_rules.proofs.Moves.{Aside, Ended, Gone, Marked, Moved, Noted, Took, accepts}
use Rattle.core_rules.specs.Core.{CoreState, with_job}
use Rattle.core_rules.specs.Laws.{OneEach}
use Rattle.core_rules.specs.Openings.{Durable, opened, start}
use Rattle.core_rules.specs.Replays.{Replays}
use Rattle.core_rules.specs.declared.log.Logged.{Logged}
use Rattle.core_rules.specs.declared.log.Logged.TheVariants as logged
use Rattle.core_rules.specs.declared.done.Done.{Done}
use Rattle.core_rules.specs.Settling.{wanted}
use Rattle.core_rules.specs.Steps.{Accepted, at_time, step}
use Rattle.core_rules.specs.declared.events.Event.{Event}
use Rattle.op_keys.specs.declared.level.Level.{Level}
use Rattle.term_core.specs.declared.program.Program.{Program}

-- ---- what each step keeps holds at the end of a replay

pub kept_by : (P : CoreState → Type 0) → ((s : CoreState) (e : Event) (s' : CoreState) (r : Done) → step s e ≡ Accepted s' r → P s → P s') → (s t : CoreState) (es : List Logged) → Replays s es t → P s → P t
kept_by P k s t [] h p = subst P h p
kept_by P k s t (logged.Accepted e ∷ es) h p = kept_by P k h.0 t es h.3 (k s e h.0 h.1 h.2 p)
kept_by P k s t (logged.Refused e f ∷ es) h p = kept_by P k s t es h.1 p
kept_by P k s t (logged.Ignored e ∷ es) h p = kept_by P k s t es h.1 p

-- two replays, one after the other
pub replays_then : (s u t : CoreState) (es fs : List Logged) → Replays s es u → Replays u fs t → Replays s (es ++ fs) t
replays_then s u t [] fs h k = subst (λ z. Replays z fs t) (sym h) k
replays_then s u t (logged.Accepted e ∷ es) fs h k = (h.0, h.1, h.2, replays_then h.0 u t es fs h.3 k)
replays_then s u t (logged.Refused e f ∷ es) fs h k = (h.0, replays_then s u t es fs h.1 k)
replays_then s u t (logged.Ignored e ∷ es) fs h k = (h.0, replays_then s u t es fs h.1 k)

-- ---- one live job of an operation and key

one_moved : (s t : CoreState) → Moved s t → OneEach s.jobs → OneEach t.jobs
one_moved s t (Aside f jobs rows tickets) h = subst OneEach (sym jobs) h
one_moved s t (Noted f n g same jobs rows tickets) h = subst OneEach (sym jobs) (one_each_like s.jobs (with_job n g s.jobs) (triples_with n g s.jobs same.triple) h)
one_moved s t (Gone f n j is jobs rows tickets) h = subst OneEach (sym jobs) (one_each_filtered (λ i. not (i.number == j.number)) s.jobs h)
one_moved s t (Ended f n j is jobs k r fin num rows tickets) h = subst OneEach (sym jobs) (one_each_filtered (λ i. not (i.number == j.number)) s.jobs h)
one_moved s t (Marked f jobs k r is rows tickets) h = subst OneEach (sym jobs) h
one_moved s t (Took w n j p is new) h = subst (λ z. OneEach z.jobs) (sym new) (one_each_like s.jobs (with_job j.number (λ k. record k { worker = Some w }) s.jobs) (triples_with j.number (λ k. record k { worker = Some w }) s.jobs (λ _. refl)) h)

pub one_step : (s : CoreState) (e : Event) (s' : CoreState) (r : Done) → step s e ≡ Accepted s' r → OneEach s.jobs → OneEach s'.jobs
one_step s e s' r h one =
    let a = accepts s e s' r h in
    subst (λ z. OneEach z.jobs) (sym a.new) (one_settled (wanted a.own.state) a.own.state a.after a.settled (one_moved (at_time s e.at) a.own.state a.moved one))

pub one_start : (program : Program) (durable : Durable) (threshold : Option Level) (reading : ℕ) (s : CoreState) → start program durable threshold reading ≡ Some s → OneEach s.jobs
unfolding start
one_start program durable threshold reading s h = one_settled (wanted (opened program durable threshold reading)) (opened program durable threshold reading) s h tt
