-- The bounds of each state that is reached.
use Rattle.std.proofs.Common.{◌≡◌, ℕ, ◌+◌, ◌<◌, ◌≤◌, ◌^◌, max, min, List, [], ◌∷◌, Option, Some, refl, ap, sym, ◌∙◌, subst, arith}
use Rattle.std.specs.Prelude.{length}
use Rattle.std.specs.List.{AllByRecursion}
use Rattle.value_core.specs.declared.state.Triple.{Triple}
use Rattle.op_keys.specs.declared.level.Level.{Level}
use Rattle.term_core.specs.Limits.{IsWithinLimits}
use Rattle.term_core.specs.Soundness.{IsSound}
use Rattle.term_core.specs.declared.program.Program.{Program}
use Rattle.term_check.specs.Laws.{IsWantable}
use Rattle.term_check.proofs.FittingWants.{wants_wantable}
use Rattle.core_rules.specs.declared.done.Done.{Done}
use Rattle.core_rules.specs.declared.events.Event.{Event}
use Rattle.core_rules.specs.declared.jobs.Job.{Job}
use Rattle.core_rules.specs.Bounds.{IsBounded}
use Rattle.core_rules.specs.Core.{CoreState}
use Rattle.core_rules.specs.Entries.{wants, world}
use Rattle.core_rules.specs.Openings.{Durable, opened, start}
use Rattle.core_rules.specs.Replays.{Leads}
use Rattle.core_rules.specs.Settling.{settle, wanted}
use Rattle.term_core.specs.Counts.{in_order}
use Rattle.core_rules.specs.Steps.{Accepted, step}
use Rattle.core_rules.proofs.Moves.{accepts}
use Rattle.core_rules.proofs.Settling.{settled_fresh}
use Rattle.engine_rules.specs.Proper.{IsProperCore, IsProperDurable, IsProperWhat}
use Rattle.engine_rules.specs.Reached.{IsTripleWithin, IsWithinBounds}
use Rattle.engine_rules.proofs.JobTriples.{of_jobs_at_opening, of_jobs_through_steps}
use Rattle.engine_rules.proofs.KeptRows.{all_in_order, wants_are_declared}
use Rattle.engine_rules.proofs.ProperStates.{proper_at_opening, proper_through_steps, world_short}
use Rattle.core_rules.proofs.Programs.{opened_program, step_program}

both_all : (p : Program) (ts : List Triple) → AllByRecursion (λ (t : Triple). t.op < length p.ops) ts → AllByRecursion (IsWantable p) ts → AllByRecursion (IsTripleWithin p) ts
both_all p [] d f = tt
both_all p (t ∷ ts) d f = (record { declared = d.0; wantable = f.0 }, both_all p ts d.1 f.1)

-- what is wanted in a proper state is within the bounds
wants_within : (p : Program) (s : CoreState) → s.program ≡ p → IsSound p → IsProperCore s → AllByRecursion (IsTripleWithin p) (wanted s)
wants_within p s is sound proper =
    let own : IsSound s.program = subst IsSound (sym is) sound in
    let wantable = all_in_order (IsWantable s.program) (wants s) (wants_wantable s.program s.inputs (world s) own proper.inputs (world_short s proper.rows)) in
    subst (λ q. AllByRecursion (IsTripleWithin q) (wanted s)) is (both_all s.program (wanted s) (wants_are_declared s own) wantable)

wanted_settled : (s s' : CoreState) → settle s ≡ Some s' → wanted s' ≡ wanted s
wanted_settled s s' e = ap (λ f. in_order f.wants) (settled_fresh s s' e)

pub bounds_at_opening : (program : Program) (durable : Durable) (threshold : Option Level) (reading : ℕ) (s : CoreState) → IsSound program → IsWithinLimits program → IsProperDurable durable →
    start program durable threshold reading ≡ Some s → IsWithinBounds s
unfolding start
bounds_at_opening program durable threshold reading s sound limits d e =
    let o : CoreState = opened program durable threshold reading in
    let is = opened_program program durable threshold reading s e in
    let proper = proper_at_opening program durable threshold reading s limits d e in
    let wanted_now = wants_within program s is sound proper in
    let first : AllByRecursion (IsTripleWithin program) (wanted o) = subst (AllByRecursion (IsTripleWithin program)) (wanted_settled o s e) wanted_now in
    let jobs = of_jobs_at_opening (IsTripleWithin program) program durable threshold reading s e first in
    record {
      sound = subst IsSound (sym is) sound;
      limits = subst IsWithinLimits (sym is) limits;
      proper = proper;
      wants = subst (λ q. AllByRecursion (IsTripleWithin q) (wanted s)) (sym is) wanted_now;
      jobs = subst (λ q. AllByRecursion (λ (j : Job). IsTripleWithin q j.triple) s.jobs) (sym is) jobs;
    }

wanted_renumbered : (s : CoreState) (version : ℕ) → wanted (record s { version = version }) ≡ wanted s
wanted_renumbered s version = refl

pub bounds_through_steps : (s : CoreState) (e : Event) (s' : CoreState) (r : Done) → step s e ≡ Accepted s' r → IsProperWhat e.what → IsWithinBounds s → IsWithinBounds s'
bounds_through_steps s e s' r h w b =
    let a = accepts s e s' r h in
    let is = step_program s e s' r h in
    let proper = proper_through_steps s e s' r h b.jobs w b.proper in
    let wanted_now = wants_within s.program s' is b.sound proper in
    let same : wanted s' ≡ wanted a.own.state = ap wanted a.new ∙ wanted_renumbered a.after (s.version + 1) ∙ wanted_settled a.own.state a.after a.settled in
    let jobs = of_jobs_through_steps (IsTripleWithin s.program) s e s' r h (subst (AllByRecursion (IsTripleWithin s.program)) same wanted_now) b.jobs in
    record {
      sound = subst IsSound (sym is) b.sound;
      limits = subst IsWithinLimits (sym is) b.limits;
      proper = proper;
      wants = subst (λ q. AllByRecursion (IsTripleWithin q) (wanted s')) (sym is) wanted_now;
      jobs = subst (λ q. AllByRecursion (λ (j : Job). IsTripleWithin q j.triple) s'.jobs) (sym is) jobs;
    }

led : (s : CoreState) (es : List Event) (t : CoreState) → Leads s es t → AllByRecursion (λ (e : Event). IsProperWhat e.what) es → IsWithinBounds s → IsWithinBounds t
led s [] t l w b = subst IsWithinBounds l b
led s (e ∷ es) t (after, r, h, l) (w, ws) b = led after es t l ws (bounds_through_steps s e after r h w b)

pub bounds_where_reached : (program : Program) (durable : Durable) (threshold : Option Level) (reading : ℕ) (s : CoreState) (es : List Event) (t : CoreState) →
    IsSound program → IsWithinLimits program → IsProperDurable durable → start program durable threshold reading ≡ Some s →
    Leads s es t → AllByRecursion (λ (e : Event). IsProperWhat e.what) es → IsWithinBounds t
bounds_where_reached program durable threshold reading s es t sound limits d e l w = led s es t l w (bounds_at_opening program durable threshold reading s sound limits d e)

pub moments_are_times : (s : CoreState) (reading : ℕ) → IsBounded s → (max s.now (min reading (2 ^ 60)) ≤ 2 ^ 60) × (s.now ≤ max s.now (min reading (2 ^ 60)))
moments_are_times s reading b = let n = b.now in (omega (arith, n), omega arith)
