-- What a step keeps of a state's program, and that the next number never falls.
use Rattle.std.proofs.Common.{◌≡◌, ℕ, ◌≤◌, List, Option, Some, ap, ◌∙◌, arith}
use Rattle.value_core.specs.declared.state.Triple.{Triple}
use Rattle.op_keys.specs.declared.level.Level.{Level}
use Rattle.term_core.specs.declared.program.Program.{Program}
use Rattle.core_rules.specs.declared.done.Done.{Done}
use Rattle.core_rules.specs.declared.events.Event.{Event}
use Rattle.core_rules.specs.Core.{CoreState}
use Rattle.core_rules.specs.Openings.{Durable, opened, start}
use Rattle.core_rules.specs.Settling.{dropped, lost_marked, settle_for, targets, wanted}
use Rattle.core_rules.specs.Steps.{Accepted, at_time, step}
use Rattle.core_rules.proofs.Moves.{accepts}
use Rattle.core_rules.proofs.Numbers.{frame_of}
use Rattle.core_rules.proofs.Settling.{kept_by_creating, same_settled}

-- ---- the program

pub opened_program : (program : Program) (durable : Durable) (threshold : Option Level) (reading : ℕ) (s : CoreState) → start program durable threshold reading ≡ Some s → s.program ≡ program
unfolding start
opened_program program durable threshold reading s e = (same_settled (wanted (opened program durable threshold reading)) (opened program durable threshold reading) s e).program

pub own_program : (s : CoreState) (e : Event) (s' : CoreState) (r : Done) (h : step s e ≡ Accepted s' r) → (accepts s e s' r h).own.state.program ≡ s.program
own_program s e s' r h = let a = accepts s e s' r h in (frame_of (at_time s e.at) a.own.state a.moved).program

pub step_program : (s : CoreState) (e : Event) (s' : CoreState) (r : Done) → step s e ≡ Accepted s' r → s'.program ≡ s.program
step_program s e s' r h = let a = accepts s e s' r h in ap (λ z. z.program) a.new ∙ (same_settled (wanted a.own.state) a.own.state a.after a.settled).program ∙ own_program s e s' r h

-- ---- the next number

pub next_kept : (n : ℕ) (ws : List Triple) (s s' : CoreState) → settle_for ws s ≡ Some s' → n ≤ s.next → n ≤ s'.next
next_kept n ws s s' e b = kept_by_creating (λ z. n ≤ z.next) (λ z u _ _ p. omega (arith, p)) (lost_marked ws (dropped ws s)) s' (targets ws s.jobs) e b

pub next_rises : (s : CoreState) (e : Event) (s' : CoreState) (r : Done) → step s e ≡ Accepted s' r → s.next ≤ s'.next
next_rises s e s' r h =
    let a = accepts s e s' r h in
    let own : a.own.state.next ≡ s.next = (frame_of (at_time s e.at) a.own.state a.moved).next in
    let new : s'.next ≡ a.after.next = ap (λ z. z.next) a.new in
    let kept = next_kept s.next (wanted a.own.state) a.own.state a.after a.settled (omega (arith, own)) in
    omega (arith, kept, new)
