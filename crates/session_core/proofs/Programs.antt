-- The program stays the same.
use Rattle.std.proofs.Common.{◌≡◌, ℕ, refl, ap, ◌∙◌}
use Rattle.core_rules.specs.declared.done.Done.{Done}
use Rattle.core_rules.specs.declared.events.Event.{Event}
use Rattle.core_rules.specs.Core.{CoreState}
use Rattle.core_rules.specs.Steps.{Answer, Refused, Idle, Accepted, step}
use Rattle.core_rules.proofs.Programs.{step_program}
use Rattle.keeper_core.specs.KeeperCalls.{Known}
use Rattle.engine_core.specs.Answers.{Meets}
use Rattle.desk_core.specs.Desk.{DeskState, IsApplied, IsNotApplied}
use Rattle.desk_core.specs.declared.faults.DeskFault.{DeskFault}
use Rattle.desk_core.specs.declared.faults.DeskFault.TheVariants as fault

module _ {K : Type 0} (known : K → Known) (faults : K → ℕ) (e : Event) (d d' : DeskState K) where
  meets_program : (a : Answer) (done : Done) → step d.engine.core e ≡ a → Meets a d.engine.core d'.engine.core done → d'.engine.core.program ≡ d.engine.core.program
  meets_program (Refused r) done is m = absurd m
  meets_program (Idle r) done is m = ap (λ (c : CoreState). c.program) m.0
  meets_program (Accepted t r) done is m = ap (λ (c : CoreState). c.program) m.0 ∙ step_program d.engine.core e t r is

  -- a step leaves it
  pub applied_program : (done : Done) → IsApplied known faults e d d' done → d'.engine.core.program ≡ d.engine.core.program
  applied_program done a = meets_program (step d.engine.core e) done refl a.made

  -- and so does one that was not made
  pub unapplied_program : (x : DeskFault) → IsNotApplied known faults e d d' x → d'.engine.core.program ≡ d.engine.core.program
  unapplied_program (fault.Refused r) u = ap (λ (c : CoreState). c.program) u.core
  unapplied_program fault.Keeper u = ap (λ (c : CoreState). c.program) u.core
  unapplied_program (fault.BadRow table n) u = absurd u
  unapplied_program (fault.Closed by) u = ap (λ (x : DeskState K). x.engine.core.program) u.1
  unapplied_program fault.NoMemory u = ap (λ (c : CoreState). c.program) u.core
