use Rattle.std.proofs.Common.{Option, refl, subst, sym}
use Rattle.std.specs.Prelude.{IfSome}
use Rattle.core_rules.specs.declared.done.Delta.{Delta}
use Rattle.keeper_core.specs.Commits.{IsCommittable}
use Rattle.engine_core.specs.Plans.{delta_planned}
use Rattle.desk_core.specs.declared.faults.DeskFault.{DeskFault}
use Rattle.desk_core.specs.Desk.{DeskState, IsNotApplied}
use Rattle.desk_core.specs.inside.Faults.{closed_after}
use Rattle.desk_core.proofs.Calls.{step_unstored}
use Rattle.desk_core.proofs.Committable.{stored_committable}
use Rattle.desk_core.proofs.desk.Desk.apply.Goals as goal

pub commit_planned-requires : goal.commit_planned-requires
commit_planned-requires g c =
    subst (λ (o : Option Delta). IfSome o IsCommittable) (sym c.in_ok-planned.ensures.stored) (stored_committable c.self.inside.engine.core c.args.event c.engine_law.ensures.invariant)

pub returns-in-Err-clause-fault : goal.returns-in-Err-clause-fault
returns-in-Err-clause-fault g c =
    let i = c.self.inside in
    let known = g.K.Keeper.known in
    let faults = g.K.Keeper.faults in
    let old : DeskState g.row.K.Denot = record { engine = i.engine; keeper = i.keeper; closed = i.closed } in
    let new : DeskState g.row.K.Denot = record { engine = c.plan.new.self; keeper = c.commit_planned.new.keeper; closed = closed_after c.in-Err.fault i.closed } in
    let unstored = step_unstored known faults c.args.event old new (delta_planned c.in_ok-planned.planned) c.in-Err.fault c.in_default.is c.in_ok-planned.ensures.stored c.in-Err.ensures.stored c.in-Err.ensures.cause c.in_ok-planned.ensures.core refl in
    subst (λ (x : DeskState g.row.K.Denot × DeskState g.row.K.Denot × DeskFault). IsNotApplied known faults c.args.event x.0 x.1 x.2)
    (λ j. (c.self.view_is j, sym c.give_up.ensures.closed j, sym c.give_up.ensures.fault j)) unstored
