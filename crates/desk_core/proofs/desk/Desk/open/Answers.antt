use Rattle.std.proofs.Common.{◌∙◌, ◌+◌, ℕ, ap, refl, subst, sym}
use Rattle.desk_core.specs.declared.faults.DeskFault.{DeskFault}
use Rattle.desk_core.specs.Desk.{IsNotOpened, start_in}
use Rattle.desk_core.proofs.Calls.{desk_opened, opening_fails, opening_refused, ticks_opened}
use Rattle.desk_core.proofs.Openable.{durable_proper}
use Rattle.desk_core.proofs.desk.Desk.open.Goals as goal

pub open-requires-clause-proper : goal.open-requires-clause-proper
open-requires-clause-proper g c = durable_proper c.in-Ok.durable c.in-Ok.ensures.read.openable

pub returns-in-Err-open-clause-fault : goal.returns-in-Err-open-clause-fault
returns-in-Err-open-clause-fault g c =
    let opens = start_in c.args.checked c.args.threshold c.args.at in
    subst (λ (f : DeskFault). IsNotOpened g.K.Keeper.known g.K.Keeper.faults opens c.args.keeper c.load_durable.new.keeper f) (sym c.from.ensures)
    (opening_refused g.K.Keeper.known g.K.Keeper.faults opens c.args.keeper c.load_durable.new.keeper c.in-Ok.durable c.in-Err-open.refusal c.in-Ok.ensures.read c.in-Err-open.ensures.unopened)

pub returns-in-Err-commit-clause-fault : goal.returns-in-Err-commit-clause-fault
returns-in-Err-commit-clause-fault g c =
    let opens = start_in c.args.checked c.args.threshold c.args.at in
    subst (λ (f : DeskFault). IsNotOpened g.K.Keeper.known g.K.Keeper.faults opens c.args.keeper c.commit.new.self f) (sym c.from-in-Err-commit.ensures)
    (opening_fails g.K.Keeper.known g.K.Keeper.faults c.args.checked c.args.threshold c.args.at c.args.keeper c.load_durable.new.keeper c.commit.new.self c.in-Ok.durable c.in-Ok-open.opened.0.core c.in-Ok-open.opened.1 c.in-Ok.ensures.read
    c.in-Ok-open.ensures.opening c.in-Err-commit.fault c.in-Err-commit.ensures.tables c.in-Err-commit.ensures.stop c.in-Err-commit.ensures.cause)

pub returns-clause-opened : goal.returns-clause-opened
returns-clause-opened g c =
    desk_opened g.K.Keeper.known g.K.Keeper.faults c.args.checked c.args.threshold c.args.at c.args.keeper c.load_durable.new.keeper c.commit.new.self c.in-Ok.durable c.in-Ok-open.opened.0.core c.in-Ok-open.opened.1 c.in-Ok.ensures.read
    c.in-Ok-open.ensures.opening c.in-Ok-open.opened.0 refl c.in_default.ensures.tables c.in_default.ensures.cause

pub returns-clause-ticks : goal.returns-clause-ticks
returns-clause-ticks g c =
    let same = ticks_opened c.args.checked c.in-Ok.durable c.args.threshold c.args.at c.in-Ok-open.opened.0.core c.in-Ok-open.ensures.opening.state in
    c.in-Ok-open.ensures.ticks ∙ ap (λ (n : ℕ). c.args.steps.now + n) (sym same)
