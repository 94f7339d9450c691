use Rattle.std.proofs.Common.{sym, subst, ◌∙◌}
use Rattle.std.specs.Prelude.{IsTrue, Option, Some}
use Rattle.command_words.specs.declared.command.Command.{Command}
use Rattle.current_cli.specs.Calls.{CanBeDone, IsWhole, NoneRose, OpensStore, counts_by, given_by, seen_by}
use Rattle.current_cli.proofs.Unread.{unread_call}
use Rattle.current_cli.proofs.Whole.{completes}
use Rattle.current_cli.proofs.top.top.Goals as goal

pub returns-in-Ok-Some-clause-complete : goal.returns-in-Ok-Some-clause-complete
returns-in-Ok-Some-clause-complete g c =
    let program = c.args.program.now in
    let later = c.perform.new.self in
    let given = given_by g.S.Source.left g.M.Keepers.held g.C.Clock.readings g.F.Files.held program in
    let see = seen_by g.M.Keepers.knows_left g.M.Keepers.left g.O.Sink.written g.L.Launcher.runs in
    let count = counts_by g.S.Source.faults g.M.Keepers.faults g.O.Sink.faults g.F.Files.faults in
    subst (λ (command : Option Command). CanBeDone command given → NoneRose (count program) (count later) → (OpensStore command → IsTrue (g.M.Keepers.knows_left later.keepers)) → IsWhole command c.perform.result)
    (sym c.in-Ok-Some.field-0-is ∙ c.in-Ok-Some.ensures.command)
    (λ can none knows. completes (Some c.in-Ok-Some.command) given c.perform.result (see program) (see later) (count program) (count later) c.perform.ensures.run c.perform.ensures.cause can none knows)

pub returns-in-Err-clause-run : goal.returns-in-Err-clause-run
returns-in-Err-clause-run g c =
    let program = c.args.program.now in
    unread_call _ (given_by g.S.Source.left g.M.Keepers.held g.C.Clock.readings g.F.Files.held program)
    (seen_by g.M.Keepers.knows_left g.M.Keepers.left g.O.Sink.written g.L.Launcher.runs program)
