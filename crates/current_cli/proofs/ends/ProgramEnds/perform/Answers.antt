use Rattle.std.proofs.Common.{refl, sym, ap, subst}
use Rattle.std.specs.Prelude.{Some}
use Rattle.store_reports.specs.Ends.{side_of}
use Rattle.made_session.proofs.Printing.{made_caused, made_followed}
use Rattle.command_words.specs.Commands.{IsInRange}
use Rattle.command_words.specs.declared.command.Command.{Command}
use Rattle.current_cli.specs.Calls.{IsCall, counts_by, given_by, seen_by}
use Rattle.current_cli.proofs.Found.{is_check}
use Rattle.current_cli.proofs.ends.ProgramEnds.perform.Goals as goal

pub returns-in-Check-clause-run : goal.returns-in-Check-clause-run
returns-in-Check-clause-run g c =
    let self = c.args.self.now in
    let later = c.check.new.ends in
    let given = given_by g.S.Source.left g.M.Keepers.held g.C.Clock.readings g.F.Files.held self in
    let before = seen_by g.M.Keepers.knows_left g.M.Keepers.left g.O.Sink.written g.L.Launcher.runs self in
    let after =
    record before {
      written = g.O.Sink.written later.out;
      ran = g.L.Launcher.runs later.launcher;
    } in
    subst (λ (command : Command). IsCall (Some command) given c.check.result before after) (sym c.in-Check.is)
    (is_check given c.in-Check.file c.check.result (g.O.Sink.faults self.ends.out) (g.O.Sink.faults later.out) before after
    (rw c.as_str-in-Check.ensures at c.check.ensures.run) (ap g.L.Launcher.runs c.check.ensures.launcher))

pub returns-in-Migrate-clause-run : goal.returns-in-Migrate-clause-run
returns-in-Migrate-clause-run g c =
    let self = c.args.self.now in
    let given = given_by g.S.Source.left g.M.Keepers.held g.C.Clock.readings g.F.Files.held self in
    let before = seen_by g.M.Keepers.knows_left g.M.Keepers.left g.O.Sink.written g.L.Launcher.runs self in
    let after =
    record before {
      written = g.O.Sink.written c.migrate.new.out;
      knows_left = g.M.Keepers.knows_left c.migrate.new.keepers;
      left = g.M.Keepers.left c.migrate.new.keepers;
    } in
    subst (λ (command : Command). IsCall (Some command) given c.migrate.result before after) (sym c.in-Migrate.is)
    ((rw c.as_str-in-Migrate.ensures at c.migrate.ensures.run) given (g.L.Launcher.runs self.ends.launcher) refl)

pub returns-in-Migrate-clause-cause : goal.returns-in-Migrate-clause-cause
returns-in-Migrate-clause-cause g c =
    let self = c.args.self.now in
    c.migrate.ensures.cause (g.S.Source.faults self.input) (g.F.Files.faults self.ends.files)

pub returns-in-Make-clause-run : goal.returns-in-Make-clause-run
returns-in-Make-clause-run g c =
    let self = c.args.self.now in
    let given = given_by g.S.Source.left g.M.Keepers.held g.C.Clock.readings g.F.Files.held self in
    let before = seen_by g.M.Keepers.knows_left g.M.Keepers.left g.O.Sink.written g.L.Launcher.runs self in
    let after = record before { written = g.O.Sink.written c.make.new.out } in
    subst (λ (command : Command). IsCall (Some command) given c.make.result before after) (sym c.in-Make.is)
    (made_followed c.in-Make.nodes c.make.result (g.O.Sink.faults self.ends.out) (g.O.Sink.faults c.make.new.out) before after c.make.ensures refl)

pub returns-in-Make-clause-cause : goal.returns-in-Make-clause-cause
returns-in-Make-clause-cause g c =
    let self = c.args.self.now in
    let count = counts_by g.S.Source.faults g.M.Keepers.faults g.O.Sink.faults g.F.Files.faults self in
    let side = side_of g.O.Sink.written g.O.Sink.faults in
    made_caused c.in-Make.nodes c.make.result (side self.ends.out) (side c.make.new.out) count c.make.ensures refl

pub make-requires : goal.make-requires
make-requires g c =
    let range = subst IsInRange c.in-Make.is c.requires.range in
    record { some = range.0; few = range.1 }
