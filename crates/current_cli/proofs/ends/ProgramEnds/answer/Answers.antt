use Rattle.std.proofs.Common.{refl}
use Rattle.current_cli.specs.Calls.{given_by}
use Rattle.current_cli.proofs.ends.ProgramEnds.answer.Goals as goal

pub returns-clause-run : goal.returns-clause-run
returns-clause-run g c =
    let self = c.args.self.now in
    (rw c.as_str-path.ensures at c.report.ensures.run) (given_by g.S.Source.left g.M.Keepers.held g.C.Clock.readings g.F.Files.held self)
    (g.L.Launcher.runs self.ends.launcher) refl

pub returns-clause-cause : goal.returns-clause-cause
returns-clause-cause g c =
    let self = c.args.self.now in
    c.report.ensures.cause (g.S.Source.faults self.input) (g.F.Files.faults self.ends.files)
