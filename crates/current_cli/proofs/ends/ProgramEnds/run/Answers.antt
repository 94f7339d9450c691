use Rattle.std.proofs.Common.{ap}
use Rattle.io_ends.specs.Causes.{SinkSide}
use Rattle.session_core.specs.Numbers.{counting}
use Rattle.current_cli.specs.Calls.{given_by, seen_by}
use Rattle.current_cli.proofs.Found.{is_refused, is_sound, same_run}
use Rattle.current_cli.proofs.ends.ProgramEnds.run.Goals as goal

pub returns-in-Ok-clause-run : goal.returns-in-Ok-clause-run
returns-in-Ok-clause-run g c =
    let self = c.args.self.now in
    let later = c.find_program.new.ends in
    let given = given_by g.S.Source.left g.M.Keepers.held g.C.Clock.readings g.F.Files.held self in
    let see = seen_by g.M.Keepers.knows_left g.M.Keepers.left g.O.Sink.written g.L.Launcher.runs in
    is_sound (g.F.Files.held later.files) c.in-Ok.checked c.args.path.now c.args.options.store c.args.options.threshold (counting c.args.options.count) given c.run_program.result
    (see self) (see c.run_program.new.self) c.in-Ok.ensures.program.0 c.in-Ok.ensures.taken
    (same_run c.in-Ok.checked c.args.options.store c.args.options.threshold (counting c.args.options.count) given.bytes _ given.readings (g.F.Files.held later.files) given.held c.run_program.result
    _ (see self).written _ (see self).ran (see self).knows_left (see self).left (see c.run_program.new.self)
    (ap g.C.Clock.readings c.find_program.ensures.clock) (ap (λ (x : SinkSide). x.written) c.in-Ok.ensures.program.1) (ap g.L.Launcher.runs c.find_program.ensures.launcher) c.run_program.ensures.run)

pub returns-in-Err-clause-run : goal.returns-in-Err-clause-run
returns-in-Err-clause-run g c =
    let self = c.args.self.now in
    let later = c.find_program.new.ends in
    is_refused c.args.path.now c.args.options.store c.args.options.threshold (counting c.args.options.count)
    (given_by g.S.Source.left g.M.Keepers.held g.C.Clock.readings g.F.Files.held self) c.in-Err.status (g.O.Sink.faults self.ends.out) (g.O.Sink.faults later.out)
    (seen_by g.M.Keepers.knows_left g.M.Keepers.left g.O.Sink.written g.L.Launcher.runs self)
    (record {
      written = g.O.Sink.written later.out;
      ran = g.L.Launcher.runs later.launcher;
      knows_left = g.M.Keepers.knows_left self.keepers;
      left = g.M.Keepers.left self.keepers;
    })
    c.in-Err.ensures.program (ap g.L.Launcher.runs c.find_program.ensures.launcher) (λ knows x left. left)
