use Rattle.std.proofs.Common.{refl}
use Rattle.current_cli.specs.Calls.{seen_by}
use Rattle.current_cli.proofs.Found.{usage_told}
use Rattle.current_cli.proofs.ends.ProgramEnds.usage.Goals as goal

pub returns-clause-run : goal.returns-clause-run
returns-clause-run g c =
    let self = c.args.self.now in
    let see = seen_by g.M.Keepers.knows_left g.M.Keepers.left g.O.Sink.written g.L.Launcher.runs in
    usage_told c.tell.result (g.O.Sink.faults self.ends.out) (g.O.Sink.faults c.tell.new.out) (see self)
    (record {
      written = g.O.Sink.written c.tell.new.out;
      ran = g.L.Launcher.runs self.ends.launcher;
      knows_left = g.M.Keepers.knows_left self.keepers;
      left = g.M.Keepers.left self.keepers;
    })
    c.tell.ensures refl
