use Rattle.std.proofs.Common.{◌≡◌, ◌-◌, ◌≤◌, length}
use Rattle.session_core.specs.Doing.{counts, seen}
use Rattle.session_core.specs.Numbers.{counting}
use Rattle.session_core.specs.inside.Rounds.{Watched}
use Rattle.session_core.proofs.session.Session.watch_all.Given as goal

abbrev pub invariant-loop-input : goal.invariant-loop-input
invariant-loop-input g l = record {
  range : l.input ≤ l.count;
  count : l.count ≡ length l.fn.self.desk.engine.core.program.inputs;
  so_far : Watched (counting g.N.Numbering.shows) l.fn.self.desk.engine.core.program.inputs l.input (seen g.K.Keeper.known g.O.Sink.written g.L.Launcher.runs g.C.Clock.readings g.F.Files.held l.fn.self l.fn.ends) (seen g.K.Keeper.known g.O.Sink.written g.L.Launcher.runs g.C.Clock.readings g.F.Files.held l.self l.ends);
  program : l.self.desk.engine.core.program ≡ l.fn.self.desk.engine.core.program;
  kept : (counts g.K.Keeper.faults g.O.Sink.faults g.F.Files.faults l.self l.ends) ≡ (counts g.K.Keeper.faults g.O.Sink.faults g.F.Files.faults l.fn.self l.fn.ends);
}

abbrev pub decreases-loop-input : goal.decreases-loop-input
decreases-loop-input g l = l.count - l.input
