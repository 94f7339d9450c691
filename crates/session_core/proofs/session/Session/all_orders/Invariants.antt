use Rattle.std.proofs.Common.{◌≡◌}
use Rattle.session_core.specs.Doing.{counts, seen}
use Rattle.session_core.specs.Numbers.{counting}
use Rattle.session_core.specs.inside.Rounds.{Led}
use Rattle.session_core.proofs.session.Session.all_orders.Given as goal

abbrev pub invariant-loop-left : goal.invariant-loop-left
invariant-loop-left g l = record {
  so_far : Led (counting g.N.Numbering.shows) l.left (seen g.K.Keeper.known g.O.Sink.written g.L.Launcher.runs g.C.Clock.readings g.F.Files.held l.fn.self l.fn.ends) (seen g.K.Keeper.known g.O.Sink.written g.L.Launcher.runs g.C.Clock.readings g.F.Files.held l.self l.ends);
  kept : (counts g.K.Keeper.faults g.O.Sink.faults g.F.Files.faults l.self l.ends) ≡ (counts g.K.Keeper.faults g.O.Sink.faults g.F.Files.faults l.fn.self l.fn.ends);
}

abbrev pub decreases-loop-left : goal.decreases-loop-left
decreases-loop-left g l = l.left
