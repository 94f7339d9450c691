use Rattle.std.proofs.Common.{◌≡◌, ◌<◌, ◌≤◌}
use Rattle.std.specs.Io.KnownBytes.{prepend_known}
use Rattle.session_core.specs.Doing.{counts, seen}
use Rattle.session_core.specs.Numbers.{counting}
use Rattle.session_core.specs.inside.ReadLines.{HasRead}
use Rattle.session_core.proofs.session.Session.all_lines.Given as goal

abbrev pub invariant-lines : goal.invariant-lines
invariant-lines g l =
    let m = seen g.K.Keeper.known g.O.Sink.written g.L.Launcher.runs g.C.Clock.readings g.F.Files.held l.fn.self l.fn.ends in
    let n = seen g.K.Keeper.known g.O.Sink.written g.L.Launcher.runs g.C.Clock.readings g.F.Files.held l.self l.ends in
    record {
      more : 0 < l.left;
      bound : l.left ≤ 1000000;
      so_far : HasRead (counting g.N.Numbering.shows) (g.S.Source.left l.fn.input) (prepend_known l.reader (g.S.Source.left l.input)) l.left m n;
      source : g.S.Source.faults l.input ≡ g.S.Source.faults l.fn.input;
      kept : (counts g.K.Keeper.faults g.O.Sink.faults g.F.Files.faults l.self l.ends) ≡ (counts g.K.Keeper.faults g.O.Sink.faults g.F.Files.faults l.fn.self l.fn.ends);
    }

abbrev pub decreases-lines : goal.decreases-lines
decreases-lines g l = l.left
