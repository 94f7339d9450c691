use Rattle.std.specs.declared.result.Result.{Result}
use Rattle.session_core.specs.declared.stop.Stop.{Stop}
use Rattle.session_core.specs.Doing.{seen}
use Rattle.session_core.specs.Numbers.{counting}
use Rattle.session_core.specs.inside.Opening.{DoesCommitted}
use Rattle.session_core.proofs.Beginnings.{begin_stops, if_done, then_counted, then_lines}
use Rattle.session_core.proofs.Playing.{passed_on}
use Rattle.session_core.proofs.session.Session.run.Goals as goal

pub returns-in_err-begin-clause-script : goal.returns-in_err-begin-clause-script
returns-in_err-begin-clause-script g c =
    let z : Stop = c.in_err-begin.field-0.0 in
    let counts = counting g.N.Numbering.shows in
    let m = seen g.K.Keeper.known g.O.Sink.written g.L.Launcher.runs g.C.Clock.readings g.F.Files.held c.args.self.now c.args.ends.now in
    let n = seen g.K.Keeper.known g.O.Sink.written g.L.Launcher.runs g.C.Clock.readings g.F.Files.held c.begin.new.self c.begin.new.ends in
    let P : Result (Unit {0}) Stop → Type 0 = (λ r. DoesCommitted counts (g.S.Source.left c.args.input.now) m n r) in
    passed_on P c.from_residual.result z c.from_residual.ensures.1 (begin_stops (Unit {0}) counts (g.S.Source.left c.args.input.now) z m n c.in_err-begin.ensures.part)

pub returns-clause-script : goal.returns-clause-script
returns-clause-script g c =
    let counts = counting g.N.Numbering.shows in
    let m = seen g.K.Keeper.known g.O.Sink.written g.L.Launcher.runs g.C.Clock.readings g.F.Files.held c.args.self.now c.args.ends.now in
    let n = seen g.K.Keeper.known g.O.Sink.written g.L.Launcher.runs g.C.Clock.readings g.F.Files.held c.begin.new.self c.begin.new.ends in
    let o = seen g.K.Keeper.known g.O.Sink.written g.L.Launcher.runs g.C.Clock.readings g.F.Files.held c.all_lines.new.self c.all_lines.new.ends in
    then_lines counts (g.S.Source.left c.args.input.now) m n o c.all_lines.result c.in_ok-begin.ensures.part c.all_lines.ensures.lines

pub returns-clause-version : goal.returns-clause-version
returns-clause-version g c =
    let counts = counting g.N.Numbering.shows in
    let m = seen g.K.Keeper.known g.O.Sink.written g.L.Launcher.runs g.C.Clock.readings g.F.Files.held c.args.self.now c.args.ends.now in
    let n = seen g.K.Keeper.known g.O.Sink.written g.L.Launcher.runs g.C.Clock.readings g.F.Files.held c.begin.new.self c.begin.new.ends in
    let o = seen g.K.Keeper.known g.O.Sink.written g.L.Launcher.runs g.C.Clock.readings g.F.Files.held c.all_lines.new.self c.all_lines.new.ends in
    if_done c.all_lines.result (then_counted counts (g.S.Source.left c.args.input.now) m n o c.all_lines.new.self.desk.engine.core.version c.in_ok-begin.ensures.part) c.all_lines.ensures.version
