use Rattle.std.specs.declared.result.Result.{Result}
use Rattle.session_core.specs.declared.stop.Stop.{Stop}
use Rattle.session_rules.specs.Steps.{all_orders}
use Rattle.session_rules.specs.Watching.{watch_all}
use Rattle.session_core.specs.Doing.{Plays, seen}
use Rattle.session_core.specs.Numbers.{counting}
use Rattle.session_core.specs.inside.ReadLines.{watched_part}
use Rattle.session_core.proofs.Playing.{passed_on, plays_then, stops_first}
use Rattle.session_core.proofs.session.Session.watch_now.Goals as goal

pub returns-in_err-watch_all-clause-part : goal.returns-in_err-watch_all-clause-part
returns-in_err-watch_all-clause-part g c =
    let z : Stop = c.in_err-watch_all.field-0.0 in
    let m = seen g.K.Keeper.known g.O.Sink.written g.L.Launcher.runs g.C.Clock.readings g.F.Files.held c.args.self.now c.args.ends.now in
    let n = seen g.K.Keeper.known g.O.Sink.written g.L.Launcher.runs g.C.Clock.readings g.F.Files.held c.watch_all.new.self c.watch_all.new.ends in
    let P : Result (Unit {0}) Stop → Type 0 = (λ r. Plays (watched_part (counting g.N.Numbering.shows)) m n r) in
    passed_on P c.from_residual.result z c.from_residual.ensures.1 (stops_first (watch_all (counting g.N.Numbering.shows)) (all_orders (counting g.N.Numbering.shows)) z m n c.in_err-watch_all.ensures.part)

pub returns-clause-part : goal.returns-clause-part
returns-clause-part g c =
    let m = seen g.K.Keeper.known g.O.Sink.written g.L.Launcher.runs g.C.Clock.readings g.F.Files.held c.args.self.now c.args.ends.now in
    let n = seen g.K.Keeper.known g.O.Sink.written g.L.Launcher.runs g.C.Clock.readings g.F.Files.held c.watch_all.new.self c.watch_all.new.ends in
    let o = seen g.K.Keeper.known g.O.Sink.written g.L.Launcher.runs g.C.Clock.readings g.F.Files.held c.all_orders.new.self c.all_orders.new.ends in
    plays_then (watch_all (counting g.N.Numbering.shows)) (all_orders (counting g.N.Numbering.shows)) m n o c.all_orders.result c.in_ok-watch_all.ensures.part c.all_orders.ensures.part
