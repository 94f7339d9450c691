use Rattle.std.specs.declared.result.Result.{Result}
use Rattle.std.specs.declared.result.Result.TheVariants.{Err}
use Rattle.session_rules.specs.Parts.{then_do}
use Rattle.session_rules.specs.Steps.{all_orders}
use Rattle.session_rules.specs.Watching.{watch_all}
use Rattle.session_core.specs.declared.stop.Stop.{Stop}
use Rattle.session_core.specs.Doing.{Plays, seen}
use Rattle.session_core.specs.Numbers.{counting}
use Rattle.session_core.specs.inside.Opening.{after_commit, opening_lines}
use Rattle.session_core.proofs.Playing.{passed_on, plays_then, stops_first}
use Rattle.session_core.proofs.session.Session.begin.Goals as goal

pub returns-in_err-show_opening-clause-part : goal.returns-in_err-show_opening-clause-part
returns-in_err-show_opening-clause-part g c =
    let z : Stop = c.in_err-show_opening.field-0.0 in
    let counts = counting g.N.Numbering.shows in
    let m = seen g.K.Keeper.known g.O.Sink.written g.L.Launcher.runs g.C.Clock.readings g.F.Files.held c.args.self.now c.args.ends.now in
    let n = seen g.K.Keeper.known g.O.Sink.written g.L.Launcher.runs g.C.Clock.readings g.F.Files.held c.args.self.now c.show_opening.new.ends in
    let P : Result (Unit {0}) Stop → Type 0 = (λ r. Plays (after_commit counts) m n r) in
    passed_on P c.from_residual.result z c.from_residual.ensures.1
    (stops_first (opening_lines counts) (then_do (watch_all counts) (all_orders counts)) z m n c.in_err-show_opening.ensures.part)

pub returns-in_err-watch_all-clause-part : goal.returns-in_err-watch_all-clause-part
returns-in_err-watch_all-clause-part g c =
    let z : Stop = c.in_err-watch_all.field-0.0 in
    let counts = counting g.N.Numbering.shows in
    let m = seen g.K.Keeper.known g.O.Sink.written g.L.Launcher.runs g.C.Clock.readings g.F.Files.held c.args.self.now c.args.ends.now in
    let n = seen g.K.Keeper.known g.O.Sink.written g.L.Launcher.runs g.C.Clock.readings g.F.Files.held c.args.self.now c.show_opening.new.ends in
    let o = seen g.K.Keeper.known g.O.Sink.written g.L.Launcher.runs g.C.Clock.readings g.F.Files.held c.watch_all.new.self c.watch_all.new.ends in
    let P : Result (Unit {0}) Stop → Type 0 = (λ r. Plays (after_commit counts) m o r) in
    let stopped : Result (Unit {0}) Stop = Err z in
    passed_on P c.from_residual-in_err-watch_all.result z c.from_residual-in_err-watch_all.ensures.1
    (plays_then (opening_lines counts) (then_do (watch_all counts) (all_orders counts)) m n o stopped c.in_ok-show_opening.ensures.part
    (stops_first (watch_all counts) (all_orders counts) z n o c.in_err-watch_all.ensures.part))

pub returns-clause-part : goal.returns-clause-part
returns-clause-part g c =
    let counts = counting g.N.Numbering.shows in
    let m = seen g.K.Keeper.known g.O.Sink.written g.L.Launcher.runs g.C.Clock.readings g.F.Files.held c.args.self.now c.args.ends.now in
    let n = seen g.K.Keeper.known g.O.Sink.written g.L.Launcher.runs g.C.Clock.readings g.F.Files.held c.args.self.now c.show_opening.new.ends in
    let o = seen g.K.Keeper.known g.O.Sink.written g.L.Launcher.runs g.C.Clock.readings g.F.Files.held c.watch_all.new.self c.watch_all.new.ends in
    let p = seen g.K.Keeper.known g.O.Sink.written g.L.Launcher.runs g.C.Clock.readings g.F.Files.held c.all_orders.new.self c.all_orders.new.ends in
    plays_then (opening_lines counts) (then_do (watch_all counts) (all_orders counts)) m n p c.all_orders.result c.in_ok-show_opening.ensures.part
    (plays_then (watch_all counts) (all_orders counts) n o p c.all_orders.result c.in_ok-watch_all.ensures.part c.all_orders.ensures.part)
