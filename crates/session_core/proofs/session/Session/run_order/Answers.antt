use Rattle.std.specs.declared.result.Result.{Result}
use Rattle.session_core.specs.declared.stop.Stop.{Stop}
use Rattle.session_core.specs.declared.stop.Stop.TheVariants as stop
use Rattle.core_rules.specs.declared.notes.Note.TheVariants as note
use Rattle.session_rules.specs.Steps.{run_of}
use Rattle.session_core.specs.Doing.{Plays, scene_of, seen}
use Rattle.session_core.specs.Numbers.{counting}
use Rattle.session_core.proofs.OrderRuns.{not_run, run_plays}
use Rattle.session_core.proofs.Playing.{passed_on}
use Rattle.session_core.proofs.session.Session.run_order.Goals as goal

pub returns-in_err-exit-clause-part : goal.returns-in_err-exit-clause-part
returns-in_err-exit-clause-part g c =
    let P : Result (Unit {0}) Stop → Type 0 = (λ r. Plays (run_of (counting g.N.Numbering.shows) (note.Started c.args.order.now)) (seen g.K.Keeper.known g.O.Sink.written g.L.Launcher.runs g.C.Clock.readings g.F.Files.held c.args.self.now c.args.ends.now) (record { scene = (scene_of c.args.self.now.desk.engine.core c.args.self.now.last (g.C.Clock.readings c.args.ends.now.clock) (g.F.Files.held c.args.ends.now.files)); outside = record { written = g.O.Sink.written c.args.ends.now.out; ran = g.L.Launcher.runs c.run.new.self; keeper = g.K.Keeper.known c.args.self.now.desk.keeper } }) r) in
    passed_on P c.from_residual.result stop.NoMemory c.from_residual.ensures.1 (not_run (run_of (counting g.N.Numbering.shows) (note.Started c.args.order.now)) (scene_of c.args.self.now.desk.engine.core c.args.self.now.last (g.C.Clock.readings c.args.ends.now.clock) (g.F.Files.held c.args.ends.now.files)) (record { written = g.O.Sink.written c.args.ends.now.out; ran = g.L.Launcher.runs c.args.ends.now.launcher; keeper = g.K.Keeper.known c.args.self.now.desk.keeper }) (g.L.Launcher.runs c.run.new.self) c.in_err-exit.ensures.ran)

pub returns-clause-part : goal.returns-clause-part
returns-clause-part g c = run_plays c.run.result (counting g.N.Numbering.shows) c.args.order.now c.in_ok-exit.exit (scene_of c.args.self.now.desk.engine.core c.args.self.now.last (g.C.Clock.readings c.args.ends.now.clock) (g.F.Files.held c.args.ends.now.files)) (record { written = g.O.Sink.written c.args.ends.now.out; ran = g.L.Launcher.runs c.args.ends.now.launcher; keeper = g.K.Keeper.known c.args.self.now.desk.keeper }) (g.L.Launcher.runs c.run.new.self) (seen g.K.Keeper.known g.O.Sink.written g.L.Launcher.runs g.C.Clock.readings g.F.Files.held c.end_order.new.self c.end_order.new.ends) c.end_order.result c.in_ok-exit.was c.run.ensures.ran c.end_order.ensures.part
