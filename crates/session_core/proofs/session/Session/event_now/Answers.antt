use Rattle.std.specs.declared.result.Result.{Result}
use Rattle.session_core.specs.declared.stop.Stop.{Stop}
use Rattle.session_rules.specs.Transcripts.{event_now}
use Rattle.session_core.specs.Doing.{Plays, seen}
use Rattle.session_core.specs.Numbers.{counting}
use Rattle.session_core.proofs.LineParts.{event_plays, event_stops}
use Rattle.session_core.proofs.Playing.{passed_on}
use Rattle.session_core.proofs.session.Session.event_now.Goals as goal

pub returns-in_err-note-clause-part : goal.returns-in_err-note-clause-part
returns-in_err-note-clause-part g c =
    let P : Result (Unit {0}) Stop → Type 0 = (λ r. Plays (event_now (counting g.N.Numbering.shows) c.args.what) (seen g.K.Keeper.known g.O.Sink.written g.L.Launcher.runs g.C.Clock.readings g.F.Files.held c.args.self.now c.args.ends.now) (seen g.K.Keeper.known g.O.Sink.written g.L.Launcher.runs g.C.Clock.readings g.F.Files.held c.make_step.new.self c.make_step.new.ends) r) in
    passed_on P c.from_residual.result c.in_err-note.field-0.0 c.from_residual.ensures.1
    (event_stops (counting g.N.Numbering.shows) c.args.what c.args.self.now.desk.engine.core c.args.self.now.last (g.C.Clock.readings c.args.ends.now.clock) (g.F.Files.held c.args.ends.now.files) (record { written = g.O.Sink.written c.args.ends.now.out; ran = g.L.Launcher.runs c.args.ends.now.launcher; keeper = g.K.Keeper.known c.args.self.now.desk.keeper }) c.in_err-note.field-0.0 (seen g.K.Keeper.known g.O.Sink.written g.L.Launcher.runs g.C.Clock.readings g.F.Files.held c.make_step.new.self c.make_step.new.ends) c.in_err-note.ensures.part)

pub returns-clause-part : goal.returns-clause-part
returns-clause-part g c =
    event_plays (counting g.N.Numbering.shows) c.args.what c.args.self.now.desk.engine.core c.args.self.now.last c.in_ok-note.note c.in_ok-note.ensures.note (g.C.Clock.readings c.args.ends.now.clock) (g.F.Files.held c.args.ends.now.files) (record { written = g.O.Sink.written c.args.ends.now.out; ran = g.L.Launcher.runs c.args.ends.now.launcher; keeper = g.K.Keeper.known c.args.self.now.desk.keeper })
    (seen g.K.Keeper.known g.O.Sink.written g.L.Launcher.runs g.C.Clock.readings g.F.Files.held c.make_step.new.self c.make_step.new.ends) (seen g.K.Keeper.known g.O.Sink.written g.L.Launcher.runs g.C.Clock.readings g.F.Files.held c.follow.new.self c.follow.new.ends) c.follow.result c.in_ok-note.ensures.part c.follow.ensures.part
