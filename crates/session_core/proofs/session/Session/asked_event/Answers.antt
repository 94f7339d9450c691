use Rattle.session_rules.specs.Transcripts.{event_now}
use Rattle.session_core.specs.Doing.{seen}
use Rattle.session_core.specs.Numbers.{counting}
use Rattle.session_core.proofs.Playing.{plays_reading}
use Rattle.session_core.proofs.session.Session.asked_event.Goals as goal

pub returns-clause-part : goal.returns-clause-part
returns-clause-part g c =
    plays_reading (event_now (counting g.N.Numbering.shows) c.args.what) c.args.self.now.desk.engine.core c.args.self.now.last c.read_ms-self.result (g.C.Clock.readings c.args.ends.now.clock) (g.C.Clock.readings c.read_ms-self.new.self) (g.F.Files.held c.args.ends.now.files) (record { written = g.O.Sink.written c.args.ends.now.out; ran = g.L.Launcher.runs c.args.ends.now.launcher; keeper = g.K.Keeper.known c.args.self.now.desk.keeper })
    (seen g.K.Keeper.known g.O.Sink.written g.L.Launcher.runs g.C.Clock.readings g.F.Files.held c.event_now.new.self c.event_now.new.ends) c.event_now.result c.read_ms-self.ensures c.event_now.ensures.part
