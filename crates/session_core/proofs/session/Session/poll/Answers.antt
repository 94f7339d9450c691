use Rattle.session_core.specs.Doing.{seen}
use Rattle.session_core.specs.Numbers.{counting}
use Rattle.session_core.specs.inside.ReadLines.{watched_part}
use Rattle.session_core.proofs.Playing.{plays_reading}
use Rattle.session_core.proofs.session.Session.poll.Goals as goal

pub returns-clause-part : goal.returns-clause-part
returns-clause-part g c =
    plays_reading (watched_part (counting g.N.Numbering.shows)) c.args.self.now.desk.engine.core c.args.self.now.last c.read_ms-self.result (g.C.Clock.readings c.args.ends.now.clock) (g.C.Clock.readings c.read_ms-self.new.self) (g.F.Files.held c.args.ends.now.files) (record { written = g.O.Sink.written c.args.ends.now.out; ran = g.L.Launcher.runs c.args.ends.now.launcher; keeper = g.K.Keeper.known c.args.self.now.desk.keeper })
    (seen g.K.Keeper.known g.O.Sink.written g.L.Launcher.runs g.C.Clock.readings g.F.Files.held c.watch_now.new.self c.watch_now.new.ends) c.watch_now.result c.read_ms-self.ensures c.watch_now.ensures.part
