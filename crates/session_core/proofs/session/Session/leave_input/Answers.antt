use Rattle.session_core.specs.Doing.{counts}
use Rattle.session_core.proofs.Caused.{printed_causes}
use Rattle.session_core.proofs.WatchedInputs.{faulty_plays}
use Rattle.session_core.proofs.session.Session.leave_input.Goals as goal

pub returns-clause-part : goal.returns-clause-part
returns-clause-part g c = faulty_plays c.args.name c.args.fault c.args.self.now.desk.engine.core c.args.self.now.last (g.C.Clock.readings c.args.ends.now.clock) (g.F.Files.held c.args.ends.now.files) (record { written = g.O.Sink.written c.args.ends.now.out; ran = g.L.Launcher.runs c.args.ends.now.launcher; keeper = g.K.Keeper.known c.args.self.now.desk.keeper }) (g.O.Sink.written c.say_fault.new.out) c.say_fault.result c.say_fault.ensures.text

pub returns-clause-cause : goal.returns-clause-cause
returns-clause-cause g c = printed_causes (counts g.K.Keeper.faults g.O.Sink.faults g.F.Files.faults c.args.self.now c.args.ends.now) (g.O.Sink.faults c.say_fault.new.out) c.say_fault.result c.say_fault.ensures.cause
