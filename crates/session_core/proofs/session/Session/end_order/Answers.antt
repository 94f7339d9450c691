use Rattle.std.specs.declared.result.Result.{Result}
use Rattle.std.specs.declared.result.Result.TheVariants.{Ok, Err}
use Rattle.session_core.specs.declared.stop.Stop.{Stop}
use Rattle.core_rules.specs.declared.events.What.TheVariants as what
use Rattle.session_rules.specs.Steps.{end_of, event}
use Rattle.session_core.specs.Doing.{Causes, Plays, counts, seen}
use Rattle.session_core.specs.Numbers.{counting}
use Rattle.session_core.proofs.Playing.{passed_on, plays_reading}
use Rattle.session_core.proofs.session.Session.end_order.Goals as goal

pub returns-in_err-_note-clause-part : goal.returns-in_err-_note-clause-part
returns-in_err-_note-clause-part g c =
    let z : Stop = c.in_err-_note.field-0.0 in
    let r : Result (Unit {0}) Stop = Err z in
    let P : Result (Unit {0}) Stop → Type 0 = (λ r. Plays (end_of (counting g.N.Numbering.shows) c.args.job c.args.exit) (seen g.K.Keeper.known g.O.Sink.written g.L.Launcher.runs g.C.Clock.readings g.F.Files.held c.args.self.now c.args.ends.now) (seen g.K.Keeper.known g.O.Sink.written g.L.Launcher.runs g.C.Clock.readings g.F.Files.held c.make_step.new.self c.make_step.new.ends) r) in
    passed_on P c.from_residual.result z c.from_residual.ensures.1 (plays_reading (event (counting g.N.Numbering.shows) (what.Finish c.args.job c.args.exit)) c.args.self.now.desk.engine.core c.args.self.now.last c.read_ms-self.result (g.C.Clock.readings c.args.ends.now.clock) (g.C.Clock.readings c.read_ms-self.new.self) (g.F.Files.held c.args.ends.now.files) (record { written = g.O.Sink.written c.args.ends.now.out; ran = g.L.Launcher.runs c.args.ends.now.launcher; keeper = g.K.Keeper.known c.args.self.now.desk.keeper }) (seen g.K.Keeper.known g.O.Sink.written g.L.Launcher.runs g.C.Clock.readings g.F.Files.held c.make_step.new.self c.make_step.new.ends) r c.read_ms-self.ensures c.in_err-_note.ensures.part)

pub returns-in_err-_note-clause-cause : goal.returns-in_err-_note-clause-cause
returns-in_err-_note-clause-cause g c =
    let P : Result (Unit {0}) Stop → Type 0 = (λ r. Causes (counts g.K.Keeper.faults g.O.Sink.faults g.F.Files.faults c.args.self.now c.args.ends.now) (counts g.K.Keeper.faults g.O.Sink.faults g.F.Files.faults c.make_step.new.self c.make_step.new.ends) r) in
    passed_on P c.from_residual.result c.in_err-_note.field-0.0 c.from_residual.ensures.1 (c.in_err-_note.ensures.cause)

pub returns-clause-part : goal.returns-clause-part
returns-clause-part g c =
    let r : Result (Unit {0}) Stop = Ok tt in
    plays_reading (event (counting g.N.Numbering.shows) (what.Finish c.args.job c.args.exit)) c.args.self.now.desk.engine.core c.args.self.now.last c.read_ms-self.result (g.C.Clock.readings c.args.ends.now.clock) (g.C.Clock.readings c.read_ms-self.new.self) (g.F.Files.held c.args.ends.now.files) (record { written = g.O.Sink.written c.args.ends.now.out; ran = g.L.Launcher.runs c.args.ends.now.launcher; keeper = g.K.Keeper.known c.args.self.now.desk.keeper }) (seen g.K.Keeper.known g.O.Sink.written g.L.Launcher.runs g.C.Clock.readings g.F.Files.held c.make_step.new.self c.make_step.new.ends) r c.read_ms-self.ensures c.in_ok-_note.ensures.part
