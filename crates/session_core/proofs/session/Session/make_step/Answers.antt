use Rattle.std.proofs.Common.{ap, refl}
use Rattle.std.specs.Prelude.{Option, Result}
use Rattle.core_rules.specs.declared.notes.Note.{Note}
use Rattle.session_rules.specs.Steps.{event}
use Rattle.session_core.specs.declared.stop.Stop.{Stop}
use Rattle.session_core.specs.Doing.{Plays, seen}
use Rattle.session_core.specs.Numbers.{counting}
use Rattle.session_core.proofs.Answered.{closed_stops, counted_plays, keeper_stops, made_note, memory_stops, refused_noted, refused_plays, unshown_stops}
use Rattle.session_core.proofs.Caused.{keeper_rose, made_causes, not_open, refused_caused}
use Rattle.session_core.proofs.Counted.{shown_number}
use Rattle.session_core.proofs.Playing.{passed_on}
use Rattle.session_core.proofs.Programs.{applied_program, unapplied_program}
use Rattle.session_core.proofs.session.Session.make_step.Goals as goal

pub returns-in_ok-evaluated-in-Ok-clause-part : goal.returns-in_ok-evaluated-in-Ok-clause-part
returns-in_ok-evaluated-in-Ok-clause-part g c = counted_plays g.K.Keeper.known g.K.Keeper.faults (counting g.N.Numbering.shows) c.args.what c.args.self.now.last (g.C.Clock.readings c.args.ends.now.clock) (g.F.Files.held c.args.ends.now.files) (g.L.Launcher.runs c.args.ends.now.launcher) c.args.self.now.desk c.apply.new.self (g.O.Sink.written c.args.ends.now.out) (g.O.Sink.written c.show.new.out) c.in-Ok.done _ c.show.result
    (shown_number g.N.Numbering.shows c.args.self.now.desk.engine.core (record { at = c.args.self.now.last; what = c.args.what }) c.shown-before.result c.args.self.now.ticks c.apply.new.steps c.in_ok-evaluated-in-Ok.evaluated c.in_ok-evaluated-in-Ok.ensures.ok c.shown-before.ensures c.in-Ok.ensures.ticks)
    c.in-Ok.ensures.done c.show.ensures.text

pub returns-in_ok-evaluated-in-Ok-clause-program : goal.returns-in_ok-evaluated-in-Ok-clause-program
returns-in_ok-evaluated-in-Ok-clause-program g c = applied_program g.K.Keeper.known g.K.Keeper.faults (record { at = c.args.self.now.last; what = c.args.what }) c.args.self.now.desk c.apply.new.self c.in-Ok.done c.in-Ok.ensures.done

pub returns-in_err-evaluated-in-Ok-clause-part : goal.returns-in_err-evaluated-in-Ok-clause-part
returns-in_err-evaluated-in-Ok-clause-part g c =
    let z : Stop = c.in_err-evaluated-in-Ok.field-0.0 in
    let P : Result (Option Note) Stop → Type 0 = (λ r. Plays (event (counting g.N.Numbering.shows) c.args.what) (seen g.K.Keeper.known g.O.Sink.written g.L.Launcher.runs g.C.Clock.readings g.F.Files.held c.args.self.now c.args.ends.now) (seen g.K.Keeper.known g.O.Sink.written g.L.Launcher.runs g.C.Clock.readings g.F.Files.held (record c.args.self.now { desk = c.apply.new.self }) c.args.ends.now) r) in
    passed_on P c.from_residual.result z c.from_residual.ensures.1 (unshown_stops g.K.Keeper.known g.K.Keeper.faults (counting g.N.Numbering.shows) c.args.what c.args.self.now.last (g.C.Clock.readings c.args.ends.now.clock) (g.F.Files.held c.args.ends.now.files) (g.L.Launcher.runs c.args.ends.now.launcher) c.args.self.now.desk c.apply.new.self (g.O.Sink.written c.args.ends.now.out) (g.O.Sink.written c.args.ends.now.out) c.in-Ok.done z c.in_err-evaluated-in-Ok.ensures.only refl c.in-Ok.ensures.done)

pub returns-in_err-evaluated-in-Ok-clause-program : goal.returns-in_err-evaluated-in-Ok-clause-program
returns-in_err-evaluated-in-Ok-clause-program g c = applied_program g.K.Keeper.known g.K.Keeper.faults (record { at = c.args.self.now.last; what = c.args.what }) c.args.self.now.desk c.apply.new.self c.in-Ok.done c.in-Ok.ensures.done

pub returns-in_ok-evaluated-in-Ok-clause-note : goal.returns-in_ok-evaluated-in-Ok-clause-note
returns-in_ok-evaluated-in-Ok-clause-note g c = made_note g.K.Keeper.known g.K.Keeper.faults (counting g.N.Numbering.shows) c.args.what c.args.self.now.last (g.C.Clock.readings c.args.ends.now.clock) (g.F.Files.held c.args.ends.now.files) (g.L.Launcher.runs c.args.ends.now.launcher) c.args.self.now.desk c.apply.new.self (g.O.Sink.written c.args.ends.now.out) (g.O.Sink.written c.show.new.out) c.in-Ok.done c.show.result c.in-Ok.ensures.done c.show.ensures.note

pub returns-in_ok-evaluated-in-Ok-clause-cause : goal.returns-in_ok-evaluated-in-Ok-clause-cause
returns-in_ok-evaluated-in-Ok-clause-cause g c = made_causes g.K.Keeper.known g.K.Keeper.faults (record { at = c.args.self.now.last; what = c.args.what }) (g.F.Files.faults c.args.ends.now.files) c.args.self.now.desk c.apply.new.self (g.O.Sink.faults c.args.ends.now.out) (g.O.Sink.faults c.show.new.out) c.in-Ok.done c.show.result c.in-Ok.ensures.done c.show.ensures.cause

pub returns-in-Err-Refused-clause-part : goal.returns-in-Err-Refused-clause-part
returns-in-Err-Refused-clause-part g c = refused_plays g.K.Keeper.known g.K.Keeper.faults (counting g.N.Numbering.shows) c.args.what c.args.self.now.last (g.C.Clock.readings c.args.ends.now.clock) (g.F.Files.held c.args.ends.now.files) (g.L.Launcher.runs c.args.ends.now.launcher) c.args.self.now.desk c.apply.new.self (g.O.Sink.written c.args.ends.now.out) (g.O.Sink.written c.refuse.new.out) c.in-Err-Refused.field-0 c.in-Err-Refused.refusal c.in-Err-Refused.field-0-is c.in-Err-Refused.ensures.fault
    c.refuse.result c.refuse.ensures.line (λ words. (ap g.O.Sink.written (c.refuse.ensures.none words).0, (c.refuse.ensures.none words).1))

pub returns-in-Err-Refused-clause-note : goal.returns-in-Err-Refused-clause-note
returns-in-Err-Refused-clause-note g c = refused_noted g.K.Keeper.known g.K.Keeper.faults (counting g.N.Numbering.shows) c.args.what c.args.self.now.last (g.C.Clock.readings c.args.ends.now.clock) (g.F.Files.held c.args.ends.now.files) (g.L.Launcher.runs c.args.ends.now.launcher) c.args.self.now.desk c.apply.new.self (g.O.Sink.written c.args.ends.now.out) (g.O.Sink.written c.refuse.new.out) c.in-Err-Refused.field-0 c.in-Err-Refused.refusal c.in-Err-Refused.field-0-is c.in-Err-Refused.ensures.fault c.refuse.result c.refuse.ensures.note

pub returns-in-Err-Refused-clause-cause : goal.returns-in-Err-Refused-clause-cause
returns-in-Err-Refused-clause-cause g c = refused_caused g.K.Keeper.known g.K.Keeper.faults (record { at = c.args.self.now.last; what = c.args.what }) (g.F.Files.faults c.args.ends.now.files) c.args.self.now.desk c.apply.new.self (g.O.Sink.faults c.args.ends.now.out) (g.O.Sink.faults c.refuse.new.out) c.in-Err-Refused.field-0 c.in-Err-Refused.refusal c.refuse.result c.in-Err-Refused.field-0-is c.in-Err-Refused.ensures.fault c.refuse.ensures.cause

pub returns-in-Err-NoMemory-clause-part : goal.returns-in-Err-NoMemory-clause-part
returns-in-Err-NoMemory-clause-part g c = memory_stops g.K.Keeper.known g.K.Keeper.faults (counting g.N.Numbering.shows) c.args.what c.args.self.now.last (g.C.Clock.readings c.args.ends.now.clock) (g.F.Files.held c.args.ends.now.files) (g.L.Launcher.runs c.args.ends.now.launcher) c.args.self.now.desk c.apply.new.self (g.O.Sink.written c.args.ends.now.out) (g.O.Sink.written c.args.ends.now.out) c.in-Err-NoMemory.field-0 c.in-Err-NoMemory.field-0-is c.in-Err-NoMemory.ensures.fault

pub returns-in-Err-Keeper-clause-part : goal.returns-in-Err-Keeper-clause-part
returns-in-Err-Keeper-clause-part g c = keeper_stops g.K.Keeper.known g.K.Keeper.faults (counting g.N.Numbering.shows) c.args.what c.args.self.now.last (g.C.Clock.readings c.args.ends.now.clock) (g.F.Files.held c.args.ends.now.files) (g.L.Launcher.runs c.args.ends.now.launcher) c.args.self.now.desk c.apply.new.self (g.O.Sink.written c.args.ends.now.out) (g.O.Sink.written c.args.ends.now.out) c.in-Err-Keeper.field-0 c.in-Err-Keeper.field-0-is c.in-Err-Keeper.ensures.fault

pub returns-in-Err-Keeper-clause-cause : goal.returns-in-Err-Keeper-clause-cause
returns-in-Err-Keeper-clause-cause g c = λ _. keeper_rose g.K.Keeper.known g.K.Keeper.faults (record { at = c.args.self.now.last; what = c.args.what }) (g.F.Files.faults c.args.ends.now.files) c.args.self.now.desk c.apply.new.self (g.O.Sink.faults c.args.ends.now.out) (g.O.Sink.faults c.args.ends.now.out) c.in-Err-Keeper.field-0 c.in-Err-Keeper.field-0-is c.in-Err-Keeper.ensures.fault

pub returns-in-Err-Closed-clause-part : goal.returns-in-Err-Closed-clause-part
returns-in-Err-Closed-clause-part g c = closed_stops g.K.Keeper.known g.K.Keeper.faults (counting g.N.Numbering.shows) c.args.what c.args.self.now.last (g.C.Clock.readings c.args.ends.now.clock) (g.F.Files.held c.args.ends.now.files) (g.L.Launcher.runs c.args.ends.now.launcher) c.args.self.now.desk c.apply.new.self (g.O.Sink.written c.args.ends.now.out) (g.O.Sink.written c.args.ends.now.out) c.in-Err-Closed.field-0 c.in-Err-Closed.field-0-0 c.in-Err-Closed.field-0-is c.in-Err-Closed.ensures.fault

pub returns-in-Err-Closed-clause-cause : goal.returns-in-Err-Closed-clause-cause
returns-in-Err-Closed-clause-cause g c = not_open g.K.Keeper.known g.K.Keeper.faults (record { at = c.args.self.now.last; what = c.args.what }) (g.F.Files.faults c.args.ends.now.files) c.args.self.now.desk c.apply.new.self (g.O.Sink.faults c.args.ends.now.out) (g.O.Sink.faults c.args.ends.now.out) c.in-Err-Closed.field-0 c.in-Err-Closed.field-0-0 c.in-Err-Closed.field-0-is c.in-Err-Closed.ensures.fault

pub returns-in-Err-Refused-clause-program : goal.returns-in-Err-Refused-clause-program
returns-in-Err-Refused-clause-program g c = unapplied_program g.K.Keeper.known g.K.Keeper.faults (record { at = c.args.self.now.last; what = c.args.what }) c.args.self.now.desk c.apply.new.self c.in-Err-Refused.field-0 c.in-Err-Refused.ensures.fault

pub returns-in-Err-NoMemory-clause-program : goal.returns-in-Err-NoMemory-clause-program
returns-in-Err-NoMemory-clause-program g c = unapplied_program g.K.Keeper.known g.K.Keeper.faults (record { at = c.args.self.now.last; what = c.args.what }) c.args.self.now.desk c.apply.new.self c.in-Err-NoMemory.field-0 c.in-Err-NoMemory.ensures.fault

pub returns-in-Err-Keeper-clause-program : goal.returns-in-Err-Keeper-clause-program
returns-in-Err-Keeper-clause-program g c = unapplied_program g.K.Keeper.known g.K.Keeper.faults (record { at = c.args.self.now.last; what = c.args.what }) c.args.self.now.desk c.apply.new.self c.in-Err-Keeper.field-0 c.in-Err-Keeper.ensures.fault

pub returns-in-Err-Closed-clause-program : goal.returns-in-Err-Closed-clause-program
returns-in-Err-Closed-clause-program g c = unapplied_program g.K.Keeper.known g.K.Keeper.faults (record { at = c.args.self.now.last; what = c.args.what }) c.args.self.now.desk c.apply.new.self c.in-Err-Closed.field-0 c.in-Err-Closed.ensures.fault

pub returns-in-Err-BadRow-clause-program : goal.returns-in-Err-BadRow-clause-program
returns-in-Err-BadRow-clause-program g c = unapplied_program g.K.Keeper.known g.K.Keeper.faults (record { at = c.args.self.now.last; what = c.args.what }) c.args.self.now.desk c.apply.new.self c.in-Err-BadRow.field-0 c.in-Err-BadRow.ensures.fault
