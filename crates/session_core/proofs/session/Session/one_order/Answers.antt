use Rattle.std.proofs.Common.{subst}
use Rattle.std.specs.declared.result.Result.{Result}
use Rattle.session_core.specs.declared.stop.Stop.{Stop}
use Rattle.core_rules.specs.declared.events.What.TheVariants as what
use Rattle.engine_core.specs.State.{EngineState, IsEngineLawful}
use Rattle.session_rules.specs.Steps.{one_order}
use Rattle.session_core.specs.Doing.{Causes, Plays, counts, seen}
use Rattle.session_core.specs.Numbers.{counting}
use Rattle.session_core.proofs.Caused.{causes_after}
use Rattle.session_core.proofs.OrderRuns.{one_plays, take_stops}
use Rattle.session_core.proofs.OrderWords.{noted_words}
use Rattle.session_core.proofs.Playing.{passed_on}
use Rattle.session_core.proofs.session.Session.one_order.Goals as goal

pub run_taken-requires : goal.run_taken-requires
run_taken-requires g c = noted_words c.args.self.now.desk.engine.core (record { at = c.args.self.now.last; what = what.Take c.args.worker }) (subst (λ (e : EngineState). IsEngineLawful e.core) c.engine.ensures c.engine_law.ensures) c.in_ok-note.note c.in_ok-note.ensures.note

pub returns-in_err-note-clause-part : goal.returns-in_err-note-clause-part
returns-in_err-note-clause-part g c =
    let P : Result (Unit {0}) Stop → Type 0 = (λ r. Plays (one_order (counting g.N.Numbering.shows) c.args.worker) (seen g.K.Keeper.known g.O.Sink.written g.L.Launcher.runs g.C.Clock.readings g.F.Files.held c.args.self.now c.args.ends.now) (seen g.K.Keeper.known g.O.Sink.written g.L.Launcher.runs g.C.Clock.readings g.F.Files.held c.make_step.new.self c.make_step.new.ends) r) in
    passed_on P c.from_residual.result c.in_err-note.field-0.0 c.from_residual.ensures.1 (take_stops (counting g.N.Numbering.shows) c.args.worker c.args.self.now.desk.engine.core c.args.self.now.last (g.C.Clock.readings c.args.ends.now.clock) (g.F.Files.held c.args.ends.now.files) (record { written = g.O.Sink.written c.args.ends.now.out; ran = g.L.Launcher.runs c.args.ends.now.launcher; keeper = g.K.Keeper.known c.args.self.now.desk.keeper }) c.in_err-note.field-0.0 (seen g.K.Keeper.known g.O.Sink.written g.L.Launcher.runs g.C.Clock.readings g.F.Files.held c.make_step.new.self c.make_step.new.ends) c.in_err-note.ensures.part)

pub returns-in_err-note-clause-cause : goal.returns-in_err-note-clause-cause
returns-in_err-note-clause-cause g c =
    let P : Result (Unit {0}) Stop → Type 0 = (λ r. Causes (counts g.K.Keeper.faults g.O.Sink.faults g.F.Files.faults c.args.self.now c.args.ends.now) (counts g.K.Keeper.faults g.O.Sink.faults g.F.Files.faults c.make_step.new.self c.make_step.new.ends) r) in
    passed_on P c.from_residual.result c.in_err-note.field-0.0 c.from_residual.ensures.1 (c.in_err-note.ensures.cause)

pub returns-clause-part : goal.returns-clause-part
returns-clause-part g c = one_plays (counting g.N.Numbering.shows) c.args.worker c.args.self.now.desk.engine.core c.args.self.now.last c.in_ok-note.note c.in_ok-note.ensures.note (g.C.Clock.readings c.args.ends.now.clock) (g.F.Files.held c.args.ends.now.files) (record { written = g.O.Sink.written c.args.ends.now.out; ran = g.L.Launcher.runs c.args.ends.now.launcher; keeper = g.K.Keeper.known c.args.self.now.desk.keeper }) (seen g.K.Keeper.known g.O.Sink.written g.L.Launcher.runs g.C.Clock.readings g.F.Files.held c.make_step.new.self c.make_step.new.ends) (seen g.K.Keeper.known g.O.Sink.written g.L.Launcher.runs g.C.Clock.readings g.F.Files.held c.run_taken.new.self c.run_taken.new.ends) c.run_taken.result c.in_ok-note.ensures.part c.run_taken.ensures.part

pub returns-clause-cause : goal.returns-clause-cause
returns-clause-cause g c = causes_after (counts g.K.Keeper.faults g.O.Sink.faults g.F.Files.faults c.args.self.now c.args.ends.now) (counts g.K.Keeper.faults g.O.Sink.faults g.F.Files.faults c.make_step.new.self c.make_step.new.ends) (counts g.K.Keeper.faults g.O.Sink.faults g.F.Files.faults c.run_taken.new.self c.run_taken.new.ends) c.run_taken.result c.in_ok-note.ensures.cause c.run_taken.ensures.cause
