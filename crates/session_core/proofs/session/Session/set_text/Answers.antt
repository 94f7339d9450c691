use Rattle.std.proofs.Common.{ap, sym, ◌∙◌}
use Rattle.std.specs.Prelude.{slice_get}
use Rattle.std.specs.declared.result.Result.{Result}
use Rattle.engine_core.specs.State.{EngineState}
use Rattle.std.specs.declared.result.Result.TheVariants.{Ok, Err}
use Rattle.session_rules.specs.Watching.{set_text}
use Rattle.session_core.specs.Doing.{Causes, Plays, counts, seen}
use Rattle.session_core.specs.Numbers.{counting}
use Rattle.session_core.specs.declared.stop.Stop.{Stop}
use Rattle.session_core.proofs.Playing.{passed_on}
use Rattle.session_core.proofs.WatchedInputs.{set_already, set_plays, text_light}
use Rattle.session_core.proofs.session.Session.set_text.Goals as goal

pub make_step-requires : goal.make_step-requires
make_step-requires g c = text_light c.args.text c.requires.short

pub returns-then-is-clause-part : goal.returns-then-is-clause-part
returns-then-is-clause-part g c = set_already (counting g.N.Numbering.shows) c.args.input c.args.name c.args.text c.args.self.now.desk.engine.core c.args.self.now.last (g.C.Clock.readings c.args.ends.now.clock) (g.F.Files.held c.args.ends.now.files) (record { written = g.O.Sink.written c.args.ends.now.out; ran = g.L.Launcher.runs c.args.ends.now.launcher; keeper = g.K.Keeper.known c.args.self.now.desk.keeper }) c.input_of.result.now c.is.result (ap (λ (e : EngineState). slice_get e.core.inputs c.args.input) (sym c.engine.ensures) ∙ c.input_of.ensures) c.is.ensures.decided c.if-is.true

pub returns-in_err-_note-clause-part : goal.returns-in_err-_note-clause-part
returns-in_err-_note-clause-part g c =
    let z : Stop = c.in_err-_note.field-0.0 in
    let r : Result (Unit {0}) Stop = Err z in
    let P : Result (Unit {0}) Stop → Type 0 = (λ r. Plays (set_text (counting g.N.Numbering.shows) c.args.input c.args.name c.args.text) (seen g.K.Keeper.known g.O.Sink.written g.L.Launcher.runs g.C.Clock.readings g.F.Files.held c.args.self.now c.args.ends.now) (seen g.K.Keeper.known g.O.Sink.written g.L.Launcher.runs g.C.Clock.readings g.F.Files.held c.make_step.new.self c.make_step.new.ends) r) in
    passed_on P c.from_residual.result z c.from_residual.ensures.1 (set_plays (counting g.N.Numbering.shows) c.args.input c.args.name c.args.text c.args.self.now.desk.engine.core c.args.self.now.last (g.C.Clock.readings c.args.ends.now.clock) (g.F.Files.held c.args.ends.now.files) (record { written = g.O.Sink.written c.args.ends.now.out; ran = g.L.Launcher.runs c.args.ends.now.launcher; keeper = g.K.Keeper.known c.args.self.now.desk.keeper }) c.input_of.result.now c.is.result (seen g.K.Keeper.known g.O.Sink.written g.L.Launcher.runs g.C.Clock.readings g.F.Files.held c.make_step.new.self c.make_step.new.ends) r (ap (λ (e : EngineState). slice_get e.core.inputs c.args.input) (sym c.engine.ensures) ∙ c.input_of.ensures) c.is.ensures.decided c.if-is.false c.in_err-_note.ensures.part)

pub returns-in_err-_note-clause-cause : goal.returns-in_err-_note-clause-cause
returns-in_err-_note-clause-cause g c =
    let P : Result (Unit {0}) Stop → Type 0 = (λ r. Causes (counts g.K.Keeper.faults g.O.Sink.faults g.F.Files.faults c.args.self.now c.args.ends.now) (counts g.K.Keeper.faults g.O.Sink.faults g.F.Files.faults c.make_step.new.self c.make_step.new.ends) r) in
    passed_on P c.from_residual.result c.in_err-_note.field-0.0 c.from_residual.ensures.1 (c.in_err-_note.ensures.cause)

pub returns-clause-part : goal.returns-clause-part
returns-clause-part g c =
    let r : Result (Unit {0}) Stop = Ok tt in
    set_plays (counting g.N.Numbering.shows) c.args.input c.args.name c.args.text c.args.self.now.desk.engine.core c.args.self.now.last (g.C.Clock.readings c.args.ends.now.clock) (g.F.Files.held c.args.ends.now.files) (record { written = g.O.Sink.written c.args.ends.now.out; ran = g.L.Launcher.runs c.args.ends.now.launcher; keeper = g.K.Keeper.known c.args.self.now.desk.keeper }) c.input_of.result.now c.is.result (seen g.K.Keeper.known g.O.Sink.written g.L.Launcher.runs g.C.Clock.readings g.F.Files.held c.make_step.new.self c.make_step.new.ends) r (ap (λ (e : EngineState). slice_get e.core.inputs c.args.input) (sym c.engine.ensures) ∙ c.input_of.ensures) c.is.ensures.decided c.if-is.false c.in_ok-_note.ensures.part
