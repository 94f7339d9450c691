use Rattle.std.proofs.Common.{◌≡◌, ℕ, List, ap, sym, ◌∙◌}
use Rattle.std.specs.Prelude.{Some, slice_get}
use Rattle.term_core.specs.declared.program.Program.{Program}
use Rattle.engine_core.specs.State.{EngineState}
use Rattle.std.specs.declared.result.Result.{Result}
use Rattle.session_core.specs.declared.stop.Stop.{Stop}
use Rattle.session_core.specs.declared.stop.Stop.TheVariants as stop
use Rattle.session_core.specs.Doing.{Plays, seen}
use Rattle.session_core.specs.Numbers.{counting}
use Rattle.session_core.specs.Watched.{watch_nth}
use Rattle.session_core.proofs.OrderRuns.{nothing_plays}
use Rattle.session_core.proofs.Playing.{passed_on, unbegun}
use Rattle.session_core.proofs.WatchedInputs.{found_at, nth_plays, nth_unwatched}
use Rattle.session_core.proofs.session.Session.watch_one.Goals as goal

pub returns-in_default-clause-part : goal.returns-in_default-clause-part
returns-in_default-clause-part g c =
    let same : c.as_slice.result.now ≡ c.args.self.now.desk.engine.core.program.inputs = c.as_slice.ensures ∙ ap (λ (p : Program). p.inputs) c.program.ensures ∙ ap (λ (e : EngineState). e.core.program.inputs) c.engine.ensures in
    let at : slice_get c.args.self.now.desk.engine.core.program.inputs c.args.input ≡ Some c.index-as_slice-input.result = found_at c.args.self.now.desk.engine.core.program.inputs c.as_slice.result.now c.args.input c.index-as_slice-input.result same c.requires c.index-as_slice-input.is in
    nothing_plays (watch_nth (counting g.N.Numbering.shows) c.args.input c.args.self.now.desk.engine.core.program.inputs) (seen g.K.Keeper.known g.O.Sink.written g.L.Launcher.runs g.C.Clock.readings g.F.Files.held c.args.self.now c.args.ends.now) (nth_unwatched (counting g.N.Numbering.shows) c.args.input c.args.self.now.desk.engine.core.program.inputs c.index-as_slice-input.result at c.in_default.is)

pub returns-in_err-name-clause-part : goal.returns-in_err-name-clause-part
returns-in_err-name-clause-part g c =
    let P : Result (Unit {0}) Stop → Type 0 = (λ r. Plays (watch_nth (counting g.N.Numbering.shows) c.args.input c.args.self.now.desk.engine.core.program.inputs) (seen g.K.Keeper.known g.O.Sink.written g.L.Launcher.runs g.C.Clock.readings g.F.Files.held c.args.self.now c.args.ends.now) (seen g.K.Keeper.known g.O.Sink.written g.L.Launcher.runs g.C.Clock.readings g.F.Files.held c.args.self.now c.args.ends.now) r) in
    passed_on P c.from_residual.result stop.NoMemory c.from_residual.ensures.1 (unbegun (watch_nth (counting g.N.Numbering.shows) c.args.input c.args.self.now.desk.engine.core.program.inputs) stop.NoMemory (seen g.K.Keeper.known g.O.Sink.written g.L.Launcher.runs g.C.Clock.readings g.F.Files.held c.args.self.now c.args.ends.now) (λ is. let no : ⊥ = cc in no))

pub returns-in_err-path-clause-part : goal.returns-in_err-path-clause-part
returns-in_err-path-clause-part g c =
    let P : Result (Unit {0}) Stop → Type 0 = (λ r. Plays (watch_nth (counting g.N.Numbering.shows) c.args.input c.args.self.now.desk.engine.core.program.inputs) (seen g.K.Keeper.known g.O.Sink.written g.L.Launcher.runs g.C.Clock.readings g.F.Files.held c.args.self.now c.args.ends.now) (seen g.K.Keeper.known g.O.Sink.written g.L.Launcher.runs g.C.Clock.readings g.F.Files.held c.args.self.now c.args.ends.now) r) in
    passed_on P c.from_residual-in_err-path.result stop.NoMemory c.from_residual-in_err-path.ensures.1 (unbegun (watch_nth (counting g.N.Numbering.shows) c.args.input c.args.self.now.desk.engine.core.program.inputs) stop.NoMemory (seen g.K.Keeper.known g.O.Sink.written g.L.Launcher.runs g.C.Clock.readings g.F.Files.held c.args.self.now c.args.ends.now) (λ is. let no : ⊥ = cc in no))

pub returns-clause-part : goal.returns-clause-part
returns-clause-part g c =
    let same : c.as_slice.result.now ≡ c.args.self.now.desk.engine.core.program.inputs = c.as_slice.ensures ∙ ap (λ (p : Program). p.inputs) c.program.ensures ∙ ap (λ (e : EngineState). e.core.program.inputs) c.engine.ensures in
    let at : slice_get c.args.self.now.desk.engine.core.program.inputs c.args.input ≡ Some c.index-as_slice-input.result = found_at c.args.self.now.desk.engine.core.program.inputs c.as_slice.result.now c.args.input c.index-as_slice-input.result same c.requires c.index-as_slice-input.is in
    nth_plays (counting g.N.Numbering.shows) c.args.input c.args.self.now.desk.engine.core.program.inputs c.index-as_slice-input.result at c.in_ok-name.name c.in_ok-path.path (seen g.K.Keeper.known g.O.Sink.written g.L.Launcher.runs g.C.Clock.readings g.F.Files.held c.args.self.now c.args.ends.now) (seen g.K.Keeper.known g.O.Sink.written g.L.Launcher.runs g.C.Clock.readings g.F.Files.held c.watch_file.new.self c.watch_file.new.ends) c.watch_file.result c.in_ok-name.ensures
    (c.in-Some.is ∙ ap (λ (p : List ℕ). Some p) (sym c.in_ok-path.ensures)) c.watch_file.ensures.part
