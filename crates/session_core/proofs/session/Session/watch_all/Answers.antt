use Rattle.std.proofs.Common.{◌<◌, ◌≤◌, ℕ, length, refl, sym, subst, ◌∙◌, arith}
use Rattle.std.specs.declared.result.Result.{Result}
use Rattle.std.specs.declared.result.Result.TheVariants.{Err}
use Rattle.term_core.specs.declared.program.Program.{Program}
use Rattle.session_rules.specs.Watching.{watch_all}
use Rattle.session_core.specs.declared.stop.Stop.{Stop}
use Rattle.session_core.specs.Doing.{Causes, DoesPart, Plays, StopsPart, counts, seen}
use Rattle.session_core.specs.Numbers.{counting}
use Rattle.session_core.specs.Watched.{watch_nth}
use Rattle.session_core.proofs.Caused.{causes_after}
use Rattle.session_core.proofs.Playing.{passed_on}
use Rattle.session_core.proofs.WatchRounds.{watched_ends, watched_halts, watched_next, watched_start}
use Rattle.session_core.proofs.session.Session.watch_all.Goals as goal

pub loop-input-init : goal.loop-input-init
loop-input-init g c = record { range = omega arith; count = c.input_count-count.ensures; so_far = watched_start (counting g.N.Numbering.shows) c.args.self.now.desk.engine.core.program.inputs (seen g.K.Keeper.known g.O.Sink.written g.L.Launcher.runs g.C.Clock.readings g.F.Files.held c.args.self.now c.args.ends.now); program = refl; kept = refl }

pub watch_one-requires : goal.watch_one-requires
watch_one-requires g c =
    let less : c.loop-input.input < length c.args.self.now.desk.engine.core.program.inputs = subst (λ (n : ℕ). c.loop-input.input < n) c.input_count-count.ensures c.loop-input-test.true in
    subst (λ (p : Program). c.loop-input.input < length p.inputs) (sym c.loop-input.invariant.program) less

pub returns-in_err-watch_one-clause-part : goal.returns-in_err-watch_one-clause-part
returns-in_err-watch_one-clause-part g c =
    let z : Stop = c.in_err-watch_one.field-0.0 in
    let P : Result (Unit {0}) Stop → Type 0 = (λ r. Plays (watch_all (counting g.N.Numbering.shows)) (seen g.K.Keeper.known g.O.Sink.written g.L.Launcher.runs g.C.Clock.readings g.F.Files.held c.args.self.now c.args.ends.now) (seen g.K.Keeper.known g.O.Sink.written g.L.Launcher.runs g.C.Clock.readings g.F.Files.held c.watch_one.new.self c.watch_one.new.ends) r) in
    let less : c.loop-input.input < length c.args.self.now.desk.engine.core.program.inputs = subst (λ (n : ℕ). c.loop-input.input < n) c.input_count-count.ensures c.loop-input-test.true in
    let x : StopsPart z (watch_nth (counting g.N.Numbering.shows) c.loop-input.input c.args.self.now.desk.engine.core.program.inputs) (seen g.K.Keeper.known g.O.Sink.written g.L.Launcher.runs g.C.Clock.readings g.F.Files.held c.loop-input.self c.loop-input.ends) (seen g.K.Keeper.known g.O.Sink.written g.L.Launcher.runs g.C.Clock.readings g.F.Files.held c.watch_one.new.self c.watch_one.new.ends) =
    subst (λ (p : Program). StopsPart z (watch_nth (counting g.N.Numbering.shows) c.loop-input.input p.inputs) (seen g.K.Keeper.known g.O.Sink.written g.L.Launcher.runs g.C.Clock.readings g.F.Files.held c.loop-input.self c.loop-input.ends) (seen g.K.Keeper.known g.O.Sink.written g.L.Launcher.runs g.C.Clock.readings g.F.Files.held c.watch_one.new.self c.watch_one.new.ends)) c.loop-input.invariant.program c.in_err-watch_one.ensures.part in
    passed_on P c.from_residual.result z c.from_residual.ensures.1 (watched_halts (counting g.N.Numbering.shows) c.args.self.now.desk.engine.core c.args.self.now.last (g.C.Clock.readings c.args.ends.now.clock) (g.F.Files.held c.args.ends.now.files) (record { written = g.O.Sink.written c.args.ends.now.out; ran = g.L.Launcher.runs c.args.ends.now.launcher; keeper = g.K.Keeper.known c.args.self.now.desk.keeper }) c.loop-input.input less z (seen g.K.Keeper.known g.O.Sink.written g.L.Launcher.runs g.C.Clock.readings g.F.Files.held c.loop-input.self c.loop-input.ends) (seen g.K.Keeper.known g.O.Sink.written g.L.Launcher.runs g.C.Clock.readings g.F.Files.held c.watch_one.new.self c.watch_one.new.ends) c.loop-input.invariant.so_far x)

pub returns-in_err-watch_one-clause-cause : goal.returns-in_err-watch_one-clause-cause
returns-in_err-watch_one-clause-cause g c =
    let z : Stop = c.in_err-watch_one.field-0.0 in
    let r : Result (Unit {0}) Stop = Err z in
    let P : Result (Unit {0}) Stop → Type 0 = (λ r. Causes (counts g.K.Keeper.faults g.O.Sink.faults g.F.Files.faults c.args.self.now c.args.ends.now) (counts g.K.Keeper.faults g.O.Sink.faults g.F.Files.faults c.watch_one.new.self c.watch_one.new.ends) r) in
    passed_on P c.from_residual.result z c.from_residual.ensures.1 (causes_after (counts g.K.Keeper.faults g.O.Sink.faults g.F.Files.faults c.args.self.now c.args.ends.now) (counts g.K.Keeper.faults g.O.Sink.faults g.F.Files.faults c.loop-input.self c.loop-input.ends) (counts g.K.Keeper.faults g.O.Sink.faults g.F.Files.faults c.watch_one.new.self c.watch_one.new.ends) r c.loop-input.invariant.kept c.in_err-watch_one.ensures.cause)

pub loop-input-preserved : goal.loop-input-preserved
loop-input-preserved g c =
    let less : c.loop-input.input < length c.args.self.now.desk.engine.core.program.inputs = subst (λ (n : ℕ). c.loop-input.input < n) c.input_count-count.ensures c.loop-input-test.true in
    let test : c.loop-input.input < c.input_count-count.result = c.loop-input-test.true in
    let x : DoesPart (watch_nth (counting g.N.Numbering.shows) c.loop-input.input c.args.self.now.desk.engine.core.program.inputs) (seen g.K.Keeper.known g.O.Sink.written g.L.Launcher.runs g.C.Clock.readings g.F.Files.held c.loop-input.self c.loop-input.ends) (seen g.K.Keeper.known g.O.Sink.written g.L.Launcher.runs g.C.Clock.readings g.F.Files.held c.watch_one.new.self c.watch_one.new.ends) =
    subst (λ (p : Program). DoesPart (watch_nth (counting g.N.Numbering.shows) c.loop-input.input p.inputs) (seen g.K.Keeper.known g.O.Sink.written g.L.Launcher.runs g.C.Clock.readings g.F.Files.held c.loop-input.self c.loop-input.ends) (seen g.K.Keeper.known g.O.Sink.written g.L.Launcher.runs g.C.Clock.readings g.F.Files.held c.watch_one.new.self c.watch_one.new.ends)) c.loop-input.invariant.program c.in_ok-watch_one.ensures.part in
    record {
      range = omega (arith, test);
      count = c.loop-input.invariant.count;
      so_far = watched_next (counting g.N.Numbering.shows) c.args.self.now.desk.engine.core.program.inputs c.loop-input.input less (seen g.K.Keeper.known g.O.Sink.written g.L.Launcher.runs g.C.Clock.readings g.F.Files.held c.args.self.now c.args.ends.now) (seen g.K.Keeper.known g.O.Sink.written g.L.Launcher.runs g.C.Clock.readings g.F.Files.held c.loop-input.self c.loop-input.ends) (seen g.K.Keeper.known g.O.Sink.written g.L.Launcher.runs g.C.Clock.readings g.F.Files.held c.watch_one.new.self c.watch_one.new.ends) c.loop-input.invariant.so_far x;
      program = c.in_ok-watch_one.ensures.program ∙ c.loop-input.invariant.program;
      kept = c.in_ok-watch_one.ensures.cause ∙ c.loop-input.invariant.kept;
    }

pub returns-clause-part : goal.returns-clause-part
returns-clause-part g c =
    let least : length c.args.self.now.desk.engine.core.program.inputs ≤ c.loop-input.input = subst (λ (n : ℕ). n ≤ c.loop-input.input) c.input_count-count.ensures c.loop-input-test.false in
    watched_ends (counting g.N.Numbering.shows) c.args.self.now.desk.engine.core c.args.self.now.last (g.C.Clock.readings c.args.ends.now.clock) (g.F.Files.held c.args.ends.now.files) (record { written = g.O.Sink.written c.args.ends.now.out; ran = g.L.Launcher.runs c.args.ends.now.launcher; keeper = g.K.Keeper.known c.args.self.now.desk.keeper }) c.loop-input.input least (seen g.K.Keeper.known g.O.Sink.written g.L.Launcher.runs g.C.Clock.readings g.F.Files.held c.loop-input.self c.loop-input.ends) c.loop-input.invariant.so_far

pub returns-clause-cause : goal.returns-clause-cause
returns-clause-cause g c = c.loop-input.invariant.kept
