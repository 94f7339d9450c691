use Rattle.std.proofs.Common.{rules, refl, sym, ◌∙◌, arith}
use Rattle.std.specs.Io.KnownBytes.{prepend_known}
use Rattle.std.specs.declared.result.Result.{Result}
use Rattle.io_ends.specs.declared.lines.LineFault.{LineFault}
use Rattle.session_core.specs.declared.stop.Stop.{Stop}
use Rattle.session_core.specs.Doing.{seen}
use Rattle.session_core.specs.Lines.{DoesLines}
use Rattle.session_core.specs.Numbers.{counting}
use Rattle.session_core.specs.inside.ReadLines.{line_stop}
use Rattle.session_core.proofs.LineLoop.{read_counted, read_ends, read_faults, read_goes, read_last, read_starts, read_stops}
use Rattle.session_core.proofs.Played.{scene_version}
use Rattle.session_core.proofs.Playing.{passed_on}
use Rattle.session_core.proofs.session.Session.all_lines.Goals as goal

pub lines-init : goal.lines-init
lines-init g c = record {
  more = omega arith;
  bound = omega arith;
  so_far = read_starts (counting g.N.Numbering.shows) (g.S.Source.left c.args.input.now) c.new-reader.result (seen g.K.Keeper.known g.O.Sink.written g.L.Launcher.runs g.C.Clock.readings g.F.Files.held c.args.self.now c.args.ends.now) c.new-reader.ensures;
  source = refl;
  kept = refl;
}

pub returns-in_err-line-clause-lines : goal.returns-in_err-line-clause-lines
returns-in_err-line-clause-lines g c =
    let f : LineFault = c.in_err-line.field-0.0 in
    let P : Result (Unit {0}) Stop → Type 0 = (λ r. DoesLines (counting g.N.Numbering.shows) (g.S.Source.left c.args.input.now) (seen g.K.Keeper.known g.O.Sink.written g.L.Launcher.runs g.C.Clock.readings g.F.Files.held c.args.self.now c.args.ends.now) (seen g.K.Keeper.known g.O.Sink.written g.L.Launcher.runs g.C.Clock.readings g.F.Files.held c.lines.self c.lines.ends) r) in
    passed_on P c.from_residual.result (line_stop f) c.from_residual.ensures.1
    (read_faults (counting g.N.Numbering.shows) c.lines.left (Unit {0}) f (g.S.Source.left c.args.input.now) (prepend_known c.lines.reader (g.S.Source.left c.lines.input)) (seen g.K.Keeper.known g.O.Sink.written g.L.Launcher.runs g.C.Clock.readings g.F.Files.held c.args.self.now c.args.ends.now) (seen g.K.Keeper.known g.O.Sink.written g.L.Launcher.runs g.C.Clock.readings g.F.Files.held c.lines.self c.lines.ends) c.lines.invariant.so_far)

pub returns-in_err-next_line-clause-lines : goal.returns-in_err-next_line-clause-lines
returns-in_err-next_line-clause-lines g c =
    let z : Stop = c.in_err-next_line.field-0.0 in
    let P : Result (Unit {0}) Stop → Type 0 = (λ r. DoesLines (counting g.N.Numbering.shows) (g.S.Source.left c.args.input.now) (seen g.K.Keeper.known g.O.Sink.written g.L.Launcher.runs g.C.Clock.readings g.F.Files.held c.args.self.now c.args.ends.now) (seen g.K.Keeper.known g.O.Sink.written g.L.Launcher.runs g.C.Clock.readings g.F.Files.held c.next_line.new.self c.next_line.new.ends) r) in
    passed_on P c.from_residual-in_err-next_line.result z c.from_residual-in_err-next_line.ensures.1
    (read_stops (counting g.N.Numbering.shows) c.lines.left (Unit {0}) z (g.S.Source.left c.args.input.now) (prepend_known c.lines.reader (g.S.Source.left c.lines.input)) (prepend_known c.next.new.self (g.S.Source.left c.next.new.source)) c.in_ok-line.line (seen g.K.Keeper.known g.O.Sink.written g.L.Launcher.runs g.C.Clock.readings g.F.Files.held c.args.self.now c.args.ends.now) (seen g.K.Keeper.known g.O.Sink.written g.L.Launcher.runs g.C.Clock.readings g.F.Files.held c.lines.self c.lines.ends) (seen g.K.Keeper.known g.O.Sink.written g.L.Launcher.runs g.C.Clock.readings g.F.Files.held c.next_line.new.self c.next_line.new.ends) c.lines.invariant.so_far c.in_ok-line.ensures.line c.in_err-next_line.ensures.part)

pub returns-then-not-branch-clause-lines : goal.returns-then-not-branch-clause-lines
returns-then-not-branch-clause-lines g c =
    let done : Unit {0} = tt in
    read_ends (counting g.N.Numbering.shows) c.lines.left done (g.S.Source.left c.args.input.now) (prepend_known c.lines.reader (g.S.Source.left c.lines.input)) (prepend_known c.next.new.self (g.S.Source.left c.next.new.source)) c.in_ok-line.line (seen g.K.Keeper.known g.O.Sink.written g.L.Launcher.runs g.C.Clock.readings g.F.Files.held c.args.self.now c.args.ends.now) (seen g.K.Keeper.known g.O.Sink.written g.L.Launcher.runs g.C.Clock.readings g.F.Files.held c.lines.self c.lines.ends) (seen g.K.Keeper.known g.O.Sink.written g.L.Launcher.runs g.C.Clock.readings g.F.Files.held c.next_line.new.self c.next_line.new.ends)
    c.lines.invariant.so_far c.in_ok-line.ensures.line (sym c.in_ok-next_line.ensures.more ∙ c.if-not-branch.true) c.in_ok-next_line.ensures.part

pub returns-then-not-branch-clause-version : goal.returns-then-not-branch-clause-version
returns-then-not-branch-clause-version g c =
    let now = c.next_line.new.self in
    let ends = c.next_line.new.ends in
    read_counted (counting g.N.Numbering.shows) c.lines.left (g.S.Source.left c.args.input.now) (prepend_known c.lines.reader (g.S.Source.left c.lines.input)) (prepend_known c.next.new.self (g.S.Source.left c.next.new.source)) c.in_ok-line.line (seen g.K.Keeper.known g.O.Sink.written g.L.Launcher.runs g.C.Clock.readings g.F.Files.held c.args.self.now c.args.ends.now) (seen g.K.Keeper.known g.O.Sink.written g.L.Launcher.runs g.C.Clock.readings g.F.Files.held c.lines.self c.lines.ends) (seen g.K.Keeper.known g.O.Sink.written g.L.Launcher.runs g.C.Clock.readings g.F.Files.held now ends) now.desk.engine.core.version
    c.lines.invariant.so_far c.in_ok-line.ensures.line (sym c.in_ok-next_line.ensures.more ∙ c.if-not-branch.true) c.in_ok-next_line.ensures.part (scene_version now.desk.engine.core now.last (g.C.Clock.readings ends.clock) (g.F.Files.held ends.files))

pub returns-then-left-eq0-clause-lines : goal.returns-then-left-eq0-clause-lines
returns-then-left-eq0-clause-lines g c =
    read_last (counting g.N.Numbering.shows) c.lines.left (Unit {0}) (g.S.Source.left c.args.input.now) (prepend_known c.lines.reader (g.S.Source.left c.lines.input)) (prepend_known c.next.new.self (g.S.Source.left c.next.new.source)) c.in_ok-line.line (seen g.K.Keeper.known g.O.Sink.written g.L.Launcher.runs g.C.Clock.readings g.F.Files.held c.args.self.now c.args.ends.now) (seen g.K.Keeper.known g.O.Sink.written g.L.Launcher.runs g.C.Clock.readings g.F.Files.held c.lines.self c.lines.ends) (seen g.K.Keeper.known g.O.Sink.written g.L.Launcher.runs g.C.Clock.readings g.F.Files.held c.next_line.new.self c.next_line.new.ends)
    c.lines.invariant.so_far c.in_ok-line.ensures.line (sym c.in_ok-next_line.ensures.more ∙ c.if-not-branch.false) (omega (arith, c.lines.invariant.more, c.if-left-eq0.true)) c.in_ok-next_line.ensures.part

pub lines-preserved-else-left-eq0 : goal.lines-preserved-else-left-eq0
lines-preserved-else-left-eq0 g c = record {
  more = omega (arith, c.lines.invariant.more, c.if-left-eq0.false);
  bound = omega (arith, c.lines.invariant.bound);
  so_far = read_goes (counting g.N.Numbering.shows) c.lines.left (g.S.Source.left c.args.input.now) (prepend_known c.lines.reader (g.S.Source.left c.lines.input)) (prepend_known c.next.new.self (g.S.Source.left c.next.new.source)) c.in_ok-line.line (seen g.K.Keeper.known g.O.Sink.written g.L.Launcher.runs g.C.Clock.readings g.F.Files.held c.args.self.now c.args.ends.now) (seen g.K.Keeper.known g.O.Sink.written g.L.Launcher.runs g.C.Clock.readings g.F.Files.held c.lines.self c.lines.ends) (seen g.K.Keeper.known g.O.Sink.written g.L.Launcher.runs g.C.Clock.readings g.F.Files.held c.next_line.new.self c.next_line.new.ends)
      c.lines.invariant.so_far c.in_ok-line.ensures.line (sym c.in_ok-next_line.ensures.more ∙ c.if-not-branch.false) (omega (arith, c.lines.invariant.more, c.if-left-eq0.false)) c.in_ok-next_line.ensures.part;
  source = search rules;
  kept = c.in_ok-next_line.ensures.cause ∙ c.lines.invariant.kept;
}

pub lines-preserved : goal.lines-preserved
lines-preserved g c = record {
  more = omega (arith, c.lines.invariant.more, c.if-left-eq0.false);
  bound = omega (arith, c.lines.invariant.bound);
  so_far = read_goes (counting g.N.Numbering.shows) c.lines.left (g.S.Source.left c.args.input.now) (prepend_known c.lines.reader (g.S.Source.left c.lines.input)) (prepend_known c.next.new.self (g.S.Source.left c.next.new.source)) c.in_ok-line.line (seen g.K.Keeper.known g.O.Sink.written g.L.Launcher.runs g.C.Clock.readings g.F.Files.held c.args.self.now c.args.ends.now) (seen g.K.Keeper.known g.O.Sink.written g.L.Launcher.runs g.C.Clock.readings g.F.Files.held c.lines.self c.lines.ends) (seen g.K.Keeper.known g.O.Sink.written g.L.Launcher.runs g.C.Clock.readings g.F.Files.held c.next_line.new.self c.next_line.new.ends)
      c.lines.invariant.so_far c.in_ok-line.ensures.line (sym c.in_ok-next_line.ensures.more ∙ c.if-not-branch.false) (omega (arith, c.lines.invariant.more, c.if-left-eq0.false)) c.in_ok-next_line.ensures.part;
  source = search rules;
  kept = c.in_ok-next_line.ensures.cause ∙ c.lines.invariant.kept;
}
