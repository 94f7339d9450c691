use Rattle.std.proofs.Common.{ℕ, List, subst}
use Rattle.std.specs.declared.result.Result.{Result}
use Rattle.std.specs.Io.KnownBytes.{Appends}
use Rattle.io_ends.specs.Causes.{AppendsFront}
use Rattle.session_core.specs.declared.stop.Stop.{Stop}
use Rattle.session_core.specs.Doing.{Plays, seen}
use Rattle.session_core.specs.Numbers.{counting}
use Rattle.session_core.specs.inside.Opening.{opening_lines}
use Rattle.session_core.proofs.Beginnings.{not_limit, opening_said, opening_text, opening_unsaid, shown_is}
use Rattle.session_core.proofs.Playing.{passed_on}
use Rattle.session_core.proofs.Still.{none_written}
use Rattle.session_core.proofs.session.Session.show_opening.Goals as goal

pub returns-in_err-evaluated-clause-part : goal.returns-in_err-evaluated-clause-part
returns-in_err-evaluated-clause-part g c =
    let z : Stop = c.in_err-evaluated.field-0.0 in
    let core = c.args.self.now.desk.engine.core in
    let m = seen g.K.Keeper.known g.O.Sink.written g.L.Launcher.runs g.C.Clock.readings g.F.Files.held c.args.self.now c.args.ends.now in
    let P : Result (Unit {0}) Stop → Type 0 = (λ r. Plays (opening_lines (counting g.N.Numbering.shows)) m m r) in
    passed_on P c.from_residual.result z c.from_residual.ensures.1
    (opening_unsaid (counting g.N.Numbering.shows) core c.args.self.now.last (g.C.Clock.readings c.args.ends.now.clock) (g.F.Files.held c.args.ends.now.files) m.outside (g.O.Sink.written c.args.ends.now.out) z
    (none_written (g.O.Sink.written c.args.ends.now.out) (opening_text (counting g.N.Numbering.shows) core), not_limit z c.in_err-evaluated.ensures.only))

pub returns-in_err-_note-clause-part : goal.returns-in_err-_note-clause-part
returns-in_err-_note-clause-part g c =
    let z : Stop = c.in_err-_note.field-0.0 in
    let core = c.args.self.now.desk.engine.core in
    let m = seen g.K.Keeper.known g.O.Sink.written g.L.Launcher.runs g.C.Clock.readings g.F.Files.held c.args.self.now c.args.ends.now in
    let n = seen g.K.Keeper.known g.O.Sink.written g.L.Launcher.runs g.C.Clock.readings g.F.Files.held c.args.self.now (record c.args.ends.now { out = c.show.new.out }) in
    let P : Result (Unit {0}) Stop → Type 0 = (λ r. Plays (opening_lines (counting g.N.Numbering.shows)) m n r) in
    passed_on P c.from_residual-in_err-_note.result z c.from_residual-in_err-_note.ensures.1
    (opening_unsaid (counting g.N.Numbering.shows) core c.args.self.now.last (g.C.Clock.readings c.args.ends.now.clock) (g.F.Files.held c.args.ends.now.files) m.outside (g.O.Sink.written c.show.new.out) z (
      subst (λ (t : List ℕ). AppendsFront (g.O.Sink.written c.args.ends.now.out) (g.O.Sink.written c.show.new.out) t)
          (shown_is g.N.Numbering.shows core c.args.done c.in_ok-evaluated.evaluated c.args.self.now.ticks c.requires.reply c.requires.ticks c.in_ok-evaluated.ensures.ok) c.in_err-_note.ensures.text.0,
      c.in_err-_note.ensures.text.1,
    ))

pub returns-clause-part : goal.returns-clause-part
returns-clause-part g c =
    let core = c.args.self.now.desk.engine.core in
    let m = seen g.K.Keeper.known g.O.Sink.written g.L.Launcher.runs g.C.Clock.readings g.F.Files.held c.args.self.now c.args.ends.now in
    opening_said (counting g.N.Numbering.shows) core c.args.self.now.last (g.C.Clock.readings c.args.ends.now.clock) (g.F.Files.held c.args.ends.now.files) m.outside (g.O.Sink.written c.show.new.out)
    (subst (λ (t : List ℕ). Appends (g.O.Sink.written c.args.ends.now.out) (g.O.Sink.written c.show.new.out) t)
    (shown_is g.N.Numbering.shows core c.args.done c.in_ok-evaluated.evaluated c.args.self.now.ticks c.requires.reply c.requires.ticks c.in_ok-evaluated.ensures.ok) c.in_ok-_note.ensures.text)
