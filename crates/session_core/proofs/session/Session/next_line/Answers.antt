use Rattle.std.proofs.Common.{ℕ, List, Bool, false, ap, subst, sym}
use Rattle.std.specs.Prelude.{codes}
use Rattle.std.specs.declared.result.Result.{Result}
use Rattle.std.specs.declared.result.Result.TheVariants.{Ok}
use Rattle.session_core.specs.declared.stop.Stop.{Stop}
use Rattle.io_ends.specs.declared.lines.Line.{Line}
use Rattle.io_ends.specs.Lines.{text_line}
use Rattle.report_text.specs.Lines.{refused_line}
use Rattle.session_rules.specs.Transcripts.{line_part}
use Rattle.session_core.specs.Doing.{Plays, seen}
use Rattle.session_core.specs.Numbers.{counting}
use Rattle.session_core.specs.inside.ReadLines.{read_part}
use Rattle.session_core.proofs.LineParts.{print_plays}
use Rattle.session_core.proofs.Playing.{plays_nothing}
use Rattle.session_core.proofs.session.Session.next_line.Goals as goal

pub returns-in-End-clause-part : goal.returns-in-End-clause-part
returns-in-End-clause-part g c =
    let done : Result Bool Stop = Ok false in
    let P : Line → Type 0 = (λ l. Plays (read_part (counting g.N.Numbering.shows) l) (seen g.K.Keeper.known g.O.Sink.written g.L.Launcher.runs g.C.Clock.readings g.F.Files.held c.args.self.now c.args.ends.now) (seen g.K.Keeper.known g.O.Sink.written g.L.Launcher.runs g.C.Clock.readings g.F.Files.held c.args.self.now c.args.ends.now) done) in
    subst P (sym c.in-End.is) (plays_nothing (seen g.K.Keeper.known g.O.Sink.written g.L.Launcher.runs g.C.Clock.readings g.F.Files.held c.args.self.now c.args.ends.now))

pub returns-in-TooLong-clause-part : goal.returns-in-TooLong-clause-part
returns-in-TooLong-clause-part g c =
    print_plays c.args.self.now.desk.engine.core c.args.self.now.last (g.C.Clock.readings c.args.ends.now.clock) (g.F.Files.held c.args.ends.now.files) (record { written = g.O.Sink.written c.args.ends.now.out; ran = g.L.Launcher.runs c.args.ends.now.launcher; keeper = g.K.Keeper.known c.args.self.now.desk.keeper }) (refused_line (codes "line too long")) (g.O.Sink.written c.refuse_line.new.out) (read_part (counting g.N.Numbering.shows) c.args.line.now)
    (λ s core. ap (λ (l : Line). read_part (counting g.N.Numbering.shows) l s) c.in-TooLong.is) c.refuse_line.result c.refuse_line.ensures.text

pub returns-in-Whole-clause-part : goal.returns-in-Whole-clause-part
returns-in-Whole-clause-part g c =
    let P : Line → Type 0 = (λ l. Plays (read_part (counting g.N.Numbering.shows) l) (seen g.K.Keeper.known g.O.Sink.written g.L.Launcher.runs g.C.Clock.readings g.F.Files.held c.args.self.now c.args.ends.now) (seen g.K.Keeper.known g.O.Sink.written g.L.Launcher.runs g.C.Clock.readings g.F.Files.held c.whole_line.new.self c.whole_line.new.ends) c.whole_line.result) in
    let Q : List ℕ → Type 0 = (λ b. Plays (line_part (counting g.N.Numbering.shows) (text_line b)) (seen g.K.Keeper.known g.O.Sink.written g.L.Launcher.runs g.C.Clock.readings g.F.Files.held c.args.self.now c.args.ends.now) (seen g.K.Keeper.known g.O.Sink.written g.L.Launcher.runs g.C.Clock.readings g.F.Files.held c.whole_line.new.self c.whole_line.new.ends) c.whole_line.result) in
    subst P (sym c.in-Whole.is) (subst Q c.as_slice.ensures.value c.whole_line.ensures.part)
