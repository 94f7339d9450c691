use Rattle.std.proofs.Common.{◌≡◌, Bool, ap, length, subst, sym}
use Rattle.std.specs.Prelude.{codes, if◌then◌else◌}
use Rattle.value_core.proofs.Basics.{is_nat_lt, not_nat_lt}
use Rattle.io_ends.specs.Lines.{Bytes, Long, TextLine, line_limit, text_line}
use Rattle.report_text.specs.Lines.{refused_line}
use Rattle.session_rules.specs.Transcripts.{line_part}
use Rattle.session_core.specs.Doing.{Plays, seen}
use Rattle.session_core.specs.Numbers.{counting}
use Rattle.session_core.proofs.LineParts.{print_plays}
use Rattle.session_core.proofs.session.Session.whole_line.Goals as goal

pub returns-then-line-gt-LINE_LENGTH-clause-part : goal.returns-then-line-gt-LINE_LENGTH-clause-part
returns-then-line-gt-LINE_LENGTH-clause-part g c =
    let long : text_line c.args.line.now ≡ Long = ap (λ (b : Bool). if b then Long else Bytes c.args.line.now) (is_nat_lt line_limit (length c.args.line.now) c.if-line-gt-LINE_LENGTH.true) in
    print_plays c.args.self.now.desk.engine.core c.args.self.now.last (g.C.Clock.readings c.args.ends.now.clock) (g.F.Files.held c.args.ends.now.files) (record { written = g.O.Sink.written c.args.ends.now.out; ran = g.L.Launcher.runs c.args.ends.now.launcher; keeper = g.K.Keeper.known c.args.self.now.desk.keeper }) (refused_line (codes "line too long")) (g.O.Sink.written c.refuse_line.new.out) (line_part (counting g.N.Numbering.shows) (text_line c.args.line.now))
    (λ s core. ap (λ (l : TextLine). line_part (counting g.N.Numbering.shows) l s) long) c.refuse_line.result c.refuse_line.ensures.text

pub returns-clause-part : goal.returns-clause-part
returns-clause-part g c =
    let fits : text_line c.args.line.now ≡ Bytes c.args.line.now = ap (λ (b : Bool). if b then Long else Bytes c.args.line.now) (not_nat_lt line_limit (length c.args.line.now) c.if-line-gt-LINE_LENGTH.false) in
    let P : TextLine → Type 0 = (λ l. Plays (line_part (counting g.N.Numbering.shows) l) (seen g.K.Keeper.known g.O.Sink.written g.L.Launcher.runs g.C.Clock.readings g.F.Files.held c.args.self.now c.args.ends.now) (seen g.K.Keeper.known g.O.Sink.written g.L.Launcher.runs g.C.Clock.readings g.F.Files.held c.one_line.new.self c.one_line.new.ends) c.one_line.result) in
    subst P (sym fits) c.one_line.ensures.part
