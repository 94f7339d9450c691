use Rattle.std.proofs.Common.{Bool, ap, subst, sym}
use Rattle.std.specs.Prelude.{Option, codes}
use Rattle.std.specs.declared.result.Result.{Result}
use Rattle.session_core.specs.declared.stop.Stop.{Stop}
use Rattle.session_core.specs.declared.stop.Stop.TheVariants as stop
use Rattle.io_ends.specs.Lines.{Bytes}
use Rattle.report_text.specs.declared.controls.Control.{Control}
use Rattle.report_text.specs.declared.controls.ControlFault.{ControlFault}
use Rattle.report_text.specs.Controls.{FailsControl, control_read}
use Rattle.report_text.specs.Lines.{refused_line}
use Rattle.session_rules.specs.Transcripts.{asked_part, line_part}
use Rattle.session_core.specs.Doing.{Plays, StopsPart, seen}
use Rattle.session_core.specs.Numbers.{counting}
use Rattle.session_core.proofs.LineLiterals.{control_proper}
use Rattle.session_core.proofs.LineParts.{print_plays}
use Rattle.session_core.proofs.Playing.{passed_on, unbegun}
use Rattle.session_core.proofs.session.Session.one_line.Goals as goal

pub do_control-requires : goal.do_control-requires
do_control-requires g c =
    control_proper c.args.line.now c.in-Ok.control c.requires c.in-Ok.ensures

pub returns-in_err-do_control-in-Ok-clause-part : goal.returns-in_err-do_control-in-Ok-clause-part
returns-in_err-do_control-in-Ok-clause-part g c =
    let z : Stop = c.in_err-do_control-in-Ok.field-0.0 in
    let P : Result Bool Stop → Type 0 = (λ r. Plays (line_part (counting g.N.Numbering.shows) (Bytes c.args.line.now)) (seen g.K.Keeper.known g.O.Sink.written g.L.Launcher.runs g.C.Clock.readings g.F.Files.held c.args.self.now c.args.ends.now) (seen g.K.Keeper.known g.O.Sink.written g.L.Launcher.runs g.C.Clock.readings g.F.Files.held c.do_control.new.self c.do_control.new.ends) r) in
    let Q : Option Control → Type 0 = (λ o. StopsPart z (asked_part (counting g.N.Numbering.shows) o) (seen g.K.Keeper.known g.O.Sink.written g.L.Launcher.runs g.C.Clock.readings g.F.Files.held c.args.self.now c.args.ends.now) (seen g.K.Keeper.known g.O.Sink.written g.L.Launcher.runs g.C.Clock.readings g.F.Files.held c.do_control.new.self c.do_control.new.ends)) in
    passed_on P c.from_residual.result z c.from_residual.ensures.1 (subst Q (sym c.in-Ok.ensures) c.in_err-do_control-in-Ok.ensures.part)

pub returns-in-Err-Syntax-clause-part : goal.returns-in-Err-Syntax-clause-part
returns-in-Err-Syntax-clause-part g c =
    let none = subst (λ (f : ControlFault). FailsControl f (control_read c.args.line.now)) c.in-Err-Syntax.field-0-is c.in-Err-Syntax.ensures in
    print_plays c.args.self.now.desk.engine.core c.args.self.now.last (g.C.Clock.readings c.args.ends.now.clock) (g.F.Files.held c.args.ends.now.files) (record { written = g.O.Sink.written c.args.ends.now.out; ran = g.L.Launcher.runs c.args.ends.now.launcher; keeper = g.K.Keeper.known c.args.self.now.desk.keeper }) (refused_line (codes "syntax")) (g.O.Sink.written c.refuse_line.new.out) (line_part (counting g.N.Numbering.shows) (Bytes c.args.line.now))
    (λ s core. ap (λ (o : Option Control). asked_part (counting g.N.Numbering.shows) o s) none) c.refuse_line.result c.refuse_line.ensures.text

pub returns-in-Err-NoMemory-clause-part : goal.returns-in-Err-NoMemory-clause-part
returns-in-Err-NoMemory-clause-part g c =
    unbegun (line_part (counting g.N.Numbering.shows) (Bytes c.args.line.now)) stop.NoMemory (seen g.K.Keeper.known g.O.Sink.written g.L.Launcher.runs g.C.Clock.readings g.F.Files.held c.args.self.now c.args.ends.now) (λ is. let no : ⊥ = cc in no)
