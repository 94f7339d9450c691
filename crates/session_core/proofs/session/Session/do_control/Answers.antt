use Rattle.std.proofs.Common.{[], ◌∷◌, ap, subst, sym}
use Rattle.std.specs.Prelude.{Some}
use Rattle.std.specs.declared.result.Result.{Result}
use Rattle.std.specs.declared.result.Result.TheVariants.{Ok}
use Rattle.session_core.specs.declared.stop.Stop.{Stop}
use Rattle.core_rules.specs.Core.{CoreState}
use Rattle.report_text.specs.declared.controls.Control.{Control}
use Rattle.report_text.specs.declared.controls.Control.TheVariants as control
use Rattle.report_text.specs.Lines.{jobs_text}
use Rattle.session_rules.specs.Outputs.{Print}
use Rattle.session_rules.specs.Parts.{does}
use Rattle.session_rules.specs.Transcripts.{asked_part}
use Rattle.session_core.specs.Doing.{Moment, Plays, scene_of, seen}
use Rattle.session_core.specs.Numbers.{counting}
use Rattle.session_core.proofs.LineParts.{print_plays}
use Rattle.session_core.proofs.Playing.{plays_nothing}
use Rattle.session_core.proofs.session.Session.do_control.Goals as goal

pub returns-in-Event-clause-part : goal.returns-in-Event-clause-part
returns-in-Event-clause-part g c =
    let P : Control → Type 0 = (λ x. Plays (asked_part (counting g.N.Numbering.shows) (Some x)) (seen g.K.Keeper.known g.O.Sink.written g.L.Launcher.runs g.C.Clock.readings g.F.Files.held c.args.self.now c.args.ends.now) (seen g.K.Keeper.known g.O.Sink.written g.L.Launcher.runs g.C.Clock.readings g.F.Files.held c.asked_event.new.self c.asked_event.new.ends) c.asked_event.result) in
    subst P (sym c.in-Event.is) (c.asked_event.ensures.part)

pub returns-in-Poll-clause-part : goal.returns-in-Poll-clause-part
returns-in-Poll-clause-part g c =
    let P : Control → Type 0 = (λ x. Plays (asked_part (counting g.N.Numbering.shows) (Some x)) (seen g.K.Keeper.known g.O.Sink.written g.L.Launcher.runs g.C.Clock.readings g.F.Files.held c.args.self.now c.args.ends.now) (seen g.K.Keeper.known g.O.Sink.written g.L.Launcher.runs g.C.Clock.readings g.F.Files.held c.poll.new.self c.poll.new.ends) c.poll.result) in
    subst P (sym c.in-Poll.is) (c.poll.ensures.part)

pub returns-in-Jobs-clause-part : goal.returns-in-Jobs-clause-part
returns-in-Jobs-clause-part g c =
    let m : Moment = (record { scene = scene_of c.args.self.now.desk.engine.core c.args.self.now.last (g.C.Clock.readings c.args.ends.now.clock) (g.F.Files.held c.args.ends.now.files); outside = (record { written = g.O.Sink.written c.list_jobs.new.out; ran = g.L.Launcher.runs c.args.ends.now.launcher; keeper = g.K.Keeper.known c.args.self.now.desk.keeper }) }) in
    let P : Control → Type 0 = (λ x. Plays (asked_part (counting g.N.Numbering.shows) (Some x)) (seen g.K.Keeper.known g.O.Sink.written g.L.Launcher.runs g.C.Clock.readings g.F.Files.held c.args.self.now c.args.ends.now) m c.list_jobs.result) in
    subst P (sym c.in-Jobs.is) (print_plays c.args.self.now.desk.engine.core c.args.self.now.last (g.C.Clock.readings c.args.ends.now.clock) (g.F.Files.held c.args.ends.now.files) (record { written = g.O.Sink.written c.args.ends.now.out; ran = g.L.Launcher.runs c.args.ends.now.launcher; keeper = g.K.Keeper.known c.args.self.now.desk.keeper }) (jobs_text c.args.self.now.desk.engine.core) (g.O.Sink.written c.list_jobs.new.out) (asked_part (counting g.N.Numbering.shows) (Some control.Jobs))
    (λ s core. ap (λ (x : CoreState). does (Print (jobs_text x) ∷ []) s) core) c.list_jobs.result c.list_jobs.ensures.text)

pub returns-in-Empty-clause-part : goal.returns-in-Empty-clause-part
returns-in-Empty-clause-part g c =
    let done : Result (Unit {0}) Stop = Ok tt in
    let P : Control → Type 0 = (λ x. Plays (asked_part (counting g.N.Numbering.shows) (Some x)) (seen g.K.Keeper.known g.O.Sink.written g.L.Launcher.runs g.C.Clock.readings g.F.Files.held c.args.self.now c.args.ends.now) (seen g.K.Keeper.known g.O.Sink.written g.L.Launcher.runs g.C.Clock.readings g.F.Files.held c.args.self.now c.args.ends.now) done) in
    subst P (sym c.in-Empty.is) (plays_nothing (seen g.K.Keeper.known g.O.Sink.written g.L.Launcher.runs g.C.Clock.readings g.F.Files.held c.args.self.now c.args.ends.now))

pub returns-in-Quit-clause-part : goal.returns-in-Quit-clause-part
returns-in-Quit-clause-part g c =
    let done : Result (Unit {0}) Stop = Ok tt in
    let P : Control → Type 0 = (λ x. Plays (asked_part (counting g.N.Numbering.shows) (Some x)) (seen g.K.Keeper.known g.O.Sink.written g.L.Launcher.runs g.C.Clock.readings g.F.Files.held c.args.self.now c.args.ends.now) (seen g.K.Keeper.known g.O.Sink.written g.L.Launcher.runs g.C.Clock.readings g.F.Files.held c.args.self.now c.args.ends.now) done) in
    subst P (sym c.in-Quit.is) (plays_nothing (seen g.K.Keeper.known g.O.Sink.written g.L.Launcher.runs g.C.Clock.readings g.F.Files.held c.args.self.now c.args.ends.now))
