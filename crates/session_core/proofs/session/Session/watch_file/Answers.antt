use Rattle.std.proofs.Common.{ℕ, List, subst}
use Rattle.std.specs.Prelude.{Some}
use Rattle.value_core.specs.Reading.{text_read}
use Rattle.report_text.specs.declared.watched.WatchFault.TheVariants as watch
use Rattle.session_rules.specs.Watching.{content_found, faulty, text_found}
use Rattle.session_core.specs.declared.stop.Stop.TheVariants as stop
use Rattle.session_core.specs.Doing.{Plays, seen}
use Rattle.session_core.specs.Numbers.{counting}
use Rattle.session_core.specs.Watched.{watch_file}
use Rattle.session_core.proofs.Contents.{bytes_found, missing_found, plays_read}
use Rattle.session_core.proofs.Playing.{unbegun}
use Rattle.session_core.proofs.session.Session.watch_file.Goals as goal

pub returns-in-Ok-Found-clause-part : goal.returns-in-Ok-Found-clause-part
returns-in-Ok-Found-clause-part g c = subst (λ (p : List ℕ). Plays (watch_file (counting g.N.Numbering.shows) c.args.input c.args.name p) (seen g.K.Keeper.known g.O.Sink.written g.L.Launcher.runs g.C.Clock.readings g.F.Files.held c.args.self.now c.args.ends.now) (seen g.K.Keeper.known g.O.Sink.written g.L.Launcher.runs g.C.Clock.readings g.F.Files.held c.set_content.new.self c.set_content.new.ends) c.set_content.result) c.as_str.ensures.bytes
    (plays_read (content_found (counting g.N.Numbering.shows) c.args.input c.args.name) (text_found (counting g.N.Numbering.shows) c.args.input c.args.name (text_read c.in-Ok-Found.content.items)) c.as_str.result.now c.args.self.now.desk.engine.core c.args.self.now.last (g.C.Clock.readings c.args.ends.now.clock) (g.F.Files.held c.args.ends.now.files) (g.F.Files.held c.read_file.new.self) (record { written = g.O.Sink.written c.args.ends.now.out; ran = g.L.Launcher.runs c.args.ends.now.launcher; keeper = g.K.Keeper.known c.args.self.now.desk.keeper }) (seen g.K.Keeper.known g.O.Sink.written g.L.Launcher.runs g.C.Clock.readings g.F.Files.held c.set_content.new.self c.set_content.new.ends) c.set_content.result c.in-Ok-Found.ensures.taken
    (bytes_found (counting g.N.Numbering.shows) c.args.input c.args.name c.as_str.result.now (g.F.Files.held c.args.ends.now.files) c.in-Ok-Found.field-0 c.in-Ok-Found.content c.in-Ok-Found.field-0-is c.in-Ok-Found.ensures.content)
    (subst (λ (l : List ℕ). Plays (text_found (counting g.N.Numbering.shows) c.args.input c.args.name (text_read l)) (seen g.K.Keeper.known g.O.Sink.written g.L.Launcher.runs g.C.Clock.readings g.F.Files.held c.args.self.now (record c.args.ends.now { files = c.read_file.new.self })) (seen g.K.Keeper.known g.O.Sink.written g.L.Launcher.runs g.C.Clock.readings g.F.Files.held c.set_content.new.self c.set_content.new.ends) c.set_content.result) c.as_slice.ensures.value c.set_content.ensures.part))

pub returns-in-Ok-Missing-clause-part : goal.returns-in-Ok-Missing-clause-part
returns-in-Ok-Missing-clause-part g c = subst (λ (p : List ℕ). Plays (watch_file (counting g.N.Numbering.shows) c.args.input c.args.name p) (seen g.K.Keeper.known g.O.Sink.written g.L.Launcher.runs g.C.Clock.readings g.F.Files.held c.args.self.now c.args.ends.now) (seen g.K.Keeper.known g.O.Sink.written g.L.Launcher.runs g.C.Clock.readings g.F.Files.held c.args.self.now c.leave_input.new.ends) c.leave_input.result) c.as_str.ensures.bytes
    (plays_read (content_found (counting g.N.Numbering.shows) c.args.input c.args.name) (faulty c.args.name (Some watch.Missing)) c.as_str.result.now c.args.self.now.desk.engine.core c.args.self.now.last (g.C.Clock.readings c.args.ends.now.clock) (g.F.Files.held c.args.ends.now.files) (g.F.Files.held c.read_file.new.self) (record { written = g.O.Sink.written c.args.ends.now.out; ran = g.L.Launcher.runs c.args.ends.now.launcher; keeper = g.K.Keeper.known c.args.self.now.desk.keeper }) (seen g.K.Keeper.known g.O.Sink.written g.L.Launcher.runs g.C.Clock.readings g.F.Files.held c.args.self.now c.leave_input.new.ends) c.leave_input.result c.in-Ok-Missing.ensures.taken
    (missing_found (counting g.N.Numbering.shows) c.args.input c.args.name c.as_str.result.now (g.F.Files.held c.args.ends.now.files) c.in-Ok-Missing.field-0 c.in-Ok-Missing.field-0-is c.in-Ok-Missing.ensures.content)
    c.leave_input.ensures.part)

pub returns-in-Err-Failed-clause-part : goal.returns-in-Err-Failed-clause-part
returns-in-Err-Failed-clause-part g c = unbegun (watch_file (counting g.N.Numbering.shows) c.args.input c.args.name c.args.path.now) stop.ReadFault (seen g.K.Keeper.known g.O.Sink.written g.L.Launcher.runs g.C.Clock.readings g.F.Files.held c.args.self.now c.args.ends.now) (λ is. let no : ⊥ = cc in no)

pub returns-clause-part : goal.returns-clause-part
returns-clause-part g c = unbegun (watch_file (counting g.N.Numbering.shows) c.args.input c.args.name c.args.path.now) stop.NoMemory (seen g.K.Keeper.known g.O.Sink.written g.L.Launcher.runs g.C.Clock.readings g.F.Files.held c.args.self.now c.args.ends.now) (λ is. let no : ⊥ = cc in no)
