use Rattle.session_core.specs.Doing.{seen}
use Rattle.session_core.specs.Numbers.{counting}
use Rattle.session_core.proofs.Playing.{unbegun}
use Rattle.session_core.proofs.WatchedInputs.{large_plays, other_plays, text_plays, text_short}
use Rattle.session_rules.specs.Watching.{text_found}
use Rattle.value_core.specs.Reading.{text_read}
use Rattle.session_core.specs.declared.stop.Stop.TheVariants as stop
use Rattle.session_core.proofs.session.Session.set_content.Goals as goal

pub set_text-requires-clause-short : goal.set_text-requires-clause-short
set_text-requires-clause-short g c = text_short c.args.content.now c.in-Ok.text c.in-Ok.ensures

pub returns-in-Ok-clause-part : goal.returns-in-Ok-clause-part
returns-in-Ok-clause-part g c = text_plays (counting g.N.Numbering.shows) c.args.input c.args.name c.args.content.now (seen g.K.Keeper.known g.O.Sink.written g.L.Launcher.runs g.C.Clock.readings g.F.Files.held c.args.self.now c.args.ends.now) (seen g.K.Keeper.known g.O.Sink.written g.L.Launcher.runs g.C.Clock.readings g.F.Files.held c.set_text.new.self c.set_text.new.ends) c.set_text.result c.in-Ok.text c.in-Ok.ensures c.set_text.ensures.part

pub returns-in-Err-TooLarge-clause-part : goal.returns-in-Err-TooLarge-clause-part
returns-in-Err-TooLarge-clause-part g c = large_plays (counting g.N.Numbering.shows) c.args.input c.args.name c.args.content.now (seen g.K.Keeper.known g.O.Sink.written g.L.Launcher.runs g.C.Clock.readings g.F.Files.held c.args.self.now c.args.ends.now) (seen g.K.Keeper.known g.O.Sink.written g.L.Launcher.runs g.C.Clock.readings g.F.Files.held c.args.self.now c.leave_input.new.ends) c.leave_input.result c.in-Err-TooLarge.field-0 c.in-Err-TooLarge.field-0-0 c.in-Err-TooLarge.field-0-is c.in-Err-TooLarge.ensures c.leave_input.ensures.part

pub returns-in-Err-NotText-clause-part : goal.returns-in-Err-NotText-clause-part
returns-in-Err-NotText-clause-part g c = other_plays (counting g.N.Numbering.shows) c.args.input c.args.name c.args.content.now (seen g.K.Keeper.known g.O.Sink.written g.L.Launcher.runs g.C.Clock.readings g.F.Files.held c.args.self.now c.args.ends.now) (seen g.K.Keeper.known g.O.Sink.written g.L.Launcher.runs g.C.Clock.readings g.F.Files.held c.args.self.now c.leave_input-in-Err-NotText.new.ends) c.leave_input-in-Err-NotText.result c.in-Err-NotText.field-0 c.in-Err-NotText.field-0-is c.in-Err-NotText.ensures c.leave_input-in-Err-NotText.ensures.part

pub returns-in-Err-NoMemory-clause-part : goal.returns-in-Err-NoMemory-clause-part
returns-in-Err-NoMemory-clause-part g c = unbegun (text_found (counting g.N.Numbering.shows) c.args.input c.args.name (text_read c.args.content.now)) stop.NoMemory (seen g.K.Keeper.known g.O.Sink.written g.L.Launcher.runs g.C.Clock.readings g.F.Files.held c.args.self.now c.args.ends.now) (λ is. let no : ⊥ = cc in no)
