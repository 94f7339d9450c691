use Rattle.std.proofs.Common.{ap, subst, sym}
use Rattle.core_rules.specs.declared.notes.Note.{Note}
use Rattle.session_rules.specs.Steps.{run_of}
use Rattle.session_core.specs.Doing.{Plays, seen}
use Rattle.session_core.specs.Orders.{HasNoteWords}
use Rattle.session_core.specs.Numbers.{counting}
use Rattle.session_core.proofs.OrderRuns.{nothing_plays}
use Rattle.session_core.proofs.session.Session.run_noted.Goals as goal

pub run_order-requires : goal.run_order-requires
run_order-requires g c = subst HasNoteWords c.in-Started.is c.requires

pub returns-in-Plain-clause-part : goal.returns-in-Plain-clause-part
returns-in-Plain-clause-part g c = nothing_plays (run_of (counting g.N.Numbering.shows) c.args.note.now) (seen g.K.Keeper.known g.O.Sink.written g.L.Launcher.runs g.C.Clock.readings g.F.Files.held c.args.self.now c.args.ends.now) (λ s. ap (λ n. run_of (counting g.N.Numbering.shows) n s) c.in-Plain.is)

pub returns-in-Ended-clause-part : goal.returns-in-Ended-clause-part
returns-in-Ended-clause-part g c = nothing_plays (run_of (counting g.N.Numbering.shows) c.args.note.now) (seen g.K.Keeper.known g.O.Sink.written g.L.Launcher.runs g.C.Clock.readings g.F.Files.held c.args.self.now c.args.ends.now) (λ s. ap (λ n. run_of (counting g.N.Numbering.shows) n s) c.in-Ended.is)

pub returns-in-Nothing-clause-part : goal.returns-in-Nothing-clause-part
returns-in-Nothing-clause-part g c = nothing_plays (run_of (counting g.N.Numbering.shows) c.args.note.now) (seen g.K.Keeper.known g.O.Sink.written g.L.Launcher.runs g.C.Clock.readings g.F.Files.held c.args.self.now c.args.ends.now) (λ s. ap (λ n. run_of (counting g.N.Numbering.shows) n s) c.in-Nothing.is)

pub returns-in-Ignored-clause-part : goal.returns-in-Ignored-clause-part
returns-in-Ignored-clause-part g c = nothing_plays (run_of (counting g.N.Numbering.shows) c.args.note.now) (seen g.K.Keeper.known g.O.Sink.written g.L.Launcher.runs g.C.Clock.readings g.F.Files.held c.args.self.now c.args.ends.now) (λ s. ap (λ n. run_of (counting g.N.Numbering.shows) n s) c.in-Ignored.is)

pub returns-in-Started-clause-part : goal.returns-in-Started-clause-part
returns-in-Started-clause-part g c = subst (λ (n : Note). Plays (run_of (counting g.N.Numbering.shows) n) (seen g.K.Keeper.known g.O.Sink.written g.L.Launcher.runs g.C.Clock.readings g.F.Files.held c.args.self.now c.args.ends.now) (seen g.K.Keeper.known g.O.Sink.written g.L.Launcher.runs g.C.Clock.readings g.F.Files.held c.run_order.new.self c.run_order.new.ends) c.run_order.result) (sym c.in-Started.is) c.run_order.ensures.part
