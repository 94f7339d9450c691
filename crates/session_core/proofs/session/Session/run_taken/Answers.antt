use Rattle.std.proofs.Common.{ap, subst, sym}
use Rattle.std.specs.Prelude.{Option, IfSome}
use Rattle.core_rules.specs.declared.notes.Note.{Note}
use Rattle.session_core.specs.Doing.{Plays, seen}
use Rattle.session_core.specs.Orders.{HasNoteWords, run_noted}
use Rattle.session_core.specs.Numbers.{counting}
use Rattle.session_core.proofs.OrderRuns.{nothing_plays}
use Rattle.session_core.proofs.session.Session.run_taken.Goals as goal

pub run_noted-requires : goal.run_noted-requires
run_noted-requires g c = subst (λ (o : Option Note). IfSome o HasNoteWords) c.in-Some.is c.requires

pub returns-in-None-clause-part : goal.returns-in-None-clause-part
returns-in-None-clause-part g c = nothing_plays (run_noted (counting g.N.Numbering.shows) c.args.note.now) (seen g.K.Keeper.known g.O.Sink.written g.L.Launcher.runs g.C.Clock.readings g.F.Files.held c.args.self.now c.args.ends.now) (λ s. ap (λ n. run_noted (counting g.N.Numbering.shows) n s) c.in-None.is)

pub returns-in-Some-clause-part : goal.returns-in-Some-clause-part
returns-in-Some-clause-part g c = subst (λ (n : Option Note). Plays (run_noted (counting g.N.Numbering.shows) n) (seen g.K.Keeper.known g.O.Sink.written g.L.Launcher.runs g.C.Clock.readings g.F.Files.held c.args.self.now c.args.ends.now) (seen g.K.Keeper.known g.O.Sink.written g.L.Launcher.runs g.C.Clock.readings g.F.Files.held c.run_noted.new.self c.run_noted.new.ends) c.run_noted.result) (sym c.in-Some.is) c.run_noted.ensures.part
