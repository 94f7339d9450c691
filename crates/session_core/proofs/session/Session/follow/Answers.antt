use Rattle.std.proofs.Common.{ap, subst, sym}
use Rattle.std.specs.Prelude.{Option}
use Rattle.core_rules.specs.declared.notes.Note.{Note}
use Rattle.session_core.specs.Doing.{Plays, seen}
use Rattle.session_core.specs.Numbers.{counting}
use Rattle.session_core.specs.inside.ReadLines.{noted_orders}
use Rattle.session_core.proofs.OrderRuns.{nothing_plays}
use Rattle.session_core.proofs.session.Session.follow.Goals as goal

pub returns-in-None-clause-part : goal.returns-in-None-clause-part
returns-in-None-clause-part g c = nothing_plays (noted_orders (counting g.N.Numbering.shows) c.args.note.now) (seen g.K.Keeper.known g.O.Sink.written g.L.Launcher.runs g.C.Clock.readings g.F.Files.held c.args.self.now c.args.ends.now) (λ s. ap (λ n. noted_orders (counting g.N.Numbering.shows) n s) c.in-None.is)

pub returns-in-Some-clause-part : goal.returns-in-Some-clause-part
returns-in-Some-clause-part g c = subst (λ (n : Option Note). Plays (noted_orders (counting g.N.Numbering.shows) n) (seen g.K.Keeper.known g.O.Sink.written g.L.Launcher.runs g.C.Clock.readings g.F.Files.held c.args.self.now c.args.ends.now) (seen g.K.Keeper.known g.O.Sink.written g.L.Launcher.runs g.C.Clock.readings g.F.Files.held c.all_orders.new.self c.all_orders.new.ends) c.all_orders.result) (sym c.in-Some.is) c.all_orders.ensures.part
