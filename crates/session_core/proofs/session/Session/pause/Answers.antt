use Rattle.std.proofs.Common.{ℕ, List, subst, sym, ◌∙◌}
use Rattle.session_core.specs.Doing.{counts}
use Rattle.session_core.specs.Printing.{Writes}
use Rattle.session_core.specs.Numbers.{counting}
use Rattle.session_core.proofs.Caused.{printed_causes}
use Rattle.session_core.proofs.OrderRounds.{pause_none, pause_some}
use Rattle.session_core.proofs.session.Session.pause.Goals as goal

pub returns-in-Some-clause-part : goal.returns-in-Some-clause-part
returns-in-Some-clause-part g c = pause_some (counting g.N.Numbering.shows) c.args.self.now.desk.engine.core c.args.self.now.last (g.C.Clock.readings c.args.ends.now.clock) (g.F.Files.held c.args.ends.now.files) (record { written = g.O.Sink.written c.args.ends.now.out; ran = g.L.Launcher.runs c.args.ends.now.launcher; keeper = g.K.Keeper.known c.args.self.now.desk.keeper }) _ (g.O.Sink.written c.print.new.out) (sym c.free_worker.ensures ∙ c.in-Some.is) c.print.result
    (subst (λ (t : List ℕ). Writes t (g.O.Sink.written c.args.ends.now.out) (g.O.Sink.written c.print.new.out) c.print.result) c.paused_line.ensures c.print.ensures.text)

pub returns-in-Some-clause-cause : goal.returns-in-Some-clause-cause
returns-in-Some-clause-cause g c = printed_causes (counts g.K.Keeper.faults g.O.Sink.faults g.F.Files.faults c.args.self.now c.args.ends.now) (g.O.Sink.faults c.print.new.out) c.print.result c.print.ensures.cause

pub returns-in-None-clause-part : goal.returns-in-None-clause-part
returns-in-None-clause-part g c = pause_none (counting g.N.Numbering.shows) c.args.self.now.desk.engine.core c.args.self.now.last (g.C.Clock.readings c.args.ends.now.clock) (g.F.Files.held c.args.ends.now.files) (record { written = g.O.Sink.written c.args.ends.now.out; ran = g.L.Launcher.runs c.args.ends.now.launcher; keeper = g.K.Keeper.known c.args.self.now.desk.keeper }) (sym c.free_worker.ensures ∙ c.in-None.is)
