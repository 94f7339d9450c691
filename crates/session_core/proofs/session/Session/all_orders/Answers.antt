use Rattle.std.proofs.Common.{refl, sym, ◌∙◌}
use Rattle.std.specs.declared.result.Result.{Result}
use Rattle.std.specs.declared.result.Result.TheVariants.{Err}
use Rattle.session_core.specs.declared.stop.Stop.{Stop}
use Rattle.session_rules.specs.Steps.{all_orders}
use Rattle.session_core.specs.Doing.{Causes, Plays, counts, seen}
use Rattle.session_core.specs.Numbers.{counting}
use Rattle.session_core.proofs.Caused.{causes_after}
use Rattle.session_core.proofs.OrderRounds.{led_ends, led_halts, led_next, led_pauses, led_start}
use Rattle.session_core.proofs.Playing.{passed_on}
use Rattle.session_core.proofs.session.Session.all_orders.Goals as goal

pub loop-left-init : goal.loop-left-init
loop-left-init g c = record { so_far = led_start (counting g.N.Numbering.shows) (seen g.K.Keeper.known g.O.Sink.written g.L.Launcher.runs g.C.Clock.readings g.F.Files.held c.args.self.now c.args.ends.now); kept = refl }

pub returns-in_default-clause-part : goal.returns-in_default-clause-part
returns-in_default-clause-part g c = led_ends (counting g.N.Numbering.shows) c.loop-left.left (seen g.K.Keeper.known g.O.Sink.written g.L.Launcher.runs g.C.Clock.readings g.F.Files.held c.args.self.now c.args.ends.now) c.loop-left.self.desk.engine.core c.loop-left.self.last (g.C.Clock.readings c.loop-left.ends.clock) (g.F.Files.held c.loop-left.ends.files) (record { written = g.O.Sink.written c.loop-left.ends.out; ran = g.L.Launcher.runs c.loop-left.ends.launcher; keeper = g.K.Keeper.known c.loop-left.self.desk.keeper }) c.loop-left-test.true c.loop-left.invariant.so_far (sym c.free_worker.ensures ∙ c.in_default.is)

pub returns-in_default-clause-cause : goal.returns-in_default-clause-cause
returns-in_default-clause-cause g c = c.loop-left.invariant.kept

pub returns-in_err-one_order-clause-part : goal.returns-in_err-one_order-clause-part
returns-in_err-one_order-clause-part g c =
    let P : Result (Unit {0}) Stop → Type 0 = (λ r. Plays (all_orders (counting g.N.Numbering.shows)) (seen g.K.Keeper.known g.O.Sink.written g.L.Launcher.runs g.C.Clock.readings g.F.Files.held c.args.self.now c.args.ends.now) (seen g.K.Keeper.known g.O.Sink.written g.L.Launcher.runs g.C.Clock.readings g.F.Files.held c.one_order.new.self c.one_order.new.ends) r) in
    passed_on P c.from_residual.result c.in_err-one_order.field-0.0 c.from_residual.ensures.1 (led_halts (counting g.N.Numbering.shows) c.loop-left.left (seen g.K.Keeper.known g.O.Sink.written g.L.Launcher.runs g.C.Clock.readings g.F.Files.held c.args.self.now c.args.ends.now) c.loop-left.self.desk.engine.core c.loop-left.self.last (g.C.Clock.readings c.loop-left.ends.clock) (g.F.Files.held c.loop-left.ends.files) (record { written = g.O.Sink.written c.loop-left.ends.out; ran = g.L.Launcher.runs c.loop-left.ends.launcher; keeper = g.K.Keeper.known c.loop-left.self.desk.keeper }) c.in_err-one_order.field-0.0 c.in-Some.worker (seen g.K.Keeper.known g.O.Sink.written g.L.Launcher.runs g.C.Clock.readings g.F.Files.held c.one_order.new.self c.one_order.new.ends) c.loop-left-test.true c.loop-left.invariant.so_far (sym c.free_worker.ensures ∙ c.in-Some.is) c.in_err-one_order.ensures.part)

pub returns-in_err-one_order-clause-cause : goal.returns-in_err-one_order-clause-cause
returns-in_err-one_order-clause-cause g c =
    let z : Stop = c.in_err-one_order.field-0.0 in
    let r : Result (Unit {0}) Stop = Err z in
    let P : Result (Unit {0}) Stop → Type 0 = (λ r. Causes (counts g.K.Keeper.faults g.O.Sink.faults g.F.Files.faults c.args.self.now c.args.ends.now) (counts g.K.Keeper.faults g.O.Sink.faults g.F.Files.faults c.one_order.new.self c.one_order.new.ends) r) in
    passed_on P c.from_residual.result z c.from_residual.ensures.1 (causes_after (counts g.K.Keeper.faults g.O.Sink.faults g.F.Files.faults c.args.self.now c.args.ends.now) (counts g.K.Keeper.faults g.O.Sink.faults g.F.Files.faults c.loop-left.self c.loop-left.ends) (counts g.K.Keeper.faults g.O.Sink.faults g.F.Files.faults c.one_order.new.self c.one_order.new.ends) r c.loop-left.invariant.kept c.in_err-one_order.ensures.cause)

pub loop-left-preserved : goal.loop-left-preserved
loop-left-preserved g c = record {
  so_far = led_next (counting g.N.Numbering.shows) c.loop-left.left (seen g.K.Keeper.known g.O.Sink.written g.L.Launcher.runs g.C.Clock.readings g.F.Files.held c.args.self.now c.args.ends.now) c.loop-left.self.desk.engine.core c.loop-left.self.last (g.C.Clock.readings c.loop-left.ends.clock) (g.F.Files.held c.loop-left.ends.files) (record { written = g.O.Sink.written c.loop-left.ends.out; ran = g.L.Launcher.runs c.loop-left.ends.launcher; keeper = g.K.Keeper.known c.loop-left.self.desk.keeper }) c.in-Some.worker (seen g.K.Keeper.known g.O.Sink.written g.L.Launcher.runs g.C.Clock.readings g.F.Files.held c.one_order.new.self c.one_order.new.ends) c.loop-left-test.true c.loop-left.invariant.so_far (sym c.free_worker.ensures ∙ c.in-Some.is) c.in_ok-one_order.ensures.part;
  kept = c.in_ok-one_order.ensures.cause ∙ c.loop-left.invariant.kept;
}

pub returns-clause-part : goal.returns-clause-part
returns-clause-part g c = led_pauses (counting g.N.Numbering.shows) c.loop-left.left (seen g.K.Keeper.known g.O.Sink.written g.L.Launcher.runs g.C.Clock.readings g.F.Files.held c.args.self.now c.args.ends.now) c.loop-left.self.desk.engine.core c.loop-left.self.last (g.C.Clock.readings c.loop-left.ends.clock) (g.F.Files.held c.loop-left.ends.files) (record { written = g.O.Sink.written c.loop-left.ends.out; ran = g.L.Launcher.runs c.loop-left.ends.launcher; keeper = g.K.Keeper.known c.loop-left.self.desk.keeper }) (seen g.K.Keeper.known g.O.Sink.written g.L.Launcher.runs g.C.Clock.readings g.F.Files.held c.pause.new.self c.pause.new.ends) c.pause.result c.loop-left-test.false c.loop-left.invariant.so_far c.pause.ensures.part

pub returns-clause-cause : goal.returns-clause-cause
returns-clause-cause g c = causes_after (counts g.K.Keeper.faults g.O.Sink.faults g.F.Files.faults c.args.self.now c.args.ends.now) (counts g.K.Keeper.faults g.O.Sink.faults g.F.Files.faults c.loop-left.self c.loop-left.ends) (counts g.K.Keeper.faults g.O.Sink.faults g.F.Files.faults c.pause.new.self c.pause.new.ends) c.pause.result c.loop-left.invariant.kept c.pause.ensures.cause
