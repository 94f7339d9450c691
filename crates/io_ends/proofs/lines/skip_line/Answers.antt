use Rattle.std.proofs.Common.{rules, arith}
use Rattle.io_ends.proofs.Cut.{dropped_at, dropped_past}
use Rattle.io_ends.proofs.lines.skip_line.Goals as goal

pub returns-in-Some-clause-rest : goal.returns-in-Some-clause-rest
returns-in-Some-clause-rest g c =
    let found = rw c.rest.ensures at c.in-Some.ensures.found in
    rw c.advance.ensures (c.loop-piece.invariant.drops _ (dropped_at _ _ c.refill.new.self c.in-Some.at c.in_ok-refill.ensures.same found.0 found.1 found.2))

pub loop-piece-preserved : goal.loop-piece-preserved
loop-piece-preserved g c =
    let none = rw c.rest.ensures at c.in_default.ensures.none in
    record {
      drops = λ after d. c.loop-piece.invariant.drops _ (dropped_past _ _ _ c.refill.new.self c.in_ok-refill.ensures.same none d);
      spent = omega (arith, c.refill.ensures.spent);
      sink_side = search rules;
      no_fault = search rules;
    }
