use Rattle.std.proofs.Common.{arith}
use Rattle.value_core.proofs.Lexes.{starts, next_found}
use Rattle.value_core.proofs.lexing.tokens_of.Goals as goal

pub tokens-init : goal.tokens-init
tokens-init c = record {
  within = omega arith;
  so_far = starts _ _ c.new-tokens.ensures;
}

pub tokens-preserved : goal.tokens-preserved
tokens-preserved c =
    let next = rw c.in-Found.is at c.in-Ok.ensures.next in
    let within = rw c.in-Found.is at c.in-Ok.ensures.within in
    record {
      within = within.2;
      so_far = rw c.in_ok-push-in-Found.ensures.ok (next_found _ _ _ _ _ _ next (omega (arith, within.0, within.1)) within.2 c.tokens.invariant.so_far);
    }
