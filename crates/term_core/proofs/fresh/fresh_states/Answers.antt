use Rattle.std.proofs.Common.{◌≡◌, ◌+◌, ◌∷◌, drop, arith}
use Rattle.std.proofs.lemmas.Grind.{common_steps}
use Rattle.term_core.proofs.Kept.{kept_step}
use Rattle.term_core.proofs.fresh.fresh_states.Goals as goal

pub loop-i-preserved : goal.loop-i-preserved
loop-i-preserved g c =
    let cons : drop c.loop-i.i c.args.program.now.nodes ≡ c.decl-item.result ∷ drop (c.loop-i.i + 1) c.args.program.now.nodes = grind (arith, common_steps) in
    let run = c.in_ok-evaluated.ensures.run in
    let kept = kept_step c.loop-i.invariant.kept c.decl-item.result c.in_ok-evaluated.evaluated.state c.in_ok-evaluated.evaluated.wants c.eval_own.new.steps cons (rw c.as_slice-earlier.ensures at run.state) (rw c.as_slice-earlier.ensures at run.wants) (rw c.as_slice-earlier.ensures at run.ticks) in
    record { not_fallen = omega arith; kept = rw (c.in_ok-push.ensures.ok, c.in_ok-append.ensures.ok) kept }
