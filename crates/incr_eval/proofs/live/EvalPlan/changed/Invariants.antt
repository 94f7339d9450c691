use Rattle.std.proofs.Common.{◌≡◌, take}
use Rattle.incr_eval.proofs.live.EvalPlan.changed.Given as goal

abbrev pub invariant-loop-one : goal.invariant-loop-one
invariant-loop-one l = l.copies ≡ take l.one-index l.self-inside.changed
