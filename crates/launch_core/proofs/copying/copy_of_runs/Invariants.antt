use Rattle.std.proofs.Common.{◌≡◌, take}
use Rattle.launch_core.proofs.copying.copy_of_runs.Given as goal

-- the runs so far are copied
abbrev pub invariant-loop-run : goal.invariant-loop-run
invariant-loop-run l = l.copies ≡ take l.run-index l.runs
