use Rattle.std.proofs.Common.{◌≡◌, take}
use Rattle.snap_read.proofs.copying.copy_of_states.Given as goal

-- the states so far are copied
abbrev pub invariant-loop-state : goal.invariant-loop-state
invariant-loop-state l = l.copies ≡ take l.state-index l.states
