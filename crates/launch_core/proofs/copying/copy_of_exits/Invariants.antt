use Rattle.std.proofs.Common.{◌≡◌, take}
use Rattle.launch_core.proofs.copying.copy_of_exits.Given as goal

-- the exits so far are copied
abbrev pub invariant-loop-exit : goal.invariant-loop-exit
invariant-loop-exit l = l.copies.items ≡ take l.exit-index l.exits
