use Rattle.std.proofs.Common.{◌≡◌, ◌++◌, drop}
use Rattle.dep_index.specs.inside.Layout.{leading_users, listed}
use Rattle.dep_index.proofs.pairs.leading_users.Given as goal

abbrev pub invariant-loop-slot : goal.invariant-loop-slot
invariant-loop-slot l = l.users.items ++ leading_users l.source (listed l.slots (drop l.slot-index l.numbers)) ≡ leading_users l.source (listed l.slots l.numbers)
