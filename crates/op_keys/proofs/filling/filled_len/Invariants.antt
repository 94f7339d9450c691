use Rattle.std.proofs.Common.{◌≡◌, ◌+◌, ◌<◌, ◌^◌, length}
use denote.Text.{Utf8}
use denote.Shadow.{shadow}
use Rattle.op_keys.specs.Filling.{filled}
use Rattle.op_keys.specs.Orders.{capped}
use Rattle.op_keys.proofs.filling.filled_len.Given as goal

abbrev pub invariant-loop-piece : goal.invariant-loop-piece
invariant-loop-piece l = shadow (Utf8 l.rest)
    × (l.len < 2 ^ 64)
    × (capped (l.len + length (filled l.key l.value l.rest)) ≡ capped (length (filled l.key l.value l.template)))

abbrev pub decreases-loop-piece : goal.decreases-loop-piece
decreases-loop-piece l = length l.rest
