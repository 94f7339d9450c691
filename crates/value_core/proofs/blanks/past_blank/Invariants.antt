use Rattle.std.proofs.Common.{◌≡◌, ◌≤◌, ◌+◌, ◌-◌, drop, length}
use Rattle.value_core.specs.Tokens.{gap}
use Rattle.value_core.proofs.blanks.past_blank.Given as goal

abbrev pub decreases-loop-len : goal.decreases-loop-len
decreases-loop-len l = length l.bytes - l.at

abbrev pub invariant-loop-len : goal.invariant-loop-len
invariant-loop-len l = record {
  within : l.at + l.len ≤ length l.bytes;
  some : l.at + (l.len + gap 0 (drop (l.at + l.len) l.bytes)) ≡ l.from + gap 0 (drop l.from l.bytes);
  none : l.len ≡ 0 → gap 0 (drop l.at l.bytes) ≡ 0;
}
