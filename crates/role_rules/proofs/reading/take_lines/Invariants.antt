use Rattle.std.proofs.Common.{◌≡◌, ◌+◌, ◌≤◌, length}
use Rattle.role_rules.specs.Pieces.{pieces_after}
use Rattle.role_rules.specs.Reading.{lines_taken}
use Rattle.role_rules.proofs.reading.take_lines.Given as goal

abbrev pub invariant-lines : goal.invariant-lines
invariant-lines l = record {
  same : lines_taken l.number l.so_far (pieces_after 10 l.left) ≡ lines_taken 2 l.fn.policy (pieces_after 10 l.rest);
  few : l.number + length l.left ≤ 65538;
}

abbrev pub decreases-lines : goal.decreases-lines
decreases-lines l = length l.left
