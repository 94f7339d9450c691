use Rattle.std.proofs.Common.{◌≡◌, ◌+◌, ◌≤◌, length}
use Rattle.std.specs.Io.KnownBytes.{prepend_known, Keeps}
use Rattle.io_ends.specs.Lines.{line_limit}
use Rattle.io_ends.proofs.Cut.{NoneBelow}
use Rattle.io_ends.proofs.lines.next_line.Given as goal

abbrev pub invariant-loop-at : goal.invariant-loop-at
invariant-loop-at g l =
    let s = g.S.Source in
    record {
      ahead : Keeps (prepend_known l.fn.piece (s.left l.fn.source)) (prepend_known l.line.items (prepend_known l.piece (s.left l.source)));
      no_newline : NoneBelow (length l.line.items) l.line.items;
      fits : length l.line.items ≤ line_limit;
      spent : s.budget l.source + length l.line.items + length l.piece ≤ s.budget l.fn.source + length l.fn.piece;
      sink_side : s.sink_side l.source ≡ s.sink_side l.fn.source;
      no_fault : s.faults l.source ≡ s.faults l.fn.source;
    }

abbrev pub decreases-loop-at : goal.decreases-loop-at
decreases-loop-at g l = g.S.Source.budget l.source
