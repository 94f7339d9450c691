use Rattle.std.proofs.Common.{◌≡◌, ◌≤◌, List, ℕ}
use Rattle.std.specs.declared.option.Option.{Option}
use Rattle.io_ends.specs.Lines.{DropsLine}
use Rattle.io_ends.proofs.lines.skip_line.Given as goal

abbrev pub invariant-loop-piece : goal.invariant-loop-piece
invariant-loop-piece g l =
    let s = g.S.Source in
    record {
      drops : (after : Option (List ℕ)) → DropsLine (s.left l.source) after → DropsLine (s.left l.fn.source) after;
      spent : s.budget l.source ≤ s.budget l.fn.source;
      sink_side : s.sink_side l.source ≡ s.sink_side l.fn.source;
      no_fault : s.faults l.source ≡ s.faults l.fn.source;
    }

abbrev pub decreases-loop-piece : goal.decreases-loop-piece
decreases-loop-piece g l = g.S.Source.budget l.source
