use Rattle.std.proofs.Common.{length, ap, arith, Ok, ◌<◌, ◌≤◌, false-eqb}
use Rattle.io_ends.specs.Lines.{line_limit}
use Rattle.io_ends.proofs.Cut.{NoneBelow, next_whole, next_long, next_dropped, next_last, none_append, keeps_taken, keeps_refilled}
use Rattle.io_ends.proofs.lines.next_line.Goals as goal

pub returns-then-len-gt-LINE_LIMIT-clause-line : goal.returns-then-len-gt-LINE_LIMIT-clause-line
returns-then-len-gt-LINE_LIMIT-clause-line g c =
    let i = c.loop-at.invariant in
    let found = rw c.rest.ensures at c.in-Some.ensures.found in
    let line = rw c.rest-in-Some.ensures at c.in_ok-extend_from_slice.ensures.items in
    let long : line_limit < length c.extend_from_slice.new.self.items = omega (arith, c.extend_from_slice.new.self.ok.0) in
    rw c.advance.ensures (next_long _ _ c.loop-at.line.items c.loop-at.piece c.in-Some.at c.extend_from_slice.new.self i.ahead i.no_newline found.0 found.1 found.2 line long)

pub returns-in-Some-clause-line : goal.returns-in-Some-clause-line
returns-in-Some-clause-line g c =
    let i = c.loop-at.invariant in
    let found = rw c.rest.ensures at c.in-Some.ensures.found in
    let line = rw c.rest-in-Some.ensures at c.in_ok-extend_from_slice.ensures.items in
    let fits : length c.extend_from_slice.new.self.items ≤ line_limit = omega (arith, c.extend_from_slice.new.self.ok.0) in
    rw c.advance.ensures (next_whole _ _ c.loop-at.line.items c.loop-at.piece c.in-Some.at c.extend_from_slice.new.self i.ahead i.no_newline found.0 found.1 found.2 line fits)

pub returns-then-len-gt-LINE_LIMIT-2-clause-line : goal.returns-then-len-gt-LINE_LIMIT-2-clause-line
returns-then-len-gt-LINE_LIMIT-2-clause-line g c =
    let i = c.loop-at.invariant in
    let none = rw c.rest.ensures at c.in_default.ensures.none in
    let line = rw c.rest-in-loop-at.ensures at c.in_ok-extend_from_slice-2.ensures.items in
    let ahead = keeps_taken _ _ c.loop-at.line.items c.loop-at.piece _ i.ahead line in
    let no_newline : NoneBelow (length c.extend_from_slice-in-loop-at.new.self.items) c.extend_from_slice-in-loop-at.new.self.items = rw line (none_append c.loop-at.line.items c.loop-at.piece i.no_newline none) in
    let long : line_limit < length c.extend_from_slice-in-loop-at.new.self.items = omega (arith, c.extend_from_slice-in-loop-at.new.self.ok.0) in
    next_dropped _ _ _ c.extend_from_slice-in-loop-at.new.self.items ahead no_newline long c.in_ok-skip_line.ensures.rest

pub returns-then-not-branch-clause-line : goal.returns-then-not-branch-clause-line
returns-then-not-branch-clause-line g c =
    let i = c.loop-at.invariant in
    let none = rw c.rest.ensures at c.in_default.ensures.none in
    let line = rw c.rest-in-loop-at.ensures at c.in_ok-extend_from_slice-2.ensures.items in
    let no_newline : NoneBelow (length c.extend_from_slice-in-loop-at.new.self.items) c.extend_from_slice-in-loop-at.new.self.items = rw line (none_append c.loop-at.line.items c.loop-at.piece i.no_newline none) in
    let ahead = keeps_taken _ _ c.loop-at.line.items c.loop-at.piece _ i.ahead line in
    let end = c.in_ok-refill.ensures.end (ap Ok c.if-not-branch.true) in
    let not_empty = false-eqb _ 0 c.if-is_empty.ensures in
    let full = c.extend_from_slice-in-loop-at.new.self.ok.0 in
    let some : 0 < length c.extend_from_slice-in-loop-at.new.self.items = omega (arith, full, not_empty) in
    let fits : length c.extend_from_slice-in-loop-at.new.self.items ≤ line_limit = omega (arith, full) in
    next_last _ _ c.extend_from_slice-in-loop-at.new.self c.refill.new.self (keeps_refilled _ _ _ _ ahead c.in_ok-refill.ensures.same) end.0 end.1 no_newline some fits
