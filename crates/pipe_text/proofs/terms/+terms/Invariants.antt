use Rattle.std.proofs.Common.{◌≡◌, ◌≤◌, ◌+◌, ◌*◌, ◌-◌, length}
use Rattle.pipe_text.specs.Files.{file_limits}
use Rattle.pipe_text.specs.inside.TermReading.{term_at, parts_at, following_parts}
use Rattle.pipe_text.proofs.terms.+terms.Given as goal

abbrev pub decreases-take_term : goal.decreases-take_term
decreases-take_term l = 5 * l.room.depth

abbrev pub decreases-take_body : goal.decreases-take_body
decreases-take_body l = 5 * l.room.depth + 3

abbrev pub decreases-take_two : goal.decreases-take_two
decreases-take_two l = 5 * l.room.depth + 1

abbrev pub decreases-take_part : goal.decreases-take_part
decreases-take_part l = 5 * l.room.depth + 1

abbrev pub decreases-take_parts : goal.decreases-take_parts
decreases-take_parts l = 5 * l.room.depth + 2

abbrev pub decreases-take_parts-parts : goal.decreases-take_parts-parts
decreases-take_parts-parts l = l.room.left - l.used

abbrev pub invariant-take_parts-parts : goal.invariant-take_parts-parts
invariant-take_parts-parts l = record {
  few : length l.parts ≤ l.used;
  within : l.used ≤ l.room.left;
  same : following_parts l.parts l.used (parts_at (term_at file_limits l.room.depth) (l.room.left - length l.parts) (l.room.left - l.used) l.stop l.tokens) ≡ parts_at (term_at file_limits l.room.depth) l.room.left l.room.left l.stop l.fn.tokens;
}
