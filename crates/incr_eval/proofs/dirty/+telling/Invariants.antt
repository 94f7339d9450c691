use Rattle.std.proofs.Common.{◌≡◌, ◌+◌, ◌*◌, drop}
use Rattle.std.specs.List.{list_any}
use Rattle.visit_rules.specs.KnownChanges.{known_in}
use Rattle.visit_rules.specs.Visits.{bodies_of, parts_of, passes, visits_of}
use Rattle.incr_eval.proofs.dirty.+telling.Given as goal

abbrev pub decreases-is_dirty : goal.decreases-is_dirty
decreases-is_dirty g l = 2 * visits_of l.old.now + 1

abbrev pub decreases-has_dirty_part : goal.decreases-has_dirty_part
decreases-has_dirty_part g l = 2 * visits_of l.old.now

abbrev pub decreases-has_dirty_body : goal.decreases-has_dirty_body
decreases-has_dirty_body g l = 2 * visits_of l.old.now

abbrev pub invariant-has_dirty_part-loop-i : goal.invariant-has_dirty_part-loop-i
invariant-has_dirty_part-loop-i g l = list_any (passes (known_in l.setting)) (drop l.i (parts_of l.old)) ≡ list_any (passes (known_in l.setting)) (parts_of l.old)

abbrev pub invariant-has_dirty_body-loop-i : goal.invariant-has_dirty_body-loop-i
invariant-has_dirty_body-loop-i g l = list_any (passes (known_in l.setting)) (drop l.i (bodies_of l.old)) ≡ list_any (passes (known_in l.setting)) (bodies_of l.old)
