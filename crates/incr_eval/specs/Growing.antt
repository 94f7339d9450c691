-- The tree to come, by what a patch has of it.
use Rattle.std.specs.Prelude.{map, Option, Some, None}
use Rattle.visit_rules.specs.Again.{old_bodies, old_parts}
use Rattle.incr_eval.specs.PatchedTrees.{patched, patched_bodies, patched_parts, visit_of, visit_or_none}
use Rattle.incr_eval.specs.declared.next.Grown.{Grown}
use Rattle.visit_rules.specs.declared.visit.Visit.{Visit}

-- the tree that stays, or the one that is made anew over it
abbrev pub next_visit : Option Grown → Option Visit → Visit
next_visit None old = visit_or_none old
next_visit (Some g) old = visit_of g.instance.now (patched_parts (map patched g.parts.now) (old_parts old)) (patched_bodies (map patched g.bodies.now) g.from.now (old_bodies old))
