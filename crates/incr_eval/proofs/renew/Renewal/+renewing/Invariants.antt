use Rattle.std.proofs.Common.{◌≡◌, ◌+◌, ◌*◌, ◌≤◌, map, drop, length, min}
use Rattle.term_core.specs.Evaluation.{Context}
use Rattle.term_core.specs.Views.{context_in}
use Rattle.term_core.specs.declared.program.Term.{out-Term, size-Term}
use Rattle.incr_eval.proofs.PatchLoops.{Comes}
use Rattle.visit_rules.specs.Again.{again_by, items_over, old_bodies, old_items, old_parts, parts_again, spare_bodies, unused}
use Rattle.visit_rules.specs.KnownChanges.{known_in}
use Rattle.incr_eval.specs.PatchedTrees.{patched, patched_bodies, patched_parts}
use Rattle.incr_eval.specs.Renewals.{items_in, parts_in}
use Rattle.visit_rules.specs.Tables.{direct_parts}
use Rattle.visit_rules.specs.Visits.{Test}
use Rattle.incr_eval.proofs.renew.Renewal.+renewing.Given as goal

abbrev pub decreases-term : goal.decreases-term
decreases-term g l = 6 * size-Term l.term.now + 2

abbrev pub decreases-visit : goal.decreases-visit
decreases-visit g l = 6 * size-Term l.term.now + 1

abbrev pub decreases-parts : goal.decreases-parts
decreases-parts g l = 6 * size-Term l.term.now

abbrev pub decreases-bodies : goal.decreases-bodies
decreases-bodies g l = 6 * size-Term l.term.now

abbrev pub decreases-items : goal.decreases-items
decreases-items g l = 6 * size-Term l.body.term.now + 4

abbrev pub decreases-under : goal.decreases-under
decreases-under g l = 6 * size-Term l.body.term.now + 3

abbrev pub invariant-parts-loop-i : goal.invariant-parts-loop-i
invariant-parts-loop-i g l =
    let given : Context = context_in g.E.Entries.world l.initial.self.setting.context in
    let test : Test = known_in l.initial.self.setting in
    record {
      same : l.self ≡ l.initial.self;
      not_fallen : l.initial.steps ≤ l.steps;
      count : length l.patches ≡ l.i;
      comes : Comes (patched_parts (map patched l.patches) (old_parts l.old)) l.states l.steps
          (parts_again (map (again_by test given) (drop l.i (direct_parts (out-Term l.term)))) (drop l.i (old_parts l.old)) l.initial.self.bound)
          l.initial.steps (parts_in g.E.Entries.world l.initial.self l.term l.old);
    }

abbrev pub invariant-items-loop-item : goal.invariant-items-loop-item
invariant-items-loop-item g l =
    let given : Context = context_in g.E.Entries.world l.initial.self.setting.context in
    let test : Test = known_in l.initial.self.setting in
    record {
      same : l.self ≡ l.initial.self;
      not_fallen : l.initial.steps ≤ l.steps;
      used : length l.used.items ≡ min (length (old_items l.old)) (length (old_bodies l.old));
      count : length l.patches ≡ length l.from;
      comes : Comes (patched_bodies (map patched l.patches) l.from (old_bodies l.old)) l.states l.steps
          (items_over test given l.body.term.now l.body.name.now (drop l.item-index l.items) (unused l.used.items (spare_bodies l.old)) l.initial.self.bound)
          l.initial.steps (items_in g.E.Entries.world l.initial.self l.body.term.now l.body.name.now l.items l.old);
    }
