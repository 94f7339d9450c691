use Rattle.std.proofs.Common.{◌≡◌, ◌≤◌, length}
use Rattle.visit_rules.proofs.NodesLoop.{Kept}
use Rattle.visit_rules.specs.KnownChanges.{moved_between}
use Rattle.incr_eval.specs.PatchedTrees.{patched_trees}
use Rattle.incr_eval.proofs.nodes.renew_all.Given as goal

abbrev pub invariant-loop-i : goal.invariant-loop-i
invariant-loop-i g l = record {
  kept : Kept l.pass.program.now l.pass.named.now l.pass.looked.now l.pass.inputs.now (g.E.Entries.world l.pass.entries.now) l.forest
      l.initial.steps l.i l.moved l.states (patched_trees l.patches l.forest) l.steps;
  moved : l.moved ≡ moved_between l.forest l.states;
  patches_count : length l.patches ≡ l.i;
  states_count : length l.states ≡ l.i;
  not_fallen : l.initial.steps ≤ l.steps;
}
