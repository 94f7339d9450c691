use Rattle.std.proofs.Common.{◌≤◌}
use Rattle.term_core.proofs.Kept.{Kept}
use Rattle.term_core.proofs.fresh.fresh_states.Given as goal

abbrev pub invariant-loop-i : goal.invariant-loop-i
invariant-loop-i g l = record {
  not_fallen : l.initial.steps ≤ l.steps;
  kept : Kept l.program l.inputs (g.E.Entries.world l.entries) l.initial.steps l.i l.states l.wants l.steps;
}
