use Rattle.std.proofs.Common.{◌≡◌, ◌++◌, drop}
use Rattle.visit_rules.specs.KnownChanges.{looked_at}
use Rattle.visit_rules.proofs.looking.look_at.Given as goal

abbrev pub invariant-loop-triple : goal.invariant-loop-triple
invariant-loop-triple g l = l.looked ++ looked_at (g.E.Entries.world l.entries) l.wants (drop l.triple-index l.named) ≡ looked_at (g.E.Entries.world l.entries) l.wants l.named
