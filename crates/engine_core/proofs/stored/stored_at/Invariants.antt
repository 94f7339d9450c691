use Rattle.std.proofs.Common.{◌≡◌, drop}
use Rattle.core_rules.specs.Openings.{stored_at}
use Rattle.engine_core.proofs.stored.stored_at.Given as goal

abbrev pub invariant-loop-one : goal.invariant-loop-one
invariant-loop-one l = stored_at (drop l.one-index l.stored) l.name ≡ stored_at l.stored l.name
