use Rattle.std.proofs.Common.{◌≡◌, ◌++◌, drop, map}
use Rattle.keeper_core.specs.inside.HashedEntries.{hashed_entry}
use Rattle.keeper_core.proofs.old_tables.hashed_entries.Given as goal

abbrev pub invariant-loop-entry : goal.invariant-loop-entry
invariant-loop-entry l = l.hashed.items ++ map hashed_entry (drop l.entry-index l.entries) ≡ map hashed_entry l.entries
