use Rattle.std.proofs.Common.{◌≡◌, ℕ, vec_len}
use Rattle.dep_index.specs.inside.Layout.{AreKept, HasRoom, links_in, without_user}
use Rattle.dep_index.specs.declared.pairs.Pairs.{Pairs}
use Rattle.dep_index.proofs.pairs.Pairs.remove_all.Given as goal

-- the pairs of the other instances are as they were
pub record AreLeft (to : ℕ) (old new : Pairs) : Type 0 where
  pub kept : AreKept new
  pub room : (n : ℕ) → HasRoom n old → HasRoom n new
  pub links : without_user (links_in new) to ≡ without_user (links_in old) to

abbrev pub invariant-users : goal.invariant-users
invariant-users l = AreLeft l.to l.initial.self l.self

abbrev pub decreases-users : goal.decreases-users
decreases-users l = vec_len l.self.slots
