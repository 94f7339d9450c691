use Rattle.dep_index.proofs.deps.Deps.unlink.Goals as goal

pub invariant_of-self : goal.invariant_of-self
invariant_of-self c = record { kept = c.remove_all.ensures.kept; room = c.remove_all.ensures.room c.self.inside.spare c.self.invariant.room }
