use Rattle.dep_index.proofs.deps.Deps.reserve.Goals as goal

pub invariant_of-self : goal.invariant_of-self
invariant_of-self c = record { kept = c.reserve.ensures.kept; room = c.reserve.ensures.room_left c.self.inside.spare c.self.invariant.room }
