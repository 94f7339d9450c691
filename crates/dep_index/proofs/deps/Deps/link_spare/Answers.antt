use Rattle.std.proofs.Common.{◌≡◌, ◌+◌, ◌-◌, ◌<◌, subst, sym, arith}
use Rattle.dep_index.specs.inside.Layout.{HasRoom}
use Rattle.dep_index.specs.Pairs.{Index}
use Rattle.dep_index.proofs.deps.Deps.link_spare.Goals as goal

pub invariant_of-self : goal.invariant_of-self
invariant_of-self c =
    let some = subst (λ (d : Index). 0 < d.spare) (sym c.self.view_is) c.requires in
    let one : c.self.inside.spare ≡ c.self.inside.spare - 1 + 1 = omega arith in
    record {
      kept = c.insert.ensures.kept;
      room = c.insert.ensures.room (c.self.inside.spare - 1) (subst (λ n. HasRoom n c.self.inside.pairs) one c.self.invariant.room);
    }
