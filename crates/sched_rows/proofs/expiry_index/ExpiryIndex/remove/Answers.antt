use Rattle.std.proofs.Common.{ap}
use Rattle.sched_rows.proofs.EndSets.{ends_of-remove, remove_absent, rising_remove}
use Rattle.sched_rows.proofs.expiry_index.ExpiryIndex.remove.Goals as goal

pub invariant_of-self : goal.invariant_of-self
invariant_of-self c =
    rising_remove c.self.inside.ends.items c.remove.new.self.items c.in-Ok.at c.args.end c.self.invariant (rw c.as_slice.ensures.value at c.in-Ok.ensures) c.remove.ensures.items

pub returns-in-Ok-clause-set : goal.returns-in-Ok-clause-set
returns-in-Ok-clause-set c =
    ends_of-remove c.self.inside.ends.items c.remove.new.self.items c.args.self.now.set c.in-Ok.at c.args.end (ap (λ e. e.set) c.self.view_is) c.self.invariant (rw c.as_slice.ensures.value at c.in-Ok.ensures) c.remove.ensures.items

pub returns-in_default-clause-set : goal.returns-in_default-clause-set
returns-in_default-clause-set c =
    remove_absent c.self.inside.ends.items c.args.self.now.set c.in_default.field-0 c.args.end (ap (λ e. e.set) c.self.view_is) c.self.invariant (rw c.as_slice.ensures.value at c.in_default.ensures)
