use Rattle.std.proofs.Common.{◌≡◌, true, cond, ap, ◌∙◌, arith}
use Rattle.std.specs.List.{insert}
use Rattle.std.specs.Result.{is_ok}
use Rattle.sched_rows.proofs.EndSets.{ends_of-insert, insert_there, rising_insert}
use Rattle.sched_rows.proofs.expiry_index.ExpiryIndex.add.Goals as goal

pub invariant_of-self : goal.invariant_of-self
invariant_of-self c =
    let is = c.self.view_is in
    let room = ap (λ e. e.room) c.self.view_is in
    let ok : is_ok c.insert.result ≡ true = c.insert.ensures.succeeds (omega arith) in
    let items : c.insert.new.self.items ≡ insert c.self.inside.ends.items c.in-Err.gap c.args.end = c.insert.ensures.items ∙ ap (λ b. cond b (insert c.self.inside.ends.items c.in-Err.gap c.args.end) c.self.inside.ends.items) ok in
    rising_insert c.self.inside.ends.items c.insert.new.self.items c.in-Err.gap c.args.end c.self.invariant (rw c.as_slice.ensures.value at c.in-Err.ensures) items

pub returns-in-Err-clause-set : goal.returns-in-Err-clause-set
returns-in-Err-clause-set c =
    let room = ap (λ e. e.room) c.self.view_is in
    let ok : is_ok c.insert.result ≡ true = c.insert.ensures.succeeds (omega arith) in
    let items : c.insert.new.self.items ≡ insert c.self.inside.ends.items c.in-Err.gap c.args.end = c.insert.ensures.items ∙ ap (λ b. cond b (insert c.self.inside.ends.items c.in-Err.gap c.args.end) c.self.inside.ends.items) ok in
    ends_of-insert c.self.inside.ends.items c.insert.new.self.items c.args.self.now.set c.in-Err.gap c.args.end (ap (λ e. e.set) c.self.view_is) c.self.invariant (rw c.as_slice.ensures.value at c.in-Err.ensures) items

pub returns-in_default-clause-set : goal.returns-in_default-clause-set
returns-in_default-clause-set c =
    insert_there c.self.inside.ends.items c.args.self.now.set c.in_default.field-0 c.args.end (ap (λ e. e.set) c.self.view_is) c.self.invariant (rw c.as_slice.ensures.value at c.in_default.ensures)
