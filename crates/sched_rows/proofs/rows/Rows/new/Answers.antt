use Rattle.std.proofs.Common.{◌∙◌, ap, arith}
use Rattle.sched_rows.specs.Holding.{expiries_of, rows_of}
use Rattle.sched_rows.proofs.KeptLaws.{expiries_of-nil, orderly_nil, rows_of-nil}
use Rattle.sched_rows.proofs.rows.Rows.new.Goals as goal

pub invariant_of-result : goal.invariant_of-result
invariant_of-result c =
    let len = c.new.ensures.len in
    record { orderly = orderly_nil c.new.result.items c.new-2.result.set c.new.ensures.items c.new-2.ensures; room = omega arith; index_room = omega arith }

pub returns : goal.returns
returns c = λ i. record { rows = (ap rows_of c.new.ensures.items ∙ rows_of-nil) i; expiries = (ap expiries_of c.new.ensures.items ∙ expiries_of-nil) i; spare = 0 }
