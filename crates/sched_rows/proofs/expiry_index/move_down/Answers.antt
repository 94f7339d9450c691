use Rattle.std.proofs.Common.{get_or}
use Rattle.sched_rows.specs.Ends.{moved_down}
use Rattle.sched_rows.specs.declared.expiry_index.End.{End}
use Rattle.sched_rows.proofs.Mapped.{mapped_all, mapped_more}
use Rattle.sched_rows.proofs.expiry_index.move_down.Goals as goal

abbrev zero : End
zero = record { time = 0; place = 0 }

pub loop-end-preserved : goal.loop-end-preserved
loop-end-preserved c =
    mapped_more (moved_down c.args.from) c.args.ends.now c.loop-end.ends c.loop-end.end-index zero _ c.loop-end-test.true c.loop-end.auto.ends c.loop-end.invariant
    (λ i. record { time = (get_or c.loop-end.ends c.loop-end.end-index zero).time; place = c.below_gap-end.ensures i })

pub returns : goal.returns
returns c = mapped_all (moved_down c.args.from) c.args.ends.now c.loop-end.ends c.loop-end.end-index c.loop-end-test.false c.loop-end.invariant
