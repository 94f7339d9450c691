use Rattle.std.proofs.Common.{rules}
use Rattle.io_ends.proofs.Appended.{appends_more, front_more, front_in}
use Rattle.io_ends.proofs.writing.write_all.Goals as goal

pub loop-done-preserved : goal.loop-done-preserved
loop-done-preserved g c =
    let i = c.loop-done.invariant in
    record {
      in_range = front_in c.args.bytes.now c.loop-done.done c.in_ok-done.field-0 i.in_range c.in_ok-done.ensures.bound;
      so_far = appends_more _ _ _ _ _ _ i.so_far c.in_ok-done.ensures.bytes (front_more c.args.bytes.now c.loop-done.done c.in_ok-done.field-0);
      source_side = search rules;
      no_fault = search rules;
    }
