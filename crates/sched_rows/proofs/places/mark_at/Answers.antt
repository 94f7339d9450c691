use Rattle.std.proofs.Common.{◌∙◌, ap, refl, set, None, arith}
use Rattle.sched_rows.specs.Holding.{end_of, marked_held}
use Rattle.sched_rows.proofs.IndexLaws.{index_replaced}
use Rattle.sched_rows.proofs.places.mark_at.Goals as goal

pub returns-clause-indexed : goal.returns-clause-indexed
returns-clause-indexed c =
    let long = c.args.held.now.ok in
    let within = c.requires.within in
    index_replaced c.args.held.now.items (set c.args.held.now.items c.args.place (marked_held c.index_mut-one.result.now)) c.args.index.now.set c.remove_end.new.index.set c.remove_end.new.index.set c.args.place c.index_mut-one.result.now
    (marked_held c.index_mut-one.result.now) c.end_of.result None c.requires.indexed (omega arith) c.remove_end.ensures.set refl (c.end_of.ensures ∙ ap end_of c.index_mut-one.ensures.value) refl refl
