use Rattle.std.proofs.Common.{◌∙◌, ap, set, arith}
use Rattle.sched_rows.specs.Holding.{end_of}
use Rattle.sched_rows.proofs.IndexLaws.{index_replaced}
use Rattle.sched_rows.proofs.places.replace_at.Goals as goal

pub returns-clause-indexed : goal.returns-clause-indexed
returns-clause-indexed c =
    let long = c.args.held.now.ok in
    let within = c.requires.within in
    index_replaced c.args.held.now.items (set c.args.held.now.items c.args.place c.replace.new.dest) c.args.index.now.set c.remove_end.new.index.set c.add_end.new.index.set c.args.place c.index-old.result.now c.args.one
    c.end_of-old_end.result c.end_of-end.result c.requires.indexed (omega arith) c.remove_end.ensures.set c.add_end.ensures.set (c.end_of-old_end.ensures ∙ ap end_of c.index-old.ensures) c.end_of-end.ensures
    (ap (set c.args.held.now.items c.args.place) c.replace.ensures.after)
