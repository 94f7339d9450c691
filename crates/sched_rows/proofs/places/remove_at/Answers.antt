use Rattle.std.proofs.Common.{◌∙◌, ap, arith}
use Rattle.sched_rows.specs.Holding.{end_of}
use Rattle.sched_rows.proofs.IndexLaws.{index_emptied, index_removed, none_at}
use Rattle.sched_rows.proofs.places.remove_at.Goals as goal

pub close_place-requires : goal.close_place-requires
close_place-requires c =
    let long = c.args.held.now.ok in
    let within = c.requires.within in
    none_at c.args.held.now.items c.remove_end.new.index.set c.args.place
    (index_emptied c.args.held.now.items c.args.index.now.set c.remove_end.new.index.set c.args.place c.remove-old.result c.end_of.result c.requires.indexed (omega arith) c.remove_end.ensures.set (c.end_of.ensures ∙ ap end_of c.remove-old.ensures.value))

pub returns-clause-indexed : goal.returns-clause-indexed
returns-clause-indexed c =
    let long = c.args.held.now.ok in
    let within = c.requires.within in
    index_removed c.args.held.now.items c.remove-old.new.self.items c.remove_end.new.index.set c.close_place.new.self.set c.args.place
    (index_emptied c.args.held.now.items c.args.index.now.set c.remove_end.new.index.set c.args.place c.remove-old.result c.end_of.result c.requires.indexed (omega arith) c.remove_end.ensures.set (c.end_of.ensures ∙ ap end_of c.remove-old.ensures.value))
    c.close_place.ensures.items c.remove-old.ensures.items
