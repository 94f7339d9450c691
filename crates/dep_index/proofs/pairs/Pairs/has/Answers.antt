use Rattle.std.proofs.Common.{◌∙◌}
use Rattle.dep_index.specs.Pairs.{Link}
use Rattle.dep_index.specs.declared.pair.By.TheVariants as by_first
use Rattle.dep_index.proofs.LinkSets.{found_is}
use Rattle.dep_index.proofs.pairs.Pairs.has.Goals as goal

pub returns : goal.returns
returns c =
    let l : Link = record { source = c.args.source.now; to = c.args.to } in
    c.is_ok.ensures.value ∙ found_is c.args.self.now.slots.items c.args.self.now.by_source.items by_first.Source l c.search.result (rw (c.as_slice.ensures.value, c.as_slice-numbers.ensures.value) at c.search.ensures)
