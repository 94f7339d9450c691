use Rattle.std.proofs.Common.{of_calls, rules}
use Rattle.std.proofs.lemmas.Fn.{always_returns_same}
use Rattle.std.specs.List.{slice_get}
use Rattle.dep_index.specs.inside.Layout.{compared}
use Rattle.dep_index.specs.Pairs.{Link}
use Rattle.dep_index.proofs.Searched.{searched}
use Rattle.dep_index.proofs.slot_index.search.Goals as goal

pub returns : goal.returns
returns c =
    let l : Link = record { source = c.args.source.now; to = c.args.to } in
    searched c.args.by c.args.slots.now c.args.numbers.now c.requires l c.binary_search_by.result c.binary_search_by.ensures.bound
    (c.binary_search_by.ensures.position (λ n. compared c.args.by l (slice_get c.args.slots.now n)) (always_returns_same _ _ _ (λ a r f k. search (rules, of_calls))))
