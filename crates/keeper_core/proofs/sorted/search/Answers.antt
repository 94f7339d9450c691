use Rattle.std.proofs.Common.{of_calls, rules}
use Rattle.std.proofs.lemmas.Fn.{always_returns_same}
use Rattle.keeper_core.specs.inside.EntryMaps.{entry_key, entry_value}
use Rattle.sched_rows.proofs.SortedEntries.{searched}
use Rattle.keeper_core.proofs.sorted.search.Goals as goal

pub returns : goal.returns
returns g c =
    searched g.K.Key.order g.met.K.Key.total entry_key entry_value g.met.K.Key.antisymmetric c.args.key.now c.args.entries.now c.binary_search_by.result c.requires c.binary_search_by.ensures.bound
    (c.binary_search_by.ensures.position (λ e. g.K.Key.order (entry_key e) c.args.key.now) (always_returns_same _ _ _ (λ a r f k. search (rules, of_calls))))
