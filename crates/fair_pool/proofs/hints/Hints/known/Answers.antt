use Rattle.std.proofs.Common.{map, sym, ap, ◌∙◌}
use Rattle.std.specs.FinMap.{entries}
use Rattle.fair_pool.specs.Hints.{hint_entry}
use Rattle.fair_pool.proofs.HintTable.{table_entries}
use Rattle.fair_pool.proofs.hints.Hints.known.Goals as goal

pub returns : goal.returns
returns c = ap (map hint_entry) c.as_slice.ensures.value ∙ sym (table_entries c.self.inside.known.items c.self.invariant) ∙ ap (λ h. entries h.workers) c.self.view_is
