use Rattle.std.proofs.Common.{◌≡◌, ◌∙◌, suc, ◌-◌, ◌<◌, ◌≤◌, ◌∷◌, List, Some, ap, sym, arith, drop, length, map, slice_get}
use Rattle.std.proofs.lemmas.Grind.{common_steps}
use Rattle.std.proofs.lemmas.Option.{slice_get-get_or}
use Rattle.std.proofs.lemmas.List.{length-drop}
use Rattle.std.specs.Option.{unwrap_or}
use Rattle.value_core.specs.declared.state.Triple.{Triple}
use Rattle.term_core.specs.Counts.{count_of}
use Rattle.visit_rules.proofs.NodesLoop.{drop_at}
use Rattle.visit_rules.proofs.Tallies.{count_found, count_grown, counted_within, shown}
use Rattle.visit_rules.specs.Visits.{tally}
use Rattle.visit_rules.proofs.counting.counts.Goals as goal

pub overflow_add-count : goal.overflow_add-count
overflow_add-count c =
    let us : List Triple = drop c.loop-left.left c.args.wants.now in
    let is : c.unwrap_or-count.result ≡ count_of us c.index-wants-left.result = c.unwrap_or-count.ensures ∙ (ap (λ o. unwrap_or o 0) (c.copied.ensures ∙ c.get.ensures.value) ∙ count_found us c.index-wants-left.result c.loop-left.counts.entries c.loop-left.invariant.so_far) in
    let few : count_of us c.index-wants-left.result ≤ length us = counted_within us c.index-wants-left.result in
    let left : length us ≡ length c.args.wants.now - c.loop-left.left = length-drop c.loop-left.left c.args.wants.now in
    grind (arith, common_steps, is, few, left)

pub loop-left-preserved : goal.loop-left-preserved
loop-left-preserved c =
    let xs : List Triple = c.args.wants.now in
    let us : List Triple = drop c.loop-left.left xs in
    let is : c.unwrap_or-count.result ≡ count_of us c.index-wants-left.result = c.unwrap_or-count.ensures ∙ (ap (λ o. unwrap_or o 0) (c.copied.ensures ∙ c.get.ensures.value) ∙ count_found us c.index-wants-left.result c.loop-left.counts.entries c.loop-left.invariant.so_far) in
    let within : c.loop-left.left - 1 < length xs = grind (arith, common_steps) in
    let at : slice_get xs (c.loop-left.left - 1) ≡ Some c.index-wants-left.result = slice_get-get_or xs (c.loop-left.left - 1) c.index-wants-left.result within ∙ ap Some (sym c.index-wants-left.is) in
    let next : suc (c.loop-left.left - 1) ≡ c.loop-left.left = grind (arith, common_steps) in
    let more = count_grown us _ c.unwrap_or-count.result c.loop-left.counts.entries c.loop-left.invariant.so_far is in
    record {
      within = grind (arith, common_steps);
      so_far = ap (λ es. map shown es) c.in_ok-insert.ensures.entries ∙ (more ∙ sym (ap tally (drop_at xs (c.loop-left.left - 1) c.index-wants-left.result at ∙ ap (λ i. c.index-wants-left.result ∷ drop i xs) next)));
    }
