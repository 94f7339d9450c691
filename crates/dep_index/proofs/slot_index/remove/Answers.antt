use Rattle.std.proofs.Common.{◌≡◌, ap, sym, subst, ◌∙◌}
use Rattle.dep_index.specs.inside.Layout.{IsFoundAt, IsGapFor, IsIndex, link_at, links_of, shown}
use Rattle.dep_index.specs.Pairs.{Link}
use Rattle.dep_index.proofs.LinkSets.{gap_absent, index_remove, remove_none, set_remove}
use Rattle.dep_index.proofs.Searched.{link_at_is}
use Rattle.dep_index.proofs.slot_index.remove.Goals as goal
use Rattle.dep_index.proofs.slot_index.remove.Goals.{After-search}

here : (c : After-search) → link_at c.args.slots.now c.args.slot ≡ shown c.index-slots-slot.result
here c = link_at_is c.args.slots.now c.args.slot c.index-slots-slot.result c.requires.within ∙ ap shown (sym c.index-slots-slot.is)

pub returns-in-Ok-clause-index : goal.returns-in-Ok-clause-index
returns-in-Ok-clause-index c = subst (IsIndex c.args.by c.args.slots.now) (sym c.remove.ensures.items) (index_remove c.args.slots.now c.args.numbers.now.items c.args.by c.requires.index c.in-Ok.at)

pub returns-in-Ok-clause-links : goal.returns-in-Ok-clause-links
returns-in-Ok-clause-links c =
    let slots = c.args.slots.now in
    let ns = c.args.numbers.now.items in
    let is = here (goal.at.returns-in-Ok-clause-links c).After-search in
    let at = subst (λ (l : Link). IsFoundAt l slots ns c.in-Ok.at) (sym is) (rw c.as_slice.ensures.value at c.in-Ok.ensures) in
    ap (links_of slots) c.remove.ensures.items ∙ set_remove slots ns c.args.by c.requires.index (link_at slots c.args.slot) c.in-Ok.at at

pub returns-in_default-clause-links : goal.returns-in_default-clause-links
returns-in_default-clause-links c =
    let slots = c.args.slots.now in
    let ns = c.args.numbers.now.items in
    let is = here (goal.at.returns-in_default-clause-links c).After-search in
    let gap = subst (λ (l : Link). IsGapFor c.args.by l slots ns c.in_default.field-0) (sym is) (rw c.as_slice.ensures.value at c.in_default.ensures) in
    sym (remove_none (links_of slots ns) (link_at slots c.args.slot) (gap_absent slots ns c.args.by (link_at slots c.args.slot) c.in_default.field-0 gap))
