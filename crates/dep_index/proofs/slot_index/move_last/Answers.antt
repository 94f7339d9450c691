use Rattle.std.proofs.Common.{◌≡◌, ◌-◌, ap, length, sym, subst, ◌∙◌, arith}
use Rattle.dep_index.specs.inside.Layout.{IsFoundAt, IsGapFor, link_at, shown}
use Rattle.dep_index.specs.Pairs.{Link}
use Rattle.dep_index.proofs.Moved.{moved_at, moved_none}
use Rattle.dep_index.proofs.Searched.{link_at_is}
use Rattle.dep_index.proofs.slot_index.move_last.Goals as goal
use Rattle.dep_index.proofs.slot_index.move_last.Goals.{After-search}

last_is : (c : After-search) → link_at c.args.slots.now (length c.args.slots.now - 1) ≡ shown c.index-slots-slots.result
last_is c =
    let some = c.requires.within in
    link_at_is c.args.slots.now (length c.args.slots.now - 1) c.index-slots-slots.result (omega arith) ∙ ap shown (sym c.index-slots-slots.is)

pub returns-in-Ok-clause-moved : goal.returns-in-Ok-clause-moved
returns-in-Ok-clause-moved c =
    let slots = c.args.slots.now in
    let ns = c.args.numbers.now.items in
    let is = last_is (goal.at.returns-in-Ok-clause-moved c).After-search in
    let at = subst (λ (l : Link). IsFoundAt l slots ns c.in-Ok.at) (sym is) (rw c.as_slice.ensures.value at c.in-Ok.ensures) in
    moved_at c.args.by slots ns c.args.slot c.requires.within c.requires.index c.requires.gone c.in-Ok.at at

pub returns-in_default-clause-moved : goal.returns-in_default-clause-moved
returns-in_default-clause-moved c =
    let slots = c.args.slots.now in
    let ns = c.args.numbers.now.items in
    let is = last_is (goal.at.returns-in_default-clause-moved c).After-search in
    let gap = subst (λ (l : Link). IsGapFor c.args.by l slots ns c.in_default.field-0) (sym is) (rw c.as_slice.ensures.value at c.in_default.ensures) in
    moved_none c.args.by slots ns c.args.slot c.requires.within c.requires.index c.requires.gone c.in_default.field-0 gap
