use Rattle.std.proofs.Common.{◌≡◌, true, cond, ap, sym, subst, ◌∙◌, arith}
use Rattle.std.specs.List.{insert}
use Rattle.std.specs.Result.{is_ok}
use Rattle.dep_index.specs.inside.Layout.{IsFoundAt, IsGapFor, IsIndex, link_at, links_of, shown}
use Rattle.dep_index.specs.Pairs.{Link}
use Rattle.dep_index.proofs.LinkSets.{found_there, index_insert, insert_there, set_insert}
use Rattle.dep_index.proofs.Searched.{link_at_is}
use Rattle.dep_index.proofs.slot_index.add.Goals as goal
use Rattle.dep_index.proofs.slot_index.add.Goals.{After-insert, After-search}

here : (c : After-search) → link_at c.args.slots.now c.args.slot ≡ shown c.index-slots-slot.result
here c = link_at_is c.args.slots.now c.args.slot c.index-slots-slot.result c.requires.within ∙ ap shown (sym c.index-slots-slot.is)

items : (c : After-insert) → c.insert.new.self.items ≡ insert c.args.numbers.now.items c.in-Err.gap c.args.slot
items c =
    let ok : is_ok c.insert.result ≡ true = c.insert.ensures.succeeds (omega arith) in
    c.insert.ensures.items ∙ ap (λ b. cond b (insert c.args.numbers.now.items c.in-Err.gap c.args.slot) c.args.numbers.now.items) ok

pub returns-in-Err-clause-index : goal.returns-in-Err-clause-index
returns-in-Err-clause-index c =
    let slots = c.args.slots.now in
    let ns = c.args.numbers.now.items in
    let is = here (goal.at.returns-in-Err-clause-index c).After-search in
    let gap = subst (λ (l : Link). IsGapFor c.args.by l slots ns c.in-Err.gap) (sym is) (rw c.as_slice.ensures.value at c.in-Err.ensures) in
    subst (IsIndex c.args.by slots) (sym (items c)) (index_insert slots ns c.args.by c.requires.index c.args.slot c.in-Err.gap c.requires.within gap)

pub returns-in-Err-clause-links : goal.returns-in-Err-clause-links
returns-in-Err-clause-links c = ap (links_of c.args.slots.now) (items c) ∙ set_insert c.args.slots.now c.args.numbers.now.items c.args.slot c.in-Err.gap

pub returns-in_default-clause-links : goal.returns-in_default-clause-links
returns-in_default-clause-links c =
    let slots = c.args.slots.now in
    let ns = c.args.numbers.now.items in
    let is = here (goal.at.returns-in_default-clause-links c).After-search in
    let at = subst (λ (l : Link). IsFoundAt l slots ns c.in_default.field-0) (sym is) (rw c.as_slice.ensures.value at c.in_default.ensures) in
    sym (insert_there (links_of slots ns) (link_at slots c.args.slot) (found_there slots ns (link_at slots c.args.slot) c.in_default.field-0 at))
