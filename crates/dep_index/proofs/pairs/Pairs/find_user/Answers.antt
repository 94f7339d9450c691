use Rattle.std.proofs.Common.{◌≡◌, ◌<◌, ap, get_or, length, subst, sym, ◌∙◌, arith}
use Rattle.dep_index.specs.inside.Layout.{HasNoneOf, link_at, links_in}
use Rattle.dep_index.specs.Pairs.{Link}
use Rattle.dep_index.proofs.Rising.{all_at}
use Rattle.dep_index.proofs.Searched.{link_at_is}
use Rattle.dep_index.proofs.Users.{none_of_user}
use Rattle.dep_index.proofs.pairs.Pairs.find_user.Goals as goal
use Rattle.dep_index.proofs.pairs.Pairs.find_user.Goals.{After-count_below-at, else-at-numbers-via-then-at-numbers+else-slots-numbers, else-at-numbers-via-else-at-numbers}

none : (c : After-count_below-at) → (c.count_below-at.result < length c.args.self.now.by_user.items → (link_at c.args.self.now.slots.items (get_or c.args.self.now.by_user.items c.count_below-at.result 0)).to ≡ c.args.to → ⊥) → HasNoneOf c.args.to (links_in c.args.self.now)
none c other =
    let start = rw (c.as_slice-slots.ensures.value, c.as_slice-numbers.ensures.value) at c.count_below-at.ensures in
    subst (HasNoneOf c.args.to) c.requires.same (none_of_user c.args.to c.args.self.now.slots.items c.args.self.now.by_user.items c.count_below-at.result c.requires.by_user start other)

pub returns-else-at-numbers : goal.returns-else-at-numbers
returns-else-at-numbers c = none (goal.at.returns-else-at-numbers c).After-count_below-at (elim c.else-at-numbers.branch [
  | else-at-numbers-via-then-at-numbers+else-slots-numbers w ↦ λ l e.
      let slots = c.args.self.now.slots.items in
      let ns = c.args.self.now.by_user.items in
      let n = get_or ns c.count_below-at.result 0 in
      let other = rw (c.as_slice-slots.ensures.value, c.as_slice-numbers.ensures.value) at w.if-slots-numbers.false in
      other (ap (λ (m : Link). m.to) (sym (link_at_is slots n w.index-slots-numbers.result (all_at (λ k. k < length slots) ns c.requires.by_user.within c.count_below-at.result 0 l))) ∙ e)
  | else-at-numbers-via-else-at-numbers w ↦ λ l e. let k = ap length c.as_slice-numbers.ensures.value in let h = w.if-at-numbers.false in absurd (omega arith)
])
