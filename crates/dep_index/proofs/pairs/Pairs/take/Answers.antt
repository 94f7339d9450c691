use Rattle.std.proofs.Common.{◌≡◌, ◌+◌, ◌-◌, ap, get_or, length, sym, subst, ◌∙◌, arith}
use Rattle.std.specs.FinSet.{contains, remove}
use Rattle.dep_index.specs.inside.Layout.{IsSwapRemoved, link_at, links_of}
use Rattle.dep_index.specs.Pairs.{Links}
use Rattle.dep_index.specs.declared.pair.By.TheVariants as by_first
use Rattle.dep_index.proofs.Kept.{index_moved, links_moved, swapped}
use Rattle.dep_index.proofs.LinkSets.{removed_gone}
use Rattle.dep_index.proofs.pairs.Pairs.take.Goals as goal
use Rattle.dep_index.proofs.pairs.Pairs.take.Goals.{After-swap_remove}

pub move_last-requires-clause-gone : goal.move_last-requires-clause-gone
move_last-requires-clause-gone c = ap (λ (ls : Links). contains ls (link_at c.as_slice-slots.result.now c.args.slot)) c.remove.ensures.links ∙ removed_gone _ _

pub move_last-requires-2-clause-gone : goal.move_last-requires-2-clause-gone
move_last-requires-2-clause-gone c = ap (λ (ls : Links). contains ls (link_at c.as_slice-slots.result.now c.args.slot)) c.remove-2.ensures.links ∙ removed_gone _ _

swap : (c : After-swap_remove) → IsSwapRemoved c.args.slot c.as_slice-slots.result.now c.swap_remove.new.self.items
swap c =
    let old = c.args.self.now.slots in
    let new = c.swap_remove.new.self in
    let len : length new.items + 1 ≡ length old.items = let l = c.swap_remove.ensures.len in omega (arith, old.ok.0, new.ok.0) in
    subst (λ ss. IsSwapRemoved c.args.slot ss new.items) (sym c.as_slice-slots.ensures.value)
    (swapped c.args.slot old.items new.items len
    (λ d l. c.swap_remove.ensures.by_index.0 d (omega (arith, old.ok.0)) ∙ ap (λ n. get_or old.items (n - 1) d) old.ok.0)
    (λ k d apart l. c.swap_remove.ensures.by_index.1 k d apart (omega (arith, old.ok.0))))

pub returns-clause-less : goal.returns-clause-less
returns-clause-less c =
    let s = c.as_slice-slots.result.now in
    let sw = swap (goal.at.returns-clause-less c).After-swap_remove in
    record {
      links = links_moved c.args.slot s c.swap_remove.new.self.items c.remove.new.numbers.items c.move_last.new.numbers.items c.move_last.ensures.moved sw ∙ c.remove.ensures.links
          ∙ ap (λ ss. remove (links_of ss c.args.self.now.by_source.items) (link_at ss c.args.slot)) c.as_slice-slots.ensures.value;
      len = c.swap_remove.ensures.len;
    }

pub returns-clause-kept : goal.returns-clause-kept
returns-clause-kept c =
    let s = c.as_slice-slots.result.now in
    let after = c.swap_remove.new.self.items in
    let sw = swap (goal.at.returns-clause-kept c).After-swap_remove in
    let l = link_at s c.args.slot in
    let same : links_of s c.args.self.now.by_user.items ≡ links_of s c.args.self.now.by_source.items =
    subst (λ ss. links_of ss c.args.self.now.by_user.items ≡ links_of ss c.args.self.now.by_source.items) (sym c.as_slice-slots.ensures.value) c.requires.kept.same in
    record {
      by_source = index_moved by_first.Source c.args.slot s after c.remove.new.numbers.items c.move_last.new.numbers.items c.remove.ensures.index c.move_last.ensures.moved sw;
      by_user = index_moved by_first.User c.args.slot s after c.remove-2.new.numbers.items c.move_last-2.new.numbers.items c.remove-2.ensures.index c.move_last-2.ensures.moved sw;
      same = links_moved c.args.slot s after c.remove-2.new.numbers.items c.move_last-2.new.numbers.items c.move_last-2.ensures.moved sw ∙ c.remove-2.ensures.links
          ∙ ap (λ (ls : Links). remove ls l) same ∙ sym c.remove.ensures.links
          ∙ sym (links_moved c.args.slot s after c.remove.new.numbers.items c.move_last.new.numbers.items c.move_last.ensures.moved sw);
    }
