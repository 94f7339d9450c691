use Rattle.std.proofs.Common.{◌≡◌, ◌++◌, ◌∷◌, [], ap, length, sym, subst, ◌∙◌, arith}
use Rattle.std.specs.FinSet.{insert}
use Rattle.dep_index.specs.inside.Layout.{IsIndex, link_at, links_in, links_of, shown}
use Rattle.dep_index.specs.declared.pair.By.TheVariants as by_first
use Rattle.dep_index.specs.declared.pair.Pair.{Pair}
use Rattle.dep_index.proofs.Kept.{index-push, links-push}
use Rattle.dep_index.proofs.LinkSets.{insert_there}
use Rattle.dep_index.proofs.pairs.Pairs.insert.Goals as goal

pub returns-then-has-clause-links : goal.returns-then-has-clause-links
returns-then-has-clause-links c = sym (insert_there (links_in c.args.self.now) (record { source = c.args.source; to = c.args.to }) (sym c.if-has.ensures))

pub add-requires-clause-index : goal.add-requires-clause-index
add-requires-clause-index c =
    let p : Pair = record { source = c.args.source; to = c.args.to } in
    let slots = c.args.self.now.slots.items in
    let ns = c.args.self.now.by_source.items in
    subst (λ ss. IsIndex by_first.Source ss ns) (sym (c.as_slice.ensures.value ∙ c.push_reserved.ensures.items)) (index-push by_first.Source slots p ns c.requires.kept.by_source)

pub add-requires-2-clause-index : goal.add-requires-2-clause-index
add-requires-2-clause-index c =
    let p : Pair = record { source = c.args.source; to = c.args.to } in
    let slots = c.args.self.now.slots.items in
    let ns = c.args.self.now.by_user.items in
    subst (λ ss. IsIndex by_first.User ss ns) (sym (c.as_slice-2.ensures.value ∙ c.push_reserved.ensures.items)) (index-push by_first.User slots p ns c.requires.kept.by_user)

pub returns-clause-links : goal.returns-clause-links
returns-clause-links c =
    let p : Pair = record { source = c.args.source; to = c.args.to } in
    let slots = c.args.self.now.slots.items in
    let ns = c.args.self.now.by_source.items in
    let new = c.add.new.numbers.items in
    let slot : c.len-slot.result ≡ length slots = let e = c.len-slot.ensures in omega (arith, c.args.self.now.slots.ok.0) in
    let e = subst (λ n. links_of (slots ++ p ∷ []) new ≡ insert (links_of (slots ++ p ∷ []) ns) (link_at (slots ++ p ∷ []) n)) slot (rw (c.as_slice.ensures.value, c.push_reserved.ensures.items) at c.add.ensures.links) in
    ap (λ ss. links_of ss new) c.push_reserved.ensures.items ∙ links-push by_first.Source slots p ns new c.requires.kept.by_source e

pub returns-clause-kept : goal.returns-clause-kept
returns-clause-kept c =
    let p : Pair = record { source = c.args.source; to = c.args.to } in
    let slots = c.args.self.now.slots.items in
    let us = c.args.self.now.by_user.items in
    let more = c.add-2.new.numbers.items in
    let slot : c.len-slot.result ≡ length slots = let e = c.len-slot.ensures in omega (arith, c.args.self.now.slots.ok.0) in
    let e = subst (λ n. links_of (slots ++ p ∷ []) more ≡ insert (links_of (slots ++ p ∷ []) us) (link_at (slots ++ p ∷ []) n)) slot (rw (c.as_slice-2.ensures.value, c.push_reserved.ensures.items) at c.add-2.ensures.links) in
    record {
      by_source = rw c.as_slice.ensures.value at c.add.ensures.index;
      by_user = rw c.as_slice-2.ensures.value at c.add-2.ensures.index;
      same = ap (λ ss. links_of ss more) c.push_reserved.ensures.items ∙ links-push by_first.User slots p us more c.requires.kept.by_user e
          ∙ ap (λ ls. insert ls (shown p)) c.requires.kept.same ∙ sym (returns-clause-links c);
    }
