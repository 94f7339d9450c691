use Rattle.std.proofs.Common.{rules, ◌≡◌, ◌++◌, ◌∷◌, [], sym, ◌∙◌, ap, length, subst, arith, length-append}
use Rattle.std.proofs.lemmas.List.Elements.{All-push}
use Rattle.std.specs.List.{All}
use Rattle.snap_read.specs.Lists.{AreBelow, AreRising}
use Rattle.snap_read.proofs.Rising.{rising_more}
use Rattle.snap_read.proofs.Adding.{adds_moves}
use Rattle.snap_read.proofs.history.Front.add.Goals as goal

pub compare_exchange-found-requires : goal.compare_exchange-found-requires
compare_exchange-found-requires g c =
    let h = c.args.head.now.head_is in
    let same = c.again-seen.ensures in
    let offer = c.plain-offer.ensures in
    let pen = c.no_pen-pen.ensures in
    let book = ap (λ z. z.book) same ∙ c.self.invariant.1 ∙ sym (ap (λ w. w.book) h) in (
      ap (λ w. w.tracked) h,
      book,
      pen.0 ∙ book,
      offer.0,
      rw (ap (λ w. w.key) h, pen.1, offer.1, offer.3) (adds_moves c.again-seen.result.log c.args.next.now c.self.inside.count (ap (λ z. length z.log) same ∙ sym c.self.invariant.0)),
    )

pub invariant_of-self : goal.invariant_of-self
invariant_of-self g c =
    let log = c.self.inside.seen.log in
    let next = c.args.next.now in
    let h = c.self.invariant in
    let below = subst (AreBelow next.version) (sym c.self.view_is) c.requires.above in
    let added : c.compare_exchange-found.new.seen.log ≡ log ++ next ∷ [] = search rules in
    let book : c.compare_exchange-found.new.seen.book ≡ g.J.SnapNaming.history = search rules in (
      omega (arith, ap length added, length-append log (next ∷ []), h.0),
      book,
      subst (All g.J.SnapNaming.test) (sym added) (All-push g.J.SnapNaming.test log next h.2 c.requires.test),
      subst AreRising (sym added) (rising_more log next h.3 below),
    )
