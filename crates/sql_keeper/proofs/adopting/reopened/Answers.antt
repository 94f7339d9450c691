use Rattle.std.proofs.Common.{◌≡◌, ◌∙◌, IsTrue, false, inl, inr, sym, subst, arith}
use Rattle.sqlite.specs.Tree.{Trees}
use Rattle.sqlite.specs.View.{IsClean}
use Rattle.sqlite_catalog.specs.Listing.{IsSound}
use Rattle.sqlite.specs.Held.{state}
use Rattle.sql_keeper.proofs.Adoption.{open_unless_broken}
use Rattle.sql_keeper.proofs.Keyed.{keyed_from}
use Rattle.sql_keeper.proofs.Refused.{excuse, was_shut}
use Rattle.sql_keeper.proofs.adopting.reopened.Goals as goal

pub returns-in-Ok-clause-keyed : goal.returns-in-Ok-clause-keyed
returns-in-Ok-clause-keyed g c clean =
    let store = c.into_store-store.result in
    let made = c.in-Ok.ensures in
    let v = g.S.Store.view store in
    let was : IsClean v = omega (arith, made.clean, clean) in
    let sound : v.is_broken ≡ false = sym (c.is_broken.ensures was) ∙ c.if-is_broken.false in
    let opens = made.opens clean in
    keyed_from v (state g.S.Store c.in-Ok.conn).now (g.met.S.Store.ordered store sound) (g.met.S.Alter.listed store sound) (made.trees clean) (opens.1 opens.0.is_open).0

pub returns-in-Ok-clause-same : goal.returns-in-Ok-clause-same
returns-in-Ok-clause-same g c clean =
    let store = c.into_store-store.result in
    let made = c.in-Ok.ensures in
    let v = g.S.Store.view store in
    let was : IsClean v = omega (arith, made.clean, clean) in
    let sound : v.is_broken ≡ false = sym (c.is_broken.ensures was) ∙ c.if-is_broken.false in
    let opened : IsTrue v.is_open = open_unless_broken v (g.met.S.Store.broken_if_shut store) sound in
    made.trees clean ∙ (c.into_store-store.ensures.undone.undone opened).0

pub returns-then-is_broken-clause-cause : goal.returns-then-is_broken-clause-cause
returns-then-is_broken-clause-cause g c =
    let before = c.args.conn.store in
    let store = c.into_store-store.result in
    let left = g.S.Store.view store in (
      store,
      λ clean.
          let broken : IsTrue left.is_broken = sym (c.is_broken.ensures clean) ∙ c.if-is_broken.true in
          elim (was_shut (g.S.Store.view before).is_open left.is_open _ (c.into_store-store.ensures.quiet.closes clean) (λ opened. let e = (c.into_store-store.ensures.undone.undone opened).1 in cc)) [
            | inl shut ↦ inr (inl shut)
            | inr failed ↦ inr (inr (inl failed))
          ],
    )

pub returns-clause-cause : goal.returns-clause-cause
returns-clause-cause g c =
    let before = c.args.conn.store in
    let store = c.into_store-store.result in
    let v = g.S.Store.view store in
    let left = c.in-Err.field-0-1 in
    let quiet = c.into_store-store.ensures.quiet in
    let made = c.in-Err.ensures in (
      left,
      λ clean.
          let was : IsClean v = omega (arith, made.unharmed.clean, clean) in
          let sound : v.is_broken ≡ false = sym (c.is_broken.ensures was) ∙ c.if-is_broken.false in
          let opened : IsTrue v.is_open = open_unless_broken v (g.met.S.Store.broken_if_shut store) sound in
          let same = (c.into_store-store.ensures.undone.undone opened).0 in
          elim (made.err clean) [
            | inl none ↦ inr (inr (inr (inl (inl (λ schema. subst (λ (trees : Trees). ¬ IsSound schema trees) same (none.1 schema))))))
            | inr failed ↦ elim (excuse (g.S.Store.faults before) (g.S.Store.faults store) (g.S.Store.faults left) c.in-Err.error failed.0 quiet.counts failed.1 failed.2) [
              | inl memory ↦ inl memory
              | inr more ↦ inr (inr (inl more))
            ]
          ],
    )
