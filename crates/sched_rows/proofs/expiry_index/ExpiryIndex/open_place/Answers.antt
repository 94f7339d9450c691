use Rattle.std.proofs.Common.{◌≡◌, ◌<◌, ◌^◌, ◌∙◌, ap, sym, subst, map}
use Rattle.std.specs.FinMap.{keys}
use Rattle.std.specs.List.{All}
use Rattle.sched_rows.specs.Ends.{IsRising, ends_of, moved_up}
use Rattle.sched_rows.specs.declared.expiry_index.End.{End}
use Rattle.sched_rows.proofs.EndSets.{keys-is, keys-ends_of, rising_up, written_is}
use Rattle.sched_rows.proofs.expiry_index.ExpiryIndex.open_place.Goals as goal

pub move_up-requires : goal.move_up-requires
move_up-requires c =
    let keys_are = keys-is c.self.inside.ends.items c.args.self.now.set (ap (λ e. e.set) c.self.view_is) c.self.invariant ∙ sym c.deref_mut.ensures.value in
    subst (All (λ (e : End). e.place < 2 ^ 63)) keys_are c.requires

pub invariant_of-self : goal.invariant_of-self
invariant_of-self c =
    let is = written_is c.self.inside.ends.items c.deref_mut.result.now c.move_up.new.ends (moved_up c.args.place) c.self.inside.ends.len c.deref_mut.ensures.len c.move_up.auto.ends c.deref_mut.ensures.value c.move_up.ensures in
    subst IsRising (sym is) (rising_up c.args.place c.self.inside.ends.items c.self.invariant)

pub returns-clause-items : goal.returns-clause-items
returns-clause-items c =
    let was : ends_of c.self.inside.ends.items ≡ c.args.self.now.set = ap (λ e. e.set) c.self.view_is in
    let is = written_is c.self.inside.ends.items c.deref_mut.result.now c.move_up.new.ends (moved_up c.args.place) c.self.inside.ends.len c.deref_mut.ensures.len c.move_up.auto.ends c.deref_mut.ensures.value c.move_up.ensures in
    let rising : IsRising (map (moved_up c.args.place) c.self.inside.ends.items) = rising_up c.args.place c.self.inside.ends.items c.self.invariant in
    ap (λ es. keys (ends_of es)) is ∙ keys-ends_of (map (moved_up c.args.place) c.self.inside.ends.items) rising
    ∙ ap (map (moved_up c.args.place)) (sym (keys-is c.self.inside.ends.items c.args.self.now.set was c.self.invariant))
