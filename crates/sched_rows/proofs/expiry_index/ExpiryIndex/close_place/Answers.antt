use Rattle.std.proofs.Common.{◌≡◌, ◌≢◌, ◌∙◌, ap, sym, subst, map}
use Rattle.std.specs.FinMap.{keys}
use Rattle.std.specs.List.{All}
use Rattle.sched_rows.specs.Ends.{IsRising, ends_of, moved_down}
use Rattle.sched_rows.specs.declared.expiry_index.End.{End}
use Rattle.sched_rows.proofs.EndSets.{keys-is, keys-ends_of, rising_down, written_is}
use Rattle.sched_rows.proofs.expiry_index.ExpiryIndex.close_place.Goals as goal

pub invariant_of-self : goal.invariant_of-self
invariant_of-self c =
    let is = written_is c.self.inside.ends.items c.deref_mut.result.now c.move_down.new.ends (moved_down c.args.place) c.self.inside.ends.len c.deref_mut.ensures.len c.move_down.auto.ends c.deref_mut.ensures.value c.move_down.ensures in
    subst IsRising (sym is) (rising_down c.args.place c.self.inside.ends.items
    (subst (All (λ (e : End). e.place ≢ c.args.place)) (keys-is c.self.inside.ends.items c.args.self.now.set (ap (λ e. e.set) c.self.view_is) c.self.invariant) c.requires) c.self.invariant)

pub returns-clause-items : goal.returns-clause-items
returns-clause-items c =
    let was : ends_of c.self.inside.ends.items ≡ c.args.self.now.set = ap (λ e. e.set) c.self.view_is in
    let is = written_is c.self.inside.ends.items c.deref_mut.result.now c.move_down.new.ends (moved_down c.args.place) c.self.inside.ends.len c.deref_mut.ensures.len c.move_down.auto.ends c.deref_mut.ensures.value c.move_down.ensures in
    let rising : IsRising (map (moved_down c.args.place) c.self.inside.ends.items) = rising_down c.args.place c.self.inside.ends.items
    (subst (All (λ (e : End). e.place ≢ c.args.place)) (keys-is c.self.inside.ends.items c.args.self.now.set (ap (λ e. e.set) c.self.view_is) c.self.invariant) c.requires) c.self.invariant in
    ap (λ es. keys (ends_of es)) is ∙ keys-ends_of (map (moved_down c.args.place) c.self.inside.ends.items) rising
    ∙ ap (map (moved_down c.args.place)) (sym (keys-is c.self.inside.ends.items c.args.self.now.set was c.self.invariant))
