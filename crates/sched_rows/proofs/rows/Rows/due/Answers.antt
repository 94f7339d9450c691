use Rattle.std.proofs.Common.{◌≡◌, ◌∙◌, ◌<◌, ◌++◌, [], ◌∷◌, ap, sym, subst, map, take, get_or, length, List, ℕ, arith}
use Rattle.std.proofs.lemmas.List.{take_all}
use Rattle.std.specs.List.{All}
use Rattle.sched_rows.proofs.DueLaws.{due_all, names_at, names_more, places_within}
use Rattle.sched_rows.proofs.rows.Rows.due.Goals as goal

pub index-requires : goal.index-requires
index-requires c =
    let held = c.self.inside.held in
    let long = held.ok in
    let places = c.deref-place-items.result.now in
    let within : All (λ (p : ℕ). p < length c.self.inside.held.items) c.in_ok-places.places.items = places_within c.args.after c.args.upto c.self.inside.held.items c.self.inside.index.set c.in_ok-places.places.items c.self.invariant.orderly.indexed
    (record { rising = c.in_ok-places.ensures.rising; within = c.in_ok-places.ensures.within }) in
    let here = subst (All (λ (p : ℕ). p < length c.self.inside.held.items)) (sym c.deref-place-items.ensures.value) within c.loop-place.place-index 0 c.loop-place-test.true in
    omega arith

pub loop-place-preserved : goal.loop-place-preserved
loop-place-preserved c =
    let held = c.self.inside.held in
    let long = held.ok in
    let hs = c.self.inside.held.items in
    let within : All (λ (p : ℕ). p < length c.self.inside.held.items) c.in_ok-places.places.items = places_within c.args.after c.args.upto c.self.inside.held.items c.self.inside.index.set c.in_ok-places.places.items c.self.invariant.orderly.indexed
    (record { rising = c.in_ok-places.ensures.rising; within = c.in_ok-places.ensures.within }) in
    let here = subst (All (λ (p : ℕ). p < length c.self.inside.held.items)) (sym c.deref-place-items.ensures.value) within c.loop-place.place-index 0 c.loop-place-test.true in
    let more = names_more hs c.deref-place-items.result.now c.loop-place.place-index (get_or c.deref-place-items.result.now c.loop-place.place-index 0) c.index.result.now c.loop-place.keys c.loop-place-test.true (λ _. get_or c.deref-place-items.result.now c.loop-place.place-index 0) here c.index.ensures c.loop-place.invariant in
    let name = c.in_ok-copy.ensures in
    let key = c.in_ok-copy-2.ensures in
    c.in_ok-push.ensures.ok ∙ ap (λ (x : List ℕ × List ℕ). c.loop-place.keys ++ x ∷ []) (λ i. (name i, key i)) ∙ more

pub returns : goal.returns
returns c =
    let hs = c.self.inside.held.items in
    let all : take c.loop-place.place-index c.deref-place-items.result.now ≡ c.in_ok-places.places.items = take_all c.loop-place.place-index c.deref-place-items.result.now c.loop-place-test.false ∙ c.deref-place-items.ensures.value in
    due_all c.args.after c.args.upto hs c.self.inside.index.set c.args.self.now c.in_ok-places.places.items c.loop-place.keys (ap (λ k. k.rows) c.self.view_is) (ap (λ k. k.expiries) c.self.view_is) c.self.invariant.orderly.ordered c.self.invariant.orderly.indexed
    (record { rising = c.in_ok-places.ensures.rising; within = c.in_ok-places.ensures.within }) (c.loop-place.invariant ∙ ap (map (names_at hs)) all)
