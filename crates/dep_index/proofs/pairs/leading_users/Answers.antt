use Rattle.std.proofs.Common.{◌≡◌, ◌+◌, ◌<◌, ◌++◌, ◌∷◌, [], ap, cond, drop, length, sym, ◌∙◌}
use Rattle.std.proofs.lemmas.List.{append-nil, append_assoc}
use Rattle.dep_index.specs.inside.Layout.{leading_users, listed}
use Rattle.dep_index.proofs.Rising.{all_at}
use Rattle.dep_index.proofs.Users.{lead_step}
use Rattle.dep_index.proofs.pairs.leading_users.Goals as goal
use Rattle.dep_index.proofs.pairs.leading_users.Goals.{After-is}

step : (c : After-is) → leading_users c.args.source.now (listed c.args.slots.now (drop c.loop-slot.slot-index c.args.numbers.now))
    ≡ cond c.is.result (c.index-slots-slot.result.to ∷ leading_users c.args.source.now (listed c.args.slots.now (drop (c.loop-slot.slot-index + 1) c.args.numbers.now))) []
step c =
    let i = c.loop-slot.slot-index in
    let rest = leading_users c.args.source.now (listed c.args.slots.now (drop (i + 1) c.args.numbers.now)) in
    lead_step c.args.source.now c.args.slots.now c.args.numbers.now i 0 c.index-slots-slot.result c.loop-slot-test.true (all_at (λ n. n < length c.args.slots.now) c.args.numbers.now c.requires i 0 c.loop-slot-test.true) c.index-slots-slot.is
    ∙ ap (λ b. cond b (c.index-slots-slot.result.to ∷ rest) []) (sym c.is.ensures)

pub returns-then-not-is : goal.returns-then-not-is
returns-then-not-is c =
    let i = c.loop-slot.slot-index in
    let rest = leading_users c.args.source.now (listed c.args.slots.now (drop (i + 1) c.args.numbers.now)) in
    let none = step (goal.at.returns-then-not-is c).After-is ∙ ap (λ b. cond b (c.index-slots-slot.result.to ∷ rest) []) c.if-not-is.true in
    sym (append-nil c.loop-slot.users.items) ∙ ap (λ us. c.loop-slot.users.items ++ us) (sym none) ∙ c.loop-slot.invariant

pub loop-slot-preserved : goal.loop-slot-preserved
loop-slot-preserved c =
    let i = c.loop-slot.slot-index in
    let p = c.index-slots-slot.result in
    let rest = leading_users c.args.source.now (listed c.args.slots.now (drop (i + 1) c.args.numbers.now)) in
    let more = step (goal.at.loop-slot-preserved c).After-is ∙ ap (λ b. cond b (p.to ∷ rest) []) c.if-not-is.false in
    ap (λ us. us ++ rest) c.in_ok-push.ensures.items ∙ append_assoc c.loop-slot.users.items (p.to ∷ []) rest ∙ ap (λ us. c.loop-slot.users.items ++ us) (sym more) ∙ c.loop-slot.invariant
