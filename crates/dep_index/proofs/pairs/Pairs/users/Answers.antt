use Rattle.std.proofs.Common.{ap, subst, sym, ◌∙◌}
use Rattle.std.specs.List.Sorted.{IsStrictlyIncreasing}
use Rattle.dep_index.specs.inside.Layout.{leading_users, links_in, listed}
use Rattle.dep_index.specs.Pairs.{AreUsers}
use Rattle.dep_index.proofs.Users.{ok_then, rest_is, users_are, users_rise}
use Rattle.dep_index.proofs.pairs.Pairs.users.Goals as goal

pub returns-clause-rising : goal.returns-clause-rising
returns-clause-rising c =
    let slots = c.args.self.now.slots.items in
    let ns = c.args.self.now.by_source.items in
    let at = c.count_below-start.result in
    let start = rw (c.as_slice-slots.ensures.value, c.as_slice-numbers.ensures.value) at c.count_below-start.ensures in
    ok_then _ _ c.leading_users.result (λ us e. subst IsStrictlyIncreasing (sym (e ∙ ap (λ ms. leading_users c.args.source.now (listed slots ms)) (rest_is at ns))) (users_rise c.args.source.now slots ns at c.requires.by_source start))
    (rw (c.as_slice-slots.ensures.value, c.as_slice-numbers.ensures.value) at c.leading_users.ensures)

pub returns-clause-users : goal.returns-clause-users
returns-clause-users c =
    let slots = c.args.self.now.slots.items in
    let ns = c.args.self.now.by_source.items in
    let at = c.count_below-start.result in
    let start = rw (c.as_slice-slots.ensures.value, c.as_slice-numbers.ensures.value) at c.count_below-start.ensures in
    ok_then _ _ c.leading_users.result (λ us e. subst (AreUsers (links_in c.args.self.now) c.args.source.now) (sym (e ∙ ap (λ ms. leading_users c.args.source.now (listed slots ms)) (rest_is at ns))) (users_are c.args.source.now slots ns at c.requires.by_source start))
    (rw (c.as_slice-slots.ensures.value, c.as_slice-numbers.ensures.value) at c.leading_users.ensures)
