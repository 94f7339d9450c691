use Rattle.std.proofs.Common.{◌≡◌, ◌<◌, length, get_or, sym, ap, ◌∙◌, subst, arith}
use Rattle.std.specs.VecDeque.{deque_capacity}
use Rattle.fair_pool.proofs.Standing.{length_queue}
use Rattle.fair_pool.proofs.Waits.{kept_moved}
use Rattle.fair_pool.proofs.waiting.Waiting.copy.Goals as goal

pub copy_of_queues-requires : goal.copy_of_queues-requires
copy_of_queues-requires c = λ i d l.
    let qs = c.self.inside.queues.items in
    let ks = c.self.inside.tickets.items in
    let rs = c.self.inside.ready.items in
    let same : c.as_slice.result.now ≡ qs = c.as_slice.ensures.value in
    rw same (let m : i < length qs = subst (λ x. i < length x) same l in
    let e = ap length (c.self.invariant.queues i d m).ranks in
    let f = length_queue i ks rs in
    let n = ap length c.tickets.ensures in let v = ap (λ w. length w.tickets) c.self.view_is in omega arith)

pub invariant_of-result : goal.invariant_of-result
invariant_of-result c =
    let qs = c.self.inside.queues.items in
    let ks = c.self.inside.tickets.items in
    let rs = c.self.inside.ready.items in
    let ts' : c.in_ok-copy.field-0.items ≡ ks = c.in_ok-copy.ensures.items in
    let rs' : c.in_ok-copy_of_flags.field-0.items ≡ rs = c.in_ok-copy_of_flags.ensures in
    let same : c.as_slice.result.now ≡ qs = c.as_slice.ensures.value in
    let qs' = c.in_ok-copy_of_queues.field-0.items in
    let len : length qs' ≡ length qs = c.in_ok-copy_of_queues.ensures.len ∙ ap length same in
    let count : length c.tickets.result.now ≡ length ks = ap length c.tickets.ensures ∙ ap (λ w. length w.tickets) (sym c.self.view_is) in
    let kept = kept_moved ks rs qs qs' c.self.inside.spare 0 _ _ c.in_ok-copy.field-0.room (deque_capacity c.in_ok-copy_of_flags.field-0) c.self.invariant len
    (λ i d l. c.in_ok-copy_of_queues.ensures.ranks i d (omega arith) ∙ ap (λ x. (get_or x i d).ranks) same)
    (λ i d l. let r = c.in_ok-copy_of_queues.ensures.room i d (omega arith) in omega arith)
    (let r = c.in_ok-copy.ensures.room in omega arith)
    (omega (arith, c.in_ok-copy_of_flags.field-0.ok, ap length rs', c.self.invariant.flags)) in
    rw (ts', rs') kept
