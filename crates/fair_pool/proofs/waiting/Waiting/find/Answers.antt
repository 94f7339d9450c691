use Rattle.std.proofs.Common.{◌≡◌, ◌≤◌, ◌<◌, length, get_or, sym, ap, ◌∙◌, arith}
use Rattle.std.specs.Option.{option_copied}
use Rattle.fair_pool.specs.Fair.{ticket_of}
use Rattle.fair_pool.proofs.Waits.{index_of, found_is, none_past, none_other}
use Rattle.fair_pool.proofs.waiting.Waiting.find.Goals as goal

pub returns-in_err-ticket : goal.returns-in_err-ticket
returns-in_err-ticket c =
    let ks = c.self.inside.tickets.items in
    let at : c.index_of-at.result ≡ index_of c.args.job ks = c.index_of-at.ensures ∙ ap (λ w. index_of c.args.job w.tickets) (sym c.self.view_is) in
    let l = c.in_err-ticket.ensures.lookup in
    let past : length c.as_slice.result.now ≤ c.index_of-at.result = l.3 in
    ap option_copied c.from_residual.ensures
    ∙ none_past c.args.job ks c.index_of-at.result c.self.invariant.rising at (let e = ap length c.as_slice.ensures in omega arith)
    ∙ ap (λ w. ticket_of c.args.job w.tickets) c.self.view_is

pub returns-then-ticket-job : goal.returns-then-ticket-job
returns-then-ticket-job c =
    let ks = c.self.inside.tickets.items in
    let at : c.index_of-at.result ≡ index_of c.args.job ks = c.index_of-at.ensures ∙ ap (λ w. index_of c.args.job w.tickets) (sym c.self.view_is) in
    let l = c.in_ok-ticket.ensures.lookup in
    let within : c.index_of-at.result < length c.as_slice.result.now = l.3.0 in
    let k = c.in_ok-ticket.ticket.now in
    found_is c.args.job ks c.index_of-at.result k c.self.invariant.rising at (let e = ap length c.as_slice.ensures in omega arith)
    (l.1 ∙ ap (λ ls. get_or ls c.index_of-at.result k) c.as_slice.ensures) c.if-ticket-job.true
    ∙ ap (λ w. ticket_of c.args.job w.tickets) c.self.view_is

pub returns-else-ticket-job : goal.returns-else-ticket-job
returns-else-ticket-job c =
    let ks = c.self.inside.tickets.items in
    let at : c.index_of-at.result ≡ index_of c.args.job ks = c.index_of-at.ensures ∙ ap (λ w. index_of c.args.job w.tickets) (sym c.self.view_is) in
    let l = c.in_ok-ticket.ensures.lookup in
    let k = c.in_ok-ticket.ticket.now in
    none_other c.args.job ks c.index_of-at.result k c.self.invariant.rising at
    (l.1 ∙ ap (λ ls. get_or ls c.index_of-at.result k) c.as_slice.ensures) c.if-ticket-job.false
    ∙ ap (λ w. ticket_of c.args.job w.tickets) c.self.view_is
