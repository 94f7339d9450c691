use Rattle.std.proofs.Common.{◌≡◌, ◌<◌, length, get_or, refl, sym, ap, ◌∙◌, arith}
use Rattle.job_core.proofs.Places.{rank, rank_here}
use Rattle.job_core.proofs.numbered.Numbered.dense_rank.Goals as goal

pub returns-then-branch-number : goal.returns-then-branch-number
returns-then-branch-number c =
    let js = c.self.inside.jobs.items in
    let j = c.in_ok-get.field-0.now in
    let within : c.in_ok-at.at < length js = omega (arith, c.in_ok-get.ensures.variant.0 refl, c.self.inside.jobs.ok.0) in
    let same : (get_or js c.in_ok-at.at j).number ≡ c.args.number = ap (λ k. k.number) (sym c.in_ok-get.ensures.lookup) ∙ c.if-branch-number.true in
    rank_here c.args.number js c.in_ok-at.at j c.self.invariant.rising within same ∙ ap (λ l. rank c.args.number l.jobs) c.self.view_is
