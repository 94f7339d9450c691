use Rattle.std.proofs.Common.{◌≡◌, ◌<◌, length, sym, ap, ◌∙◌, arith}
use Rattle.std.proofs.lemmas.List.{get_or_default}
use Rattle.core_rules.specs.Core.{job_numbered}
use Rattle.job_core.proofs.Places.{rank, found_is, none_past, none_other}
use Rattle.job_core.proofs.numbered.Numbered.find.Goals as goal
use Rattle.job_core.proofs.numbered.Numbered.find.Goals.{else-at-len-via-then-at-len+else-index-number, else-at-len-via-else-at-len}

pub returns-then-index-number-clause-job : goal.returns-then-index-number-clause-job
returns-then-index-number-clause-job c =
    let js = c.self.inside.jobs.items in
    let e : c.rank-at.result ≡ rank c.args.number js = c.rank-at.ensures ∙ ap (λ l. rank c.args.number l.jobs) (sym c.self.view_is) in
    let l : c.rank-at.result < length js = omega (arith, c.self.inside.jobs.ok.0) in
    let j = c.index-then-index-number.result.now in
    let same : j ≡ c.index.result.now = c.index-then-index-number.ensures ∙ get_or_default js c.rank-at.result j c.index.result.now l ∙ sym c.index.ensures in
    found_is c.args.number js c.rank-at.result j c.self.invariant.rising e l c.index-then-index-number.ensures (ap (λ x. x.number) same ∙ c.if-index-number.true)
    ∙ ap (λ l. job_numbered l.jobs c.args.number) c.self.view_is

pub returns-else-at-len-clause-job : goal.returns-else-at-len-clause-job
returns-else-at-len-clause-job c =
    let js = c.self.inside.jobs.items in
    let e : c.rank-at.result ≡ rank c.args.number js = c.rank-at.ensures ∙ ap (λ l. rank c.args.number l.jobs) (sym c.self.view_is) in
    elim c.else-at-len.branch [
      | else-at-len-via-then-at-len+else-index-number w ↦ none_other c.args.number js c.rank-at.result w.index.result.now c.self.invariant.rising e w.index.ensures w.if-index-number.false ∙ ap (λ l. job_numbered l.jobs c.args.number) c.self.view_is
      | else-at-len-via-else-at-len w ↦ none_past c.args.number js c.rank-at.result c.self.invariant.rising e (omega (arith, w.if-at-len.false, c.self.inside.jobs.ok.0)) ∙ ap (λ l. job_numbered l.jobs c.args.number) c.self.view_is
    ]
