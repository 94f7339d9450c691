use Rattle.std.proofs.Common.{◌≡◌, true, sym, ap, ◌∙◌, subst, arith}
use Rattle.core_rules.specs.Core.{has_job, job_numbered, without_job}
use Rattle.job_core.specs.Live.{AreLiveKept}
use Rattle.job_core.proofs.KeptLive.{kept_less}
use Rattle.job_core.proofs.Places.{rank, rank_within, gone_is, found_here}
use Rattle.job_core.proofs.numbered.Numbered.remove.Goals as goal
use Rattle.job_core.proofs.numbered.Numbered.remove.Goals.{After-rank-at}

at : (c : After-rank-at) → c.rank-at.result ≡ rank c.args.number c.self.inside.jobs.items
at c = c.rank-at.ensures ∙ ap (λ l. rank c.args.number l.jobs) (sym c.self.view_is)

has : (c : After-rank-at) → has_job c.self.inside.jobs.items c.args.number ≡ true
has c = ap (λ l. has_job l.jobs c.args.number) c.self.view_is ∙ c.requires

pub take_at-requires : goal.take_at-requires
take_at-requires c =
    let start = (goal.at.take_at-requires c).After-rank-at in
    omega (arith, rank_within c.args.number c.self.inside.jobs.items c.rank-at.result c.self.invariant.rising (has start) (at start), c.self.inside.jobs.ok.0)

pub invariant_of-self : goal.invariant_of-self
invariant_of-self c =
    let start = (goal.at.invariant_of-self c).After-rank-at in
    let js = c.self.inside.jobs.items in
    rw (c.take_at.ensures.items, c.take_at.ensures.capacity)
    (subst (λ ks. AreLiveKept ks c.self.inside.spare c.self.inside.jobs.cap) (sym (gone_is c.args.number js c.rank-at.result c.self.invariant.rising (has start) (at start)))
    (kept_less c.args.number js c.self.inside.spare c.self.inside.jobs.cap c.self.invariant))

pub returns-clause-job : goal.returns-clause-job
returns-clause-job c =
    let start = (goal.at.returns-clause-job c).After-rank-at in
    ap (λ l. job_numbered l.jobs c.args.number) (sym c.self.view_is)
    ∙ found_here c.args.number c.self.inside.jobs.items c.rank-at.result c.take_at.result c.self.invariant.rising (has start) (at start) c.take_at.ensures.value

pub returns-clause-left : goal.returns-clause-left
returns-clause-left c =
    let start = (goal.at.returns-clause-left c).After-rank-at in
    let js = c.self.inside.jobs.items in
    let jobs : c.take_at.new.items.items ≡ without_job c.args.number c.args.self.now.jobs =
    c.take_at.ensures.items ∙ gone_is c.args.number js c.rank-at.result c.self.invariant.rising (has start) (at start) ∙ ap (λ l. without_job c.args.number l.jobs) c.self.view_is in
    let spare = ap (λ l. l.spare) c.self.view_is in
    λ i. record { jobs = jobs i; spare = spare i }
