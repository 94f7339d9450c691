use Rattle.std.proofs.Common.{◌≡◌, true, Some, refl, sym, ap, ◌∙◌, subst, set, arith}
use Rattle.core_rules.specs.Core.{has_job, with_job}
use Rattle.core_rules.specs.declared.jobs.Job.{Job}
use Rattle.job_core.specs.Live.{AreLiveKept}
use Rattle.job_core.proofs.KeptLive.{kept_changed}
use Rattle.job_core.proofs.Places.{rank, rank_within, changed_is}
use Rattle.job_core.proofs.numbered.Numbered.give.Goals as goal
use Rattle.job_core.proofs.numbered.Numbered.give.Goals.{After-rank-at}

at : (c : After-rank-at) → c.rank-at.result ≡ rank c.args.number c.self.inside.jobs.items
at c = c.rank-at.ensures ∙ ap (λ l. rank c.args.number l.jobs) (sym c.self.view_is)

has : (c : After-rank-at) → has_job c.self.inside.jobs.items c.args.number ≡ true
has c = ap (λ l. has_job l.jobs c.args.number) c.self.view_is ∙ c.requires

pub index_mut-requires : goal.index_mut-requires
index_mut-requires c =
    let start = (goal.at.index_mut-requires c).After-rank-at in
    omega (arith, rank_within c.args.number c.self.inside.jobs.items c.rank-at.result c.self.invariant.rising (has start) (at start), c.self.inside.jobs.ok.0)

pub invariant_of-self : goal.invariant_of-self
invariant_of-self c =
    let start = (goal.at.invariant_of-self c).After-rank-at in
    let js = c.self.inside.jobs.items in
    let f = λ (j : Job). record j { worker = Some c.args.worker } in
    subst (λ ks. AreLiveKept ks c.self.inside.spare c.self.inside.jobs.cap) (sym (changed_is c.args.number f js c.rank-at.result c.index_mut.result.now c.self.invariant.rising (has start) (at start) c.index_mut.ensures.value))
    (kept_changed c.args.number f js c.self.inside.spare c.self.inside.jobs.cap (λ _. refl) (λ _. refl) c.self.invariant)

pub returns-clause-given : goal.returns-clause-given
returns-clause-given c =
    let start = (goal.at.returns-clause-given c).After-rank-at in
    let js = c.self.inside.jobs.items in
    let f = λ (j : Job). record j { worker = Some c.args.worker } in
    let jobs : set js c.rank-at.result (f c.index_mut.result.now) ≡ with_job c.args.number f c.args.self.now.jobs =
    changed_is c.args.number f js c.rank-at.result c.index_mut.result.now c.self.invariant.rising (has start) (at start) c.index_mut.ensures.value ∙ ap (λ l. with_job c.args.number f l.jobs) c.self.view_is in
    let spare = ap (λ l. l.spare) c.self.view_is in
    λ i. record { jobs = jobs i; spare = spare i }
