-- What a plan holds, and what it makes of the jobs.
use Rattle.std.specs.Prelude.{◌≡◌, ℕ, ◌-◌, ◌^◌, ◌<◌, ◌≤◌, true, List, [], ◌∷◌, length, Some, None, slice_get, map}
use Rattle.value_core.specs.declared.state.Triple.{Triple}
use Rattle.op_keys.specs.declared.declarations.OpDecl.{OpDecl}
use Rattle.core_rules.specs.Core.{has_job, with_job}
use Rattle.core_rules.specs.Parts.{Work, work_of}
use Rattle.core_rules.specs.Settling.{created, hint_for, live_on}
use Rattle.core_rules.specs.declared.jobs.Mark.TheVariants.{Automatic}
use Rattle.core_rules.specs.Own.{IsMade, own_change}
use Rattle.job_core.specs.Own.{own_work}
use Rattle.job_core.specs.Single.{is_queued_in, withdrawn_work}
use Rattle.job_core.specs.State.{JobsState, core_at}
use Rattle.job_core.specs.declared.plan.JobsPlan.{JobsPlan}
use Rattle.job_core.specs.declared.plan.NewJob.{NewJob}

-- ---- single changes, one after the other

-- queued jobs go, each with its ticket
abbrev pub withdrawn_all : List ℕ → Work → Work
withdrawn_all [] w = w
withdrawn_all (n ∷ ns) w = withdrawn_all ns (withdrawn_work n w)

-- a running job gets the automatic mark
abbrev pub lost_work : ℕ → Work → Work
lost_work n w = record w { jobs = with_job n (λ j. record j { mark = Automatic }) w.jobs }

-- running jobs get it
abbrev pub lost_all : List ℕ → Work → Work
lost_all [] w = w
lost_all (n ∷ ns) w = lost_all ns (lost_work n w)

-- a triple gets the next job, with its ticket
abbrev pub created_work : ℕ → Triple → Work → Work
created_work now t w = work_of (created (core_at w now) t)

-- triples get jobs, in order
abbrev pub created_all : ℕ → List Triple → Work → Work
created_all now [] w = w
created_all now (t ∷ ts) w = created_all now ts (created_work now t w)

-- ---- when they may be made

-- each job is there and queued when it is to go
abbrev pub CanWithdraw : List ℕ → Work → Type 0
CanWithdraw [] w = Unit {0}
CanWithdraw (n ∷ ns) w = (is_queued_in w.jobs n ≡ true) × CanWithdraw ns (withdrawn_work n w)

-- each job is there when it is to be marked
abbrev pub CanLose : List ℕ → Work → Type 0
CanLose [] w = Unit {0}
CanLose (n ∷ ns) w = (has_job w.jobs n ≡ true) × CanLose ns (lost_work n w)

-- a job can be created: its operation is declared and gives this hint, its operation and key have no live job, and there is a number for it
pub record CanCreateOne (n : NewJob) (w : Work) : Type 0 where
  pub declared : n.triple.op < length w.program.ops
  pub hint : (d : OpDecl) → slice_get w.program.ops n.triple.op ≡ Some d → n.hint ≡ hint_for d n.triple
  pub free : live_on w.jobs n.triple.op n.triple.key ≡ None
  pub number : w.next < 2 ^ 62

-- the same for each of some jobs, when its turn comes
abbrev pub CanCreate : ℕ → List NewJob → Work → Type 0
CanCreate now [] w = Unit {0}
CanCreate now (n ∷ ns) w = CanCreateOne n w × CanCreate now ns (created_work now n.triple w)

-- the triples of new jobs
abbrev pub triples_of : List NewJob → List Triple
triples_of ns = map (λ n. n.triple) ns

-- ---- what is shown

-- the jobs with one that is created
abbrev pub with_created : ℕ → Triple → JobsState → JobsState
with_created now t s = record { work = created_work now t s.work; spare = s.spare - 1 }

-- the jobs with new ones, created in order
abbrev pub with_news : ℕ → List NewJob → JobsState → JobsState
with_news now ns s = record { work = created_all now (triples_of ns) s.work; spare = s.spare - length ns }

-- ---- plans

-- the jobs after the own change, and without those that go
abbrev pub after_drops : JobsPlan → Work → Work
after_drops p w = withdrawn_all p.drops (own_work p.own p.moment w)

-- the same with the marks
abbrev pub after_marks : JobsPlan → Work → Work
after_marks p w = lost_all p.lost (after_drops p w)

-- what a plan makes of the jobs
abbrev pub planned : JobsPlan → Work → Work
planned p w = created_all p.moment (triples_of p.news) (after_marks p w)

-- the jobs that a plan marks, a user's mark among them
abbrev pub plan_signals : JobsPlan → List ℕ
plan_signals p = p.signals

-- the next number after a plan
abbrev pub plan_next : JobsPlan → ℕ
plan_next p = p.next

-- a plan can be installed: its own change is made, each single change may be made in its turn, and there is room
pub record IsPlanFor (p : JobsPlan) (s : JobsState) : Type 0 where
  pub own : IsMade (own_change (core_at s.work p.moment) p.own)
  pub time : p.moment ≤ 2 ^ 60
  pub drops : CanWithdraw p.drops (own_work p.own p.moment s.work)
  pub lost : CanLose p.lost (after_drops p s.work)
  pub news : CanCreate p.moment p.news (after_marks p s.work)
  pub fits : length p.news ≤ s.spare
