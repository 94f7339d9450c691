-- What a settling does, and what a plan of it holds.
use Rattle.std.specs.Prelude.{◌≡◌, ℕ, List, Some, None}
use Rattle.std.specs.List.{AllByRecursion}
use Rattle.value_core.specs.declared.state.Triple.{Triple}
use Rattle.sched_rows.specs.Rows.{Kept}
use Rattle.core_rules.specs.Laws.{IsReferredBy}
use Rattle.core_rules.specs.Own.{own_change, rows_made, tried_marks}
use Rattle.core_rules.specs.Parts.{core_of}
use Rattle.core_rules.specs.Replies.{with_numbers}
use Rattle.core_rules.specs.Settling.{newly_marked, settle_for}
use Rattle.core_rules.specs.declared.own.Own.{Own}
use Rattle.core_rules.specs.declared.own.RowChange.{RowChange}
use Rattle.job_core.specs.Plans.{plan_next, plan_signals, planned}
use Rattle.job_core.specs.Rowing.{changed_core}
use Rattle.job_core.specs.State.{JobsState, core_at}
use Rattle.job_core.specs.Wants.{triples_in}
use Rattle.job_core.specs.declared.plan.JobsPlan.{JobsPlan}

-- a settling of jobs for these wants, over these rows at a moment, leaves others and newly marks these numbers: it is the rules' settling, and each job that is left is referred to or has a mark
pub record Settles (wants : List (Triple × ℕ)) (rows : Kept) (now : ℕ) (old new : JobsState) (marked : List ℕ) : Type 0 where
  pub settled : settle_for (triples_in wants) (core_of old.work rows.rows now) ≡ Some (core_of new.work rows.rows now)
  pub signals : marked ≡ newly_marked (triples_in wants) (core_of old.work rows.rows now)
  pub referred : AllByRecursion (IsReferredBy (triples_in wants) new.work.program) new.work.jobs

-- it is undefined, since a job of the number 2^62 would be needed
abbrev pub IsUnsettled : List (Triple × ℕ) → Kept → ℕ → JobsState → Type 0
IsUnsettled wants rows now s = settle_for (triples_in wants) (core_of s.work rows.rows now) ≡ None

-- a plan of an own change and of a settling after it, over the rows after a change of theirs
pub record IsPlan (wants : List (Triple × ℕ)) (o : Own) (c : RowChange) (rows : Kept) (now : ℕ) (s : JobsState) (p : JobsPlan) : Type 0 where
  pub settled : settle_for (triples_in wants) (changed_core o c s.work rows.rows now) ≡ Some (core_of (planned p s.work) (rows_made c rows.rows) now)
  pub referred : AllByRecursion (IsReferredBy (triples_in wants) (planned p s.work).program) (planned p s.work).jobs
  pub signals : plan_signals p ≡ with_numbers (tried_marks (own_change (core_at s.work now) o)) (newly_marked (triples_in wants) (changed_core o c s.work rows.rows now))
  pub next : plan_next p ≡ (planned p s.work).next

-- that settling is undefined
abbrev pub NoPlan : List (Triple × ℕ) → Own → RowChange → Kept → ℕ → JobsState → Type 0
NoPlan wants o c rows now s = settle_for (triples_in wants) (changed_core o c s.work rows.rows now) ≡ None
