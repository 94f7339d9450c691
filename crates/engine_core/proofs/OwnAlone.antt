-- A change among the jobs, made of the jobs alone.
use Rattle.std.proofs.Common.{◌≡◌, ℕ, ap, sym, ◌∙◌, subst}
use Rattle.std.specs.FinMap.{empty}
use Rattle.value_core.specs.declared.state.Triple.{Triple}
use Rattle.sched_rows.specs.Rows.{Rows}
use Rattle.core_rules.specs.Changes.{Tried}
use Rattle.core_rules.specs.Core.{CoreState}
use Rattle.core_rules.specs.Entries.{stage_in}
use Rattle.core_rules.specs.Own.{IsMade, own_change, own_made, tried_marks, tried_state}
use Rattle.core_rules.specs.Parts.{Work, core_of, work_of}
use Rattle.core_rules.specs.declared.own.Own.{Own}
use Rattle.job_core.specs.Own.{own_work, owned}
use Rattle.job_core.specs.State.{core_at}
use Rattle.engine_rules.specs.Edits.{MayOwn, marks_of}
use Rattle.engine_rules.specs.Found.{stage_after}
use Rattle.engine_rules.proofs.StepParts.{own_alone_is_change, stages_by_work}

-- it is made
pub made_alone : (w : Work) (rows : Rows) (now : ℕ) (o : Own) → MayOwn (core_of w rows now) o → IsMade (own_change (core_at w now) o)
made_alone w rows now o m = let k = own_alone_is_change (core_of w rows now) o empty m in subst IsMade (sym k.1) tt

-- a triple's stage after it
pub stage_alone : (w : Work) (rows : Rows) (now : ℕ) (o : Own) (t : Triple) → MayOwn (core_of w rows now) o → stage_in (owned (core_at w now) o) t ≡ stage_after (core_of w rows now) o t
stage_alone w rows now o t m =
    let k = own_alone_is_change (core_of w rows now) o empty m in
    ap (λ (x : Tried). stage_in (tried_state (core_at w now) x) t) k.1 ∙ stages_by_work k.0.state (own_made o (core_of w rows now)) t k.2

-- the jobs after it
pub work_alone : (u : CoreState) (o : Own) → MayOwn u o → own_work o u.now (work_of u) ≡ work_of (own_made o u)
work_alone u o m = let k = own_alone_is_change u o empty m in ap (λ (x : Tried). work_of (tried_state (core_at (work_of u) u.now) x)) k.1 ∙ k.2

-- the jobs that it marks
pub marks_alone : (u : CoreState) (o : Own) → MayOwn u o → tried_marks (own_change (core_at (work_of u) u.now) o) ≡ marks_of u o
marks_alone u o m = let k = own_alone_is_change u o empty m in ap tried_marks k.1 ∙ k.3
