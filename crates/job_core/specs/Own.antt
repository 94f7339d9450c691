-- The jobs after an event's own change.
use Rattle.std.specs.Prelude.{ℕ, List}
use Rattle.core_rules.specs.Core.{CoreState}
use Rattle.core_rules.specs.Own.{own_change, tried_marks, tried_state}
use Rattle.core_rules.specs.Parts.{Work, work_of}
use Rattle.core_rules.specs.declared.own.Own.{Own}
use Rattle.job_core.specs.State.{JobsState, core_at}

-- the core after an own change
abbrev pub owned : CoreState → Own → CoreState
owned s o = tried_state s (own_change s o)

-- the jobs after an own change at a moment
abbrev pub own_work : Own → ℕ → Work → Work
own_work o now w = work_of (owned (core_at w now) o)

-- the same of what the jobs show
abbrev pub with_own : Own → ℕ → JobsState → JobsState
with_own o now s = record s { work = own_work o now s.work }

-- the jobs that an own change marks by itself
abbrev pub own_marks : Own → ℕ → Work → List ℕ
own_marks o now w = tried_marks (own_change (core_at w now) o)
