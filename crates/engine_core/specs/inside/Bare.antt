-- A state as its parts show it: the jobs and the rows at a moment.
use Rattle.std.specs.Prelude.{◌≡◌, ℕ}
use Rattle.term_core.specs.Limits.{IsWithinLimits}
use Rattle.term_core.specs.declared.program.Program.{Program}
use Rattle.core_rules.specs.Core.{CoreState}
use Rattle.core_rules.specs.Laws.{Ticketed, WithinCapacity}
use Rattle.core_rules.specs.Parts.{core_of, work_of}

-- a state at a moment, without its inputs and its version
abbrev pub bare_at : CoreState → ℕ → CoreState
bare_at s moment = core_of (work_of s) s.rows moment

-- a program within the limits and the parts of a state go together
pub record AreParts (p : Program) (s : CoreState) : Type 0 where
  pub program : p ≡ s.program
  pub limits : IsWithinLimits p
  pub within : WithinCapacity s.program s.jobs
  pub ticketed : Ticketed s
