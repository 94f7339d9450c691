-- What the engine shows, and what holds of it at each moment.
use Rattle.std.specs.Prelude.{ℕ, refl}
use Rattle.std.specs.Coded.{Coded, code_by, coded×, coded_ℕ}
use Rattle.core_rules.specs.Codes.{core_state_code}
use Rattle.core_rules.specs.Core.{CoreState}
use Rattle.core_rules.specs.Laws.{Invariant}
use Rattle.engine_rules.specs.Reached.{IsWithinBounds}

-- the core's state, and for how many more jobs and rows there is room
pub record EngineState : Type 0 where
  pub core : CoreState
  pub job_room : ℕ
  pub row_room : ℕ

-- the code of what the engine shows
abbrev pub engine_code : Coded EngineState
engine_code = code_by (CoreState × (ℕ × ℕ)) (coded× core_state_code (coded× coded_ℕ coded_ℕ)) (λ e. (e.core, (e.job_room, e.row_room))) (λ p. record { core = p.0; job_room = p.1.0; row_room = p.1.1 }) (λ _. refl)

-- what holds of the core's state at each moment: the core's own invariant, and the bounds of its program, values, rows and orders
pub record IsEngineLawful (s : CoreState) : Type 0 where
  pub invariant : Invariant s
  pub bounds : IsWithinBounds s
