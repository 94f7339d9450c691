-- The parts of the core's state that a crate of jobs or of pools keeps alone.
use Rattle.std.specs.Prelude.{ℕ, List, [], map, length, Option, refl}
use Rattle.std.specs.Coded.{Coded, code_by, coded×, coded_ℕ, coded_list}
use Rattle.std.specs.List.{range_with_len}
use Rattle.value_core.specs.declared.value.Value.{Value}
use Rattle.op_keys.specs.declared.level.Level.{Level}
use Rattle.term_core.specs.declared.program.Program.{Program}
use Rattle.sched_rows.specs.Rows.{Rows}
use Rattle.fair_pool.specs.Codes.{fair_code}
use Rattle.fair_pool.specs.Fair.{Fair}
use Rattle.fair_pool.specs.Pools.{PoolsState}
use Rattle.core_rules.specs.declared.jobs.Job.{Job}
use Rattle.core_rules.specs.Codes.{job_code, program_code, threshold_code}
use Rattle.core_rules.specs.Core.{CoreState, layout_of}
use Rattle.core_rules.specs.Orders.{load, ready}

-- the jobs, with what they go by
pub record Work : Type 0 where
  pub program : Program
  pub threshold : Option Level
  pub next : ℕ
  pub jobs : List Job
  pub fair : Fair

-- the jobs of a state
abbrev pub work_of : CoreState → Work
work_of s = record { program = s.program; threshold = s.threshold; next = s.next; jobs = s.jobs; fair = s.fair }

-- a state with these jobs over these rows at this moment, without inputs and of version 0
abbrev pub core_of : Work → Rows → ℕ → CoreState
core_of w rows now = record { program = w.program; threshold = w.threshold; now = now; version = 0; inputs = []; rows = rows; next = w.next; jobs = w.jobs; fair = w.fair }

-- the same state with other inputs and another version
abbrev pub dressed : List Value → ℕ → CoreState → CoreState
dressed inputs version s = record s { inputs = inputs; version = version }

-- the code of such parts
abbrev pub work_code : Coded Work
work_code =
    code_by ((Program × Option Level) × (ℕ × (List Job × Fair))) (coded× (coded× program_code threshold_code) (coded× coded_ℕ (coded× (coded_list job_code) fair_code)))
    (λ w. ((w.program, w.threshold), (w.next, (w.jobs, w.fair))))
    (λ p. record { program = p.0.0; threshold = p.0.1; next = p.1.0; jobs = p.1.1.0; fair = p.1.1.1 }) (λ _. refl)

-- the pools of a state: which tickets are ready, and what each worker runs, follows from the jobs
abbrev pub pools_of : CoreState → ℕ → PoolsState
pools_of s spare = record {
  layout = layout_of s.program;
  fair = s.fair;
  ready = map (λ k. ready s k.job) s.fair.tickets;
  loads = map (load s.jobs) (range_with_len 0 (length s.program.workers));
  spare = spare;
}
