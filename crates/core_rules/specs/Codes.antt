-- Codes, which a `Model` whose value is one of these records asks for.
use Rattle.std.specs.Prelude.{ℕ, List, Option, refl}
use Rattle.std.specs.Coded.{Coded, code_by, coded×, coded_ℕ, coded_list, coded_option}
use Rattle.value_core.specs.declared.value.Value.{Value}
use Rattle.value_core.specs.Codes.{value_code}
use Rattle.op_keys.specs.declared.level.Level.{Level}
use Rattle.op_keys.specs.contracts.level.Level as level
use Rattle.term_core.specs.declared.program.Program.{Program}
use Rattle.term_core.specs.contracts.program.Program as program
use Rattle.sched_rows.specs.Rows.{Rows, rows_code}
use Rattle.fair_pool.specs.Codes.{fair_code}
use Rattle.fair_pool.specs.Fair.{Fair}
use Rattle.core_rules.specs.declared.jobs.Job.{Job}
use Rattle.core_rules.specs.contracts.jobs.Job as job
use Rattle.core_rules.specs.Core.{CoreState}
use Rattle.core_rules.specs.Openings.{Durable}

-- the code of jobs
abbrev pub job_code : Coded Job
job_code = job.the_row.coded

-- the code of programs
abbrev pub program_code : Coded Program
program_code = program.the_row.coded

-- the code of thresholds
abbrev pub threshold_code : Coded (Option Level)
threshold_code = coded_option level.the_row.coded

-- the code of the core's states
abbrev pub core_state_code : Coded CoreState
core_state_code =
    code_by (((Program × Option Level) × (ℕ × ℕ)) × ((List Value × Rows) × (ℕ × (List Job × Fair))))
    (coded× (coded× (coded× program_code threshold_code) (coded× coded_ℕ coded_ℕ)) (coded× (coded× (coded_list value_code) rows_code) (coded× coded_ℕ (coded× (coded_list job_code) fair_code))))
    (λ s. (((s.program, s.threshold), (s.now, s.version)), ((s.inputs, s.rows), (s.next, (s.jobs, s.fair)))))
    (λ p. record { program = p.0.0.0; threshold = p.0.0.1; now = p.0.1.0; version = p.0.1.1; inputs = p.1.0.0; rows = p.1.0.1; next = p.1.1.0; jobs = p.1.1.1.0; fair = p.1.1.1.1 }) (λ _. refl)

-- the code of what is stored of a state
abbrev pub durable_code : Coded Durable
durable_code =
    code_by (List (List ℕ × Value) × (Rows × ℕ)) (coded× (coded_list (coded× (coded_list coded_ℕ) value_code)) (coded× rows_code coded_ℕ))
    (λ d. (d.inputs, (d.rows, d.next))) (λ p. record { inputs = p.0; rows = p.1.0; next = p.1.1 }) (λ _. refl)
