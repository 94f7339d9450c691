-- The core's state as plain data, and how far its jobs have come.
use Rattle.std.specs.Prelude.{ℕ, Bool, true, false, not, ◌||◌, ◌==◌, if◌then◌else◌, List, [], ◌∷◌, Option, Some, None, is_some, slice_get, filter}
use Rattle.std.specs.List.{find, list_any}
use Rattle.value_core.specs.declared.value.Value.{Value}
use Rattle.value_core.specs.declared.state.Stage.{Stage}
use Rattle.value_core.specs.declared.state.Stage.TheVariants.{Ready, Waiting, Running}
use Rattle.op_keys.specs.declared.declarations.OpDecl.{OpDecl}
use Rattle.op_keys.specs.declared.declarations.Expiry.{Expiry}
use Rattle.op_keys.specs.declared.declarations.Expiry.TheVariants.{Never}
use Rattle.op_keys.specs.declared.level.Level.{Level}
use Rattle.op_keys.specs.Levels.{permitted}
use Rattle.term_core.specs.declared.program.Program.{Program}
use Rattle.sched_rows.specs.Rows.{Rows}
use Rattle.fair_pool.specs.Fair.{Fair}
use Rattle.fair_pool.specs.Layouts.{Layout}
use Rattle.core_rules.specs.declared.jobs.Job.{Job}

-- all that events change and that settling reads; the live jobs stand in order of their numbers, each input's value in file order
pub record CoreState : Type 0 where
  pub program : Program
  pub threshold : Option Level
  pub now : ℕ
  pub version : ℕ
  pub inputs : List Value
  pub rows : Rows
  pub next : ℕ
  pub jobs : List Job
  pub fair : Fair

-- ---- declarations; an operation that isn't declared is held back by nothing and keeps nothing

-- the declarations that pools go by
abbrev pub layout_of : Program → Layout
layout_of p = record { pools = p.pools; clients = p.clients; workers = p.workers }

-- the operation of a number
abbrev pub op_of : CoreState → ℕ → Option OpDecl
op_of s op = slice_get s.program.ops op

-- the name of an operation
abbrev pub op_name : Option OpDecl → List ℕ
op_name (Some d) = d.name
op_name None = []

-- when its rows run out
abbrev pub expiry_of : Option OpDecl → Expiry
expiry_of (Some d) = d.expiry
expiry_of None = Never

-- whether a row is kept in view while a newer one is made
abbrev pub is_latched : Option OpDecl → Bool
is_latched (Some d) = d.latched
is_latched None = false

-- whether a key is set to a value
abbrev pub is_output : Option OpDecl → Bool
is_output (Some d) = d.output
is_output None = false

-- whether a running job goes on where nothing refers to it
abbrev pub goes_on : Option OpDecl → Bool
goes_on (Some d) = d.no_cancel
goes_on None = true

-- whether its jobs may start without being confirmed
abbrev pub may_start : Option Level → Option OpDecl → Bool
may_start threshold (Some d) = permitted threshold d.level
may_start threshold None = true

-- ---- stages

-- ready where it may start, else waiting
abbrev pub when_allowed : Bool → Stage
when_allowed b = if b then Ready else Waiting

-- running where it was taken; waiting where it is neither permitted nor confirmed; else ready
abbrev pub stage_under : Option Level → Option OpDecl → Job → Stage
stage_under threshold d j = if is_some j.worker then Running else when_allowed (may_start threshold d || j.confirmed)

-- the stage of a job
abbrev pub stage : CoreState → Job → Stage
stage s j = stage_under s.threshold (op_of s j.triple.op) j

-- the stage of a triple of the operation for which no job stands
abbrev pub unstarted : CoreState → Option OpDecl → Stage
unstarted s d = when_allowed (may_start s.threshold d)

-- ---- jobs

-- whether no worker has taken it
abbrev pub is_queued : Job → Bool
is_queued j = not (is_some j.worker)

-- the job of a number
abbrev pub job_numbered : List Job → ℕ → Option Job
job_numbered js n = find (λ j. j.number == n) js

-- whether a number is that of a job
abbrev pub has_job : List Job → ℕ → Bool
has_job js n = list_any (λ j. j.number == n) js

-- the jobs with the one of this number changed
abbrev pub with_job : ℕ → (Job → Job) → List Job → List Job
with_job n f [] = []
with_job n f (j ∷ js) = if j.number == n then f j ∷ js else j ∷ with_job n f js

-- the jobs without the one of this number
abbrev pub without_job : ℕ → List Job → List Job
without_job n js = filter (λ j. not (j.number == n)) js
