-- The bounds of each state that is reached.
use Rattle.std.specs.Prelude.{◌≡◌, ℕ, ◌-◌, ◌<◌, ◌≤◌, ◌^◌, true, List, length, Option, Some, None, slice_get}
use Rattle.std.specs.FinMap.{get}
use Rattle.std.specs.List.{AllByRecursion}
use Rattle.value_core.specs.declared.state.Triple.{Triple}
use Rattle.op_keys.specs.declared.declarations.OpDecl.{OpDecl}
use Rattle.term_core.specs.declared.program.Program.{Program}
use Rattle.sched_rows.specs.declared.row.Row.{Row}
use Rattle.sched_rows.specs.RowKeys.{RowKey, key_of}
use Rattle.sched_rows.specs.Rows.{Rows}
use Rattle.sched_rows.specs.Validity.{IsTime}
use Rattle.fair_pool.specs.declared.ticket.Ticket.{Ticket}
use Rattle.fair_pool.specs.Fair.{Fair}
use Rattle.fair_pool.specs.Hints.{HintKey}
use Rattle.fair_pool.specs.Layouts.{pool_number}
use Rattle.fair_pool.specs.Sound.{is_rate}
use Rattle.core_rules.specs.declared.jobs.Job.{Job}
use Rattle.core_rules.specs.Core.{CoreState, job_numbered}
use Rattle.core_rules.specs.Settling.{hint_for}

-- each row is under its own key, and its job's number is from 1
abbrev pub AreRowsKeyed : Rows → Type 0
AreRowsKeyed rows = (k : RowKey) (r : Row) → get rows k ≡ Some r → (key_of r ≡ k) × (1 ≤ r.job)

-- a next start and a rate for each client, a flag for each worker, rates from 1 to 1,000, and hints of declared workers
pub record IsFairWithin (p : Program) (f : Fair) : Type 0 where
  pub next : length f.next ≡ length p.clients
  pub rates : length f.rates ≡ length p.clients
  pub paused : length f.paused ≡ length p.workers
  pub each_rate : AllByRecursion (λ r. is_rate r ≡ true) f.rates
  pub hints : (k : HintKey) (w : ℕ) → get f.hints k ≡ Some w → w < length p.workers

-- a ticket has the pool, the urgency and the hint of its job's operation
abbrev pub IsTicketBy : Program → Ticket → Option OpDecl → Triple → Type 0
IsTicketBy p k (Some d) t = (k.pool ≡ pool_number p.pools d.pool) × (k.urgent ≡ d.urgent) × (k.hint ≡ hint_for d t)
IsTicketBy p k None t = Unit {0}

-- the same for the operation of a triple
abbrev pub IsTicketFor : Program → Ticket → Triple → Type 0
IsTicketFor p k t = IsTicketBy p k (slice_get p.ops t.op) t

-- the same for the live job of the ticket's number
abbrev pub IsTicketOwn : Program → List Job → Ticket → Type 0
IsTicketOwn p js k = (j : Job) → job_numbered js k.job ≡ Some j → IsTicketFor p k j.triple

-- the same for each ticket
abbrev pub AreTicketsOwn : Program → List Job → List Ticket → Type 0
AreTicketsOwn p js ks = AllByRecursion (IsTicketOwn p js) ks

-- the moment, numbers and versions are within their limits, and each list has an item for each declaration
pub record IsBounded (s : CoreState) : Type 0 where
  pub now : IsTime s.now
  pub first_next : 1 ≤ s.next
  pub last_next : s.next ≤ 2 ^ 62
  pub first_version : 1 ≤ s.version
  pub last_version : s.version ≤ 2 ^ 64 - 1
  pub inputs : length s.inputs ≡ length s.program.inputs
  pub rows : AreRowsKeyed s.rows
  pub jobs : AllByRecursion (λ (j : Job). 1 ≤ j.number) s.jobs
  pub fair : IsFairWithin s.program s.fair
