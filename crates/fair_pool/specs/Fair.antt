-- Tickets of queued jobs: when they start, which of them a worker may take, and which it takes next.
use Rattle.std.specs.Prelude.{ℕ, ◌+◌, ◌-◌, ◌*◌, ◌/◌, ◌^◌, min, max, Bool, true, false, not, ◌&&◌, ◌||◌, ◌==◌, nat_lt, nat_le, if◌then◌else◌, List, [], ◌∷◌, Option, Some, None, is_some, slice_get, slice_index, slice_set, filter, find, length, unwrap_or}
use Rattle.std.specs.Option.{option_map}
use Rattle.std.specs.FinMap.{get, insert}
use Rattle.op_keys.specs.declared.declarations.OpDecl.{OpDecl}
use Rattle.fair_pool.specs.Hints.{HintWorkers}
use Rattle.fair_pool.specs.Layouts.{Layout, pool_number, client_number, hold_of, capacity_of, worker_pool}
use Rattle.fair_pool.specs.Order.{placed}
use Rattle.fair_pool.specs.declared.ticket.Ticket.{Ticket}

-- a ticket for each queued job in order of jobs, the next start and the rate of each client, whether each worker is paused, and the worker of each hint in each pool
pub record Fair : Type 0 where
  pub tickets : List Ticket
  pub next : List ℕ
  pub rates : List ℕ
  pub paused : List Bool
  pub hints : HintWorkers

-- ---- a new ticket

-- the worker of a hint in a pool
abbrev pub hint_worker : Fair → ℕ → Option (List ℕ) → Option ℕ
hint_worker f pool (Some h) = get f.hints (record { pool = pool; hint = h })
hint_worker f pool None = None

-- the cached cost where the hint has a worker, else the full cost
abbrev pub cost : OpDecl → Option ℕ → ℕ
cost d (Some w) = d.cached
cost d None = d.full

-- the client's next start, for a ticket of this start and cost
abbrev pub next_start : ℕ → ℕ → ℕ → ℕ
next_start start k rate = min (start + k * 1000 / rate) (2 ^ 64 - 1)

-- whether a ticket's job has the smaller number
abbrev pub job_before : Ticket → Ticket → Bool
job_before a b = nat_lt a.job b.job

-- the ticket in its place among those in order of jobs
abbrev pub with_ticket : Ticket → List Ticket → List Ticket
with_ticket = placed job_before

-- a job of this pool and client gets its ticket
abbrev pub ticketed_for : ℕ → ℕ → ℕ → ℕ → OpDecl → Option (List ℕ) → Fair → Fair
ticketed_for pool client now job d hint f =
    let start = max now (slice_index f.next client) in
    record f {
      tickets = with_ticket (record { job = job; pool = pool; urgent = d.urgent; hint = hint; start = start; created = now }) f.tickets;
      next = slice_set f.next client (next_start start (cost d (hint_worker f pool hint)) (slice_index f.rates client));
    }

-- a job of the operation gets its ticket
abbrev pub ticketed : Layout → ℕ → ℕ → OpDecl → Option (List ℕ) → Fair → Fair
ticketed l now job d hint f = ticketed_for (pool_number l.pools d.pool) (client_number l.clients d.pool d.client) now job d hint f

-- ---- changes

-- the ticket of a job
abbrev pub ticket_of : ℕ → List Ticket → Option Ticket
ticket_of job ks = find (λ (k : Ticket). k.job == job) ks

-- whether a job has a ticket
abbrev pub has_ticket : ℕ → List Ticket → Bool
has_ticket job ks = is_some (ticket_of job ks)

-- the tickets of the other jobs
abbrev pub without_ticket : ℕ → List Ticket → List Ticket
without_ticket job ks = filter (λ (k : Ticket). not (k.job == job)) ks

-- a job's ticket goes; its client's next start stays
abbrev pub withdrawn : ℕ → Fair → Fair
withdrawn job f = record f { tickets = without_ticket job f.tickets }

-- a worker has the hint in the pool, where there is one
abbrev pub with_hint : ℕ → ℕ → Option (List ℕ) → HintWorkers → HintWorkers
with_hint worker pool (Some h) hints = insert hints (record { pool = pool; hint = h }) worker
with_hint worker pool None hints = hints

-- a worker has the hint of a ticket
abbrev pub with_hint_of : ℕ → Option Ticket → HintWorkers → HintWorkers
with_hint_of worker (Some k) hints = with_hint worker k.pool k.hint hints
with_hint_of worker None hints = hints

-- a worker takes a job, and has its hint
abbrev pub hint_noted : ℕ → ℕ → Fair → Fair
hint_noted job worker f = record f { hints = with_hint_of worker (ticket_of job f.tickets) f.hints }

-- ---- which ticket is next: `ready` tells which jobs are, `load` how many jobs a worker runs

-- whether a worker is paused
abbrev pub is_paused : Fair → ℕ → Bool
is_paused f w = unwrap_or (slice_get f.paused w) false

-- whether a worker runs as many jobs as it can
abbrev pub is_full : Layout → (ℕ → ℕ) → ℕ → Bool
is_full l load w = nat_le (capacity_of (slice_get l.workers w)) (load w)

-- whether a worker takes no job now
abbrev pub takes_none : Layout → Fair → (ℕ → ℕ) → ℕ → Bool
takes_none l f load w = is_paused f w || is_full l load w

-- whether the worker of a ticket's hint leaves the ticket to this worker
abbrev pub leaves : Layout → Fair → (ℕ → ℕ) → ℕ → ℕ → Ticket → Option ℕ → Bool
leaves l f load now w k (Some v) = v == w || (is_paused f v || (is_full l load v || nat_le (k.created + hold_of (slice_get l.pools k.pool)) now))
leaves l f load now w k None = true

-- whether a ready ticket of its pool is one that the worker may take
abbrev pub allows : Layout → Fair → (ℕ → ℕ) → ℕ → ℕ → Ticket → Bool
allows l f load now w k = leaves l f load now w k (hint_worker f k.pool k.hint)

-- whether a ticket is ready and of the pool
abbrev pub is_standing : (ℕ → Bool) → ℕ → Ticket → Bool
is_standing ready pool k = ready k.job && k.pool == pool

-- whether a worker may take a ticket
abbrev pub eligible : Layout → Fair → (ℕ → Bool) → (ℕ → ℕ) → ℕ → ℕ → Ticket → Bool
eligible l f ready load now w k = is_standing ready (worker_pool l (slice_get l.workers w)) k && allows l f load now w k

-- whether two tests have one answer
abbrev pub same_bool : Bool → Bool → Bool
same_bool true b = b
same_bool false b = not b

-- urgent before not urgent, then the smaller start, then the smaller job
abbrev pub comes_before : Ticket → Ticket → Bool
comes_before a b = if same_bool a.urgent b.urgent then nat_lt a.start b.start || (a.start == b.start && nat_lt a.job b.job) else a.urgent

-- the first of a ticket and some more
abbrev pub least_from : Ticket → List Ticket → Ticket
least_from k [] = k
least_from k (l ∷ ls) = least_from (if comes_before l k then l else k) ls

-- the first of some tickets
abbrev pub least : List Ticket → Option Ticket
least [] = None
least (k ∷ ks) = Some (least_from k ks)

-- the ticket that the worker takes, found by comparing all
abbrev pub next_ticket : Layout → Fair → (ℕ → Bool) → (ℕ → ℕ) → ℕ → ℕ → Option Ticket
next_ticket l f ready load now w = least (filter (eligible l f ready load now w) f.tickets)

-- none where the worker is paused or full, else the job of the first eligible ticket
abbrev pub pick : Layout → Fair → (ℕ → Bool) → (ℕ → ℕ) → ℕ → ℕ → Option ℕ
pick l f ready load now w = if takes_none l f load w then None else option_map (λ k. k.job) (next_ticket l f ready load now w)

-- ---- how many tickets are looked at for it

-- those that come before a ticket, and itself; all where there is none
abbrev pub looked_by : List Ticket → Option Ticket → ℕ
looked_by ks (Some k) = length (filter (λ l. comes_before l k) ks) + 1
looked_by ks None = length ks

-- of the ready tickets of the worker's pool those up to the pick, or all where there is none; none where the worker is paused or full
abbrev pub looked_at : Layout → Fair → (ℕ → Bool) → (ℕ → ℕ) → ℕ → ℕ → ℕ
looked_at l f ready load now w =
    if takes_none l f load w then 0
    else looked_by (filter (is_standing ready (worker_pool l (slice_get l.workers w))) f.tickets) (next_ticket l f ready load now w)
