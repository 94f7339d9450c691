-- What the vectors behind the pools keep.
use Rattle.std.specs.Prelude.{◌≡◌, ℕ, zero, suc, ◌+◌, ◌-◌, ◌<◌, ◌≤◌, Bool, ◌&&◌, ◌||◌, ◌==◌, nat_lt, if◌then◌else◌, List, [], ◌∷◌, length, map, slice_get, slice_index, slice_index_or, Result, MatchResult, T, false, Option, Some, None}
use Rattle.std.specs.List.{AllByRecursion}
use Rattle.std.specs.List.Sorted.{IsPartitionPoint}
use Rattle.std.specs.declared.cmp.Ordering.TheVariants.{Less, Equal, Greater}
use Rattle.std.specs.FinMap.{from_sorted, insert}
use Rattle.std.specs.FinMap.Entries.{is_sorted}
use Rattle.fair_pool.specs.Fair.{allows, comes_before, job_before, same_bool, ticket_of, with_ticket, without_ticket}
use Rattle.fair_pool.specs.Flags.{flagged, with_flag, without_flag}
use Rattle.fair_pool.specs.Hints.{HintKey, HintWorkers, hint_key, hint_entry, hint_key_cmp}
use Rattle.fair_pool.specs.Layouts.{Layout, worker_pool}
use Rattle.fair_pool.specs.Order.{displaced, in_order, leading, placed, IsInOrder, Rises}
use Rattle.fair_pool.specs.Pools.{PoolsState}
use Rattle.fair_pool.specs.Sound.{IsLayoutSound}
use Rattle.fair_pool.specs.declared.ticket.HintWorker.{HintWorker}
use Rattle.fair_pool.specs.declared.ticket.Rank.{Rank}
use Rattle.fair_pool.specs.declared.ticket.Ticket.{Ticket}

-- ---- queues

-- what of a ticket decides its rank in a queue
abbrev pub rank_of : Ticket → Rank
rank_of k = record { urgent = k.urgent; start = k.start; job = k.job }

-- whether a rank comes before another, as tickets do
abbrev pub rank_before : Rank → Rank → Bool
rank_before a b = if same_bool a.urgent b.urgent then nat_lt a.start b.start || (a.start == b.start && nat_lt a.job b.job) else a.urgent

-- a queue's ranks, and how many there is room for
pub record QueueState : Type 0 where
  pub ranks : List Rank
  pub room : ℕ

-- the ranks of a queue are in order, and the room was made
pub record IsQueueKept (ranks : List Rank) (room fit : ℕ) : Type 0 where
  pub order : IsInOrder rank_before ranks
  pub fits : room ≤ fit

-- the queues, where one has its ranks changed
abbrev pub with_queue : (List Rank → List Rank) → ℕ → List QueueState → List QueueState
with_queue change n [] = []
with_queue change zero (q ∷ qs) = record q { ranks = change q.ranks } ∷ qs
with_queue change (suc n) (q ∷ qs) = q ∷ with_queue change n qs

-- the queues with a rank put into a pool's, where its job is ready
abbrev pub enqueued : Bool → Rank → ℕ → List QueueState → List QueueState
enqueued ready r n qs = if ready then with_queue (placed rank_before r) n qs else qs

-- the queues with a rank taken from a pool's, where its job was ready
abbrev pub dequeued : Bool → Rank → ℕ → List QueueState → List QueueState
dequeued ready r n qs = if ready then with_queue (displaced rank_before r) n qs else qs

-- a pool's queue has room for one more rank
abbrev pub HasRoomAt : ℕ → List QueueState → Type 0
HasRoomAt n qs = (d : QueueState) → length (slice_index_or qs n d).ranks < (slice_index_or qs n d).room

-- a pool's queue has a rank that doesn't come before this one
abbrev pub HasRankAt : Rank → ℕ → List QueueState → Type 0
HasRankAt r n qs = (d : QueueState) → leading (λ p. rank_before p r) (slice_index_or qs n d).ranks < length (slice_index_or qs n d).ranks

-- no queue has a rank
abbrev pub HaveNoRanks : List QueueState → Type 0
HaveNoRanks qs = (i : ℕ) (d : QueueState) → i < length qs → (slice_index_or qs i d).ranks ≡ []

-- no queue has more than so many ranks
abbrev pub HaveFewRanks : ℕ → List QueueState → Type 0
HaveFewRanks count qs = (i : ℕ) (d : QueueState) → i < length qs → length (slice_index_or qs i d).ranks ≤ count

-- the first so many queues have the same ranks as others
abbrev pub HaveSameRanks : ℕ → List QueueState → List QueueState → Type 0
HaveSameRanks n old new = (i : ℕ) (d : QueueState) → i < n → (slice_index_or new i d).ranks ≡ (slice_index_or old i d).ranks

-- each of the first so many queues has room for so many ranks
abbrev pub HaveRoom : ℕ → ℕ → List QueueState → Type 0
HaveRoom n count qs = (i : ℕ) (d : QueueState) → i < n → count ≤ (slice_index_or qs i d).room

-- no queue has less room than before
abbrev pub HaveRoomStill : List QueueState → List QueueState → Type 0
HaveRoomStill old new = (i : ℕ) (d : QueueState) → i < length old → (slice_index_or old i d).room ≤ (slice_index_or new i d).room

-- the ready tickets of a pool
abbrev pub standing : ℕ → List Ticket → List Bool → List Ticket
standing pool (k ∷ ks) (r ∷ rs) = if r && k.pool == pool then k ∷ standing pool ks rs else standing pool ks rs
standing pool _ _ = []

-- the ready tickets of a pool, the next one first
abbrev pub queue_of : ℕ → List Ticket → List Bool → List Ticket
queue_of pool ks rs = in_order comes_before (standing pool ks rs)

-- a pool's queue has the ranks of its ready tickets, and room for those of all tickets and more
pub record IsQueueOf (ks : List Ticket) (rs : List Bool) (spare pool : ℕ) (q : QueueState) : Type 0 where
  pub ranks : q.ranks ≡ map rank_of (queue_of pool ks rs)
  pub room : length ks + spare ≤ q.room

-- each pool has its queue
abbrev pub AreQueuesOf : List Ticket → List Bool → ℕ → List QueueState → Type 0
AreQueuesOf ks rs spare qs = (pool : ℕ) (d : QueueState) → pool < length qs → IsQueueOf ks rs spare pool (slice_index_or qs pool d)

-- tickets in a row, and how many there is room for
pub record TicketsState : Type 0 where
  pub items : List Ticket
  pub room : ℕ

-- the tickets with their flags, how many pools there are, and for how many more tickets there is room
pub record WaitingState : Type 0 where
  pub tickets : List Ticket
  pub ready : List Bool
  pub pools : ℕ
  pub spare : ℕ

-- no ticket, and so many pools
abbrev pub no_tickets : ℕ → WaitingState
no_tickets pools = record { tickets = []; ready = []; pools = pools; spare = 0 }

-- with one more ticket
abbrev pub with_one : Ticket → Bool → WaitingState → WaitingState
with_one k ready w = record w { tickets = with_ticket k w.tickets; ready = with_flag k.job ready w.tickets w.ready; spare = w.spare - 1 }

-- where a job becomes ready, or is no longer
abbrev pub flagged_one : ℕ → Bool → WaitingState → WaitingState
flagged_one job ready w = record w { ready = flagged job ready w.tickets w.ready }

-- without a job's ticket
abbrev pub without_one : ℕ → WaitingState → WaitingState
without_one job w = record w { tickets = without_ticket job w.tickets; ready = without_flag job w.tickets w.ready }

-- the tickets are in order of jobs, of pools that there are, and stand in the queues; the vectors have room for more
pub record IsWaitingKept (ks : List Ticket) (rs : List Bool) (qs : List QueueState) (spare ks_fit rs_fit : ℕ) : Type 0 where
  pub rising : Rises job_before ks
  pub flags : length rs ≡ length ks
  pub pools : AllByRecursion (λ (k : Ticket). k.pool < length qs) ks
  pub queues : AreQueuesOf ks rs spare qs
  pub ticket_room : length ks + spare ≤ ks_fit
  pub flag_room : length ks + spare ≤ rs_fit

-- ---- hints

-- the table of these, where they are in order
abbrev pub hint_table : List HintWorker → HintWorkers
hint_table hs = from_sorted (map hint_entry hs)

-- the table, and for how many more hints there is room
pub record HintsState : Type 0 where
  pub workers : HintWorkers
  pub room : ℕ

-- the hints are in order
abbrev pub AreHintsKept : List HintWorker → Type 0
AreHintsKept hs = T (is_sorted hint_key_cmp (map hint_entry hs))

-- where a hint stands among these
abbrev pub IsKnownAt : HintKey → List HintWorker → ℕ → Type 0
IsKnownAt k hs at = (at < length hs) × ((d : HintWorker) → hint_key_cmp (hint_key (slice_index_or hs at d)) k ≡ Equal)

-- the index at which a hint that isn't among these would come in
abbrev pub IsMissingAt : HintKey → List HintWorker → ℕ → Type 0
IsMissingAt k hs at = (at ≤ length hs) × IsPartitionPoint (λ h. hint_key_cmp (hint_key h) k ≡ Less) (λ h. hint_key_cmp (hint_key h) k ≡ Greater) hs at

-- what a search finds: the index of a hint, or that at which it would come in
abbrev pub IsSearched : ℕ → List ℕ → List HintWorker → Result ℕ ℕ → Type 0
IsSearched pool hint hs r = MatchResult r (IsKnownAt (record { pool = pool; hint = hint }) hs) (IsMissingAt (record { pool = pool; hint = hint }) hs)

-- with a hint's worker
abbrev pub with_known : ℕ → List ℕ → ℕ → HintWorkers → HintWorkers
with_known pool hint worker workers = insert workers (record { pool = pool; hint = hint }) worker

-- ---- all together

-- the declarations are sound, there is a number for each client and each worker, each rate is positive, each pool has its queue, and each ticket's hint has room
pub record ArePoolsKept (l : Layout) (ts : WaitingState) (ns rs : List ℕ) (ps : List Bool) (ws : List ℕ) (room : ℕ) : Type 0 where
  pub layout : IsLayoutSound l
  pub next : length ns ≡ length l.clients
  pub rates : length rs ≡ length l.clients
  pub paused : length ps ≡ length l.workers
  pub loads : length ws ≡ length l.workers
  pub positive : AllByRecursion (λ r. 0 < r) rs
  pub pools : ts.pools ≡ length l.pools
  pub hints : length ts.tickets + ts.spare ≤ room

-- ---- what a search of a queue comes to

-- whether a worker may take the ticket that is found of a job
abbrev pub allows_found : PoolsState → ℕ → ℕ → Option Ticket → Bool
allows_found p now w (Some k) = allows p.layout p.fair (slice_index p.loads) now w k
allows_found p now w None = false

-- whether a worker may take a job that stands in its pool's queue
abbrev pub allows_job : PoolsState → ℕ → ℕ → ℕ → Bool
allows_job p now w job = allows_found p now w (ticket_of job p.fair.tickets)

-- the first job of some ranks that passes a test
abbrev pub first_job : (ℕ → Bool) → List Rank → Option ℕ
first_job test [] = None
first_job test (p ∷ ps) = if test p.job then Some p.job else first_job test ps

-- how many ranks are looked at for it
abbrev pub looked_for : (ℕ → Bool) → List Rank → ℕ
looked_for test [] = 0
looked_for test (p ∷ ps) = if test p.job then 1 else 1 + looked_for test ps

-- the ranks of the ready tickets of the worker's pool, the next one first
abbrev pub ranks_for : PoolsState → ℕ → List Rank
ranks_for p w = map rank_of (queue_of (worker_pool p.layout (slice_get p.layout.workers w)) p.fair.tickets p.ready)

-- how many of these ranks are looked at for the worker
abbrev pub looked_by : PoolsState → ℕ → ℕ → List Rank → ℕ
looked_by p now w rs = looked_for (allows_job p now w) rs
