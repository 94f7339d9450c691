-- What the pools keep, and what each call makes of it.
use Rattle.std.specs.Prelude.{ℕ, ◌+◌, ◌-◌, Bool, false, if◌then◌else◌, List, [], map, length, nat_le, replicate, slice_get, slice_index, slice_set, Option}
use Rattle.std.specs.FinMap.{empty}
use Rattle.op_keys.specs.declared.declarations.OpDecl.{OpDecl}
use Rattle.fair_pool.specs.Fair.{Fair, allows, ticketed, takes_none, withdrawn, hint_noted, pick, looked_at}
use Rattle.fair_pool.specs.Flags.{flag_of, with_flag, flagged, without_flag}
use Rattle.op_keys.specs.declared.declarations.ClientDecl.{ClientDecl}
use Rattle.op_keys.specs.declared.declarations.PoolDecl.{PoolDecl}
use Rattle.op_keys.specs.declared.declarations.WorkerDecl.{WorkerDecl}
use Rattle.fair_pool.specs.Layouts.{Layout, hold_of, layout_of_lists}
use Rattle.fair_pool.specs.declared.ticket.Ticket.{Ticket}
use Rattle.fair_pool.specs.Sound.{is_rate}

-- the declarations, the tickets with what goes with them, whether each ticket's job is ready, how many jobs each worker runs, and for how many tickets there is room
pub record PoolsState : Type 0 where
  pub layout : Layout
  pub fair : Fair
  pub ready : List Bool
  pub loads : List ℕ
  pub spare : ℕ

-- whether a job is ready
abbrev pub is_ready_in : PoolsState → ℕ → Bool
is_ready_in p job = flag_of job p.fair.tickets p.ready

-- the job that the worker takes next
abbrev pub pick_of : PoolsState → ℕ → ℕ → Option ℕ
pick_of p now w = pick p.layout p.fair (is_ready_in p) (slice_index p.loads) now w

-- whether nothing is picked for the worker
abbrev pub takes_none_in : PoolsState → ℕ → Bool
takes_none_in p w = takes_none p.layout p.fair (slice_index p.loads) w

-- whether a ticket has waited long enough for its hint's worker
abbrev pub has_waited_in : PoolsState → ℕ → Ticket → Bool
has_waited_in p now k = nat_le (k.created + hold_of (slice_get p.layout.pools k.pool)) now

-- whether the worker may take a ready ticket of its pool
abbrev pub allows_in : PoolsState → ℕ → ℕ → Ticket → Bool
allows_in p now w k = allows p.layout p.fair (slice_index p.loads) now w k

-- how many tickets are looked at for it
abbrev pub looked_of : PoolsState → ℕ → ℕ → ℕ
looked_of p now w = looked_at p.layout p.fair (is_ready_in p) (slice_index p.loads) now w

-- no ticket yet; each client starts at once and at its declared rate, no worker is paused or runs a job
abbrev pub opened : Layout → PoolsState
opened l = record {
  layout = l;
  fair = record {
    tickets = [];
    next = replicate (length l.clients) 0;
    rates = map (λ d. d.rate) l.clients;
    paused = replicate (length l.workers) false;
    hints = empty;
  };
  ready = [];
  loads = replicate (length l.workers) 0;
  spare = 0;
}

-- the same for the declarations of these lists
abbrev pub opened_for : List PoolDecl → List ClientDecl → List WorkerDecl → PoolsState
opened_for ps cs ws = opened (layout_of_lists ps cs ws)

-- a job of the operation gets its ticket, for which a spare is used where there is one
abbrev pub submitted : PoolsState → ℕ → OpDecl → Option (List ℕ) → Bool → ℕ → PoolsState
submitted p job d hint ready now = record p {
  fair = ticketed p.layout now job d hint p.fair;
  ready = with_flag job ready p.fair.tickets p.ready;
  spare = p.spare - 1;
}

-- a job becomes ready, or is no longer
abbrev pub with_ready : PoolsState → ℕ → Bool → PoolsState
with_ready p job ready = record p { ready = flagged job ready p.fair.tickets p.ready }

-- a job's ticket goes
abbrev pub without_job : PoolsState → ℕ → PoolsState
without_job p job = record p {
  fair = withdrawn job p.fair;
  ready = without_flag job p.fair.tickets p.ready;
}

-- a worker runs a job: the ticket goes, and the worker has its hint
abbrev pub job_taken : PoolsState → ℕ → ℕ → PoolsState
job_taken p job w = record p {
  fair = withdrawn job (hint_noted job w p.fair);
  ready = without_flag job p.fair.tickets p.ready;
  loads = slice_set p.loads w (slice_index p.loads w + 1);
}

-- a worker runs one job fewer
abbrev pub job_done : PoolsState → ℕ → PoolsState
job_done p w = record p { loads = slice_set p.loads w (slice_index p.loads w - 1) }

-- a worker is paused, or is no longer
abbrev pub with_pause : PoolsState → ℕ → Bool → PoolsState
with_pause p w paused = record p { fair = record p.fair { paused = slice_set p.fair.paused w paused } }

-- a client has another rate
abbrev pub with_rate : PoolsState → ℕ → ℕ → PoolsState
with_rate p c rate = record p { fair = record p.fair { rates = slice_set p.fair.rates c rate } }

-- a client has another rate, where the number may be one
abbrev pub rated : PoolsState → ℕ → ℕ → PoolsState
rated p c rate = if is_rate rate then with_rate p c rate else p
