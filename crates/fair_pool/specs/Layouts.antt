-- What is declared. Pools, clients and workers are identified by their numbers in file order.
use Rattle.std.specs.Prelude.{ℕ, nat_lt, if◌then◌else◌, List, length, map, Option, Some, None}
use Rattle.op_keys.specs.Names.{index_named, client_index}
use Rattle.op_keys.specs.declared.declarations.ClientDecl.{ClientDecl}
use Rattle.op_keys.specs.declared.declarations.PoolDecl.{PoolDecl}
use Rattle.op_keys.specs.declared.declarations.WorkerDecl.{WorkerDecl}

-- the declarations, each list in file order
pub record Layout : Type 0 where
  pub pools : List PoolDecl
  pub clients : List ClientDecl
  pub workers : List WorkerDecl

-- the declarations of these lists
abbrev pub layout_of_lists : List PoolDecl → List ClientDecl → List WorkerDecl → Layout
layout_of_lists ps cs ws = record { pools = ps; clients = cs; workers = ws }

-- the number of the pool of this name, or how many pools there are where none has it
abbrev pub pool_number : List PoolDecl → List ℕ → ℕ
pool_number pools n = index_named 0 (map (λ d. d.name) pools) n

-- the number of a pool's client of this name, or how many clients there are
abbrev pub client_number : List ClientDecl → List ℕ → List ℕ → ℕ
client_number clients pool n = client_index 0 clients pool n

-- the number of the worker of this name, or how many workers there are
abbrev pub worker_number : List WorkerDecl → List ℕ → ℕ
worker_number workers n = index_named 0 (map (λ d. d.name) workers) n

-- a number that is below a count, and so declared
abbrev pub declared : ℕ → ℕ → Option ℕ
declared count n = if nat_lt n count then Some n else None

-- for how long a ticket of the pool waits for its hint's worker
abbrev pub hold_of : Option PoolDecl → ℕ
hold_of (Some d) = d.hold
hold_of None = 0

-- how many jobs the worker runs at once
abbrev pub capacity_of : Option WorkerDecl → ℕ
capacity_of (Some d) = d.capacity
capacity_of None = 0

-- the number of the worker's pool
abbrev pub worker_pool : Layout → Option WorkerDecl → ℕ
worker_pool l (Some d) = pool_number l.pools d.pool
worker_pool l None = length l.pools

-- the number of the worker of this name, where one is declared
abbrev pub worker_named : Layout → List ℕ → Option ℕ
worker_named l n = declared (length l.workers) (worker_number l.workers n)

-- the number of a pool's client of this name, where one is declared
abbrev pub client_named : Layout → List ℕ → List ℕ → Option ℕ
client_named l pool n = declared (length l.clients) (client_number l.clients pool n)
