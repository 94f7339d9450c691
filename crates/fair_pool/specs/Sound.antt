-- Which layouts may be opened, and what is asked of an operation and of a rate.
use Rattle.std.specs.Prelude.{◌≡◌, ℕ, ◌<◌, ◌≤◌, nat_le, ◌&&◌, Bool, true, List, length, map}
use Rattle.std.specs.List.{AllByRecursion}
use Rattle.op_keys.specs.Names.{are_apart, are_clients_apart}
use Rattle.op_keys.specs.declared.declarations.ClientDecl.{ClientDecl}
use Rattle.op_keys.specs.declared.declarations.OpDecl.{OpDecl}
use Rattle.op_keys.specs.declared.declarations.PoolDecl.{PoolDecl}
use Rattle.op_keys.specs.declared.declarations.WorkerDecl.{WorkerDecl}
use Rattle.fair_pool.specs.Layouts.{Layout, pool_number, client_number}

-- whether a number may be a client's rate
abbrev pub is_rate : ℕ → Bool
is_rate r = nat_le 1 r && nat_le r 1000

-- a client of a declared pool, with a rate within its bounds
pub record IsClientSound (pools : List PoolDecl) (d : ClientDecl) : Type 0 where
  pub pool : pool_number pools d.pool < length pools
  pub some_rate : 1 ≤ d.rate
  pub rate : d.rate ≤ 1000

-- a worker of a declared pool, with a capacity within its bounds
pub record IsWorkerSound (pools : List PoolDecl) (d : WorkerDecl) : Type 0 where
  pub pool : pool_number pools d.pool < length pools
  pub some_capacity : 1 ≤ d.capacity
  pub capacity : d.capacity ≤ 8

-- each pool that is named is declared, no two have one name (clients of one pool), and the numbers are within their bounds
pub record IsLayoutSound (l : Layout) : Type 0 where
  pub few_pools : length l.pools ≤ 16
  pub few_clients : length l.clients ≤ 64
  pub few_workers : length l.workers ≤ 8
  pub pools_apart : are_apart (map (λ d. d.name) l.pools) ≡ true
  pub clients_apart : are_clients_apart l.clients ≡ true
  pub workers_apart : are_apart (map (λ d. d.name) l.workers) ≡ true
  pub pools : AllByRecursion (λ (d : PoolDecl). d.hold ≤ 86400000) l.pools
  pub clients : AllByRecursion (IsClientSound l.pools) l.clients
  pub workers : AllByRecursion (IsWorkerSound l.pools) l.workers

-- an operation whose pool and client are declared, and whose costs are within their bounds
pub record IsOpServed (l : Layout) (d : OpDecl) : Type 0 where
  pub pool : pool_number l.pools d.pool < length l.pools
  pub client : client_number l.clients d.pool d.client < length l.clients
  pub full : d.full ≤ 1000000
  pub cached : d.cached ≤ 1000000
