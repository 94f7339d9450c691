-- The codes of the records, which a `Model` whose value is one of them asks for.
use Rattle.std.specs.Prelude.{ℕ, Bool, List, refl}
use Rattle.std.specs.Coded.{Coded, code_by, coded×, coded_ℕ, coded_bool, coded_list}
use Rattle.std.specs.FinMap.{code}
use Rattle.op_keys.specs.declared.declarations.ClientDecl.{ClientDecl}
use Rattle.op_keys.specs.declared.declarations.PoolDecl.{PoolDecl}
use Rattle.op_keys.specs.declared.declarations.WorkerDecl.{WorkerDecl}
use Rattle.op_keys.specs.contracts.declarations.ClientDecl as client
use Rattle.op_keys.specs.contracts.declarations.PoolDecl as pool
use Rattle.op_keys.specs.contracts.declarations.WorkerDecl as worker
use Rattle.fair_pool.specs.Fair.{Fair}
use Rattle.fair_pool.specs.Hints.{HintKey, HintWorkers}
use Rattle.fair_pool.specs.Layouts.{Layout}
use Rattle.fair_pool.specs.Pools.{PoolsState}
use Rattle.fair_pool.specs.declared.ticket.Ticket.{Ticket}
use Rattle.fair_pool.specs.contracts.ticket.Ticket as ticket

-- the code of lists of numbers, and so of bytes
abbrev pub numbers_code : Coded (List ℕ)
numbers_code = coded_list coded_ℕ

-- the code of layouts
abbrev pub layout_code : Coded Layout
layout_code =
    code_by (List PoolDecl × (List ClientDecl × List WorkerDecl)) (coded× (coded_list pool.the_row.coded) (coded× (coded_list client.the_row.coded) (coded_list worker.the_row.coded)))
    (λ l. (l.pools, (l.clients, l.workers)))
    (λ p. record { pools = p.0; clients = p.1.0; workers = p.1.1 }) (λ _. refl)

-- the code of tickets
abbrev pub ticket_code : Coded Ticket
ticket_code = ticket.the_row.coded

-- the code of hints in a pool
abbrev pub hint_key_code : Coded HintKey
hint_key_code = code_by (ℕ × List ℕ) (coded× coded_ℕ numbers_code) (λ k. (k.pool, k.hint)) (λ p. record { pool = p.0; hint = p.1 }) (λ _. refl)

-- the code of the workers of hints
abbrev pub hint_workers_code : Coded HintWorkers
hint_workers_code = code hint_key_code coded_ℕ

-- the code of tickets with what goes with them
abbrev pub fair_code : Coded Fair
fair_code =
    code_by (List Ticket × ((List ℕ × List ℕ) × (List Bool × HintWorkers))) (coded× (coded_list ticket_code) (coded× (coded× numbers_code numbers_code) (coded× (coded_list coded_bool) hint_workers_code)))
    (λ f. (f.tickets, ((f.next, f.rates), (f.paused, f.hints))))
    (λ p. record { tickets = p.0; next = p.1.0.0; rates = p.1.0.1; paused = p.1.1.0; hints = p.1.1.1 }) (λ _. refl)

-- the code of what the pools keep
abbrev pub pools_code : Coded PoolsState
pools_code =
    code_by (Layout × (Fair × (List Bool × (List ℕ × ℕ)))) (coded× layout_code (coded× fair_code (coded× (coded_list coded_bool) (coded× numbers_code coded_ℕ))))
    (λ p. (p.layout, (p.fair, (p.ready, (p.loads, p.spare)))))
    (λ p. record { layout = p.0; fair = p.1.0; ready = p.1.1.0; loads = p.1.1.1.0; spare = p.1.1.1.1 }) (λ _. refl)
