-- The codes of what the vectors behind the pools keep.
use Rattle.std.specs.Prelude.{ℕ, Bool, List, refl}
use Rattle.std.specs.Coded.{Coded, code_by, coded×, coded_ℕ, coded_bool, coded_list}
use Rattle.fair_pool.specs.Codes.{hint_workers_code, ticket_code}
use Rattle.fair_pool.specs.Hints.{HintWorkers}
use Rattle.fair_pool.specs.Kept.{HintsState, QueueState, TicketsState, WaitingState}
use Rattle.fair_pool.specs.declared.ticket.Rank.{Rank}
use Rattle.fair_pool.specs.declared.ticket.Ticket.{Ticket}
use Rattle.fair_pool.specs.contracts.ticket.Rank as rank

-- the code of ranks in a queue
abbrev pub rank_code : Coded Rank
rank_code = rank.the_row.coded

-- the code of queues
abbrev pub queue_code : Coded QueueState
queue_code = code_by (List Rank × ℕ) (coded× (coded_list rank_code) coded_ℕ) (λ q. (q.ranks, q.room)) (λ p. record { ranks = p.0; room = p.1 }) (λ _. refl)

-- the code of tickets in a row
abbrev pub tickets_code : Coded TicketsState
tickets_code = code_by (List Ticket × ℕ) (coded× (coded_list ticket_code) coded_ℕ) (λ t. (t.items, t.room)) (λ p. record { items = p.0; room = p.1 }) (λ _. refl)

-- the code of tickets in their queues
abbrev pub waiting_code : Coded WaitingState
waiting_code =
    code_by ((List Ticket × List Bool) × (ℕ × ℕ)) (coded× (coded× (coded_list ticket_code) (coded_list coded_bool)) (coded× coded_ℕ coded_ℕ))
    (λ t. ((t.tickets, t.ready), (t.pools, t.spare)))
    (λ p. record { tickets = p.0.0; ready = p.0.1; pools = p.1.0; spare = p.1.1 }) (λ _. refl)

-- the code of tables of hints
abbrev pub hints_code : Coded HintsState
hints_code = code_by (HintWorkers × ℕ) (coded× hint_workers_code coded_ℕ) (λ h. (h.workers, h.room)) (λ p. record { workers = p.0; room = p.1 }) (λ _. refl)
