-- Whether each ticket's job is ready: a list beside the list of tickets, in their order.
use Rattle.std.specs.Prelude.{ℕ, Bool, false, ◌==◌, nat_lt, if◌then◌else◌, List, ◌∷◌}
use Rattle.fair_pool.specs.declared.ticket.Ticket.{Ticket}

-- the flag of a job; a job without a ticket isn't ready
abbrev pub flag_of : ℕ → List Ticket → List Bool → Bool
flag_of job (k ∷ ks) (r ∷ rs) = if k.job == job then r else flag_of job ks rs
flag_of job _ _ = false

-- the flags with that of a new ticket
abbrev pub with_flag : ℕ → Bool → List Ticket → List Bool → List Bool
with_flag job ready (k ∷ ks) (r ∷ rs) = if nat_lt k.job job then r ∷ with_flag job ready ks rs else ready ∷ r ∷ rs
with_flag job ready _ rs = ready ∷ rs

-- the flags with that of a job changed
abbrev pub flagged : ℕ → Bool → List Ticket → List Bool → List Bool
flagged job ready (k ∷ ks) (r ∷ rs) = (if k.job == job then ready else r) ∷ flagged job ready ks rs
flagged job ready _ rs = rs

-- the flags of the other jobs
abbrev pub without_flag : ℕ → List Ticket → List Bool → List Bool
without_flag job (k ∷ ks) (r ∷ rs) = if k.job == job then without_flag job ks rs else (r ∷ without_flag job ks rs)
without_flag job _ rs = rs
