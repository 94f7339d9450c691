-- The first fault of a program: clients, workers and operations with what they stand in, then the nodes.
use Rattle.std.specs.Prelude.{◌≡◌, ℕ, ◌+◌, if◌then◌else◌, List, [], ◌∷◌, ◌++◌, Option, Some, None}
use Rattle.value_core.specs.declared.value.Kind.{Kind}
use Rattle.op_keys.specs.declared.declarations.ClientDecl.{ClientDecl}
use Rattle.op_keys.specs.declared.declarations.OpDecl.{OpDecl}
use Rattle.op_keys.specs.declared.declarations.WorkerDecl.{WorkerDecl}
use Rattle.term_core.specs.Soundness.{is_pool, is_client}
use Rattle.term_core.specs.declared.program.NodeDecl.{NodeDecl}
use Rattle.term_core.specs.declared.program.Program.{Program}
use Rattle.term_check.specs.Typing.{verdict_of}
use Rattle.term_check.specs.declared.fault.CheckFault.{CheckFault}
use Rattle.term_check.specs.declared.fault.CheckWhat.{CheckWhat}
use Rattle.term_check.specs.declared.fault.CheckWhat.TheVariants as what
use Rattle.term_check.specs.declared.fault.FaultPlace.{FaultPlace}
use Rattle.term_check.specs.declared.fault.FaultPlace.TheVariants as place
use Rattle.term_check.specs.declared.verdict.Position.{Position}
use Rattle.term_check.specs.declared.verdict.Verdict.{Verdict}
use Rattle.term_check.specs.declared.verdict.Verdict.TheVariants.{Typed, Faulty}

-- a name that isn't declared, at a site
abbrev pub unknown : FaultPlace → List ℕ → CheckFault
unknown at n = record { place = at; what = what.UnknownName n }

-- the first of two faults that is there
abbrev pub or_later : Option CheckFault → Option CheckFault → Option CheckFault
or_later (Some f) later = Some f
or_later None later = later

-- the first fault of declarations, counted from a number on
abbrev pub first_fault : {D : Type 0} → (ℕ → D → Option CheckFault) → ℕ → List D → Option CheckFault
first_fault fault at [] = None
first_fault fault at (d ∷ ds) = or_later (fault at d) (first_fault fault (at + 1) ds)

-- the pool of what is declared in a pool
abbrev pub pool_fault : {D : Type 0} → Program → (ℕ → FaultPlace) → (D → List ℕ) → ℕ → D → Option CheckFault
pool_fault p site pool at d = if is_pool p (pool d) then None else Some (unknown (site at) (pool d))

-- a client's pool
abbrev pub client_fault : Program → ℕ → ClientDecl → Option CheckFault
client_fault p = pool_fault p place.Client (λ d. d.pool)

-- a worker's pool
abbrev pub worker_fault : Program → ℕ → WorkerDecl → Option CheckFault
worker_fault p = pool_fault p place.Worker (λ d. d.pool)

-- an operation's pool, and then its client in that pool
abbrev pub op_fault : Program → ℕ → OpDecl → Option CheckFault
op_fault p at d =
    if is_pool p d.pool then (if is_client p d.client d.pool then None else Some (unknown (place.Op at) d.client))
    else Some (unknown (place.Op at) d.pool)

-- a node's whole term, with the terms in two list bodies that stand above it
abbrev pub outermost : ℕ → Position
outermost deep = record { bodies = 0; deep = deep; at = 0 }

-- what follows a node whose term has a kind; else the term's fault
abbrev pub then_node : ℕ → Verdict → (Kind → ℕ → Option CheckFault) → Option CheckFault
then_node at (Typed k deep next) go = go k deep
then_node at (Faulty term w) go = Some (record { place = place.Node at term; what = w })

-- the first fault of the nodes from a number on, over the kinds of the earlier ones and the terms in two list bodies so far
abbrev pub node_fault : Program → ℕ → List Kind → ℕ → List NodeDecl → Option CheckFault
node_fault p at earlier deep [] = None
node_fault p at earlier deep (d ∷ ds) =
    then_node at (verdict_of p earlier d.term [] (outermost deep)) (λ k deep'. node_fault p (at + 1) (earlier ++ k ∷ []) deep' ds)

-- the first fault of a program
unfoldable pub check_fault : Program → Option CheckFault
check_fault p =
    or_later (first_fault (client_fault p) 0 p.clients)
    (or_later (first_fault (worker_fault p) 0 p.workers)
    (or_later (first_fault (op_fault p) 0 p.ops)
    (node_fault p 0 [] 0 p.nodes)))

-- out of memory, which says no cause, or a fact
abbrev pub Tells : CheckWhat → Type 0 → Type 0
Tells what.NoMemory cause = Unit {0}
Tells w cause = cause

-- the fault is the first one, unless the check ran out of memory
abbrev pub IsFirstFault : Program → CheckFault → Type 0
IsFirstFault p f = Tells f.what (check_fault p ≡ Some f)
