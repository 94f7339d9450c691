-- Worked cases, by computation.
use Rattle.std.specs.Prelude.{◌≡◌, ℕ, zero, suc, Bool, true, false, List, [], ◌∷◌, map, Option, Some, None, Ok, Err, codes, nat_lt, replicate, if◌then◌else◌, refl}
use Rattle.std.proofs.Common.{ap}
use Rattle.std.specs.Char.{encode_utf8}
use Rattle.std.specs.Fmt.{digits}
use Rattle.std.proofs.lemmas.List.{length-replicate}
use Rattle.std.specs.Str.{chars, is_utf8}
use Rattle.std.specs.FinMap.{empty}
use Rattle.value_core.specs.declared.state.Triple.{Triple}
use Rattle.op_keys.specs.declared.declarations.Expiry.TheVariants.{Never}
use Rattle.op_keys.specs.declared.declarations.OpDecl.{OpDecl}
use Rattle.op_keys.specs.declared.level.Level.TheVariants.{Average}
use Rattle.op_keys.specs.declared.order.Exit.TheVariants as exit
use Rattle.term_core.specs.declared.program.Program.{Program}
use Rattle.term_core.specs.Fresh as nodes
use Rattle.fair_pool.specs.Fair.{withdrawn}
use Rattle.core_rules.specs.declared.events.What.TheVariants as what
use Rattle.core_rules.specs.declared.jobs.Job.{Job}
use Rattle.core_rules.specs.declared.jobs.Mark.TheVariants.{Unmarked}
use Rattle.core_rules.specs.Core.{CoreState, without_job}
use Rattle.core_rules.specs.Exits.{code_outcome, exit_outcome}
use Rattle.core_rules.specs.Openings.{Durable, opened, start}
use Rattle.core_rules.specs.Orders.{picked}
use Rattle.core_rules.specs.Replies.{new_conflicts}
use Rattle.core_rules.specs.Settling.{created, dropped, newly_marked, targets}
use Rattle.core_rules.specs.Steps.{Answer, Refused, Idle, Accepted, step}

-- ---- one key, two values

-- that the key `k` be set to a value
abbrev pub setting : List ℕ → Triple
setting v = record { op = 0; key = codes "k"; value = v }

-- a job of that, which runs
abbrev pub running : ℕ → Triple → Job
running n t = record { number = n; triple = t; confirmed = false; worker = Some 0; mark = Unmarked }

-- the least value is the target
pub least_first : targets (setting (codes "v1") ∷ setting (codes "v2") ∷ []) [] ≡ setting (codes "v1") ∷ []
least_first = refl

-- while a job of the other value lives, that is
pub live_first : targets (setting (codes "v1") ∷ setting (codes "v2") ∷ []) (running 1 (setting (codes "v2")) ∷ []) ≡ setting (codes "v2") ∷ []
live_first = refl

-- two wanted values are a conflict, where they were not before
pub conflict_new : new_conflicts (setting (codes "v2") ∷ []) (setting (codes "v2") ∷ setting (codes "v1") ∷ setting (codes "v2") ∷ []) ≡ (0, codes "k") ∷ []
conflict_new = refl

-- one value that is wanted twice is none
pub no_conflict : new_conflicts [] (setting (codes "v1") ∷ setting (codes "v1") ∷ []) ≡ []
no_conflict = refl

-- nor is one that stood before
pub conflict_old : new_conflicts (setting (codes "v1") ∷ setting (codes "v2") ∷ []) (setting (codes "v2") ∷ setting (codes "v1") ∷ []) ≡ []
conflict_old = refl

-- ---- ends of orders

pub ended_by_signal : exit_outcome (exit.Ended None []) ≡ Err (codes "exit by signal")
ended_by_signal = refl

pub not_run : exit_outcome exit.Fault ≡ Err (codes "cannot run")
not_run = refl

-- a code of 0 with one line of text
pub ended_well : exit_outcome (exit.Ended (Some 0) (codes "one\n")) ≡ Ok (codes "one")
unfolding is_utf8 chars encode_utf8
ended_well = refl

-- another code
pub ended_badly : exit_outcome (exit.Ended (Some 3) (codes "one\n")) ≡ Err (codes "exit 3")
unfolding digits
ended_badly = refl

-- a code of 0 with a byte that begins no character
pub ended_without_text : exit_outcome (exit.Ended (Some 0) (255 ∷ [])) ≡ Err (codes "output not text")
unfolding is_utf8 chars encode_utf8
ended_without_text = refl

-- 65,537 bytes, whatever the code
pub ended_too_large : (code : Option ℕ) → exit_outcome (exit.Ended code (replicate 65537 97)) ≡ Err (codes "output too large")
ended_too_large code = ap (λ n. if nat_lt 65536 n then Err (codes "output too large") else code_outcome code (replicate 65537 97)) (length-replicate {A = ℕ} 65537 97)

-- ---- a pool with one worker of capacity 1, clients of rates 1, 2 and 1000, and an operation of each, the last one urgent for the first client

-- an operation for a client, which costs 10
abbrev pub costing : List ℕ → List ℕ → Bool → OpDecl
costing name client urgent = record {
  name = name;
  output = false;
  pool = codes "p";
  client = client;
  full = 10;
  cached = 10;
  hint = None;
  urgent = urgent;
  level = Average;
  expiry = Never;
  latched = false;
  no_cancel = false;
  words = [];
}

-- the pipeline
abbrev pub shared_pool : Program
shared_pool = record {
  version = 1;
  inputs = [];
  pools = record { name = codes "p"; hold = 0 } ∷ [];
  clients = record { name = codes "c1"; pool = codes "p"; rate = 1 } ∷ record { name = codes "c2"; pool = codes "p"; rate = 2 } ∷ record { name = codes "c3"; pool = codes "p"; rate = 1000 } ∷ [];
  workers = record { name = codes "w"; pool = codes "p"; capacity = 1 } ∷ [];
  ops = costing (codes "a") (codes "c1") false ∷ costing (codes "b") (codes "c2") false ∷ costing (codes "d") (codes "c3") false ∷ costing (codes "u") (codes "c1") true ∷ [];
  nodes = [];
}

-- it, before any job, at the moment 0
abbrev pub fresh_pool : CoreState
fresh_pool = record (opened shared_pool (record { inputs = []; rows = empty; next = 1 }) None 0) { now = 0 }

-- a key for an operation
abbrev pub building : ℕ → List ℕ → Triple
building op key = record { op = op; key = key; value = [] }

-- with a job for each of some triples
abbrev pub all_created : CoreState → List Triple → CoreState
all_created s [] = s
all_created s (t ∷ ts) = all_created (created s t) ts

-- with two jobs of each of the first three operations, and one of the urgent one
abbrev pub seven_jobs : CoreState
seven_jobs = all_created fresh_pool
    (building 0 (codes "1") ∷ building 0 (codes "2") ∷ building 1 (codes "1") ∷ building 1 (codes "2") ∷ building 2 (codes "1") ∷ building 2 (codes "2") ∷ building 3 (codes "1") ∷ [])

-- without the job that is picked, and its number before the others that follow
abbrev pub orders_from : ℕ → CoreState → Option ℕ → List ℕ
orders_from zero s o = []
orders_from (suc k) s None = []
orders_from (suc k) s (Some n) =
    let rest : CoreState = record s { jobs = without_job n s.jobs; fair = withdrawn n s.fair } in
    n ∷ orders_from k rest (picked rest 0)

-- the starts of their tickets
pub seven_starts : map (λ k. k.start) seven_jobs.fair.tickets ≡ 0 ∷ 10000 ∷ 0 ∷ 5000 ∷ 0 ∷ 10 ∷ 20000 ∷ []
seven_starts = refl

-- the order in which the worker takes them
pub seven_orders : orders_from 7 seven_jobs (picked seven_jobs 0) ≡ 7 ∷ 1 ∷ 3 ∷ 5 ∷ 6 ∷ 4 ∷ 2 ∷ []
seven_orders = refl

-- ---- jobs without a reference

-- the first job runs, and the second waits in its queue
abbrev pub one_runs : CoreState
one_runs = record (created fresh_pool (building 1 (codes "x"))) { jobs = running 1 (building 0 (codes "y")) ∷ record (running 2 (building 1 (codes "x"))) { worker = None } ∷ [] }

-- where only the queued one is wanted, the running one is marked
pub running_marked : newly_marked (building 1 (codes "x") ∷ []) one_runs ≡ 1 ∷ []
running_marked = refl

-- where only the running one is wanted, the queued one goes
pub queued_dropped : map (λ j. j.number) (dropped (building 0 (codes "y") ∷ []) one_runs).jobs ≡ 1 ∷ []
queued_dropped = refl

-- ---- a pipeline without declarations opens, and accepts a tick

-- the pipeline
abbrev pub bare : Program
bare = record { version = 1; inputs = []; pools = []; clients = []; workers = []; ops = []; nodes = [] }

pub bare_opens : (durable : Durable) (reading : ℕ) → start bare durable None reading ≡ Some (opened bare durable None reading)
unfolding start nodes.fresh
bare_opens durable reading = refl

-- whether an event was accepted
abbrev pub IsAccepted : Answer → Type 0
IsAccepted (Refused r) = ⊥
IsAccepted (Idle r) = ⊥
IsAccepted (Accepted s r) = Unit {0}

pub bare_ticks : (durable : Durable) (reading later : ℕ) → IsAccepted (step (opened bare durable None reading) (record { at = later; what = what.Tick }))
unfolding step nodes.fresh
bare_ticks durable reading later = tt
