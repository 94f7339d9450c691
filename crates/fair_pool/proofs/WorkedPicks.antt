-- Starts, orders and picks, worked by hand: the definitions compute to them.
use Rattle.std.specs.Prelude.{◌≡◌, ℕ, Bool, true, false, [], ◌∷◌, map, codes, Option, Some, None, refl}
use Rattle.std.specs.FinMap.{empty}
use Rattle.op_keys.specs.declared.declarations.Expiry.TheVariants.{Never}
use Rattle.op_keys.specs.declared.declarations.OpDecl.{OpDecl}
use Rattle.op_keys.specs.declared.level.Level.TheVariants.{Harmless}
use Rattle.fair_pool.specs.declared.ticket.Ticket.{Ticket}
use Rattle.fair_pool.specs.Fair.{Fair, leaves, pick, ticketed_for, withdrawn}
use Rattle.fair_pool.specs.Layouts.{Layout}

-- pool p with hold 100, three clients of the rates 1, 2 and 1000, and two workers that run one job each
abbrev layout : Layout
layout = record {
  pools = record { name = codes "p"; hold = 100 } ∷ [];
  clients = record { name = codes "c1"; pool = codes "p"; rate = 1 } ∷ record { name = codes "c2"; pool = codes "p"; rate = 2 } ∷ record { name = codes "c3"; pool = codes "p"; rate = 1000 } ∷ [];
  workers = record { name = codes "w1"; pool = codes "p"; capacity = 1 } ∷ record { name = codes "w2"; pool = codes "p"; capacity = 1 } ∷ [];
}

-- no ticket yet
abbrev idle : Fair
idle = record { tickets = []; next = 0 ∷ 0 ∷ 0 ∷ []; rates = 1 ∷ 2 ∷ 1000 ∷ []; paused = false ∷ false ∷ []; hints = empty }

-- an operation at full cost 10
abbrev operation : Bool → OpDecl
operation urgent = record {
  name = codes "op";
  output = false;
  pool = codes "p";
  client = codes "c1";
  full = 10;
  cached = 10;
  hint = None;
  urgent = urgent;
  level = Harmless;
  expiry = Never;
  latched = false;
  no_cancel = false;
  words = [];
}

-- a job of a client
abbrev submits : ℕ → ℕ → Bool → Fair → Fair
submits job client urgent f = ticketed_for 0 client 0 job (operation urgent) None f

-- two jobs of each client, and an urgent one of the first
abbrev seven : Fair
seven = submits 7 0 true (submits 6 2 false (submits 5 2 false (submits 4 1 false (submits 3 1 false (submits 2 0 false (submits 1 0 false idle))))))

-- each job starts when its client's jobs before it have had their share
pub starts_are_shares : map (λ k. k.start) seven.tickets ≡ 0 ∷ 10000 ∷ 0 ∷ 5000 ∷ 0 ∷ 10 ∷ 20000 ∷ []
starts_are_shares = refl

-- what the first worker takes next, when all jobs are ready and it runs none
abbrev takes : Fair → Option ℕ
takes f = pick layout f (λ _. true) (λ _. 0) 0 0

-- the urgent job comes first, then the earlier start, then the smaller number
pub urgent_first : takes seven ≡ Some 7
urgent_first = refl

pub starts_then_numbers : takes (withdrawn 7 seven) ≡ Some 1
starts_then_numbers = refl

pub numbers_at_one_start : takes (withdrawn 1 (withdrawn 7 seven)) ≡ Some 3
numbers_at_one_start = refl

pub shares_later : takes (withdrawn 5 (withdrawn 3 (withdrawn 1 (withdrawn 7 seven)))) ≡ Some 6
shares_later = refl

-- a full worker takes none, nor does one that is paused
pub full_takes_none : pick layout seven (λ _. true) (λ _. 1) 0 0 ≡ None
full_takes_none = refl

pub paused_takes_none : pick layout (record seven { paused = true ∷ false ∷ [] }) (λ _. true) (λ _. 0) 0 0 ≡ None
paused_takes_none = refl

-- ---- a hint

-- a ticket that was made at 50, whose hint the first worker has
abbrev hinted : Ticket
hinted = record { job = 2; pool = 0; urgent = false; hint = Some (codes "h"); start = 50; created = 50 }

-- it waits for that worker until its pool's hold is over, unless the worker is paused or full
pub held_until : leaves layout idle (λ _. 0) 149 1 hinted (Some 0) ≡ false
held_until = refl

pub held_no_longer : leaves layout idle (λ _. 0) 150 1 hinted (Some 0) ≡ true
held_no_longer = refl

pub own_worker_takes : leaves layout idle (λ _. 0) 50 0 hinted (Some 0) ≡ true
own_worker_takes = refl

pub paused_holds_none : leaves layout (record idle { paused = true ∷ false ∷ [] }) (λ _. 0) 50 1 hinted (Some 0) ≡ true
paused_holds_none = refl
