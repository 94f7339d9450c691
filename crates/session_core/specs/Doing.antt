-- How the calls of a session do its parts.
use Rattle.std.specs.Prelude.{◌≡◌, ℕ, List, [], Option, Some, None, IfSome, Result, Ok, Err}
use Rattle.io_ends.specs.Causes.{Rose}
use Rattle.io_ends.specs.Known.{Contents}
use Rattle.op_keys.specs.declared.order.Exit.{Exit}
use Rattle.op_keys.specs.declared.order.Order.{Order}
use Rattle.core_rules.specs.Core.{CoreState}
use Rattle.keeper_core.specs.KeeperCalls.{Known}
use Rattle.desk_core.specs.declared.faults.ClosedBy.{ClosedBy}
use Rattle.session_rules.specs.Outside.{Outside}
use Rattle.session_rules.specs.Parts.{Part, Does, StopsIn, UsesUp}
use Rattle.session_rules.specs.Scenes.{Scene}
use Rattle.session_core.specs.declared.ends.Ends.{Ends}
use Rattle.session_core.specs.declared.session.Session.{Session}
use Rattle.session_core.specs.declared.stop.Stop.{Stop}
use Rattle.session_core.specs.declared.stop.Stop.TheVariants as stop

-- what a session shows between two of its steps: its scene, if what its ends still give is known, and
-- what is outside
pub record Moment : Type 1 where
  pub scene : Option Scene
  pub outside : Outside

-- the scene of these, whose exits to come are named by none
abbrev pub scene_of : CoreState → ℕ → Option (List ℕ) → Option Contents → Option Scene
scene_of core last None contents = None
scene_of core last (Some readings) None = None
scene_of core last (Some readings) (Some contents) =
    Some (record { core = core; last = last; readings = readings; contents = contents; exits = [] })

-- what is seen of a session and its ends
abbrev pub seen :
    {K G N O L C F : Type 0} → (K → Known) → (O → Option (List ℕ)) → (L → Option (List (Order × Exit))) →
    (C → Option (List ℕ)) → (F → Option Contents) → Session K G N → Ends O L C F → Moment
seen known written runs readings held s e = record {
  scene = scene_of s.desk.engine.core s.last (readings e.clock) (held e.files);
  outside = record { written = written e.out; ran = runs e.launcher; keeper = known s.desk.keeper };
}

-- ---- parts

-- A part stopped, and used up the numbers if that is why.
pub record Stops (z : Stop) (part : Part) (s : Scene) (e e' : Outside) : Type 0 where
  pub stops : StopsIn part s e e'
  pub limit : z ≡ stop.LimitReached → UsesUp part s e e'

-- a part was done from a scene to another one, if the first one is known
abbrev pub DoesFrom : Part → Option Scene → Option Scene → Outside → Outside → Type 0
DoesFrom part None s' e e' = Unit {0}
DoesFrom part (Some s) None e e' = ⊥
DoesFrom part (Some s) (Some s') e e' = Does part s s' e e'

-- a part was done from a moment to another one
abbrev pub DoesPart : Part → Moment → Moment → Type 0
DoesPart part m m' = DoesFrom part m.scene m'.scene m.outside m'.outside

-- a part was begun at a moment and stopped
abbrev pub StopsPart : Stop → Part → Moment → Moment → Type 0
StopsPart z part m m' = IfSome m.scene (λ s. Stops z part s m.outside m'.outside)

-- a call did a part, or stopped in it
abbrev pub Plays : Part → Moment → Moment → {T : Type 0} → Result T Stop → Type 0
Plays part m m' (Ok x) = DoesPart part m m'
Plays part m m' (Err z) = StopsPart z part m m'

-- ---- causes

-- the counts of faults of a session's ends, and what closed its desk
pub record Counts : Type 0 where
  pub sink : ℕ
  pub keeper : ℕ
  pub files : ℕ
  pub closed : Option ClosedBy

-- those of a session and its ends
abbrev pub counts :
    {K G N O L C F : Type 0} → (K → ℕ) → (O → ℕ) → (F → ℕ) → Session K G N → Ends O L C F → Counts
counts keeper sink files s e = record {
  sink = sink e.out;
  keeper = keeper s.desk.keeper;
  files = files e.files;
  closed = s.desk.closed;
}

-- a stop has its cause
abbrev pub IsCausedBy : Stop → Counts → Counts → Type 0
IsCausedBy stop.ReadFault old new = Rose old.files new.files
IsCausedBy stop.WriteFault old new = Rose old.sink new.sink
IsCausedBy stop.KeeperFault old new = Rose old.keeper new.keeper
IsCausedBy stop.NoMemory old new = Unit {0}
IsCausedBy stop.LimitReached old new = new ≡ old

-- a call leaves the counts, or stops with a cause if the desk was open
abbrev pub Causes : Counts → Counts → {T : Type 0} → Result T Stop → Type 0
Causes old new (Ok x) = new ≡ old
Causes old new (Err z) = old.closed ≡ None → IsCausedBy z old new
