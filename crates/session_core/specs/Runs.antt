-- What a whole session promises.
use Rattle.std.specs.Prelude.{◌≡◌, ◌⊎◌, ℕ, List, [], Option, Some, None, IfSome}
use Rattle.io_ends.specs.Causes.{Rose}
use Rattle.io_ends.specs.Known.{Contents}
use Rattle.op_keys.specs.declared.order.Exit.{Exit}
use Rattle.op_keys.specs.declared.level.Level.{Level}
use Rattle.op_keys.specs.declared.order.Order.{Order}
use Rattle.term_core.specs.declared.program.Program.{Program}
use Rattle.keeper_core.specs.declared.tables.Tables.{Tables}
use Rattle.keeper_core.specs.EitherSchema.{loaded_of}
use Rattle.keeper_core.specs.KeeperCalls.{Known}
use Rattle.session_rules.specs.declared.ends.SessionEnd.{SessionEnd}
use Rattle.session_rules.specs.declared.ends.SessionEnd.TheVariants as stop
use Rattle.session_rules.specs.Outside.{Outside, Stopped}
use Rattle.session_rules.specs.Scenes.{Ends}
use Rattle.session_rules.specs.Sessions.{IsSession, Script, end_reached}
use Rattle.session_rules.specs.Steps.{Counting}
use Rattle.session_rules.specs.Transcripts.{Quits, transcript}
use Rattle.session_rules.specs.Versions.{FinishesCounted}
use Rattle.session_core.specs.declared.ends.Ends.{Ends as Parts}

-- what a session is about: its program, the level from which on jobs wait to be confirmed, and whether it counts evaluations
pub record Subject : Type 0 where
  pub program : Program
  pub threshold : Option Level
  pub counting : Counting

-- what its ends give, if it is known: the bytes of the input, the readings of the clock, and the contents of files
pub record Given : Type 0 where
  pub bytes : Option (List ℕ)
  pub readings : Option (List ℕ)
  pub contents : Option Contents

-- what is outside of a keeper and a session's ends
abbrev pub outside :
    {K O L C F : Type 0} → (K → Known) → (O → Option (List ℕ)) → (L → Option (List (Order × Exit))) → K → Parts O L C F → Outside
outside known written runs k e = record { written = written e.out; ran = runs e.launcher; keeper = known k }

-- what an input and a session's ends give
abbrev pub given_by :
    {S O L C F : Type 0} → (S → Option (List ℕ)) → (C → Option (List ℕ)) → (F → Option Contents) → S → Parts O L C F → Given
given_by left readings held s e = record { bytes = left s; readings = readings e.clock; contents = held e.files }

-- with the exits that come
abbrev pub with_exits : List ℕ → List ℕ → Contents → List Exit → Ends
with_exits bytes readings contents exits = record { bytes = bytes; readings = readings; contents = contents; exits = exits }

-- all that a session does over loaded tables, by the exits that come
abbrev pub script_on : Subject → (List Exit → Ends) → Tables → Script
script_on x ends tables exits = transcript x.program tables x.threshold x.counting (ends exits)

-- a session over loaded tables; over those that can't be loaded nothing is done
abbrev pub IsSessionOver : Subject → (List Exit → Ends) → Option Tables → SessionEnd → Outside → Outside → Type 0
IsSessionOver x ends (Some tables) end e e' =
    IsSession (λ exits. transcript x.program tables x.threshold x.counting (ends exits)) end e e'
IsSessionOver x ends None end e e' = Stopped [] e e' × (end_reached end ≡ None)

-- a session over a store, if all that its ends give is known, and the store is known to the end
abbrev pub IsSessionOn : Subject → Given → SessionEnd → Outside → Outside → Type 0
IsSessionOn x given end e e' =
    IfSome given.bytes (λ bytes. IfSome given.readings (λ readings. IfSome given.contents (λ contents.
    IfSome e.keeper.tables (λ store. IfSome e'.keeper.tables (λ _.
    IsSessionOver x (with_exits bytes readings contents) (loaded_of store) end e e')))))

-- a session that came to the end of its input has this version: the number of its commits
abbrev pub IsCountedOn : Subject → Given → SessionEnd → ℕ → Outside → Outside → Type 0
IsCountedOn x given end version e e' =
    end ≡ stop.Quit →
    IfSome given.bytes (λ bytes. IfSome given.readings (λ readings. IfSome given.contents (λ contents.
    IfSome e.keeper.tables (λ store. IfSome e'.keeper.tables (λ _. IfSome (loaded_of store) (λ tables.
    FinishesCounted (script_on x (with_exits bytes readings contents) tables) Quits 0 version e e'))))))

-- ---- causes

-- how often calls of the input, the sink, the keeper and the files have failed
pub record Faults : Type 0 where
  pub source : ℕ
  pub sink : ℕ
  pub keeper : ℕ
  pub files : ℕ

-- those of an input, a keeper and a session's ends
abbrev pub faults_of :
    {S K O L C F : Type 0} → (S → ℕ) → (K → ℕ) → (O → ℕ) → (F → ℕ) → S → K → Parts O L C F → Faults
faults_of source keeper sink files s k e = record { source = source s; sink = sink e.out; keeper = keeper k; files = files e.files }

-- a fault has its cause; no call failed in a session that came to its end
abbrev pub IsEndCaused : SessionEnd → Faults → Faults → Type 0
IsEndCaused stop.Quit old new = new ≡ old
IsEndCaused stop.ReadFault old new = Rose old.source new.source ⊎ Rose old.files new.files
IsEndCaused stop.WriteFault old new = Rose old.sink new.sink
IsEndCaused stop.KeeperFault old new = Rose old.keeper new.keeper
IsEndCaused stop.NoMemory old new = Unit {0}
IsEndCaused stop.LimitReached old new = new ≡ old
IsEndCaused (stop.BadRow table n) old new = new ≡ old
