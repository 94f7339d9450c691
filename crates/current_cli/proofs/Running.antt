-- A session on a program, over the store that is opened for it.
use Rattle.std.proofs.Common.{◌≡◌, ℕ, ◌≤◌, List, refl, sym, subst, arith}
use Rattle.std.specs.Prelude.{◌&&◌, Bool, true, false, IsTrue, IfSome, is_some, Option, Some, None}
use Rattle.io_ends.specs.Causes.{SinkSide}
use Rattle.io_ends.specs.Known.{Contents}
use Rattle.op_keys.specs.declared.level.Level.{Level}
use Rattle.op_keys.specs.declared.order.Exit.{Exit}
use Rattle.term_core.specs.declared.program.Program.{Program}
use Rattle.keeper_core.specs.declared.keeper.KeepFault.{KeepFault}
use Rattle.keeper_core.specs.declared.keeper.KeepFault.TheVariants as keep
use Rattle.keeper_core.specs.declared.stored.Stored.{Stored}
use Rattle.keeper_core.specs.declared.tables.Tables.{Tables}
use Rattle.keeper_core.specs.EitherSchema.{loaded_of}
use Rattle.keeper_core.specs.KeeperCalls.{Holds, Known, LeavesAsKeeper, begun, knows_after}
use Rattle.session_rules.specs.Commands.{Sound}
use Rattle.session_rules.specs.Outside.{LeavesTables, Outside}
use Rattle.session_rules.specs.Runs.{FollowsOn, Given, IsRunOn, LeavesNoMore, Seen}
use Rattle.session_rules.specs.Scenes.{Ends}
use Rattle.session_rules.specs.Sessions.{Script}
use Rattle.session_rules.specs.Steps.{Counting}
use Rattle.session_rules.specs.Transcripts.{transcript}
use Rattle.session_rules.specs.declared.ends.SessionEnd.{SessionEnd}
use Rattle.session_core.specs.Runs.{IsSessionOn, IsSessionOver, Subject, with_exits}
use Rattle.store_reports.specs.Causes.{fault_status}
use Rattle.current_cli.specs.inside.Parts.{TellsEnd}
use Rattle.current_cli.proofs.Ended.{IsOver, session_follows}
use Rattle.current_cli.proofs.Ran.{plan_by, unbegun}

-- the scripts of a session over tables
abbrev pub scripts : Program → Option Level → Counting → (List Exit → Ends) → Tables → Script
scripts p threshold counting ends tables exits = transcript p tables threshold counting (ends exits)

as_over : (x : Subject) (ends : List Exit → Ends) (o : Option Tables) (end : SessionEnd) (e e1 : Outside) → IsSessionOver x ends o end e e1
    → IsOver (scripts x.program x.threshold x.counting ends) o end e e1
as_over x ends None end e e1 over = over
as_over x ends (Some tables) end e e1 over = over

no : false ≡ true → ⊥
no e = cc

second_true : (a b : Bool) → IsTrue (a && b) → IsTrue b
second_true true b both = both
second_true false b both = absurd (no both)

sure_of : (s : Stored) (k : Known) → Holds s k → LeavesTables k
sure_of s k holds = rw holds.tables (λ x left. (holds.left x).0 left)

-- what holds over known tables
peeled : (a b : Option Stored) (s t : Stored) (X : Stored → Type 0) → a ≡ Some s → b ≡ Some t → IfSome a (λ x. IfSome b (λ _. X x)) → X s
peeled a b s t X is is' h = rw (is, is') at h

-- a session and its end
module _
    (p : Program) (threshold : Option Level) (counting : Counting) (end : SessionEnd) (status : ℕ) (e e1 : Outside) (S S' : Seen) (a b : SinkSide)
    (left_as : LeavesAsKeeper S'.knows_left S'.left e1.keeper)
    (written : e.written ≡ S.written) (ran : e.ran ≡ S.ran) (ran' : S'.ran ≡ e1.ran)
    (before : a.written ≡ e1.written) (after : b.written ≡ S'.written) (told : TellsEnd end status a b) where
  known_follows : (ends : List Exit → Ends) (store : Stored) (o : Option Stored) → Holds store e.keeper → e1.keeper.tables ≡ o → IsTrue (is_some o)
      → IfSome e.keeper.tables (λ s. IfSome e1.keeper.tables (λ _. IsSessionOver (record { program = p; threshold = threshold; counting = counting }) ends (loaded_of s) end e e1))
      → FollowsOn (plan_by (scripts p threshold counting ends) (loaded_of store)) store status S S'
  known_follows ends store None holds is known over = absurd (no known)
  known_follows ends store (Some s1) holds is known over =
      let x : Subject = record { program = p; threshold = threshold; counting = counting } in
      let at : IsSessionOver x ends (loaded_of store) end e e1 =
      peeled e.keeper.tables e1.keeper.tables store s1 (λ y. IsSessionOver x ends (loaded_of y) end e e1) holds.tables is over in
      session_follows store s1 e e1 S S' holds.tables (sure_of store e.keeper holds) is (λ knows y left. (left_as knows y).0 left) written ran ran' a b before after
      (scripts p threshold counting ends) (loaded_of store) end status (as_over x ends (loaded_of store) end e e1 at) told

  pub runs_on : (path : Option (List ℕ)) (knows : Bool) (bytes readings : Option (List ℕ)) (contents : Option Contents) (held : Option (List ℕ → Stored))
      → S'.knows_left ≡ knows_after knows e1.keeper → IfSome held (λ h. Holds (begun h path) e.keeper)
      → IsSessionOn (record { program = p; threshold = threshold; counting = counting }) (record { bytes = bytes; readings = readings; contents = contents }) end e e1
      → IsRunOn (Sound p) path threshold counting (record { bytes = bytes; readings = readings; contents = contents; held = held }) status S S'
  runs_on path knows None readings contents held is opens session = λ known. tt
  runs_on path knows (Some bytes) None contents held is opens session = λ known. tt
  runs_on path knows (Some bytes) (Some readings) None held is opens session = λ known. tt
  runs_on path knows (Some bytes) (Some readings) (Some contents) None is opens session = λ known. tt
  runs_on path knows (Some bytes) (Some readings) (Some contents) (Some held) is opens session = λ known.
      known_follows (with_exits bytes readings contents) (begun held path) e1.keeper.tables opens refl (second_true knows (is_some e1.keeper.tables) (subst IsTrue is (known refl))) session

-- a fault before the store was opened
unopened_by : (p : Program) (path : Option (List ℕ)) (threshold : Option Level) (counting : Counting) (bytes readings : Option (List ℕ)) (contents : Option Contents) (held : Option (List ℕ → Stored))
    (status : ℕ) (S S' : Seen) → 4 ≤ status → status ≤ 7 → S'.written ≡ S.written → S'.ran ≡ S.ran → LeavesNoMore S S'
    → IsRunOn (Sound p) path threshold counting (record { bytes = bytes; readings = readings; contents = contents; held = held }) status S S'
unopened_by p path threshold counting None readings contents held status S S' low high written ran no_more = λ known. tt
unopened_by p path threshold counting (Some bytes) None contents held status S S' low high written ran no_more = λ known. tt
unopened_by p path threshold counting (Some bytes) (Some readings) None held status S S' low high written ran no_more = λ known. tt
unopened_by p path threshold counting (Some bytes) (Some readings) (Some contents) None status S S' low high written ran no_more = λ known. tt
unopened_by p path threshold counting (Some bytes) (Some readings) (Some contents) (Some held) status S S' low high written ran no_more = λ known.
    unbegun (scripts p threshold counting (with_exits bytes readings contents)) (loaded_of (begun held path)) (begun held path) status S S' low high written ran no_more

pub unopened : (p : Program) (path : Option (List ℕ)) (threshold : Option Level) (counting : Counting) (given : Given) (status : ℕ) (S S' : Seen)
    → 4 ≤ status → status ≤ 7 → S'.written ≡ S.written → S'.ran ≡ S.ran → LeavesNoMore S S' → IsRunOn (Sound p) path threshold counting given status S S'
unopened p path threshold counting given status S S' low high written ran no_more =
    unopened_by p path threshold counting given.bytes given.readings given.contents given.held status S S' low high written ran no_more

-- ---- the status of a keeper's fault

between : (f : KeepFault) → (4 ≤ fault_status f) × (fault_status f ≤ 7)
between keep.Fault = (omega arith, omega arith)
between keep.NoMemory = (omega arith, omega arith)

pub fault_low : (f : KeepFault) (status : ℕ) → status ≡ fault_status f → 4 ≤ status
fault_low f status is = subst (λ (k : ℕ). 4 ≤ k) (sym is) (between f).0

pub fault_high : (f : KeepFault) (status : ℕ) → status ≡ fault_status f → status ≤ 7
fault_high f status is = subst (λ (k : ℕ). k ≤ 7) (sym is) (between f).1
