-- A session from the opening of its desk on.
use Rattle.std.proofs.Common.{◌≡◌, ◌≢◌, ℕ, arith, List, [], ◌∷◌, refl, sym, ap, subst, ◌∙◌, inl, inr}
use Rattle.std.specs.Prelude.{◌⊎◌, IfOk, IfSome, MatchResult}
use Rattle.std.specs.declared.option.Option.{Option}
use Rattle.std.specs.declared.option.Option.TheVariants.{None, Some}
use Rattle.std.specs.declared.result.Result.{Result}
use Rattle.std.specs.declared.result.Result.TheVariants.{Ok, Err}
use Rattle.io_ends.specs.Known.{Contents, TakesReading}
use Rattle.op_keys.specs.declared.order.Exit.{Exit}
use Rattle.value_core.proofs.Basics.{some_is}
use Rattle.core_rules.specs.Core.{CoreState}
use Rattle.core_rules.specs.Openings.{Durable, opening_reply}
use Rattle.core_rules.specs.declared.done.Done.{Done}
use Rattle.keeper_core.specs.Chains.{durable_in}
use Rattle.keeper_core.specs.Contents.{Contents as Stock, loaded}
use Rattle.keeper_core.specs.EitherSchema.{committed, loaded_of}
use Rattle.keeper_core.specs.KeeperCalls.{BecomesBy, IsSure, Known, LeavesEither, Stays}
use Rattle.keeper_core.specs.Laws.{IsWellFormed}
use Rattle.keeper_core.specs.WellFormed.{first_bad}
use Rattle.keeper_core.specs.declared.stored.Stored.{Stored}
use Rattle.keeper_core.specs.declared.stored.Stored.TheVariants.{Current, Old}
use Rattle.keeper_core.specs.declared.tables.Table.{Table}
use Rattle.keeper_core.specs.declared.tables.Tables.{Tables}
use Rattle.desk_core.specs.Desk.{DeskState, IsBadRow, IsDeskOpened, IsKeptFrom, IsLeft, IsNotOpened, IsReadFrom, IsUnopenable, opened_by, opened_tables, start_in, with_start}
use Rattle.desk_core.specs.declared.faults.DeskFault.{DeskFault}
use Rattle.desk_core.specs.declared.faults.DeskFault.TheVariants as fault
use Rattle.session_rules.specs.Outputs.{Output, Commit, deltas}
use Rattle.session_rules.specs.Outside.{Did, Outside, WereKnown}
use Rattle.session_rules.specs.Scenes.{Ends, reading_now, readings_later}
use Rattle.session_rules.specs.Sessions.{Finishes, Halts, IsSession, Reaches, Script, end_reached}
use Rattle.session_rules.specs.Transcripts.{Bad, End, Limit, Quits, Transcript, ended, session_of, session_on, transcript}
use Rattle.session_rules.specs.Versions.{FinishesCounted, ReachesCounted}
use Rattle.session_rules.specs.declared.ends.SessionEnd.{SessionEnd}
use Rattle.session_rules.specs.declared.ends.SessionEnd.TheVariants as end
use Rattle.session_rules.proofs.Doing.{commit_failed, committed_so, did_still, did_stops, still_failed}
use Rattle.session_rules.proofs.Growing.{if_some, if_some_at, kept_known}
use Rattle.session_rules.proofs.Scripts.{finishes_halts, reaches_finishes, reaches_halts}
use Rattle.session_rules.proofs.Versions.{rises_finishes, start_version}
use Rattle.session_core.specs.Doing.{Moment, scene_of}
use Rattle.session_core.specs.Lines.{EndsScript}
use Rattle.session_core.specs.Runs.{IsCountedOn, IsSessionOn, IsSessionOver, Subject, script_on, with_exits}
use Rattle.session_core.specs.declared.stop.Stop.{Stop}
use Rattle.session_core.specs.declared.stop.Stop.TheVariants as stop
use Rattle.session_core.specs.inside.Opening.{CountsCommitted, DoesCommitted, committed_script, end_of_fault, end_of_stop}
use Rattle.session_core.proofs.Played.{at}

-- ---- the end of a script, and that of its session

-- an end after a call of the session
abbrev pub end_of : {T : Type 0} → Result T Stop → SessionEnd
end_of (Ok x) = end.Quit
end_of (Err z) = end_of_stop z

-- the end that a call of the session comes to
pub end_is : {T : Type 0} (run : Result T Stop) (result : SessionEnd) → MatchResult run (λ _. result ≡ end.Quit) (λ z. result ≡ end_of_stop z) → result ≡ end_of run
end_is (Ok x) result is = is
end_is (Err z) result is = is

-- what stops a session is no end of its input, nor is what kept its desk from being opened
not_quit : (z : Stop) → end_of_stop z ≢ end.Quit
not_quit stop.ReadFault = λ is. cc
not_quit stop.WriteFault = λ is. cc
not_quit stop.KeeperFault = λ is. cc
not_quit stop.NoMemory = λ is. cc
not_quit stop.LimitReached = λ is. cc

pub fault_not_quit : (f : DeskFault) → end_of_fault f ≢ end.Quit
fault_not_quit (fault.Refused r) = λ is. cc
fault_not_quit fault.Keeper = λ is. cc
fault_not_quit (fault.BadRow table n) = λ is. cc
fault_not_quit (fault.Closed by) = λ is. cc
fault_not_quit fault.NoMemory = λ is. cc

stop_is_session : (t : Script) (z : Stop) (e e' : Outside) → Halts t e e' → (z ≡ stop.LimitReached → Finishes t Limit e e') → IsSession t (end_of_stop z) e e'
stop_is_session t stop.ReadFault e e' halts limit = (halts, tt)
stop_is_session t stop.WriteFault e e' halts limit = (halts, tt)
stop_is_session t stop.KeeperFault e e' halts limit = (halts, tt)
stop_is_session t stop.NoMemory e e' halts limit = (halts, tt)
stop_is_session t stop.LimitReached e e' halts limit = (halts, limit refl)

-- a script was done up to another one, which was done or stopped
then_session : {T : Type 0} (t u : Script) (run : Result T Stop) (a b c : Outside) → Reaches t u a b → EndsScript u b c run → IsSession t (end_of run) a c
then_session t u (Ok x) a b c reached ends =
    let done = reaches_finishes t u Quits a b c reached ends in (finishes_halts t Quits a c done, done)
then_session t u (Err z) a b c reached ends =
    stop_is_session t z a c (reaches_halts t u a b c reached ends.0) (λ is. reaches_finishes t u Limit a b c reached (ends.1 is))

-- what was known after it was known before
ends_known : {T : Type 0} (u : Script) (run : Result T Stop) (b c : Outside) → EndsScript u b c run → WereKnown b.keeper c.keeper
ends_known u (Ok x) b c done = kept_known b.keeper c.keeper (deltas done.outputs) done.did.kept
ends_known u (Err z) b c ends = ends.0.stopped.known

-- nothing was done
still_halts : (t : Script) (e e' : Outside) → Did [] e e' → Halts t e e'
unfolding did_stops
still_halts t e e' did = record { outputs = (t []).outputs; stopped = did_stops [] (t []).outputs e e' did; goes = refl }

-- the script has nothing to do
none_finishes : (t : Script) (finish : End) (e e' : Outside) → t [] ≡ ended finish → Did [] e e' → Finishes t finish e e'
none_finishes t finish e e' is did = record { outputs = []; goes = is; did = did }

-- ---- changes that agree on what is known

-- the same of another change
becomes_as : (f g : Stored → Stored) (old new : Known) → ((s : Stored) → old.tables ≡ Some s → f s ≡ g s) → BecomesBy f old new → BecomesBy g old new
becomes_as f g old new agrees becomes = if_some new.tables _ (λ (s : Stored) (is : new.tables ≡ Some s).
    let it = if_some_at new.tables (λ (u : Stored). (was : Stored) × (old.tables ≡ Some was) × (u ≡ f was)) s becomes is in
    (it.0, it.1, it.2 ∙ agrees it.0 it.1))

either_as : (f g : Stored → Stored) (old new : Known) → ((s : Stored) → old.tables ≡ Some s → f s ≡ g s) → Stays old new ⊎ BecomesBy f old new → Stays old new ⊎ BecomesBy g old new
either_as f g old new agrees (inl stays) = inl stays
either_as f g old new agrees (inr becomes) = inr (becomes_as f g old new agrees becomes)

leaves_as : (f g : Stored → Stored) (old new : Known) → ((s : Stored) → old.tables ≡ Some s → f s ≡ g s) → LeavesEither f old new → LeavesEither g old new
leaves_as f g old new agrees leaves x left = elim (leaves x left) [
  | inl before ↦ inl before
  | inr with ↦ inr (with.0, with.1, with.2 ∙ agrees with.0 with.1)
]

-- ---- over tables

module _ (x : Subject) (bytes readings : List ℕ) (contents : Contents) where
  -- with the exits that come
  abbrev ends : List Exit → Ends
  ends = with_exits bytes readings contents

  -- what opens, by what is stored
  abbrev opens : Durable → Option CoreState
  opens = start_in x.program x.threshold (reading_now readings)

  -- all that the session does over loaded tables
  abbrev over : Tables → Script
  over tables exits = transcript x.program tables x.threshold x.counting (ends exits)

  -- the same by the first row that isn't well formed
  bad_is : (tables : Tables) (table : Table) (n : ℕ) → first_bad tables ≡ Some (table, n) → (exits : List Exit) → over tables exits ≡ ended (Bad table n)
  bad_is tables table n is exits = ap (session_on x.program tables x.threshold x.counting (ends exits)) is

  module _ (t : Stock) (well : IsWellFormed t) where
    -- the same by what opens
    over_is : (o : Option CoreState) → opens (durable_in t) ≡ o → (exits : List Exit) → over (loaded t) exits ≡ session_of x.counting (ends exits) o
    over_is o is exits = ap (session_on x.program (loaded t) x.threshold x.counting (ends exits)) well ∙ ap (session_of x.counting (ends exits)) is

    -- the tables after an opening
    opened_is : (s : CoreState) → opens (durable_in t) ≡ Some s → opened_tables opens (Current t) ≡ committed (opening_reply s).delta (Current t)
    opened_is s is = ap (opened_by opens t) well ∙ ap (λ o. with_start o t) is

    unopened_is : opens (durable_in t) ≡ None → opened_tables opens (Current t) ≡ Current t
    unopened_is is = ap (opened_by opens t) well ∙ ap (λ o. with_start o t) is

    -- the opening was committed
    unfoldable opening_reaches : (s : CoreState) (e : Outside) (k : Known) → opens (durable_in t) ≡ Some s → BecomesBy (committed (opening_reply s).delta) e.keeper k → IsSure k →
        Reaches (over (loaded t)) (committed_script x.counting bytes (at s (reading_now readings) (readings_later readings) contents)) e (record e { keeper = k })
    opening_reaches s e k is becomes sure = record {
      outputs = Commit (opening_reply s).delta ∷ [];
      goes = λ more. over_is (Some s) is more;
      did = committed_so (opening_reply s).delta e k becomes sure;
    }

    -- so it begins with version 1
    opening_rises : (s : CoreState) (e : Outside) (k : Known) → opens (durable_in t) ≡ Some s → BecomesBy (committed (opening_reply s).delta) e.keeper k → IsSure k →
        ReachesCounted (over (loaded t)) (committed_script x.counting bytes (at s (reading_now readings) (readings_later readings) contents)) 0 s.version e (record e { keeper = k })
    unfolding opening_reaches
    opening_rises s e k is becomes sure =
        let first : s.version ≡ 1 = start_version x.program (durable_in t) x.threshold (reading_now readings) s is in
        record { reaches = opening_reaches s e k is becomes sure; versions = omega (arith, first) }

    -- it was not committed: the keeper failed
    opening_fails : (o : Option CoreState) (e : Outside) (k : Known) → opens (durable_in t) ≡ o → e.keeper.tables ≡ Some (Current t) →
        Stays e.keeper k ⊎ BecomesBy (opened_tables opens) e.keeper k → LeavesEither (opened_tables opens) e.keeper k → Halts (over (loaded t)) e (record e { keeper = k })
    unfolding still_failed commit_failed
    opening_fails None e k is tables either leaves = record {
      outputs = [];
      stopped = still_failed (opened_tables opens) [] e k (λ s at. let same : s ≡ Current t = some_is s (Current t) (sym at ∙ tables) in ap (opened_tables opens) same ∙ unopened_is is ∙ sym same) either leaves;
      goes = ap (λ (r : Transcript). r.outputs) (over_is None is []);
    }
    opening_fails (Some s) e k is tables either leaves =
        let delta = (opening_reply s).delta in
        let agrees : (y : Stored) → e.keeper.tables ≡ Some y → opened_tables opens y ≡ committed delta y =
        (λ y there. let same : y ≡ Current t = some_is y (Current t) (sym there ∙ tables) in ap (opened_tables opens) same ∙ opened_is s is ∙ ap (committed delta) (sym same)) in
        let all : List Output = (session_of x.counting (ends []) (Some s)).outputs in
        record {
          outputs = all;
          stopped = commit_failed delta _ e k (either_as (opened_tables opens) (committed delta) e.keeper k agrees either) (leaves_as (opened_tables opens) (committed delta) e.keeper k agrees leaves);
          goes = ap (λ (r : Transcript). r.outputs) (over_is (Some s) is []);
        }

-- ---- a desk that was opened

-- a reading that a clock took
reading_is : (ts us : List ℕ) (last : ℕ) → TakesReading (Some ts) last (Some us) → (last ≡ reading_now ts) × (us ≡ readings_later ts)
reading_is [] us last r = r
reading_is (t ∷ []) us last r = r
reading_is (t ∷ v ∷ ts) us last r = r

module _ {K : Type 0} (known : K → Known) (faults : K → ℕ) (x : Subject) where
  abbrev opens_at : ℕ → Durable → Option CoreState
  opens_at last = start_in x.program x.threshold last

  module _ {T : Type 0} (run : Result T Stop) (k : K) (d : DeskState K) (done : Done) (e : Outside) (m : Moment) (asked : e.keeper ≡ known k) where
    -- outside after the opening
    abbrev mid : Outside
    mid = record e { keeper = known d.keeper }

    -- the tables were read at the opening
    read_at : (last : ℕ) → IsDeskOpened known faults (opens_at last) k d done → (s u : Stored) → e.keeper.tables ≡ Some s → (known d.keeper).tables ≡ Some u → (durable : Durable) →
        IfSome (known d.keeper).tables (λ _. IfSome (known k).tables (IsReadFrom durable)) → IsReadFrom durable s
    read_at last o s u was is durable read =
        if_some_at (known k).tables (IsReadFrom durable) s (if_some_at (known d.keeper).tables (λ _. IfSome (known k).tables (IsReadFrom durable)) u read is) (ap (λ (q : Known). q.tables) (sym asked) ∙ was)

    -- a session over the tables that were read
    session_over : (bytes ts : List ℕ) (g : Contents) (t : Stock) → IsWellFormed t → IsDeskOpened known faults (opens_at (reading_now ts)) k d done → e.keeper.tables ≡ Some (Current t) →
        opens_at (reading_now ts) (durable_in t) ≡ Some d.engine.core →
        EndsScript (committed_script x.counting bytes (at d.engine.core (reading_now ts) (readings_later ts) g)) mid m.outside run → IsSessionOver x (with_exits bytes ts g) (loaded_of (Current t)) (end_of run) e m.outside
    session_over bytes ts g t well o tables is ends =
        let agrees : (y : Stored) → e.keeper.tables ≡ Some y → opened_tables (opens_at (reading_now ts)) y ≡ committed (opening_reply d.engine.core).delta y =
        (λ y there. let same : y ≡ Current t = some_is y (Current t) (sym there ∙ tables) in
        ap (opened_tables (opens_at (reading_now ts))) same ∙ opened_is x bytes ts g t well d.engine.core is ∙ ap (committed (opening_reply d.engine.core).delta) (sym same)) in
        let stored : BecomesBy (opened_tables (opens_at (reading_now ts))) e.keeper (known d.keeper) = subst (λ (q : Known). BecomesBy (opened_tables (opens_at (reading_now ts))) q (known d.keeper)) (sym asked) o.stored in
        then_session _ _ run e mid m.outside
        (opening_reaches x bytes ts g t well d.engine.core e (known d.keeper) is (becomes_as _ _ e.keeper (known d.keeper) agrees stored) o.sure)
        ends

    by_tables : (bytes ts : List ℕ) (g : Contents) (s u : Stored) → IsDeskOpened known faults (opens_at (reading_now ts)) k d done → e.keeper.tables ≡ Some s → (known d.keeper).tables ≡ Some u →
        EndsScript (committed_script x.counting bytes (at d.engine.core (reading_now ts) (readings_later ts) g)) mid m.outside run → IsSessionOver x (with_exits bytes ts g) (loaded_of s) (end_of run) e m.outside
    by_tables bytes ts g s u o was is ends =
        let r : IsReadFrom o.durable s = read_at (reading_now ts) o s u was is o.durable o.read in
        subst (λ (y : Stored). IsSessionOver x (with_exits bytes ts g) (loaded_of y) (end_of run) e m.outside) (sym r.is)
        (session_over bytes ts g r.contents r.well_formed o (was ∙ ap Some r.is) (ap (opens_at (reading_now ts)) (sym r.durable) ∙ o.opening.state) ends)

    -- a session whose desk was opened
    pub by_given : (last : ℕ) (b r r' : Option (List ℕ)) (c : Option Contents) → IsDeskOpened known faults (opens_at last) k d done → TakesReading r last r' →
        DoesCommitted x.counting b (record { scene = scene_of d.engine.core last r' c; outside = mid }) m run →
        IsSessionOn x (record { bytes = b; readings = r; contents = c }) (end_of run) e m.outside
    by_given last None r r' c o takes does = tt
    by_given last (Some b) None r' c o takes does = tt
    by_given last (Some b) (Some ts) None c o takes does = absurd takes
    by_given last (Some b) (Some ts) (Some us) None o takes does = tt
    by_given last (Some b) (Some ts) (Some us) (Some g) o takes does =
        let is = reading_is ts us last takes in
        let opened : IsDeskOpened known faults (opens_at (reading_now ts)) k d done = subst (λ (n : ℕ). IsDeskOpened known faults (opens_at n) k d done) is.0 o in
        let ends : EndsScript (committed_script x.counting b (at d.engine.core (reading_now ts) (readings_later ts) g)) mid m.outside run =
        subst (λ (p : ℕ × List ℕ). EndsScript (committed_script x.counting b (at d.engine.core p.0 p.1 g)) mid m.outside run) (λ i. (is.0 i, is.1 i)) does in
        if_some e.keeper.tables _ (λ (s : Stored) (was : e.keeper.tables ≡ Some s). if_some m.outside.keeper.tables _ (λ (v : Stored) (now : m.outside.keeper.tables ≡ Some v).
        let middle = if_some_at m.outside.keeper.tables (λ (q : Stored). (u : Stored) × ((known d.keeper).tables ≡ Some u)) v (ends_known _ run mid m.outside ends) now in
        by_tables b ts g s middle.0 opened was middle.1 ends))

  module _ (k : K) (d : DeskState K) (done : Done) (e : Outside) (m : Moment) (asked : e.keeper ≡ known k) (v : ℕ) where
    -- outside after the opening
    abbrev opened_outside : Outside
    opened_outside = record e { keeper = known d.keeper }

    -- the version at the end of a session over these tables
    counted_over : (bytes ts : List ℕ) (g : Contents) (t : Stock) → IsWellFormed t → IsDeskOpened known faults (opens_at (reading_now ts)) k d done → e.keeper.tables ≡ Some (Current t) →
        opens_at (reading_now ts) (durable_in t) ≡ Some d.engine.core →
        FinishesCounted (committed_script x.counting bytes (at d.engine.core (reading_now ts) (readings_later ts) g)) Quits d.engine.core.version v opened_outside m.outside →
        FinishesCounted (script_on x (with_exits bytes ts g) (loaded t)) Quits 0 v e m.outside
    counted_over bytes ts g t well o tables is ends =
        let agrees : (y : Stored) → e.keeper.tables ≡ Some y → opened_tables (opens_at (reading_now ts)) y ≡ committed (opening_reply d.engine.core).delta y =
        (λ y there. let same : y ≡ Current t = some_is y (Current t) (sym there ∙ tables) in
        ap (opened_tables (opens_at (reading_now ts))) same ∙ opened_is x bytes ts g t well d.engine.core is ∙ ap (committed (opening_reply d.engine.core).delta) (sym same)) in
        let stored : BecomesBy (opened_tables (opens_at (reading_now ts))) e.keeper (known d.keeper) = subst (λ (q : Known). BecomesBy (opened_tables (opens_at (reading_now ts))) q (known d.keeper)) (sym asked) o.stored in
        rises_finishes (script_on x (with_exits bytes ts g) (loaded t)) (committed_script x.counting bytes (at d.engine.core (reading_now ts) (readings_later ts) g)) Quits 0 d.engine.core.version v
        e opened_outside m.outside
        (opening_rises x bytes ts g t well d.engine.core e (known d.keeper) is (becomes_as _ _ e.keeper (known d.keeper) agrees stored) o.sure)
        ends

    counted_in : (bytes ts : List ℕ) (g : Contents) (s u : Stored) → IsDeskOpened known faults (opens_at (reading_now ts)) k d done → e.keeper.tables ≡ Some s → (known d.keeper).tables ≡ Some u →
        FinishesCounted (committed_script x.counting bytes (at d.engine.core (reading_now ts) (readings_later ts) g)) Quits d.engine.core.version v opened_outside m.outside →
        IfSome (loaded_of s) (λ tables. FinishesCounted (script_on x (with_exits bytes ts g) tables) Quits 0 v e m.outside)
    counted_in bytes ts g s u o was is ends =
        let r : IsReadFrom o.durable s = read_at {T = Unit {0}} (Ok tt) k d done e m asked (reading_now ts) o s u was is o.durable o.read in
        subst (λ (y : Stored). IfSome (loaded_of y) (λ tables. FinishesCounted (script_on x (with_exits bytes ts g) tables) Quits 0 v e m.outside)) (sym r.is)
        (counted_over bytes ts g r.contents r.well_formed o (was ∙ ap Some r.is) (ap (opens_at (reading_now ts)) (sym r.durable) ∙ o.opening.state) ends)

    counted_given : (last : ℕ) (b r r' : Option (List ℕ)) (c : Option Contents) → IsDeskOpened known faults (opens_at last) k d done → TakesReading r last r' →
        CountsCommitted x.counting b (record { scene = scene_of d.engine.core last r' c; outside = opened_outside }) m v →
        IsCountedOn x (record { bytes = b; readings = r; contents = c }) end.Quit v e m.outside
    counted_given last None r r' c o takes does = λ _. tt
    counted_given last (Some b) None r' c o takes does = λ _. tt
    counted_given last (Some b) (Some ts) None c o takes does = absurd takes
    counted_given last (Some b) (Some ts) (Some us) None o takes does = λ _. tt
    counted_given last (Some b) (Some ts) (Some us) (Some g) o takes does = λ _.
        let is = reading_is ts us last takes in
        let opened : IsDeskOpened known faults (opens_at (reading_now ts)) k d done = subst (λ (n : ℕ). IsDeskOpened known faults (opens_at n) k d done) is.0 o in
        let ends : FinishesCounted (committed_script x.counting b (at d.engine.core (reading_now ts) (readings_later ts) g)) Quits d.engine.core.version v opened_outside m.outside =
        subst (λ (p : ℕ × List ℕ). FinishesCounted (committed_script x.counting b (at d.engine.core p.0 p.1 g)) Quits d.engine.core.version v opened_outside m.outside) (λ i. (is.0 i, is.1 i)) does in
        if_some e.keeper.tables _ (λ (s : Stored) (was : e.keeper.tables ≡ Some s). if_some m.outside.keeper.tables _ (λ (w : Stored) (now : m.outside.keeper.tables ≡ Some w).
        let known_now = kept_known opened_outside.keeper m.outside.keeper (deltas ends.finishes.outputs) ends.finishes.did.kept in
        let middle = if_some_at m.outside.keeper.tables (λ (q : Stored). (u : Stored) × ((known d.keeper).tables ≡ Some u)) w known_now now in
        counted_in b ts g s middle.0 opened was middle.1 ends))

    -- the version at the end of a session whose desk was opened
    pub counted_to : {T : Type 0} (run : Result T Stop) (last : ℕ) (b r r' : Option (List ℕ)) (c : Option Contents) → IsDeskOpened known faults (opens_at last) k d done → TakesReading r last r' →
        IfOk run (λ _. CountsCommitted x.counting b (record { scene = scene_of d.engine.core last r' c; outside = opened_outside }) m v) →
        IsCountedOn x (record { bytes = b; readings = r; contents = c }) (end_of run) v e m.outside
    counted_to (Ok y) last b r r' c o takes does = counted_given last b r r' c o takes does
    counted_to (Err z) last b r r' c o takes does = λ is. absurd (not_quit z is)

  -- ---- a desk that was not opened

  module _ (last : ℕ) (k k' : K) (e : Outside) (asked : e.keeper ≡ known k) where
    -- outside after the attempt
    abbrev after : Outside
    after = record e { keeper = known k' }

    left_did : IsLeft known faults k k' → Did [] e after
    left_did left = did_still e (known k') (subst (λ (q : Known). Stays q (known k')) (sym asked) left.tables) (λ y there. subst (λ (q : Known). q.after_stop y) (sym asked) (left.stop y there))

    -- the same tables
    same_tables : IsLeft known faults k k' → (s v : Stored) → e.keeper.tables ≡ Some s → (known k').tables ≡ Some v → v ≡ s
    same_tables left s v was now = some_is v s (sym (if_some_at (known k').tables (λ (q : Stored). (known k).tables ≡ Some q) v left.tables now) ∙ ap (λ (q : Known). q.tables) (sym asked) ∙ was)

    module _ (bytes ts : List ℕ) (g : Contents) (reading : last ≡ reading_now ts) (s v : Stored) (was : e.keeper.tables ≡ Some s) (now : (known k').tables ≡ Some v) where
      -- nothing was done, and the end says nothing
      left_over : (o : Option Tables) (finish : SessionEnd) → end_reached finish ≡ None → IsLeft known faults k k' → IsSessionOver x (with_exits bytes ts g) o finish e after
      left_over None finish none left = (did_stops [] [] e after (left_did left), none)
      left_over (Some tables) finish none left = (still_halts _ e after (left_did left), subst (λ (q : Option End). IfSome q (λ r. Finishes (over x bytes ts g tables) r e after)) (sym none) tt)

      -- the end was reached at once
      at_once : (tables : Tables) (finish : End) (it : SessionEnd) → end_reached it ≡ Some finish → over x bytes ts g tables [] ≡ ended finish → IsLeft known faults k k' → IsSessionOver x (with_exits bytes ts g) (Some tables) it e after
      at_once tables finish it reached is left =
          let done = none_finishes (over x bytes ts g tables) finish e after is (left_did left) in
          (finishes_halts _ finish e after done, subst (λ (q : Option End). IfSome q (λ r. Finishes (over x bytes ts g tables) r e after)) (sym reached) done)

      unopenable : (r : _) → IsUnopenable (opens_at last) (known k') r → IsLeft known faults k k' → IsSessionOver x (with_exits bytes ts g) (loaded_of s) end.LimitReached e after
      unopenable r un left =
          let read : IsReadFrom un.durable s = subst (IsReadFrom un.durable) (same_tables left s v was now) (if_some_at (known k').tables (IsReadFrom un.durable) v un.read now) in
          let none : opens_at (reading_now ts) (durable_in read.contents) ≡ None = ap (λ (n : ℕ). opens_at n (durable_in read.contents)) (sym reading) ∙ ap (opens_at last) (sym read.durable) ∙ un.none in
          subst (λ (y : Stored). IsSessionOver x (with_exits bytes ts g) (loaded_of y) end.LimitReached e after) (sym read.is)
          (at_once (loaded read.contents) Limit end.LimitReached refl (over_is x bytes ts g read.contents read.well_formed None none []) left)

      bad_row : (table : Table) (n : ℕ) → IfSome (known k').tables (IsBadRow table n) → IsLeft known faults k k' → IsSessionOver x (with_exits bytes ts g) (loaded_of s) (end.BadRow table n) e after
      bad_row table n bad left =
          let it : IsBadRow table n s = subst (IsBadRow table n) (same_tables left s v was now) (if_some_at (known k').tables (IsBadRow table n) v bad now) in
          subst (λ (q : Option Tables). IsSessionOver x (with_exits bytes ts g) q (end.BadRow table n) e after) (sym it.loaded)
          (at_once it.rows (Bad table n) (end.BadRow table n) refl (bad_is x bytes ts g it.rows table n it.first []) left)

      -- the keeper failed, at tables that have no opening
      failed_still : (o : Option Tables) → opened_tables (opens_at (reading_now ts)) s ≡ s → Stays e.keeper (known k') ⊎ BecomesBy (opened_tables (opens_at (reading_now ts))) e.keeper (known k') →
          LeavesEither (opened_tables (opens_at (reading_now ts))) e.keeper (known k') → IsSessionOver x (with_exits bytes ts g) o end.KeeperFault e after
      unfolding still_failed
      failed_still o same either leaves =
          let still : (y : Stored) → e.keeper.tables ≡ Some y → opened_tables (opens_at (reading_now ts)) y ≡ y =
          (λ y there. let is : y ≡ s = some_is y s (sym there ∙ was) in ap (opened_tables (opens_at (reading_now ts))) is ∙ same ∙ sym is) in
          over_still o still either leaves
        where
          over_still : (o : Option Tables) → ((y : Stored) → e.keeper.tables ≡ Some y → opened_tables (opens_at (reading_now ts)) y ≡ y) →
              Stays e.keeper (known k') ⊎ BecomesBy (opened_tables (opens_at (reading_now ts))) e.keeper (known k') →
              LeavesEither (opened_tables (opens_at (reading_now ts))) e.keeper (known k') → IsSessionOver x (with_exits bytes ts g) o end.KeeperFault e after
          over_still None still either leaves = (still_failed (opened_tables (opens_at (reading_now ts))) [] e (known k') still either leaves, refl)
          over_still (Some tables) still either leaves = (
            record {
              outputs = (over x bytes ts g tables []).outputs;
              stopped = still_failed (opened_tables (opens_at (reading_now ts))) (over x bytes ts g tables []).outputs e (known k') still either leaves;
              goes = refl;
            },
            tt,
          )

      -- the keeper failed, at tables of the second schema
      failed_at : (t : Stock) (o : Option (Table × ℕ)) → s ≡ Current t → first_bad (loaded t) ≡ o → Stays e.keeper (known k') ⊎ BecomesBy (opened_tables (opens_at (reading_now ts))) e.keeper (known k') →
          LeavesEither (opened_tables (opens_at (reading_now ts))) e.keeper (known k') → IsSessionOver x (with_exits bytes ts g) (Some (loaded t)) end.KeeperFault e after
      failed_at t (Some bad) is rows either leaves =
          failed_still (Some (loaded t)) (ap (opened_tables (opens_at (reading_now ts))) is ∙ ap (opened_by (opens_at (reading_now ts)) t) rows ∙ sym is) either leaves
      failed_at t None is rows either leaves = (opening_fails x bytes ts g t rows (opens_at (reading_now ts) (durable_in t)) e (known k') refl (was ∙ ap Some is) either leaves, tt)

      failed_over : (y : Stored) → s ≡ y → Stays e.keeper (known k') ⊎ BecomesBy (opened_tables (opens_at (reading_now ts))) e.keeper (known k') →
          LeavesEither (opened_tables (opens_at (reading_now ts))) e.keeper (known k') → IsSessionOver x (with_exits bytes ts g) (loaded_of y) end.KeeperFault e after
      failed_over (Current t) is either leaves = failed_at t (first_bad (loaded t)) is refl either leaves
      failed_over (Old t) is either leaves = failed_still (loaded_of (Old t)) (ap (opened_tables (opens_at (reading_now ts))) is ∙ sym is) either leaves

      by_fault : (f : DeskFault) → IsNotOpened known faults (opens_at last) k k' f → IsSessionOver x (with_exits bytes ts g) (loaded_of s) (end_of_fault f) e after
      by_fault (fault.Refused r) (un, left) = unopenable r un left
      by_fault fault.Keeper kept =
          let it : IsKeptFrom known faults (opens_at (reading_now ts)) k k' = subst (λ (n : ℕ). IsKeptFrom known faults (opens_at n) k k') reading kept in
          failed_over s refl
          (subst (λ (q : Known). Stays q (known k') ⊎ BecomesBy (opened_tables (opens_at (reading_now ts))) q (known k')) (sym asked) it.tables)
          (subst (λ (q : Known). LeavesEither (opened_tables (opens_at (reading_now ts))) q (known k')) (sym asked) it.stop)
      by_fault (fault.BadRow table n) (bad, left) = bad_row table n bad left
      by_fault (fault.Closed by) none = absurd none
      by_fault fault.NoMemory left = left_over (loaded_of s) end.NoMemory refl left

    -- a session whose desk was not opened
    pub not_opened : (f : DeskFault) (b r r' : Option (List ℕ)) (c : Option Contents) → IsNotOpened known faults (opens_at last) k k' f → TakesReading r last r' →
        IsSessionOn x (record { bytes = b; readings = r; contents = c }) (end_of_fault f) e after
    not_opened f None r r' c not takes = tt
    not_opened f (Some b) None r' c not takes = tt
    not_opened f (Some b) (Some ts) None c not takes = absurd takes
    not_opened f (Some b) (Some ts) (Some us) None not takes = tt
    not_opened f (Some b) (Some ts) (Some us) (Some g) not takes =
        if_some e.keeper.tables _ (λ (s : Stored) (was : e.keeper.tables ≡ Some s). if_some (known k').tables _ (λ (v : Stored) (now : (known k').tables ≡ Some v).
        by_fault b ts g (reading_is ts us last takes).0 s v was now f not))
