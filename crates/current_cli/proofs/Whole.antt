-- Commands that can be done are, if no call fails.
use Rattle.std.proofs.Common.{◌≡◌, ◌≢◌, ℕ, zero, suc, ◌-◌, ◌≤◌, List, [], ◌∷◌, refl, sym, ap, subst, ◌∙◌, arith, inl, inr}
use Rattle.std.specs.Prelude.{◌⊎◌, Bool, true, false, IsTrue, is_some, nat_lt, if◌then◌else◌, Option, Some, None}
use Rattle.io_ends.specs.Known.{Contents}
use Rattle.io_ends.specs.Lines.{TextLine, lines_of}
use Rattle.op_keys.specs.declared.level.Level.{Level}
use Rattle.op_keys.specs.declared.order.Exit.{Exit}
use Rattle.core_rules.specs.Core.{CoreState}
use Rattle.core_rules.specs.Openings.{start}
use Rattle.term_core.specs.declared.program.Program.{Program}
use Rattle.keeper_core.specs.declared.stored.Stored.{Stored}
use Rattle.keeper_core.specs.declared.stored.Stored.TheVariants.{Current, Old}
use Rattle.keeper_core.specs.declared.tables.Table.{Table}
use Rattle.keeper_core.specs.declared.tables.Tables.{Tables}
use Rattle.keeper_core.specs.Durables.{durable_of}
use Rattle.keeper_core.specs.EitherSchema.{first_unmovable, loaded_of, log_of}
use Rattle.keeper_core.specs.KeeperCalls.{begun}
use Rattle.keeper_core.specs.WellFormed.{first_bad}
use Rattle.session_rules.specs.Commands.{Plan, Sound, by_row, check_plan, end_status, jobs_plan, log_plan, log_text, migrate_plan, moved_plan, on_store, session_plan, stats_plan, telling, with_tables}
use Rattle.session_rules.specs.Outputs.{exits}
use Rattle.session_rules.specs.Runs.{FollowsOn, Given, IsCheck, IsReport, IsRun, IsRunOn, IsStatusOf, Seen}
use Rattle.session_rules.specs.Scenes.{Ends, Scene, contents_after, reading_now}
use Rattle.session_rules.specs.Steps.{Counting}
use Rattle.session_rules.specs.StoreTexts.{results_text, stats_text}
use Rattle.session_rules.specs.Transcripts.{End, Quits, Limit, Transcript, before_lines, continued, first_scene, goes_on, is_quit, line_count, line_part, lines_from, next_line, session_of, session_on, transcript}
use Rattle.session_core.specs.Numbers.{counting as counting_of}
use Rattle.store_reports.specs.Causes.{Counts, IsCaused}
use Rattle.store_reports.specs.Migrating.{IsMigration}
use Rattle.made_session.specs.Promises.{IsMade}
use Rattle.command_words.specs.declared.command.Command.{Command}
use Rattle.command_words.specs.declared.command.Command.TheVariants.{Run, Check, Jobs, Stats, Log, Make, Migrate}
use Rattle.current_cli.specs.Calls.{CanBeDone, HoldsSound, HoldsStore, IsCall, IsWellFormed, IsWhole, NoneRose, OpensStore, report}
use Rattle.current_cli.specs.Files.{IsFile}

no : false ≡ true → ⊥
no e = cc

-- ---- statuses

four_to_seven : (status : ℕ) → 4 ≤ status → status ≤ 7 → (status ≡ 4) ⊎ ((status ≡ 5) ⊎ ((status ≡ 6) ⊎ (status ≡ 7)))
four_to_seven zero low high = absurd (omega (arith, low))
four_to_seven (suc zero) low high = absurd (omega (arith, low))
four_to_seven (suc (suc zero)) low high = absurd (omega (arith, low))
four_to_seven (suc (suc (suc zero))) low high = absurd (omega (arith, low))
four_to_seven (suc (suc (suc (suc zero)))) low high = inl refl
four_to_seven (suc (suc (suc (suc (suc zero))))) low high = inr (inl refl)
four_to_seven (suc (suc (suc (suc (suc (suc zero)))))) low high = inr (inr (inl refl))
four_to_seven (suc (suc (suc (suc (suc (suc (suc zero))))))) low high = inr (inr (inr refl))
four_to_seven (suc (suc (suc (suc (suc (suc (suc (suc n)))))))) low high = absurd (omega (arith, high))

-- a fault's status, if no call failed, is that of memory that ran out
no_fault : (status : ℕ) (old new : Counts) → IsCaused status old new → NoneRose old new → (status ≡ 4) ⊎ ((status ≡ 5) ⊎ ((status ≡ 6) ⊎ (status ≡ 7))) → status ≡ 7
no_fault status old new cause none (inl four) = absurd (elim (cause.read four) [ inl rose ↦ none.source rose | inr rose ↦ none.files rose ])
no_fault status old new cause none (inr (inl five)) = absurd (none.sink (cause.write five))
no_fault status old new cause none (inr (inr (inl six))) = absurd (none.keepers (cause.keep six))
no_fault status old new cause none (inr (inr (inr seven))) = seven

-- a status is the plan's, or memory ran out
own_status : (plan : Plan) (status : ℕ) (old new : Counts) → IsCaused status old new → NoneRose old new → IsStatusOf plan status → (status ≡ plan.status) ⊎ (status ≡ 7)
own_status plan status old new cause none (inl own) = inl own
own_status plan status old new cause none (inr between) = inr (no_fault status old new cause none (four_to_seven status between.0 between.1))

done_or_not : (plan : Plan) (status : ℕ) → plan.status ≡ 0 → (status ≡ plan.status) ⊎ (status ≡ 7) → (status ≡ 0) ⊎ (status ≡ 7)
done_or_not plan status none_is (inl own) = inl (own ∙ none_is)
done_or_not plan status none_is (inr seven) = inr seven

-- ---- sessions over well-formed tables

-- an end that is no bad row
abbrev pub IsGood : End → Type 0
IsGood end = (end ≡ Quits) ⊎ (end ≡ Limit)

if_good : (b : Bool) (t u : Transcript) → IsGood t.end → IsGood u.end → IsGood (if b then t else u).end
if_good true t u x y = x
if_good false t u x y = y

on_good : (o : Option Scene) (next : Scene → Transcript) → ((s : Scene) → IsGood (next s).end) → IsGood (goes_on o next).end
on_good None next good = inr refl
on_good (Some s) next good = good s

next_good : (n : ℕ) (next : ℕ → Scene → Transcript) → ((k : ℕ) (s : Scene) → IsGood (next k s).end) → (s : Scene) → IsGood (next_line n next s).end
next_good n next good s = if_good (nat_lt 1 n) (next (n - 1) s) (record { outputs = []; end = Limit }) (good (n - 1) s) (inr refl)

lines_good : (counting : Counting) (lines : List TextLine) (n : ℕ) (s : Scene) → IsGood (lines_from counting lines n s).end
lines_good counting [] n s = inl refl
lines_good counting (line ∷ lines) n s =
    if_good (is_quit line) (record { outputs = []; end = Quits }) (continued (line_part counting line s) (next_line n (lines_from counting lines))) (inl refl)
    (on_good (line_part counting line s).scene (next_line n (lines_from counting lines)) (next_good n (lines_from counting lines) (lines_good counting lines)))

session_good : (counting : Counting) (ends : Ends) (o : Option CoreState) → IsGood (session_of counting ends o).end
session_good counting ends None = inr refl
session_good counting ends (Some core) =
    on_good (before_lines counting (first_scene ends core)).scene (lines_from counting (lines_of ends.bytes) line_count) (lines_good counting (lines_of ends.bytes) line_count)

transcript_good : (p : Program) (t : Tables) (threshold : Option Level) (counting : Counting) (ends : Ends) → first_bad t ≡ None → IsGood (transcript p t threshold counting ends).end
transcript_good p t threshold counting ends good =
    subst (λ (o : Option (Table × ℕ)). IsGood (session_on p t threshold counting ends o).end) (sym good)
    (session_good counting ends (start p (durable_of t) threshold (reading_now ends.readings)))

good_status : (end : End) → IsGood end → (end_status end ≡ 0) ⊎ (end_status end ≡ 8)
good_status end (inl is) = inl (ap end_status is)
good_status end (inr is) = inr (ap end_status is)

-- ---- `run`

-- the status of a session over loaded tables
session_status : (plan : Tables → Plan) (o : Option Tables) (t : Tables) → o ≡ Some t → (with_tables o plan).status ≡ (plan t).status
session_status plan o t is = ap (λ (x : Option Tables). (with_tables x plan).status) is

either : (n status : ℕ) → (n ≡ 0) ⊎ (n ≡ 8) → (status ≡ n) ⊎ (status ≡ 7) → (status ≡ 0) ⊎ ((status ≡ 8) ⊎ (status ≡ 7))
either n status (inl none_is) (inl own) = inl (own ∙ none_is)
either n status (inr eight) (inl own) = inr (inl (own ∙ eight))
either n status is (inr seven) = inr (inr seven)

-- a session followed over well-formed tables
run_whole : (p : Program) (threshold : Option Level) (counting : Counting) (ends : List Exit → Ends) (store : Stored) (status : ℕ) (e e' : Seen) (old new : Counts) → IsCaused status old new → NoneRose old new
    → FollowsOn (λ xs. with_tables (loaded_of store) (λ t. session_plan (transcript p t threshold counting (ends xs)))) store status e e' → IsWellFormed store
    → (status ≡ 0) ⊎ ((status ≡ 8) ⊎ (status ≡ 7))
run_whole p threshold counting ends store status e e' old new cause none f well =
    let xs = exits f.follows.done in
    let t = well.0 in
    let plan : Plan = with_tables (loaded_of store) (λ t. session_plan (transcript p t threshold counting (ends xs))) in
    let end = (transcript p t threshold counting (ends xs)).end in
    let same : plan.status ≡ end_status end = session_status (λ t. session_plan (transcript p t threshold counting (ends xs))) (loaded_of store) t well.1 in
    either plan.status status
    (elim (good_status end (transcript_good p t threshold counting (ends xs) well.2)) [ inl none_is ↦ inl (same ∙ none_is) | inr eight ↦ inr (same ∙ eight) ])
    (own_status plan status old new cause none f.follows.status_of)

-- what is given is known
run_known : (p : Program) (path : Option (List ℕ)) (threshold : Option Level) (counting : Counting) (bytes readings : Option (List ℕ)) (contents : Contents) (held : List ℕ → Stored) (ho : Option (List ℕ → Stored))
    (status : ℕ) (e e' : Seen) (old new : Counts) → IsCaused status old new → NoneRose old new → IsTrue e'.knows_left → ho ≡ Some held
    → IsRunOn (Sound p) path threshold counting (record { bytes = bytes; readings = readings; contents = Some contents; held = ho }) status e e'
    → IsWellFormed (begun held path) → bytes ≢ None → readings ≢ None → (status ≡ 0) ⊎ ((status ≡ 8) ⊎ (status ≡ 7))
run_known p path threshold counting None readings contents held ho status e e' old new cause none knows is run well b r = absurd (b refl)
run_known p path threshold counting (Some bytes) None contents held ho status e e' old new cause none knows is run well b r = absurd (r refl)
run_known p path threshold counting (Some bytes) (Some readings) contents held ho status e e' old new cause none knows is run well b r =
    run_whole p threshold counting (λ xs. record { bytes = bytes; readings = readings; contents = contents; exits = xs }) (begun held path) status e e' old new cause none ((rw is at run) (λ opens. knows)) well

run_done : (file_path : List ℕ) (path : Option (List ℕ)) (threshold : Option Level) (counting : Counting) (given : Given) (status : ℕ) (e e' : Seen) (old new : Counts)
    → IsRun IsFile file_path path threshold counting given status e e' → IsCaused status old new → NoneRose old new → IsTrue e'.knows_left
    → HoldsSound file_path given → HoldsStore IsWellFormed path given → given.bytes ≢ None → given.readings ≢ None → (status ≡ 0) ⊎ ((status ≡ 8) ⊎ (status ≡ 7))
run_done file_path path threshold counting given status e e' old new run cause none knows sound store b r =
    run_known sound.2.0 path threshold counting given.bytes given.readings (contents_after file_path sound.0) store.0 given.held status e e' old new cause none knows store.1
    ((rw sound.1 at run) (Sound sound.2.0) sound.2.1) store.2 b r

-- ---- `check`

check_done : (path : List ℕ) (given : Given) (status : ℕ) (e e' : Seen) (old new : Counts) → IsCheck IsFile (λ f. check_plan f report) path given status e e' → IsCaused status old new → NoneRose old new
    → HoldsSound path given → (status ≡ 0) ⊎ (status ≡ 7)
check_done path given status e e' old new check cause none sound =
    let f = (rw sound.1 at check) (Sound sound.2.0) sound.2.1 in
    own_status (check_plan (Sound sound.2.0) report) status old new cause none f.status_of

-- ---- commands on a store

store_status : (plan : Tables → Plan) (s : Stored) → ((t : Tables) → (plan t).status ≡ 0) → IsWellFormed s → (on_store s plan).status ≡ 0
store_status plan s none_is well =
    session_status (λ t. by_row (first_bad t) (plan t)) (loaded_of s) well.0 well.1 ∙ ap (λ (o : Option (Table × ℕ)). (by_row o (plan well.0)).status) well.2 ∙ none_is well.0

report_done : (plan : Stored → Plan) (path : List ℕ) (given : Given) (status : ℕ) (e e' : Seen) (old new : Counts) → IsReport plan path given status e e' → IsCaused status old new → NoneRose old new
    → IsTrue e'.knows_left → (held : List ℕ → Stored) → given.held ≡ Some held → (plan (held path)).status ≡ 0 → (status ≡ 0) ⊎ (status ≡ 7)
report_done plan path given status e e' old new run cause none knows held is none_is =
    let f = rw is at run knows in
    done_or_not (plan (held path)) status none_is (own_status (plan (held path)) status old new cause none f.follows.status_of)

log_zero : (o : Option (List ℕ)) → IsTrue (is_some o) → (log_text o).status ≡ 0
log_zero None some = absurd (no some)
log_zero (Some bytes) some = refl

moved_zero : (s : Stored) → (moved_plan s).status ≡ 0
moved_zero (Current t) = refl
moved_zero (Old t) = refl

migrate_zero : (s : Stored) → first_unmovable s ≡ None → (migrate_plan s).status ≡ 0
migrate_zero s none = ap (λ (o : Option (Table × ℕ)). (by_row o (moved_plan s)).status) none ∙ moved_zero s

migrate_done : (path : List ℕ) (given : Given) (status : ℕ) (e e' : Seen) (old new : Counts) → IsMigration path given status e e' → IsCaused status old new → NoneRose old new → IsTrue e'.knows_left
    → (held : List ℕ → Stored) → given.held ≡ Some held → first_unmovable (held path) ≡ None → (status ≡ 0) ⊎ (status ≡ 7)
migrate_done path given status e e' old new run cause none knows held is movable =
    let f = (rw is at run knows).0 in
    done_or_not (migrate_plan (held path)) status (migrate_zero (held path) movable) (own_status (migrate_plan (held path)) status old new cause none f.status_of)

-- ---- `make`

make_done : (n status : ℕ) (e e' : Seen) (old new : Counts) → IsMade n status e e' → IsCaused status old new → NoneRose old new → (status ≡ 0) ⊎ (status ≡ 7)
make_done n status e e' old new (inl (text, summary, f)) cause none = own_status (telling text 0) status old new cause none f.status_of
make_done n status e e' old new (inr (seven, same, ran)) cause none = inr seven

-- ---- all of them

pub completes : (command : Option Command) (given : Given) (status : ℕ) (e e' : Seen) (old new : Counts) → IsCall command given status e e' → IsCaused status old new → CanBeDone command given → NoneRose old new
    → (OpensStore command → IsTrue e'.knows_left) → IsWhole command status
completes None given status e e' old new call cause can none knows = absurd can
completes (Some (Run file store threshold count)) given status e e' old new call cause can none knows =
    run_done file store threshold (counting_of count) given status e e' old new call cause none (knows tt) can.0 can.1 can.2 can.3
completes (Some (Check file)) given status e e' old new call cause can none knows = check_done file given status e e' old new call cause none can
completes (Some (Jobs store)) given status e e' old new call cause can none knows =
    report_done jobs_plan store given status e e' old new call cause none (knows tt) can.0 can.1 (store_status (λ t. telling (results_text t) 0) (can.0 store) (λ t. refl) can.2)
completes (Some (Stats store)) given status e e' old new call cause can none knows =
    report_done stats_plan store given status e e' old new call cause none (knows tt) can.0 can.1 (store_status (λ t. telling (stats_text t) 0) (can.0 store) (λ t. refl) can.2)
completes (Some (Log job store)) given status e e' old new call cause can none knows =
    report_done (λ s. log_plan s job) store given status e e' old new call cause none (knows tt) can.0 can.1
    (store_status (λ t. log_text (log_of (can.0 store) job)) (can.0 store) (λ t. log_zero (log_of (can.0 store) job) can.2.1) can.2.0)
completes (Some (Make n)) given status e e' old new call cause can none knows = make_done n status e e' old new call cause none
completes (Some (Migrate store)) given status e e' old new call cause can none knows = migrate_done store given status e e' old new call cause none (knows tt) can.0 can.1 can.2
