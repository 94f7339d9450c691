-- A session and the line of its end.
use Rattle.std.proofs.Common.{◌≡◌, ℕ, ◌≤◌, List, [], ◌∷◌, ◌++◌, take, drop, refl, sym, ap, subst, ◌∙◌, arith, inl, inr}
use Rattle.std.specs.Prelude.{IsTrue, Option, Some, None}
use Rattle.std.specs.Io.KnownBytes.{Appends}
use Rattle.std.proofs.lemmas.List.{append-nil, take-append-drop}
use Rattle.io_ends.specs.Causes.{SinkSide}
use Rattle.keeper_core.specs.declared.stored.Stored.{Stored}
use Rattle.keeper_core.specs.declared.tables.Tables.{Tables}
use Rattle.report_text.specs.FaultLines.{limit_line}
use Rattle.session_rules.specs.Commands.{end_outputs, end_status}
use Rattle.session_rules.specs.Outputs.{Print}
use Rattle.session_rules.specs.Outside.{LeavesTables, Outside, Stopped}
use Rattle.session_rules.specs.Runs.{FollowsOn, Seen}
use Rattle.session_rules.specs.Sessions.{Finishes, IsSession, Script, end_reached}
use Rattle.session_rules.specs.StoreTexts.{bad_row_line}
use Rattle.session_rules.specs.Transcripts.{End, Quits, Limit, Bad}
use Rattle.session_rules.specs.declared.ends.SessionEnd.{SessionEnd}
use Rattle.session_rules.specs.declared.ends.SessionEnd.TheVariants as stop
use Rattle.session_rules.proofs.Growing.{appends_none, appends_same}
use Rattle.store_reports.specs.Causes.{Tells}
use Rattle.current_cli.specs.inside.Parts.{TellsEnd}
use Rattle.current_cli.proofs.Ran.{ended_front, ended_whole, halted, lost_stopped, plan_by}

-- a session by scripts over what is loaded
abbrev pub IsOver : (Tables → Script) → Option Tables → SessionEnd → Outside → Outside → Type 0
IsOver t (Some tables) end e e' = IsSession (t tables) end e e'
IsOver t None end e e' = Stopped [] e e' × (end_reached end ≡ None)

module _
    (store s1 : Stored) (e e1 : Outside) (S S' : Seen)
    (begun_is : e.keeper.tables ≡ Some store) (sure : LeavesTables e.keeper) (known_is : e1.keeper.tables ≡ Some s1)
    (left_as : IsTrue S'.knows_left → (x : Stored) → S'.left x → e1.keeper.after_stop x)
    (written : e.written ≡ S.written) (ran : e.ran ≡ S.ran) (ran' : S'.ran ≡ e1.ran)
    (a b : SinkSide) (before : a.written ≡ e1.written) (after : b.written ≡ S'.written)
    (t : Tables → Script) where
  same_written : b ≡ a → S'.written ≡ e1.written
  same_written same = sym after ∙ ap (λ (x : SinkSide). x.written) same ∙ before

  moved : (more : List ℕ) → Appends a.written b.written more → Appends e1.written S'.written more
  moved more x = subst (λ (w : Option (List ℕ)). Appends e1.written w more) after (subst (λ (w : Option (List ℕ)). Appends w b.written more) before x)

  -- ---- faults

  faulty : (o : Option Tables) (end : SessionEnd) (status : ℕ) → IsOver t o end e e1 → b ≡ a → 4 ≤ status → status ≤ 7 → FollowsOn (plan_by t o) store status S S'
  faulty None end status over same low high = lost_stopped store s1 e e1 S S' begun_is sure known_is left_as written ran ran' t status over.0 (same_written same) low high
  faulty (Some tables) end status over same low high = halted store s1 e e1 S S' begun_is sure known_is left_as written ran ran' t tables status over.0 (same_written same) low high

  -- ---- ends

  quits : (tables : Tables) (status : ℕ) → Finishes (t tables) Quits e e1 → status ≡ 0 → b ≡ a → FollowsOn (plan_by t (Some tables)) store status S S'
  quits tables status f zero same =
      rw zero (ended_whole store s1 e e1 S S' begun_is sure known_is left_as written ran ran' t tables Quits f (rw (same_written same) (appends_none e1.written)))

  told : (tables : Tables) (end : End) (line : List ℕ) (n status : ℕ) → Finishes (t tables) end e e1 → end_outputs end ≡ Print line ∷ [] → end_status end ≡ n → Tells line n status a b
      → FollowsOn (plan_by t (Some tables)) store status S S'
  told tables end line n status f is own (inl x) =
      subst (λ (k : ℕ). FollowsOn (plan_by t (Some tables)) store k S S') (own ∙ sym x.0)
      (ended_whole store s1 e e1 S S' begun_is sure known_is left_as written ran ran' t tables end f
      (rw is (appends_same e1.written S'.written line (line ++ []) (moved line x.1) (sym (append-nil line)))))
  told tables end line n status f is own (inr x) =
      let k = x.1.0 in
      ended_front store s1 e e1 S S' begun_is sure known_is left_as written ran ran' t tables end f line (take k line) status is (drop k line, sym (take-append-drop k line)) (moved (take k line) x.1.2)
      (omega (arith, x.0)) (omega (arith, x.0))

  untold : (tables : Tables) (end : End) (line : List ℕ) (status : ℕ) → Finishes (t tables) end e e1 → end_outputs end ≡ Print line ∷ [] → status ≡ 7 → b ≡ a → FollowsOn (plan_by t (Some tables)) store status S S'
  untold tables end line status f is seven same =
      ended_front store s1 e e1 S S' begun_is sure known_is left_as written ran ran' t tables end f line [] status is (line, refl) (rw (same_written same) (appends_none e1.written)) (omega (arith, seven)) (omega (arith, seven))

  -- ---- all of them

  pub session_follows : (o : Option Tables) (end : SessionEnd) (status : ℕ) → IsOver t o end e e1 → TellsEnd end status a b → FollowsOn (plan_by t o) store status S S'
  session_follows None stop.Quit status over x = absurd cc
  session_follows (Some tables) stop.Quit status over x = quits tables status over.1 x.0 x.1
  session_follows o stop.ReadFault status over x = faulty o stop.ReadFault status over x.1 (omega (arith, x.0)) (omega (arith, x.0))
  session_follows o stop.WriteFault status over x = faulty o stop.WriteFault status over x.1 (omega (arith, x.0)) (omega (arith, x.0))
  session_follows o stop.KeeperFault status over x = faulty o stop.KeeperFault status over x.1 (omega (arith, x.0)) (omega (arith, x.0))
  session_follows o stop.NoMemory status over x = faulty o stop.NoMemory status over x.1 (omega (arith, x.0)) (omega (arith, x.0))
  session_follows None stop.LimitReached status over x = absurd cc
  session_follows (Some tables) stop.LimitReached status over x = told tables Limit limit_line 8 status over.1 refl refl x
  session_follows None (stop.BadRow table n) status over x = absurd cc
  session_follows (Some tables) (stop.BadRow table n) status over (inl x) = told tables (Bad table n) (bad_row_line (table, n)) 9 status over.1 refl refl x
  session_follows (Some tables) (stop.BadRow table n) status over (inr x) = untold tables (Bad table n) (bad_row_line (table, n)) status over.1 refl x.0 x.1
