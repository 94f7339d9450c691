-- How a step of the desk and its lines do an event.
use Rattle.std.proofs.Common.{◌≡◌, ℕ, List, [], ◌∷◌, refl, ap, ◌∙◌}
use Rattle.std.specs.Prelude.{◌⊎◌}
use Rattle.std.specs.declared.option.Option.{Option}
use Rattle.std.specs.declared.option.Option.TheVariants.{None, Some}
use Rattle.std.specs.Io.KnownBytes.{Appends}
use Rattle.io_ends.specs.Causes.{AppendsFront}
use Rattle.op_keys.specs.declared.order.Exit.{Exit}
use Rattle.core_rules.specs.declared.done.Done.{Done}
use Rattle.core_rules.specs.declared.events.Refusal.{Refusal}
use Rattle.core_rules.specs.declared.events.What.{What}
use Rattle.core_rules.specs.Core.{CoreState}
use Rattle.core_rules.specs.Steps.{Answer, Refused, Idle, Accepted}
use Rattle.keeper_core.specs.EitherSchema.{committed}
use Rattle.keeper_core.specs.KeeperCalls.{BecomesBy, IsSure, Known, LeavesEither, LeavesSame, Stays}
use Rattle.report_text.specs.Lines.{refusal_words, refused_line, reply_text}
use Rattle.session_rules.specs.Outputs.{Output, Commit, Print, exits}
use Rattle.session_rules.specs.Outside.{Outside, Stopped}
use Rattle.session_rules.specs.Parts.{Turn, Does, StopsIn, UsesUp}
use Rattle.session_rules.specs.Scenes.{Scene, expecting}
use Rattle.session_rules.specs.Steps.{Counting, answer_to, answered, counted, event, event_at, refused, step_outputs}
use Rattle.session_rules.proofs.Composing.{does_known}
use Rattle.session_rules.proofs.Doing.{commit_failed, committed_so, did_more, did_none, did_stops, nothing_done, print_failed, printed, then_stopped}
use Rattle.session_core.proofs.Still.{did_empty, front_none, still_stopped}

module _ (counting : Counting) (w : What) (s : Scene) (e : Outside) where
  -- how many terms it evaluates, if they are counted
  abbrev pub number : Option ℕ
  number = counted counting s.core (event_at w s)

  -- what an answer comes to, whatever exits follow
  goes_by : (a : Answer) → answer_to w s ≡ a → (xs : List Exit) → event counting w (expecting xs s) ≡ answered number (expecting xs s) a
  goes_by a is xs = ap (answered number (expecting xs s)) is

  -- the lines of an accepted one
  abbrev pub lines_of_step : CoreState → Done → List ℕ
  lines_of_step c r = reply_text c.program r number

  -- it was accepted
  pub accepted : (c : CoreState) (r : Done) (k : Known) (wr : Option (List ℕ)) → answer_to w s ≡ Accepted c r → BecomesBy (committed r.delta) e.keeper k → IsSure k →
      Appends e.written wr (lines_of_step c r) → Does (event counting w) s (record s { core = c }) e (record e { written = wr; keeper = k })
  accepted c r k wr is becomes sure wrote =
      let e1 : Outside = record e { keeper = k } in
      let e2 : Outside = record e { written = wr; keeper = k } in
      does_known (step_outputs number c r) s (record s { core = c }) e e2 (event counting w) refl (λ more. goes_by (Accepted c r) is more)
      (did_more (Commit r.delta ∷ []) (Print (lines_of_step c r) ∷ []) e e1 e2 (committed_so r.delta e k becomes sure) (printed (lines_of_step c r) e1 wr wrote))

  -- it changed nothing
  pub idle : (r : Done) (wr : Option (List ℕ)) → answer_to w s ≡ Idle r → Appends e.written wr [] → Does (event counting w) s s e (record e { written = wr })
  idle r wr is wrote = does_known [] s s e (record e { written = wr }) (event counting w) refl (λ more. goes_by (Idle r) is more) (did_empty e wr wrote)

  -- it was refused
  pub refuses : (r : Refusal) (why : List ℕ) (wr : Option (List ℕ)) → answer_to w s ≡ Refused r → refusal_words r ≡ Some why → Appends e.written wr (refused_line why) →
      Does (event counting w) s s e (record e { written = wr })
  refuses r why wr is words wrote = does_known (Print (refused_line why) ∷ []) s s e (record e { written = wr }) (event counting w) refl
      (λ more. goes_by (Refused r) is more ∙ ap (refused (expecting more s)) words) (printed (refused_line why) e wr wrote)

  -- ---- where it stops

  -- a stop among the outputs that an answer comes to
  stops_by : (a : Answer) (outputs : List Output) (e' : Outside) → answer_to w s ≡ a → ((xs : List Exit) → (answered number (expecting xs s) a).outputs ≡ outputs) →
      Stopped outputs e e' → StopsIn (event counting w) s e e'
  stops_by a outputs e' is known stopped = record {
    outputs = outputs;
    stopped = stopped;
    goes = ap (λ (t : Turn). t.outputs) (goes_by a is (exits stopped.done)) ∙ known (exits stopped.done);
  }

  -- the lines of an accepted one were not written whole
  pub shown_in_part : (c : CoreState) (r : Done) (k : Known) (wr : Option (List ℕ)) → answer_to w s ≡ Accepted c r → BecomesBy (committed r.delta) e.keeper k → IsSure k →
      AppendsFront e.written wr (lines_of_step c r) → StopsIn (event counting w) s e (record e { written = wr; keeper = k })
  shown_in_part c r k wr is becomes sure front =
      let e1 : Outside = record e { keeper = k } in
      let e2 : Outside = record e { written = wr; keeper = k } in
      stops_by (Accepted c r) (step_outputs number c r) e2 is (λ xs. refl)
      (then_stopped (Commit r.delta ∷ []) (Print (lines_of_step c r) ∷ []) e e1 e2 (committed_so r.delta e k becomes sure) (print_failed (lines_of_step c r) [] e1 wr front))

  -- nothing was written of one that changed nothing
  pub idle_in_part : (r : Done) (wr : Option (List ℕ)) → answer_to w s ≡ Idle r → AppendsFront e.written wr [] → StopsIn (event counting w) s e (record e { written = wr })
  idle_in_part r wr is front = stops_by (Idle r) [] (record e { written = wr }) is (λ xs. refl) (did_stops [] [] e (record e { written = wr }) (did_empty e wr (front_none e.written wr front)))

  -- the line of a refusal was not written whole
  pub refused_in_part : (r : Refusal) (why : List ℕ) (wr : Option (List ℕ)) → answer_to w s ≡ Refused r → refusal_words r ≡ Some why → AppendsFront e.written wr (refused_line why) →
      StopsIn (event counting w) s e (record e { written = wr })
  refused_in_part r why wr is words front = stops_by (Refused r) (Print (refused_line why) ∷ []) (record e { written = wr }) is
      (λ xs. ap (λ (o : Option (List ℕ)). (refused (expecting xs s) o).outputs) words) (print_failed (refused_line why) [] e wr front)

  -- the numbers are used up
  pub used : (r : Refusal) → answer_to w s ≡ Refused r → refusal_words r ≡ None → UsesUp (event counting w) s e e
  used r is words = record { outputs = []; goes = goes_by (Refused r) is [] ∙ ap (refused (expecting [] s)) words; did = did_none e }

  pub used_stops : (r : Refusal) → answer_to w s ≡ Refused r → refusal_words r ≡ None → StopsIn (event counting w) s e e
  used_stops r is words = stops_by (Refused r) [] e is (λ xs. ap (λ (o : Option (List ℕ)). (refused (expecting xs s) o).outputs) words) (nothing_done [] e)

  -- its commit failed
  pub not_kept : (c : CoreState) (r : Done) (k : Known) → answer_to w s ≡ Accepted c r → Stays e.keeper k ⊎ BecomesBy (committed r.delta) e.keeper k →
      LeavesEither (committed r.delta) e.keeper k → StopsIn (event counting w) s e (record e { keeper = k })
  not_kept c r k is either leaves = stops_by (Accepted c r) (step_outputs number c r) (record e { keeper = k }) is (λ xs. refl)
      (commit_failed r.delta (Print (lines_of_step c r) ∷ []) e k either leaves)

  -- memory was out
  pub out_of_memory : (k : Known) → Stays e.keeper k → LeavesSame e.keeper k → StopsIn (event counting w) s e (record e { keeper = k })
  unfolding still_stopped did_stops
  out_of_memory k stays same = record {
    outputs = (event counting w (expecting [] s)).outputs;
    stopped = still_stopped (event counting w (expecting [] s)).outputs e k stays same;
    goes = refl;
  }
