-- A session as the plan of `run`, followed so far.
use Rattle.std.proofs.Common.{◌≡◌, ℕ, ◌≤◌, List, [], ◌∷◌, ◌++◌, refl, sym, ap, subst, ◌∙◌, append_assoc, arith, inl, inr}
use Rattle.std.specs.Prelude.{◌⊎◌, true, false, IsTrue, Option, Some, None}
use Rattle.std.specs.Io.KnownBytes.{Appends}
use Rattle.std.proofs.lemmas.List.{append-nil}
use Rattle.op_keys.specs.declared.order.Exit.{Exit}
use Rattle.core_rules.specs.declared.done.Delta.{Delta}
use Rattle.keeper_core.specs.declared.stored.Stored.{Stored}
use Rattle.keeper_core.specs.declared.tables.Tables.{Tables}
use Rattle.session_rules.specs.Commands.{Plan, after_opening, end_outputs, end_status, session_plan, with_tables}
use Rattle.session_rules.specs.Outputs.{Output, Print, deltas, exits, runs, texts}
use Rattle.session_rules.specs.Outside.{Did, LeavesTables, Outside, Stopped, with_deltas}
use Rattle.session_rules.specs.Runs.{FollowsOn, LeavesNoMore, LeavesOf, Seen}
use Rattle.session_rules.specs.Sessions.{Finishes, Halts, Script}
use Rattle.session_rules.specs.Transcripts.{End, Quits, Limit, Bad, Transcript}
use Rattle.session_rules.proofs.Doing.{part_longer, part_none}
use Rattle.io_ends.proofs.Appended.{appends_more}
use Rattle.session_rules.proofs.Growing.{appends_none, appends_same, deltas_append, exits_append, grows_none, runs_append, texts_append}

-- the plan of scripts over a store, by what is loaded of it
abbrev pub plan_by : (Tables → Script) → Option Tables → List Exit → Plan
plan_by t o xs = with_tables o (λ tables. session_plan (t tables xs))

-- what is false isn't true
no : false ≡ true → ⊥
no e = cc

-- the statuses of ends are those of no faults
end_not : (end : End) → 4 ≤ end_status end → end_status end ≤ 7 → ⊥
end_not Quits low high = omega (arith, low)
end_not Limit low high = omega (arith, high)
end_not (Bad table n) low high = omega (arith, high)

-- the line of an end is all that its outputs are
end_deltas : (end : End) → deltas (end_outputs end) ≡ []
end_deltas Quits = refl
end_deltas Limit = refl
end_deltas (Bad table n) = refl

end_runs : (end : End) → runs (end_outputs end) ≡ []
end_runs Quits = refl
end_runs Limit = refl
end_runs (Bad table n) = refl

end_exits : (end : End) → exits (end_outputs end) ≡ []
end_exits Quits = refl
end_exits Limit = refl
end_exits (Bad table n) = refl

nil_second : {A : Type 0} (xs ys : List A) → [] ≡ xs ++ ys → ys ≡ []
nil_second [] ys e = sym e
nil_second (x ∷ xs) ys e = absurd cc

some_is : (x y : Stored) → Some x ≡ Some y → x ≡ y
some_is x y e = cc

-- ---- nothing was done

unbegun_whole : (t : Tables → Script) (o : Option Tables) (status : ℕ) → 4 ≤ status → status ≤ 7 → status ≡ (plan_by t o []).status → (plan_by t o []).outputs ≡ []
unbegun_whole t None status low high own = refl
unbegun_whole t (Some tables) status low high own = absurd (end_not (t tables []).end (subst (λ (k : ℕ). 4 ≤ k) own low) (subst (λ (k : ℕ). k ≤ 7) own high))

unbegun_opened : (t : Tables → Script) (o : Option Tables) (status : ℕ) → 4 ≤ status → status ≤ 7 → status ≡ (plan_by t o []).status → IsTrue (plan_by t o []).opens → ⊥
unbegun_opened t None status low high own opens = no opens
unbegun_opened t (Some tables) status low high own opens = end_not (t tables []).end (subst (λ (k : ℕ). 4 ≤ k) own low) (subst (λ (k : ℕ). k ≤ 7) own high)

-- a fault before the store was opened
pub unbegun : (t : Tables → Script) (o : Option Tables) (store : Stored) (status : ℕ) (S S' : Seen) → 4 ≤ status → status ≤ 7 → S'.written ≡ S.written → S'.ran ≡ S.ran → LeavesNoMore S S'
    → FollowsOn (plan_by t o) store status S S'
unbegun t o store status S S' low high written ran no_more = record {
  follows = record {
    done = [];
    left = (plan_by t o []).outputs;
    text = [];
    more = [];
    split = refl;
    part = part_none (plan_by t o []).outputs;
    wrote = rw written (appends_none S.written);
    ran = rw ran (grows_none S.ran);
    status_of = inr (low, high);
    whole = unbegun_whole t o status low high;
  };
  leaves = inr (refl, no_more);
  opened = λ own opens. absurd (unbegun_opened t o status low high own opens);
}

-- a session from e to e1 over a store, and what is seen of the program before and after it
module _
    (store s1 : Stored) (e e1 : Outside) (S S' : Seen)
    (begun_is : e.keeper.tables ≡ Some store) (sure : LeavesTables e.keeper) (known_is : e1.keeper.tables ≡ Some s1)
    (left_as : IsTrue S'.knows_left → (x : Stored) → S'.left x → e1.keeper.after_stop x)
    (written : e.written ≡ S.written) (ran : e.ran ≡ S.ran) (ran' : S'.ran ≡ e1.ran) where
  was_store : (was : Stored) → e.keeper.tables ≡ Some was → was ≡ store
  was_store was is = some_is was store (sym is ∙ begun_is)

  -- ---- what a stop leaves

  leaves_did : (outputs : List Output) → Did outputs e e1 → LeavesOf store (deltas outputs) [] S'
  leaves_did outputs d knows x l =
      let same : x ≡ s1 = (rw known_is at d.sure sure) x (left_as knows x l) in
      let k = rw known_is at d.kept in
      inl (same ∙ k.2 ∙ ap (with_deltas (deltas outputs)) (was_store k.0 k.1))

  leaves_stopped : (outputs : List Output) (st : Stopped outputs e e1) → LeavesOf store (deltas st.done) st.more S'
  leaves_stopped outputs st knows x l =
      let k = (rw known_is at st.leaves sure) x (left_as knows x l) in
      subst (λ (was : Stored). (x ≡ with_deltas (deltas st.done) was) ⊎ (x ≡ with_deltas (deltas st.done ++ st.more) was)) (was_store k.0 k.1) k.2

  -- ---- a fault

  -- over tables that can't be loaded nothing is done
  pub lost_stopped : (t : Tables → Script) (status : ℕ) → Stopped [] e e1 → S'.written ≡ e1.written → 4 ≤ status → status ≤ 7 → FollowsOn (plan_by t None) store status S S'
  lost_stopped t status st same low high = record {
    follows = record {
      done = st.done;
      left = st.left;
      text = st.text;
      more = st.more;
      split = st.split;
      part = st.part;
      wrote = rw (← written, same) st.wrote;
      ran = rw (← ran, ran') st.ran;
      status_of = inr (low, high);
      whole = λ own. nil_second st.done st.left st.split;
    };
    leaves = inl (leaves_stopped [] st);
    opened = λ own opens. absurd (no opens);
  }

  pub halted : (t : Tables → Script) (tables : Tables) (status : ℕ) → Halts (t tables) e e1 → S'.written ≡ e1.written → 4 ≤ status → status ≤ 7 → FollowsOn (plan_by t (Some tables)) store status S S'
  halted t tables status h same low high =
      let st = h.stopped in
      let end = (t tables (exits st.done)).end in
      let tail = end_outputs end in
      let own_not : status ≡ end_status end → ⊥ = (λ own. end_not end (subst (λ (k : ℕ). 4 ≤ k) own low) (subst (λ (k : ℕ). k ≤ 7) own high)) in
      record {
        follows = record {
          done = st.done;
          left = st.left ++ tail;
          text = st.text;
          more = st.more;
          split = ap (λ (os : List Output). os ++ tail) (h.goes ∙ st.split) ∙ append_assoc st.done st.left tail;
          part = part_longer st.left tail st.text st.more st.part;
          wrote = rw (← written, same) st.wrote;
          ran = rw (← ran, ran') st.ran;
          status_of = inr (low, high);
          whole = λ own. absurd (own_not own);
        };
        leaves = inl (leaves_stopped h.outputs st);
        opened = λ own opens. absurd (own_not own);
      }

  -- ---- an end

  module _ (t : Tables → Script) (tables : Tables) (end : End) (f : Finishes (t tables) end e e1) where
    abbrev P : Plan
    P = record { outputs = f.outputs ++ end_outputs end; status = end_status end; opens = true }

    plan_is : plan_by t (Some tables) (exits f.outputs) ≡ P
    plan_is = ap (λ (tr : Transcript). after_opening (session_plan tr)) f.goes

    same_exits : exits (f.outputs ++ end_outputs end) ≡ exits f.outputs
    same_exits = exits_append f.outputs (end_outputs end) ∙ ap (λ (xs : List Exit). exits f.outputs ++ xs) (end_exits end) ∙ append-nil (exits f.outputs)

    whole_is : plan_by t (Some tables) (exits (f.outputs ++ end_outputs end)) ≡ P
    whole_is = ap (plan_by t (Some tables)) same_exits ∙ plan_is

    leaves_whole : LeavesOf store (deltas (f.outputs ++ end_outputs end)) [] S'
    leaves_whole =
        subst (λ (ds : List Delta). LeavesOf store ds [] S')
        (sym (deltas_append f.outputs (end_outputs end) ∙ ap (λ (ds : List Delta). deltas f.outputs ++ ds) (end_deltas end) ∙ append-nil (deltas f.outputs)))
        (leaves_did f.outputs f.did)

    -- its line was written, if it has one
    pub ended_whole : Appends e1.written S'.written (texts (end_outputs end)) → FollowsOn (plan_by t (Some tables)) store (end_status end) S S'
    ended_whole wrote = record {
      follows = record {
        done = f.outputs ++ end_outputs end;
        left = [];
        text = [];
        more = [];
        split = ap (λ (p : Plan). p.outputs) whole_is ∙ sym (append-nil (f.outputs ++ end_outputs end));
        part = (refl, refl);
        wrote = appends_same S.written S'.written (texts (f.outputs ++ end_outputs end)) (texts (f.outputs ++ end_outputs end) ++ [])
            (appends_more S.written e1.written S'.written (texts f.outputs) (texts (end_outputs end)) (texts (f.outputs ++ end_outputs end)) (rw (← written) f.did.wrote) wrote
            (sym (texts_append f.outputs (end_outputs end))))
            (sym (append-nil (texts (f.outputs ++ end_outputs end))));
        ran = rw (← ran, ran', runs_append f.outputs (end_outputs end), end_runs end, append-nil (runs f.outputs)) f.did.ran;
        status_of = inl (sym (ap (λ (p : Plan). p.status) whole_is));
        whole = λ own. refl;
      };
      leaves = inl leaves_whole;
      opened = λ own opens. leaves_whole;
    }

    -- a front of its line was written
    pub ended_front : (line text : List ℕ) (status : ℕ) → end_outputs end ≡ Print line ∷ [] → ((rest : List ℕ) × (line ≡ text ++ rest)) → Appends e1.written S'.written text
        → 4 ≤ status → status ≤ 7 → FollowsOn (plan_by t (Some tables)) store status S S'
    ended_front line text status is front wrote low high =
        let own_not : status ≡ (plan_by t (Some tables) (exits f.outputs)).status → ⊥ =
        (λ own. let same : status ≡ end_status end = own ∙ ap (λ (p : Plan). p.status) plan_is in
        end_not end (subst (λ (k : ℕ). 4 ≤ k) same low) (subst (λ (k : ℕ). k ≤ 7) same high)) in
        record {
          follows = record {
            done = f.outputs;
            left = Print line ∷ [];
            text = text;
            more = [];
            split = ap (λ (p : Plan). p.outputs) plan_is ∙ ap (λ (os : List Output). f.outputs ++ os) is;
            part = (front, refl);
            wrote = appends_more S.written e1.written S'.written (texts f.outputs) text (texts f.outputs ++ text) (rw (← written) f.did.wrote) wrote refl;
            ran = rw (← ran, ran') f.did.ran;
            status_of = inr (low, high);
            whole = λ own. absurd (own_not own);
          };
          leaves = inl (leaves_did f.outputs f.did);
          opened = λ own opens. absurd (own_not own);
        }
