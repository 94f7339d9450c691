-- Outputs that are done one after the other, and where they stop.
use Rattle.std.proofs.Common.{◌≡◌, ℕ, List, [], ◌∷◌, ◌++◌, take, drop, refl, sym, ap, subst, ◌∙◌, append_assoc, inl, inr}
use Rattle.std.specs.Prelude.{◌⊎◌, ◌↔◌}
use Rattle.std.specs.declared.option.Option.{Option}
use Rattle.std.specs.declared.option.Option.TheVariants.{Some}
use Rattle.std.specs.Io.KnownBytes.{Appends}
use Rattle.std.proofs.lemmas.List.{append-nil, take-append-drop}
use Rattle.io_ends.proofs.Appended.{appends_more}
use Rattle.io_ends.specs.Causes.{AppendsFront}
use Rattle.op_keys.specs.declared.order.Exit.{Exit}
use Rattle.op_keys.specs.declared.order.Order.{Order}
use Rattle.core_rules.specs.declared.done.Delta.{Delta}
use Rattle.keeper_core.specs.declared.stored.Stored.{Stored}
use Rattle.keeper_core.specs.EitherSchema.{committed}
use Rattle.keeper_core.specs.KeeperCalls.{BecomesBy, IsSure, Known, LeavesEither, LeavesNoMore, LeavesSame, Stays}
use Rattle.session_rules.specs.Outputs.{Output, Commit, Print, Run, deltas, runs, texts}
use Rattle.session_rules.specs.Outside.{Outside, Did, Grows, IsPart, Keeps, Leaves, Stopped}
use Rattle.session_rules.proofs.Growing.{appends_none, appends_same, deltas_append, grows_more, grows_none, keeps_more, keeps_none, if_some, if_some_at, kept_known, known_same, known_then, leaves_after, leaves_kept, runs_append, sure_leaves, texts_append}

-- nothing was done
pub did_none : (e : Outside) → Did [] e e
did_none e = record { wrote = appends_none e.written; ran = grows_none e.ran; kept = keeps_none e.keeper.tables; sure = λ is. is }

-- some outputs, and then others
pub did_more : (xs ys : List Output) (a b c : Outside) → Did xs a b → Did ys b c → Did (xs ++ ys) a c
did_more xs ys a b c p q = record {
  wrote = appends_more a.written b.written c.written (texts xs) (texts ys) (texts (xs ++ ys)) p.wrote q.wrote (sym (texts_append xs ys));
  ran = grows_more a.ran b.ran c.ran (runs xs) (runs ys) (runs (xs ++ ys)) p.ran q.ran (sym (runs_append xs ys));
  kept = subst (λ (ds : List Delta). Keeps a.keeper.tables c.keeper.tables ds) (sym (deltas_append xs ys)) (keeps_more a.keeper.tables b.keeper.tables c.keeper.tables (deltas xs) (deltas ys) p.kept q.kept);
  sure = λ is. q.sure (p.sure is);
}

pub part_none : (ms : List Output) → IsPart ms [] []
part_none [] = (refl, refl)
part_none (Commit d ∷ ms) = (refl, inl refl)
part_none (Print t ∷ ms) = ((t, refl), refl)
part_none (Run o x ∷ ms) = (refl, refl)

pub part_longer : (xs ys : List Output) (t : List ℕ) (more : List Delta) → IsPart xs t more → IsPart (xs ++ ys) t more
part_longer [] ys t more p = rw (p.0, p.1) (part_none ys)
part_longer (Commit d ∷ xs) ys t more p = p
part_longer (Print whole ∷ xs) ys t more p = p
part_longer (Run o x ∷ xs) ys t more p = p

-- whatever is still to come
unfoldable pub did_stops : (xs ys : List Output) (a b : Outside) → Did xs a b → Stopped (xs ++ ys) a b
did_stops xs ys a b d = record {
  done = xs;
  left = ys;
  text = [];
  more = [];
  split = refl;
  part = part_none ys;
  wrote = appends_same a.written b.written (texts xs) (texts xs ++ []) d.wrote (sym (append-nil (texts xs)));
  ran = d.ran;
  known = kept_known a.keeper b.keeper (deltas xs) d.kept;
  leaves = λ is. leaves_kept a.keeper b.keeper (deltas xs) d.kept (d.sure is);
}

unfoldable pub nothing_done : (ms : List Output) (e : Outside) → Stopped ms e e
nothing_done ms e = did_stops [] ms e e (did_none e)

-- a stop among some outputs is one among more
unfoldable pub stopped_longer : (xs ys : List Output) (a b : Outside) → Stopped xs a b → Stopped (xs ++ ys) a b
stopped_longer xs ys a b s = record {
  done = s.done;
  left = s.left ++ ys;
  text = s.text;
  more = s.more;
  split = ap (λ (l : List Output). l ++ ys) s.split ∙ append_assoc s.done s.left ys;
  part = part_longer s.left ys s.text s.more s.part;
  wrote = s.wrote;
  ran = s.ran;
  known = s.known;
  leaves = s.leaves;
}

-- the first outputs were done, and then some of those after them
unfoldable pub then_stopped : (xs ys : List Output) (a b c : Outside) → Did xs a b → Stopped ys b c → Stopped (xs ++ ys) a c
then_stopped xs ys a b c d s = record {
  done = xs ++ s.done;
  left = s.left;
  text = s.text;
  more = s.more;
  split = ap (λ (l : List Output). xs ++ l) s.split ∙ sym (append_assoc xs s.done s.left);
  part = s.part;
  wrote = appends_more a.written b.written c.written (texts xs) (texts s.done ++ s.text) (texts (xs ++ s.done) ++ s.text) d.wrote s.wrote
      (sym (ap (λ (t : List ℕ). t ++ s.text) (texts_append xs s.done) ∙ append_assoc (texts xs) (texts s.done) s.text));
  ran = grows_more a.ran b.ran c.ran (runs xs) (runs s.done) (runs (xs ++ s.done)) d.ran s.ran (sym (runs_append xs s.done));
  known = known_then a.keeper b.keeper c.keeper (kept_known a.keeper b.keeper (deltas xs) d.kept) s.known;
  leaves = λ is. subst (λ (ds : List Delta). Leaves a.keeper c.keeper ds s.more) (sym (deltas_append xs s.done)) (leaves_after a.keeper b.keeper c.keeper (deltas xs) (deltas s.done) s.more d.kept (s.leaves (d.sure is)));
}

-- ---- one mark

-- a text was written
pub printed : (t : List ℕ) (e : Outside) (w : Option (List ℕ)) → Appends e.written w t → Did (Print t ∷ []) e (record e { written = w })
printed t e w a = record { wrote = appends_same e.written w t (t ++ []) a (sym (append-nil t)); ran = grows_none e.ran; kept = keeps_none e.keeper.tables; sure = λ is. is }

-- a text was written in part
pub print_failed : (whole : List ℕ) (ms : List Output) (e : Outside) (w : Option (List ℕ)) → AppendsFront e.written w whole → Stopped (Print whole ∷ ms) e (record e { written = w })
print_failed whole ms e w (n, fits, a) = record {
  done = [];
  left = Print whole ∷ ms;
  text = take n whole;
  more = [];
  split = refl;
  part = ((drop n whole, sym (take-append-drop n whole)), refl);
  wrote = a;
  ran = grows_none e.ran;
  known = known_same e.keeper;
  leaves = λ is. leaves_kept e.keeper e.keeper [] (keeps_none e.keeper.tables) is;
}

-- an order was run
pub order_ran : (o : Order) (x : Exit) (e : Outside) (r : Option (List (Order × Exit))) → Grows e.ran r ((o, x) ∷ []) → Did (Run o x ∷ []) e (record e { ran = r })
order_ran o x e r g = record { wrote = appends_none e.written; ran = g; kept = keeps_none e.keeper.tables; sure = λ is. is }

-- an order was not run
pub run_failed : (o : Order) (x : Exit) (ms : List Output) (e : Outside) → Stopped (Run o x ∷ ms) e e
run_failed o x ms e = nothing_done (Run o x ∷ ms) e

-- a delta was kept
pub committed_so : (d : Delta) (e : Outside) (k : Known) → BecomesBy (committed d) e.keeper k → IsSure k → Did (Commit d ∷ []) e (record e { keeper = k })
committed_so d e k becomes sure = record {
  wrote = appends_none e.written;
  ran = grows_none e.ran;
  kept = becomes;
  sure = λ is. sure_leaves k sure;
}

-- the tables before a commit that failed are known if those after it are
pub known_before : (d : Delta) (old new : Known) → Stays old new ⊎ BecomesBy (committed d) old new → (s : Stored) → new.tables ≡ Some s → (was : Stored) × (old.tables ≡ Some was)
known_before d old new either s e = elim either [
  | inl stays ↦ (s, if_some_at new.tables (λ (t : Stored). old.tables ≡ Some t) s stays e)
  | inr becomes ↦ let at = if_some_at new.tables (λ (t : Stored). (was : Stored) × (old.tables ≡ Some was) × (t ≡ committed d was)) s becomes e in (at.0, at.1)
]

-- a commit failed: a stop leaves the tables before it, or after it
unfoldable pub commit_failed : (d : Delta) (ms : List Output) (e : Outside) (k : Known) → Stays e.keeper k ⊎ BecomesBy (committed d) e.keeper k → LeavesEither (committed d) e.keeper k →
    Stopped (Commit d ∷ ms) e (record e { keeper = k })
commit_failed d ms e k either leaves = record {
  done = [];
  left = Commit d ∷ ms;
  text = [];
  more = d ∷ [];
  split = refl;
  part = (refl, inr refl);
  wrote = appends_none e.written;
  ran = grows_none e.ran;
  known = if_some k.tables _ (known_before d e.keeper k either);
  leaves = λ sure. if_some k.tables _ (λ (s : Stored) (is : k.tables ≡ Some s) (x : Stored) (left : k.after_stop x).
      let was = known_before d e.keeper k either s is in
      let just = if_some_at e.keeper.tables (λ (t : Stored). (y : Stored) → e.keeper.after_stop y → y ≡ t) was.0 sure was.1 in
      elim (leaves x left) [
        | inl before ↦ (was.0, was.1, inl (just x before))
        | inr with ↦ (with.0, with.1, inr with.2)
      ]);
}

-- a commit was out of memory: a stop leaves the tables before it
pub commit_refused : (d : Delta) (ms : List Output) (e : Outside) (k : Known) → Stays e.keeper k → LeavesSame e.keeper k → Stopped (Commit d ∷ ms) e (record e { keeper = k })
commit_refused d ms e k stays same = commit_failed d ms e k (inl stays) (λ x left. inl ((same x).0 left))

-- ---- a keeper that was asked and changed nothing

-- the tables are those of before, and a stop leaves nothing more
unfoldable pub did_still : (e : Outside) (k : Known) → Stays e.keeper k → LeavesNoMore e.keeper k → Did [] e (record e { keeper = k })
did_still e k stays no_more = record {
  wrote = appends_none e.written;
  ran = grows_none e.ran;
  kept = if_some k.tables _ (λ (s : Stored) (is : k.tables ≡ Some s). (s, if_some_at k.tables (λ (t : Stored). e.keeper.tables ≡ Some t) s stays is, refl));
  sure = λ sure. if_some k.tables _ (λ (s : Stored) (is : k.tables ≡ Some s) (x : Stored) (left : k.after_stop x).
      let was = if_some_at k.tables (λ (t : Stored). e.keeper.tables ≡ Some t) s stays is in
      if_some_at e.keeper.tables (λ (t : Stored). (y : Stored) → e.keeper.after_stop y → y ≡ t) s sure was x (no_more x left));
}

-- it failed at a change that leaves its tables as they are
unfoldable pub still_failed : (change : Stored → Stored) (ms : List Output) (e : Outside) (k : Known) → ((s : Stored) → e.keeper.tables ≡ Some s → change s ≡ s) →
    Stays e.keeper k ⊎ BecomesBy change e.keeper k → LeavesEither change e.keeper k → Stopped ms e (record e { keeper = k })
still_failed change ms e k still either leaves =
    let known : (s : Stored) → k.tables ≡ Some s → (was : Stored) × (e.keeper.tables ≡ Some was) = λ s is. elim either [
      | inl stays ↦ (s, if_some_at k.tables (λ (t : Stored). e.keeper.tables ≡ Some t) s stays is)
      | inr becomes ↦ let at = if_some_at k.tables (λ (t : Stored). (was : Stored) × (e.keeper.tables ≡ Some was) × (t ≡ change was)) s becomes is in (at.0, at.1)
    ] in
    record {
      done = [];
      left = ms;
      text = [];
      more = [];
      split = refl;
      part = part_none ms;
      wrote = appends_none e.written;
      ran = grows_none e.ran;
      known = if_some k.tables _ known;
      leaves = λ sure. if_some k.tables _ (λ (s : Stored) (is : k.tables ≡ Some s) (x : Stored) (left : k.after_stop x).
          let was = known s is in
          let just = if_some_at e.keeper.tables (λ (t : Stored). (y : Stored) → e.keeper.after_stop y → y ≡ t) was.0 sure was.1 in
          elim (leaves x left) [
            | inl before ↦ (was.0, was.1, inl (just x before))
            | inr with ↦ (with.0, with.1, inl (with.2 ∙ still with.0 with.1))
          ]);
    }
