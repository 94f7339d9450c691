-- The tree of visits tells what evaluation gives: state, wants and the number of visits.
use Rattle.std.proofs.Common.{◌≡◌, ℕ, ◌+◌, true, false, List, [], ◌∷◌, ◌++◌, map, sum, cond, codes, slice_get, Option, None, refl, ap, sym, ◌∙◌, subst, arith, append-nil, append_assoc}
use Rattle.std.proofs.lemmas.List.Sums.{sum_by-cons}
use Rattle.std.specs.List.{flat_map}
use Rattle.value_core.specs.Parts.{items_in, text_in}
use Rattle.value_core.specs.declared.value.Value.{Value}
use Rattle.value_core.specs.declared.value.Value.TheVariants as value
use Rattle.value_core.specs.declared.state.State.{State}
use Rattle.value_core.specs.declared.state.State.TheVariants.{Fine, Failed, Active}
use Rattle.value_core.specs.declared.state.Triple.{Triple}
use Rattle.term_core.specs.Evaluation.{Bound, Context, Meaning, all_run, bind, bind_run, build_run, entry_state, eval, fits, gate_run, items_run, list_run, looked_up, map_run, outcome_run, output_run, pair_run, term_step, triple_of}
use Rattle.term_core.specs.Runs.{Run, follow, follow_both, together, visited}
use Rattle.term_core.specs.States.{both, caught, gated, listed, mapped, observed, paired, passed}
use Rattle.term_core.specs.World.{entry_of}
use Rattle.term_core.specs.declared.program.Term.{Term, Term-F, roll-Term, map-Term, fold-roll-Term}
use Rattle.visit_rules.proofs.Unchanged.{again_roll, by_layer, parts_redone, plain, redone}
use Rattle.visit_rules.specs.Again.{Again, Redo, again, bodies_again, items_again, over_parts, parts_again, renewed, visits}
use Rattle.visit_rules.specs.Tables.{bind_state, body_of, bound_by, build_read, build_state, first_state, items_for, list_state, listed_by, lookup_read, output_read, output_state, reading, second_state, state_by, state_read}
use Rattle.visit_rules.specs.Visits.{read_wants, state_of, states, visits_of, visits_step, wants_of, wants_step}
use Rattle.visit_rules.specs.declared.visit.Read.{Read}
use Rattle.visit_rules.specs.declared.visit.Read.TheVariants as read
use Rattle.visit_rules.specs.declared.visit.Visit.{Visit}
use Rattle.visit_rules.specs.declared.visit.Visit.TheOpen.{Visit-F}
use Rattle.visit_rules.specs.declared.visit.Visit.TheViews.{out-roll-Visit}
use Rattle.visit_rules.specs.declared.visit.Visit.TheFolds.{fold-roll-Visit}

-- what evaluating gives is what the tree tells
pub record Tells (e : Run) (a : Again) : Type 0 where
  pub state : state_of a.visit ≡ e.state
  pub wants : wants_of a.visit ≡ e.wants
  pub ticks : a.ticks ≡ e.ticks
  pub count : visits_of a.visit ≡ a.ticks

-- the same of several
record TellAll (es : List Run) (rs : List Again) : Type 0 where
  states : states (visits rs) ≡ map (λ e. e.state) es
  wants : flat_map (λ w. w) (map wants_of (visits rs)) ≡ flat_map (λ e. e.wants) es
  ticks : sum (map (λ a. a.ticks) rs) ≡ sum (map (λ e. e.ticks) es)
  count : sum (map visits_of (visits rs)) ≡ sum (map (λ a. a.ticks) rs)

pub sum-cons : (x : ℕ) (xs : List ℕ) → sum (x ∷ xs) ≡ x + sum xs
sum-cons x xs = sum_by-cons (λ n. n) x xs

tell_none : TellAll [] []
tell_none = record { states = refl; wants = refl; ticks = refl; count = refl }

tell_more : (e : Run) (a : Again) (es : List Run) (rs : List Again) → Tells e a → TellAll es rs → TellAll (e ∷ es) (a ∷ rs)
tell_more e a es rs t ts = record {
  states = let h = t.state in let k = ts.states in cc;
  wants = rw (t.wants, ts.wants) refl;
  ticks = sum-cons a.ticks (map (λ x. x.ticks) rs) ∙ (rw (t.ticks, ts.ticks) refl ∙ sym (sum-cons e.ticks (map (λ x. x.ticks) es)));
  count = sum-cons (visits_of a.visit) (map visits_of (visits rs)) ∙ (rw (t.count, ts.count) refl ∙ sym (sum-cons a.ticks (map (λ x. x.ticks) rs)));
}

module _ (given : Context) where
  abbrev pub TellsAt : Term → Type 0
  TellsAt t = (bound : Bound) → Tells (eval given t bound) (again given t None bound)

  parts_tell : (es : List ((t : Term) × TellsAt t)) (bound : Bound) →
      TellAll (map (λ e. eval given e.0 bound) es) (parts_again (map (λ e. again given e.0) es) [] bound)
  parts_tell [] bound = tell_none
  parts_tell (e ∷ es) bound = tell_more (eval given e.0 bound) (again given e.0 None bound) _ _ (e.1 bound) (parts_tell es bound)

  items_tell : (f : Option Visit → Value → Again) (next : Value → Run) → ((v : Value) → Tells (next v) (f None v)) → (vs : List Value) →
      TellAll (map next vs) (items_again f vs [])
  items_tell f next t [] = tell_none
  items_tell f next t (v ∷ vs) = tell_more (next v) (f None v) _ _ (t v) (items_tell f next t vs)

  -- what a visit that was just made tells
  record Made (y : Term-F ((t : Term) × TellsAt t)) (bound : Bound) (parts bodies : List Again) (new : Again) : Type 0 where
    state : state_of new.visit ≡ state_by given.node (redone given y) bound (reading given (redone given y) (states (visits parts))) (states (visits parts)) (states (visits bodies))
    wants : wants_of new.visit ≡ flat_map (λ w. w) (map wants_of (visits parts)) ++ (flat_map (λ w. w) (map wants_of (visits bodies)) ++ read_wants (reading given (redone given y) (states (visits parts))))
    ticks : new.ticks ≡ 1 + (sum (map (λ a. a.ticks) parts) + sum (map (λ a. a.ticks) bodies))
    count : visits_of new.visit ≡ 1 + (sum (map visits_of (visits parts)) + sum (map visits_of (visits bodies)))

  made : (y : Term-F ((t : Term) × TellsAt t)) (bound : Bound) (parts : List Again) →
      Made y bound parts (bodies_again (body_of (redone given y)) (items_for (redone given y) (states (visits parts))) [] bound) (over_parts given (redone given y) None bound parts)
  made y bound parts = record {
    state = ap (λ (v : Visit-F Visit). v.state) (out-roll-Visit _);
    wants = fold-roll-Visit (List Triple) wants_step _;
    ticks = refl;
    count = fold-roll-Visit ℕ visits_step _;
  }

  -- what the terms of a layer come to
  abbrev evaled : Term-F ((t : Term) × TellsAt t) → Term-F Meaning
  evaled y = map-Term Term Meaning (eval given) (plain y)

  -- what follows a first part
  record Follows (r : Run) (s : State) (bodies : List Again) : Type 0 where
    state : s ≡ r.state
    wants : flat_map (λ w. w) (map wants_of (visits bodies)) ≡ r.wants
    ticks : sum (map (λ a. a.ticks) bodies) ≡ r.ticks
    count : sum (map visits_of (visits bodies)) ≡ sum (map (λ a. a.ticks) bodies)

  bind_tells : (f : Option Visit → Value → Again) (next : Value → Run) → ((v : Value) → Tells (next v) (f None v)) → (s : State) →
      Follows (follow s next) (bind_state s (states (visits (items_again f (bound_by s) [])))) (items_again f (bound_by s) [])
  bind_tells f next t (Fine v) = record {
    state = (t v).state;
    wants = append-nil _ ∙ (t v).wants;
    ticks = omega (arith, (t v).ticks);
    count = omega (arith, (t v).count);
  }
  bind_tells f next t (Failed o m) = record { state = refl; wants = refl; ticks = refl; count = refl }
  bind_tells f next t (Active o g) = record { state = refl; wants = refl; ticks = refl; count = refl }

  list_tells : (made : List Value → State) (f : Option Visit → Value → Again) (next : Value → Run) → ((v : Value) → Tells (next v) (f None v)) → (s : State) →
      Follows (follow s (λ v. together (map next (items_in v)) made))
      (list_state made s (states (visits (items_again f (listed_by s) [])))) (items_again f (listed_by s) [])
  list_tells made f next t (Fine v) =
      let ts = items_tell f next t (items_in v) in
      record { state = ap (λ (ss : List State). both ss made) ts.states; wants = ts.wants; ticks = ts.ticks; count = ts.count }
  list_tells made f next t (Failed o m) = record { state = refl; wants = refl; ticks = refl; count = refl }
  list_tells made f next t (Active o g) = record { state = refl; wants = refl; ticks = refl; count = refl }

  record Looks (r : Run) (s : State) (read : Read) : Type 0 where
    state : s ≡ r.state
    wants : read_wants read ≡ r.wants
    ticks : r.ticks ≡ 0

  lookup_tells : (meant : List ℕ → Value) (t : Triple) → Looks (looked_up given meant t) (state_read given.node meant (lookup_read given t)) (lookup_read given t)
  unfolding looked_up
  lookup_tells meant t =
      let found : Read = read.Lookup t (entry_of given.world t) in
      let told : Run = record { state = entry_state given.node meant (entry_of given.world t); wants = t ∷ []; ticks = 0 } in
      let long : Run = record { state = Failed given.node (codes "order too long"); wants = []; ticks = 0 } in
      elim (fits (slice_get given.program.ops t.op) t) as (λ b. Looks (cond b told long) (state_read given.node meant (cond b found read.Nothing)) (cond b found read.Nothing))
      [ true ↦ record { state = refl; wants = refl; ticks = refl } | false ↦ record { state = refl; wants = refl; ticks = refl } ]

  build_tells : (op : List ℕ) (s : State) →
      Looks (follow s (λ k. looked_up given value.Words (triple_of given op (text_in k) []))) (build_state given.node s (build_read given op s)) (build_read given op s)
  build_tells op (Fine k) = lookup_tells value.Words (triple_of given op (text_in k) [])
  build_tells op (Failed o m) = record { state = refl; wants = refl; ticks = refl }
  build_tells op (Active o g) = record { state = refl; wants = refl; ticks = refl }

  output_tells : (op : List ℕ) (s t : State) →
      Looks (follow_both s t (λ k x. looked_up given (λ t. value.Unit) (triple_of given op (text_in k) (text_in x)))) (output_state given.node s t (output_read given op s t)) (output_read given op s t)
  output_tells op (Fine k) (Fine x) = lookup_tells (λ t. value.Unit) (triple_of given op (text_in k) (text_in x))
  output_tells op (Fine k) (Failed o m) = record { state = refl; wants = refl; ticks = refl }
  output_tells op (Fine k) (Active o g) = record { state = refl; wants = refl; ticks = refl }
  output_tells op (Failed o m) (Fine x) = record { state = refl; wants = refl; ticks = refl }
  output_tells op (Failed o m) (Failed p n) = record { state = refl; wants = refl; ticks = refl }
  output_tells op (Failed o m) (Active p h) = record { state = refl; wants = refl; ticks = refl }
  output_tells op (Active o g) (Fine x) = record { state = refl; wants = refl; ticks = refl }
  output_tells op (Active o g) (Failed p n) = record { state = refl; wants = refl; ticks = refl }
  output_tells op (Active o g) (Active p h) = record { state = refl; wants = refl; ticks = refl }

  runs_of : (ts : List ((t : Term) × TellsAt t)) (bound : Bound) → map (λ (m : Meaning). m bound) (map (eval given) (map (λ e. e.0) ts)) ≡ map (λ e. eval given e.0 bound) ts
  runs_of [] bound = refl
  runs_of (t ∷ ts) bound = ap (λ (rs : List Run). eval given t.0 bound ∷ rs) (runs_of ts bound)

  -- a term without parts
  alone_tells : (y : Term-F ((t : Term) × TellsAt t)) (bound : Bound) (e : Run) → Made y bound [] [] (over_parts given (redone given y) None bound []) →
      state_by given.node (redone given y) bound (reading given (redone given y) []) [] [] ≡ e.state → read_wants (reading given (redone given y) []) ≡ e.wants → e.ticks ≡ 1 →
      Tells e (over_parts given (redone given y) None bound [])
  alone_tells y bound e m s w n = record {
    state = m.state ∙ s;
    wants = m.wants ∙ w;
    ticks = m.ticks ∙ sym n;
    count = m.count ∙ sym m.ticks;
  }

  layer_tells : (y : Term-F ((t : Term) × TellsAt t)) (bound : Bound) → Tells (term_step given (evaled y) bound) (renewed given (redone given y) None bound)
  unfolding map_run pair_run bind_run items_run list_run outcome_run gate_run all_run build_run output_run looked_up
  layer_tells (Term-F.Return v) bound = alone_tells (Term-F.Return v) bound _ (made (Term-F.Return v) bound []) refl refl refl
  layer_tells (Term-F.Fail kind m) bound = alone_tells (Term-F.Fail kind m) bound _ (made (Term-F.Fail kind m) bound []) refl refl refl
  layer_tells (Term-F.Input n) bound = alone_tells (Term-F.Input n) bound _ (made (Term-F.Input n) bound []) refl refl refl
  layer_tells (Term-F.Node n) bound = alone_tells (Term-F.Node n) bound _ (made (Term-F.Node n) bound []) refl refl refl
  layer_tells (Term-F.Var n) bound = alone_tells (Term-F.Var n) bound _ (made (Term-F.Var n) bound []) refl refl refl
  layer_tells (Term-F.Map f t) bound =
      let first : Again = again given t.0 None bound in
      let told : Tells (eval given t.0 bound) first = t.1 bound in
      let m = made (Term-F.Map f t) bound (first ∷ []) in
      record {
        state = m.state ∙ ap (mapped given.node f) told.state;
        wants = m.wants ∙ (append-nil _ ∙ (append-nil _ ∙ told.wants));
        ticks = m.ticks ∙ omega (arith, told.ticks);
        count = m.count ∙ (omega (arith, told.count) ∙ sym m.ticks);
      }
  layer_tells (Term-F.Pair a b) bound =
      let ts = parts_tell (a ∷ b ∷ []) bound in
      let m = made (Term-F.Pair a b) bound (again given a.0 None bound ∷ again given b.0 None bound ∷ []) in
      record {
        state = m.state ∙ ap (λ (ss : List State). both ss (paired given.node)) ts.states;
        wants = m.wants ∙ (append-nil _ ∙ ts.wants);
        ticks = m.ticks ∙ omega (arith, ts.ticks);
        count = m.count ∙ (omega (arith, ts.count) ∙ sym m.ticks);
      }
  layer_tells (Term-F.Bind n t u) bound =
      let first : Again = again given t.0 None bound in
      let told : Tells (eval given t.0 bound) first = t.1 bound in
      let s : State = state_of first.visit in
      let f : Option Visit → Value → Again = λ was v. again given u.0 was (bind bound n v) in
      let next : Value → Run = λ v. eval given u.0 (bind bound n v) in
      let bodies : List Again = items_again f (bound_by s) [] in
      let m = made (Term-F.Bind n t u) bound (first ∷ []) in
      let fl : Follows (follow (eval given t.0 bound).state next) (bind_state s (states (visits bodies))) bodies =
      subst (λ (x : State). Follows (follow x next) (bind_state s (states (visits bodies))) bodies) told.state (bind_tells f next (λ v. u.1 (bind bound n v)) s)
      in
      record {
        state = m.state ∙ fl.state;
        wants = m.wants ∙ rw (append-nil, append-nil, told.wants, fl.wants) refl;
        ticks = m.ticks ∙ omega (arith, told.ticks, fl.ticks);
        count = m.count ∙ (omega (arith, told.count, fl.count) ∙ sym m.ticks);
      }
  layer_tells (Term-F.ListMap n t u) bound =
      let first : Again = again given t.0 None bound in
      let told : Tells (eval given t.0 bound) first = t.1 bound in
      let s : State = state_of first.visit in
      let f : Option Visit → Value → Again = λ was v. again given u.0 was (bind bound n v) in
      let next : Value → Run = λ v. eval given u.0 (bind bound n v) in
      let all : Value → Run = λ v. together (map next (items_in v)) (listed given.node) in
      let bodies : List Again = items_again f (listed_by s) [] in
      let m = made (Term-F.ListMap n t u) bound (first ∷ []) in
      let fl : Follows (follow (eval given t.0 bound).state all) (list_state (listed given.node) s (states (visits bodies))) bodies =
      subst (λ (x : State). Follows (follow x all) (list_state (listed given.node) s (states (visits bodies))) bodies) told.state (list_tells (listed given.node) f next (λ v. u.1 (bind bound n v)) s)
      in
      record {
        state = m.state ∙ fl.state;
        wants = m.wants ∙ rw (append-nil, append-nil, told.wants, fl.wants) refl;
        ticks = m.ticks ∙ omega (arith, told.ticks, fl.ticks);
        count = m.count ∙ (omega (arith, told.count, fl.count) ∙ sym m.ticks);
      }
  layer_tells (Term-F.ListIter n t u) bound =
      let first : Again = again given t.0 None bound in
      let told : Tells (eval given t.0 bound) first = t.1 bound in
      let s : State = state_of first.visit in
      let f : Option Visit → Value → Again = λ was v. again given u.0 was (bind bound n v) in
      let next : Value → Run = λ v. eval given u.0 (bind bound n v) in
      let all : Value → Run = λ v. together (map next (items_in v)) passed in
      let bodies : List Again = items_again f (listed_by s) [] in
      let m = made (Term-F.ListIter n t u) bound (first ∷ []) in
      let fl : Follows (follow (eval given t.0 bound).state all) (list_state passed s (states (visits bodies))) bodies =
      subst (λ (x : State). Follows (follow x all) (list_state passed s (states (visits bodies))) bodies) told.state (list_tells passed f next (λ v. u.1 (bind bound n v)) s)
      in
      record {
        state = m.state ∙ fl.state;
        wants = m.wants ∙ rw (append-nil, append-nil, told.wants, fl.wants) refl;
        ticks = m.ticks ∙ omega (arith, told.ticks, fl.ticks);
        count = m.count ∙ (omega (arith, told.count, fl.count) ∙ sym m.ticks);
      }
  layer_tells (Term-F.Catch t) bound =
      let first : Again = again given t.0 None bound in
      let told : Tells (eval given t.0 bound) first = t.1 bound in
      let m = made (Term-F.Catch t) bound (first ∷ []) in
      record {
        state = m.state ∙ ap caught told.state;
        wants = m.wants ∙ (append-nil _ ∙ (append-nil _ ∙ told.wants));
        ticks = m.ticks ∙ omega (arith, told.ticks);
        count = m.count ∙ (omega (arith, told.count) ∙ sym m.ticks);
      }
  layer_tells (Term-F.State t) bound =
      let first : Again = again given t.0 None bound in
      let told : Tells (eval given t.0 bound) first = t.1 bound in
      let m = made (Term-F.State t) bound (first ∷ []) in
      record {
        state = m.state ∙ ap observed told.state;
        wants = m.wants ∙ (append-nil _ ∙ (append-nil _ ∙ told.wants));
        ticks = m.ticks ∙ omega (arith, told.ticks);
        count = m.count ∙ (omega (arith, told.count) ∙ sym m.ticks);
      }
  layer_tells (Term-F.Gate on t) bound =
      let ts = parts_tell (on ∷ t ∷ []) bound in
      let m = made (Term-F.Gate on t) bound (again given on.0 None bound ∷ again given t.0 None bound ∷ []) in
      record {
        state = m.state ∙ ap (λ (ss : List State). gated (first_state ss) (second_state ss)) ts.states;
        wants = m.wants ∙ (append-nil _ ∙ (ts.wants ∙ ap (λ (w : List Triple). (eval given on.0 bound).wants ++ w) (append-nil _)));
        ticks = m.ticks ∙ omega (arith, ts.ticks);
        count = m.count ∙ (omega (arith, ts.count) ∙ sym m.ticks);
      }
  layer_tells (Term-F.All ts) bound =
      let parts : List Again = parts_again (map (λ e. again given e.0) ts) [] bound in
      let all = parts_tell ts bound in
      let m = made (Term-F.All ts) bound parts in
      let runs : List Run = map (λ e. eval given e.0 bound) ts in
      let told : Tells (visited (together runs passed)) (over_parts given (redone given (Term-F.All ts)) None bound parts) = record {
        state = m.state ∙ ap (λ (ss : List State). both ss passed) all.states;
        wants = m.wants ∙ (append-nil _ ∙ all.wants);
        ticks = m.ticks ∙ omega (arith, all.ticks);
        count = m.count ∙ (omega (arith, all.count) ∙ sym m.ticks);
      } in
      let with_runs = subst (λ (rs : List Run). Tells (visited (together rs passed)) (over_parts given (redone given (Term-F.All ts)) None bound parts)) (sym (runs_of ts bound)) told in
      subst (λ (rs : List Redo). Tells (term_step given (evaled (Term-F.All ts)) bound) (over_parts given (redone given (Term-F.All ts)) None bound (parts_again rs [] bound))) (sym (parts_redone given (Term-F.All ts))) with_runs
  layer_tells (Term-F.Build op k) bound =
      let first : Again = again given k.0 None bound in
      let told : Tells (eval given k.0 bound) first = k.1 bound in
      let s : State = state_of first.visit in
      let next : Value → Run = λ v. looked_up given value.Words (triple_of given op (text_in v) []) in
      let m = made (Term-F.Build op k) bound (first ∷ []) in
      let look : Looks (follow (eval given k.0 bound).state next) (build_state given.node s (build_read given op s)) (build_read given op s) =
      subst (λ (x : State). Looks (follow x next) (build_state given.node s (build_read given op s)) (build_read given op s)) told.state (build_tells op s)
      in
      record {
        state = m.state ∙ look.state;
        wants = m.wants ∙ rw (append-nil, told.wants, look.wants) refl;
        ticks = m.ticks ∙ omega (arith, told.ticks, look.ticks);
        count = m.count ∙ (omega (arith, told.count) ∙ sym m.ticks);
      }
  layer_tells (Term-F.Output op k v) bound =
      let first : Again = again given k.0 None bound in
      let second : Again = again given v.0 None bound in
      let told : Tells (eval given k.0 bound) first = k.1 bound in
      let told2 : Tells (eval given v.0 bound) second = v.1 bound in
      let s : State = state_of first.visit in
      let t : State = state_of second.visit in
      let next : Value → Value → Run = λ k x. looked_up given (λ t. value.Unit) (triple_of given op (text_in k) (text_in x)) in
      let m = made (Term-F.Output op k v) bound (first ∷ second ∷ []) in
      let look1 : Looks (follow_both (eval given k.0 bound).state t next) (output_state given.node s t (output_read given op s t)) (output_read given op s t) =
      subst (λ (x : State). Looks (follow_both x t next) (output_state given.node s t (output_read given op s t)) (output_read given op s t)) told.state (output_tells op s t)
      in
      let look : Looks (follow_both (eval given k.0 bound).state (eval given v.0 bound).state next) (output_state given.node s t (output_read given op s t)) (output_read given op s t) =
      subst (λ (x : State). Looks (follow_both (eval given k.0 bound).state x next) (output_state given.node s t (output_read given op s t)) (output_read given op s t)) told2.state look1
      in
      record {
        state = m.state ∙ look.state;
        wants = m.wants ∙ rw (append-nil, told.wants, told2.wants, look.wants, append_assoc) refl;
        ticks = m.ticks ∙ omega (arith, told.ticks, told2.ticks, look.ticks);
        count = m.count ∙ (omega (arith, told.count, told2.count) ∙ sym m.ticks);
      }

  tells_layer : (y : Term-F ((t : Term) × TellsAt t)) → TellsAt (roll-Term (plain y))
  tells_layer y bound =
      subst (λ (a : Again). Tells (eval given (roll-Term (plain y)) bound) a) (sym (again_roll given y None bound))
      (subst (λ (e : Run). Tells e (renewed given (redone given y) None bound)) (sym (ap (λ (m : Meaning). m bound) (fold-roll-Term Meaning (term_step given) (plain y)))) (layer_tells y bound))

  pub tells : (t : Term) → TellsAt t
  tells = by_layer TellsAt tells_layer
