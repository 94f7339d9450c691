-- In the world in which a term was visited nothing that was read differs, and each triple that was looked up is wanted.
use Rattle.std.proofs.Common.{◌≡◌, ℕ, Bool, true, false, not, ◌&&◌, ◌||◌, List, [], ◌∷◌, ◌++◌, map, cond, slice_get, Option, None, refl, ap, sym, ◌∙◌, subst}
use Rattle.std.specs.List.{flat_map, list_all}
use Rattle.value_core.proofs.Sames.{same_refl, same_true}
use Rattle.value_core.specs.Same.{same}
use Rattle.value_core.specs.Codes.{value_code, state_code}
use Rattle.value_core.specs.declared.value.Value.{Value}
use Rattle.value_core.specs.declared.state.State.{State}
use Rattle.value_core.specs.declared.state.State.TheVariants.{Fine, Failed, Active}
use Rattle.value_core.specs.declared.state.Triple.{Triple}
use Rattle.term_core.specs.Evaluation.{Bound, Context, bind, fits, state_or_unit, value_or_unit}
use Rattle.term_core.specs.World.{entry_of}
use Rattle.value_core.specs.Orders.{same_triple}
use Rattle.term_core.specs.declared.entries.Entry.{Entry}
use Rattle.term_core.specs.declared.program.Term.{Term, Term-F, roll-Term}
use Rattle.value_core.proofs.Basics.{and_both, and_parts, same_triples}
use Rattle.visit_rules.proofs.Unchanged.{again_roll, by_layer, parts_redone, plain, redone}
use Rattle.visit_rules.specs.Again.{Again, again, bodies_again, items_again, parts_again, trace, visits}
use Rattle.visit_rules.specs.KnownChanges.{agree_on, agrees, all_read, all_read_step, found_entry, has_moved, is_among, is_named, is_other, known_to_differ}
use Rattle.visit_rules.specs.Tables.{body_of, build_read, direct_parts, input_index, items_for, lookup_read, node_place, output_read, reading}
use Rattle.term_core.specs.Codes.{entry_code}
use Rattle.visit_rules.specs.Visits.{Test, read_differs, read_wants, states, wants_of, wants_step}
use Rattle.visit_rules.specs.declared.changes.Looked.{Looked}
use Rattle.visit_rules.specs.declared.visit.Read.{Read}
use Rattle.visit_rules.specs.declared.visit.Read.TheVariants as read
use Rattle.visit_rules.specs.declared.visit.Visit.{Visit}
use Rattle.visit_rules.specs.declared.visit.Visit.TheOpen.{Visit-F}
use Rattle.visit_rules.specs.declared.visit.Visit.TheViews.{roll-Visit}
use Rattle.visit_rules.specs.declared.visit.Visit.TheFolds.{fold-roll-Visit, ind-Visit, map-Visit}

pub all_both : (a b c : Bool) → a ≡ true → b ≡ true → c ≡ true → (a && (b && c)) ≡ true
all_both a b c h k l = rw (h, k, l) refl

-- what holds of what was read in one visit holds of another test
module _ (p q : Test) (implies : (r : Read) → p r ≡ true → q r ≡ true) where
  abbrev Implied : Visit → Type 0
  Implied v = all_read p v ≡ true → all_read q v ≡ true

  all_implied : (es : List ((v : Visit) × Implied v)) → list_all (λ b. b) (map (all_read p) (map (λ e. e.0) es)) ≡ true → list_all (λ b. b) (map (all_read q) (map (λ e. e.0) es)) ≡ true
  all_implied [] h = refl
  all_implied (e ∷ es) h = let a = and_parts _ _ h in and_both _ _ (e.1 a.0) (all_implied es a.1)

  implied_layer : (y : Visit-F ((v : Visit) × Implied v)) → Implied (roll-Visit (map-Visit ((v : Visit) × Implied v) Visit (λ e. e.0) y))
  implied_layer y h =
      let x : Visit-F Visit = map-Visit ((v : Visit) × Implied v) Visit (λ e. e.0) y in
      let a = and_parts _ _ (sym (fold-roll-Visit Bool (all_read_step p) x) ∙ h) in
      let b = and_parts _ _ a.1 in
      fold-roll-Visit Bool (all_read_step q) x ∙ all_both _ _ _ (implies x.read a.0) (all_implied y.parts b.0) (all_implied y.bodies b.1)

  pub all_read_implied : (v : Visit) → Implied v
  all_read_implied = ind-Visit Implied (λ x y is. subst (λ (z : Visit-F Visit). Implied (roll-Visit z)) is (implied_layer y))

-- the same of several trees
pub all_through : (p q : Test) → ((r : Read) → p r ≡ true → q r ≡ true) → (vs : List Visit) → list_all (λ b. b) (map (all_read p) vs) ≡ true → list_all (λ b. b) (map (all_read q) vs) ≡ true
all_through p q i [] h = refl
all_through p q i (v ∷ vs) h = let a = and_parts _ _ h in and_both _ _ (all_read_implied p q i v a.0) (all_through p q i vs a.1)

-- two tests that hold of all that was read hold together
module _ (p q : Test) where
  abbrev Together : Visit → Type 0
  Together v = all_read p v ≡ true → all_read q v ≡ true → all_read (λ r. p r && q r) v ≡ true

  all_together : (es : List ((v : Visit) × Together v)) → list_all (λ b. b) (map (all_read p) (map (λ e. e.0) es)) ≡ true → list_all (λ b. b) (map (all_read q) (map (λ e. e.0) es)) ≡ true →
      list_all (λ b. b) (map (all_read (λ r. p r && q r)) (map (λ e. e.0) es)) ≡ true
  all_together [] h k = refl
  all_together (e ∷ es) h k =
      let a = and_parts _ _ h in
      let b = and_parts _ _ k in
      and_both _ _ (e.1 a.0 b.0) (all_together es a.1 b.1)

  together_layer : (y : Visit-F ((v : Visit) × Together v)) → Together (roll-Visit (map-Visit ((v : Visit) × Together v) Visit (λ e. e.0) y))
  together_layer y h k =
      let x : Visit-F Visit = map-Visit ((v : Visit) × Together v) Visit (λ e. e.0) y in
      let a = and_parts _ _ (sym (fold-roll-Visit Bool (all_read_step p) x) ∙ h) in
      let b = and_parts _ _ a.1 in
      let c = and_parts _ _ (sym (fold-roll-Visit Bool (all_read_step q) x) ∙ k) in
      let d = and_parts _ _ c.1 in
      fold-roll-Visit Bool (all_read_step (λ r. p r && q r)) x ∙ all_both _ _ _ (and_both _ _ a.0 c.0) (all_together y.parts b.0 d.0) (all_together y.bodies b.1 d.1)

  pub all_read_together : (v : Visit) → Together v
  all_read_together = ind-Visit Together (λ x y is. subst (λ (z : Visit-F Visit). Together (roll-Visit z)) is (together_layer y))

-- ---- what was read is what it is in that world

module _ (given : Context) where
  -- it is the same still
  abbrev pub is_still : Test
  is_still r = not (read_differs given r)

  not_not : (b : Bool) → b ≡ true → not (not b) ≡ true
  not_not b h = rw h refl

  abbrev pub StillAt : Term → Type 0
  StillAt t = (bound : Bound) → all_read is_still (trace given t bound) ≡ true

  abbrev AllStill : List Again → Type 0
  AllStill rs = list_all (λ b. b) (map (all_read is_still) (visits rs)) ≡ true

  parts_still : (es : List ((t : Term) × StillAt t)) (bound : Bound) → AllStill (parts_again (map (λ e. again given e.0) es) [] bound)
  parts_still [] bound = refl
  parts_still (e ∷ es) bound = and_both _ _ (e.1 bound) (parts_still es bound)

  items_still : (f : Option Visit → Value → Again) → ((v : Value) → all_read is_still (f None v).visit ≡ true) → (vs : List Value) → AllStill (items_again f vs [])
  items_still f s [] = refl
  items_still f s (v ∷ vs) = and_both _ _ (s v) (items_still f s vs)

  bodies_still : (y : Term-F ((t : Term) × StillAt t)) (vs : List Value) (bound : Bound) → AllStill (bodies_again (body_of (redone given y)) vs [] bound)
  bodies_still (Term-F.Return v) vs bound = refl
  bodies_still (Term-F.Fail kind m) vs bound = refl
  bodies_still (Term-F.Input n) vs bound = refl
  bodies_still (Term-F.Node n) vs bound = refl
  bodies_still (Term-F.Var n) vs bound = refl
  bodies_still (Term-F.Map f t) vs bound = refl
  bodies_still (Term-F.Pair a b) vs bound = refl
  bodies_still (Term-F.Bind n t u) vs bound = items_still (λ was v. again given u.0 was (bind bound n v)) (λ v. u.1 (bind bound n v)) vs
  bodies_still (Term-F.ListMap n t u) vs bound = items_still (λ was v. again given u.0 was (bind bound n v)) (λ v. u.1 (bind bound n v)) vs
  bodies_still (Term-F.ListIter n t u) vs bound = items_still (λ was v. again given u.0 was (bind bound n v)) (λ v. u.1 (bind bound n v)) vs
  bodies_still (Term-F.Catch t) vs bound = refl
  bodies_still (Term-F.State t) vs bound = refl
  bodies_still (Term-F.Gate on t) vs bound = refl
  bodies_still (Term-F.All ts) vs bound = refl
  bodies_still (Term-F.Build op k) vs bound = refl
  bodies_still (Term-F.Output op k v) vs bound = refl

  lookup_still : (t : Triple) → is_still (lookup_read given t) ≡ true
  lookup_still t = elim (fits (slice_get given.program.ops t.op) t) as (λ b. is_still (cond b (read.Lookup t (entry_of given.world t)) read.Nothing) ≡ true)
      [ true ↦ not_not _ (same_refl entry_code _) | false ↦ refl ]

  build_still : (op : List ℕ) (s : State) → is_still (build_read given op s) ≡ true
  build_still op (Fine k) = lookup_still _
  build_still op (Failed o m) = refl
  build_still op (Active o g) = refl

  output_still : (op : List ℕ) (s t : State) → is_still (output_read given op s t) ≡ true
  output_still op (Fine k) (Fine x) = lookup_still _
  output_still op (Fine k) (Failed o m) = refl
  output_still op (Fine k) (Active o g) = refl
  output_still op (Failed o m) t = refl
  output_still op (Active o g) t = refl

  reading_still : {P : Term → Type 0} (y : Term-F ((t : Term) × P t)) (ss : List State) → is_still (reading given (redone given y) ss) ≡ true
  reading_still (Term-F.Return v) ss = refl
  reading_still (Term-F.Fail kind m) ss = refl
  reading_still (Term-F.Input n) ss = not_not _ (same_refl value_code (value_or_unit (slice_get given.inputs (input_index given n))))
  reading_still (Term-F.Node n) ss = not_not _ (same_refl state_code (state_or_unit (slice_get given.earlier (node_place given n))))
  reading_still (Term-F.Var n) ss = refl
  reading_still (Term-F.Map f t) ss = refl
  reading_still (Term-F.Pair a b) ss = refl
  reading_still (Term-F.Bind n t u) ss = refl
  reading_still (Term-F.ListMap n t u) ss = refl
  reading_still (Term-F.ListIter n t u) ss = refl
  reading_still (Term-F.Catch t) ss = refl
  reading_still (Term-F.State t) ss = refl
  reading_still (Term-F.Gate on t) ss = refl
  reading_still (Term-F.All ts) ss = refl
  reading_still (Term-F.Build op k) ss = build_still op _
  reading_still (Term-F.Output op k v) ss = output_still op _ _

  still_layer : (y : Term-F ((t : Term) × StillAt t)) → StillAt (roll-Term (plain y))
  still_layer y bound =
      let parts : List Again = parts_again (direct_parts (redone given y)) [] bound in
      let ps : List State = states (visits parts) in
      let parts_are : AllStill parts = rw (parts_redone given y) (parts_still (direct_parts y) bound) in
      ap (λ (a : Again). all_read is_still a.visit) (again_roll given y None bound)
      ∙ (fold-roll-Visit Bool (all_read_step is_still) _
      ∙ all_both _ _ _ (reading_still y ps) parts_are (bodies_still y (items_for (redone given y) ps) bound))

  -- nothing differs in the world of a tree
  pub still : (t : Term) → StillAt t
  still = by_layer StillAt still_layer

-- ---- what was looked up is wanted

pub among_front : (xs ys : List Triple) (t : Triple) → is_among xs t ≡ true → is_among (xs ++ ys) t ≡ true
among_front [] ys t h = absurd cc
among_front (x ∷ xs) ys t h = elim (same_triple x t) as (λ b. (b || is_among xs t) ≡ true → (b || is_among (xs ++ ys) t) ≡ true) [ true ↦ λ k. refl | false ↦ λ k. among_front xs ys t k ] h

pub among_back : (xs ys : List Triple) (t : Triple) → is_among ys t ≡ true → is_among (xs ++ ys) t ≡ true
among_back [] ys t h = h
among_back (x ∷ xs) ys t h = elim (same_triple x t) as (λ b. (b || is_among (xs ++ ys) t) ≡ true) [ true ↦ refl | false ↦ among_back xs ys t h ]

-- what was looked up is in a list
abbrev pub wanted_in : List Triple → Test
wanted_in ws read.Nothing = true
wanted_in ws (read.Input place v) = true
wanted_in ws (read.Node place s) = true
wanted_in ws (read.Lookup t e) = is_among ws t

pub wanted_front : (xs ys : List Triple) (r : Read) → wanted_in xs r ≡ true → wanted_in (xs ++ ys) r ≡ true
wanted_front xs ys read.Nothing h = refl
wanted_front xs ys (read.Input place v) h = refl
wanted_front xs ys (read.Node place s) h = refl
wanted_front xs ys (read.Lookup t e) h = among_front xs ys t h

pub wanted_back : (xs ys : List Triple) (r : Read) → wanted_in ys r ≡ true → wanted_in (xs ++ ys) r ≡ true
wanted_back xs ys read.Nothing h = refl
wanted_back xs ys (read.Input place v) h = refl
wanted_back xs ys (read.Node place s) h = refl
wanted_back xs ys (read.Lookup t e) h = among_back xs ys t h

same_self : (t : Triple) → same_triple t t ≡ true
same_self t = same_triples t t refl

own_wanted : (r : Read) → wanted_in (read_wants r) r ≡ true
own_wanted read.Nothing = refl
own_wanted (read.Input place v) = refl
own_wanted (read.Node place s) = refl
own_wanted (read.Lookup t e) = rw (same_self t) refl

abbrev Wanted : Visit → Type 0
Wanted v = all_read (wanted_in (wants_of v)) v ≡ true

all_wanted_in : (es : List ((v : Visit) × Wanted v)) → list_all (λ b. b) (map (all_read (wanted_in (flat_map (λ w. w) (map wants_of (map (λ e. e.0) es))))) (map (λ e. e.0) es)) ≡ true
all_wanted_in [] = refl
all_wanted_in (e ∷ es) =
    let ws : List Triple = flat_map (λ w. w) (map wants_of (map (λ e. e.0) es)) in
    let later : list_all (λ b. b) (map (all_read (wanted_in (wants_of e.0 ++ ws))) (map (λ e. e.0) es)) ≡ true =
    all_through (wanted_in ws) (wanted_in (wants_of e.0 ++ ws)) (wanted_back (wants_of e.0) ws) (map (λ e. e.0) es) (all_wanted_in es)
    in
    and_both _ _ (all_read_implied (wanted_in (wants_of e.0)) (wanted_in (wants_of e.0 ++ ws)) (wanted_front (wants_of e.0) ws) e.0 e.1) later

wanted_layer : (y : Visit-F ((v : Visit) × Wanted v)) → Wanted (roll-Visit (map-Visit ((v : Visit) × Wanted v) Visit (λ e. e.0) y))
wanted_layer y =
    let x : Visit-F Visit = map-Visit ((v : Visit) × Wanted v) Visit (λ e. e.0) y in
    let ps : List Triple = flat_map (λ w. w) (map wants_of x.parts) in
    let bs : List Triple = flat_map (λ w. w) (map wants_of x.bodies) in
    let own : List Triple = read_wants x.read in
    let ws : List Triple = ps ++ (bs ++ own) in
    let is : wants_of (roll-Visit x) ≡ ws = fold-roll-Visit (List Triple) wants_step x in
    let held : all_read (wanted_in ws) (roll-Visit x) ≡ true =
    fold-roll-Visit Bool (all_read_step (wanted_in ws)) x
    ∙ all_both _ _ _
    (wanted_back ps (bs ++ own) x.read (wanted_back bs own x.read (own_wanted x.read)))
    (all_through (wanted_in ps) (wanted_in ws) (wanted_front ps (bs ++ own)) x.parts (all_wanted_in y.parts))
    (all_through (wanted_in bs) (wanted_in ws) (λ r h. wanted_back ps (bs ++ own) r (wanted_front bs own r h)) x.bodies (all_wanted_in y.bodies))
    in
    subst (λ (us : List Triple). all_read (wanted_in us) (roll-Visit x) ≡ true) (sym is) held

-- each triple that was looked up in a tree is wanted by it
pub wanted_by : (v : Visit) → Wanted v
wanted_by = ind-Visit Wanted (λ x y is. subst (λ (z : Visit-F Visit). Wanted (roll-Visit z)) is (wanted_layer y))

-- ---- what the news tell of a tree of another world

same-b : (b : Bool) → cond b b (not b) ≡ true
same-b true = refl
same-b false = refl

not-not-true : (b : Bool) → not (not b) ≡ true → b ≡ true
not-not-true true h = refl
not-not-true false h = cc

neither : (a b : Bool) → a ≡ false → b ≡ true → cond a (not b) (not (not b)) ≡ true
neither a b h k = rw (h, k) refl

-- the news are right of the world that there was, for the triples of a list
pub record AreRight (given given0 : Context) (named : List ℕ) (looked : List Looked) (moved : List Bool) (ws : List Triple) : Type 0 where
  pub inputs : (n : ℕ) → is_named named n ≡ false → value_or_unit (slice_get given.inputs n) ≡ value_or_unit (slice_get given0.inputs n)
  pub nodes : (n : ℕ) → has_moved (slice_get moved n) ≡ not (same state_code (state_or_unit (slice_get given.earlier n)) (state_or_unit (slice_get given0.earlier n)))
  pub entries : (t : Triple) → is_among ws t ≡ true → is_other (found_entry looked t) (entry_of given0.world t) ≡ not (same entry_code (entry_of given.world t) (entry_of given0.world t))

module _ (given given0 : Context) (named : List ℕ) (looked : List Looked) (moved : List Bool) (ws : List Triple) (right : AreRight given given0 named looked moved ws) where
  abbrev pub told : Test
  told = known_to_differ named looked moved given.inputs

  input_right : (n : ℕ) (v : Value) → value_or_unit (slice_get given0.inputs n) ≡ v → agree_on told (read_differs given) (read.Input n v) ≡ true
  input_right n v e =
      let d : Bool = same value_code (value_or_unit (slice_get given.inputs n)) v in
      let cases : (b : Bool) → is_named named n ≡ b → cond (b && not d) (not d) (not (not d)) ≡ true =
      λ b. elim b as (λ b. is_named named n ≡ b → cond (b && not d) (not d) (not (not d)) ≡ true) [
        | true ↦ λ h. same-b (not d)
        | false ↦ λ h. neither false d refl (ap (λ (x : Value). same value_code x v) (right.inputs n h ∙ e) ∙ same_refl value_code v)
      ]
      in cases (is_named named n) refl

  node_right : (n : ℕ) (s : State) → state_or_unit (slice_get given0.earlier n) ≡ s → agree_on told (read_differs given) (read.Node n s) ≡ true
  node_right n s e =
      let m = right.nodes n in
      rw (m, e) (same-b (not (same state_code (state_or_unit (slice_get given.earlier n)) s)))

  lookup_right : (t : Triple) (e : Entry) → entry_of given0.world t ≡ e → is_among ws t ≡ true → agree_on told (read_differs given) (read.Lookup t e) ≡ true
  lookup_right t e is h =
      subst (λ (e : Entry). agree_on told (read_differs given) (read.Lookup t e) ≡ true) is
      (rw (right.entries t h) (same-b (not (same entry_code (entry_of given.world t) (entry_of given0.world t)))))

  read_right : (r : Read) → (is_still given0 r && wanted_in ws r) ≡ true → agree_on told (read_differs given) r ≡ true
  read_right read.Nothing h = refl
  read_right (read.Input n v) h = input_right n v (same_true value_code _ _ (not-not-true _ (and_parts _ _ h).0))
  read_right (read.Node n s) h = node_right n s (same_true state_code _ _ (not-not-true _ (and_parts _ _ h).0))
  read_right (read.Lookup t e) h = let a = and_parts _ _ h in lookup_right t e (same_true entry_code _ _ (not-not-true _ a.0)) a.1

  -- the news agree with the worlds on all that was read
  pub news_agree : (t : Term) (bound : Bound) → all_read (wanted_in ws) (trace given0 t bound) ≡ true → agrees told (read_differs given) (trace given0 t bound) ≡ true
  news_agree t bound h =
      all_read_implied (λ r. is_still given0 r && wanted_in ws r) (agree_on told (read_differs given)) read_right (trace given0 t bound)
      (all_read_together (is_still given0) (wanted_in ws) (trace given0 t bound) (still given0 t bound) h)
