-- What the terms of a sound program name is declared, and what they name and is declared is reported.
use Rattle.std.proofs.Common.{◌≡◌, ℕ, zero, suc, ◌+◌, List, [], ◌∷◌, ◌++◌, length, map, Bool, true, false, cond, Option, Some, None, refl, ap, sym, subst, ◌∙◌, arith}
use Rattle.std.specs.Prelude.{◌&&◌, ◌||◌, ◌==◌, nat_lt, is_some, slice_get, not, option_map}
use Rattle.std.specs.List.{filter, list_any}
use Rattle.std.specs.Option.{option_and_then}
use Rattle.std.specs.Str.{bytes_eq}
use Rattle.std.proofs.lemmas.Bool.{and_parts, eq-eqb, ltb-true, ltb-false, or_cases, or_left, or_right}
use Rattle.std.proofs.lemmas.Option.{slice_get_past}
use Rattle.std.proofs.lemmas.List.{length-map}
use Rattle.std.proofs.Common.{◌⊎◌, inl, inr}
use Rattle.value_core.specs.FunctionKinds.{kind_given}
use Rattle.value_core.specs.declared.value.Kind.{Kind}
use Rattle.value_core.specs.declared.value.Kind.TheVariants as kind
use Rattle.op_keys.specs.Levels.{rank}
use Rattle.op_keys.specs.declared.declarations.OpDecl.{OpDecl}
use Rattle.op_keys.specs.declared.level.Level.{Level}
use Rattle.term_core.specs.Limits.{parts_of}
use Rattle.op_keys.specs.Names.{index_named}
use Rattle.op_keys.proofs.Indices.{index_from}
use Rattle.term_core.specs.Soundness.{NamedKind, Typing, IsSound, bind_kind, build_kind, input_kind, is_op, item_kind, kinds_from, layer_kind, node_kinds, output_kind, small, term_kind, unit_of_units, wanted_kind}
use Rattle.value_core.specs.Kinds.{literal_kind}
use Rattle.term_core.specs.declared.program.InputDecl.{InputDecl}
use Rattle.term_core.specs.declared.program.NodeDecl.{NodeDecl}
use Rattle.term_core.specs.declared.program.Program.{Program}
use Rattle.term_core.specs.declared.program.Term.{Term, Term-F, roll-Term, map-Term, fold-roll-Term, ind-Term}
use Rattle.term_check.specs.Laws.{IsAtMost, Lists}
use Rattle.term_check.specs.Reports.{greatest_level, is_input as means_input, is_op as means_op, higher, in_some_node, is_used_op, names_here, numbers_where, report_of, some_term}
use Rattle.term_check.specs.declared.report.Role.{Role}
use Rattle.term_check.specs.declared.report.Role.TheVariants as role
use Rattle.value_core.proofs.Basics.{bytes_same}

-- ---- names of declarations

-- whether some declaration has a name
abbrev pub has_name : List (List ℕ) → List ℕ → Bool
has_name ms n = list_any (λ m. bytes_eq m n) ms

pub place_past : (at : ℕ) (ms : List (List ℕ)) (n : List ℕ) → has_name ms n ≡ false → index_named at ms n ≡ at + length ms
place_past at [] n e = omega arith
place_past at (m ∷ ms) n e =
    elim (bytes_eq m n) as (λ b. (b || has_name ms n) ≡ false → cond b at (index_named (at + 1) ms n) ≡ at + length (m ∷ ms))
    [ true ↦ λ no. absurd cc | false ↦ λ no. let h = place_past (at + 1) ms n no in omega (arith, h) ] e

-- ---- the numbers that are listed

later : (u : Bool) (at n : ℕ) (ns : List ℕ) → list_any (λ m. m == n) ns ≡ true → list_any (λ m. m == n) (cond u (at ∷ ns) ns) ≡ true
later true at n ns h = or_right (at == n) (list_any (λ m. m == n) ns) h
later false at n ns h = h

listed_by : {D : Type 0} (name : D → List ℕ) (used : List ℕ → Bool) (at : ℕ) (ds : List D) (n : List ℕ) → used n ≡ true → has_name (map name ds) n ≡ true →
    list_any (λ m. m == index_named at (map name ds) n) (numbers_where (λ d. used (name d)) at ds) ≡ true
listed_by name used at [] n is has = absurd cc
listed_by name used at (d ∷ ds) n is has =
    elim (bytes_eq (name d) n) as (λ b. bytes_eq (name d) n ≡ b → (b || has_name (map name ds) n) ≡ true →
    list_any (λ m. m == cond b at (index_named (at + 1) (map name ds) n)) (cond (used (name d)) (at ∷ numbers_where (λ d. used (name d)) (at + 1) ds) (numbers_where (λ d. used (name d)) (at + 1) ds)) ≡ true) [
      | true ↦ λ same has.
          let is_used : used (name d) ≡ true = ap used (bytes_same (name d) n same) ∙ is in
          ap (λ (u : Bool). list_any (λ m. m == at) (cond u (at ∷ numbers_where (λ d. used (name d)) (at + 1) ds) (numbers_where (λ d. used (name d)) (at + 1) ds))) is_used
          ∙ or_left (at == at) (list_any (λ m. m == at) (numbers_where (λ d. used (name d)) (at + 1) ds)) (eq-eqb at at refl)
      | false ↦ λ other has.
          later (used (name d)) at (index_named (at + 1) (map name ds) n) (numbers_where (λ d. used (name d)) (at + 1) ds) (listed_by name used (at + 1) ds n is has)
    ] refl has

-- ---- the operation at the place of a name

pub found_name : {D : Type 0} (name : D → List ℕ) (at : ℕ) (ds : List D) (n : List ℕ) (k : ℕ) (d : D) → index_named at (map name ds) n ≡ at + k → slice_get ds k ≡ Some d → bytes_eq (name d) n ≡ true
found_name name at [] n k d is e = absurd cc
found_name name at (x ∷ ds) n zero d is e =
    elim (bytes_eq (name x) n) as (λ b. bytes_eq (name x) n ≡ b → cond b at (index_named (at + 1) (map name ds) n) ≡ at + 0 → bytes_eq (name d) n ≡ true) [
      | true ↦ λ same is. let one : x ≡ d = cc in ap (λ y. bytes_eq (name y) n) (sym one) ∙ same
      | false ↦ λ other is. let h = index_from (at + 1) (map name ds) n in absurd (omega (arith, h, is))
    ] refl is
found_name name at (x ∷ ds) n (suc k) d is e =
    elim (bytes_eq (name x) n) as (λ b. cond b at (index_named (at + 1) (map name ds) n) ≡ at + suc k → bytes_eq (name d) n ≡ true) [
      | true ↦ λ is. absurd (omega (arith, is))
      | false ↦ λ is. found_name name (at + 1) ds n k d (omega (arith, is)) e
    ] is

-- ---- the greatest level

higher_keeps : (found : Option Level) (l m : Level) → IsAtMost found m → IsAtMost (Some (higher found l)) m
higher_keeps None l m h = absurd h
higher_keeps (Some g) l m h =
    elim (nat_lt (rank l) (rank g)) as (λ b. nat_lt (rank l) (rank g) ≡ b → IsAtMost (Some (cond b g l)) m)
    [ true ↦ λ below. h | false ↦ λ above. let over = ltb-false _ _ above in omega (arith, h, over) ] refl

higher_takes : (found : Option Level) (l : Level) → IsAtMost (Some (higher found l)) l
higher_takes None l = omega arith
higher_takes (Some g) l =
    elim (nat_lt (rank l) (rank g)) as (λ b. nat_lt (rank l) (rank g) ≡ b → IsAtMost (Some (cond b g l)) l)
    [ true ↦ λ below. let under = ltb-true _ _ below in omega (arith, under) | false ↦ λ above. omega arith ] refl

greatest_keeps : (found : Option Level) (ls : List Level) (m : Level) → IsAtMost found m → IsAtMost (greatest_level found ls) m
greatest_keeps found [] m h = h
greatest_keeps found (l ∷ ls) m h = greatest_keeps (Some (higher found l)) ls m (higher_keeps found l m h)

pub greatest_of_used : (used : OpDecl → Bool) (found : Option Level) (ds : List OpDecl) (k : ℕ) (d : OpDecl) → slice_get ds k ≡ Some d → used d ≡ true → IsAtMost (greatest_level found (map (λ d. d.level) (filter used ds))) d.level
greatest_of_used used found [] k d e u = absurd cc
greatest_of_used used found (x ∷ ds) zero d e u =
    let one : x ≡ d = cc in
    let is_used : used x ≡ true = ap used one ∙ u in
    let above : IsAtMost (Some (higher found x.level)) d.level = subst (λ (y : OpDecl). IsAtMost (Some (higher found x.level)) y.level) one (higher_takes found x.level) in
    subst (λ (b : Bool). IsAtMost (greatest_level found (map (λ d. d.level) (cond b (x ∷ filter used ds) (filter used ds)))) d.level) (sym is_used)
    (greatest_keeps (Some (higher found x.level)) (map (λ d. d.level) (filter used ds)) d.level above)
greatest_of_used used found (x ∷ ds) (suc k) d e u =
    elim (used x) as (λ b. IsAtMost (greatest_level found (map (λ d. d.level) (cond b (x ∷ filter used ds) (filter used ds)))) d.level)
    [ true ↦ greatest_of_used used (Some (higher found x.level)) ds k d e u | false ↦ greatest_of_used used found ds k d e u ]

-- ---- the names in terms that have a kind

abbrev pub names_in : Role → List ℕ → Term → Bool
names_in r n = some_term (names_here r n)

abbrev pub names_step : Role → List ℕ → Term-F Bool → Bool
names_step r n x = names_here r n x || list_any (λ b. b) (parts_of x)

-- whether a name is declared in its role
abbrev pub is_declared : Program → Role → List ℕ → Bool
is_declared p role.Input n = is_some (input_kind p n)
is_declared p role.Op n = has_name (map (λ d. d.name) p.ops) n

op_name : (test : OpDecl → Bool) (ds : List OpDecl) (n : List ℕ) → list_any (λ d. bytes_eq d.name n && test d) ds ≡ true → has_name (map (λ d. d.name) ds) n ≡ true
op_name test [] n e = e
op_name test (d ∷ ds) n e =
    elim (or_cases (bytes_eq d.name n && test d) (list_any (λ d. bytes_eq d.name n && test d) ds) e) as (λ _. has_name (map (λ d. d.name) (d ∷ ds)) n ≡ true) [
      | inl h ↦ or_left (bytes_eq d.name n) (has_name (map (λ d. d.name) ds) n) (and_parts (bytes_eq d.name n) (test d) h).0
      | inr h ↦ or_right (bytes_eq d.name n) (has_name (map (λ d. d.name) ds) n) (op_name test ds n h)
    ]

-- what has a kind behind another
pub record Behind {A : Type 0} (o : Option A) (f : A → Option Kind) (k : Kind) : Type 0 where
  pub first : A
  pub first_is : o ≡ Some first
  pub second_is : f first ≡ Some k

pub behind : {A : Type 0} (o : Option A) (f : A → Option Kind) (k : Kind) → option_and_then f o ≡ Some k → Behind o f k
behind (Some a) f k e = record { first = a; first_is = refl; second_is = e }
behind None f k e = absurd cc

input_declared : (r : Role) (p : Program) (n m : List ℕ) (k : Kind) → input_kind p m ≡ Some k → ((means_input r && bytes_eq m n) || false) ≡ true → is_declared p r n ≡ true
input_declared role.Input p n m k e u =
    let same : m ≡ n = bytes_same m n (elim (bytes_eq m n) as (λ b. (b || false) ≡ true → b ≡ true) [ true ↦ λ h. refl | false ↦ λ h. h ] u) in
    ap (λ (x : List ℕ). is_some (input_kind p x)) (sym same) ∙ ap is_some e
input_declared role.Op p n m k e u = absurd cc

op_declared : (r : Role) (p : Program) (n op : List ℕ) (output : Bool) → is_op p op output ≡ true → (means_op r && bytes_eq op n) ≡ true → is_declared p r n ≡ true
op_declared role.Input p n op output e u = absurd cc
op_declared role.Op p n op output e u =
    op_name (λ d. cond output d.output (not d.output)) p.ops n (subst (λ (x : List ℕ). is_op p x output ≡ true) (bytes_same op n u) e)

pub known_op : (b : Bool) (o : Option Kind) (k : Kind) → cond b o None ≡ Some k → (b ≡ true) × (o ≡ Some k)
known_op true o k e = (refl, e)
known_op false o k e = absurd cc

module _ (p : Program) (earlier : List Kind) (r : Role) (n : List ℕ) where
  abbrev AreDeclared : Term → Type 0
  AreDeclared t = (bound : List NamedKind) (k : Kind) → term_kind p earlier t bound ≡ Some k → names_in r n t ≡ true → is_declared p r n ≡ true

  abbrev OneDeclared : Typing → Bool → Type 0
  OneDeclared t b = (bound : List NamedKind) (k : Kind) → t bound ≡ Some k → b ≡ true → is_declared p r n ≡ true

  one_part : (b : Bool) → (false || (b || false)) ≡ true → b ≡ true
  one_part true e = refl
  one_part false e = e

  two_parts : (a b : Bool) → (false || (a || (b || false))) ≡ true → (a ≡ true) ⊎ (b ≡ true)
  two_parts true b e = inl refl
  two_parts false true e = inr refl
  two_parts false false e = absurd cc

  all_declared : {E : Type 0} (of : E → Term) → ((e : E) → AreDeclared (of e)) → (ts : List E) (bound : List NamedKind) (k : Kind) →
      unit_of_units (map (λ t. t bound) (map (term_kind p earlier) (map of ts))) ≡ Some k → list_any (λ b. b) (map (names_in r n) (map of ts)) ≡ true → is_declared p r n ≡ true
  all_declared of has [] bound k e u = absurd cc
  all_declared of has (t ∷ ts) bound k e u =
      let h = behind (option_and_then (wanted_kind kind.Unit) (term_kind p earlier (of t) bound)) (λ k. unit_of_units (map (λ t. t bound) (map (term_kind p earlier) (map of ts)))) k e in
      let g = behind (term_kind p earlier (of t) bound) (wanted_kind kind.Unit) h.first h.first_is in
      elim (or_cases (names_in r n (of t)) (list_any (λ b. b) (map (names_in r n) (map of ts))) u) as (λ _. is_declared p r n ≡ true)
      [ inl here ↦ has t bound g.first g.first_is here | inr there ↦ all_declared of has ts bound k h.second_is there ]

  layer_declared : {E : Type 0} (of : E → Term) → ((e : E) → AreDeclared (of e)) → (y : Term-F E) (bound : List NamedKind) (k : Kind) →
      layer_kind p earlier (map-Term Term Typing (term_kind p earlier) (map-Term E Term of y)) bound ≡ Some k → names_step r n (map-Term Term Bool (names_in r n) (map-Term E Term of y)) ≡ true → is_declared p r n ≡ true
  layer_declared of has (Term-F.Return v) bound k e u = absurd cc
  layer_declared of has (Term-F.Fail f m) bound k e u = absurd cc
  layer_declared of has (Term-F.Input m) bound k e u = input_declared r p n m k e u
  layer_declared of has (Term-F.Node m) bound k e u = absurd cc
  layer_declared of has (Term-F.Var m) bound k e u = absurd cc
  layer_declared of has (Term-F.Map f t) bound k e u =
      let h = behind (term_kind p earlier (of t) bound) (kind_given f) k e in has t bound h.first h.first_is (one_part _ u)
  layer_declared of has (Term-F.Pair a b) bound k e u =
      let h = behind (term_kind p earlier (of a) bound) (λ i. option_and_then (λ j. Some (kind.Pair i j)) (term_kind p earlier (of b) bound)) k e in
      let g = behind (term_kind p earlier (of b) bound) (λ j. Some (kind.Pair h.first j)) k h.second_is in
      elim (two_parts (names_in r n (of a)) (names_in r n (of b)) u) as (λ _. is_declared p r n ≡ true) [ inl x ↦ has a bound h.first h.first_is x | inr x ↦ has b bound g.first g.first_is x ]
  layer_declared of has (Term-F.Bind m a b) bound k e u =
      let h = behind (term_kind p earlier (of a) bound) (λ i. term_kind p earlier (of b) (bind_kind bound m i)) k e in
      elim (two_parts (names_in r n (of a)) (names_in r n (of b)) u) as (λ _. is_declared p r n ≡ true) [ inl x ↦ has a bound h.first h.first_is x | inr x ↦ has b (bind_kind bound m h.first) k h.second_is x ]
  layer_declared of has (Term-F.ListMap m a b) bound k e u =
      let h = behind (option_and_then item_kind (term_kind p earlier (of a) bound)) (λ i. option_and_then (λ j. Some (kind.List j)) (term_kind p earlier (of b) (bind_kind bound m i))) k e in
      let g = behind (term_kind p earlier (of a) bound) item_kind h.first h.first_is in
      let f = behind (term_kind p earlier (of b) (bind_kind bound m h.first)) (λ j. Some (kind.List j)) k h.second_is in
      elim (two_parts (names_in r n (of a)) (names_in r n (of b)) u) as (λ _. is_declared p r n ≡ true) [ inl x ↦ has a bound g.first g.first_is x | inr x ↦ has b (bind_kind bound m h.first) f.first f.first_is x ]
  layer_declared of has (Term-F.ListIter m a b) bound k e u =
      let h = behind (option_and_then item_kind (term_kind p earlier (of a) bound)) (λ i. option_and_then (wanted_kind kind.Unit) (term_kind p earlier (of b) (bind_kind bound m i))) k e in
      let g = behind (term_kind p earlier (of a) bound) item_kind h.first h.first_is in
      let f = behind (term_kind p earlier (of b) (bind_kind bound m h.first)) (wanted_kind kind.Unit) k h.second_is in
      elim (two_parts (names_in r n (of a)) (names_in r n (of b)) u) as (λ _. is_declared p r n ≡ true) [ inl x ↦ has a bound g.first g.first_is x | inr x ↦ has b (bind_kind bound m h.first) f.first f.first_is x ]
  layer_declared of has (Term-F.Catch t) bound k e u =
      let h = behind (term_kind p earlier (of t) bound) (λ i. Some (kind.Out i)) k e in has t bound h.first h.first_is (one_part _ u)
  layer_declared of has (Term-F.State t) bound k e u =
      let h = behind (term_kind p earlier (of t) bound) (λ i. Some (kind.Out i)) k e in has t bound h.first h.first_is (one_part _ u)
  layer_declared of has (Term-F.Gate a b) bound k e u =
      let h = behind (option_and_then (wanted_kind kind.Unit) (term_kind p earlier (of a) bound)) (λ i. term_kind p earlier (of b) bound) k e in
      let g = behind (term_kind p earlier (of a) bound) (wanted_kind kind.Unit) h.first h.first_is in
      elim (two_parts (names_in r n (of a)) (names_in r n (of b)) u) as (λ _. is_declared p r n ≡ true) [ inl x ↦ has a bound g.first g.first_is x | inr x ↦ has b bound k h.second_is x ]
  layer_declared of has (Term-F.All ts) bound k e u = all_declared of has ts bound k e u
  layer_declared of has (Term-F.Build op t) bound k e u =
      let o = known_op (is_op p op false) (build_kind (term_kind p earlier (of t) bound)) k e in
      let h = behind (option_and_then (wanted_kind kind.Text) (term_kind p earlier (of t) bound)) (λ i. Some kind.Text) k o.1 in
      let g = behind (term_kind p earlier (of t) bound) (wanted_kind kind.Text) h.first h.first_is in
      elim (or_cases (means_op r && bytes_eq op n) (names_in r n (of t) || false) u) as (λ _. is_declared p r n ≡ true)
      [ inl x ↦ op_declared r p n op false o.0 x | inr x ↦ has t bound g.first g.first_is (one_part _ x) ]
  layer_declared of has (Term-F.Output op a b) bound k e u =
      let o = known_op (is_op p op true) (output_kind (term_kind p earlier (of a) bound) (term_kind p earlier (of b) bound)) k e in
      let h = behind (option_and_then (wanted_kind kind.Text) (term_kind p earlier (of a) bound)) (λ i. option_and_then (λ v. Some kind.Unit) (option_and_then (wanted_kind kind.Text) (term_kind p earlier (of b) bound))) k o.1 in
      let g = behind (term_kind p earlier (of a) bound) (wanted_kind kind.Text) h.first h.first_is in
      let h' = behind (option_and_then (wanted_kind kind.Text) (term_kind p earlier (of b) bound)) (λ v. Some kind.Unit) k h.second_is in
      let g' = behind (term_kind p earlier (of b) bound) (wanted_kind kind.Text) h'.first h'.first_is in
      elim (or_cases (means_op r && bytes_eq op n) (names_in r n (of a) || (names_in r n (of b) || false)) u) as (λ _. is_declared p r n ≡ true) [
        | inl x ↦ op_declared r p n op true o.0 x
        | inr x ↦ elim (two_parts (names_in r n (of a)) (names_in r n (of b)) x) as (λ _. is_declared p r n ≡ true) [ inl y ↦ has a bound g.first g.first_is y | inr y ↦ has b bound g'.first g'.first_is y ]
      ]

  rolled_declared : (x : Term-F Term) → ((bound : List NamedKind) (k : Kind) → layer_kind p earlier (map-Term Term Typing (term_kind p earlier) x) bound ≡ Some k → names_step r n (map-Term Term Bool (names_in r n) x) ≡ true → is_declared p r n ≡ true) → AreDeclared (roll-Term x)
  unfolding term_kind
  rolled_declared x h bound k e u =
      let e' = sym (ap (λ (f : Typing). f bound) (fold-roll-Term Typing (λ y bound. option_and_then small (layer_kind p earlier y bound)) x)) ∙ e in
      let b = behind (layer_kind p earlier (map-Term Term Typing (term_kind p earlier) x) bound) small k e' in
      let u' = sym (fold-roll-Term Bool (names_step r n) x) ∙ u in
      h bound b.first b.first_is u'

  pub are_declared : (t : Term) → AreDeclared t
  are_declared = ind-Term AreDeclared (λ x y is. subst (λ z. AreDeclared (roll-Term z)) is (rolled_declared _ (layer_declared (λ e. e.0) (λ e. e.1) y)))

-- what some node of a program names is declared, where each node has a kind
pub nodes_declared : (p : Program) (r : Role) (n : List ℕ) (ds : List NodeDecl) (earlier : List Kind) → is_some (kinds_from p earlier ds) ≡ true → list_any (λ d. names_in r n d.term) ds ≡ true → is_declared p r n ≡ true
nodes_declared p r n [] earlier e u = absurd cc
nodes_declared p r n (d ∷ ds) earlier e u =
    elim (term_kind p earlier d.term []) as (λ o. term_kind p earlier d.term [] ≡ o → is_some (option_and_then (λ k. kinds_from p (earlier ++ k ∷ []) ds) o) ≡ true → is_declared p r n ≡ true) [
      | None ↦ λ is e. absurd cc
      | Some k ↦ λ is e.
          elim (or_cases (names_in r n d.term) (list_any (λ d. names_in r n d.term) ds) u) as (λ _. is_declared p r n ≡ true)
          [ inl here ↦ are_declared p earlier r n d.term [] k is here | inr there ↦ nodes_declared p r n ds (earlier ++ k ∷ []) e there ]
    ] refl e

-- ---- what a sound program names is reported

input_there : (p : Program) (n : List ℕ) → is_some (input_kind p n) ≡ true → has_name (map (λ d. d.name) p.inputs) n ≡ true
input_there p n e =
    elim (has_name (map (λ d. d.name) p.inputs) n) as (λ b. has_name (map (λ d. d.name) p.inputs) n ≡ b → b ≡ true) [
      | true ↦ λ is. refl
      | false ↦ λ is.
          let far = place_past 0 (map (λ d. d.name) p.inputs) n is in
          let same = length-map p.inputs (λ (d : InputDecl). d.name) in
          let gone : slice_get p.inputs (index_named 0 (map (λ d. d.name) p.inputs) n) ≡ None = slice_get_past p.inputs _ (omega (arith, far, same)) in
          let none : is_some (input_kind p n) ≡ false = ap (λ (o : Option InputDecl). is_some (option_map (λ d. literal_kind d.value) o)) gone in
          let no : true ≡ false = sym e ∙ none in cc
    ] refl

pub input_listed : (p : Program) → IsSound p → (n : List ℕ) → in_some_node (names_here role.Input n) p ≡ true → Lists (report_of p).inputs (index_named 0 (map (λ d. d.name) p.inputs) n)
unfolding report_of node_kinds
input_listed p sound n u =
    listed_by (λ (d : InputDecl). d.name) (λ m. in_some_node (names_here role.Input m) p) 0 p.inputs n u (input_there p n (nodes_declared p role.Input n p.nodes [] sound.kinds u))

pub op_listed : (p : Program) → IsSound p → (n : List ℕ) → in_some_node (names_here role.Op n) p ≡ true → Lists (report_of p).ops (index_named 0 (map (λ d. d.name) p.ops) n)
unfolding report_of node_kinds
op_listed p sound n u =
    listed_by (λ (d : OpDecl). d.name) (λ m. in_some_node (names_here role.Op m) p) 0 p.ops n u (nodes_declared p role.Op n p.nodes [] sound.kinds u)

pub level_reported : (p : Program) (n : List ℕ) (d : OpDecl) → in_some_node (names_here role.Op n) p ≡ true → slice_get p.ops (index_named 0 (map (λ d. d.name) p.ops) n) ≡ Some d → IsAtMost (report_of p).level d.level
unfolding report_of
level_reported p n d u e =
    let same : d.name ≡ n = bytes_same d.name n (found_name (λ (d : OpDecl). d.name) 0 p.ops n (index_named 0 (map (λ d. d.name) p.ops) n) d (omega arith) e) in
    greatest_of_used (is_used_op p) None p.ops (index_named 0 (map (λ d. d.name) p.ops) n) d e (ap (λ (m : List ℕ). in_some_node (names_here role.Op m) p) same ∙ u)
