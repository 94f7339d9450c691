-- What a term comes to depends only on the inputs that it names.
use Rattle.std.proofs.Common.{◌≡◌, ℕ, List, [], ◌∷◌, map, Bool, true, false, refl, ap, sym, subst, ◌∙◌}
use Rattle.std.specs.Prelude.{◌||◌}
use Rattle.std.specs.List.{list_any}
use Rattle.std.specs.Str.{bytes_eq}
use Rattle.std.proofs.lemmas.Bool.{or_left, or_right}
use Rattle.std.proofs.lemmas.Slice.Eq.{bytes_eq-Decides}
use Rattle.value_core.specs.declared.state.State.{State}
use Rattle.value_core.specs.declared.value.Value.{Value}
use Rattle.term_core.specs.Evaluation.{Context, context_of, input_named, Meaning, looked_up, map_run, pair_run, bind_run, items_run, list_run, outcome_run, gate_run, all_run, build_run, output_run, term_step, eval}
use Rattle.term_core.specs.Runs.{stated, visited}
use Rattle.term_core.specs.States.{listed, passed, caught, observed}
use Rattle.term_core.specs.World.{World}
use Rattle.term_core.specs.declared.program.Program.{Program}
use Rattle.term_core.specs.declared.program.Term.{Term, Term-F, roll-Term, map-Term, fold-roll-Term, ind-Term}
use Rattle.value_core.specs.declared.state.State.TheVariants.{Fine}
use Rattle.term_check.specs.declared.report.Role.TheVariants as role
use Rattle.term_check.proofs.Named.{names_in, names_step}

module _ (program : Program) (node : ℕ) (inputs others : List Value) (earlier : List State) (w : World) where
  abbrev one : Context
  one = context_of program node inputs earlier w

  abbrev two : Context
  two = context_of program node others earlier w

  abbrev SameFor : Bool → List ℕ → Type 0
  SameFor b n = b ≡ true → input_named program.inputs inputs n ≡ input_named program.inputs others n

  abbrev IsSame : Term → Type 0
  IsSame t = ((n : List ℕ) → SameFor (names_in role.Input n t) n) → eval one t ≡ eval two t

  children : {E : Type 0} (of : E → Term) → ((e : E) → IsSame (of e)) → (ts : List E) → ((n : List ℕ) → SameFor (list_any (λ b. b) (map (names_in role.Input n) (map of ts))) n) →
      map (eval one) (map of ts) ≡ map (eval two) (map of ts)
  children of has [] q = refl
  children of has (t ∷ ts) q =
      let e : eval one (of t) ≡ eval two (of t) = has t (λ n u. q n (or_left (names_in role.Input n (of t)) (list_any (λ b. b) (map (names_in role.Input n) (map of ts))) u)) in
      let f : map (eval one) (map of ts) ≡ map (eval two) (map of ts) = children of has ts (λ n u. q n (or_right (names_in role.Input n (of t)) (list_any (λ b. b) (map (names_in role.Input n) (map of ts))) u)) in
      λ i. e i ∷ f i

  itself : (n : List ℕ) → bytes_eq n n ≡ true
  itself n = (bytes_eq-Decides n n).1 refl

  -- the premise for a first and a second part
  front : (a b : Term) → ((n : List ℕ) → SameFor (names_in role.Input n a || (names_in role.Input n b || false)) n) → (n : List ℕ) → SameFor (names_in role.Input n a) n
  front a b q n u = q n (or_left (names_in role.Input n a) (names_in role.Input n b || false) u)

  back : (a b : Term) → ((n : List ℕ) → SameFor (names_in role.Input n a || (names_in role.Input n b || false)) n) → (n : List ℕ) → SameFor (names_in role.Input n b) n
  back a b q n u = q n (or_right (names_in role.Input n a) (names_in role.Input n b || false) (or_left (names_in role.Input n b) false u))

  only : (a : Term) → ((n : List ℕ) → SameFor (names_in role.Input n a || false) n) → (n : List ℕ) → SameFor (names_in role.Input n a) n
  only a q n u = q n (or_left (names_in role.Input n a) false u)

  layer_same : {E : Type 0} (of : E → Term) → ((e : E) → IsSame (of e)) → (y : Term-F E) → ((n : List ℕ) → SameFor (names_step role.Input n (map-Term Term Bool (names_in role.Input n) (map-Term E Term of y))) n) →
      term_step one (map-Term Term Meaning (eval one) (map-Term E Term of y)) ≡ term_step two (map-Term Term Meaning (eval two) (map-Term E Term of y))
  unfolding map_run pair_run bind_run items_run list_run outcome_run gate_run all_run build_run output_run looked_up
  layer_same of has (Term-F.Return v) q = refl
  layer_same of has (Term-F.Fail k m) q = refl
  layer_same of has (Term-F.Input n) q = λ i bound. visited (stated (Fine (q n (or_left (bytes_eq n n) false (itself n)) i)))
  layer_same of has (Term-F.Node n) q = refl
  layer_same of has (Term-F.Var n) q = refl
  layer_same of has (Term-F.Map f t) q = ap (λ (m : Meaning). λ bound. map_run one f m bound) (has t (only (of t) q))
  layer_same of has (Term-F.Pair a b) q = λ i bound. pair_run one (has a (front (of a) (of b) q) i) (has b (back (of a) (of b) q) i) bound
  layer_same of has (Term-F.Bind n a b) q = λ i bound. bind_run n (has a (front (of a) (of b) q) i) (has b (back (of a) (of b) q) i) bound
  layer_same of has (Term-F.ListMap n a b) q = λ i bound. list_run (listed node) n (has a (front (of a) (of b) q) i) (has b (back (of a) (of b) q) i) bound
  layer_same of has (Term-F.ListIter n a b) q = λ i bound. list_run passed n (has a (front (of a) (of b) q) i) (has b (back (of a) (of b) q) i) bound
  layer_same of has (Term-F.Catch t) q = λ i bound. outcome_run caught (has t (only (of t) q) i) bound
  layer_same of has (Term-F.State t) q = λ i bound. outcome_run observed (has t (only (of t) q) i) bound
  layer_same of has (Term-F.Gate a b) q = λ i bound. gate_run (has a (front (of a) (of b) q) i) (has b (back (of a) (of b) q) i) bound
  layer_same of has (Term-F.All ts) q = λ i bound. all_run (map (λ t. t bound) (children of has ts q i))
  layer_same of has (Term-F.Build op k) q = λ i bound. build_run one op (has k (only (of k) q) i) bound
  layer_same of has (Term-F.Output op a b) q = λ i bound. output_run one op (has a (front (of a) (of b) q) i) (has b (back (of a) (of b) q) i) bound

  rolled_same : (x : Term-F Term) → (((n : List ℕ) → SameFor (names_step role.Input n (map-Term Term Bool (names_in role.Input n) x)) n) → term_step one (map-Term Term Meaning (eval one) x) ≡ term_step two (map-Term Term Meaning (eval two) x)) → IsSame (roll-Term x)
  rolled_same x h q =
      fold-roll-Term Meaning (term_step one) x
      ∙ h (λ n u. q n (fold-roll-Term Bool (names_step role.Input n) x ∙ u))
      ∙ sym (fold-roll-Term Meaning (term_step two) x)

  pub same_inputs : (t : Term) → IsSame t
  same_inputs = ind-Term IsSame (λ x y is. subst (λ z. IsSame (roll-Term z)) is (rolled_same _ (layer_same (λ e. e.0) (λ e. e.1) y)))
