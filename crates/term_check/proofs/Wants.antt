-- A term wants only triples of operations that it names.
use Rattle.std.proofs.Common.{◌≡◌, ℕ, List, [], ◌∷◌, ◌++◌, map, Bool, true, false, cond, refl, ap, sym, subst, ◌∙◌}
use Rattle.std.specs.Prelude.{◌||◌, codes, slice_get}
use Rattle.std.specs.List.{AllByRecursion, flat_map, list_any}
use Rattle.std.specs.Str.{bytes_eq}
use Rattle.std.proofs.lemmas.Bool.{or_left, or_right}
use Rattle.std.proofs.lemmas.Slice.Eq.{bytes_eq-Decides}
use Rattle.value_core.specs.Parts.{text_in, items_in}
use Rattle.value_core.specs.declared.function.Fun.{Fun}
use Rattle.value_core.specs.declared.state.State.{State}
use Rattle.value_core.specs.declared.state.State.TheVariants.{Fine, Failed, Active}
use Rattle.value_core.specs.declared.state.Triple.{Triple}
use Rattle.value_core.specs.declared.value.Value.{Value}
use Rattle.value_core.specs.declared.value.Value.TheVariants as value
use Rattle.term_core.specs.Evaluation.{Bound, Context, Meaning, bind, fits, triple_of, wanted, looked_up, map_run, pair_run, bind_run, items_run, list_run, outcome_run, gate_run, all_run, build_run, output_run, term_step, eval}
use Rattle.op_keys.specs.Names.{index_named}
use Rattle.term_core.specs.Runs.{Run, stated, after, follow, follow_both, then_do, then_both}
use Rattle.term_core.specs.States.{listed, passed, caught, observed, gated}
use Rattle.term_core.specs.declared.program.Term.{Term, Term-F, roll-Term, map-Term, fold-roll-Term, ind-Term}
use Rattle.term_check.specs.declared.report.Role.TheVariants as role
use Rattle.term_check.proofs.Named.{names_in, names_step}

pub all_both : {X : Type 0} (P : X → Type 0) (xs ys : List X) → AllByRecursion P xs → AllByRecursion P ys → AllByRecursion P (xs ++ ys)
all_both P [] ys h g = g
all_both P (x ∷ xs) ys h g = (h.0, all_both P xs ys h.1 g)

module _ (context : Context) (Q : ℕ → Type 0) where
  -- each triple that a run wants is of such an operation
  abbrev AreOf : Run → Type 0
  AreOf r = AllByRecursion (λ (t : Triple). Q t.op) r.wants

  after_of : (r s : Run) (made : State → State) → AreOf r → AreOf s → AreOf (after r made s)
  after_of r s made h g = all_both (λ (t : Triple). Q t.op) r.wants s.wants h g

  follow_of : (s : State) (next : Value → Run) → ((v : Value) → AreOf (next v)) → AreOf (follow s next)
  follow_of (Fine v) next h = h v
  follow_of (Failed o m) next h = tt
  follow_of (Active o g) next h = tt

  then_of : (r : Run) (next : Value → Run) → AreOf r → ((v : Value) → AreOf (next v)) → AreOf (then_do r next)
  then_of r next h g = after_of r (follow r.state next) (λ s. s) h (follow_of r.state next g)

  follow_both_of : (s t : State) (next : Value → Value → Run) → ((v w : Value) → AreOf (next v w)) → AreOf (follow_both s t next)
  follow_both_of (Fine v) (Fine w) next h = h v w
  follow_both_of (Fine v) (Failed o m) next h = tt
  follow_both_of (Fine v) (Active o g) next h = tt
  follow_both_of (Failed o m) t next h = tt
  follow_both_of (Active o g) t next h = tt

  then_both_of : (r s : Run) (next : Value → Value → Run) → AreOf r → AreOf s → ((v w : Value) → AreOf (next v w)) → AreOf (then_both r s next)
  then_both_of r s next h g k = after_of r (after s (λ t. t) (follow_both r.state s.state next)) (λ t. t) h (after_of s (follow_both r.state s.state next) (λ t. t) g (follow_both_of r.state s.state next k))

  runs_of : {X : Type 0} (f : X → Run) (xs : List X) → ((x : X) → AreOf (f x)) → AllByRecursion (λ (t : Triple). Q t.op) (flat_map (λ r. r.wants) (map f xs))
  runs_of f [] h = tt
  runs_of f (x ∷ xs) h = all_both (λ (t : Triple). Q t.op) (f x).wants (flat_map (λ r. r.wants) (map f xs)) (h x) (runs_of f xs h)

  look_of : (b : Bool) (meant : List ℕ → Value) (t : Triple) → Q t.op → AreOf (cond b (wanted context meant t) (stated (Failed context.node (codes "order too long"))))
  look_of true meant t q = (q, tt)
  look_of false meant t q = tt

  looked_up_of : (meant : List ℕ → Value) (t : Triple) → Q t.op → AreOf (looked_up context meant t)
  unfolding looked_up
  looked_up_of meant t q = look_of (fits (slice_get context.program.ops t.op) t) meant t q

  -- where an operation that a term names is such an operation
  abbrev IsOf : Term → Type 0
  IsOf t = ((n : List ℕ) → names_in role.Op n t ≡ true → Q (index_named 0 (map (λ d. d.name) context.program.ops) n)) → (bound : Bound) → AreOf (eval context t bound)

  map_of : (f : Fun) (t : Meaning) (bound : Bound) → AreOf (t bound) → AreOf (map_run context f t bound)
  unfolding map_run
  map_of f t bound h = h

  outcome_of : (turn : State → State) (t : Meaning) (bound : Bound) → AreOf (t bound) → AreOf (outcome_run turn t bound)
  unfolding outcome_run
  outcome_of turn t bound h = h

  pair_of : (a b : Meaning) (bound : Bound) → AreOf (a bound) → AreOf (b bound) → AreOf (pair_run context a b bound)
  unfolding pair_run
  pair_of a b bound h g = all_both (λ (t : Triple). Q t.op) (a bound).wants ((b bound).wants ++ []) h (all_both (λ (t : Triple). Q t.op) (b bound).wants [] g tt)

  gate_of : (a b : Meaning) (bound : Bound) → AreOf (a bound) → AreOf (b bound) → AreOf (gate_run a b bound)
  unfolding gate_run
  gate_of a b bound h g = after_of (a bound) (b bound) (gated (a bound).state) h g

  bind_of : (n : List ℕ) (a b : Meaning) (bound : Bound) → AreOf (a bound) → ((inner : Bound) → AreOf (b inner)) → AreOf (bind_run n a b bound)
  unfolding bind_run
  bind_of n a b bound h g = then_of (a bound) (λ v. b (bind bound n v)) h (λ v. g (bind bound n v))

  list_of : (made : List Value → State) (n : List ℕ) (a b : Meaning) (bound : Bound) → AreOf (a bound) → ((inner : Bound) → AreOf (b inner)) → AreOf (list_run made n a b bound)
  unfolding list_run items_run
  list_of made n a b bound h g = then_of (a bound) (λ v. items_run made n (items_in v) b bound) h (λ v. runs_of (λ x. b (bind bound n x)) (items_in v) (λ x. g (bind bound n x)))

  build_of : (op : List ℕ) (k : Meaning) (bound : Bound) → AreOf (k bound) → Q (index_named 0 (map (λ d. d.name) context.program.ops) op) → AreOf (build_run context op k bound)
  unfolding build_run
  build_of op k bound h q = then_of (k bound) (λ v. looked_up context value.Words (triple_of context op (text_in v) [])) h (λ v. looked_up_of value.Words (triple_of context op (text_in v) []) q)

  output_of : (op : List ℕ) (a b : Meaning) (bound : Bound) → AreOf (a bound) → AreOf (b bound) → Q (index_named 0 (map (λ d. d.name) context.program.ops) op) → AreOf (output_run context op a b bound)
  unfolding output_run
  output_of op a b bound h g q =
      then_both_of (a bound) (b bound) (λ v w. looked_up context (λ t. value.Unit) (triple_of context op (text_in v) (text_in w))) h g (λ v w. looked_up_of (λ t. value.Unit) (triple_of context op (text_in v) (text_in w)) q)

  abbrev AllNamed : Bool → List ℕ → Type 0
  AllNamed b n = b ≡ true → Q (index_named 0 (map (λ d. d.name) context.program.ops) n)

  all_of : {E : Type 0} (of : E → Term) → ((e : E) → IsOf (of e)) → (ts : List E) → ((n : List ℕ) → AllNamed (list_any (λ b. b) (map (names_in role.Op n) (map of ts))) n) → (bound : Bound) →
      AllByRecursion (λ (t : Triple). Q t.op) (flat_map (λ r. r.wants) (map (λ m. m bound) (map (eval context) (map of ts))))
  all_of of has [] q bound = tt
  all_of of has (t ∷ ts) q bound =
      all_both (λ (t : Triple). Q t.op) (eval context (of t) bound).wants (flat_map (λ r. r.wants) (map (λ m. m bound) (map (eval context) (map of ts))))
      (has t (λ n u. q n (or_left (names_in role.Op n (of t)) (list_any (λ b. b) (map (names_in role.Op n) (map of ts))) u)) bound)
      (all_of of has ts (λ n u. q n (or_right (names_in role.Op n (of t)) (list_any (λ b. b) (map (names_in role.Op n) (map of ts))) u)) bound)

  all_run_of : (rs : List Run) → AllByRecursion (λ (t : Triple). Q t.op) (flat_map (λ r. r.wants) rs) → AreOf (all_run rs)
  unfolding all_run
  all_run_of rs h = h

  itself : (n : List ℕ) → bytes_eq n n ≡ true
  itself n = (bytes_eq-Decides n n).1 refl

  layer_of : {E : Type 0} (of : E → Term) → ((e : E) → IsOf (of e)) → (y : Term-F E) → ((n : List ℕ) → AllNamed (names_step role.Op n (map-Term Term Bool (names_in role.Op n) (map-Term E Term of y))) n) → (bound : Bound) →
      AreOf (term_step context (map-Term Term Meaning (eval context) (map-Term E Term of y)) bound)
  layer_of of has (Term-F.Return v) q bound = tt
  layer_of of has (Term-F.Fail k m) q bound = tt
  layer_of of has (Term-F.Input n) q bound = tt
  layer_of of has (Term-F.Node n) q bound = tt
  layer_of of has (Term-F.Var n) q bound = tt
  layer_of of has (Term-F.Map f t) q bound = map_of f (eval context (of t)) bound (has t (λ n u. q n (or_left (names_in role.Op n (of t)) false u)) bound)
  layer_of of has (Term-F.Pair a b) q bound =
      pair_of (eval context (of a)) (eval context (of b)) bound (has a (λ n u. q n (or_left (names_in role.Op n (of a)) (names_in role.Op n (of b) || false) u)) bound)
      (has b (λ n u. q n (or_right (names_in role.Op n (of a)) (names_in role.Op n (of b) || false) (or_left (names_in role.Op n (of b)) false u))) bound)
  layer_of of has (Term-F.Bind m a b) q bound =
      bind_of m (eval context (of a)) (eval context (of b)) bound (has a (λ n u. q n (or_left (names_in role.Op n (of a)) (names_in role.Op n (of b) || false) u)) bound)
      (has b (λ n u. q n (or_right (names_in role.Op n (of a)) (names_in role.Op n (of b) || false) (or_left (names_in role.Op n (of b)) false u))))
  layer_of of has (Term-F.ListMap m a b) q bound =
      list_of (listed context.node) m (eval context (of a)) (eval context (of b)) bound (has a (λ n u. q n (or_left (names_in role.Op n (of a)) (names_in role.Op n (of b) || false) u)) bound)
      (has b (λ n u. q n (or_right (names_in role.Op n (of a)) (names_in role.Op n (of b) || false) (or_left (names_in role.Op n (of b)) false u))))
  layer_of of has (Term-F.ListIter m a b) q bound =
      list_of passed m (eval context (of a)) (eval context (of b)) bound (has a (λ n u. q n (or_left (names_in role.Op n (of a)) (names_in role.Op n (of b) || false) u)) bound)
      (has b (λ n u. q n (or_right (names_in role.Op n (of a)) (names_in role.Op n (of b) || false) (or_left (names_in role.Op n (of b)) false u))))
  layer_of of has (Term-F.Catch t) q bound = outcome_of caught (eval context (of t)) bound (has t (λ n u. q n (or_left (names_in role.Op n (of t)) false u)) bound)
  layer_of of has (Term-F.State t) q bound = outcome_of observed (eval context (of t)) bound (has t (λ n u. q n (or_left (names_in role.Op n (of t)) false u)) bound)
  layer_of of has (Term-F.Gate a b) q bound =
      gate_of (eval context (of a)) (eval context (of b)) bound (has a (λ n u. q n (or_left (names_in role.Op n (of a)) (names_in role.Op n (of b) || false) u)) bound)
      (has b (λ n u. q n (or_right (names_in role.Op n (of a)) (names_in role.Op n (of b) || false) (or_left (names_in role.Op n (of b)) false u))) bound)
  layer_of of has (Term-F.All ts) q bound = all_run_of (map (λ m. m bound) (map (eval context) (map of ts))) (all_of of has ts q bound)
  layer_of of has (Term-F.Build op k) q bound =
      build_of op (eval context (of k)) bound (has k (λ n u. q n (or_right (bytes_eq op n) (names_in role.Op n (of k) || false) (or_left (names_in role.Op n (of k)) false u))) bound)
      (q op (or_left (bytes_eq op op) (names_in role.Op op (of k) || false) (itself op)))
  layer_of of has (Term-F.Output op a b) q bound =
      output_of op (eval context (of a)) (eval context (of b)) bound
      (has a (λ n u. q n (or_right (bytes_eq op n) (names_in role.Op n (of a) || (names_in role.Op n (of b) || false)) (or_left (names_in role.Op n (of a)) (names_in role.Op n (of b) || false) u))) bound)
      (has b (λ n u. q n (or_right (bytes_eq op n) (names_in role.Op n (of a) || (names_in role.Op n (of b) || false)) (or_right (names_in role.Op n (of a)) (names_in role.Op n (of b) || false) (or_left (names_in role.Op n (of b)) false u)))) bound)
      (q op (or_left (bytes_eq op op) (names_in role.Op op (of a) || (names_in role.Op op (of b) || false)) (itself op)))

  rolled_of : (x : Term-F Term) → (((n : List ℕ) → AllNamed (names_step role.Op n (map-Term Term Bool (names_in role.Op n) x)) n) → (bound : Bound) → AreOf (term_step context (map-Term Term Meaning (eval context) x) bound)) → IsOf (roll-Term x)
  rolled_of x h q bound =
      let e = ap (λ (m : Meaning). m bound) (fold-roll-Term Meaning (term_step context) x) in
      subst AreOf (sym e) (h (λ n u. q n (fold-roll-Term Bool (names_step role.Op n) x ∙ u)) bound)

  pub wants_of : (t : Term) → IsOf t
  wants_of = ind-Term IsOf (λ x y is. subst (λ z. IsOf (roll-Term z)) is (rolled_of _ (layer_of (λ e. e.0) (λ e. e.1) y)))
