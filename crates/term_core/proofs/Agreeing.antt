-- What evaluation comes to depends on the inputs and on the entries of the triples that are wanted.
use Rattle.std.proofs.Common.{◌≡◌, ℕ, ◌+◌, Bool, true, false, List, [], ◌∷◌, ◌++◌, map, refl, ap, sym, ◌∙◌, subst, slice_get, Option, Some, None}
use Rattle.std.specs.Prelude.{if◌then◌else◌, codes}
use Rattle.std.specs.List.{flat_map}
use Rattle.value_core.specs.declared.value.Value.{Value}
use Rattle.value_core.specs.declared.value.Value.TheVariants as value
use Rattle.value_core.specs.declared.function.Fun.{Fun}
use Rattle.value_core.specs.declared.state.State.{State}
use Rattle.value_core.specs.declared.state.State.TheVariants.{Fine, Failed, Active}
use Rattle.value_core.specs.declared.state.Triple.{Triple}
use Rattle.term_core.specs.declared.program.Program.{Program}
use Rattle.term_core.specs.declared.program.NodeDecl.{NodeDecl}
use Rattle.term_core.specs.declared.program.Term.{Term, Term-F, roll-Term, map-Term, fold-roll-Term, ind-Term}
use Rattle.term_core.specs.declared.context.Binding.{Binding}
use Rattle.term_core.specs.declared.entries.Entry.{Entry}
use Rattle.term_core.specs.States.{listed, passed, paired, mapped, caught, observed, gated}
use Rattle.value_core.specs.Parts.{text_in, items_in}
use Rattle.term_core.specs.World.{World}
use Rattle.term_core.specs.Runs.{Run, stated, visited, turned, after, follow, follow_both, then_do, then_both, together}
use Rattle.term_core.specs.Evaluation.{Context, context_of, Meaning, bind, fits, triple_of, entry_state, wanted, looked_up, map_run, pair_run, bind_run, items_run, list_run, outcome_run, gate_run, all_run, build_run, output_run, term_step, eval}
use Rattle.term_core.specs.Fresh.{decl_run, node_run, FreshRun, run_before, fresh_from, fresh}
use Rattle.term_core.specs.Laws.{Agree}

pub agree_left : (w v : World) (xs ys : List Triple) → Agree w v (xs ++ ys) → Agree w v xs
agree_left w v [] ys h = tt
agree_left w v (x ∷ xs) ys h = (h.0, agree_left w v xs ys h.1)

pub agree_right : (w v : World) (xs ys : List Triple) → Agree w v (xs ++ ys) → Agree w v ys
agree_right w v [] ys h = h
agree_right w v (x ∷ xs) ys h = agree_right w v xs ys h.1

-- the first run is the second, if the worlds agree on what it wants
abbrev pub Local : World → World → Run → Run → Type 0
Local w v r r' = Agree w v r.wants → r ≡ r'

turned_local : (w v : World) (turn : State → State) (r r' : Run) → Local w v r r' → Local w v (turned turn r) (turned turn r')
turned_local w v turn r r' h a = ap (turned turn) (h a)

-- a run behind another, whose own form depends on the first state
after_local : (w v : World) (r r' : Run) (made : State → State → State) (s s' : State → Run) → Local w v r r' → ((x : State) → Local w v (s x) (s' x)) →
    Local w v (after r (made r.state) (s r.state)) (after r' (made r'.state) (s' r'.state))
after_local w v r r' made s s' first later a =
    let e : s r.state ≡ s' r.state = later r.state (agree_right w v r.wants _ a) in
    let f : r ≡ r' = first (agree_left w v r.wants _ a) in
    ap (λ (z : Run). after r (made r.state) z) e ∙ ap (λ (x : Run). after x (made x.state) (s' x.state)) f

follow_local : (w v : World) (s : State) (next next' : Value → Run) → ((x : Value) → Local w v (next x) (next' x)) → Local w v (follow s next) (follow s next')
follow_local w v (Fine x) next next' h a = h x a
follow_local w v (Failed o m) next next' h a = refl
follow_local w v (Active o g) next next' h a = refl

then_local : (w v : World) (r r' : Run) (next next' : Value → Run) → Local w v r r' → ((x : Value) → Local w v (next x) (next' x)) → Local w v (then_do r next) (then_do r' next')
then_local w v r r' next next' first later = after_local w v r r' (λ x s. s) (λ x. follow x next) (λ x. follow x next') first (λ x. follow_local w v x next next' later)

follow_both_local : (w v : World) (s t : State) (next next' : Value → Value → Run) → ((x y : Value) → Local w v (next x y) (next' x y)) → Local w v (follow_both s t next) (follow_both s t next')
follow_both_local w v (Fine x) (Fine y) next next' h a = h x y a
follow_both_local w v (Fine x) (Failed o m) next next' h a = refl
follow_both_local w v (Fine x) (Active o g) next next' h a = refl
follow_both_local w v (Failed o m) t next next' h a = refl
follow_both_local w v (Active o g) t next next' h a = refl

then_both_local : (w v : World) (r r' s s' : Run) (next next' : Value → Value → Run) → Local w v r r' → Local w v s s' → ((x y : Value) → Local w v (next x y) (next' x y)) →
    Local w v (then_both r s next) (then_both r' s' next')
then_both_local w v r r' s s' next next' first second later =
    after_local w v r r' (λ x t. t) (λ x. after s (λ t. t) (follow_both x s.state next)) (λ x. after s' (λ t. t) (follow_both x s'.state next')) first
    (λ x. after_local w v s s' (λ y t. t) (λ y. follow_both x y next) (λ y. follow_both x y next') second (λ y. follow_both_local w v x y next next' later))

-- the same runs, one after the other
abbrev AllLocal : World → World → List Run → List Run → Type 0
AllLocal w v [] [] = Unit {0}
AllLocal w v [] (y ∷ ys) = ⊥
AllLocal w v (x ∷ xs) [] = ⊥
AllLocal w v (x ∷ xs) (y ∷ ys) = Local w v x y × AllLocal w v xs ys

runs_local : (w v : World) (rs rs' : List Run) → AllLocal w v rs rs' → Agree w v (flat_map (λ r. r.wants) rs) → rs ≡ rs'
runs_local w v [] [] h a = refl
runs_local w v [] (y ∷ ys) h a = absurd h
runs_local w v (x ∷ xs) [] h a = absurd h
runs_local w v (x ∷ xs) (y ∷ ys) h a =
    let e : x ≡ y = h.0 (agree_left w v x.wants _ a) in
    let f : xs ≡ ys = runs_local w v xs ys h.1 (agree_right w v x.wants _ a) in
    λ i. e i ∷ f i

together_local : (w v : World) (rs rs' : List Run) (made : List Value → State) → AllLocal w v rs rs' → Local w v (together rs made) (together rs' made)
together_local w v rs rs' made h a = ap (λ x. together x made) (runs_local w v rs rs' h a)

all_local : {X : Type 0} (w v : World) (f g : X → Run) → ((x : X) → Local w v (f x) (g x)) → (xs : List X) → AllLocal w v (map f xs) (map g xs)
all_local w v f g h [] = tt
all_local w v f g h (x ∷ xs) = (h x, all_local w v f g h xs)

module _ (program : Program) (node : ℕ) (inputs : List Value) (earlier : List State) (w v : World) where
  abbrev one : Context
  one = context_of program node inputs earlier w

  abbrev two : Context
  two = context_of program node inputs earlier v

  abbrev IsLocal : Term → Type 0
  IsLocal t = (env : List Binding) → Local w v (eval one t env) (eval two t env)

  visited_local : (r r' : Run) → Local w v r r' → Local w v (visited r) (visited r')
  visited_local r r' h a = ap visited (h a)

  map_local : (f : Fun) (t t' : Meaning) (env : List Binding) → Local w v (t env) (t' env) → Local w v (map_run one f t env) (map_run two f t' env)
  unfolding map_run
  map_local f t t' env h = visited_local _ _ (turned_local w v (mapped node f) (t env) (t' env) h)

  outcome_local : (turn : State → State) (t t' : Meaning) (env : List Binding) → Local w v (t env) (t' env) → Local w v (outcome_run turn t env) (outcome_run turn t' env)
  unfolding outcome_run
  outcome_local turn t t' env h = visited_local _ _ (turned_local w v turn (t env) (t' env) h)

  pair_local : (a b a' b' : Meaning) (env : List Binding) → Local w v (a env) (a' env) → Local w v (b env) (b' env) → Local w v (pair_run one a b env) (pair_run two a' b' env)
  unfolding pair_run
  pair_local a b a' b' env h k = visited_local _ _ (together_local w v (a env ∷ b env ∷ []) (a' env ∷ b' env ∷ []) (paired node) (h, (k, tt)))

  gate_local : (a b a' b' : Meaning) (env : List Binding) → Local w v (a env) (a' env) → Local w v (b env) (b' env) → Local w v (gate_run a b env) (gate_run a' b' env)
  unfolding gate_run
  gate_local a b a' b' env h k = visited_local _ _ (after_local w v (a env) (a' env) gated (λ x. b env) (λ x. b' env) h (λ x. k))

  bind_local : (n : List ℕ) (t u t' u' : Meaning) (env : List Binding) → Local w v (t env) (t' env) → ((env' : List Binding) → Local w v (u env') (u' env')) → Local w v (bind_run n t u env) (bind_run n t' u' env)
  unfolding bind_run
  bind_local n t u t' u' env h k = visited_local _ _ (then_local w v (t env) (t' env) (λ x. u (bind env n x)) (λ x. u' (bind env n x)) h (λ x. k (bind env n x)))

  items_local : (made : List Value → State) (n : List ℕ) (items : List Value) (u u' : Meaning) (env : List Binding) → ((env' : List Binding) → Local w v (u env') (u' env')) → Local w v (items_run made n items u env) (items_run made n items u' env)
  unfolding items_run
  items_local made n items u u' env k = together_local w v (map (λ x. u (bind env n x)) items) (map (λ x. u' (bind env n x)) items) made (all_local w v (λ x. u (bind env n x)) (λ x. u' (bind env n x)) (λ x. k (bind env n x)) items)

  list_local : (made : List Value → State) (n : List ℕ) (t u t' u' : Meaning) (env : List Binding) → Local w v (t env) (t' env) → ((env' : List Binding) → Local w v (u env') (u' env')) → Local w v (list_run made n t u env) (list_run made n t' u' env)
  unfolding list_run
  list_local made n t u t' u' env h k = visited_local _ _ (then_local w v (t env) (t' env) (λ x. items_run made n (items_in x) u env) (λ x. items_run made n (items_in x) u' env) h (λ x. items_local made n (items_in x) u u' env k))

  all_run_local : (rs rs' : List Run) → AllLocal w v rs rs' → Local w v (all_run rs) (all_run rs')
  unfolding all_run
  all_run_local rs rs' h = visited_local _ _ (together_local w v rs rs' passed h)

  -- a lookup by whether its order is short enough
  abbrev look : Bool → World → (List ℕ → Value) → Triple → Run
  look b z meant t = if b then wanted (context_of program node inputs earlier z) meant t else stated (Failed node (codes "order too long"))

  look_local : (b : Bool) (meant : List ℕ → Value) (t : Triple) → Local w v (look b w meant t) (look b v meant t)
  look_local true meant t a = ap (λ (e : Entry). let r : Run = record { state = entry_state node meant e; wants = t ∷ []; ticks = 0 } in r) a.0
  look_local false meant t a = refl

  looked_up_local : (meant : List ℕ → Value) (t : Triple) → Local w v (looked_up one meant t) (looked_up two meant t)
  unfolding looked_up
  looked_up_local meant t = look_local (fits (slice_get program.ops t.op) t) meant t

  build_local : (op : List ℕ) (k k' : Meaning) (env : List Binding) → Local w v (k env) (k' env) → Local w v (build_run one op k env) (build_run two op k' env)
  unfolding build_run
  build_local op k k' env h = visited_local _ _ (then_local w v (k env) (k' env) (λ x. looked_up one value.Words (triple_of one op (text_in x) [])) (λ x. looked_up two value.Words (triple_of two op (text_in x) [])) h (λ x. looked_up_local value.Words (triple_of one op (text_in x) [])))

  output_local : (op : List ℕ) (a b a' b' : Meaning) (env : List Binding) → Local w v (a env) (a' env) → Local w v (b env) (b' env) → Local w v (output_run one op a b env) (output_run two op a' b' env)
  unfolding output_run
  output_local op a b a' b' env h k =
      visited_local _ _ (then_both_local w v (a env) (a' env) (b env) (b' env) (λ x y. looked_up one (λ t. value.Unit) (triple_of one op (text_in x) (text_in y))) (λ x y. looked_up two (λ t. value.Unit) (triple_of two op (text_in x) (text_in y))) h k
      (λ x y. looked_up_local (λ t. value.Unit) (triple_of one op (text_in x) (text_in y))))

  children_local : {E : Type 0} (of : E → Term) → ((e : E) → IsLocal (of e)) → (ts : List E) (env : List Binding) →
      AllLocal w v (map (λ m. m env) (map (eval one) (map of ts))) (map (λ m. m env) (map (eval two) (map of ts)))
  children_local of has [] env = tt
  children_local of has (t ∷ ts) env = (has t env, children_local of has ts env)

  layer_local : {E : Type 0} (of : E → Term) → ((e : E) → IsLocal (of e)) → (y : Term-F E) (env : List Binding) →
      Local w v (term_step one (map-Term Term Meaning (eval one) (map-Term E Term of y)) env) (term_step two (map-Term Term Meaning (eval two) (map-Term E Term of y)) env)
  layer_local of has (Term-F.Return x) env = λ a. refl
  layer_local of has (Term-F.Fail k m) env = λ a. refl
  layer_local of has (Term-F.Input n) env = λ a. refl
  layer_local of has (Term-F.Node n) env = λ a. refl
  layer_local of has (Term-F.Var n) env = λ a. refl
  layer_local of has (Term-F.Map f t) env = map_local f _ _ env (has t env)
  layer_local of has (Term-F.Pair a b) env = pair_local _ _ _ _ env (has a env) (has b env)
  layer_local of has (Term-F.Bind n t u) env = bind_local n _ _ _ _ env (has t env) (has u)
  layer_local of has (Term-F.ListMap n t u) env = list_local (listed node) n _ _ _ _ env (has t env) (has u)
  layer_local of has (Term-F.ListIter n t u) env = list_local passed n _ _ _ _ env (has t env) (has u)
  layer_local of has (Term-F.Catch t) env = outcome_local caught _ _ env (has t env)
  layer_local of has (Term-F.State t) env = outcome_local observed _ _ env (has t env)
  layer_local of has (Term-F.Gate a b) env = gate_local _ _ _ _ env (has a env) (has b env)
  layer_local of has (Term-F.All ts) env = all_run_local _ _ (children_local of has ts env)
  layer_local of has (Term-F.Build op k) env = build_local op _ _ env (has k env)
  layer_local of has (Term-F.Output op a b) env = output_local op _ _ _ _ env (has a env) (has b env)

  rolled_local : (x : Term-F Term) → ((env : List Binding) → Local w v (term_step one (map-Term Term Meaning (eval one) x) env) (term_step two (map-Term Term Meaning (eval two) x) env)) → IsLocal (roll-Term x)
  rolled_local x h env a =
      let e = ap (λ (m : Meaning). m env) (fold-roll-Term Meaning (term_step one) x) in
      let f = ap (λ (m : Meaning). m env) (fold-roll-Term Meaning (term_step two) x) in
      e ∙ h env (subst (λ (r : Run). Agree w v r.wants) e a) ∙ sym f

  pub eval_local : (t : Term) → IsLocal t
  eval_local = ind-Term IsLocal (λ x y is. subst (λ z. IsLocal (roll-Term z)) is (rolled_local _ (layer_local (λ e. e.0) (λ e. e.1) y)))

pub decl_local : (program : Program) (node : ℕ) (inputs : List Value) (earlier : List State) (w v : World) (d : Option NodeDecl) →
    Local w v (decl_run (context_of program node inputs earlier w) d) (decl_run (context_of program node inputs earlier v) d)
decl_local program node inputs earlier w v None a = refl
decl_local program node inputs earlier w v (Some d) a = eval_local program node inputs earlier w v d.term [] a

pub node_local : (program : Program) (node : ℕ) (inputs : List Value) (earlier : List State) (w v : World) →
    Local w v (node_run (context_of program node inputs earlier w)) (node_run (context_of program node inputs earlier v))
node_local program node inputs earlier w v = decl_local program node inputs earlier w v (slice_get program.nodes node)

pub fresh_from_local : (program : Program) (inputs : List Value) (w v : World) (at : ℕ) (earlier : List State) (ds : List NodeDecl) →
    Agree w v (fresh_from program inputs w at earlier ds).wants → fresh_from program inputs w at earlier ds ≡ fresh_from program inputs v at earlier ds
fresh_from_local program inputs w v at earlier [] a = refl
fresh_from_local program inputs w v at earlier (d ∷ ds) a =
    let r : Run = eval (context_of program at inputs earlier w) d.term [] in
    let q : Run = eval (context_of program at inputs earlier v) d.term [] in
    let e : r ≡ q = eval_local program at inputs earlier w v d.term [] (agree_left w v r.wants _ a) in
    let f = fresh_from_local program inputs w v (at + 1) (earlier ++ r.state ∷ []) ds (agree_right w v r.wants _ a) in
    ap (λ (z : FreshRun). run_before r z) f
    ∙ ap (λ (x : Run). run_before x (fresh_from program inputs v (at + 1) (earlier ++ x.state ∷ []) ds)) e

pub fresh_local : (program : Program) (inputs : List Value) (w v : World) → Agree w v (fresh program inputs w).wants → fresh program inputs w ≡ fresh program inputs v
unfolding fresh
fresh_local program inputs w v a = fresh_from_local program inputs w v 0 [] program.nodes a
