-- Each triple that a sound program wants has a short key and a short value, and an order that fits.
use Rattle.std.proofs.Common.{◌≡◌, ℕ, zero, suc, ◌+◌, ◌≤◌, List, [], ◌∷◌, ◌++◌, length, map, sum, Bool, true, false, cond, Option, Some, None, refl, ap, sym, subst, ◌∙◌, arith}
use Rattle.std.specs.Prelude.{◌&&◌, codes, nat_lt, nat_le, slice_get}
use Rattle.std.specs.List.{AllByRecursion, flat_map, list_all}
use Rattle.std.specs.Str.{bytes_eq}
use Rattle.std.proofs.lemmas.Bool.{and_from, and_parts, le-leb, leb-true, ltb-false}
use Rattle.std.proofs.lemmas.List.{length-map}
use Rattle.std.proofs.lemmas.List.Sums.{sum_by-cons}
use Rattle.value_core.specs.Functions.{fn_value}
use Rattle.value_core.specs.Names.{is_name}
use Rattle.value_core.specs.Parts.{items_in, items_layer, text_in}
use Rattle.value_core.specs.Values.{weight_of}
use Rattle.value_core.specs.declared.function.Applied.{Applied}
use Rattle.value_core.specs.declared.function.Applied.TheVariants as applied
use Rattle.value_core.specs.declared.function.Fun.{Fun}
use Rattle.value_core.specs.declared.state.State.{State}
use Rattle.value_core.specs.declared.state.State.TheVariants.{Fine, Failed, Active}
use Rattle.value_core.specs.declared.state.Triple.{Triple}
use Rattle.value_core.specs.declared.value.Outcome.{Outcome, Outcome-F, out-Outcome, out-roll-Outcome}
use Rattle.value_core.specs.declared.value.Outcome.TheVariants as outcome
use Rattle.value_core.specs.declared.value.Value.{Value, Value-F, out-Value}
use Rattle.value_core.specs.declared.value.Value.TheVariants as value
use Rattle.op_keys.specs.Names.{index_named}
use Rattle.term_core.specs.Evaluation.{Bound, Context, Meaning, context_of, bind, fits, innermost, triple_of, entry_state, state_or_unit, value_or_unit, wanted, looked_up, map_run, pair_run, bind_run, items_run, list_run, outcome_run, gate_run, all_run, build_run, output_run, term_step, eval}
use Rattle.term_core.specs.Fresh.{fresh, fresh_from}
use Rattle.term_core.specs.Limits.{IsNodeWithin, has_good_words, is_literal, words_step}
use Rattle.term_core.specs.Runs.{Run, stated, after, follow, follow_both, then_do, then_both, together}
use Rattle.term_core.specs.States.{applied_state, both, caught, first_active, first_failed, gated, limited, listed, mapped, observed, or_else, paired, passed, values_in, weight_limit}
use Rattle.term_core.specs.World.{World, entry_of}
use Rattle.term_core.specs.declared.entries.Entry.{Entry}
use Rattle.term_core.specs.declared.entries.Entry.TheVariants as entry
use Rattle.term_core.specs.declared.program.InputDecl.{InputDecl}
use Rattle.term_core.specs.declared.program.NodeDecl.{NodeDecl}
use Rattle.term_core.specs.declared.program.Program.{Program}
use Rattle.term_core.specs.declared.program.Term.{Term, Term-F, roll-Term, map-Term, fold-roll-Term, ind-Term}
use Rattle.term_check.specs.Bounds.{AreProperInputs, HasShortEntries, IsShortEntry, is_bounded}
use Rattle.term_check.specs.Laws.{IsWantable, WantsOnlyWantable}
use Rattle.term_check.proofs.Proper.{entry_proper, literal_proper, values_few}
use Rattle.term_check.proofs.Small.{IsSmall, IsSmallApplied, bounded_at, bounded_out, items_few, layer_bounded, layer_weight, outcome_bounded_out, outcome_layer_bounded, outcome_layer_weight, outcome_weight_out, small_given, small_unit, small_words, text_short, weight_at, weight_out}
use Rattle.term_check.proofs.Wants.{all_both}

-- ---- values and states within the bounds, whatever their kinds

abbrev pub IsSmallState : State → Type 0
IsSmallState (Fine v) = IsSmall v
IsSmallState (Failed o m) = length m ≤ 65536
IsSmallState (Active o g) = Unit {0}

limited_small : (node : ℕ) (v : Value) → is_bounded v ≡ true → IsSmallState (limited node v)
limited_small node v b =
    elim (nat_lt weight_limit (weight_of v)) as (λ heavy. nat_lt weight_limit (weight_of v) ≡ heavy → IsSmallState (cond heavy (Failed node (codes "value too large")) (Fine v)))
    [ true ↦ λ e. omega arith | false ↦ λ e. record { bounded = b; light = ltb-false weight_limit (weight_of v) e } ] refl

applied_small : (node : ℕ) (a : Applied) → IsSmallApplied a → IsSmallState (applied_state node a)
applied_small node (applied.Fine v) h = h
applied_small node (applied.Bad m) h = h

mapped_small : (node : ℕ) (f : Fun) (s : State) → IsSmallState s → IsSmallState (mapped node f s)
mapped_small node f (Fine v) h = applied_small node (fn_value f v) (small_given f v (sym (bounded_out v) ∙ h.bounded) (subst (λ (n : ℕ). n ≤ weight_limit) (weight_out v) h.light))
mapped_small node f (Failed o m) h = h
mapped_small node f (Active o g) h = h

-- an outcome as a value, by its layer
outcome_small : (o : Outcome) (l : Outcome-F Outcome Value) → out-Outcome o ≡ l → outcome_layer_bounded l ≡ true → outcome_layer_weight l ≤ weight_limit → IsSmall (value.Out o)
outcome_small o l out b w = record {
  bounded = bounded_at (Value-F.Out o) (value.Out o) (value.rolls-Out o) ∙ outcome_bounded_out o ∙ ap outcome_layer_bounded out ∙ b;
  light = subst (λ (n : ℕ). n ≤ weight_limit) (sym (weight_at (Value-F.Out o) (value.Out o) (value.rolls-Out o) ∙ outcome_weight_out o ∙ ap outcome_layer_weight out)) w;
}

fine_small : (v : Value) → IsSmall v → IsSmall (value.Out (outcome.Fine v))
fine_small v h = outcome_small (outcome.Fine v) (Outcome-F.Fine v) (ap out-Outcome (sym (outcome.rolls-Fine v)) ∙ out-roll-Outcome (Outcome-F.Fine v)) h.bounded h.light

bad_small : (m : List ℕ) → length m ≤ 65536 → IsSmall (value.Out (outcome.Bad m))
bad_small m h = outcome_small (outcome.Bad m) (Outcome-F.Bad m) (ap out-Outcome (sym (outcome.rolls-Bad m)) ∙ out-roll-Outcome (Outcome-F.Bad m)) (le-leb (length m) 65536 h) (omega (arith, h))

going_small : IsSmall (value.Out outcome.Going)
going_small = outcome_small outcome.Going Outcome-F.Going (ap out-Outcome (sym outcome.rolls-Going) ∙ out-roll-Outcome Outcome-F.Going) refl (omega arith)

caught_small : (s : State) → IsSmallState s → IsSmallState (caught s)
caught_small (Fine v) h = fine_small v h
caught_small (Failed o m) h = bad_small m h
caught_small (Active o g) h = h

observed_small : (s : State) → IsSmallState s → IsSmallState (observed s)
observed_small (Fine v) h = fine_small v h
observed_small (Failed o m) h = bad_small m h
observed_small (Active o g) h = going_small

gated_small : (s t : State) → IsSmallState s → IsSmallState t → IsSmallState (gated s t)
gated_small (Fine v) t h g = g
gated_small (Failed o m) t h g = h
gated_small (Active o s) t h g = h

-- ---- several states

abbrev IsSmallOption : Option State → Type 0
IsSmallOption None = Unit {0}
IsSmallOption (Some s) = IsSmallState s

failed_small : (ss : List State) → AllByRecursion IsSmallState ss → IsSmallOption (first_failed ss)
failed_small [] h = tt
failed_small (Fine v ∷ ss) h = failed_small ss h.1
failed_small (Failed o m ∷ ss) h = h.0
failed_small (Active o g ∷ ss) h = failed_small ss h.1

active_small : (ss : List State) → IsSmallOption (first_active ss)
active_small [] = tt
active_small (Fine v ∷ ss) = active_small ss
active_small (Failed o m ∷ ss) = active_small ss
active_small (Active o g ∷ ss) = tt

or_small : (o : Option State) (s : State) → IsSmallOption o → IsSmallState s → IsSmallState (or_else o s)
or_small None s h g = g
or_small (Some t) s h g = h

values_small : (ss : List State) → AllByRecursion IsSmallState ss → AllByRecursion IsSmall (values_in ss)
values_small [] h = tt
values_small (Fine v ∷ ss) h = (h.0, values_small ss h.1)
values_small (Failed o m ∷ ss) h = values_small ss h.1
values_small (Active o g ∷ ss) h = values_small ss h.1

both_small : (ss : List State) (made : List Value → State) → AllByRecursion IsSmallState ss → IsSmallState (made (values_in ss)) → IsSmallState (both ss made)
both_small ss made h g = or_small (first_failed ss) (or_else (first_active ss) (made (values_in ss))) (failed_small ss h) (or_small (first_active ss) (made (values_in ss)) (active_small ss) g)

pair_small : (node : ℕ) (vs : List Value) → AllByRecursion IsSmall vs → IsSmallState (paired node vs)
pair_small node [] h = small_unit
pair_small node (v ∷ []) h = small_unit
pair_small node (v ∷ w ∷ vs) h = limited_small node (value.Pair v w) (bounded_at (Value-F.Pair v w) (value.Pair v w) (value.rolls-Pair v w) ∙ and_from (is_bounded v) (is_bounded w) h.0.bounded h.1.0.bounded)

all_bounded : (vs : List Value) → AllByRecursion IsSmall vs → list_all (λ b. b) (map is_bounded vs) ≡ true
all_bounded [] h = refl
all_bounded (v ∷ vs) h = and_from (is_bounded v) (list_all (λ b. b) (map is_bounded vs)) h.0.bounded (all_bounded vs h.1)

listed_small : (node : ℕ) (vs : List Value) → length vs ≤ 256 → AllByRecursion IsSmall vs → IsSmallState (listed node vs)
listed_small node vs few h =
    limited_small node (value.List vs)
    (bounded_at (Value-F.List vs) (value.List vs) (value.rolls-List vs) ∙ and_from (nat_le (length (map is_bounded vs)) 256) (list_all (λ b. b) (map is_bounded vs)) (le-leb _ 256 (let a = length-map vs is_bounded in omega (arith, a, few))) (all_bounded vs h))

each_small : (vs : List Value) → list_all (λ b. b) (map is_bounded vs) ≡ true → sum (map weight_of vs) ≤ weight_limit → AllByRecursion IsSmall vs
each_small [] b w = tt
each_small (v ∷ vs) b w =
    let p = and_parts (is_bounded v) (list_all (λ b. b) (map is_bounded vs)) b in
    let c = sum_by-cons (λ (x : ℕ). x) (weight_of v) (map weight_of vs) in
    (record { bounded = p.0; light = omega (arith, c, w) }, each_small vs p.1 (omega (arith, c, w)))

layer_items_small : (l : Value-F Outcome Value) → layer_bounded l ≡ true → layer_weight l ≤ weight_limit → AllByRecursion IsSmall (items_layer l)
layer_items_small (Value-F.List xs) b w = each_small xs (and_parts (nat_le (length (map is_bounded xs)) 256) (list_all (λ b. b) (map is_bounded xs)) b).1 (omega (arith, w))
layer_items_small (Value-F.Words t) b w = tt
layer_items_small (Value-F.Num n) b w = tt
layer_items_small Value-F.Unit b w = tt
layer_items_small (Value-F.Pair x y) b w = tt
layer_items_small (Value-F.Out o) b w = tt

items_small : (v : Value) → IsSmall v → AllByRecursion IsSmall (items_in v)
items_small v h = layer_items_small (out-Value v) (sym (bounded_out v) ∙ h.bounded) (subst (λ (n : ℕ). n ≤ weight_limit) (weight_out v) h.light)

few_items : (v : Value) → IsSmall v → length (items_in v) ≤ 256
few_items v h = items_few (out-Value v) (sym (bounded_out v) ∙ h.bounded)

short_text : (v : Value) → IsSmall v → length (text_in v) ≤ 65536
short_text v h = text_short (out-Value v) (sym (bounded_out v) ∙ h.bounded)

-- ---- names

value_at : (vs : List Value) (i : ℕ) → AllByRecursion IsSmall vs → IsSmall (value_or_unit (slice_get vs i))
value_at [] i h = small_unit
value_at (v ∷ vs) zero h = h.0
value_at (v ∷ vs) (suc i) h = value_at vs i h.1

state_at : (ss : List State) (i : ℕ) → AllByRecursion IsSmallState ss → IsSmallState (state_or_unit (slice_get ss i))
state_at [] i h = small_unit
state_at (s ∷ ss) zero h = h.0
state_at (s ∷ ss) (suc i) h = state_at ss i h.1

abbrev pub AreSmallBound : Bound → Type 0
AreSmallBound = AllByRecursion (λ b. IsSmall b.value)

bound_more : (bs : Bound) (n : List ℕ) (v : Value) → AreSmallBound bs → IsSmall v → AreSmallBound (bind bs n v)
bound_more [] n v h g = (g, tt)
bound_more (b ∷ bs) n v h g = (h.0, bound_more bs n v h.1 g)

innermost_small : (found : Value) (bs : Bound) (n : List ℕ) → IsSmall found → AreSmallBound bs → IsSmall (innermost found bs n)
innermost_small found [] n f h = f
innermost_small found (b ∷ bs) n f h =
    elim (bytes_eq b.name n) as (λ c. IsSmall (innermost (cond c b.value found) bs n)) [ true ↦ innermost_small b.value bs n h.0 h.1 | false ↦ innermost_small found bs n f h.1 ]

entry_small : (node : ℕ) (e : Entry) (meant : List ℕ → Value) → ((x : List ℕ) → length x ≤ 65536 → IsSmall (meant x)) → IsShortEntry e → IsSmallState (entry_state node meant e)
entry_small node (entry.Fine t) meant f h = f t h
entry_small node (entry.Bad m) meant f h = h
entry_small node (entry.Active s) meant f h = tt

-- ---- runs

-- the state is within the bounds, and each wanted triple may be wanted
pub record IsGoodRun (p : Program) (r : Run) : Type 0 where
  pub state : IsSmallState r.state
  pub wants : AllByRecursion (IsWantable p) r.wants

module _ (context : Context) (inputs_are : AllByRecursion IsSmall context.inputs) (states_are : AllByRecursion IsSmallState context.earlier) (entries_are : HasShortEntries context.world) where
  abbrev pub IsGood : Run → Type 0
  IsGood r = IsGoodRun context.program r

  after_good : (r s : Run) (made : State → State) → IsGood r → IsGood s → IsSmallState (made s.state) → IsGood (after r made s)
  after_good r s made h g m = record { state = m; wants = all_both (IsWantable context.program) r.wants s.wants h.wants g.wants }

  follow_good : (s : State) (next : Value → Run) → IsSmallState s → ((v : Value) → IsSmall v → IsGood (next v)) → IsGood (follow s next)
  follow_good (Fine v) next h g = g v h
  follow_good (Failed o m) next h g = record { state = h; wants = tt }
  follow_good (Active o a) next h g = record { state = h; wants = tt }

  then_good : (r : Run) (next : Value → Run) → IsGood r → ((v : Value) → IsSmall v → IsGood (next v)) → IsGood (then_do r next)
  then_good r next h g =
      let f = follow_good r.state next h.state g in after_good r (follow r.state next) (λ s. s) h f f.state

  follow_both_good : (s t : State) (next : Value → Value → Run) → IsSmallState s → IsSmallState t → ((v w : Value) → IsSmall v → IsSmall w → IsGood (next v w)) → IsGood (follow_both s t next)
  follow_both_good (Fine v) (Fine w) next h g f = f v w h g
  follow_both_good (Fine v) (Failed o m) next h g f = record { state = g; wants = tt }
  follow_both_good (Fine v) (Active o a) next h g f = record { state = g; wants = tt }
  follow_both_good (Failed o m) t next h g f = record { state = h; wants = tt }
  follow_both_good (Active o a) (Fine w) next h g f = record { state = h; wants = tt }
  follow_both_good (Active o a) (Failed p m) next h g f = record { state = g; wants = tt }
  follow_both_good (Active o a) (Active p b) next h g f = record { state = h; wants = tt }

  then_both_good : (r s : Run) (next : Value → Value → Run) → IsGood r → IsGood s → ((v w : Value) → IsSmall v → IsSmall w → IsGood (next v w)) → IsGood (then_both r s next)
  then_both_good r s next h g k =
      let f = follow_both_good r.state s.state next h.state g.state k in
      let i = after_good s (follow_both r.state s.state next) (λ t. t) g f f.state in
      after_good r (after s (λ t. t) (follow_both r.state s.state next)) (λ t. t) h i i.state

  -- several runs: their states, and their wants
  abbrev AreGood : List Run → Type 0
  AreGood rs = AllByRecursion IsSmallState (map (λ r. r.state) rs) × AllByRecursion (IsWantable context.program) (flat_map (λ r. r.wants) rs)

  runs_good : {X : Type 0} (f : X → Run) (xs : List X) (P : X → Type 0) → AllByRecursion P xs → ((x : X) → P x → IsGood (f x)) → AreGood (map f xs)
  runs_good f [] P all h = (tt, tt)
  runs_good f (x ∷ xs) P all h =
      let one = h x all.0 in
      let rest = runs_good f xs P all.1 h in
      ((one.state, rest.0), all_both (IsWantable context.program) (f x).wants (flat_map (λ r. r.wants) (map f xs)) one.wants rest.1)

  together_good : (rs : List Run) (made : List Value → State) → AreGood rs → IsSmallState (made (values_in (map (λ r. r.state) rs))) → IsGood (together rs made)
  together_good rs made h g = record { state = both_small (map (λ r. r.state) rs) made h.0 g; wants = h.1 }

  look_good : (b : Bool) (meant : List ℕ → Value) (t : Triple) → fits (slice_get context.program.ops t.op) t ≡ b → length t.key ≤ 65536 → length t.value ≤ 65536 → ((x : List ℕ) → length x ≤ 65536 → IsSmall (meant x)) →
      IsGood (cond b (wanted context meant t) (stated (Failed context.node (codes "order too long"))))
  look_good true meant t e k v f = record { state = entry_small context.node (entry_of context.world t) meant f (entry_proper context.world t entries_are); wants = (record { key = k; value = v; order = e }, tt) }
  look_good false meant t e k v f = record { state = omega arith; wants = tt }

  looked_up_good : (meant : List ℕ → Value) (t : Triple) → length t.key ≤ 65536 → length t.value ≤ 65536 → ((x : List ℕ) → length x ≤ 65536 → IsSmall (meant x)) → IsGood (looked_up context meant t)
  unfolding looked_up
  looked_up_good meant t k v f = look_good (fits (slice_get context.program.ops t.op) t) meant t refl k v f

  -- ---- terms

  abbrev pub IsGoodTerm : Term → Type 0
  IsGoodTerm t = (bound : Bound) → has_good_words t ≡ true → AreSmallBound bound → IsGood (eval context t bound)

  map_good : (f : Fun) (t : Meaning) (bound : Bound) → IsGood (t bound) → IsGood (map_run context f t bound)
  unfolding map_run
  map_good f t bound h = record { state = mapped_small context.node f (t bound).state h.state; wants = h.wants }

  caught_good : (t : Meaning) (bound : Bound) → IsGood (t bound) → IsGood (outcome_run caught t bound)
  unfolding outcome_run
  caught_good t bound h = record { state = caught_small (t bound).state h.state; wants = h.wants }

  observed_good : (t : Meaning) (bound : Bound) → IsGood (t bound) → IsGood (outcome_run observed t bound)
  unfolding outcome_run
  observed_good t bound h = record { state = observed_small (t bound).state h.state; wants = h.wants }

  pair_good : (a b : Meaning) (bound : Bound) → IsGood (a bound) → IsGood (b bound) → IsGood (pair_run context a b bound)
  unfolding pair_run
  pair_good a b bound h g =
      let ss : List State = (a bound).state ∷ (b bound).state ∷ [] in
      let all : AllByRecursion IsSmallState ss = (h.state, (g.state, tt)) in
      record {
        state = both_small ss (paired context.node) all (pair_small context.node (values_in ss) (values_small ss all));
        wants = all_both (IsWantable context.program) (a bound).wants ((b bound).wants ++ []) h.wants (all_both (IsWantable context.program) (b bound).wants [] g.wants tt);
      }

  gate_good : (a b : Meaning) (bound : Bound) → IsGood (a bound) → IsGood (b bound) → IsGood (gate_run a b bound)
  unfolding gate_run
  gate_good a b bound h g =
      let r = after_good (a bound) (b bound) (gated (a bound).state) h g (gated_small (a bound).state (b bound).state h.state g.state) in record { state = r.state; wants = r.wants }

  bind_good : (n : List ℕ) (a b : Meaning) (bound : Bound) → IsGood (a bound) → ((v : Value) → IsSmall v → IsGood (b (bind bound n v))) → IsGood (bind_run n a b bound)
  unfolding bind_run
  bind_good n a b bound h g = let r = then_good (a bound) (λ v. b (bind bound n v)) h g in record { state = r.state; wants = r.wants }

  list_map_good : (n : List ℕ) (a b : Meaning) (bound : Bound) → IsGood (a bound) → ((v : Value) → IsSmall v → IsGood (b (bind bound n v))) → IsGood (list_run (listed context.node) n a b bound)
  unfolding list_run items_run
  list_map_good n a b bound h g =
      let r = then_good (a bound) (λ v. together (map (λ x. b (bind bound n x)) (items_in v)) (listed context.node)) h
      (λ v small.
      let rs : List Run = map (λ x. b (bind bound n x)) (items_in v) in
      let ss : List State = map (λ r. r.state) rs in
      let all : AreGood rs = runs_good (λ x. b (bind bound n x)) (items_in v) IsSmall (items_small v small) g in
      let few : length (values_in ss) ≤ 256 =
      let x = values_few ss in let y = length-map rs (λ (r : Run). r.state) in let z = length-map (items_in v) (λ x. b (bind bound n x)) in let i = few_items v small in omega (arith, x, y, z, i) in
      together_good rs (listed context.node) all (listed_small context.node (values_in ss) few (values_small ss all.0))) in
      record { state = r.state; wants = r.wants }

  list_iter_good : (n : List ℕ) (a b : Meaning) (bound : Bound) → IsGood (a bound) → ((v : Value) → IsSmall v → IsGood (b (bind bound n v))) → IsGood (list_run passed n a b bound)
  unfolding list_run items_run
  list_iter_good n a b bound h g =
      let r = then_good (a bound) (λ v. together (map (λ x. b (bind bound n x)) (items_in v)) passed) h
      (λ v small. together_good (map (λ x. b (bind bound n x)) (items_in v)) passed (runs_good (λ x. b (bind bound n x)) (items_in v) IsSmall (items_small v small) g) small_unit) in
      record { state = r.state; wants = r.wants }

  all_run_good : (rs : List Run) → AreGood rs → IsGood (all_run rs)
  unfolding all_run
  all_run_good rs h = let r = together_good rs passed h small_unit in record { state = r.state; wants = r.wants }

  build_good : (op : List ℕ) (k : Meaning) (bound : Bound) → IsGood (k bound) → IsGood (build_run context op k bound)
  unfolding build_run
  build_good op k bound h =
      let r = then_good (k bound) (λ v. looked_up context value.Words (triple_of context op (text_in v) [])) h
      (λ v small. looked_up_good value.Words (triple_of context op (text_in v) []) (short_text v small) (omega arith) small_words) in
      record { state = r.state; wants = r.wants }

  output_good : (op : List ℕ) (a b : Meaning) (bound : Bound) → IsGood (a bound) → IsGood (b bound) → IsGood (output_run context op a b bound)
  unfolding output_run
  output_good op a b bound h g =
      let r = then_both_good (a bound) (b bound) (λ v w. looked_up context (λ t. value.Unit) (triple_of context op (text_in v) (text_in w))) h g
      (λ v w sv sw. looked_up_good (λ t. value.Unit) (triple_of context op (text_in v) (text_in w)) (short_text v sv) (short_text w sw) (λ t short. small_unit)) in
      record { state = r.state; wants = r.wants }

  all_good : {E : Type 0} (of : E → Term) → ((e : E) → IsGoodTerm (of e)) → (ts : List E) (bound : Bound) → list_all (λ b. b) (map has_good_words (map of ts)) ≡ true → AreSmallBound bound →
      AreGood (map (λ m. m bound) (map (eval context) (map of ts)))
  all_good of has [] bound good h = (tt, tt)
  all_good of has (t ∷ ts) bound good h =
      let g = and_parts (has_good_words (of t)) (list_all (λ b. b) (map has_good_words (map of ts))) good in
      let one = has t bound g.0 h in
      let rest = all_good of has ts bound g.1 h in
      ((one.state, rest.0), all_both (IsWantable context.program) (eval context (of t) bound).wants (flat_map (λ r. r.wants) (map (λ m. m bound) (map (eval context) (map of ts)))) one.wants rest.1)

  small_literal : (v : Value) → is_literal v ≡ true → IsSmall v
  small_literal v h = let p = literal_proper v h in record { bounded = p.bounded; light = p.light }

  layer_good : {E : Type 0} (of : E → Term) → ((e : E) → IsGoodTerm (of e)) → (y : Term-F E) (bound : Bound) → words_step (map-Term Term Bool has_good_words (map-Term E Term of y)) ≡ true → AreSmallBound bound →
      IsGood (term_step context (map-Term Term Meaning (eval context) (map-Term E Term of y)) bound)
  layer_good of has (Term-F.Return v) bound good h = record { state = small_literal v good; wants = tt }
  layer_good of has (Term-F.Fail f m) bound good h = record { state = leb-true (length m) 65536 good; wants = tt }
  layer_good of has (Term-F.Input n) bound good h = record { state = value_at context.inputs (index_named 0 (map (λ d. d.name) context.program.inputs) n) inputs_are; wants = tt }
  layer_good of has (Term-F.Node n) bound good h = record { state = state_at context.earlier (index_named 0 (map (λ d. d.name) context.program.nodes) n) states_are; wants = tt }
  layer_good of has (Term-F.Var n) bound good h = record { state = innermost_small value.Unit bound n small_unit h; wants = tt }
  layer_good of has (Term-F.Map f t) bound good h = map_good f (eval context (of t)) bound (has t bound good h)
  layer_good of has (Term-F.Pair a b) bound good h =
      let g = and_parts (has_good_words (of a)) (has_good_words (of b)) good in
      pair_good (eval context (of a)) (eval context (of b)) bound (has a bound g.0 h) (has b bound g.1 h)
  layer_good of has (Term-F.Bind n a b) bound good h =
      let g = and_parts (has_good_words (of a)) (has_good_words (of b)) (and_parts (is_name n) (has_good_words (of a) && has_good_words (of b)) good).1 in
      bind_good n (eval context (of a)) (eval context (of b)) bound (has a bound g.0 h) (λ v small. has b (bind bound n v) g.1 (bound_more bound n v h small))
  layer_good of has (Term-F.ListMap n a b) bound good h =
      let g = and_parts (has_good_words (of a)) (has_good_words (of b)) (and_parts (is_name n) (has_good_words (of a) && has_good_words (of b)) good).1 in
      list_map_good n (eval context (of a)) (eval context (of b)) bound (has a bound g.0 h) (λ v small. has b (bind bound n v) g.1 (bound_more bound n v h small))
  layer_good of has (Term-F.ListIter n a b) bound good h =
      let g = and_parts (has_good_words (of a)) (has_good_words (of b)) (and_parts (is_name n) (has_good_words (of a) && has_good_words (of b)) good).1 in
      list_iter_good n (eval context (of a)) (eval context (of b)) bound (has a bound g.0 h) (λ v small. has b (bind bound n v) g.1 (bound_more bound n v h small))
  layer_good of has (Term-F.Catch t) bound good h = caught_good (eval context (of t)) bound (has t bound good h)
  layer_good of has (Term-F.State t) bound good h = observed_good (eval context (of t)) bound (has t bound good h)
  layer_good of has (Term-F.Gate a b) bound good h =
      let g = and_parts (has_good_words (of a)) (has_good_words (of b)) good in
      gate_good (eval context (of a)) (eval context (of b)) bound (has a bound g.0 h) (has b bound g.1 h)
  layer_good of has (Term-F.All ts) bound good h = all_run_good (map (λ m. m bound) (map (eval context) (map of ts))) (all_good of has ts bound good h)
  layer_good of has (Term-F.Build op t) bound good h =
      let g = and_parts (is_name op) (has_good_words (of t)) good in build_good op (eval context (of t)) bound (has t bound g.1 h)
  layer_good of has (Term-F.Output op a b) bound good h =
      let g = and_parts (has_good_words (of a)) (has_good_words (of b)) (and_parts (is_name op) (has_good_words (of a) && has_good_words (of b)) good).1 in
      output_good op (eval context (of a)) (eval context (of b)) bound (has a bound g.0 h) (has b bound g.1 h)

  rolled_good : (x : Term-F Term) → ((bound : Bound) → words_step (map-Term Term Bool has_good_words x) ≡ true → AreSmallBound bound → IsGood (term_step context (map-Term Term Meaning (eval context) x) bound)) → IsGoodTerm (roll-Term x)
  rolled_good x h bound good small =
      subst IsGood (sym (ap (λ (m : Meaning). m bound) (fold-roll-Term Meaning (term_step context) x))) (h bound (sym (fold-roll-Term Bool words_step x) ∙ good) small)

  pub terms_good : (t : Term) → IsGoodTerm t
  terms_good = ind-Term IsGoodTerm (λ x y is. subst (λ z. IsGoodTerm (roll-Term z)) is (rolled_good _ (layer_good (λ e. e.0) (λ e. e.1) y)))

-- ---- all nodes

states_more : (ss : List State) (s : State) → AllByRecursion IsSmallState ss → IsSmallState s → AllByRecursion IsSmallState (ss ++ s ∷ [])
states_more [] s h g = (g, tt)
states_more (t ∷ ss) s h g = (h.0, states_more ss s h.1 g)

nodes_good : (p : Program) (inputs : List Value) (w : World) → AllByRecursion IsSmall inputs → HasShortEntries w → (at : ℕ) (earlier : List State) (ds : List NodeDecl) → AllByRecursion IsSmallState earlier → AllByRecursion IsNodeWithin ds →
    AllByRecursion (IsWantable p) (fresh_from p inputs w at earlier ds).wants
nodes_good p inputs w i e at earlier [] h within = tt
nodes_good p inputs w i e at earlier (d ∷ ds) h within =
    let r : Run = eval (context_of p at inputs earlier w) d.term [] in
    let one = terms_good (context_of p at inputs earlier w) i h e d.term [] within.0.words tt in
    all_both (IsWantable p) r.wants (fresh_from p inputs w (at + 1) (earlier ++ r.state ∷ []) ds).wants one.wants
    (nodes_good p inputs w i e (at + 1) (earlier ++ r.state ∷ []) ds (states_more earlier r.state h one.state) within.1)

inputs_small : (ds : List InputDecl) (vs : List Value) → AreProperInputs ds vs → AllByRecursion IsSmall vs
inputs_small [] [] h = tt
inputs_small [] (v ∷ vs) h = absurd h
inputs_small (d ∷ ds) [] h = absurd h
inputs_small (d ∷ ds) (v ∷ vs) h = (record { bounded = h.0.bounded; light = h.0.light }, inputs_small ds vs h.1)

pub wants_wantable : WantsOnlyWantable
unfolding fresh
wants_wantable p inputs w sound i e = nodes_good p inputs w (inputs_small p.inputs inputs i) e 0 [] p.nodes tt sound.within.nodes
