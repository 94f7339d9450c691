-- Over inputs of their kinds and entries with short texts, a term that has a kind comes to a value of it, within the bounds.
use Rattle.std.proofs.Common.{◌≡◌, ℕ, zero, suc, ◌+◌, ◌≤◌, List, [], ◌∷◌, ◌++◌, length, map, sum, Bool, true, false, cond, Option, Some, None, refl, ap, sym, subst, ◌∙◌, append-nil, append_assoc, arith}
use Rattle.std.specs.Prelude.{◌&&◌, codes, nat_lt, nat_le, slice_get, option_map}
use Rattle.std.specs.List.{AllByRecursion, list_all}
use Rattle.std.specs.Option.{option_and_then}
use Rattle.std.specs.Str.{bytes_eq}
use Rattle.std.proofs.lemmas.Bool.{and_from, and_parts, le-leb, leb-true, ltb-false}
use Rattle.std.proofs.lemmas.List.{length-map}
use Rattle.std.proofs.lemmas.List.Sums.{sum_by-cons}
use Rattle.value_core.specs.Codes.{kind_code}
use Rattle.value_core.specs.FunctionKinds.{IsOfKind, kind_given}
use Rattle.value_core.specs.Functions.{fn_value}
use Rattle.value_core.specs.Parts.{items_in, items_layer, text_in}
use Rattle.value_core.specs.Same.{same}
use Rattle.value_core.specs.Values.{fits_kind, layer_fits, outcome_fits, weight_of}
use Rattle.value_core.specs.declared.function.Applied.{Applied}
use Rattle.value_core.specs.declared.function.Applied.TheVariants as applied
use Rattle.value_core.specs.declared.function.Fun.{Fun}
use Rattle.value_core.specs.declared.state.State.{State}
use Rattle.value_core.specs.declared.state.State.TheVariants.{Fine, Failed, Active}
use Rattle.value_core.specs.declared.state.Triple.{Triple}
use Rattle.value_core.specs.declared.value.Kind.{Kind, Kind-F, out-Kind, roll-Kind, roll-out-Kind, map-Kind}
use Rattle.value_core.specs.declared.value.Kind.TheVariants as kind
use Rattle.value_core.specs.declared.value.Outcome.{Outcome, Outcome-F, out-Outcome, out-roll-Outcome}
use Rattle.value_core.specs.declared.value.Outcome.TheVariants as outcome
use Rattle.value_core.specs.declared.value.Value.{Value, Value-F, out-Value, roll-Value}
use Rattle.value_core.specs.declared.value.Value.TheVariants as value
use Rattle.value_core.proofs.KindLaws.{kept}
use Rattle.value_core.proofs.Sames.{same_true}
use Rattle.term_core.specs.Evaluation.{Bound, Context, context_of, Meaning, bind, fits, innermost, triple_of, entry_state, state_or_unit, value_or_unit, wanted, looked_up, map_run, pair_run, bind_run, items_run, list_run, outcome_run, gate_run, all_run, build_run, output_run, term_step, eval}
use Rattle.term_core.specs.Fresh.{fresh, fresh_from}
use Rattle.term_core.specs.Limits.{IsNodeWithin, has_good_words, is_literal, is_literal_layer, is_text_layer, words_step}
use Rattle.value_core.specs.Names.{is_name}
use Rattle.op_keys.specs.Names.{index_named}
use Rattle.term_core.specs.Runs.{Run, stated, follow, follow_both, together}
use Rattle.term_core.specs.Soundness.{NamedKind, Typing, bind_kind, build_kind, innermost_kind, is_op, item_kind, item_layer_kind, kind_parts, kinds_from, layer_kind, node_kinds, output_kind, small, term_kind, unit_of_units, wanted_kind}
use Rattle.value_core.specs.Kinds.{literal_layer_kind, literal_kind}
use Rattle.term_core.specs.States.{applied_state, both, caught, first_active, first_failed, gated, limited, listed, mapped, observed, or_else, paired, passed, values_in, weight_limit}
use Rattle.term_core.specs.World.{World, entry_of, found_in}
use Rattle.value_core.specs.Orders.{same_triple}
use Rattle.term_core.specs.declared.entries.Entry.{Entry}
use Rattle.term_core.specs.declared.entries.Entry.TheVariants as entry
use Rattle.term_core.specs.declared.program.InputDecl.{InputDecl}
use Rattle.term_core.specs.declared.program.NodeDecl.{NodeDecl}
use Rattle.term_core.specs.declared.program.Program.{Program}
use Rattle.term_core.specs.declared.program.Term.{Term, Term-F, roll-Term, map-Term, fold-roll-Term, ind-Term}
use Rattle.term_check.specs.Bounds.{AreProperInputs, AreProperStates, HasShortEntries, IsProper, IsProperState, IsShortEntry, is_bounded}
use Rattle.term_check.specs.Laws.{SoundStatesHaveTheirKinds}
use Rattle.term_check.proofs.Named.{behind, known_op}
use Rattle.term_check.proofs.Small.{text_short, IsSmallApplied, bounded_at, bounded_out, layer_bounded, layer_weight, outcome_bounded_out, outcome_layer_bounded, outcome_layer_weight, outcome_weight_out, small_given, small_unit, small_words, weight_at, weight_out}
use Rattle.value_core.proofs.Layers.{fits_layer, out_at}

-- ---- values of kinds by their layers

-- a value's layer fits a kind's
abbrev Fits : Kind-F Kind → Value-F Outcome Value → Type 0
Fits l m = layer_fits (map-Kind Kind (Value → Bool) fits_kind l) m ≡ true

made : (l : Kind-F Kind) (k : Kind) (m : Value-F Outcome Value) (v : Value) → roll-Kind l ≡ k → roll-Value m ≡ v → Fits l m → fits_kind k v ≡ true
made l k m v ek ev h = fits_layer l k ek v ∙ ap (λ (x : Value-F Outcome Value). layer_fits (map-Kind Kind (Value → Bool) fits_kind l) x) (out_at m v ev) ∙ h

proper_words : (t : List ℕ) → length t ≤ 65536 → IsProper kind.Text (value.Words t)
proper_words t h = let s = small_words t h in record { of_kind = made Kind-F.Text kind.Text (Value-F.Words t) (value.Words t) kind.rolls-Text (value.rolls-Words t) refl; bounded = s.bounded; light = s.light }

proper_unit : IsProper kind.Unit value.Unit
proper_unit = record { of_kind = made Kind-F.Unit kind.Unit Value-F.Unit value.Unit kind.rolls-Unit value.rolls-Unit refl; bounded = small_unit.bounded; light = small_unit.light }

-- ---- literals

text_item : (l : Value-F Outcome Value) → is_text_layer l ≡ true → (layer_fits Kind-F.Text l ≡ true) × (layer_bounded l ≡ true)
text_item (Value-F.Words t) h = (refl, h)
text_item (Value-F.Num n) h = absurd cc
text_item Value-F.Unit h = absurd cc
text_item (Value-F.Pair a b) h = absurd cc
text_item (Value-F.List xs) h = absurd cc
text_item (Value-F.Out o) h = absurd cc

all_texts : (xs : List Value) → list_all (λ x. is_text_layer (out-Value x)) xs ≡ true → (list_all (fits_kind kind.Text) xs ≡ true) × (list_all (λ b. b) (map is_bounded xs) ≡ true)
all_texts [] h = (refl, refl)
all_texts (x ∷ xs) h =
    let p = and_parts (is_text_layer (out-Value x)) (list_all (λ x. is_text_layer (out-Value x)) xs) h in
    let r = all_texts xs p.1 in
    let one = text_item (out-Value x) p.0 in (
      and_from (fits_kind kind.Text x) (list_all (fits_kind kind.Text) xs) (fits_layer Kind-F.Text kind.Text kind.rolls-Text x ∙ one.0) r.0,
      and_from (is_bounded x) (list_all (λ b. b) (map is_bounded xs)) (bounded_out x ∙ one.1) r.1,
    )

-- a literal's layer fits the literal's kind; its number is that of a machine word
literal_fits : (l : Value-F Outcome Value) (v : Value) → out-Value v ≡ l → is_literal_layer l ≡ true → fits_kind (literal_layer_kind l) v ≡ true
literal_fits (Value-F.Words t) v e h = fits_layer Kind-F.Text kind.Text kind.rolls-Text v ∙ ap (layer_fits Kind-F.Text) e
literal_fits (Value-F.Num n) v e h = fits_layer Kind-F.Num kind.Num kind.rolls-Num v ∙ ap (layer_fits Kind-F.Num) e
literal_fits Value-F.Unit v e h = fits_layer Kind-F.Unit kind.Unit kind.rolls-Unit v ∙ ap (layer_fits Kind-F.Unit) e
literal_fits (Value-F.List xs) v e h =
    fits_layer (Kind-F.List kind.Text) (kind.List kind.Text) (kind.rolls-List kind.Text) v
    ∙ ap (layer_fits (Kind-F.List (fits_kind kind.Text))) e
    ∙ (all_texts xs (and_parts (nat_le (length xs) 256) (list_all (λ x. is_text_layer (out-Value x)) xs) h).1).0
literal_fits (Value-F.Pair a b) v e h = absurd cc
literal_fits (Value-F.Out o) v e h = absurd cc

pub literal_bounded : (l : Value-F Outcome Value) → is_literal_layer l ≡ true → layer_bounded l ≡ true
literal_bounded (Value-F.Words t) h = h
literal_bounded (Value-F.Num n) h = h
literal_bounded Value-F.Unit h = refl
literal_bounded (Value-F.List xs) h =
    let p = and_parts (nat_le (length xs) 256) (list_all (λ x. is_text_layer (out-Value x)) xs) h in
    and_from (nat_le (length (map is_bounded xs)) 256) (list_all (λ b. b) (map is_bounded xs)) (ap (λ (n : ℕ). nat_le n 256) (length-map xs is_bounded) ∙ p.0) (all_texts xs p.1).1
literal_bounded (Value-F.Pair a b) h = absurd cc
literal_bounded (Value-F.Out o) h = absurd cc

pub literal_proper : (v : Value) → is_literal v ≡ true → IsProper (literal_kind v) v
literal_proper v h =
    let p = and_parts (is_literal_layer (out-Value v)) (nat_le (weight_of v) weight_limit) h in
    record { of_kind = literal_fits (out-Value v) v refl p.0; bounded = bounded_out v ∙ literal_bounded (out-Value v) p.0; light = leb-true (weight_of v) weight_limit p.1 }

-- ---- states

limited_proper : (node : ℕ) (k : Kind) (v : Value) → fits_kind k v ≡ true → is_bounded v ≡ true → IsProperState k (limited node v)
limited_proper node k v f b =
    elim (nat_lt weight_limit (weight_of v)) as (λ heavy. nat_lt weight_limit (weight_of v) ≡ heavy → IsProperState k (cond heavy (Failed node (codes "value too large")) (Fine v)))
    [ true ↦ λ e. omega arith | false ↦ λ e. record { of_kind = f; bounded = b; light = ltb-false weight_limit (weight_of v) e } ] refl

applied_proper : (node : ℕ) (k : Kind) (a : Applied) → IsOfKind k a → IsSmallApplied a → IsProperState k (applied_state node a)
applied_proper node k (applied.Fine v) h s = record { of_kind = h; bounded = s.bounded; light = s.light }
applied_proper node k (applied.Bad m) h s = s

mapped_proper : (node : ℕ) (f : Fun) (k to : Kind) (s : State) → kind_given f k ≡ Some to → IsProperState k s → IsProperState to (mapped node f s)
mapped_proper node f k to (Fine v) e h =
    applied_proper node to (fn_value f v) (kept f k to v e h.of_kind) (small_given f v (sym (bounded_out v) ∙ h.bounded) (subst (λ (n : ℕ). n ≤ weight_limit) (weight_out v) h.light))
mapped_proper node f k to (Failed o m) e h = h
mapped_proper node f k to (Active o g) e h = h

-- an outcome as a value
fine_outcome : (k : Kind) (v : Value) → IsProper k v → IsProper (kind.Out k) (value.Out (outcome.Fine v))
fine_outcome k v h =
    let out : out-Outcome (outcome.Fine v) ≡ Outcome-F.Fine v = ap out-Outcome (sym (outcome.rolls-Fine v)) ∙ out-roll-Outcome (Outcome-F.Fine v) in
    record {
      of_kind = made (Kind-F.Out k) (kind.Out k) (Value-F.Out (outcome.Fine v)) (value.Out (outcome.Fine v)) (kind.rolls-Out k) (value.rolls-Out (outcome.Fine v)) (ap (outcome_fits (fits_kind k)) out ∙ h.of_kind);
      bounded = bounded_at (Value-F.Out (outcome.Fine v)) (value.Out (outcome.Fine v)) (value.rolls-Out (outcome.Fine v)) ∙ outcome_bounded_out (outcome.Fine v) ∙ ap outcome_layer_bounded out ∙ h.bounded;
      light =
          let w = weight_at (Value-F.Out (outcome.Fine v)) (value.Out (outcome.Fine v)) (value.rolls-Out (outcome.Fine v)) ∙ outcome_weight_out (outcome.Fine v) ∙ ap outcome_layer_weight out in
          subst (λ (n : ℕ). n ≤ weight_limit) (sym w) h.light;
    }

bad_outcome : (k : Kind) (m : List ℕ) → length m ≤ 65536 → IsProper (kind.Out k) (value.Out (outcome.Bad m))
bad_outcome k m h =
    let out : out-Outcome (outcome.Bad m) ≡ Outcome-F.Bad m = ap out-Outcome (sym (outcome.rolls-Bad m)) ∙ out-roll-Outcome (Outcome-F.Bad m) in
    record {
      of_kind = made (Kind-F.Out k) (kind.Out k) (Value-F.Out (outcome.Bad m)) (value.Out (outcome.Bad m)) (kind.rolls-Out k) (value.rolls-Out (outcome.Bad m)) (ap (outcome_fits (fits_kind k)) out);
      bounded = bounded_at (Value-F.Out (outcome.Bad m)) (value.Out (outcome.Bad m)) (value.rolls-Out (outcome.Bad m)) ∙ outcome_bounded_out (outcome.Bad m) ∙ ap outcome_layer_bounded out ∙ le-leb (length m) 65536 h;
      light =
          let w = weight_at (Value-F.Out (outcome.Bad m)) (value.Out (outcome.Bad m)) (value.rolls-Out (outcome.Bad m)) ∙ outcome_weight_out (outcome.Bad m) ∙ ap outcome_layer_weight out in
          omega (arith, w, h);
    }

going_outcome : (k : Kind) → IsProper (kind.Out k) (value.Out outcome.Going)
going_outcome k =
    let out : out-Outcome outcome.Going ≡ Outcome-F.Going = ap out-Outcome (sym outcome.rolls-Going) ∙ out-roll-Outcome Outcome-F.Going in
    record {
      of_kind = made (Kind-F.Out k) (kind.Out k) (Value-F.Out outcome.Going) (value.Out outcome.Going) (kind.rolls-Out k) (value.rolls-Out outcome.Going) (ap (outcome_fits (fits_kind k)) out);
      bounded = bounded_at (Value-F.Out outcome.Going) (value.Out outcome.Going) (value.rolls-Out outcome.Going) ∙ outcome_bounded_out outcome.Going ∙ ap outcome_layer_bounded out;
      light =
          let w = weight_at (Value-F.Out outcome.Going) (value.Out outcome.Going) (value.rolls-Out outcome.Going) ∙ outcome_weight_out outcome.Going ∙ ap outcome_layer_weight out in
          omega (arith, w);
    }

caught_proper : (k : Kind) (s : State) → IsProperState k s → IsProperState (kind.Out k) (caught s)
caught_proper k (Fine v) h = fine_outcome k v h
caught_proper k (Failed o m) h = bad_outcome k m h
caught_proper k (Active o g) h = h

observed_proper : (k : Kind) (s : State) → IsProperState k s → IsProperState (kind.Out k) (observed s)
observed_proper k (Fine v) h = fine_outcome k v h
observed_proper k (Failed o m) h = bad_outcome k m h
observed_proper k (Active o g) h = going_outcome k

gated_proper : (k l : Kind) (s t : State) → IsProperState k s → IsProperState l t → IsProperState l (gated s t)
gated_proper k l (Fine v) t h g = g
gated_proper k l (Failed o m) t h g = h
gated_proper k l (Active o s) t h g = h

pair_proper : (node : ℕ) (k l : Kind) (v w : Value) → IsProper k v → IsProper l w → IsProperState (kind.Pair k l) (limited node (value.Pair v w))
pair_proper node k l v w h g =
    limited_proper node (kind.Pair k l) (value.Pair v w)
    (made (Kind-F.Pair k l) (kind.Pair k l) (Value-F.Pair v w) (value.Pair v w) (kind.rolls-Pair k l) (value.rolls-Pair v w) (and_from (fits_kind k v) (fits_kind l w) h.of_kind g.of_kind))
    (bounded_at (Value-F.Pair v w) (value.Pair v w) (value.rolls-Pair v w) ∙ and_from (is_bounded v) (is_bounded w) h.bounded g.bounded)

paired_proper : (node : ℕ) (k l : Kind) (s t : State) → IsProperState k s → IsProperState l t → IsProperState (kind.Pair k l) (both (s ∷ t ∷ []) (paired node))
paired_proper node k l (Fine v) (Fine w) h g = pair_proper node k l v w h g
paired_proper node k l (Fine v) (Failed o m) h g = g
paired_proper node k l (Fine v) (Active o s) h g = g
paired_proper node k l (Failed o m) (Fine w) h g = h
paired_proper node k l (Failed o m) (Failed p n) h g = h
paired_proper node k l (Failed o m) (Active p s) h g = h
paired_proper node k l (Active o s) (Fine w) h g = h
paired_proper node k l (Active o s) (Failed p m) h g = g
paired_proper node k l (Active o s) (Active p r) h g = h

-- ---- several states

-- a state that may be missing
abbrev IsProperOption : Kind → Option State → Type 0
IsProperOption k None = Unit {0}
IsProperOption k (Some s) = IsProperState k s

failed_proper : (k to : Kind) (ss : List State) → AllByRecursion (IsProperState k) ss → IsProperOption to (first_failed ss)
failed_proper k to [] h = tt
failed_proper k to (Fine v ∷ ss) h = failed_proper k to ss h.1
failed_proper k to (Failed o m ∷ ss) h = h.0
failed_proper k to (Active o g ∷ ss) h = failed_proper k to ss h.1

active_proper : (k to : Kind) (ss : List State) → AllByRecursion (IsProperState k) ss → IsProperOption to (first_active ss)
active_proper k to [] h = tt
active_proper k to (Fine v ∷ ss) h = active_proper k to ss h.1
active_proper k to (Failed o m ∷ ss) h = active_proper k to ss h.1
active_proper k to (Active o g ∷ ss) h = tt

or_proper : (k : Kind) (o : Option State) (s : State) → IsProperOption k o → IsProperState k s → IsProperState k (or_else o s)
or_proper k None s h g = g
or_proper k (Some t) s h g = h

values_proper : (k : Kind) (ss : List State) → AllByRecursion (IsProperState k) ss → AllByRecursion (IsProper k) (values_in ss)
values_proper k [] h = tt
values_proper k (Fine v ∷ ss) h = (h.0, values_proper k ss h.1)
values_proper k (Failed o m ∷ ss) h = values_proper k ss h.1
values_proper k (Active o g ∷ ss) h = values_proper k ss h.1

pub values_few : (ss : List State) → length (values_in ss) ≤ length ss
values_few [] = omega arith
values_few (Fine v ∷ ss) = let h = values_few ss in omega (arith, h)
values_few (Failed o m ∷ ss) = let h = values_few ss in omega (arith, h)
values_few (Active o g ∷ ss) = let h = values_few ss in omega (arith, h)

both_proper : (k to : Kind) (ss : List State) (made : List Value → State) → AllByRecursion (IsProperState k) ss → IsProperState to (made (values_in ss)) → IsProperState to (both ss made)
both_proper k to ss made h g =
    or_proper to (first_failed ss) (or_else (first_active ss) (made (values_in ss))) (failed_proper k to ss h) (or_proper to (first_active ss) (made (values_in ss)) (active_proper k to ss h) g)

items_fit : (k : Kind) (vs : List Value) → AllByRecursion (IsProper k) vs → (list_all (fits_kind k) vs ≡ true) × (list_all (λ b. b) (map is_bounded vs) ≡ true)
items_fit k [] h = (refl, refl)
items_fit k (v ∷ vs) h =
    let r = items_fit k vs h.1 in
    (and_from (fits_kind k v) (list_all (fits_kind k) vs) h.0.of_kind r.0, and_from (is_bounded v) (list_all (λ b. b) (map is_bounded vs)) h.0.bounded r.1)

listed_proper : (node : ℕ) (k : Kind) (vs : List Value) → length vs ≤ 256 → AllByRecursion (IsProper k) vs → IsProperState (kind.List k) (listed node vs)
listed_proper node k vs few h =
    let r = items_fit k vs h in
    limited_proper node (kind.List k) (value.List vs)
    (made (Kind-F.List k) (kind.List k) (Value-F.List vs) (value.List vs) (kind.rolls-List k) (value.rolls-List vs) r.0)
    (bounded_at (Value-F.List vs) (value.List vs) (value.rolls-List vs) ∙ and_from (nat_le (length (map is_bounded vs)) 256) (list_all (λ b. b) (map is_bounded vs)) (le-leb _ 256 (let a = length-map vs is_bounded in omega (arith, a, few))) r.1)

-- the items of a list are of its items' kind, and few
pub record AreItems (k : Kind) (vs : List Value) : Type 0 where
  pub few : length vs ≤ 256
  pub proper : AllByRecursion (IsProper k) vs

each_light : (vs : List Value) (limit : ℕ) → sum (map weight_of vs) ≤ limit → AllByRecursion (λ v. weight_of v ≤ limit) vs
each_light [] limit h = tt
each_light (v ∷ vs) limit h =
    let c = sum_by-cons (λ (x : ℕ). x) (weight_of v) (map weight_of vs) in (omega (arith, c), each_light vs limit (omega (arith, c)))

items_from : (k : Kind) (vs : List Value) → list_all (fits_kind k) vs ≡ true → list_all (λ b. b) (map is_bounded vs) ≡ true → AllByRecursion (λ v. weight_of v ≤ weight_limit) vs → AllByRecursion (IsProper k) vs
items_from k [] f b w = tt
items_from k (v ∷ vs) f b w =
    let p = and_parts (fits_kind k v) (list_all (fits_kind k) vs) f in
    let q = and_parts (is_bounded v) (list_all (λ b. b) (map is_bounded vs)) b in
    (record { of_kind = p.0; bounded = q.0; light = w.0 }, items_from k vs p.1 q.1 w.1)

layer_items : (k : Kind) (l : Value-F Outcome Value) → Fits (Kind-F.List k) l → layer_bounded l ≡ true → layer_weight l ≤ weight_limit → AreItems k (items_layer l)
layer_items k (Value-F.List xs) f b w =
    let p = and_parts (nat_le (length (map is_bounded xs)) 256) (list_all (λ b. b) (map is_bounded xs)) b in
    record { few = (let a = length-map xs is_bounded in let c = leb-true _ 256 p.0 in omega (arith, a, c)); proper = items_from k xs f p.1 (each_light xs weight_limit (omega arith)) }
layer_items k (Value-F.Words t) f b w = absurd cc
layer_items k (Value-F.Num n) f b w = absurd cc
layer_items k Value-F.Unit f b w = absurd cc
layer_items k (Value-F.Pair x y) f b w = absurd cc
layer_items k (Value-F.Out o) f b w = absurd cc

list_items : (k a : Kind) (l : Kind-F Kind) (v : Value) → roll-Kind l ≡ k → item_layer_kind l ≡ Some a → IsProper k v → AreItems a (items_in v)
list_items k a (Kind-F.List b) v e is h =
    let same : b ≡ a = cc in
    layer_items a (out-Value v) (subst (λ (c : Kind). Fits (Kind-F.List c) (out-Value v)) same (sym (fits_layer (Kind-F.List b) k e v) ∙ h.of_kind))
    (sym (bounded_out v) ∙ h.bounded) (subst (λ (n : ℕ). n ≤ weight_limit) (weight_out v) h.light)
list_items k a Kind-F.Text v e is h = absurd cc
list_items k a Kind-F.Num v e is h = absurd cc
list_items k a Kind-F.Unit v e is h = absurd cc
list_items k a (Kind-F.Pair b c) v e is h = absurd cc
list_items k a (Kind-F.Out b) v e is h = absurd cc

text_of_text : (v : Value) → IsProper kind.Text v → length (text_in v) ≤ 65536
text_of_text v h = text_short (out-Value v) (sym (bounded_out v) ∙ h.bounded)

-- ---- names

found_proper : (es : List (Triple × Entry)) (other : Entry) (t : Triple) → AllByRecursion (λ e. IsShortEntry e.1) es → IsShortEntry other → IsShortEntry (found_in es other t)
found_proper [] other t h o = o
found_proper (e ∷ es) other t h o =
    elim (same_triple e.0 t) as (λ b. IsShortEntry (cond b e.1 (found_in es other t))) [ true ↦ h.0 | false ↦ found_proper es other t h.1 o ]

pub entry_proper : (w : World) (t : Triple) → HasShortEntries w → IsShortEntry (entry_of w t)
entry_proper w t h = found_proper w.entries _ t h tt

input_at : (ds : List InputDecl) (vs : List Value) (i : ℕ) (k : Kind) → AreProperInputs ds vs → option_map (λ d. literal_kind d.value) (slice_get ds i) ≡ Some k → IsProper k (value_or_unit (slice_get vs i))
input_at [] vs i k h e = absurd cc
input_at (d ∷ ds) [] i k h e = absurd h
input_at (d ∷ ds) (v ∷ vs) zero k h e = let is : literal_kind d.value ≡ k = cc in subst (λ (j : Kind). IsProper j v) is h.0
input_at (d ∷ ds) (v ∷ vs) (suc i) k h e = input_at ds vs i k h.1 e

state_at : (ks : List Kind) (ss : List State) (i : ℕ) (k : Kind) → AreProperStates ks ss → slice_get ks i ≡ Some k → IsProperState k (state_or_unit (slice_get ss i))
state_at [] ss i k h e = absurd cc
state_at (j ∷ ks) [] i k h e = absurd h
state_at (j ∷ ks) (s ∷ ss) zero k h e = let is : j ≡ k = cc in subst (λ (l : Kind). IsProperState l s) is h.0
state_at (j ∷ ks) (s ∷ ss) (suc i) k h e = state_at ks ss i k h.1 e

-- a bound value for each bound kind, under the same name
abbrev pub AreProperBound : List NamedKind → Bound → Type 0
AreProperBound [] [] = Unit {0}
AreProperBound [] (b ∷ bs) = ⊥
AreProperBound (g ∷ gs) [] = ⊥
AreProperBound (g ∷ gs) (b ∷ bs) = (g.0 ≡ b.name) × IsProper g.1 b.value × AreProperBound gs bs

bound_more : (gs : List NamedKind) (bs : Bound) (n : List ℕ) (k : Kind) (v : Value) → AreProperBound gs bs → IsProper k v → AreProperBound (bind_kind gs n k) (bind bs n v)
bound_more [] [] n k v h p = (refl, p, tt)
bound_more [] (b ∷ bs) n k v h p = absurd h
bound_more (g ∷ gs) [] n k v h p = absurd h
bound_more (g ∷ gs) (b ∷ bs) n k v h p = (h.0, h.1, bound_more gs bs n k v h.2 p)

innermost_proper : (found : Option Kind) (value : Value) (gs : List NamedKind) (bs : Bound) (n : List ℕ) (k : Kind) → ((j : Kind) → found ≡ Some j → IsProper j value) → AreProperBound gs bs →
    innermost_kind found gs n ≡ Some k → IsProper k (innermost value bs n)
innermost_proper found value [] [] n k f h e = f k e
innermost_proper found value [] (b ∷ bs) n k f h e = absurd h
innermost_proper found value (g ∷ gs) [] n k f h e = absurd h
innermost_proper found value (g ∷ gs) (b ∷ bs) n k f h e =
    let same : bytes_eq g.0 n ≡ bytes_eq b.name n = ap (λ (m : List ℕ). bytes_eq m n) h.0 in
    let e' : innermost_kind (cond (bytes_eq b.name n) (Some g.1) found) gs n ≡ Some k = ap (λ (c : Bool). innermost_kind (cond c (Some g.1) found) gs n) (sym same) ∙ e in
    elim (bytes_eq b.name n) as (λ c. innermost_kind (cond c (Some g.1) found) gs n ≡ Some k → IsProper k (innermost (cond c b.value value) bs n)) [
      | true ↦ λ e. innermost_proper (Some g.1) b.value gs bs n k (λ j is. let one : g.1 ≡ j = cc in subst (λ (i : Kind). IsProper i b.value) one h.1) h.2 e
      | false ↦ λ e. innermost_proper found value gs bs n k f h.2 e
    ] e'

-- ---- runs

follow_proper : (k to : Kind) (s : State) (next : Value → Run) → IsProperState k s → ((v : Value) → IsProper k v → IsProperState to (next v).state) → IsProperState to (follow s next).state
follow_proper k to (Fine v) next h g = g v h
follow_proper k to (Failed o m) next h g = h
follow_proper k to (Active o s) next h g = h

follow_both_proper : (k l to : Kind) (s t : State) (next : Value → Value → Run) → IsProperState k s → IsProperState l t → ((v w : Value) → IsProper k v → IsProper l w → IsProperState to (next v w).state) → IsProperState to (follow_both s t next).state
follow_both_proper k l to (Fine v) (Fine w) next h g f = f v w h g
follow_both_proper k l to (Fine v) (Failed o m) next h g f = g
follow_both_proper k l to (Fine v) (Active o s) next h g f = g
follow_both_proper k l to (Failed o m) (Fine w) next h g f = h
follow_both_proper k l to (Failed o m) (Failed p n) next h g f = h
follow_both_proper k l to (Failed o m) (Active p r) next h g f = h
follow_both_proper k l to (Active o s) (Fine w) next h g f = h
follow_both_proper k l to (Active o s) (Failed p m) next h g f = g
follow_both_proper k l to (Active o s) (Active p r) next h g f = h

-- ---- terms

-- a kind that is the wanted one
wanted_is : (w k j : Kind) → wanted_kind w k ≡ Some j → (k ≡ w) × (k ≡ j)
wanted_is w k j e =
    elim (same kind_code k w) as (λ b. same kind_code k w ≡ b → cond b (Some k) None ≡ Some j → (k ≡ w) × (k ≡ j))
    [ true ↦ λ is e. (same_true kind_code k w is, cc) | false ↦ λ is e. absurd cc ] refl e

-- a kind that is small is that kind
small_is : (k j : Kind) → small k ≡ Some j → k ≡ j
small_is k j e = elim (nat_lt 64 (kind_parts k)) as (λ b. cond b None (Some k) ≡ Some j → k ≡ j) [ true ↦ λ e. absurd cc | false ↦ λ e. cc ] e

behind_list : (o : Option Kind) (f : Kind → Option (List Kind)) (ks : List Kind) → option_and_then f o ≡ Some ks → (k : Kind) × (o ≡ Some k) × (f k ≡ Some ks)
behind_list (Some k) f ks e = (k, refl, e)
behind_list None f ks e = absurd cc

entry_state_proper : (node : ℕ) (e : Entry) (k : Kind) (meant : List ℕ → Value) → ((x : List ℕ) → length x ≤ 65536 → IsProper k (meant x)) → IsShortEntry e → IsProperState k (entry_state node meant e)
entry_state_proper node (entry.Fine t) k meant f h = f t h
entry_state_proper node (entry.Bad m) k meant f h = h
entry_state_proper node (entry.Active s) k meant f h = tt

module _ (p : Program) (node : ℕ) (inputs : List Value) (states : List State) (earlier : List Kind) (w : World)
    (inputs_are : AreProperInputs p.inputs inputs) (states_are : AreProperStates earlier states) (entries_are : HasShortEntries w) where
  abbrev context : Context
  context = context_of p node inputs states w

  -- what a term comes to is of its kind
  abbrev IsProperTerm : Term → Type 0
  IsProperTerm t = (gs : List NamedKind) (k : Kind) (bs : Bound) → term_kind p earlier t gs ≡ Some k → has_good_words t ≡ true → AreProperBound gs bs → IsProperState k (eval context t bs).state

  look_proper : (b : Bool) (k : Kind) (meant : List ℕ → Value) (t : Triple) → ((x : List ℕ) → length x ≤ 65536 → IsProper k (meant x)) →
      IsProperState k (cond b (wanted context meant t) (stated (Failed node (codes "order too long")))).state
  look_proper true k meant t f = entry_state_proper node (entry_of w t) k meant f (entry_proper w t entries_are)
  look_proper false k meant t f = omega arith

  looked_up_proper : (k : Kind) (meant : List ℕ → Value) (t : Triple) → ((x : List ℕ) → length x ≤ 65536 → IsProper k (meant x)) → IsProperState k (looked_up context meant t).state
  unfolding looked_up
  looked_up_proper k meant t f = look_proper (fits (slice_get p.ops t.op) t) k meant t f

  map_proper : (f : Fun) (t : Meaning) (bs : Bound) (k to : Kind) → kind_given f k ≡ Some to → IsProperState k (t bs).state → IsProperState to (map_run context f t bs).state
  unfolding map_run
  map_proper f t bs k to e h = mapped_proper node f k to (t bs).state e h

  pair_run_proper : (a b : Meaning) (bs : Bound) (k l : Kind) → IsProperState k (a bs).state → IsProperState l (b bs).state → IsProperState (kind.Pair k l) (pair_run context a b bs).state
  unfolding pair_run
  pair_run_proper a b bs k l h g = paired_proper node k l (a bs).state (b bs).state h g

  bind_run_proper : (n : List ℕ) (a b : Meaning) (bs : Bound) (k to : Kind) → IsProperState k (a bs).state → ((v : Value) → IsProper k v → IsProperState to (b (bind bs n v)).state) → IsProperState to (bind_run n a b bs).state
  unfolding bind_run
  bind_run_proper n a b bs k to h g = follow_proper k to (a bs).state (λ v. b (bind bs n v)) h g

  item_states : (n : List ℕ) (b : Meaning) (bs : Bound) (a to : Kind) (vs : List Value) → AllByRecursion (IsProper a) vs → ((v : Value) → IsProper a v → IsProperState to (b (bind bs n v)).state) →
      AllByRecursion (IsProperState to) (map (λ r. r.state) (map (λ x. b (bind bs n x)) vs))
  item_states n b bs a to [] h g = tt
  item_states n b bs a to (v ∷ vs) h g = (g v h.0, item_states n b bs a to vs h.1 g)

  list_map_proper : (n : List ℕ) (t b : Meaning) (bs : Bound) (k a to : Kind) → item_kind k ≡ Some a → IsProperState k (t bs).state → ((v : Value) → IsProper a v → IsProperState to (b (bind bs n v)).state) →
      IsProperState (kind.List to) (list_run (listed node) n t b bs).state
  unfolding list_run items_run
  list_map_proper n t b bs k a to e h g =
      follow_proper k (kind.List to) (t bs).state (λ v. together (map (λ x. b (bind bs n x)) (items_in v)) (listed node)) h
      (λ v proper.
      let items = list_items k a (out-Kind k) v (roll-out-Kind k) e proper in
      let all = item_states n b bs a to (items_in v) items.proper g in
      let ss : List State = map (λ r. r.state) (map (λ x. b (bind bs n x)) (items_in v)) in
      let few : length (values_in ss) ≤ 256 =
      let x = values_few ss in let y = length-map (map (λ x. b (bind bs n x)) (items_in v)) (λ (r : Run). r.state) in let z = length-map (items_in v) (λ x. b (bind bs n x)) in let i = items.few in omega (arith, x, y, z, i) in
      both_proper to (kind.List to) ss (listed node) all (listed_proper node to (values_in ss) few (values_proper to ss all)))

  list_iter_proper : (n : List ℕ) (t b : Meaning) (bs : Bound) (k a : Kind) → item_kind k ≡ Some a → IsProperState k (t bs).state → ((v : Value) → IsProper a v → IsProperState kind.Unit (b (bind bs n v)).state) →
      IsProperState kind.Unit (list_run passed n t b bs).state
  unfolding list_run items_run
  list_iter_proper n t b bs k a e h g =
      follow_proper k kind.Unit (t bs).state (λ v. together (map (λ x. b (bind bs n x)) (items_in v)) passed) h
      (λ v proper.
      let items = list_items k a (out-Kind k) v (roll-out-Kind k) e proper in
      let ss : List State = map (λ r. r.state) (map (λ x. b (bind bs n x)) (items_in v)) in
      both_proper kind.Unit kind.Unit ss passed (item_states n b bs a kind.Unit (items_in v) items.proper g) proper_unit)

  caught_run_proper : (t : Meaning) (bs : Bound) (k : Kind) → IsProperState k (t bs).state → IsProperState (kind.Out k) (outcome_run caught t bs).state
  unfolding outcome_run
  caught_run_proper t bs k h = caught_proper k (t bs).state h

  observed_run_proper : (t : Meaning) (bs : Bound) (k : Kind) → IsProperState k (t bs).state → IsProperState (kind.Out k) (outcome_run observed t bs).state
  unfolding outcome_run
  observed_run_proper t bs k h = observed_proper k (t bs).state h

  gate_run_proper : (a b : Meaning) (bs : Bound) (k l : Kind) → IsProperState k (a bs).state → IsProperState l (b bs).state → IsProperState l (gate_run a b bs).state
  unfolding gate_run
  gate_run_proper a b bs k l h g = gated_proper k l (a bs).state (b bs).state h g

  all_run_proper : (rs : List Run) → AllByRecursion (IsProperState kind.Unit) (map (λ r. r.state) rs) → IsProperState kind.Unit (all_run rs).state
  unfolding all_run
  all_run_proper rs h = both_proper kind.Unit kind.Unit (map (λ r. r.state) rs) passed h proper_unit

  build_run_proper : (op : List ℕ) (k : Meaning) (bs : Bound) → IsProperState kind.Text (k bs).state → IsProperState kind.Text (build_run context op k bs).state
  unfolding build_run
  build_run_proper op k bs h =
      follow_proper kind.Text kind.Text (k bs).state (λ v. looked_up context value.Words (triple_of context op (text_in v) [])) h (λ v proper. looked_up_proper kind.Text value.Words (triple_of context op (text_in v) []) (λ x short. proper_words x short))

  output_run_proper : (op : List ℕ) (a b : Meaning) (bs : Bound) → IsProperState kind.Text (a bs).state → IsProperState kind.Text (b bs).state → IsProperState kind.Unit (output_run context op a b bs).state
  unfolding output_run
  output_run_proper op a b bs h g =
      follow_both_proper kind.Text kind.Text kind.Unit (a bs).state (b bs).state (λ v x. looked_up context (λ t. value.Unit) (triple_of context op (text_in v) (text_in x))) h g
      (λ v x pv px. looked_up_proper kind.Unit (λ t. value.Unit) (triple_of context op (text_in v) (text_in x)) (λ t short. proper_unit))

  as_wanted : (want k j : Kind) (s : State) → wanted_kind want k ≡ Some j → IsProperState k s → IsProperState want s
  as_wanted want k j s e h = subst (λ (x : Kind). IsProperState x s) (wanted_is want k j e).0 h

  all_proper : {E : Type 0} (of : E → Term) → ((e : E) → IsProperTerm (of e)) → (ts : List E) (gs : List NamedKind) (k : Kind) (bs : Bound) →
      unit_of_units (map (λ t. t gs) (map (term_kind p earlier) (map of ts))) ≡ Some k → list_all (λ b. b) (map has_good_words (map of ts)) ≡ true → AreProperBound gs bs →
      (kind.Unit ≡ k) × AllByRecursion (IsProperState kind.Unit) (map (λ r. r.state) (map (λ m. m bs) (map (eval context) (map of ts))))
  all_proper of has [] gs k bs e good h = (cc, tt)
  all_proper of has (t ∷ ts) gs k bs e good h =
      let o = behind (option_and_then (wanted_kind kind.Unit) (term_kind p earlier (of t) gs)) (λ k. unit_of_units (map (λ t. t gs) (map (term_kind p earlier) (map of ts)))) k e in
      let i = behind (term_kind p earlier (of t) gs) (wanted_kind kind.Unit) o.first o.first_is in
      let g = and_parts (has_good_words (of t)) (list_all (λ b. b) (map has_good_words (map of ts))) good in
      let rest = all_proper of has ts gs k bs o.second_is g.1 h in
      (rest.0, (as_wanted kind.Unit i.first o.first (eval context (of t) bs).state i.second_is (has t gs i.first bs i.first_is g.0 h), rest.1))

  to_kind : {k j : Kind} (s : State) → k ≡ j → IsProperState k s → IsProperState j s
  to_kind s e h = subst (λ (x : Kind). IsProperState x s) e h

  layer_proper : {E : Type 0} (of : E → Term) → ((e : E) → IsProperTerm (of e)) → (y : Term-F E) (gs : List NamedKind) (k : Kind) (bs : Bound) →
      layer_kind p earlier (map-Term Term Typing (term_kind p earlier) (map-Term E Term of y)) gs ≡ Some k → words_step (map-Term Term Bool has_good_words (map-Term E Term of y)) ≡ true → AreProperBound gs bs →
      IsProperState k (term_step context (map-Term Term Meaning (eval context) (map-Term E Term of y)) bs).state
  layer_proper of has (Term-F.Return v) gs k bs e good h = to_kind (Fine v) (let is : literal_kind v ≡ k = cc in is) (literal_proper v good)
  layer_proper of has (Term-F.Fail f m) gs k bs e good h = leb-true (length m) 65536 good
  layer_proper of has (Term-F.Input n) gs k bs e good h = input_at p.inputs inputs (index_named 0 (map (λ d. d.name) p.inputs) n) k inputs_are e
  layer_proper of has (Term-F.Node n) gs k bs e good h = state_at earlier states (index_named 0 (map (λ d. d.name) p.nodes) n) k states_are e
  layer_proper of has (Term-F.Var n) gs k bs e good h = innermost_proper None value.Unit gs bs n k (λ j is. absurd cc) h e
  layer_proper of has (Term-F.Map f t) gs k bs e good h =
      let o = behind (term_kind p earlier (of t) gs) (kind_given f) k e in
      map_proper f (eval context (of t)) bs o.first k o.second_is (has t gs o.first bs o.first_is good h)
  layer_proper of has (Term-F.Pair a b) gs k bs e good h =
      let o = behind (term_kind p earlier (of a) gs) (λ i. option_and_then (λ j. Some (kind.Pair i j)) (term_kind p earlier (of b) gs)) k e in
      let i = behind (term_kind p earlier (of b) gs) (λ j. Some (kind.Pair o.first j)) k o.second_is in
      let g = and_parts (has_good_words (of a)) (has_good_words (of b)) good in
      to_kind _ (let is : kind.Pair o.first i.first ≡ k = let e : Some (kind.Pair o.first i.first) ≡ Some k = i.second_is in cc in is)
      (pair_run_proper (eval context (of a)) (eval context (of b)) bs o.first i.first (has a gs o.first bs o.first_is g.0 h) (has b gs i.first bs i.first_is g.1 h))
  layer_proper of has (Term-F.Bind n a b) gs k bs e good h =
      let o = behind (term_kind p earlier (of a) gs) (λ i. term_kind p earlier (of b) (bind_kind gs n i)) k e in
      let g = and_parts (has_good_words (of a)) (has_good_words (of b)) (and_parts (is_name n) (has_good_words (of a) && has_good_words (of b)) good).1 in
      bind_run_proper n (eval context (of a)) (eval context (of b)) bs o.first k (has a gs o.first bs o.first_is g.0 h)
      (λ v proper. has b (bind_kind gs n o.first) k (bind bs n v) o.second_is g.1 (bound_more gs bs n o.first v h proper))
  layer_proper of has (Term-F.ListMap n a b) gs k bs e good h =
      let o = behind (option_and_then item_kind (term_kind p earlier (of a) gs)) (λ i. option_and_then (λ j. Some (kind.List j)) (term_kind p earlier (of b) (bind_kind gs n i))) k e in
      let l = behind (term_kind p earlier (of a) gs) item_kind o.first o.first_is in
      let i = behind (term_kind p earlier (of b) (bind_kind gs n o.first)) (λ j. Some (kind.List j)) k o.second_is in
      let g = and_parts (has_good_words (of a)) (has_good_words (of b)) (and_parts (is_name n) (has_good_words (of a) && has_good_words (of b)) good).1 in
      to_kind _ (let is : kind.List i.first ≡ k = let e : Some (kind.List i.first) ≡ Some k = i.second_is in cc in is)
      (list_map_proper n (eval context (of a)) (eval context (of b)) bs l.first o.first i.first l.second_is (has a gs l.first bs l.first_is g.0 h)
      (λ v proper. has b (bind_kind gs n o.first) i.first (bind bs n v) i.first_is g.1 (bound_more gs bs n o.first v h proper)))
  layer_proper of has (Term-F.ListIter n a b) gs k bs e good h =
      let o = behind (option_and_then item_kind (term_kind p earlier (of a) gs)) (λ i. option_and_then (wanted_kind kind.Unit) (term_kind p earlier (of b) (bind_kind gs n i))) k e in
      let l = behind (term_kind p earlier (of a) gs) item_kind o.first o.first_is in
      let i = behind (term_kind p earlier (of b) (bind_kind gs n o.first)) (wanted_kind kind.Unit) k o.second_is in
      let g = and_parts (has_good_words (of a)) (has_good_words (of b)) (and_parts (is_name n) (has_good_words (of a) && has_good_words (of b)) good).1 in
      let unit = wanted_is kind.Unit i.first k i.second_is in
      to_kind _ (sym unit.0 ∙ unit.1)
      (list_iter_proper n (eval context (of a)) (eval context (of b)) bs l.first o.first l.second_is (has a gs l.first bs l.first_is g.0 h)
      (λ v proper. to_kind _ unit.0 (has b (bind_kind gs n o.first) i.first (bind bs n v) i.first_is g.1 (bound_more gs bs n o.first v h proper))))
  layer_proper of has (Term-F.Catch t) gs k bs e good h =
      let o = behind (term_kind p earlier (of t) gs) (λ i. Some (kind.Out i)) k e in
      to_kind _ (let is : kind.Out o.first ≡ k = let e : Some (kind.Out o.first) ≡ Some k = o.second_is in cc in is) (caught_run_proper (eval context (of t)) bs o.first (has t gs o.first bs o.first_is good h))
  layer_proper of has (Term-F.State t) gs k bs e good h =
      let o = behind (term_kind p earlier (of t) gs) (λ i. Some (kind.Out i)) k e in
      to_kind _ (let is : kind.Out o.first ≡ k = let e : Some (kind.Out o.first) ≡ Some k = o.second_is in cc in is) (observed_run_proper (eval context (of t)) bs o.first (has t gs o.first bs o.first_is good h))
  layer_proper of has (Term-F.Gate a b) gs k bs e good h =
      let o = behind (option_and_then (wanted_kind kind.Unit) (term_kind p earlier (of a) gs)) (λ i. term_kind p earlier (of b) gs) k e in
      let l = behind (term_kind p earlier (of a) gs) (wanted_kind kind.Unit) o.first o.first_is in
      let g = and_parts (has_good_words (of a)) (has_good_words (of b)) good in
      gate_run_proper (eval context (of a)) (eval context (of b)) bs l.first k (has a gs l.first bs l.first_is g.0 h) (has b gs k bs o.second_is g.1 h)
  layer_proper of has (Term-F.All ts) gs k bs e good h =
      let a = all_proper of has ts gs k bs e good h in
      to_kind _ a.0 (all_run_proper (map (λ m. m bs) (map (eval context) (map of ts))) a.1)
  layer_proper of has (Term-F.Build op t) gs k bs e good h =
      let o = known_op (is_op p op false) (build_kind (term_kind p earlier (of t) gs)) k e in
      let i = behind (option_and_then (wanted_kind kind.Text) (term_kind p earlier (of t) gs)) (λ i. Some kind.Text) k o.1 in
      let l = behind (term_kind p earlier (of t) gs) (wanted_kind kind.Text) i.first i.first_is in
      let g = and_parts (is_name op) (has_good_words (of t)) good in
      to_kind _ (let is : kind.Text ≡ k = let e : Some kind.Text ≡ Some k = i.second_is in cc in is)
      (build_run_proper op (eval context (of t)) bs (as_wanted kind.Text l.first i.first (eval context (of t) bs).state l.second_is (has t gs l.first bs l.first_is g.1 h)))
  layer_proper of has (Term-F.Output op a b) gs k bs e good h =
      let o = known_op (is_op p op true) (output_kind (term_kind p earlier (of a) gs) (term_kind p earlier (of b) gs)) k e in
      let i = behind (option_and_then (wanted_kind kind.Text) (term_kind p earlier (of a) gs)) (λ i. option_and_then (λ v. Some kind.Unit) (option_and_then (wanted_kind kind.Text) (term_kind p earlier (of b) gs))) k o.1 in
      let l = behind (term_kind p earlier (of a) gs) (wanted_kind kind.Text) i.first i.first_is in
      let j = behind (option_and_then (wanted_kind kind.Text) (term_kind p earlier (of b) gs)) (λ v. Some kind.Unit) k i.second_is in
      let m = behind (term_kind p earlier (of b) gs) (wanted_kind kind.Text) j.first j.first_is in
      let g = and_parts (has_good_words (of a)) (has_good_words (of b)) (and_parts (is_name op) (has_good_words (of a) && has_good_words (of b)) good).1 in
      to_kind _ (let is : kind.Unit ≡ k = let e : Some kind.Unit ≡ Some k = j.second_is in cc in is)
      (output_run_proper op (eval context (of a)) (eval context (of b)) bs
      (as_wanted kind.Text l.first i.first (eval context (of a) bs).state l.second_is (has a gs l.first bs l.first_is g.0 h))
      (as_wanted kind.Text m.first j.first (eval context (of b) bs).state m.second_is (has b gs m.first bs m.first_is g.1 h)))

  rolled_proper : (x : Term-F Term) → ((gs : List NamedKind) (k : Kind) (bs : Bound) → layer_kind p earlier (map-Term Term Typing (term_kind p earlier) x) gs ≡ Some k → words_step (map-Term Term Bool has_good_words x) ≡ true → AreProperBound gs bs →
      IsProperState k (term_step context (map-Term Term Meaning (eval context) x) bs).state) → IsProperTerm (roll-Term x)
  unfolding term_kind
  rolled_proper x h gs k bs e good bound =
      let e' = sym (ap (λ (f : Typing). f gs) (fold-roll-Term Typing (λ y bound. option_and_then small (layer_kind p earlier y bound)) x)) ∙ e in
      let b = behind (layer_kind p earlier (map-Term Term Typing (term_kind p earlier) x) gs) small k e' in
      let good' = sym (fold-roll-Term Bool words_step x) ∙ good in
      let run = ap (λ (m : Meaning). m bs) (fold-roll-Term Meaning (term_step context) x) in
      subst (λ (r : Run). IsProperState k r.state) (sym run) (to_kind _ (small_is b.first k b.second_is) (h gs b.first bs b.first_is good' bound))

  pub terms_proper : (t : Term) → IsProperTerm t
  terms_proper = ind-Term IsProperTerm (λ x y is. subst (λ z. IsProperTerm (roll-Term z)) is (rolled_proper _ (layer_proper (λ e. e.0) (λ e. e.1) y)))

-- ---- all nodes

pub states_more : (ks : List Kind) (ss : List State) (k : Kind) (s : State) → AreProperStates ks ss → IsProperState k s → AreProperStates (ks ++ k ∷ []) (ss ++ s ∷ [])
states_more [] [] k s h p = (p, tt)
states_more [] (t ∷ ss) k s h p = absurd h
states_more (j ∷ ks) [] k s h p = absurd h
states_more (j ∷ ks) (t ∷ ss) k s h p = (h.0, states_more ks ss k s h.1 p)

fresh_proper : (p : Program) (inputs : List Value) (w : World) → AreProperInputs p.inputs inputs → HasShortEntries w → (ds : List NodeDecl) (at : ℕ) (earlier : List Kind) (states : List State) (kinds : List Kind) →
    AreProperStates earlier states → AllByRecursion IsNodeWithin ds → kinds_from p earlier ds ≡ Some kinds → AreProperStates kinds (states ++ (fresh_from p inputs w at states ds).states)
fresh_proper p inputs w i e [] at earlier states kinds h within is =
    let same : earlier ≡ kinds = cc in subst (λ (ks : List Kind). AreProperStates ks (states ++ [])) same (subst (λ (ss : List State). AreProperStates earlier ss) (sym (append-nil states)) h)
fresh_proper p inputs w i e (d ∷ ds) at earlier states kinds h within is =
    let r : Run = eval (context_of p at inputs states w) d.term [] in
    let b = behind_list (term_kind p earlier d.term []) (λ k. kinds_from p (earlier ++ k ∷ []) ds) kinds is in
    let one = terms_proper p at inputs states earlier w i h e d.term [] b.0 [] b.1 within.0.words tt in
    let rest = fresh_proper p inputs w i e ds (at + 1) (earlier ++ b.0 ∷ []) (states ++ r.state ∷ []) kinds (states_more earlier states b.0 r.state h one) within.1 b.2 in
    subst (λ (ss : List State). AreProperStates kinds ss) (append_assoc states (r.state ∷ []) (fresh_from p inputs w (at + 1) (states ++ r.state ∷ []) ds).states) rest

pub states_have_their_kinds : SoundStatesHaveTheirKinds
unfolding fresh node_kinds
states_have_their_kinds p kinds inputs w sound is i e = fresh_proper p inputs w i e p.nodes 0 [] [] kinds tt sound.within.nodes is
