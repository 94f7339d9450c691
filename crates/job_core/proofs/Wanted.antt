-- Wanted triples that rise: where one is found, and the least of an operation and key.
use Rattle.std.proofs.Common.{◌≡◌, ℕ, zero, suc, ◌<◌, ◌≤◌, Bool, true, false, cond, ◌&&◌, ◌||◌, List, [], ◌∷◌, map, length, get_or, refl, sym, ap, ◌∙◌, arith}
use Rattle.std.proofs.Common.{Less, Equal, Greater}
use Rattle.std.proofs.lemmas.Bool.{false_from_ne_true, le-ltb, lt-ltb, ltb-false, ltb-true}
use Rattle.std.specs.Prelude.{nat_lt, filter, if◌then◌else◌}
use Rattle.std.specs.List.{AllByRecursion}
use Rattle.std.specs.declared.cmp.Ordering.{Ordering}
use Rattle.std.specs.Ordering.{is_gt, is_lt, nat_cmp, ordering_then}
use Rattle.std.specs.Cmp.{IsTotalOrder, nat_cmp_total, on_total, then_total, tied_itself}
use Rattle.std.specs.Cmp.Lexicographic.{nat_list_cmp_total}
use Rattle.value_core.specs.declared.state.Triple.{Triple}
use Rattle.value_core.specs.Orders.{same_triple}
use Rattle.value_core.specs.Orders.{bytes_cmp}
use Rattle.value_core.proofs.Basics.{triples_tie, triple_same, same_triples}
use Rattle.fair_pool.specs.Order.{leading, IsInOrder}
use Rattle.fair_pool.proofs.Ordered.{IsBefore, all_since}
use Rattle.core_rules.specs.Settling.{least_text, on_key, values_on}
use Rattle.term_core.specs.Counts.{is_wanted}
use Rattle.value_core.specs.Orders.{triple_cmp}
use Rattle.job_core.specs.Keys.{key_cmp}
use Rattle.job_core.specs.Wants.{TriplesRise}
use Rattle.job_core.proofs.Keys.{above_is, before_asym, before_upto, keys_cmp, keys_total, on_parts}

-- ---- the order of triples

pub triples_total : IsTotalOrder triple_cmp
triples_total = then_total (on_total (λ t. t.op) nat_cmp_total) (then_total (on_total (λ t. t.key) nat_list_cmp_total) (on_total (λ t. t.value) nat_list_cmp_total))

abbrev pub triple_before : Triple → Triple → Bool
triple_before a b = is_lt (triple_cmp a b)

pub triple_before_order : IsBefore triple_before
triple_before_order = record { asym = λ a b. before_asym triples_total a b; upto = λ a b c. before_upto triples_total a b c }

-- ---- where a triple is found

lt_suc : (a b : ℕ) → nat_lt (suc a) (suc b) ≡ nat_lt a b
lt_suc a b = elim (nat_lt a b) as (λ t. nat_lt a b ≡ t → nat_lt (suc a) (suc b) ≡ t) [
  | true ↦ λ e. lt-ltb (suc a) (suc b) (let l = ltb-true a b e in omega arith)
  | false ↦ λ e. le-ltb (suc a) (suc b) (let l = ltb-false a b e in omega arith)
] refl

lt_first : (n : ℕ) → nat_lt 0 (suc n) ≡ true
lt_first n = lt-ltb 0 (suc n) (omega arith)

same_not_less : (u t : Triple) → triple_cmp u t ≡ Less → same_triple u t ≡ false
same_not_less u t e = false_from_ne_true (same_triple u t) (λ h.
    let k : triple_cmp u t ≡ Equal = ap (triple_cmp u) (sym (triple_same u t h)) ∙ tied_itself triples_total u in
    let z : ⊥ = cc in z)

or_none : (b : Bool) → (b || false) ≡ b
or_none true = refl
or_none false = refl

none_wanted : (u t : Triple) (us : List Triple) → triple_cmp u t ≡ Greater → AllByRecursion (λ v. triple_cmp u v ≡ Less) us → is_wanted us t ≡ false
none_wanted u t [] e a = refl
none_wanted u t (v ∷ us) e a =
    let no : same_triple v t ≡ false = false_from_ne_true (same_triple v t) (λ h.
    let k : triple_cmp u t ≡ Less = ap (triple_cmp u) (sym (triple_same v t h)) ∙ a.0 in
    let z : ⊥ = cc in z) in
    ap (λ b. b || is_wanted us t) no ∙ none_wanted u t us e a.1

pub wanted_rank : (ts : List Triple) (t d : Triple) → TriplesRise ts →
    is_wanted ts t ≡ (nat_lt (leading (λ u. triple_before u t) ts) (length ts) && same_triple (get_or ts (leading (λ u. triple_before u t) ts) d) t)
wanted_rank [] t d r = refl
wanted_rank (u ∷ us) t d r = elim (triple_cmp u t) as (λ o. triple_cmp u t ≡ o → (same_triple u t || is_wanted us t)
    ≡ (nat_lt (cond (is_lt o) (suc (leading (λ u. triple_before u t) us)) zero) (suc (length us)) && same_triple (get_or (u ∷ us) (cond (is_lt o) (suc (leading (λ u. triple_before u t) us)) zero) d) t)) [
      | Less ↦ λ e. ap (λ b. b || is_wanted us t) (same_not_less u t e) ∙ wanted_rank us t d r.1
          ∙ ap (λ b. b && same_triple (get_or us (leading (λ u. triple_before u t) us) d) t) (sym (lt_suc (leading (λ u. triple_before u t) us) (length us)))
      | Equal ↦ λ e. let h = same_triples u t (triples_tie u t e) in ap (λ b. b || is_wanted us t) h ∙ sym h ∙ sym (ap (λ b. b && same_triple u t) (lt_first (length us)))
      | Greater ↦ λ e. ap (λ b. same_triple u t || b) (none_wanted u t us e r.0) ∙ or_none (same_triple u t) ∙ sym (ap (λ b. b && same_triple u t) (lt_first (length us)))
    ] refl

-- ---- the least of an operation and key

then_grouped : (a b c : Ordering) → ordering_then a (ordering_then b c) ≡ ordering_then (ordering_then a b) c
then_grouped Less b c = refl
then_grouped Equal b c = refl
then_grouped Greater b c = refl

-- how triples compare by their keys first
pub by_key : (u v : Triple) → triple_cmp u v ≡ ordering_then (key_cmp u v.op v.key) (bytes_cmp u.value v.value)
by_key u v = then_grouped (nat_cmp u.op v.op) (bytes_cmp u.key v.key) (bytes_cmp u.value v.value)

pub on_tie : (t : Triple) (op : ℕ) (key : List ℕ) → on_key op key t ≡ true → key_cmp t op key ≡ Equal
on_tie t op key e = let p = on_parts t op key e in (λ i. key_cmp t (sym p.0 i) (sym p.1 i)) ∙ tied_itself keys_total t

pub least_stays : (u : Triple) (op : ℕ) (key : List ℕ) (us : List Triple) → on_key op key u ≡ true → AllByRecursion (λ v. triple_cmp u v ≡ Less) us → least_text u.value (values_on us op key) ≡ u.value
least_stays u op key [] h a = refl
least_stays u op key (v ∷ us) h a = elim (on_key op key v) as (λ b. on_key op key v ≡ b → least_text u.value (map (λ t. t.value) (cond b (v ∷ filter (on_key op key) us) (filter (on_key op key) us))) ≡ u.value) [
  | true ↦ λ e.
      let p = on_parts u op key h in
      let q = on_parts v op key e in
      let tie : key_cmp u v.op v.key ≡ Equal = (λ i. key_cmp u (q.0 i) (q.1 i)) ∙ on_tie u op key h in
      let less : bytes_cmp u.value v.value ≡ Less = sym (ap (λ o. ordering_then o (bytes_cmp u.value v.value)) tie) ∙ sym (by_key u v) ∙ a.0 in
      ap (λ b. least_text (if b then v.value else u.value) (values_on us op key)) (before_asym nat_list_cmp_total u.value v.value (ap is_lt less))
      ∙ least_stays u op key us h a.1
  | false ↦ λ e. least_stays u op key us h a.1
] refl

-- ---- the order of operations and keys

abbrev pub keys_before : Triple → Triple → Bool
keys_before a b = is_lt (keys_cmp a b)

pub keys_before_order : IsBefore keys_before
keys_before_order = record { asym = λ a b. before_asym keys_total a b; upto = λ a b c. before_upto keys_total a b c }

not_above : (o c : Ordering) → ordering_then o c ≡ Less → is_gt o ≡ false
not_above Less c e = refl
not_above Equal c e = refl
not_above Greater c e = let z : ⊥ = cc in absurd z

pub keys_in_order : (ts : List Triple) → TriplesRise ts → IsInOrder keys_before ts
keys_in_order [] r = tt
keys_in_order (t ∷ ts) r =
    (all_since (λ u. triple_cmp t u ≡ Less) (λ u. keys_before u t ≡ false) (λ u e. sym (above_is keys_total t u) ∙ not_above (key_cmp t u.op u.key) (bytes_cmp t.value u.value) (sym (by_key t u) ∙ e)) ts r.0, keys_in_order ts r.1)

-- ---- triples with their counts

first_at : (ws : List (Triple × ℕ)) (i : ℕ) (d : Triple × ℕ) → i < length ws → (get_or ws i d).0 ≡ get_or (map (λ w. w.0) ws) i d.0
first_at [] i d l = absurd (omega arith)
first_at (w ∷ ws) zero d l = refl
first_at (w ∷ ws) (suc i) d l = first_at ws i d (omega arith)

firsts_length : (ws : List (Triple × ℕ)) → length (map (λ w. w.0) ws) ≡ length ws
firsts_length [] = refl
firsts_length (w ∷ ws) = ap suc (firsts_length ws)

-- what a test of the triple at the rank tells
pub wanted_here : (ws : List (Triple × ℕ)) (t : Triple) (at : ℕ) (w : Triple × ℕ) → TriplesRise (map (λ w. w.0) ws) → at ≡ leading (λ u. triple_before u t) (map (λ w. w.0) ws) → at < length ws → w ≡ get_or ws at w →
    same_triple w.0 t ≡ is_wanted (map (λ w. w.0) ws) t
wanted_here ws t at w r e l g =
    let ts = map (λ w. w.0) ws in
    let here : get_or ts at w.0 ≡ w.0 = sym (first_at ws at w l) ∙ sym (ap (λ x. x.0) g) in
    let within : nat_lt at (length ts) ≡ true = lt-ltb at (length ts) (omega (arith, firsts_length ws)) in
    sym (wanted_rank ts t w.0 r ∙ ap (λ n. nat_lt n (length ts) && same_triple (get_or ts n w.0) t) (sym e)
    ∙ ap (λ b. b && same_triple (get_or ts at w.0) t) within ∙ ap (λ u. same_triple u t) here)

pub wanted_past : (ws : List (Triple × ℕ)) (t : Triple) (at : ℕ) → TriplesRise (map (λ w. w.0) ws) → at ≡ leading (λ u. triple_before u t) (map (λ w. w.0) ws) → length ws ≤ at → false ≡ is_wanted (map (λ w. w.0) ws) t
wanted_past ws t at r e l =
    let ts = map (λ w. w.0) ws in
    sym (wanted_rank ts t t r ∙ ap (λ n. nat_lt n (length ts) && same_triple (get_or ts n t) t) (sym e)
    ∙ ap (λ b. b && same_triple (get_or ts at t) t) (le-ltb at (length ts) (omega (arith, firsts_length ws))))
