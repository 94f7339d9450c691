-- Walks in order: where one stops, and that it never has to go back.
use Rattle.std.proofs.Common.{◌≡◌, ℕ, zero, suc, ◌+◌, ◌<◌, ◌≤◌, Bool, true, false, cond, not, List, [], ◌∷◌, map, length, get_or, Option, Some, None, refl, sym, ap, ◌∙◌, subst, arith}
use Rattle.std.proofs.Common.{Less, Equal, Greater}
use Rattle.std.proofs.lemmas.Bool.{both_ways, false≢true, true≢false, false_from_ne_true}
use Rattle.std.specs.Prelude.{filter, slice_get}
use Rattle.std.specs.List.{AllByRecursion}
use Rattle.std.specs.Ordering.{is_lt, ordering_then}
use Rattle.value_core.specs.declared.state.Triple.{Triple}
use Rattle.value_core.specs.Orders.{bytes_cmp, triple_cmp}
use Rattle.value_core.proofs.Basics.{bytes_same, same_bytes}
use Rattle.fair_pool.specs.Order.{IsInOrder, Rises, leading, placed}
use Rattle.fair_pool.proofs.Ordered.{all_in_order, all_placed, all_since, chains}
use Rattle.core_rules.specs.Laws.{OneEach, Rising}
use Rattle.core_rules.specs.Settling.{is_value, least_value, live_on, on_key}
use Rattle.core_rules.specs.declared.jobs.Job.{Job}
use Rattle.job_core.specs.Keys.{by_keys, is_key_before, key_before, key_cmp, key_rank}
use Rattle.job_core.specs.Walks.{is_before, is_least, passes, wants_passed}
use Rattle.job_core.specs.Wants.{TriplesRise}
use Rattle.core_rules.specs.Core.{job_numbered}
use Rattle.job_core.proofs.Keys.{numbers, self_found, before_either, before_upto, key_before_order, keys_total, on_parts, on_same, tie_on}
use Rattle.job_core.proofs.Wanted.{by_key, keys_before, keys_in_order, least_stays, on_tie, triple_before, triple_before_order}

-- ---- how far a walk has come

module _ {X : Type 0} (p : X → Bool) where
  -- what passes is within the leading ones
  pub walk_on : (xs : List X) (at : ℕ) → at ≤ leading p xs → passes p (slice_get xs at) ≡ true → at + 1 ≤ leading p xs
  walk_on [] at l e = absurd (false≢true e)
  walk_on (x ∷ xs) zero l e = subst (λ b. 0 + 1 ≤ cond b (suc (leading p xs)) zero) (sym e) (omega arith)
  walk_on (x ∷ xs) (suc at) l e = elim (p x) as (λ b. suc at ≤ cond b (suc (leading p xs)) zero → suc at + 1 ≤ cond b (suc (leading p xs)) zero) [
    | true ↦ λ k. let h = walk_on xs at (omega arith) e in omega arith
    | false ↦ λ k. absurd (omega arith)
  ] l

  -- what doesn't is past them
  pub walk_ends : (xs : List X) (at : ℕ) → at ≤ leading p xs → passes p (slice_get xs at) ≡ false → at ≡ leading p xs
  walk_ends [] at l e = omega arith
  walk_ends (x ∷ xs) zero l e = sym (ap (λ b. cond b (suc (leading p xs)) zero) e)
  walk_ends (x ∷ xs) (suc at) l e = elim (p x) as (λ b. suc at ≤ cond b (suc (leading p xs)) zero → suc at ≡ cond b (suc (leading p xs)) zero) [
    | true ↦ λ k. ap suc (walk_ends xs at (omega arith) e)
    | false ↦ λ k. absurd (omega arith)
  ] l

  -- it has more to go while something passes
  pub walk_within : (xs : List X) (at : ℕ) → passes p (slice_get xs at) ≡ true → at < length xs
  walk_within [] at e = absurd (false≢true e)
  walk_within (x ∷ xs) zero e = omega arith
  walk_within (x ∷ xs) (suc at) e = let h = walk_within xs at e in omega arith

  -- a test that passes whenever another does is passed for at least as long
  pub leading_more : (q : X → Bool) (xs : List X) → ((x : X) → p x ≡ true → q x ≡ true) → leading p xs ≤ leading q xs
  leading_more q [] f = omega arith
  leading_more q (x ∷ xs) f = elim (p x) as (λ b. p x ≡ b → cond b (suc (leading p xs)) zero ≤ leading q (x ∷ xs)) [
    | true ↦ λ e. subst (λ c. suc (leading p xs) ≤ cond c (suc (leading q xs)) zero) (sym (f x e)) (let h = leading_more q xs f in omega arith)
    | false ↦ λ e. omega arith
  ] refl

-- ---- items by their indices

-- the walk over the wanted triples isn't past the triple of a job that is there
abbrev pub IsAhead : List Triple → ℕ → Option Job → Type 0
IsAhead ws passed (Some j) = passed ≤ wants_passed j.triple ws
IsAhead ws passed None = Unit {0}

pub get_past : {X : Type 0} (xs : List X) (i : ℕ) → length xs ≤ i → slice_get xs i ≡ None
get_past [] i l = refl
get_past (x ∷ xs) zero l = absurd (omega arith)
get_past (x ∷ xs) (suc i) l = get_past xs i (omega arith)

pub first_get : (ws : List (Triple × ℕ)) (i : ℕ) (w : Triple × ℕ) → i < length ws → w ≡ get_or ws i w → slice_get (map (λ p. p.0) ws) i ≡ Some w.0
first_get [] i w l e = absurd (omega arith)
first_get (v ∷ ws) zero w l e = ap (λ p. Some p.0) (sym e)
first_get (v ∷ ws) (suc i) w l e = first_get ws i w (omega arith) e

pub first_past : (ws : List (Triple × ℕ)) (i : ℕ) → length ws ≤ i → slice_get (map (λ p. p.0) ws) i ≡ None
first_past [] i l = refl
first_past (w ∷ ws) zero l = absurd (omega arith)
first_past (w ∷ ws) (suc i) l = first_past ws i (omega arith)

found_in : (js ks : List Job) (i n : ℕ) → AllByRecursion (λ k. job_numbered js k.number ≡ Some k) ks → i < length (numbers ks) → n ≡ get_or (numbers ks) i n → job_numbered js n ≡ slice_get ks i
found_in js [] i n a l e = absurd (omega arith)
found_in js (k ∷ ks) zero n a l e = ap (job_numbered js) e ∙ a.0
found_in js (k ∷ ks) (suc i) n a l e = found_in js ks i n a.1 (omega arith) e

-- the job of a number that is kept in order of keys
pub found_in_keys : (js : List Job) (ns : List ℕ) (i n : ℕ) → Rising js → ns ≡ numbers (by_keys js) → i < length ns → n ≡ get_or ns i n → job_numbered js n ≡ slice_get (by_keys js) i
found_in_keys js ns i n r e l h = found_in js (by_keys js) i n (all_in_order key_before (λ k. job_numbered js k.number ≡ Some k) js (self_found js r))
    (subst (λ ms. i < length ms) e l) (h ∙ ap (λ ms. get_or ms i n) e)

-- ---- the live jobs in order of their keys

-- another key comes before or after
apart_placed : (j : Job) (xs : List Job) → Rises key_before xs → AllByRecursion (λ x. on_key j.triple.op j.triple.key x.triple ≡ false) xs → Rises key_before (placed key_before j xs)
apart_placed j [] r a = (tt, tt)
apart_placed j (x ∷ xs) r a = elim (key_before x j) as (λ b. key_before x j ≡ b → Rises key_before (cond b (x ∷ placed key_before j xs) (j ∷ x ∷ xs))) [
  | true ↦ λ e. (all_placed key_before (λ y. key_before x y ≡ true) j xs e r.0, apart_placed j xs r.1 a.1)
  | false ↦ λ e.
      let first : key_before j x ≡ true = before_either keys_total x.triple j.triple (λ t. let h = tie_on x.triple j.triple.op j.triple.key t in both_ways (on_key j.triple.op j.triple.key x.triple) a.0 (on_same x.triple j.triple.op j.triple.key h.0 h.1)) e in
      ((first, all_since (λ y. key_before x y ≡ true) (λ y. key_before j y ≡ true) (λ y h. chains key_before key_before_order j x y first h) xs r.0), r)
] refl

none_among : (op : ℕ) (key : List ℕ) (js : List Job) → live_on js op key ≡ None → AllByRecursion (λ x. on_key op key x.triple ≡ false) js
none_among op key [] e = tt
none_among op key (x ∷ js) e = elim (on_key op key x.triple) as (λ b. on_key op key x.triple ≡ b → cond b (Some x) (live_on js op key) ≡ None → (on_key op key x.triple ≡ false) × AllByRecursion (λ x. on_key op key x.triple ≡ false) js) [
  | true ↦ λ p k. let z : ⊥ = cc in absurd z
  | false ↦ λ p k. (p, none_among op key js k)
] refl e

pub keys_rise : (js : List Job) → OneEach js → Rises key_before (by_keys js)
keys_rise [] o = tt
keys_rise (j ∷ js) o = apart_placed j (by_keys js) (keys_rise js o.1)
    (all_in_order key_before (λ x. on_key j.triple.op j.triple.key x.triple ≡ false) js (none_among j.triple.op j.triple.key js o.0))

-- a job put in its place is found on its key
live_placed : (j : Job) (xs : List Job) (op : ℕ) (key : List ℕ) → live_on (placed key_before j xs) op key ≡ cond (on_key op key j.triple) (Some j) (live_on xs op key)
live_placed j [] op key = refl
live_placed j (x ∷ xs) op key = elim (key_before x j) as (λ b. key_before x j ≡ b → live_on (cond b (x ∷ placed key_before j xs) (j ∷ x ∷ xs)) op key ≡ cond (on_key op key j.triple) (Some j) (cond (on_key op key x.triple) (Some x) (live_on xs op key))) [
  | true ↦ λ e. elim (on_key op key x.triple) as (λ c. on_key op key x.triple ≡ c → cond c (Some x) (live_on (placed key_before j xs) op key) ≡ cond (on_key op key j.triple) (Some j) (cond c (Some x) (live_on xs op key))) [
    | true ↦ λ h.
        let other : on_key op key j.triple ≡ false = false_from_ne_true (on_key op key j.triple) (λ k.
        let a = on_parts x.triple op key h in
        let b = on_parts j.triple op key k in
        let tie = on_tie x.triple j.triple.op j.triple.key (on_same x.triple j.triple.op j.triple.key (a.0 ∙ sym b.0) (a.1 ∙ sym b.1)) in
        true≢false (sym e ∙ ap is_lt tie)) in
        sym (ap (λ d. cond d (Some j) (Some x)) other)
    | false ↦ λ h. live_placed j xs op key
  ] refl
  | false ↦ λ e. refl
] refl

pub live_by_keys : (js : List Job) (op : ℕ) (key : List ℕ) → live_on (by_keys js) op key ≡ live_on js op key
live_by_keys [] op key = refl
live_by_keys (j ∷ js) op key = live_placed j (by_keys js) op key ∙ ap (cond (on_key op key j.triple) (Some j)) (live_by_keys js op key)

-- a job, if it is of an operation and key
abbrev pub if_on : ℕ → List ℕ → Option Job → Option Job
if_on op key (Some j) = cond (on_key op key j.triple) (Some j) None
if_on op key None = None

none_later : (op : ℕ) (key : List ℕ) (x : Job) (xs : List Job) → key_cmp x.triple op key ≡ Greater → AllByRecursion (λ y. key_before x y ≡ true) xs → live_on xs op key ≡ None
none_later op key x [] g a = refl
none_later op key x (y ∷ xs) g a =
    let other : on_key op key y.triple ≡ false = false_from_ne_true (on_key op key y.triple) (λ h.
    let p = on_parts y.triple op key h in
    let k : key_cmp x.triple y.triple.op y.triple.key ≡ Greater = (λ i. key_cmp x.triple (p.0 i) (p.1 i)) ∙ g in
    false≢true (sym (ap is_lt k) ∙ a.0)) in
    ap (λ b. cond b (Some y) (live_on xs op key)) other ∙ none_later op key x xs g a.1

live_leading : (op : ℕ) (key : List ℕ) (xs : List Job) → Rises key_before xs → if_on op key (slice_get xs (leading (is_key_before op key) xs)) ≡ live_on xs op key
live_leading op key [] r = refl
live_leading op key (x ∷ xs) r = elim (key_cmp x.triple op key) as (λ o. key_cmp x.triple op key ≡ o →
    if_on op key (slice_get (x ∷ xs) (cond (is_lt o) (suc (leading (is_key_before op key) xs)) zero)) ≡ cond (on_key op key x.triple) (Some x) (live_on xs op key)) [
      | Less ↦ λ e.
          let other : on_key op key x.triple ≡ false = false_from_ne_true (on_key op key x.triple) (λ h. let t = on_tie x.triple op key h in let z : ⊥ = cc in z) in
          live_leading op key xs r.1 ∙ sym (ap (λ b. cond b (Some x) (live_on xs op key)) other)
      | Equal ↦ λ e.
          let p = tie_on x.triple op key e in
          let here = on_same x.triple op key p.0 p.1 in
          ap (λ b. cond b (Some x) None) here ∙ sym (ap (λ b. cond b (Some x) (live_on xs op key)) here)
      | Greater ↦ λ e. ap (cond (on_key op key x.triple) (Some x)) (sym (none_later op key x xs e r.0))
    ] refl

-- what the walk comes to is the live job of the key
pub walked_live : (js : List Job) (op : ℕ) (key : List ℕ) → OneEach js → if_on op key (slice_get (by_keys js) (key_rank op key js)) ≡ live_on js op key
walked_live js op key o = live_leading op key (by_keys js) (keys_rise js o) ∙ live_by_keys js op key

-- ---- what is asked for later is passed later

pub wants_later : (t u : Triple) (ts : List Triple) → triple_before t u ≡ true → wants_passed t ts ≤ wants_passed u ts
wants_later t u ts e = leading_more (is_before t) (is_before u) ts (λ x h. chains triple_before triple_before_order x t u h e)

-- a job of a lesser key comes before
pub keys_first : (a b : Triple) → key_cmp a b.op b.key ≡ Less → triple_before a b ≡ true
keys_first a b e = ap is_lt (by_key a b ∙ ap (λ o. ordering_then o (bytes_cmp a.value b.value)) e)

less_is : (o : Rattle.std.specs.declared.cmp.Ordering.Ordering) → is_lt o ≡ true → o ≡ Less
less_is Less e = refl
less_is Equal e = let z : ⊥ = cc in absurd z
less_is Greater e = let z : ⊥ = cc in absurd z

jobs_later : (ws : List Triple) (i : ℕ) (js : List Job) (a b : Job) → Rises key_before js → slice_get js i ≡ Some a → slice_get js (suc i) ≡ Some b → key_before a b ≡ true
jobs_later ws i [] a b r e f = let z : ⊥ = cc in absurd z
jobs_later ws zero (x ∷ []) a b r e f = let z : ⊥ = cc in absurd z
jobs_later ws zero (x ∷ y ∷ js) a b r e f = let p : x ≡ a = cc in let q : y ≡ b = cc in (λ k. key_before (sym p k) (sym q k)) ∙ r.0.0
jobs_later ws (suc i) (x ∷ js) a b r e f = jobs_later ws i js a b r.1 e f

-- so the next job in order of keys is asked for later
pub next_later : (ws : List Triple) (js : List Job) (i : ℕ) (a b : Job) → OneEach js → slice_get (by_keys js) i ≡ Some a → slice_get (by_keys js) (suc i) ≡ Some b → wants_passed a.triple ws ≤ wants_passed b.triple ws
next_later ws js i a b o e f = wants_later a.triple b.triple ws (keys_first a.triple b.triple (less_is _ (jobs_later ws i (by_keys js) a b (keys_rise js o) e f)))

-- and so is the key of the next wanted triple
keys_follow : (ts : List Triple) (i : ℕ) (a b : Triple) → IsInOrder keys_before ts → slice_get ts i ≡ Some a → slice_get ts (suc i) ≡ Some b → keys_before b a ≡ false
keys_follow [] i a b r e f = let z : ⊥ = cc in absurd z
keys_follow (x ∷ []) zero a b r e f = let z : ⊥ = cc in absurd z
keys_follow (x ∷ y ∷ ts) zero a b r e f = let p : x ≡ a = cc in let q : y ≡ b = cc in (λ k. keys_before (sym q k) (sym p k)) ∙ r.0.0
keys_follow (x ∷ ts) (suc i) a b r e f = keys_follow ts i a b r.1 e f

below_upto : (x a b : Triple) → keys_before b a ≡ false → keys_before x a ≡ true → keys_before x b ≡ true
below_upto x a b h e = elim (keys_before x b) as (λ t. keys_before x b ≡ t → t ≡ true) [
  | true ↦ λ p. refl
  | false ↦ λ p. absurd (false≢true (sym (before_upto keys_total a b x h p) ∙ e))
] refl

pub key_later : (ts : List Triple) (js : List Job) (i : ℕ) (a b : Triple) → TriplesRise ts → slice_get ts i ≡ Some a → slice_get ts (suc i) ≡ Some b → key_rank a.op a.key js ≤ key_rank b.op b.key js
key_later ts js i a b r e f = leading_more (is_key_before a.op a.key) (is_key_before b.op b.key) (by_keys js)
    (λ j h. below_upto j.triple a b (keys_follow ts i a b (keys_in_order ts r) e f) h)

-- ---- the least wanted triple of a key

-- the first of its key is the least, and nothing later is
first_least : (t : Triple) (us : List Triple) → AllByRecursion (λ u. triple_cmp t u ≡ Less) us → is_least (t ∷ us) t ≡ true
first_least t us a =
    let here = on_same t t.op t.key refl refl in
    ap (λ b. is_value (least_value (map (λ u. u.value) (cond b (t ∷ filter (on_key t.op t.key) us) (filter (on_key t.op t.key) us)))) t.value) here
    ∙ ap (λ v. is_value (Some v) t.value) (least_stays t t.op t.key us here a)
    ∙ same_bytes t.value t.value refl

value_apart : (u t : Triple) → triple_cmp u t ≡ Less → on_key t.op t.key u ≡ true → Rattle.std.specs.Str.bytes_eq u.value t.value ≡ false
value_apart u t l h = false_from_ne_true (Rattle.std.specs.Str.bytes_eq u.value t.value) (λ k.
    let p = on_parts u t.op t.key h in
    let v = bytes_same u.value t.value k in
    let same : u ≡ t = λ i. record { op = p.0 i; key = p.1 i; value = v i } in
    true≢false (sym (ap is_lt l) ∙ ap (λ x. triple_before u x) (sym same) ∙ Rattle.fair_pool.proofs.Ordered.not_itself triple_before triple_before_order u))

later_not_least : (u t : Triple) (us : List Triple) → AllByRecursion (λ v. triple_cmp u v ≡ Less) us → triple_cmp u t ≡ Less → on_key t.op t.key u ≡ true → is_least (u ∷ us) t ≡ false
later_not_least u t us a l h =
    ap (λ b. is_value (least_value (map (λ v. v.value) (cond b (u ∷ filter (on_key t.op t.key) us) (filter (on_key t.op t.key) us)))) t.value) h
    ∙ ap (λ v. is_value (Some v) t.value) (least_stays u t.op t.key us h a)
    ∙ value_apart u t l h

-- one of another key takes no part
other_least : (u t : Triple) (us : List Triple) → on_key t.op t.key u ≡ false → is_least (u ∷ us) t ≡ is_least us t
other_least u t us h = ap (λ b. is_value (least_value (map (λ v. v.value) (cond b (u ∷ filter (on_key t.op t.key) us) (filter (on_key t.op t.key) us)))) t.value) h

-- what holds of each holds of the one at an index
pub all_get : {X : Type 0} (P : X → Type 0) (xs : List X) (i : ℕ) (x : X) → AllByRecursion P xs → slice_get xs i ≡ Some x → P x
all_get P [] i x a e = let z : ⊥ = cc in absurd z
all_get P (y ∷ xs) zero x a e = let p : y ≡ x = cc in subst P p a.0
all_get P (y ∷ xs) (suc i) x a e = all_get P xs i x a.1 e

-- what lies between two of one key is of it
between : (u p t : Triple) → keys_before p u ≡ false → keys_before t p ≡ false → on_key t.op t.key u ≡ true → on_key t.op t.key p ≡ true
between u p t a b h =
    let k = on_parts u t.op t.key h in
    let c : keys_before p t ≡ false = (λ i. is_lt (key_cmp p (sym k.0 i) (sym k.1 i))) ∙ a in
    let tie : key_cmp p t.op t.key ≡ Equal = elim (key_cmp p t.op t.key) as (λ o. key_cmp p t.op t.key ≡ o → o ≡ Equal) [
      | Less ↦ λ e. absurd (false≢true (sym c ∙ ap is_lt e))
      | Equal ↦ λ e. refl
      | Greater ↦ λ e. absurd (false≢true (sym b ∙ sym (Rattle.job_core.proofs.Keys.above_is keys_total p t) ∙ ap Rattle.std.specs.Ordering.is_gt e))
    ] refl in
    let q = tie_on p t.op t.key tie in
    on_same p t.op t.key q.0 q.1

pub least_at_first : (ts : List Triple) (t : Triple) → TriplesRise ts → slice_get ts 0 ≡ Some t → is_least ts t ≡ true
least_at_first [] t r e = let z : ⊥ = cc in absurd z
least_at_first (u ∷ us) t r e = let p : u ≡ t = cc in subst (λ v. is_least (u ∷ us) v ≡ true) p (first_least u us r.0)

pub least_at : (ts : List Triple) (i : ℕ) (p t : Triple) → TriplesRise ts → slice_get ts i ≡ Some p → slice_get ts (suc i) ≡ Some t → is_least ts t ≡ not (on_key t.op t.key p)
least_at [] i p t r e f = let z : ⊥ = cc in absurd z
least_at (u ∷ us) zero p t r e f =
    let same : u ≡ p = cc in
    let l : triple_cmp u t ≡ Less = all_get (λ v. triple_cmp u v ≡ Less) us 0 t r.0 f in
    subst (λ v. is_least (u ∷ us) t ≡ not (on_key t.op t.key v)) same
    (elim (on_key t.op t.key u) as (λ b. on_key t.op t.key u ≡ b → is_least (u ∷ us) t ≡ not b) [
      | true ↦ λ h. later_not_least u t us r.0 l h
      | false ↦ λ h. other_least u t us h ∙ least_at_first us t r.1 f
    ] refl)
least_at (u ∷ us) (suc i) p t r e f = elim (on_key t.op t.key u) as (λ b. on_key t.op t.key u ≡ b → is_least (u ∷ us) t ≡ not (on_key t.op t.key p)) [
  | true ↦ λ h.
      let o = keys_in_order (u ∷ us) r in
      let a = all_get (λ v. keys_before v u ≡ false) us i p o.0 e in
      let b = keys_follow us i p t o.1 e f in
      later_not_least u t us r.0 (all_get (λ v. triple_cmp u v ≡ Less) us (suc i) t r.0 f) h ∙ ap not (sym (between u p t a b h))
  | false ↦ λ h. other_least u t us h ∙ least_at us i p t r.1 e f
] refl

-- the wanted triples before the least of a key come before each triple of that key
pub least_passed : (ts : List Triple) (i : ℕ) (t j : Triple) → TriplesRise ts → slice_get ts i ≡ Some t → is_least ts t ≡ true → on_key t.op t.key j ≡ true → i ≤ wants_passed j ts
least_passed [] i t j r e h k = let z : ⊥ = cc in absurd z
least_passed (u ∷ us) zero t j r e h k = omega arith
least_passed (u ∷ us) (suc i) t j r e h k =
    let l : triple_cmp u t ≡ Less = all_get (λ v. triple_cmp u v ≡ Less) us i t r.0 e in
    let other : on_key t.op t.key u ≡ false = false_from_ne_true (on_key t.op t.key u) (λ c. true≢false (sym h ∙ later_not_least u t us r.0 l c)) in
    let p = on_parts j t.op t.key k in
    let below : key_cmp u t.op t.key ≡ Less = elim (key_cmp u t.op t.key) as (λ o. key_cmp u t.op t.key ≡ o → o ≡ Less) [
      | Less ↦ λ c. refl
      | Equal ↦ λ c. let q = tie_on u t.op t.key c in absurd (both_ways (on_key t.op t.key u) other (on_same u t.op t.key q.0 q.1))
      | Greater ↦ λ c. let z : Greater ≡ Less = sym (ap (λ o. ordering_then o (bytes_cmp u.value t.value)) c) ∙ sym (by_key u t) ∙ l in let y : ⊥ = cc in absurd y
    ] refl in
    let first : is_before j u ≡ true = keys_first u j ((λ x. key_cmp u (p.0 x) (p.1 x)) ∙ below) in
    let rest = least_passed us i t j r.1 e (sym (other_least u t us other) ∙ h) k in
    subst (λ b. suc i ≤ cond b (suc (wants_passed j us)) zero) (sym first) (omega arith)
