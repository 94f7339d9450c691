-- Live jobs in order of their operations and keys: one more, one less, and where one is found.
use Rattle.std.proofs.Common.{◌≡◌, ℕ, zero, suc, ◌<◌, Bool, true, false, cond, not, ◌&&◌, List, [], ◌∷◌, ◌++◌, map, length, get_or, Some, None, refl, sym, ap, ◌∙◌, subst, arith}
use Rattle.std.proofs.Common.{Less, Equal, Greater}
use Rattle.std.proofs.lemmas.Bool.{and_from, and_parts, both_ways, eqb-true, eq-eqb, ne_eqb}
use Rattle.std.specs.Prelude.{◌==◌, if◌then◌else◌, remove, insert}
use Rattle.std.specs.Option.{option_and_then}
use Rattle.std.specs.List.{AllByRecursion}
use Rattle.std.specs.List.Sorted.{IsPartitionedBy}
use Rattle.std.specs.declared.cmp.Ordering.{Ordering}
use Rattle.std.specs.Ordering.{is_eq, is_gt, is_lt, nat_cmp, on, ordering_reverse, then_cmp}
use Rattle.std.specs.Cmp.{Equal-is, IsTotalOrder, nat_cmp_total, on_total, then_total, tied_then, upto}
use Rattle.std.specs.Cmp.Lexicographic.{nat_list_cmp_total}
use Rattle.std.specs.FinMap.{nat_cmp-IsAntisymmetric, slice_cmp-IsAntisymmetric}
use Rattle.std.specs.Str.{bytes_eq}
use Rattle.value_core.specs.declared.state.Triple.{Triple}
use Rattle.value_core.specs.Orders.{bytes_cmp}
use Rattle.fair_pool.specs.Order.{leading, placed}
use Rattle.fair_pool.proofs.Ordered.{IsBefore, IsInOrder-in_order, all_at, all_in_order, displaced-placed, displaced_remove, leading-placed, not_itself, parted, placed-placed, placed_insert}
use Rattle.core_rules.specs.Core.{job_numbered, with_job, without_job}
use Rattle.core_rules.specs.Entries.{job_of}
use Rattle.core_rules.specs.Laws.{JobsAbove, OneEach, Rising}
use Rattle.core_rules.specs.Settling.{live_on, on_key}
use Rattle.core_rules.specs.declared.jobs.Job.{Job}
use Rattle.core_rules.specs.declared.jobs.Mark.TheVariants.{Unmarked}
use Rattle.job_core.specs.Keys.{by_keys, is_found_before, is_key_before, key_before, key_cmp, key_rank}
use Rattle.job_core.proofs.Places.{above_has, has_found}
use Rattle.job_core.proofs.StageAfter.{none_of}
use Rattle.value_core.proofs.Basics.{bytes_same, same_bytes}
use Rattle.core_rules.proofs.Rising.{none_numbered}

-- ---- the order

module _ {K : Type 0} {R : K → K → Ordering} (o : IsTotalOrder R) where
  turned : (r : Ordering) → is_lt r ≡ true → is_lt (ordering_reverse r) ≡ false
  turned Less e = refl
  turned Equal e = refl
  turned Greater e = let z : ⊥ = cc in absurd z

  flipped : (r : Ordering) → is_gt (ordering_reverse r) ≡ is_lt r
  flipped Less = refl
  flipped Equal = refl
  flipped Greater = refl

  pub before_asym : (a b : K) → is_lt (R a b) ≡ true → is_lt (R b a) ≡ false
  before_asym a b e = ap is_lt (o.antisymm b a) ∙ turned (R a b) e

  pub above_is : (a b : K) → is_gt (R a b) ≡ is_lt (R b a)
  above_is a b = ap is_gt (o.antisymm a b) ∙ flipped (R b a)

  pub before_upto : (a b c : K) → is_lt (R b a) ≡ false → is_lt (R c b) ≡ false → is_lt (R c a) ≡ false
  before_upto a b c p q = sym (above_is a c) ∙ upto o a b c (above_is a b ∙ p) (above_is b c ∙ q)

  pub before_either : (a b : K) → (R a b ≡ Equal → ⊥) → is_lt (R a b) ≡ false → is_lt (R b a) ≡ true
  before_either a b d p = elim (R a b) as (λ r. R a b ≡ r → is_lt r ≡ false → is_lt (R b a) ≡ true) [
    | Less ↦ λ e h. let z : ⊥ = cc in absurd z
    | Equal ↦ λ e h. absurd (d e)
    | Greater ↦ λ e h. ap is_lt (o.antisymm b a) ∙ ap (λ r. is_lt (ordering_reverse r)) e
  ] refl p

abbrev pub keys_cmp : Triple → Triple → Ordering
keys_cmp = then_cmp (on (λ t. t.op) nat_cmp) (on (λ t. t.key) bytes_cmp)

pub keys_total : IsTotalOrder keys_cmp
keys_total = then_total (on_total (λ t. t.op) nat_cmp_total) (on_total (λ t. t.key) nat_list_cmp_total)

pub key_before_order : IsBefore key_before
key_before_order = record { asym = λ a b. before_asym keys_total a.triple b.triple; upto = λ a b c. before_upto keys_total a.triple b.triple c.triple }

-- what ties has the operation and key
pub tie_on : (t : Triple) (op : ℕ) (key : List ℕ) → key_cmp t op key ≡ Equal → (t.op ≡ op) × (t.key ≡ key)
tie_on t op key e =
    let a = nat_cmp t.op op in
    let b = bytes_cmp t.key key in
    let h = and_parts (is_eq a) (is_eq b) (tied_then a b ∙ ap is_eq e) in
    (nat_cmp-IsAntisymmetric t.op op ((Equal-is a).0 h.0), slice_cmp-IsAntisymmetric nat_cmp-IsAntisymmetric t.key key ((Equal-is b).0 h.1))

pub on_same : (t : Triple) (op : ℕ) (key : List ℕ) → t.op ≡ op → t.key ≡ key → on_key op key t ≡ true
on_same t op key p q = and_from (t.op == op) (bytes_eq t.key key) (eq-eqb t.op op p) (same_bytes t.key key q)

pub on_parts : (t : Triple) (op : ℕ) (key : List ℕ) → on_key op key t ≡ true → (t.op ≡ op) × (t.key ≡ key)
on_parts t op key e =
    let h = and_parts (t.op == op) (bytes_eq t.key key) e in
    (eqb-true t.op op h.0, bytes_same t.key key h.1)

-- two jobs of different operations and keys are put in either way
swap : (a b : Job) (xs : List Job) → (key_cmp a.triple b.triple.op b.triple.key ≡ Equal → ⊥) → placed key_before a (placed key_before b xs) ≡ placed key_before b (placed key_before a xs)
swap a b xs d = elim (key_before a b) as (λ t. key_before a b ≡ t → placed key_before a (placed key_before b xs) ≡ placed key_before b (placed key_before a xs)) [
  | true ↦ λ e. placed-placed key_before key_before_order a b xs e
  | false ↦ λ e. sym (placed-placed key_before key_before_order b a xs (before_either keys_total a.triple b.triple d e))
] refl

-- ---- one more and one less

pub pushed : (js : List Job) (j : Job) → live_on js j.triple.op j.triple.key ≡ None → by_keys (js ++ j ∷ []) ≡ placed key_before j (by_keys js)
pushed [] j f = refl
pushed (x ∷ js) j f = elim (on_key j.triple.op j.triple.key x.triple) as (λ b. on_key j.triple.op j.triple.key x.triple ≡ b → cond b (Some x) (live_on js j.triple.op j.triple.key) ≡ None →
    placed key_before x (by_keys (js ++ j ∷ [])) ≡ placed key_before j (placed key_before x (by_keys js))) [
      | true ↦ λ e k. let z : ⊥ = cc in absurd z
      | false ↦ λ e k. ap (placed key_before x) (pushed js j k) ∙ swap x j (by_keys js) (λ t. let h = tie_on x.triple j.triple.op j.triple.key t in both_ways (on_key j.triple.op j.triple.key x.triple) e (on_same x.triple j.triple.op j.triple.key h.0 h.1))
    ] refl f

-- a job of a number among those of which none has an operation and key
pub number_apart : (op : ℕ) (key : List ℕ) (js : List Job) (n : ℕ) (j : Job) → live_on js op key ≡ None → job_numbered js n ≡ Some j → on_key op key j.triple ≡ false
number_apart op key [] n j f e = let z : ⊥ = cc in absurd z
number_apart op key (x ∷ js) n j f e = elim (on_key op key x.triple) as (λ b. on_key op key x.triple ≡ b → cond b (Some x) (live_on js op key) ≡ None → on_key op key j.triple ≡ false) [
  | true ↦ λ p k. let z : ⊥ = cc in absurd z
  | false ↦ λ p k. elim (x.number == n) as (λ c. cond c (Some x) (job_numbered js n) ≡ Some j → on_key op key j.triple ≡ false) [
    | true ↦ λ h. let same : x ≡ j = cc in ap (λ (y : Job). on_key op key y.triple) (sym same) ∙ p
    | false ↦ λ h. number_apart op key js n j k h
  ] e
] refl f

pub parted_at : (js : List Job) (n : ℕ) (j : Job) → Rising js → OneEach js → job_numbered js n ≡ Some j → by_keys js ≡ placed key_before j (by_keys (without_job n js))
parted_at [] n j r o f = let z : ⊥ = cc in absurd z
parted_at (x ∷ js) n j r o f = elim (x.number == n) as (λ b. (x.number == n) ≡ b → cond b (Some x) (job_numbered js n) ≡ Some j →
    placed key_before x (by_keys js) ≡ placed key_before j (by_keys (cond (not b) (x ∷ without_job n js) (without_job n js)))) [
      | true ↦ λ e k.
          let same : x ≡ j = cc in
          ap (λ y. placed key_before y (by_keys js)) same ∙ ap (λ ks. placed key_before j (by_keys ks)) (sym (none_numbered n js (subst (λ m. JobsAbove m js) (eqb-true x.number n e) r.0)))
      | false ↦ λ e k. ap (placed key_before x) (parted_at js n j r.1 o.1 k)
          ∙ swap x j (by_keys (without_job n js)) (λ t.
          let h = tie_on x.triple j.triple.op j.triple.key t in
          both_ways (on_key x.triple.op x.triple.key j.triple) (number_apart x.triple.op x.triple.key js n j o.0 k) (on_same j.triple x.triple.op x.triple.key (sym h.0) (sym h.1)))
    ] refl f

-- ---- numbers in this order

abbrev pub numbers : List Job → List ℕ
numbers js = map (λ j. j.number) js

map-insert : (xs : List Job) (i : ℕ) (x : Job) → numbers (insert xs i x) ≡ insert (numbers xs) i x.number
map-insert xs zero x = refl
map-insert [] (suc i) x = refl
map-insert (y ∷ xs) (suc i) x = ap (λ ns. y.number ∷ ns) (map-insert xs i x)

map-remove : (xs : List Job) (i : ℕ) → numbers (remove xs i) ≡ remove (numbers xs) i
map-remove [] zero = refl
map-remove [] (suc i) = refl
map-remove (y ∷ xs) zero = refl
map-remove (y ∷ xs) (suc i) = ap (λ ns. y.number ∷ ns) (map-remove xs i)

-- one more job has its number put in at its rank
pub number_pushed : (js : List Job) (j : Job) → live_on js j.triple.op j.triple.key ≡ None → numbers (by_keys (js ++ j ∷ [])) ≡ insert (numbers (by_keys js)) (key_rank j.triple.op j.triple.key js) j.number
number_pushed js j f = ap numbers (pushed js j f ∙ placed_insert key_before j (by_keys js)) ∙ map-insert (by_keys js) (key_rank j.triple.op j.triple.key js) j

-- where the job of a number stands
pub record RankOf (js : List Job) (n : ℕ) (j : Job) : Type 0 where
  pub within : key_rank j.triple.op j.triple.key js < length (by_keys js)
  pub at : (d : ℕ) → get_or (numbers (by_keys js)) (key_rank j.triple.op j.triple.key js) d ≡ j.number
  pub less : remove (numbers (by_keys js)) (key_rank j.triple.op j.triple.key js) ≡ numbers (by_keys (without_job n js))

at_placed : (k : Job) (xs : List Job) (d : ℕ) → get_or (numbers (placed key_before k xs)) (leading (λ x. key_before x k) (placed key_before k xs)) d ≡ k.number
at_placed k [] d = ap (λ b. get_or (k.number ∷ []) (cond b 1 zero) d) (not_itself key_before key_before_order k)
at_placed k (x ∷ xs) d = elim (key_before x k) as (λ b. key_before x k ≡ b → get_or (numbers (cond b (x ∷ placed key_before k xs) (k ∷ x ∷ xs))) (leading (λ y. key_before y k) (cond b (x ∷ placed key_before k xs) (k ∷ x ∷ xs))) d ≡ k.number) [
  | true ↦ λ e. ap (λ b. get_or (x.number ∷ numbers (placed key_before k xs)) (cond b (suc (leading (λ y. key_before y k) (placed key_before k xs))) zero) d) e ∙ at_placed k xs d
  | false ↦ λ e. ap (λ b. get_or (k.number ∷ x.number ∷ numbers xs) (cond b (suc (leading (λ y. key_before y k) (x ∷ xs))) zero) d) (not_itself key_before key_before_order k)
] refl

pub rank_of : (js : List Job) (n : ℕ) (j : Job) → Rising js → OneEach js → job_numbered js n ≡ Some j → RankOf js n j
rank_of js n j r o f =
    let ks = by_keys (without_job n js) in
    let e = parted_at js n j r o f in
    record {
      within = subst (λ xs. leading (λ x. key_before x j) xs < length xs) (sym e) (leading-placed key_before key_before_order j ks);
      at = λ d. subst (λ xs. get_or (numbers xs) (leading (λ x. key_before x j) xs) d ≡ j.number) (sym e) (at_placed j ks d);
      less = subst (λ xs. remove (numbers xs) (leading (λ x. key_before x j) xs) ≡ numbers ks) (sym e)
          (sym (map-remove (placed key_before j ks) (leading (λ x. key_before x j) (placed key_before j ks)))
          ∙ ap numbers (sym (displaced_remove key_before j (placed key_before j ks) (leading-placed key_before key_before_order j ks)) ∙ displaced-placed key_before key_before_order j ks));
    }

-- the numbers through a change that keeps numbers and triples
same_placed : (f : Job → Job) → ((j : Job) → (f j).triple ≡ j.triple) → (k : Job) (xs : List Job) → map f (placed key_before k xs) ≡ placed key_before (f k) (map f xs)
same_placed f t k [] = refl
same_placed f t k (x ∷ xs) =
    let same : key_before (f x) (f k) ≡ key_before x k = λ i. is_key_before (t k i).op (t k i).key (record x { triple = t x i }) in
    elim (key_before x k) as (λ b. key_before x k ≡ b → map f (cond b (x ∷ placed key_before k xs) (k ∷ x ∷ xs)) ≡ cond (key_before (f x) (f k)) (f x ∷ placed key_before (f k) (map f xs)) (f k ∷ f x ∷ map f xs)) [
      | true ↦ λ e. ap (λ ys. f x ∷ ys) (same_placed f t k xs) ∙ sym (ap (λ b. cond b (f x ∷ placed key_before (f k) (map f xs)) (f k ∷ f x ∷ map f xs)) (same ∙ e))
      | false ↦ λ e. sym (ap (λ b. cond b (f x ∷ placed key_before (f k) (map f xs)) (f k ∷ f x ∷ map f xs)) (same ∙ e))
    ] refl

-- a job without what changes
abbrev pub plain_of : Job → Job
plain_of j = record j { confirmed = false; worker = None; mark = Unmarked }

plain_by_keys : (js : List Job) → map plain_of (by_keys js) ≡ by_keys (map plain_of js)
plain_by_keys [] = refl
plain_by_keys (j ∷ js) = same_placed plain_of (λ _. refl) j (by_keys js) ∙ ap (placed key_before (plain_of j)) (plain_by_keys js)

numbers_plain : (js : List Job) → numbers (map plain_of js) ≡ numbers js
numbers_plain [] = refl
numbers_plain (j ∷ js) = ap (λ ns. j.number ∷ ns) (numbers_plain js)

pub numbers_like : (js ks : List Job) → map plain_of js ≡ map plain_of ks → numbers (by_keys js) ≡ numbers (by_keys ks)
numbers_like js ks e = sym (numbers_plain (by_keys js)) ∙ ap numbers (plain_by_keys js ∙ ap by_keys e ∙ sym (plain_by_keys ks)) ∙ numbers_plain (by_keys ks)

pub plain_with : (n : ℕ) (f : Job → Job) (js : List Job) → ((j : Job) → plain_of (f j) ≡ plain_of j) → map plain_of (with_job n f js) ≡ map plain_of js
plain_with n f [] k = refl
plain_with n f (j ∷ js) k = elim (j.number == n) as (λ b. map plain_of (if b then f j ∷ js else (j ∷ with_job n f js)) ≡ plain_of j ∷ map plain_of js) [
  | true ↦ ap (λ x. x ∷ map plain_of js) (k j)
  | false ↦ ap (λ ks. plain_of j ∷ ks) (plain_with n f js k)
]

-- ---- the search

later_found : (j : Job) (js ks : List Job) → JobsAbove j.number ks → AllByRecursion (λ k. job_numbered js k.number ≡ Some k) ks → AllByRecursion (λ k. job_numbered (j ∷ js) k.number ≡ Some k) ks
later_found j js [] a h = tt
later_found j js (k ∷ ks) a h = (let l = a.0 in ap (λ b. cond b (Some j) (job_numbered js k.number)) (ne_eqb j.number k.number (λ e. absurd (omega arith))) ∙ h.0, later_found j js ks a.1 h.1)

-- each job is found by its number
pub self_found : (js : List Job) → Rising js → AllByRecursion (λ k. job_numbered js k.number ≡ Some k) js
self_found [] r = tt
self_found (j ∷ js) r = (ap (λ b. cond b (Some j) (job_numbered js j.number)) (eq-eqb j.number j.number refl), later_found j js js r.0 (self_found js r.1))

-- so the test of numbers is that of jobs
pub tests_same : (op : ℕ) (key : List ℕ) (js ks : List Job) → AllByRecursion (λ k. job_numbered js k.number ≡ Some k) ks → AllByRecursion (λ k. is_found_before op key (job_numbered js k.number) ≡ is_key_before op key k) ks
tests_same op key js [] h = tt
tests_same op key js (k ∷ ks) h = (ap (is_found_before op key) h.0, tests_same op key js ks h.1)

leading-map : {X Y : Type 0} (f : X → Y) (p : Y → Bool) (q : X → Bool) (xs : List X) → AllByRecursion (λ x. p (f x) ≡ q x) xs → leading p (map f xs) ≡ leading q xs
leading-map f p q [] h = refl
leading-map f p q (x ∷ xs) h = ap (λ b. cond b (suc (leading p (map f xs))) zero) h.0 ∙ ap (λ n. cond (q x) (suc n) zero) (leading-map f p q xs h.1)

at_map : {X Y : Type 0} (f : X → Y) (xs : List X) (i : ℕ) (d : Y) (e : X) → i < length xs → get_or (map f xs) i d ≡ f (get_or xs i e)
at_map f [] i d e l = absurd (omega arith)
at_map f (x ∷ xs) zero d e l = refl
at_map f (x ∷ xs) (suc i) d e l = at_map f xs i d e (omega arith)

pub map_length : {X Y : Type 0} (f : X → Y) (xs : List X) → length (map f xs) ≡ length xs
map_length f [] = refl
map_length f (x ∷ xs) = ap suc (map_length f xs)

parted_map : {X Y : Type 0} (f : X → Y) (p : Y → Bool) (q : X → Bool) (xs : List X) (e : X) → AllByRecursion (λ x. p (f x) ≡ q x) xs → IsPartitionedBy q xs → IsPartitionedBy p (map f xs)
parted_map f p q xs e a h i j d l m k =
    let n : j < length xs = omega (arith, map_length f xs) in
    let o : i < length xs = omega arith in
    let first : p (get_or (map f xs) i d) ≡ q (get_or xs i e) = ap p (at_map f xs i d e o) ∙ all_at (λ x. p (f x) ≡ q x) xs a i e o in
    let second : p (get_or (map f xs) j d) ≡ q (get_or xs j e) = ap p (at_map f xs j d e n) ∙ all_at (λ x. p (f x) ≡ q x) xs a j e n in
    first ∙ h i j e l n (sym second ∙ k)

-- a job of an operation and key
abbrev pub probe : ℕ → List ℕ → Job
probe op key = record { number = 0; triple = record { op = op; key = key; value = [] }; confirmed = false; worker = None; mark = Unmarked }

pub keys_parted : (op : ℕ) (key : List ℕ) (js : List Job) → Rising js → IsPartitionedBy (λ n. is_found_before op key (job_numbered js n)) (numbers (by_keys js))
keys_parted op key js r = parted_map (λ j. j.number) (λ n. is_found_before op key (job_numbered js n)) (is_key_before op key) (by_keys js) (probe op key)
    (tests_same op key js (by_keys js) (all_in_order key_before (λ k. job_numbered js k.number ≡ Some k) js (self_found js r)))
    (parted key_before key_before_order (probe op key) (by_keys js) (IsInOrder-in_order key_before key_before_order js))

pub keys_leading : (op : ℕ) (key : List ℕ) (js : List Job) → Rising js → leading (λ n. is_found_before op key (job_numbered js n)) (numbers (by_keys js)) ≡ key_rank op key js
keys_leading op key js r = leading-map (λ j. j.number) (λ n. is_found_before op key (job_numbered js n)) (is_key_before op key) (by_keys js)
    (tests_same op key js (by_keys js) (all_in_order key_before (λ k. job_numbered js k.number ≡ Some k) js (self_found js r)))

-- ---- what is found

-- the live job of an operation and key, by its number
pub record LiveAt (js : List Job) (op : ℕ) (key : List ℕ) (j : Job) : Type 0 where
  pub found : job_numbered js j.number ≡ Some j
  pub of_key : on_key op key j.triple ≡ true

pub live_at : (js : List Job) (op : ℕ) (key : List ℕ) (j : Job) → Rising js → live_on js op key ≡ Some j → LiveAt js op key j
live_at [] op key j r e = let z : ⊥ = cc in absurd z
live_at (x ∷ js) op key j r e = elim (on_key op key x.triple) as (λ b. on_key op key x.triple ≡ b → cond b (Some x) (live_on js op key) ≡ Some j → LiveAt (x ∷ js) op key j) [
  | true ↦ λ p k.
      let same : x ≡ j = cc in
      record {
        found = ap (λ b. cond b (Some x) (job_numbered js j.number)) (eq-eqb x.number j.number (ap (λ (y : Job). y.number) same)) ∙ k;
        of_key = ap (λ (y : Job). on_key op key y.triple) (sym same) ∙ p;
      }
  | false ↦ λ p k.
      let h = live_at js op key j r.1 k in
      let l = above_has x.number j.number js r.0 (has_found j.number js j h.found) in
      record {
        found = ap (λ b. cond b (Some x) (job_numbered js j.number)) (ne_eqb x.number j.number (λ y. absurd (omega arith))) ∙ h.found;
        of_key = h.of_key;
      }
] refl e

-- a job of an operation and key is the live one
pub live_only : (js : List Job) (op : ℕ) (key : List ℕ) (n : ℕ) (j : Job) → OneEach js → job_numbered js n ≡ Some j → on_key op key j.triple ≡ true → live_on js op key ≡ Some j
live_only [] op key n j o f k = let z : ⊥ = cc in absurd z
live_only (x ∷ js) op key n j o f k = elim (x.number == n) as (λ b. cond b (Some x) (job_numbered js n) ≡ Some j → cond (on_key op key x.triple) (Some x) (live_on js op key) ≡ Some j) [
  | true ↦ λ h. let same : x ≡ j = cc in ap (λ b. cond b (Some x) (live_on js op key)) (ap (λ (y : Job). on_key op key y.triple) same ∙ k) ∙ h
  | false ↦ λ h. elim (on_key op key x.triple) as (λ c. on_key op key x.triple ≡ c → cond c (Some x) (live_on js op key) ≡ Some j) [
    | true ↦ λ p.
        let a = on_parts x.triple op key p in
        let b = on_parts j.triple op key k in
        absurd (both_ways (on_key x.triple.op x.triple.key j.triple) (number_apart x.triple.op x.triple.key js n j o.0 h) (on_same j.triple x.triple.op x.triple.key (b.0 ∙ sym a.0) (b.1 ∙ sym a.1)))
    | false ↦ λ p. live_only js op key n j o.1 h k
  ] refl
] f

-- where its number stands
pub live_rank : (js : List Job) (op : ℕ) (key : List ℕ) (j : Job) → Rising js → OneEach js → live_on js op key ≡ Some j →
    (key_rank op key js < length (by_keys js)) × ((d : ℕ) → get_or (numbers (by_keys js)) (key_rank op key js) d ≡ j.number)
live_rank js op key j r o e =
    let h = live_at js op key j r e in
    let p = on_parts j.triple op key h.of_key in
    let k = rank_of js j.number j r o h.found in
    let same : key_rank j.triple.op j.triple.key js ≡ key_rank op key js = λ i. key_rank (p.0 i) (p.1 i) js in
    (subst (λ n. n < length (by_keys js)) same k.within, λ d. ap (λ n. get_or (numbers (by_keys js)) n d) (sym same) ∙ k.at d)

-- the job of a triple is the one of its key with its value
pub job_by_key : (js : List Job) (t : Triple) → OneEach js → job_of js t ≡ option_and_then (λ j. if bytes_eq j.triple.value t.value then Some j else None) (live_on js t.op t.key)
job_by_key [] t o = refl
job_by_key (x ∷ js) t o = elim (on_key t.op t.key x.triple) as (λ b. on_key t.op t.key x.triple ≡ b →
    cond (b && bytes_eq x.triple.value t.value) (Some x) (job_of js t) ≡ option_and_then (λ j. if bytes_eq j.triple.value t.value then Some j else None) (cond b (Some x) (live_on js t.op t.key))) [
      | true ↦ λ e.
          let p = on_parts x.triple t.op t.key e in
          let none : job_of js t ≡ None = none_of js t ((λ i. live_on js (sym p.0 i) (sym p.1 i)) ∙ o.0) in
          ap (cond (bytes_eq x.triple.value t.value) (Some x)) none
      | false ↦ λ e. job_by_key js t o.1
    ] refl
