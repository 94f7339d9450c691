-- What one step of a walk finds.
use Rattle.std.proofs.Common.{◌≡◌, ℕ, zero, suc, ◌<◌, ◌≤◌, Bool, true, false, cond, not, ◌&&◌, ◌||◌, List, [], ◌∷◌, ◌++◌, length, drop, append_assoc, Option, Some, None, is_some, refl, sym, ap, ◌∙◌, arith}
use Rattle.std.proofs.lemmas.Bool.{or_right}
use Rattle.std.specs.Prelude.{filter, if◌then◌else◌, slice_get}
use Rattle.std.specs.Option.{option_and_then}
use Rattle.value_core.specs.declared.state.Triple.{Triple}
use Rattle.value_core.proofs.Basics.{some_is}
use Rattle.op_keys.specs.declared.declarations.OpDecl.{OpDecl}
use Rattle.core_rules.specs.Core.{goes_on}
use Rattle.core_rules.specs.Laws.{OneEach}
use Rattle.core_rules.specs.Settling.{is_unmarked, is_value, least_value, live_on, on_key, or_least, stays, values_on, wanted_value}
use Rattle.core_rules.specs.declared.jobs.Job.{Job}
use Rattle.term_core.specs.Counts.{is_wanted}
use Rattle.job_core.specs.Keys.{by_keys, key_rank}
use Rattle.job_core.specs.Plans.{triples_of}
use Rattle.job_core.specs.Walks.{IsWalked, is_least, wants_passed}
use Rattle.job_core.specs.Wants.{TriplesRise, drops_of, is_lost_by, is_open, lost_of, stays_found}
use Rattle.job_core.specs.declared.plan.NewJob.{NewJob}
use Rattle.job_core.proofs.Keys.{numbers}
use Rattle.job_core.proofs.Walks.{IsAhead, key_later, next_later}

-- ---- the item of an index

pub get_some : {X : Type 0} (xs : List X) (i : ℕ) → i < length xs → (x : X) × (slice_get xs i ≡ Some x)
get_some [] i l = absurd (omega arith)
get_some (x ∷ xs) zero l = (x, refl)
get_some (x ∷ xs) (suc i) l = get_some xs i (omega arith)

pub drop_get : {X : Type 0} (xs : List X) (i k : ℕ) (x : X) → k ≡ suc i → slice_get xs i ≡ Some x → drop i xs ≡ x ∷ drop k xs
drop_get [] i k x e f = let z : ⊥ = cc in absurd z
drop_get (y ∷ xs) zero k x e f = ap (λ z. z ∷ xs) (some_is y x f) ∙ ap (λ n. x ∷ drop n (y ∷ xs)) (sym e)
drop_get (y ∷ xs) (suc i) k x e f = drop_get xs i (suc i) x refl f ∙ ap (λ n. x ∷ drop n (y ∷ xs)) (sym e)

pub drop_all : {X : Type 0} (xs : List X) (i : ℕ) → length xs ≤ i → drop i xs ≡ []
drop_all [] zero l = refl
drop_all [] (suc i) l = refl
drop_all (x ∷ xs) zero l = absurd (omega arith)
drop_all (x ∷ xs) (suc i) l = drop_all xs i (omega arith)

pub append_none : {X : Type 0} (xs : List X) → xs ++ [] ≡ xs
append_none [] = refl
append_none (x ∷ xs) = ap (λ ys. x ∷ ys) (append_none xs)

-- ---- numbers of the jobs that pass a test

module _ (p : Job → Bool) (ks : List Job) (i k : ℕ) (j : Job) (next : k ≡ suc i) (here : slice_get ks i ≡ Some j) (seen : List ℕ) (so_far : seen ++ numbers (filter p (drop i ks)) ≡ numbers (filter p ks)) where
  one_more : (us : List Job) → numbers (filter p (j ∷ [])) ++ numbers (filter p us) ≡ numbers (filter p (j ∷ us))
  one_more us = elim (p j) as (λ b. numbers (cond b (j ∷ []) []) ++ numbers (filter p us) ≡ numbers (cond b (j ∷ filter p us) (filter p us))) [ true ↦ refl | false ↦ refl ]

  pub found_step : (more : List ℕ) → more ≡ numbers (filter p (j ∷ [])) → (seen ++ more) ++ numbers (filter p (drop k ks)) ≡ numbers (filter p ks)
  found_step more e = append_assoc seen more (numbers (filter p (drop k ks)))
      ∙ ap (λ ms. seen ++ ms) (ap (λ ns. ns ++ numbers (filter p (drop k ks))) e ∙ one_more (drop k ks))
      ∙ sym (ap (λ us. seen ++ numbers (filter p us)) (drop_get ks i k j next here)) ∙ so_far

  pub found_over : p j ≡ false → seen ++ numbers (filter p (drop k ks)) ≡ numbers (filter p ks)
  found_over e = sym (ap (λ us. seen ++ numbers (filter p us)) (drop_get ks i k j next here) ∙ ap (λ b. seen ++ numbers (cond b (j ∷ filter p (drop k ks)) (filter p (drop k ks)))) e) ∙ so_far

-- a job that is not wanted, and one that is
pub drops_one : (ws : List Triple) (j : Job) → is_wanted ws j.triple ≡ false → drops_of [] (j ∷ []) ≡ drops_of ws (j ∷ [])
drops_one ws j e = ap (λ b. numbers (cond (not (is_some j.worker || b)) (j ∷ []) [])) (sym e)

pub lost_one : (ws : List Triple) (ops : List OpDecl) (j : Job) → is_wanted ws j.triple ≡ false → lost_of [] ops (j ∷ []) ≡ lost_of ws ops (j ∷ [])
lost_one ws ops j e = ap (λ b. numbers (cond (is_some j.worker && (not b && (is_unmarked j.mark && not (goes_on (slice_get ops j.triple.op))))) (j ∷ []) [])) (sym e)

pub and_none : (b : Bool) → (b && false) ≡ false
and_none true = refl
and_none false = refl

pub no_drop : (ws : List Triple) (j : Job) → is_wanted ws j.triple ≡ true → not (stays ws j) ≡ false
no_drop ws j e = ap not (or_right (is_some j.worker) (is_wanted ws j.triple) e)

pub no_loss : (ws : List Triple) (ops : List OpDecl) (j : Job) → is_wanted ws j.triple ≡ true → is_lost_by ws ops j ≡ false
no_loss ws ops j e = ap (λ b. is_some j.worker && (not b && (is_unmarked j.mark && not (goes_on (slice_get ops j.triple.op))))) e ∙ and_none (is_some j.worker)

-- the walk over the wanted triples isn't past the next job
pub ahead_next : (ws : List Triple) (js : List Job) (i k : ℕ) (j : Job) (passed : ℕ) → k ≡ suc i → OneEach js → slice_get (by_keys js) i ≡ Some j → passed ≡ wants_passed j.triple ws → IsAhead ws passed (slice_get (by_keys js) k)
ahead_next ws js i k j passed next o here e = elim (slice_get (by_keys js) k) as (λ x. slice_get (by_keys js) k ≡ x → IsAhead ws passed x) [
  | None ↦ λ f. tt
  | Some b ↦ λ f. let l = next_later ws js i j b o here (ap (slice_get (by_keys js)) (sym next) ∙ f) in omega arith
] refl

-- and the walk over the live jobs isn't past the next wanted triple
pub walked_next : (ts : List Triple) (js : List Job) (i k : ℕ) (t : Triple) (passed : ℕ) → k ≡ suc i → TriplesRise ts → slice_get ts i ≡ Some t → passed ≡ key_rank t.op t.key js → IsWalked js passed (slice_get ts k)
walked_next ts js i k t passed next r here e = elim (slice_get ts k) as (λ x. slice_get ts k ≡ x → IsWalked js passed x) [
  | None ↦ λ f. tt
  | Some b ↦ λ f. let l = key_later ts js i t b r here (ap (slice_get ts) (sym next) ∙ f) in omega arith
] refl

-- the walks begin before all
pub ahead_first : (ws : List Triple) (o : Option Job) → IsAhead ws 0 o
ahead_first ws (Some j) = omega arith
ahead_first ws None = tt

pub walked_first : (js : List Job) (o : Option Triple) → IsWalked js 0 o
walked_first js (Some t) = omega arith
walked_first js None = tt

-- ---- targets

-- the live job of a key is on it
pub live_is_on : (js : List Job) (op : ℕ) (key : List ℕ) (j : Job) → live_on js op key ≡ Some j → on_key op key j.triple ≡ true
live_is_on [] op key j e = let z : ⊥ = cc in absurd z
live_is_on (x ∷ js) op key j e = elim (on_key op key x.triple) as (λ b. on_key op key x.triple ≡ b → cond b (Some x) (live_on js op key) ≡ Some j → on_key op key j.triple ≡ true) [
  | true ↦ λ p h. ap (λ y. on_key op key y.triple) (sym (some_is x j h)) ∙ p
  | false ↦ λ p h. live_is_on js op key j h
] refl e

either_none : (w b x y : Bool) → b ≡ true → (x && not (w || b)) ≡ (y && not (w || b))
either_none w b x y e = ap (λ c. x && not c) (or_right w b e) ∙ and_none x ∙ sym (ap (λ c. y && not c) (or_right w b e) ∙ and_none y)

open_by : (ws : List Triple) (vs : List (List ℕ)) (v : List ℕ) (o : Option Job) →
    (is_value (or_least vs (option_and_then (wanted_value ws) o)) v && not (stays_found ws o)) ≡ (is_value (least_value vs) v && not (stays_found ws o))
open_by ws vs v None = refl
open_by ws vs v (Some j) = elim (is_wanted ws j.triple) as (λ b. (is_value (or_least vs (if b then Some j.triple.value else None)) v && not (is_some j.worker || b)) ≡ (is_value (least_value vs) v && not (is_some j.worker || b))) [
  | true ↦ either_none (is_some j.worker) true (is_value (Some j.triple.value) v) (is_value (least_value vs) v) refl
  | false ↦ refl
]

-- where no live job stays, the target is the least wanted value
pub open_least : (ws : List Triple) (js : List Job) (t : Triple) → is_open ws js t ≡ (is_least ws t && not (stays_found ws (live_on js t.op t.key)))
open_least ws js t = open_by ws (values_on ws t.op t.key) t.value (live_on js t.op t.key)

-- ---- new jobs

module _ (p : Triple → Bool) (ts : List Triple) (i k : ℕ) (t : Triple) (next : k ≡ suc i) (here : slice_get ts i ≡ Some t) (news : List NewJob) (so_far : triples_of news ++ filter p (drop i ts) ≡ filter p ts) where
  triples_push : (ns : List NewJob) (n : NewJob) → triples_of (ns ++ n ∷ []) ≡ triples_of ns ++ n.triple ∷ []
  triples_push [] n = refl
  triples_push (m ∷ ns) n = ap (λ us. m.triple ∷ us) (triples_push ns n)

  pub news_step : (n : NewJob) → n.triple ≡ t → p t ≡ true → triples_of (news ++ n ∷ []) ++ filter p (drop k ts) ≡ filter p ts
  news_step n e h = ap (λ us. us ++ filter p (drop k ts)) (triples_push news n) ∙ append_assoc (triples_of news) (n.triple ∷ []) (filter p (drop k ts))
      ∙ ap (λ u. triples_of news ++ u ∷ filter p (drop k ts)) e
      ∙ sym (ap (λ us. triples_of news ++ filter p us) (drop_get ts i k t next here) ∙ ap (λ b. triples_of news ++ cond b (t ∷ filter p (drop k ts)) (filter p (drop k ts))) h) ∙ so_far

  pub news_over : p t ≡ false → triples_of news ++ filter p (drop k ts) ≡ filter p ts
  news_over h = sym (ap (λ us. triples_of news ++ filter p us) (drop_get ts i k t next here) ∙ ap (λ b. triples_of news ++ cond b (t ∷ filter p (drop k ts)) (filter p (drop k ts))) h) ∙ so_far
