-- At most one live job of an operation and key.
use Rattle.std.proofs.Common.{◌≡◌, ℕ, Bool, true, false, cond, List, [], ◌∷◌, ◌++◌, map, Option, Some, None, is_some, refl, ap, sym, ◌∙◌, subst}
use Rattle.std.proofs.lemmas.Bool.{and_parts, and_from, or_parts, cond_both, eqb-true, eq-eqb, both_ways, false_from_ne_true}
use Rattle.std.specs.Prelude.{◌==◌, filter, if◌then◌else◌}
use Rattle.std.specs.List.{find}
use Rattle.std.specs.Str.{bytes_eq}
use Rattle.value_core.specs.declared.state.Triple.{Triple}
use Rattle.core_rules.proofs.Helpers.{find-push_new}
use Rattle.core_rules.proofs.Settling.{kept_by_creating, marked_triple}
use Rattle.core_rules.specs.Core.{CoreState, with_job}
use Rattle.core_rules.specs.Laws.{OneEach}
use Rattle.core_rules.specs.Settling.{dropped, live_on, lost_marked, mark_lost, new_job, on_key, settle_for, stays, targets}
use Rattle.core_rules.specs.declared.jobs.Job.{Job}
use Rattle.value_core.proofs.Basics.{bytes_same, same_bytes}

-- a test that fails at each job of a list fails at each that stays
pub find-filter_none : (p q : Job → Bool) (js : List Job) → find p js ≡ None → find p (filter q js) ≡ None
find-filter_none p q [] e = refl
find-filter_none p q (j ∷ js) e = elim (p j) as (λ b. p j ≡ b → cond b (Some j) (find p js) ≡ None → find p (cond (q j) (j ∷ filter q js) (filter q js)) ≡ None) [
  | true ↦ λ is h. let k : ⊥ = cc in absurd k
  | false ↦ λ is h. cond_both (q j) (j ∷ filter q js) (filter q js) (λ ks. find p ks ≡ None)
      (λ _. ap (λ b. cond b (Some j) (find p (filter q js))) is ∙ find-filter_none p q js h) (λ _. find-filter_none p q js h)
] refl e

pub one_each_filtered : (q : Job → Bool) (js : List Job) → OneEach js → OneEach (filter q js)
one_each_filtered q [] h = tt
one_each_filtered q (j ∷ js) h = cond_both (q j) (j ∷ filter q js) (filter q js) OneEach
    (λ _. (find-filter_none (λ k. on_key j.triple.op j.triple.key k.triple) q js h.0, one_each_filtered q js h.1)) (λ _. one_each_filtered q js h.1)

-- ---- only the triples count

abbrev pub triples : List Job → List Triple
triples js = map (λ j. j.triple) js

abbrev on_none : ℕ → List ℕ → List Triple → Type 0
on_none op key [] = Unit {0}
on_none op key (t ∷ ts) = (on_key op key t ≡ false) × on_none op key ts

abbrev Apart : List Triple → Type 0
Apart [] = Unit {0}
Apart (t ∷ ts) = on_none t.op t.key ts × Apart ts

none_found : (op : ℕ) (key : List ℕ) (js : List Job) → live_on js op key ≡ None → on_none op key (triples js)
none_found op key [] e = tt
none_found op key (j ∷ js) e = elim (on_key op key j.triple) as (λ b. on_key op key j.triple ≡ b → cond b (Some j) (live_on js op key) ≡ None → (on_key op key j.triple ≡ false) × on_none op key (triples js)) [
  | true ↦ λ is h. let k : ⊥ = cc in absurd k
  | false ↦ λ is h. (is, none_found op key js h)
] refl e

found_none : (op : ℕ) (key : List ℕ) (js : List Job) → on_none op key (triples js) → live_on js op key ≡ None
found_none op key [] h = refl
found_none op key (j ∷ js) h = ap (λ b. cond b (Some j) (live_on js op key)) h.0 ∙ found_none op key js h.1

apart_from : (js : List Job) → OneEach js → Apart (triples js)
apart_from [] h = tt
apart_from (j ∷ js) h = (none_found j.triple.op j.triple.key js h.0, apart_from js h.1)

one_from : (js : List Job) → Apart (triples js) → OneEach js
one_from [] h = tt
one_from (j ∷ js) h = (found_none j.triple.op j.triple.key js h.0, one_from js h.1)

-- jobs with the same triples are as far apart
pub one_each_like : (js ks : List Job) → triples ks ≡ triples js → OneEach js → OneEach ks
one_each_like js ks e h = one_from ks (subst Apart (sym e) (apart_from js h))

-- ---- a new job

pub on_key_back : (t u : Triple) → on_key u.op u.key t ≡ false → on_key t.op t.key u ≡ false
on_key_back t u e = false_from_ne_true (on_key t.op t.key u) (λ h.
    let k = and_parts (u.op == t.op) (bytes_eq u.key t.key) h in
    both_ways (on_key u.op u.key t) e (and_from (t.op == u.op) (bytes_eq t.key u.key)
    (eq-eqb t.op u.op (sym (eqb-true u.op t.op k.0))) (same_bytes t.key u.key (sym (bytes_same u.key t.key k.1)))))

pub one_each_push : (js : List Job) (k : Job) → OneEach js → live_on js k.triple.op k.triple.key ≡ None → OneEach (js ++ k ∷ [])
one_each_push [] k h e = (refl, tt)
one_each_push (j ∷ js) k h e = elim (on_key k.triple.op k.triple.key j.triple) as (λ b. on_key k.triple.op k.triple.key j.triple ≡ b → cond b (Some j) (live_on js k.triple.op k.triple.key) ≡ None → OneEach (j ∷ (js ++ k ∷ []))) [
  | true ↦ λ is n. let z : ⊥ = cc in absurd z
  | false ↦ λ is n. (find-push_new (λ i. on_key j.triple.op j.triple.key i.triple) js k h.0 ∙ ap (λ b. cond b (Some k) None) (on_key_back j.triple k.triple is), one_each_push js k h.1 n)
] refl e

-- ---- settling

not_some : {A : Type 0} (o : Option A) → is_some o ≡ false → o ≡ None
not_some None e = refl
not_some (Some x) e = let z : ⊥ = cc in absurd z

triples_marked : (ws : List Triple) (s : CoreState) (js : List Job) → triples (map (mark_lost ws s) js) ≡ triples js
triples_marked ws s [] = refl
triples_marked ws s (j ∷ js) = λ i. marked_triple ws s j i ∷ triples_marked ws s js i

pub one_settled : (ws : List Triple) (s s' : CoreState) → settle_for ws s ≡ Some s' → OneEach s.jobs → OneEach s'.jobs
one_settled ws s s' e h = kept_by_creating (λ z. OneEach z.jobs) (λ z u n _ p. one_each_push z.jobs (new_job z.next u) p (not_some _ (or_parts _ _ n).1)) (lost_marked ws (dropped ws s)) s' (targets ws s.jobs) e
    (one_each_like (filter (stays ws) s.jobs) (map (mark_lost ws (dropped ws s)) (filter (stays ws) s.jobs)) (triples_marked ws (dropped ws s) (filter (stays ws) s.jobs)) (one_each_filtered (stays ws) s.jobs h))

pub triples_with : (n : ℕ) (f : Job → Job) (js : List Job) → ((j : Job) → (f j).triple ≡ j.triple) → triples (with_job n f js) ≡ triples js
triples_with n f [] k = refl
triples_with n f (j ∷ js) k = elim (j.number == n) as (λ b. triples (if b then f j ∷ js else (j ∷ with_job n f js)) ≡ triples (j ∷ js)) [
  | true ↦ ap (λ t. t ∷ triples js) (k j)
  | false ↦ ap (λ ts. j.triple ∷ ts) (triples_with n f js k)
]
