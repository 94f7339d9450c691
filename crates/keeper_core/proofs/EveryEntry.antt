-- What holds of every entry of a map, by what is found under a key and row by row.
use Rattle.std.proofs.Common.{◌≡◌, ℕ, ◌+◌, Bool, true, false, cond, T, List, [], ◌∷◌, map, Option, Some, None, Ordering, Less, refl, sym, subst, ap, ◌∙◌, inl, inr}
use Rattle.std.proofs.lemmas.Bool.{cases_Bool}
use Rattle.std.specs.Cmp.{IsTotalOrder, Equal-is, tied_itself}
use Rattle.std.specs.FinMap.{FinMap, IsAntisymmetric, entries, entries_sorted, get, get-entries, get-insert, get-remove, insert, is_sorted, remove}
use Rattle.std.specs.FinMap.Entries.{below_all, find}
use Rattle.std.specs.List.{AllByRecursion}
use Rattle.std.specs.Option.{option_map}
use Rattle.std.specs.Ordering.{eq_by_cmp, is_eq, is_lt}
use Rattle.sched_rows.proofs.SortedEntries.{both_true, is_less}
use Rattle.keeper_core.specs.WellFormed.{first_refused}

-- it holds of what is found under any key
abbrev pub Every : {K X : Type 0} {R : K → K → Ordering} → (K × X → Type 0) → FinMap R X → Type 0
Every {K = K} {X = X} P m = (k : K) (v : X) → get m k ≡ Some v → P (k, v)

-- it holds of each item and the one before it
abbrev pub Chain : {E : Type 0} → (Option E → E → Type 0) → Option E → List E → Type 0
Chain Next before [] = Unit {0}
Chain Next before (e ∷ es) = Next before e × Chain Next (Some e) es

module _ {K X : Type 0} (R : K → K → Ordering) (o : IsTotalOrder R) (antisymmetric : IsAntisymmetric R) (P : K × X → Type 0) where
  tied : (q k : K) → eq_by_cmp R q k ≡ true → q ≡ k
  tied q k e = antisymmetric q k ((Equal-is (R q k)).0 e)

  less_apart : (r : Ordering) → r ≡ Less → is_eq r ≡ false
  less_apart r e = rw e refl

  find_below : (q : K) (es : List (K × X)) → T (below_all R q es) → find R q es ≡ None
  find_below q [] h = refl
  find_below q (e ∷ es) h =
      let b = both_true (is_lt (R q e.0)) (below_all R q es) h in
      let apart : eq_by_cmp R q e.0 ≡ false = less_apart (R q e.0) (is_less (R q e.0) b.0) in
      rw apart (find_below q es b.1)

  found_first : (e : K × X) (es : List (K × X)) → find R e.0 (e ∷ es) ≡ Some e.1
  found_first e es = let same : eq_by_cmp R e.0 e.0 ≡ true = ap is_eq (tied_itself o e.0) in rw same refl

  found_later : (e : K × X) (es : List (K × X)) (k : K) (v : X) → T (below_all R e.0 es) → find R k es ≡ Some v → find R k (e ∷ es) ≡ Some v
  found_later e es k v below f = elim (cases_Bool (eq_by_cmp R k e.0)) [
    | inl same ↦ absurd (let none = find_below k es (subst (λ (x : K). T (below_all R x es)) (sym (tied k e.0 same)) below) in let z : None ≡ Some v = sym none ∙ f in cc)
    | inr apart ↦ rw apart f
  ]

  every_entry : (es : List (K × X)) → T (is_sorted R es) → ((k : K) (v : X) → find R k es ≡ Some v → P (k, v)) → AllByRecursion P es
  every_entry [] h p = tt
  every_entry (e ∷ es) h p =
      let b = both_true (below_all R e.0 es) (is_sorted R es) h in
      (p e.0 e.1 (found_first e es), every_entry es b.1 (λ k v f. p k v (found_later e es k v b.0 f)))

  entry_found : (es : List (K × X)) (k : K) (v : X) → AllByRecursion P es → find R k es ≡ Some v → P (k, v)
  entry_found [] k v h f = absurd (cc)
  entry_found (e ∷ es) k v (p, h) f = elim (cases_Bool (eq_by_cmp R k e.0)) [
    | inl same ↦
        let value : Some e.1 ≡ Some v = rw same at f in
        let is : e.1 ≡ v = (cc) in
        let key = tied k e.0 same in
        subst P (λ i. (sym key i, is i)) p
    | inr apart ↦ entry_found es k v h (rw apart at f)
  ]

  pub all_of_every : (m : FinMap R X) → Every P m → AllByRecursion P (entries m)
  all_of_every m p = every_entry (entries m) (entries_sorted m) (λ k v f. p k v (get-entries m k ∙ f))

  pub every_of_all : (m : FinMap R X) → AllByRecursion P (entries m) → Every P m
  every_of_all m h k v f = entry_found (entries m) k v h (sym (get-entries m k) ∙ f)

  pub every_insert : (m : FinMap R X) (k : K) (v : X) → Every P m → P (k, v) → Every P (insert m k v)
  every_insert m k v h p q w f = elim (cases_Bool (eq_by_cmp R q k)) [
    | inl same ↦
        let value : Some v ≡ Some w = sym (get-insert o m k v q ∙ ap (λ b. cond b (Some v) (get m q)) same) ∙ f in
        let is : v ≡ w = (cc) in
        let key = tied q k same in
        subst P (λ i. (sym key i, is i)) p
    | inr apart ↦ h q w (sym (get-insert o m k v q ∙ ap (λ b. cond b (Some v) (get m q)) apart) ∙ f)
  ]

  pub every_remove : (m : FinMap R X) (k : K) → Every P m → Every P (remove m k)
  every_remove m k h q w f = elim (cases_Bool (eq_by_cmp R q k)) [
    | inl same ↦ absurd (let value : None ≡ Some w = sym (get-remove o m k q ∙ ap (λ b. cond b None (get m q)) same) ∙ f in cc)
    | inr apart ↦ h q w (sym (get-remove o m k q ∙ ap (λ b. cond b None (get m q)) apart) ∙ f)
  ]

-- ---- rows

-- a test of rows that goes by what holds of each entry and of the entry before it
module _ {E Row : Type 0} (row : E → Row) (is : Option Row → Row → Bool) (P : E → Type 0) where
  module _ (Next : Option E → E → Type 0) (passes : (before : Option E) (e : E) → P e → Next before e → is (option_map row before) (row e) ≡ true) where
    pub unrefused : (before : Option E) (n : ℕ) (es : List E) → AllByRecursion P es → Chain Next before es → first_refused is (option_map row before) n (map row es) ≡ None
    unrefused before n [] p c = refl
    unrefused before n (e ∷ es) (p, ps) (c, cs) = rw (passes before e p c) (unrefused (Some e) (n + 1) es ps cs)

  pub passed : ((before : Option Row) (e : E) → is before (row e) ≡ true → P e) → (before : Option Row) (n : ℕ) (es : List E) → first_refused is before n (map row es) ≡ None → AllByRecursion P es
  passed says before n [] h = tt
  passed says before n (e ∷ es) h = elim (cases_Bool (is before (row e))) [
    | inl good ↦ (says before e good, passed says (Some (row e)) (n + 1) es (rw good at h))
    | inr bad ↦ absurd (let z : Some n ≡ None = rw bad at h in cc)
  ]
