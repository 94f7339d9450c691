-- What vacating the last slot of a scope does to what is held and chained.
use Rattle.std.proofs.Common.{◌≡◌, ℕ, zero, suc, ◌==◌, ◌||◌, ◌<◌, ◌≤◌, List, drop, get_or, [], ◌∷◌, length, set, Option, Some, None, IsSome, Bool, slice_index_or, true, false, cond, refl, ap, sym, ◌∙◌, arith, subst, option_map}
use Rattle.std.proofs.lemmas.Bool.Decides.{nat_tests}
use Rattle.std.proofs.lemmas.List.{length-map}
use Rattle.scope_pool.specs.Region.{ScopedItem}
use Rattle.scope_pool.specs.Layout.{Link, AreChained, ChainSame, IsChained, KeepsOthers, among, held_at, holdings, is_of, left_by, link_at, link_in, links}
use Rattle.scope_pool.specs.declared.slots.Slot.{Slot}
use Rattle.scope_pool.specs.declared.scopes.Scope.{Scope}
use Rattle.scope_pool.proofs.ChainLaws.{AgreeBut, chained_less, chained_none, chained_other, chained_put, chained_same, equal_of, last_link, same_number, swapped}
use Rattle.scope_pool.proofs.SlotLaws.{link_none, scope_linked}

false-ne-true : false ≡ true → ⊥
false-ne-true h = cc

either : {P : Type 0} (b : Bool) → (b ≡ true → P) → (b ≡ false → P) → P
either true f g = f refl
either false f g = g refl

module _ {A : Type 0} where
  pub set_none : (xs : List (Option A)) (p : ℕ) → slice_index_or (set xs p None) p None ≡ None
  set_none [] p = refl
  set_none (x ∷ xs) zero = refl
  set_none (x ∷ xs) (suc p) = set_none xs p

  pub set_here : (xs : List (Option A)) (p : ℕ) (x : Option A) → p < length xs → slice_index_or (set xs p x) p None ≡ x
  set_here [] p x h = absurd (omega arith)
  set_here (y ∷ xs) zero x h = refl
  set_here (y ∷ xs) (suc p) x h = set_here xs p x (omega arith)

  set_apart : (xs : List (Option A)) (p q : ℕ) (x : Option A) → (q ≡ p → ⊥) → slice_index_or (set xs p x) q None ≡ slice_index_or xs q None
  set_apart [] p q x h = refl
  set_apart (y ∷ xs) zero zero x h = absurd (h refl)
  set_apart (y ∷ xs) zero (suc q) x h = refl
  set_apart (y ∷ xs) (suc p) zero x h = refl
  set_apart (y ∷ xs) (suc p) (suc q) x h = set_apart xs p q x (λ e. h (ap suc e))

  pub set_other : (xs : List (Option A)) (p q : ℕ) (x : Option A) → (q == p) ≡ false → slice_index_or (set xs p x) q None ≡ slice_index_or xs q None
  set_other xs p q x h = set_apart xs p q x (λ e. false-ne-true (sym h ∙ ap (λ n. n == p) e ∙ same_number p))

module _ {A : Type 0} where
  gone : (x : Option (ScopedItem A)) (s : ℕ) → option_map (λ y. y.scope) x ≡ Some s → left_by (λ n. n == s) x ≡ None
  gone None s e = refl
  gone (Some x) s e =
      let same : x.scope ≡ s = cc in
      ap (λ n. cond (n == s) None (Some x)) same ∙ ap (λ b. cond b None (Some x)) (same_number s)

  stays : (x : Option (ScopedItem A)) (l : Option Link) (s : ℕ) → is_of s l ≡ false → option_map (λ y. y.scope) l ≡ option_map (λ y. y.scope) x → left_by (λ n. n == s) x ≡ x
  stays None l s other e = refl
  stays (Some x) None s other e = cc
  stays (Some x) (Some l) s other e =
      let same : l.scope ≡ x.scope = cc in
      ap (λ b. cond b None (Some x)) (ap (λ n. n == s) (sym same) ∙ other)

  some_scope : (x : Option (ScopedItem A)) (s : ℕ) → option_map (λ y. y.scope) x ≡ Some s → IsSome x
  some_scope None s e = cc
  some_scope (Some x) s e = refl

some_of : (b c : Option ℕ) → ◌≡◌ {A = Option (Option ℕ)} (Some b) (Some c) → b ≡ c
some_of b c e = cc

module _ {T : Type 0} where
  scope_of_last : (slots : List (Slot T)) (p s : ℕ) → IsChained (link_at slots) s (Some p) → option_map (λ y. y.scope) (held_at slots p) ≡ Some s
  scope_of_last slots p s chained = sym (scope_linked slots p) ∙ ap (option_map (λ l. l.scope)) (last_link (link_at slots) p s chained).1

  -- the last place of a scope is held
  pub last_held : (slots : List (Slot T)) (p s : ℕ) → IsChained (link_at slots) s (Some p) → IsSome (held_at slots p)
  last_held slots p s chained = some_scope (held_at slots p) s (scope_of_last slots p s chained)

  agree : (old new : List (Slot T)) (p : ℕ) (x : Option Link) → links new ≡ set (links old) p x → AgreeBut p (link_at old) (link_at new)
  agree old new p x is = λ q h. ap (λ xs. slice_index_or xs q None) is ∙ set_other (links old) p q x h

  vacant_now : (old new : List (Slot T)) (p : ℕ) → links new ≡ set (links old) p None → link_at new p ≡ None
  vacant_now old new p is = ap (λ xs. slice_index_or xs p None) is ∙ set_none (links old) p

  -- the chain of the scope ends before
  pub chain_less : (old new : List (Slot T)) (p s : ℕ) (before : Option ℕ) → links new ≡ set (links old) p None → option_map (λ l. l.before) (link_at old p) ≡ Some before →
      IsChained (link_at old) s (Some p) → IsChained (link_at new) s before
  chain_less old new p s before is next chained =
      let last = last_link (link_at old) p s chained in
      let same : last.0 ≡ before = some_of last.0 before (sym (ap (option_map (λ l. l.before)) last.1) ∙ next) in
      chained_less (link_at old) (link_at new) p s before (agree old new p None is)
      (subst (λ b. link_at old p ≡ Some (record { scope = s; before = b })) same last.1) (vacant_now old new p is) chained

  -- the other chains stay
  pub others_kept : (old new : List (Slot T)) (p s : ℕ) → links new ≡ set (links old) p None → IsChained (link_at old) s (Some p) → KeepsOthers s old new
  others_kept old new p s is chained = λ t last differ was.
      let link = last_link (link_at old) p s chained in
      chained_other (link_at old) (link_at new) p t last (agree old new p None is) (ap (is_of t) link.1 ∙ swapped t s differ) (ap (is_of t) (vacant_now old new p is)) was

  -- what is left by the scope stays
  pub left_same : (old new : List (Slot T)) (p s : ℕ) → holdings new ≡ set (holdings old) p None → IsChained (link_at old) s (Some p) → (q : ℕ) →
      left_by (λ n. n == s) (held_at new q) ≡ left_by (λ n. n == s) (held_at old q)
  left_same old new p s is chained q =
      either (q == p)
      (λ e.
      let same : q ≡ p = equal_of q p e in
      ap (λ r. left_by (λ n. n == s) (held_at new r)) same ∙ ap (left_by (λ n. n == s)) (ap (λ xs. slice_index_or xs p None) is ∙ set_none (holdings old) p)
      ∙ sym (gone (held_at old p) s (scope_of_last old p s chained)) ∙ ap (λ r. left_by (λ n. n == s) (held_at old r)) (sym same))
      (λ e. ap (left_by (λ n. n == s)) (ap (λ xs. slice_index_or xs q None) is ∙ set_other (holdings old) p q None e))

  -- a scope without a chain holds nothing
  pub none_held : (slots : List (Slot T)) (s : ℕ) → IsChained (link_at slots) s None → (q : ℕ) → left_by (λ n. n == s) (held_at slots q) ≡ held_at slots q
  none_held slots s chained q = stays (held_at slots q) (link_at slots q) s (chained_none (link_at slots) s chained q) (scope_linked slots q)

-- ---- several scopes

dropped : (ms : List ℕ) (k d : ℕ) → k < length ms → drop k ms ≡ get_or ms k d ∷ drop (suc k) ms
dropped [] k d h = absurd (omega arith)
dropped (m ∷ ms) zero d h = refl
dropped (m ∷ ms) (suc k) d h = dropped ms k d (omega arith)

none_dropped : (ms : List ℕ) (k : ℕ) → length ms ≤ k → drop k ms ≡ []
none_dropped [] zero h = refl
none_dropped [] (suc k) h = refl
none_dropped (m ∷ ms) zero h = absurd (omega arith)
none_dropped (m ∷ ms) (suc k) h = none_dropped ms k (omega arith)

turned : (m n : ℕ) → (n == m) ≡ (m == n)
turned m n = grind (arith, nat_tests)

module _ {A : Type 0} where
  left_both : (m : ℕ) (ms : List ℕ) (x : Option (ScopedItem A)) → left_by (among ms) (left_by (λ n. n == m) x) ≡ left_by (among (m ∷ ms)) x
  left_both m ms None = refl
  left_both m ms (Some x) =
      elim (x.scope == m) as (λ b. left_by (among ms) (cond b None (Some x)) ≡ cond (b || among ms x.scope) None (Some x)) [ true ↦ refl | false ↦ refl ]
      ∙ ap (λ b. cond (b || among ms x.scope) None (Some x)) (turned m x.scope)

  pub left_step : (ms : List ℕ) (k d : ℕ) (x : Option (ScopedItem A)) → k < length ms → left_by (among (drop (suc k) ms)) (left_by (λ n. n == get_or ms k d) x) ≡ left_by (among (drop k ms)) x
  left_step ms k d x h = left_both (get_or ms k d) (drop (suc k) ms) x ∙ ap (λ ns. left_by (among ns) x) (sym (dropped ms k d h))

  left_no : (x : Option (ScopedItem A)) → left_by (among []) x ≡ x
  left_no None = refl
  left_no (Some x) = refl

  pub left_end : (ms : List ℕ) (k : ℕ) (x : Option (ScopedItem A)) → length ms ≤ k → left_by (among (drop k ms)) x ≡ x
  left_end ms k x h = ap (λ ns. left_by (among ns) x) (none_dropped ms k h) ∙ left_no x

module _ {T : Type 0} where
  -- an empty chain stays one where a scope is vacated
  pub none_kept : (old new : List (Slot T)) (s t : ℕ) → IsChained (link_at new) s None → KeepsOthers s old new → IsChained (link_at old) t None → IsChained (link_at new) t None
  none_kept old new s t here others was =
      either (t == s) (λ e. subst (λ n. IsChained (link_at new) n None) (sym (equal_of t s e)) here) (λ e. others t None e was)

-- ---- putting

module _ {T : Type 0} where
  put_here : (old new : List (Slot T)) (p : ℕ) (link : Link) → links new ≡ set (links old) p (Some link) → p < length old → link_at new p ≡ Some link
  put_here old new p link is within = ap (λ xs. slice_index_or xs p None) is ∙ set_here (links old) p (Some link) (grind (arith, length-map old (link_in {T = T})))

  -- an item that is put is the last of its scope
  pub put_chained : (old new : List (Slot T)) (p s : ℕ) (last : Option ℕ) → links new ≡ set (links old) p (Some (record { scope = s; before = last })) → held_at old p ≡ None → p < length old →
      IsChained (link_at old) s last → IsChained (link_at new) s (Some p)
  put_chained old new p s last is none within chained =
      chained_put (link_at old) (link_at new) p s last (agree old new p _ is) (link_none old p none) (put_here old new p (record { scope = s; before = last }) is within) chained

  -- the chains of other scopes stay
  pub put_others : (old new : List (Slot T)) (p s : ℕ) (last : Option ℕ) → links new ≡ set (links old) p (Some (record { scope = s; before = last })) → held_at old p ≡ None → p < length old → KeepsOthers s old new
  put_others old new p s last is none within = λ t l differ was.
      chained_other (link_at old) (link_at new) p t l (agree old new p _ is) (ap (is_of t) (link_none old p none))
      (ap (is_of t) (put_here old new p (record { scope = s; before = last }) is within) ∙ swapped t s differ) was

  pub same_chains : (old new : List (Slot T)) (ss : List Scope) → ChainSame old new → AreChained old ss → AreChained new ss
  same_chains old new ss same was = λ j d h. chained_same (link_at old) (link_at new) (get_or ss j d).name (get_or ss j d).last same (was j d h)
