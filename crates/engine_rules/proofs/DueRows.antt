-- A row that is found is among the entries, and what holds of it is found there.
use Rattle.std.proofs.Common.{◌≡◌, ℕ, Bool, true, false, cond, ◌||◌, List, [], ◌∷◌, ◌++◌, map, Some, refl, ap, sym, ◌∙◌}
use Rattle.std.proofs.lemmas.Bool.{cond_both, or_left, or_right}
use Rattle.std.specs.Prelude.{filter}
use Rattle.std.specs.List.{flat_map, list_any}
use Rattle.std.specs.Ordering.{eq_by_cmp}
use Rattle.std.specs.FinMap.{get, entries, get-entries}
use Rattle.std.specs.FinMap.Entries.{find as find_entry}
use Rattle.sched_rows.proofs.KeyOrders.{row_keys_tie}
use Rattle.sched_rows.specs.RowKeys.{RowKey, row_key_cmp}
use Rattle.sched_rows.specs.Rows.{Rows}
use Rattle.sched_rows.specs.declared.row.Row.{Row}
use Rattle.core_rules.proofs.Helpers.{any-append}

flat_first : {X A : Type 0} (p : A → Bool) (f : X → List A) (x : X) (xs : List X) → list_any p (f x) ≡ true → list_any p (flat_map f (x ∷ xs)) ≡ true
flat_first p f x xs e = any-append p (f x) (flat_map f xs) ∙ or_left (list_any p (f x)) (list_any p (flat_map f xs)) e

flat_later : {X A : Type 0} (p : A → Bool) (f : X → List A) (x : X) (xs : List X) → list_any p (flat_map f xs) ≡ true → list_any p (flat_map f (x ∷ xs)) ≡ true
flat_later p f x xs e = any-append p (f x) (flat_map f xs) ∙ or_right (list_any p (f x)) (list_any p (flat_map f xs)) e

-- what is among the things of a key is among those of the keys of the entries that pass a test, if its entry does
found_in_entries : {A : Type 0} (p : A → Bool) (f : List ℕ × List ℕ → List A) (test : RowKey × Row → Bool) (k : RowKey) (r : Row) (es : List (RowKey × Row)) →
    find_entry row_key_cmp k es ≡ Some r → test (k, r) ≡ true → list_any p (f (k.op, k.key)) ≡ true → list_any p (flat_map f (map (λ e. (e.0.op, e.0.key)) (filter test es))) ≡ true
found_in_entries p f test k r [] e t h = let z : ⊥ = cc in absurd z
found_in_entries p f test k r (x ∷ es) e t h = elim (eq_by_cmp row_key_cmp k x.0) as (λ b. eq_by_cmp row_key_cmp k x.0 ≡ b → cond b (Some x.1) (find_entry row_key_cmp k es) ≡ Some r →
    list_any p (flat_map f (map (λ e. (e.0.op, e.0.key)) (cond (test x) (x ∷ filter test es) (filter test es)))) ≡ true) [
      | true ↦ λ is e.
          let key : k ≡ x.0 = row_keys_tie k x.0 is in
          let row : r ≡ x.1 = (let f = e in cc) in
          let passes : test x ≡ true = sym (λ i. test (key i, row i)) ∙ t in
          ap (λ b. list_any p (flat_map f (map (λ e. (e.0.op, e.0.key)) (cond b (x ∷ filter test es) (filter test es))))) passes
          ∙ flat_first p f (x.0.op, x.0.key) (map (λ e. (e.0.op, e.0.key)) (filter test es)) (ap (λ y. list_any p (f (y.op, y.key))) (sym key) ∙ h)
      | false ↦ λ is e.
          let rest = found_in_entries p f test k r es e t h in
          cond_both (test x) (x ∷ filter test es) (filter test es) (λ ys. list_any p (flat_map f (map (λ e. (e.0.op, e.0.key)) ys)) ≡ true)
          (λ _. flat_later p f (x.0.op, x.0.key) (map (λ e. (e.0.op, e.0.key)) (filter test es)) rest) (λ _. rest)
    ] refl e

pub found_in_rows : {A : Type 0} (p : A → Bool) (f : List ℕ × List ℕ → List A) (test : RowKey × Row → Bool) (k : RowKey) (r : Row) (rows : Rows) →
    get rows k ≡ Some r → test (k, r) ≡ true → list_any p (f (k.op, k.key)) ≡ true → list_any p (flat_map f (map (λ e. (e.0.op, e.0.key)) (filter test (entries rows)))) ≡ true
found_in_rows p f test k r rows e t h = found_in_entries p f test k r (entries rows) (sym (get-entries rows k) ∙ e) t h
