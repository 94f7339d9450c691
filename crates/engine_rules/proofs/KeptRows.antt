-- Kept rows with their expiries, and what is wanted of declared operations.
use Rattle.std.proofs.Common.{◌≡◌, inl, inr, ℕ, ◌+◌, ◌<◌, Bool, true, false, cond, ◌||◌, List, [], ◌∷◌, length, Option, Some, None, refl, ap, sym, ◌∙◌, arith}
use Rattle.std.proofs.lemmas.Bool.{eqb-true}
use Rattle.std.specs.Prelude.{◌==◌, if◌then◌else◌}
use Rattle.std.specs.FinMap.{get, get-insert, get-remove, insert, remove}
use Rattle.std.specs.List.{AllByRecursion, list_any}
use Rattle.std.specs.FinMap.Entries.{by_order}
use Rattle.std.proofs.Common.{Less, Equal, Greater}
use Rattle.std.specs.Ordering.{eq_by_cmp}
use Rattle.value_core.specs.declared.state.Triple.{Triple}
use Rattle.term_core.specs.Soundness.{IsSound}
use Rattle.term_core.specs.declared.program.Program.{Program}
use Rattle.term_check.specs.Laws.{IsReported}
use Rattle.term_check.specs.Reports.{is_used_op, numbers_where, report_of}
use Rattle.term_check.proofs.Reported.{wants_only_reported}
use Rattle.sched_rows.specs.declared.row.Row.{Row}
use Rattle.sched_rows.specs.RowKeys.{RowKey, key_of, row_key, row_key_cmp, row_key_cmp_total}
use Rattle.sched_rows.specs.Rows.{Kept, mark_found, marked}
use Rattle.core_rules.specs.Core.{CoreState}
use Rattle.core_rules.specs.Entries.{wants, world}
use Rattle.core_rules.specs.Settling.{wanted}
use Rattle.term_core.specs.Counts.{in_order, with_triple}
use Rattle.value_core.specs.Orders.{triple_cmp}
use Rattle.core_rules.specs.declared.own.RowChange.{RowChange}
use Rattle.core_rules.specs.declared.own.RowChange.TheVariants as row
use Rattle.core_rules.specs.Own.{rows_made}
use Rattle.engine_rules.specs.Touched.{KeptFor, expiry_named, kept_made}
use Rattle.sched_rows.proofs.KeyOrders.{row_keys_tie}
use Rattle.value_core.proofs.Basics.{cond_is}

-- ---- expiries

kept_put : (p : Program) (k : Kept) (at : RowKey) (new : Row) → KeptFor p k → (key : RowKey) (r : Row) → get (insert k.rows at new) key ≡ Some r →
    get (insert k.expiries at (expiry_named p at.op)) key ≡ Some (expiry_named p key.op)
kept_put p k at new h key r e = elim (eq_by_cmp row_key_cmp key at) as (λ b. eq_by_cmp row_key_cmp key at ≡ b → cond b (Some new) (get k.rows key) ≡ Some r → cond b (Some (expiry_named p at.op)) (get k.expiries key) ≡ Some (expiry_named p key.op) →
    get (insert k.expiries at (expiry_named p at.op)) key ≡ Some (expiry_named p key.op)) [
      | true ↦ λ tie f g. get-insert row_key_cmp_total k.expiries at (expiry_named p at.op) key ∙ ap (λ b. cond b (Some (expiry_named p at.op)) (get k.expiries key)) tie ∙ g
      | false ↦ λ tie f g. get-insert row_key_cmp_total k.expiries at (expiry_named p at.op) key ∙ ap (λ b. cond b (Some (expiry_named p at.op)) (get k.expiries key)) tie ∙ g
    ] refl (sym (get-insert row_key_cmp_total k.rows at new key) ∙ e) (told (eq_by_cmp row_key_cmp key at) refl (sym (get-insert row_key_cmp_total k.rows at new key) ∙ e))
  where
    told : (b : Bool) → eq_by_cmp row_key_cmp key at ≡ b → cond (eq_by_cmp row_key_cmp key at) (Some new) (get k.rows key) ≡ Some r → cond (eq_by_cmp row_key_cmp key at) (Some (expiry_named p at.op)) (get k.expiries key) ≡ Some (expiry_named p key.op)
    told true tie f = ap (λ b. cond b (Some (expiry_named p at.op)) (get k.expiries key)) tie ∙ ap (λ (x : RowKey). Some (expiry_named p x.op)) (sym (row_keys_tie key at tie))
    told false tie f = ap (λ b. cond b (Some (expiry_named p at.op)) (get k.expiries key)) tie ∙ h key r (sym (ap (λ b. cond b (Some new) (get k.rows key)) tie) ∙ f)

kept_void : (p : Program) (k : Kept) (at : RowKey) → KeptFor p k → (key : RowKey) (r : Row) → get (remove k.rows at) key ≡ Some r →
    get (remove k.expiries at) key ≡ Some (expiry_named p key.op)
kept_void p k at h key r e = get-remove row_key_cmp_total k.expiries at key ∙ (elim (cond_is {A = Option Row} (eq_by_cmp row_key_cmp key at) None (get k.rows key) (Some r) (sym (get-remove row_key_cmp_total k.rows at key) ∙ e)) [
  | inl i ↦ let z : ⊥ = (let f = i.1 in cc) in absurd z
  | inr i ↦ ap (λ b. cond b None (get k.expiries key)) i.0 ∙ h key r i.1
])

kept_mark : (p : Program) (k : Kept) (at : RowKey) (o : Option Row) → get k.rows at ≡ o → KeptFor p k → (key : RowKey) (r : Row) → get (mark_found at o k.rows) key ≡ Some r → get k.expiries key ≡ Some (expiry_named p key.op)
kept_mark p k at None is h key r e = h key r e
kept_mark p k at (Some q) is h key r e = elim (cond_is {A = Option Row} (eq_by_cmp row_key_cmp key at) (Some (marked q)) (get k.rows key) (Some r) (sym (get-insert row_key_cmp_total k.rows at (marked q) key) ∙ e)) [
  | inl i ↦ h key q (ap (get k.rows) (row_keys_tie key at i.0) ∙ is)
  | inr i ↦ h key r i.1
]

pub kept_through_changes : (p : Program) (c : RowChange) (k : Kept) → KeptFor p k → KeptFor p (kept_made p c k) × ((kept_made p c k).rows ≡ rows_made c k.rows)
kept_through_changes p row.None k h = (h, refl)
kept_through_changes p (row.Put r) k h = (kept_put p k (key_of r) r h, refl)
kept_through_changes p (row.Void op key) k h = (kept_void p k (row_key op key) h, refl)
kept_through_changes p (row.Mark op key) k h = (kept_mark p k (row_key op key) (get k.rows (row_key op key)) refl h, refl)

-- ---- wanted operations

-- numbers that are listed are those of declarations
listed_below : {D : Type 0} (test : D → Bool) (at : ℕ) (ds : List D) (n : ℕ) → list_any (λ m. m == n) (numbers_where test at ds) ≡ true → n < at + length ds
listed_below test at [] n e = let z : ⊥ = cc in absurd z
listed_below test at (d ∷ ds) n e = elim (test d) as (λ b. list_any (λ m. m == n) (if b then at ∷ numbers_where test (at + 1) ds else numbers_where test (at + 1) ds) ≡ true → n < at + length (d ∷ ds)) [
  | true ↦ λ f. elim (at == n) as (λ b. (at == n) ≡ b → (b || list_any (λ m. m == n) (numbers_where test (at + 1) ds)) ≡ true → n < at + length (d ∷ ds)) [
    | true ↦ λ is g. let same : at ≡ n = eqb-true at n is in omega (arith, same)
    | false ↦ λ is g. let h = listed_below test (at + 1) ds n g in omega (arith, h)
  ] refl f
  | false ↦ λ f. let h = listed_below test (at + 1) ds n f in omega (arith, h)
] e

-- what holds of all triples holds of all in order
all_with_triple : (P : Triple → Type 0) (t : Triple) (us : List Triple) → P t → AllByRecursion P us → AllByRecursion P (with_triple t us)
all_with_triple P t [] p h = (p, tt)
all_with_triple P t (u ∷ us) p h = elim (triple_cmp t u) as (λ o. AllByRecursion P (by_order o (t ∷ u ∷ us) (u ∷ us) (u ∷ with_triple t us))) [
  | Less ↦ (p, h)
  | Equal ↦ h
  | Greater ↦ (h.0, all_with_triple P t us p h.1)
]

pub all_in_order : (P : Triple → Type 0) (ts : List Triple) → AllByRecursion P ts → AllByRecursion P (in_order ts)
all_in_order P [] h = tt
all_in_order P (t ∷ ts) h = all_with_triple P t (in_order ts) h.0 (all_in_order P ts h.1)

all_declared : (p : Program) (ts : List Triple) → AllByRecursion (IsReported p) ts → AllByRecursion (λ (t : Triple). t.op < length p.ops) ts
unfolding report_of
all_declared p [] h = tt
all_declared p (t ∷ ts) h = (let f = listed_below (is_used_op p) 0 p.ops t.op h.0.listed in omega (arith, f), all_declared p ts h.1)

pub wants_are_declared : (s : CoreState) → IsSound s.program → AllByRecursion (λ (t : Triple). t.op < length s.program.ops) (wanted s)
wants_are_declared s sound = all_in_order (λ t. t.op < length s.program.ops) (wants s) (all_declared s.program (wants s) (wants_only_reported s.program s.inputs (world s) sound))
