-- The first row that isn't well formed, table by table.
use Rattle.std.proofs.Common.{◌≡◌, ℕ, ℤ, pos, true, false, Some, None, refl}
use Rattle.keeper_core.specs.declared.tables.OldTables.{OldTables}
use Rattle.keeper_core.specs.declared.tables.Table.TheVariants as table
use Rattle.keeper_core.specs.declared.tables.Tables.{Tables}
use Rattle.keeper_core.specs.WellFormed.{first_bad, first_refused, is_input, is_log, is_meta, is_old_result, is_result, next_of, old_first_bad}

module _ (t : Tables) where
  pub bad_meta : is_meta (pos 2) t.meta ≡ false → first_bad t ≡ Some (table.Meta, 1)
  bad_meta m = rw m refl

  pub bad_input : (n : ℕ) → is_meta (pos 2) t.meta ≡ true → first_refused is_input None 1 t.inputs ≡ Some n → first_bad t ≡ Some (table.Inputs, n)
  bad_input n m i = rw (m, i) refl

  pub bad_result : (next : ℤ) (n : ℕ) → is_meta (pos 2) t.meta ≡ true → next_of t.meta ≡ next → first_refused is_input None 1 t.inputs ≡ None
      → first_refused (is_result next) None 1 t.cache ≡ Some n → first_bad t ≡ Some (table.Cache, n)
  bad_result next n m is i r = rw (m, i, is, r) refl

  pub bad_log : (next : ℤ) (n : ℕ) → is_meta (pos 2) t.meta ≡ true → next_of t.meta ≡ next → first_refused is_input None 1 t.inputs ≡ None
      → first_refused (is_result next) None 1 t.cache ≡ None → first_refused (is_log next) None 1 t.logs ≡ Some n → first_bad t ≡ Some (table.Logs, n)
  bad_log next n m is i r l = rw (m, i, is, r, l) refl

  pub none_bad : (next : ℤ) → is_meta (pos 2) t.meta ≡ true → next_of t.meta ≡ next → first_refused is_input None 1 t.inputs ≡ None
      → first_refused (is_result next) None 1 t.cache ≡ None → first_refused (is_log next) None 1 t.logs ≡ None → first_bad t ≡ None
  none_bad next m is i r l = rw (m, i, is, r, l) refl

module _ (t : OldTables) where
  pub old_bad_meta : is_meta (pos 1) t.meta ≡ false → old_first_bad t ≡ Some (table.Meta, 1)
  old_bad_meta m = rw m refl

  pub old_bad_input : (n : ℕ) → is_meta (pos 1) t.meta ≡ true → first_refused is_input None 1 t.inputs ≡ Some n → old_first_bad t ≡ Some (table.Inputs, n)
  old_bad_input n m i = rw (m, i) refl

  pub old_bad_result : (next : ℤ) (n : ℕ) → is_meta (pos 1) t.meta ≡ true → next_of t.meta ≡ next → first_refused is_input None 1 t.inputs ≡ None
      → first_refused (is_old_result next) None 1 t.cache ≡ Some n → old_first_bad t ≡ Some (table.Cache, n)
  old_bad_result next n m is i r = rw (m, i, is, r) refl

  pub old_bad_log : (next : ℤ) (n : ℕ) → is_meta (pos 1) t.meta ≡ true → next_of t.meta ≡ next → first_refused is_input None 1 t.inputs ≡ None
      → first_refused (is_old_result next) None 1 t.cache ≡ None → first_refused (is_log next) None 1 t.logs ≡ Some n → old_first_bad t ≡ Some (table.Logs, n)
  old_bad_log next n m is i r l = rw (m, i, is, r, l) refl

  pub old_none_bad : (next : ℤ) → is_meta (pos 1) t.meta ≡ true → next_of t.meta ≡ next → first_refused is_input None 1 t.inputs ≡ None
      → first_refused (is_old_result next) None 1 t.cache ≡ None → first_refused (is_log next) None 1 t.logs ≡ None → old_first_bad t ≡ None
  old_none_bad next m is i r l = rw (m, i, is, r, l) refl
