-- What the parts of a statement on one table do, with no foreign key.
use Rattle.std.proofs.Common.{◌≡◌, ◌≢◌, ◌⊎◌, ◌/◌, inl, inr, ℕ, ℤ, true, false, List, [], ◌∷◌, length, map, drop, Option, Some, None, Result, Ok, Err, sym, ap, subst, subst₂, ◌∙◌}
use Rattle.sqlite.specs.Order.{Row}
use Rattle.sqlite.specs.Tree.{Trees}
use Rattle.sqlite.specs.Term.{Term}
use Rattle.sqlite.specs.Schema.{Schema}
use Rattle.sqlite.specs.Table.{Table}
use Rattle.sqlite.specs.Source.TheVariants.{Values}
use Rattle.sqlite.specs.Edit.{edit_of, with_rowid, without_all, put_all, are_fresh, IsNoIndex, taken_by}
use Rattle.sqlite.specs.Cast.{cast_row}
use Rattle.sqlite.specs.Rowids.TheVariants.{Chosen, Given}
use Rattle.sqlite_schema.specs.declared.command.Conflict.TheVariants.{Replace}
use Rattle.sqlite_rules.specs.Action.{works}
use Rattle.sqlite_rules.specs.Calls.{ids_of}
use Rattle.sqlite_rules.specs.Keys.{AreConflicts}
use Rattle.sqlite_rules.specs.declared.error.Refusal.{Refusal}
use Rattle.sqlite.specs.Rows.{Task, Written, nothing, mended, stamped, InsertsOr, Puts, Clears, Tries, TriesEach, Judged, Counter, Counts, count_of, joined, rowids_for, higher, Then, Deletes, Updates}
use Rattle.sqlite_rules.proofs.PlaceLemmas.{given}
use Rattle.sqlite.specs.Effect.{value_rows, Answers}
use Rattle.sqlite_schema.specs.declared.program.Program.{Program}
use Rattle.sqlite.proofs.Callers.{one_step}

-- a part that gave a value did not stop on the way
pub went : {B E R : Type 0} {b : B} {Stops : E → Type 0} → ((stop : E) × Stops stop × (Ok b ≡ Err stop)) ⊎ R → R
went (inl stopped) = absurd (let e = stopped.2 in cc)
went (inr on) = on

pub same_value : {B E : Type 0} {a b : B} → ◌≡◌ {A = Result B E} (Ok a) (Ok b) → a ≡ b
same_value e = cc

pub record Replaced (schema : Schema) (table : Table) (db after : Trees) (new : Row) : Type 0 where
  pub found : List Row
  pub conflicts : AreConflicts None schema.indexes table (db table.tree) new found
  pub rows : after table.tree ≡ put_all (without_all (db table.tree) (ids_of found)) (new ∷ [])
  pub fresh : are_fresh (without_all (db table.tree) (ids_of found)) (new ∷ []) ≡ true
  pub others : (t : ℕ) → t ≢ table.tree → IsNoIndex schema t → after t ≡ db t

module _ (task : Task) (free : (olds news : List Row) → works task.schema task.keys 0 task.table.tree olds news ≡ []) where
  open task use {limit, keys, schema, table, params}

  puts : (db : Trees) (new : Row) (w : Written) → cast_row table new ≡ new → Puts task new db (Ok w)
      → (w.trees table.tree ≡ put_all (db table.tree) (new ∷ [])) × (are_fresh (db table.tree) (new ∷ []) ≡ true) × ((t : ℕ) → t ≢ table.tree → IsNoIndex schema t → w.trees t ≡ db t)
  puts db new w plain h =
      let edit = edit_of db table [] Given 0 (new ∷ []) in
      let done = went h in
      let step = one_step schema keys db done.0 edit (free (taken_by db edit) edit.news) done.1 in
      let trees : w.trees ≡ done.0 = ap (λ (it : Written). it.trees) (same_value done.2) in (
        ap (λ (t : Trees). t table.tree) trees ∙ step.rows ∙ ap (λ r. put_all (db table.tree) (r ∷ [])) plain,
        subst (λ r. are_fresh (db table.tree) (r ∷ []) ≡ true) plain step.fresh,
        λ t other index. ap (λ (it : Trees). it t) trees ∙ step.others t other index,
      )

  clears : (db : Trees) (new : Row) (w : Written) (found : List Row) → cast_row table new ≡ new → AreConflicts None schema.indexes table (db table.tree) new found
      → Clears task Replace new db found (Ok w) → Replaced schema table db w.trees new
  clears db new w [] plain are h = let it = puts db new w plain h in record { found = []; conflicts = are; rows = it.0; fresh = it.1; others = it.2 }
  clears db new w (x ∷ more) plain are h =
      let done = went h in
      let edit = edit_of db table (ids_of (x ∷ more)) Given 0 [] in
      let step = one_step schema keys db done.0 edit (free (taken_by db edit) edit.news) done.1 in
      let it = puts done.0 new w plain done.2 in
      record {
        found = x ∷ more;
        conflicts = are;
        rows = it.0 ∙ ap (λ rows. put_all rows (new ∷ [])) step.rows;
        fresh = subst (λ rows. are_fresh rows (new ∷ []) ≡ true) step.rows it.1;
        others = λ t other index. it.2 t other index ∙ step.others t other index;
      }

  judged : (db : Trees) (new : Row) (w : Written) (verdict : Option Refusal) → cast_row table new ≡ new → Judged task Replace [] new db verdict (Ok w) → Replaced schema table db w.trees new
  judged db new w None plain h = clears db new w h.0 plain h.1 h.2
  judged db new w (Some why) plain h = absurd (let e = h in cc)

  tries : (db : Trees) (new : Row) (w : Written) → cast_row table new ≡ new → Tries task Replace [] new db (Ok w) → Replaced schema table db w.trees new
  tries db new w plain (inl refused) = absurd (let e = refused.1 in cc)
  tries db new w plain (inr on) = judged db new w on.0 plain on.2

  uncounted_none : (db : Trees) (c : Option Row) → table.is_counted ≡ false → Counter task db (Ok c) → c ≡ None
  uncounted_none db c uncounted h = same_value (rw uncounted at h)

  uncounted_same : (db next : Trees) (c : Option Row) (top : ℤ) → table.is_counted ≡ false → Counts task db c top (Ok next) → next ≡ db
  uncounted_same db next c top uncounted h = same_value (rw uncounted at h)

  each : (db : Trees) (source new : Row) (done : Written × ℤ) → table.is_counted ≡ false → with_rowid Chosen (db table.tree) (cast_row table (mended Replace table source)) ≡ new → cast_row table new ≡ new
      → TriesEach task Replace [] (source ∷ []) (count_of None) (nothing db) (Ok done) → Replaced schema table db done.0.trees new
  each db source new done uncounted is plain h =
      let row = cast_row table (mended Replace table source) in
      let rowids : rowids_for table (count_of None) ≡ Chosen = rw uncounted in
      let this : with_rowid (rowids_for table (count_of None)) (db table.tree) row ≡ new = ap (λ r. with_rowid r (db table.tree) row) rowids ∙ is in
      let P = λ (n : Row). Then (Tries task Replace [] n db) (λ (one : Written). TriesEach task Replace [] [] (higher (count_of None) n) (joined (nothing db) one)) (Ok done) in
      let one = went (subst P this h) in
      let it = tries db new one.0 plain one.1 in
      let end : done.0 ≡ joined (nothing db) one.0 = ap (λ (p : Written × ℤ). p.0) (same_value one.2) in
      subst (λ (w : Written). Replaced schema table db w.trees new) (sym end) it

  pub replaces : (db : Trees) (terms : List Term) (width : ℕ) (source new : Row) (w : Written) → table.is_counted ≡ false
      → value_rows (stamped table params) width (length terms / width) terms ≡ source ∷ []
      → with_rowid Chosen (db table.tree) (cast_row table (mended Replace table source)) ≡ new → cast_row table new ≡ new
      → InsertsOr task Replace [] (Values terms width) db (Ok w) → Replaced schema table db w.trees new
  replaces db terms width source new w uncounted sources is plain h =
      let given = went h in
      let counter = went given.2 in
      let tried = went counter.2 in
      let counts = went tried.2 in
      let rows : given.0 ≡ source ∷ [] = given.1.1 ∙ sources in
      let none = uncounted_none db counter.0 uncounted counter.1 in
      let P = λ (rs : List Row) (c : Option Row). TriesEach task Replace [] rs (count_of c) (nothing db) (Ok tried.0) in
      let it = each db source new tried.0 uncounted is plain (subst₂ P rows none tried.1) in
      let kept = uncounted_same _ counts.0 counter.0 _ uncounted counts.1 in
      let end : w.trees ≡ counts.0 = ap (λ (it : Written). it.trees) (same_value counts.2) in
      subst (λ (t : Trees). Replaced schema table db t new) (sym (end ∙ kept)) it

  pub record Deleted (q : Program) (db after : Trees) : Type 0 where
    pub found : List Row
    pub answers : Answers (record { schema = schema; trees = db }) q params found
    pub rows : after table.tree ≡ without_all (db table.tree) (ids_of found)
    pub others : (t : ℕ) → t ≢ table.tree → IsNoIndex schema t → after t ≡ db t

  pub deletes : (db : Trees) (q : Program) (w : Written) → Deletes task q db (Ok w) → Deleted q db w.trees
  deletes db q w h =
      let asked = went h in
      let done = went asked.2 in
      let edit = edit_of db table (ids_of asked.0) Given 0 [] in
      let step = one_step schema keys db done.0 edit (free (taken_by db edit) edit.news) done.1 in
      let trees : w.trees ≡ done.0 = ap (λ (it : Written). it.trees) (same_value done.2) in
      record {
        found = asked.0;
        answers = asked.1;
        rows = ap (λ (t : Trees). t table.tree) trees ∙ step.rows;
        others = λ t other index. ap (λ (it : Trees). it t) trees ∙ step.others t other index;
      }

  pub record Updated (q : Program) (db after : Trees) : Type 0 where
    pub found : List Row
    pub answers : Answers (record { schema = schema; trees = db }) q params found
    pub rows : after table.tree ≡ put_all (without_all (db table.tree) (ids_of found)) (map (λ s. cast_row table (drop 1 s)) found)
    pub others : (t : ℕ) → t ≢ table.tree → IsNoIndex schema t → after t ≡ db t

  pub updates : (db : Trees) (q : Program) (w : Written) → Updates task q params db (Ok w) → Updated q db w.trees
  updates db q w h =
      let asked = went h in
      let done = went asked.2 in
      let edit = edit_of db table (ids_of asked.0) Given 1 asked.0 in
      let step = one_step schema keys db done.0 edit (free (taken_by db edit) edit.news) done.1 in
      let trees : w.trees ≡ done.0 = ap (λ (it : Written). it.trees) (same_value done.2) in
      record {
        found = asked.0;
        answers = asked.1;
        rows = ap (λ (t : Trees). t table.tree) trees ∙ step.rows ∙ ap (put_all (without_all (db table.tree) (ids_of asked.0))) (given _ (map (λ s. cast_row table (drop 1 s)) asked.0));
        others = λ t other index. ap (λ (it : Trees). it t) trees ∙ step.others t other index;
      }
