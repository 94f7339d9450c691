-- The logs as a map, after the text that adds one.
use Rattle.std.proofs.Common.{◌≡◌, ◌≢◌, inl, inr, ℕ, ℤ, true, false, if◌then◌else◌, List, [], ◌∷◌, map, None, Ok, Err, Result, OnOk, IsTrue, Equal, refl, sym, ap, subst, ◌∙◌, arith}
use Rattle.std.proofs.lemmas.Bool.{and_parts, not-true}
use Rattle.std.specs.Ordering.{is_eq, int_cmp}
use Rattle.std.specs.Cmp.{tied_itself, int_cmp_total}
use Rattle.std.specs.FinMap.{insert, int_cmp-IsAntisymmetric}
use Rattle.sqlite.specs.Order.{Row, value_cmp}
use Rattle.sqlite.specs.declared.types.Value.TheVariants.{Null, Int, Blob}
use Rattle.sqlite.specs.declared.error.Error.{Error}
use Rattle.sqlite.specs.Tree.{Trees, rowid}
use Rattle.sqlite.specs.Term.{lit, col}
use Rattle.sqlite.specs.Cast.{cast_row}
use Rattle.sqlite.specs.Command.TheVariants.{Insert}
use Rattle.sqlite.specs.Source.TheVariants.{Values}
use Rattle.sqlite.specs.Edit.{with_rowid, put_all, is_taken, are_fresh, edit_of}
use Rattle.sqlite.specs.Rowids.TheVariants.{Chosen}
use Rattle.sqlite.specs.Does.{Tally, Does}
use Rattle.sqlite.specs.Rows.{Written}
use Rattle.sqlite.specs.Effect.{Database}
use Rattle.sqlite.specs.State.{State, mode_of, Executes, ExecutesInside}
use Rattle.sqlite.specs.Listing.{understood}
use Rattle.sqlite.proofs.Callers.{IsPlain, statement_of, runs_as, one_step}
use Rattle.sqlite_tied.specs.Compute.{everything}
use Rattle.sqlite_value.proofs.OrderLemmas.{value_cmp_total}
use Rattle.sqlite_rules.specs.Lists.{Has}
use Rattle.sqlite_rules.proofs.ListLemmas.{all_has, some_from}
use Rattle.sqlite_rules.proofs.TableLemmas.{int_is, put_all_has, put_all_keeps, put_all_adds}
use Rattle.sqlite_rules.proofs.PlaceLemmas.{tied_same}
use Rattle.sql_keeper.specs.inside.Schemas.{keeper_schema, the_logs, log_insert}
use Rattle.sql_keeper.specs.inside.Databases.{IsKeyed, IsKeeperDatabase}
use Rattle.sql_keeper.specs.inside.Steps.{Makes}
use Rattle.keeper_core.specs.Contents.{with_output}
use Rattle.sql_keeper.specs.Rows.{table_of, key_in, value_in, meta_in, name_in, literal_in, job_in}
use Rattle.keeper_core.specs.Contents.{Bytes, key_cmp}
use Rattle.value_core.specs.Orders.{bytes_cmp}
use Rattle.sql_keeper.proofs.Texts.{log_insert_is}
use Rattle.sql_keeper.proofs.Parts.{went, same_value}
use Rattle.sql_keeper.proofs.Maps.{written}
use Rattle.sql_keeper.proofs.Inputs.{cast_null, cast_int}
use Rattle.sql_keeper.proofs.Rows.{put_keyed}

pub tie_of : (rows : List Row) (a b : Row) → IsKeyed rows → Has rows a → Has rows b → job_in a ≡ job_in b → value_cmp (rowid a) (rowid b) ≡ Equal
tie_of rows a b keyed p q e =
    let m = int_is (rowid a) (all_has _ rows a keyed.ints p) in
    let n = int_is (rowid b) (all_has _ rows b keyed.ints q) in
    subst (λ v. value_cmp (rowid a) v ≡ Equal) (m ∙ ap Int e ∙ sym n) (tied_itself value_cmp_total (rowid a))

abbrev log_row : ℤ → Bytes → Row
log_row job output = Int job ∷ Null ∷ Blob output ∷ []

module _ (rows : List Row) (keyed : IsKeyed rows) (job : ℤ) (output : Bytes) (fresh : are_fresh rows (log_row job output ∷ []) ≡ true) where
  untaken : is_taken rows (log_row job output) ≡ false
  untaken = not-true _ (and_parts _ _ fresh).0

  pub logged : table_of int_cmp job_in literal_in (put_all rows (log_row job output ∷ [])) ≡ insert (table_of int_cmp job_in literal_in rows) job output
  logged = written int_cmp_total int_cmp-IsAntisymmetric job_in literal_in rows (put_all rows (log_row job output ∷ []))
      (λ a b p q e. tied_same rows a b keyed.rises p q (tie_of rows a b keyed p q e)) (log_row job output)
      (λ x h. elim (put_all_has (log_row job output ∷ []) rows x h) [
        | inl is ↦ elim is [ inl e ↦ inl e | inr none ↦ absurd none ]
        | inr was ↦ inr (
          was,
          λ e.
              let m = int_is (rowid x) (all_has _ rows x keyed.ints was) in
              let tie : value_cmp (rowid x) (Int job) ≡ Equal = subst (λ v. value_cmp (rowid x) v ≡ Equal) (m ∙ ap Int e) (tied_itself value_cmp_total (rowid x)) in
              let taken = some_from (λ r. is_eq (value_cmp (rowid r) (rowid (log_row job output)))) rows x was (ap is_eq tie) in
              let free = untaken in cc,
        )
      ])
      (put_all_adds (log_row job output ∷ []) rows (log_row job output) fresh (inl refl))
      (λ x h apart. put_all_keeps (log_row job output ∷ []) rows x fresh h)

pub log_insert_plain : IsPlain (understood keeper_schema log_insert)
unfolding understood everything
log_insert_plain = (refl, refl)

log_row_is : (rows : List Row) (job : ℤ) (output : Bytes) → with_rowid Chosen rows (cast_row the_logs (log_row job output)) ≡ log_row job output
log_row_is rows job output = rw (cast_int job, cast_null)

pub log_added : (old new : State) (job : ℤ) (output : Bytes) (count : ℕ) → IsKeeperDatabase old.now → IsTrue old.in_transaction → Executes log_insert (Int job ∷ Blob output ∷ []) old new (Ok count)
    → Makes (with_output job output) old new
log_added old new job output count database inside h =
    let params = Int job ∷ Blob output ∷ [] in
    let db = old.now.trees in
    let command = Insert 3 (Values (col 0 0 ∷ lit Null ∷ col 0 1 ∷ []) 3) in
    let w = runs_as log_insert params old new keeper_schema database.schema command log_insert_is log_insert_plain count h in
    let text = statement_of log_insert (understood keeper_schema log_insert) in
    let done = went (subst (λ s. Does old.step_limit (mode_of old) params (record old.now { schema = s }) text None command (Ok (w.tally, new.now))) database.schema w.changed) in
    let now : new.now ≡ record { schema = keeper_schema; trees = done.0.trees } = ap (λ (p : Tally × Database). p.1) (same_value (went (went done.2).2).2) in
    let given = went done.1 in
    let counter = went given.2 in
    let edited = went counter.2 in
    let counted = went edited.2 in
    let trees : done.0.trees ≡ edited.0 = ap (λ (it : Written). it.trees) (same_value counted.2) ∙ same_value counted.1 in
    let edit = edit_of db the_logs [] Chosen 0 given.0 in
    let step = one_step keeper_schema (mode_of old).keys db edited.0 edit refl edited.1 in
    let news : edit.news ≡ log_row job output ∷ [] = ap (λ all. (edit_of db the_logs [] Chosen 0 all).news) given.1.1 ∙ ap (λ r. r ∷ []) (log_row_is (db 5) job output) in
    let rows : new.now.trees 5 ≡ put_all (db 5) (log_row job output ∷ []) = ap (λ (d : Database). d.trees 5) now ∙ ap (λ (t : Trees). t 5) trees ∙ step.rows ∙ ap (λ all. put_all (db 5) all) news in
    let fresh : are_fresh (db 5) (log_row job output ∷ []) ≡ true = subst (λ all. are_fresh (db 5) all ≡ true) news step.fresh in
    let same = λ (t : ℕ) (other : t ≢ 5) (one : 2 ≢ t) (two : 4 ≢ t). ap (λ (d : Database). d.trees t) now ∙ ap (λ (it : Trees). it t) trees ∙ step.others t other (one, (two, tt)) in
    let meta = same 0 (λ e. omega arith) (λ e. omega arith) (λ e. omega arith) in
    let inputs = same 1 (λ e. omega arith) (λ e. omega arith) (λ e. omega arith) in
    let cache = same 3 (λ e. omega arith) (λ e. omega arith) (λ e. omega arith) in
    record {
      is_open = w.shown.is_open;
      database = record {
        schema = ap (λ (d : Database). d.schema) now;
        sound = w.sound;
        meta = subst IsKeyed (sym meta) database.meta;
        inputs = subst IsKeyed (sym inputs) database.inputs;
        cache = subst IsKeyed (sym cache) database.cache;
        logs = subst IsKeyed (sym rows) (put_keyed (db 5) (log_row job output) database.logs refl);
      };
      contents = λ i. record {
        meta = ap (map meta_in) meta i;
        inputs = ap (table_of bytes_cmp name_in literal_in) inputs i;
        cache = ap (table_of key_cmp key_in value_in) cache i;
        logs = (ap (table_of int_cmp job_in literal_in) rows ∙ logged (db 5) database.logs job output fresh) i;
      };
      inside = w.shown.mode ∙ inside;
      kept = w.shown.committed_is ∙ ap (λ b. if b then old.committed else new.now) inside;
    }

pub log_inside : (old new : State) (job : ℤ) (output : Bytes) (r : Result ℕ Error) → IsKeeperDatabase old.now → IsTrue old.in_transaction → ExecutesInside 0 log_insert (Int job ∷ Blob output ∷ []) old new r
    → OnOk r (Makes (with_output job output) old new)
log_inside old new job output (Ok count) database inside h = log_added old new job output count database inside h.0
log_inside old new job output (Err e) database inside h = tt
