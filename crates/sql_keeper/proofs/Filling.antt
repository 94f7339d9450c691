-- The row of meta in fresh tables.
use Rattle.std.proofs.Common.{◌≡◌, ◌≢◌, ℕ, pos, List, [], ◌∷◌, map, if◌then◌else◌, None, Ok, Err, Result, OnOk, refl, sym, ap, subst, ◌∙◌, arith}
use Rattle.std.specs.Ordering.{int_cmp}
use Rattle.sqlite.specs.declared.types.Value.TheVariants.{Null, Int}
use Rattle.sqlite.specs.declared.error.Error.{Error}
use Rattle.sqlite.specs.Order.{Row}
use Rattle.sqlite.specs.Tree.{Trees}
use Rattle.sqlite.specs.Term.{lit}
use Rattle.sqlite.specs.Command.TheVariants.{Insert}
use Rattle.sqlite.specs.Source.TheVariants.{Values}
use Rattle.sqlite.specs.Cast.{cast_row}
use Rattle.sqlite.specs.Edit.{put_all, with_rowid, edit_of}
use Rattle.sqlite.specs.Rowids.TheVariants.{Chosen}
use Rattle.sqlite.specs.Does.{Tally, Does}
use Rattle.sqlite.specs.Rows.{Written}
use Rattle.sqlite.specs.Effect.{Database}
use Rattle.sqlite.specs.State.{State, mode_of, Executes, ExecutesInside}
use Rattle.sqlite.specs.Listing.{understood}
use Rattle.sqlite.proofs.Callers.{IsPlain, one_step, runs_as, statement_of}
use Rattle.sqlite_tied.specs.Compute.{everything}
use Rattle.keeper_core.specs.Contents.{key_cmp}
use Rattle.value_core.specs.Orders.{bytes_cmp}
use Rattle.sql_keeper.specs.inside.Schemas.{keeper_schema, meta_insert, the_meta}
use Rattle.sql_keeper.specs.Rows.{job_in, key_in, literal_in, meta_in, name_in, table_of, value_in}
use Rattle.sql_keeper.specs.inside.Databases.{IsKeyed}
use Rattle.sql_keeper.specs.inside.Fresh.{IsMaking, MakesFresh}
use Rattle.sql_keeper.proofs.Inputs.{cast_int, cast_null}
use Rattle.sql_keeper.proofs.Parts.{went, same_value}
use Rattle.sql_keeper.proofs.Texts.{meta_insert_is}

meta_insert_plain : IsPlain (understood keeper_schema meta_insert)
unfolding understood everything
meta_insert_plain = (refl, refl)

abbrev first_row : Row
first_row = Int (pos 1) ∷ Null ∷ Int (pos 2) ∷ Int (pos 1) ∷ []

row_is : (rows : List Row) → with_rowid Chosen rows (cast_row the_meta first_row) ≡ first_row
row_is rows = rw (cast_int (pos 1), cast_null, cast_int (pos 2))

filled : (old new : State) (count : ℕ) → IsMaking keeper_schema old → Executes meta_insert [] old new (Ok count) → MakesFresh old new
filled old new count making h =
    let db = old.now.trees in
    let command = Insert 0 (Values (lit (Int (pos 1)) ∷ lit Null ∷ lit (Int (pos 2)) ∷ lit (Int (pos 1)) ∷ []) 4) in
    let w = runs_as meta_insert [] old new keeper_schema making.schema command meta_insert_is meta_insert_plain count h in
    let text = statement_of meta_insert (understood keeper_schema meta_insert) in
    let done = went (subst (λ s. Does old.step_limit (mode_of old) [] (record old.now { schema = s }) text None command (Ok (w.tally, new.now))) making.schema w.changed) in
    let now : new.now ≡ record { schema = keeper_schema; trees = done.0.trees } = ap (λ (p : Tally × Database). p.1) (same_value (went (went done.2).2).2) in
    let given = went done.1 in
    let counter = went given.2 in
    let edited = went counter.2 in
    let counted = went edited.2 in
    let trees : done.0.trees ≡ edited.0 = ap (λ (it : Written). it.trees) (same_value counted.2) ∙ same_value counted.1 in
    let edit = edit_of db the_meta [] Chosen 0 given.0 in
    let step = one_step keeper_schema (mode_of old).keys db edited.0 edit refl edited.1 in
    let news : edit.news ≡ first_row ∷ [] = ap (λ all. (edit_of db the_meta [] Chosen 0 all).news) given.1.1 ∙ ap (λ r. r ∷ []) (row_is (db 0)) in
    let put : new.now.trees 0 ≡ put_all (db 0) (first_row ∷ []) = ap (λ (d : Database). d.trees 0) now ∙ ap (λ (t : Trees). t 0) trees ∙ step.rows ∙ ap (λ all. put_all (db 0) all) news in
    let meta : new.now.trees 0 ≡ first_row ∷ [] = put ∙ ap (λ rows. put_all rows (first_row ∷ [])) making.empty.0 in
    let same = λ (t : ℕ) (other : t ≢ 0) (one : 2 ≢ t) (two : 4 ≢ t). ap (λ (d : Database). d.trees t) now ∙ ap (λ (it : Trees). it t) trees ∙ step.others t other (one, (two, tt)) in
    let inputs : new.now.trees 1 ≡ [] = same 1 (λ e. omega arith) (λ e. omega arith) (λ e. omega arith) ∙ making.empty.1.0 in
    let cache : new.now.trees 3 ≡ [] = same 3 (λ e. omega arith) (λ e. omega arith) (λ e. omega arith) ∙ making.empty.1.1.0 in
    let logs : new.now.trees 5 ≡ [] = same 5 (λ e. omega arith) (λ e. omega arith) (λ e. omega arith) ∙ making.empty.1.1.1.0 in
    let none : IsKeyed [] = record { rises = tt; ints = tt } in
    record {
      is_open = w.shown.is_open;
      database = record {
        schema = ap (λ (d : Database). d.schema) now;
        sound = w.sound;
        meta = subst IsKeyed (sym meta) (record { rises = (tt, tt); ints = (refl, tt) });
        inputs = subst IsKeyed (sym inputs) none;
        cache = subst IsKeyed (sym cache) none;
        logs = subst IsKeyed (sym logs) none;
      };
      contents = λ i. record {
        meta = ap (map meta_in) meta i;
        inputs = ap (table_of bytes_cmp name_in literal_in) inputs i;
        cache = ap (table_of key_cmp key_in value_in) cache i;
        logs = ap (table_of int_cmp job_in literal_in) logs i;
      };
      inside = w.shown.mode ∙ making.inside;
      kept = w.shown.committed_is ∙ ap (λ b. if b then old.committed else new.now) making.inside;
    }

-- inside a transaction, whatever is answered
pub filled_inside : (old new : State) (r : Result ℕ Error) → IsMaking keeper_schema old → ExecutesInside 0 meta_insert [] old new r → OnOk r (MakesFresh old new)
filled_inside old new (Ok count) making h = filled old new count making h.0
filled_inside old new (Err e) making h = tt
