-- The row of meta, after the text that sets the next number: as a step in a transaction.
use Rattle.std.proofs.Common.{◌≡◌, ◌≢◌, ℕ, ℤ, [], ◌∷◌, map, None, Ok, Err, Result, OnOk, IsTrue, if◌then◌else◌, refl, sym, ap, subst, ◌∙◌, arith}
use Rattle.std.specs.Ordering.{int_cmp}
use Rattle.sqlite.specs.declared.error.Error.{Error}
use Rattle.sqlite.specs.declared.types.Value.TheVariants.{Int}
use Rattle.sqlite.specs.Command.TheVariants.{Update}
use Rattle.sqlite.specs.Does.{Tally, Does}
use Rattle.sqlite.specs.Rows.{Task}
use Rattle.sqlite.specs.Effect.{Database, IsDatabase}
use Rattle.sqlite.specs.State.{State, mode_of, Executes, ExecutesInside}
use Rattle.sqlite.specs.Listing.{understood}
use Rattle.sqlite.proofs.Callers.{IsPlain, statement_of, runs_as}
use Rattle.sqlite_tied.specs.Compute.{everything}
use Rattle.sqlite_schema.specs.declared.program.Program.{Program}
use Rattle.value_core.specs.Orders.{bytes_cmp}
use Rattle.keeper_core.specs.Contents.{key_cmp}
use Rattle.sql_keeper.specs.inside.Schemas.{keeper_schema, the_meta, meta_update}
use Rattle.sql_keeper.specs.inside.Databases.{IsKeyed, IsKeeperDatabase}
use Rattle.sql_keeper.specs.inside.Steps.{Makes, with_next_job}
use Rattle.sql_keeper.specs.Rows.{table_of, key_in, value_in, meta_in, name_in, literal_in, job_in}
use Rattle.sql_keeper.proofs.Texts.{meta_update_is, plain_program, simple}
use Rattle.sql_keeper.proofs.Parts.{went, same_value, Updated, updates}
use Rattle.sql_keeper.proofs.MetaRows.{asked, numbered, numbered_keyed, shown}

pub meta_update_plain : IsPlain (understood keeper_schema meta_update)
unfolding understood everything
meta_update_plain = (refl, refl)

pub number_step : (old new : State) (next : ℤ) (count : ℕ) → IsKeeperDatabase old.now → IsTrue old.in_transaction → Executes meta_update (Int next ∷ []) old new (Ok count) → Makes (with_next_job next) old new
number_step old new next count database inside h =
    let params = Int next ∷ [] in
    let db = old.now.trees in
    let q : Program = plain_program (simple 0 asked shown) in
    let command = Update 0 q in
    let w = runs_as meta_update params old new keeper_schema database.schema command meta_update_is meta_update_plain count h in
    let text = statement_of meta_update (understood keeper_schema meta_update) in
    let done = went (subst (λ s. Does old.step_limit (mode_of old) params (record old.now { schema = s }) text None command (Ok (w.tally, new.now))) database.schema w.changed) in
    let task : Task = record { limit = old.step_limit; keys = (mode_of old).keys; schema = keeper_schema; table = the_meta; params = params } in
    let now : new.now ≡ record { schema = keeper_schema; trees = done.0.trees } = ap (λ (p : Tally × Database). p.1) (same_value (went (went done.2).2).2) in
    let it : Updated task (λ olds news. refl) q db new.now.trees = subst (λ (d : Database). Updated task (λ olds news. refl) q db d.trees) (sym now) (updates task (λ olds news. refl) db q done.0 done.1) in
    let sound : IsDatabase (record { schema = keeper_schema; trees = db }) = subst (λ s. IsDatabase (record { schema = s; trees = db })) database.schema database.sound in
    let same = λ (t : ℕ) (other : t ≢ 0) (one : 2 ≢ t) (two : 4 ≢ t). it.others t other (one, (two, tt)) in
    let inputs = same 1 (λ e. omega arith) (λ e. omega arith) (λ e. omega arith) in
    let cache = same 3 (λ e. omega arith) (λ e. omega arith) (λ e. omega arith) in
    let logs = same 5 (λ e. omega arith) (λ e. omega arith) (λ e. omega arith) in
    record {
      is_open = w.shown.is_open;
      database = record {
        schema = ap (λ (d : Database). d.schema) now;
        sound = w.sound;
        meta = subst IsKeyed (sym it.rows) (numbered_keyed db sound database.meta next it.found it.answers);
        inputs = subst IsKeyed (sym inputs) database.inputs;
        cache = subst IsKeyed (sym cache) database.cache;
        logs = subst IsKeyed (sym logs) database.logs;
      };
      contents = λ i. record {
        meta = (ap (map meta_in) it.rows ∙ numbered db sound database.meta next it.found it.answers) i;
        inputs = ap (table_of bytes_cmp name_in literal_in) inputs i;
        cache = ap (table_of key_cmp key_in value_in) cache i;
        logs = ap (table_of int_cmp job_in literal_in) logs i;
      };
      inside = w.shown.mode ∙ inside;
      kept = w.shown.committed_is ∙ ap (λ b. if b then old.committed else new.now) inside;
    }

pub number_inside : (old new : State) (next : ℤ) (r : Result ℕ Error) → IsKeeperDatabase old.now → IsTrue old.in_transaction → ExecutesInside 0 meta_update (Int next ∷ []) old new r → OnOk r (Makes (with_next_job next) old new)
number_inside old new next (Ok count) database inside h = number_step old new next count database inside h.0
number_inside old new next (Err e) database inside h = tt
