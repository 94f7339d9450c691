-- Results as a map, after the text that puts one.
use Rattle.std.proofs.Common.{◌≡◌, ◌≢◌, inl, inr, ℕ, ℤ, Bool, true, false, not, ◌&&◌, ◌||◌, if◌then◌else◌, List, [], ◌∷◌, map, None, Ok, Err, Result, OnOk, IsTrue, refl, sym, ap, subst, ◌∙◌, arith}
use Rattle.std.proofs.lemmas.Bool.{and_parts}
use Rattle.std.specs.List.{list_any, list_all}
use Rattle.std.specs.Ordering.{int_cmp}
use Rattle.std.specs.FinMap.{insert}
use Rattle.sqlite.specs.declared.error.Error.{Error}
use Rattle.sqlite.specs.declared.types.Value.TheVariants.{Null, Int, Text, Blob}
use Rattle.sqlite.specs.Order.{Row, column}
use Rattle.sqlite.specs.Tree.{Trees}
use Rattle.sqlite.specs.Term.{Term, lit, col}
use Rattle.sqlite.specs.Cast.{cast_row}
use Rattle.sqlite.specs.Command.TheVariants.{InsertOr}
use Rattle.sqlite.specs.Source.TheVariants.{Values}
use Rattle.sqlite_schema.specs.declared.command.Conflict.TheVariants.{Replace}
use Rattle.sqlite.specs.Edit.{next_rowid, with_rowid}
use Rattle.sqlite.specs.Rowids.TheVariants.{Chosen}
use Rattle.sqlite.specs.Does.{Tally, Does}
use Rattle.sqlite.specs.Rows.{Task, mended}
use Rattle.sqlite.specs.Effect.{Database, IsDatabase}
use Rattle.sqlite.specs.State.{State, mode_of, Executes, ExecutesInside, Shows}
use Rattle.sqlite.specs.Listing.{understood}
use Rattle.sqlite.proofs.Callers.{IsPlain, statement_of, runs_as}
use Rattle.sqlite_tied.specs.Compute.{everything}
use Rattle.sqlite_value.specs.Keys.{plain}
use Rattle.sqlite_schema.specs.declared.schema.Constraint.TheVariants.{Unique}
use Rattle.sqlite_schema.specs.Rules.{agree, guards, clashes}
use Rattle.sqlite_rules.specs.Keys.{shares}
use Rattle.sqlite_rules.specs.Lists.{Has}
use Rattle.sqlite_rules.proofs.RuleLemmas.{keeps_at}
use Rattle.value_core.specs.Orders.{bytes_cmp}
use Rattle.keeper_core.specs.declared.tables.CacheKey.{CacheKey as Key}
use Rattle.keeper_core.specs.declared.tables.CacheValue.{CacheValue}
use Rattle.keeper_core.specs.inside.KeyTies.{key_cmp_antisymmetric}
use Rattle.keeper_core.specs.Contents.{key_cmp, key_cmp_total}
use Rattle.sql_keeper.specs.inside.Schemas.{keeper_schema, the_cache, cache_replace}
use Rattle.sql_keeper.specs.inside.Databases.{IsKeyed, IsKeeperDatabase}
use Rattle.sql_keeper.specs.inside.Steps.{Makes}
use Rattle.keeper_core.specs.Contents.{with_result}
use Rattle.sql_keeper.specs.Rows.{table_of, key_in, value_in, meta_in, name_in, literal_in, job_in}
use Rattle.sql_keeper.proofs.Texts.{cache_replace_is}
use Rattle.sql_keeper.proofs.Parts.{went, same_value, Replaced, replaces}
use Rattle.sql_keeper.proofs.Inputs.{cast_int, cast_null}
use Rattle.sql_keeper.proofs.Rows.{equal_plain, replaced_map, replaced_keyed}
use Rattle.sql_keeper.proofs.CacheMap.{IsCached, agree_keys, cached_is, sharing, tied_blobs, tied_texts}

abbrev terms : List Term
terms = lit Null ∷ col 0 0 ∷ col 0 1 ∷ col 0 2 ∷ col 0 3 ∷ col 0 4 ∷ col 0 5 ∷ col 0 6 ∷ col 0 7 ∷ col 0 8 ∷ []

-- the columns of a result
abbrev pub columns_of : Key → CacheValue → Row
columns_of k v = Text k.op ∷ Blob k.khash ∷ Text k.ckey ∷ Text v.cvalue ∷ Int v.fine ∷ Text v.result ∷ Int v.finished ∷ Int v.job ∷ Int v.rebuild ∷ []

abbrev result_row : Trees → Key → CacheValue → Row
result_row db k v = Int (next_rowid (db 3)) ∷ columns_of k v

pub cache_replace_plain : IsPlain (understood keeper_schema cache_replace)
unfolding understood everything
cache_replace_plain = (refl, refl)

numbered_row : (db : Trees) (k : Key) (v : CacheValue) → with_rowid Chosen (db 3) (cast_row the_cache (mended Replace the_cache (Null ∷ columns_of k v))) ≡ result_row db k v
numbered_row db k v = rw (cast_null, cast_int v.fine, cast_int v.finished, cast_int v.job, cast_int v.rebuild)

cast_same : (n : ℤ) (k : Key) (v : CacheValue) → cast_row the_cache (Int n ∷ columns_of k v) ≡ Int n ∷ columns_of k v
cast_same n k v = rw (cast_int n, cast_int v.fine, cast_int v.finished, cast_int v.job, cast_int v.rebuild)

pub record PutsResult (k : Key) (v : CacheValue) (old new : State) : Type 0 where
  pub schema : new.now.schema ≡ keeper_schema
  pub rows : Replaced keeper_schema the_cache old.now.trees new.now.trees (result_row old.now.trees k v)
  pub sound : IsDatabase new.now
  pub shown : Shows old new new.now (if old.in_transaction then old.committed else new.now) old.in_transaction

puts_result : (old new : State) (k : Key) (v : CacheValue) (count : ℕ) → old.now.schema ≡ keeper_schema → Executes cache_replace (columns_of k v) old new (Ok count) → PutsResult k v old new
puts_result old new k v count has h =
    let params = columns_of k v in
    let db = old.now.trees in
    let command = InsertOr 2 Replace (Values terms 10) [] in
    let w = runs_as cache_replace params old new keeper_schema has command cache_replace_is cache_replace_plain count h in
    let text = statement_of cache_replace (understood keeper_schema cache_replace) in
    let done = went (subst (λ s. Does old.step_limit (mode_of old) params (record old.now { schema = s }) text None command (Ok (w.tally, new.now))) has w.changed) in
    let task : Task = record { limit = old.step_limit; keys = (mode_of old).keys; schema = keeper_schema; table = the_cache; params = params } in
    let now : new.now ≡ record { schema = keeper_schema; trees = done.0.trees } = ap (λ (p : Tally × Database). p.1) (same_value (went (went done.2).2).2) in
    let it = replaces task (λ olds news. refl) db terms 10 (Null ∷ params) (result_row db k v) done.0 refl refl (numbered_row db k v) (cast_same (next_rowid (db 3)) k v) done.1 in
    record {
      schema = ap (λ (d : Database). d.schema) now;
      rows = subst (λ (d : Database). Replaced keeper_schema the_cache db d.trees (result_row db k v)) (sym now) it;
      sound = w.sound;
      shown = w.shown;
    }

keys_agree : (r s : Row) → IsCached r → IsCached s → agree plain (1 ∷ 2 ∷ 3 ∷ []) r (1 ∷ 2 ∷ 3 ∷ []) s ≡ true → key_in r ≡ key_in s
keys_agree r s p q h =
    let one = and_parts _ _ h in
    let two = and_parts _ _ one.1 in
    let three = and_parts _ _ two.1 in
    let op = tied_texts (key_in r).op (key_in s).op (rw (p.op, q.op) at (equal_plain (column r 1) (column s 1) one.0)) in
    let khash = tied_blobs (key_in r).khash (key_in s).khash (rw (p.khash, q.khash) at (equal_plain (column r 2) (column s 2) two.0)) in
    let ckey = tied_texts (key_in r).ckey (key_in s).ckey (rw (p.ckey, q.ckey) at (equal_plain (column r 3) (column s 3) three.0)) in
    λ i. record { op = op i; khash = khash i; ckey = ckey i }

shared : (r s : Row) → list_any (shares None the_cache s r) keeper_schema.indexes ≡ true → agree plain (1 ∷ 2 ∷ 3 ∷ []) r (1 ∷ 2 ∷ 3 ∷ []) s ≡ true
shared r s h = go (agree plain (1 ∷ 2 ∷ 3 ∷ []) r (1 ∷ 2 ∷ 3 ∷ []) s) h
  where
    go : (b : Bool) → (b || false) ≡ true → b ≡ true
    go true h = refl
    go false h = h

module _ (db after : Trees) (sound : IsDatabase (record { schema = keeper_schema; trees = db })) (keyed : IsKeyed (db 3)) (k : Key) (v : CacheValue)
    (it : Replaced keeper_schema the_cache db after (result_row db k v)) where
  new_is : IsCached (result_row db k v)
  new_is = record { op = refl; khash = refl; ckey = refl }

  sharing_keys : (r s : Row) → Has (db 3) r → Has (db 3) s → key_in r ≡ key_in s → list_any (shares None the_cache s r) keeper_schema.indexes ≡ true
  sharing_keys r s h j e = sharing r s (agree_keys r s (cached_is db sound r h) (cached_is db sound s j) e)

  unique : (r : Row) → Has (db 3) r → list_all (λ i. not (guards i the_cache && clashes i.order i.columns (db 3) r)) keeper_schema.indexes ≡ true
  unique r h = keeps_at Unique keeper_schema db the_cache r (sound.obeys.rules Unique) (inr (inr (inl refl))) h

  meets : (r : Row) → Has (db 3) r → key_in r ≡ k → list_any (shares None the_cache (result_row db k v) r) keeper_schema.indexes ≡ true
  meets r h e = sharing r (result_row db k v) (agree_keys r (result_row db k v) (cached_is db sound r h) new_is e)

  met : (r : Row) → Has (db 3) r → list_any (shares None the_cache (result_row db k v) r) keeper_schema.indexes ≡ true → key_in r ≡ k
  met r h e = keys_agree r (result_row db k v) (cached_is db sound r h) new_is (shared r (result_row db k v) e)

  put_map : table_of key_cmp key_in value_in (after 3) ≡ insert (table_of key_cmp key_in value_in (db 3)) k v
  put_map = replaced_map key_cmp_total key_cmp_antisymmetric key_in value_in keeper_schema the_cache (db 3) keyed sharing_keys unique db after (columns_of k v) refl it meets met

  put_keyed : IsKeyed (after 3)
  put_keyed = replaced_keyed key_cmp_total key_cmp_antisymmetric key_in value_in keeper_schema the_cache (db 3) keyed sharing_keys unique db after (columns_of k v) refl it meets met

pub result_step : (old new : State) (k : Key) (v : CacheValue) (count : ℕ) → IsKeeperDatabase old.now → IsTrue old.in_transaction → Executes cache_replace (columns_of k v) old new (Ok count) → Makes (with_result k v) old new
result_step old new k v count database inside h =
    let puts = puts_result old new k v count database.schema h in
    let db = old.now.trees in
    let sound : IsDatabase (record { schema = keeper_schema; trees = db }) = subst (λ s. IsDatabase (record { schema = s; trees = db })) database.schema database.sound in
    let same = λ (t : ℕ) (other : t ≢ 3) (one : 2 ≢ t) (two : 4 ≢ t). puts.rows.others t other (one, (two, tt)) in
    let meta = same 0 (λ e. omega arith) (λ e. omega arith) (λ e. omega arith) in
    let inputs = same 1 (λ e. omega arith) (λ e. omega arith) (λ e. omega arith) in
    let logs = same 5 (λ e. omega arith) (λ e. omega arith) (λ e. omega arith) in
    record {
      is_open = puts.shown.is_open;
      database = record {
        schema = puts.schema;
        sound = puts.sound;
        meta = subst IsKeyed (sym meta) database.meta;
        inputs = subst IsKeyed (sym inputs) database.inputs;
        cache = put_keyed db new.now.trees sound database.cache k v puts.rows;
        logs = subst IsKeyed (sym logs) database.logs;
      };
      contents = λ i. record {
        meta = ap (map meta_in) meta i;
        inputs = ap (table_of bytes_cmp name_in literal_in) inputs i;
        cache = put_map db new.now.trees sound database.cache k v puts.rows i;
        logs = ap (table_of int_cmp job_in literal_in) logs i;
      };
      inside = puts.shown.mode ∙ inside;
      kept = puts.shown.committed_is ∙ ap (λ b. if b then old.committed else new.now) inside;
    }

pub result_inside : (old new : State) (k : Key) (v : CacheValue) (r : Result ℕ Error) → IsKeeperDatabase old.now → IsTrue old.in_transaction → ExecutesInside 0 cache_replace (columns_of k v) old new r → OnOk r (Makes (with_result k v) old new)
result_inside old new k v (Ok count) database inside h = result_step old new k v count database inside h.0
result_inside old new k v (Err e) database inside h = tt
