-- The cache as a map, after the text that removes a key.
use Rattle.std.proofs.Common.{◌≡◌, ◌≢◌, inl, inr, ℕ, ℤ, Bool, true, false, not, ◌&&◌, if◌then◌else◌, List, [], ◌∷◌, map, drop, None, Ok, Err, Result, OnOk, Equal, IsTrue, refl, sym, ap, subst, ◌∙◌, arith}
use Rattle.std.proofs.lemmas.Bool.{and_parts, and_from, or_left, not-true, false_from_ne_true}
use Rattle.std.specs.List.{list_any, list_all}
use Rattle.std.specs.Ordering.{is_eq, int_cmp}
use Rattle.std.specs.Cmp.{tied_itself}
use Rattle.std.specs.Cmp.Lexicographic.{nat_list_cmp_total}
use Rattle.std.specs.FinMap.{remove}
use Rattle.sqlite.specs.declared.types.Value.{Value}
use Rattle.sqlite.specs.declared.types.Value.TheVariants.{Null, Int, Real, Text, Blob}
use Rattle.sqlite.specs.declared.error.Error.{Error}
use Rattle.sqlite.specs.Order.{Row, value_cmp, column, bytes}
use Rattle.sqlite.specs.Tree.{Trees, rowid, has_rowid}
use Rattle.sqlite.specs.Term.{Term, col, holds}
use Rattle.sqlite.specs.Command.TheVariants.{Delete}
use Rattle.sqlite.specs.Edit.{id_in, without_all}
use Rattle.sqlite.specs.Does.{Tally, Does}
use Rattle.sqlite.specs.Rows.{Task}
use Rattle.sqlite.specs.Effect.{Database, IsDatabase}
use Rattle.sqlite.specs.State.{State, mode_of, Executes, ExecutesInside}
use Rattle.sqlite.specs.Listing.{understood}
use Rattle.sqlite.proofs.Callers.{IsPlain, statement_of, runs_as}
use Rattle.sqlite_tied.specs.Compute.{everything}
use Rattle.sqlite.specs.Kind.TheVariants as kind
use Rattle.sqlite_value.specs.declared.keys.Collation.TheVariants.{Binary}
use Rattle.sqlite_value.specs.Keys.{plain}
use Rattle.sqlite_value.proofs.OrderLemmas.{value_cmp_total, value_cmp-Text, value_cmp-Blob}
use Rattle.sqlite_sql.specs.Ops.{is_null}
use Rattle.sqlite_schema.specs.declared.program.Program.{Program}
use Rattle.sqlite_schema.specs.declared.schema.Constraint.TheVariants.{Datatype, NotNull, Unique}
use Rattle.sqlite_schema.specs.Rules.{is_of, agree, guards, clashes, are_typed, are_present, equal}
use Rattle.sqlite_rules.specs.Calls.{ids_of}
use Rattle.sqlite_rules.specs.Lists.{Has}
use Rattle.sqlite_rules.specs.Keys.{shares}
use Rattle.sqlite_rules.proofs.ListLemmas.{all_has}
use Rattle.sqlite_rules.proofs.RuleLemmas.{keeps_at}
use Rattle.sqlite_rules.proofs.ProbeLemmas.{mapped_has, has_mapped}
use Rattle.sqlite_rules.proofs.TableLemmas.{int_is}
use Rattle.sqlite_rules.proofs.PlaceLemmas.{tied_same}
use Rattle.sql_keeper.specs.inside.Schemas.{keeper_schema, the_cache, cache_delete}
use Rattle.sql_keeper.specs.inside.Databases.{IsKeyed, IsKeeperDatabase}
use Rattle.sql_keeper.specs.inside.Steps.{Makes, without_result}
use Rattle.keeper_core.specs.declared.tables.CacheKey.{CacheKey as Key}
use Rattle.keeper_core.specs.inside.KeyTies.{key_cmp_antisymmetric}
use Rattle.keeper_core.specs.Contents.{key_cmp_total}
use Rattle.sql_keeper.specs.Rows.{table_of, key_in, value_in, meta_in, name_in, literal_in, job_in}
use Rattle.keeper_core.specs.Contents.{Bytes, key_cmp}
use Rattle.value_core.specs.Orders.{bytes_cmp}
use Rattle.sql_keeper.proofs.Texts.{cache_delete_is, plain_program, simple, equals}
use Rattle.sql_keeper.proofs.Parts.{went, same_value, Deleted, deletes}
use Rattle.sql_keeper.proofs.Maps.{equal_is, removed}
use Rattle.sql_keeper.proofs.InputMap.{bytes_same, text_is}
use Rattle.sql_keeper.proofs.Selected.{Shows as Selects, shows}
use Rattle.sql_keeper.proofs.Rows.{plain_equal, equal_parts, equal_from, left_from, left_has, without_all_keyed, once}

pub blob_is : (v : Value) → is_of kind.Blob v ≡ true → is_null v ≡ false → v ≡ Blob (bytes v)
blob_is Null h p = absurd (cc)
blob_is (Int n) h p = absurd (cc)
blob_is (Real x) h p = absurd (cc)
blob_is (Text t) h p = absurd (cc)
blob_is (Blob b) h p = refl

pub record IsCached (r : Row) : Type 0 where
  pub op : column r 1 ≡ Text (key_in r).op
  pub khash : column r 2 ≡ Blob (key_in r).khash
  pub ckey : column r 3 ≡ Text (key_in r).ckey

cache_typed : (r : Row) → are_typed None 0 the_cache.columns (drop 1 r) ≡ true → are_present None 0 the_cache.columns r ≡ true → IsCached r
cache_typed [] t p = absurd (cc)
cache_typed (a ∷ []) t p = absurd (cc)
cache_typed (a ∷ b ∷ []) t p = absurd (let h = (and_parts (not (is_null b)) false p).1 in cc)
cache_typed (a ∷ b ∷ c ∷ []) t p = absurd (let h = (and_parts (not (is_null c)) false (and_parts (not (is_null b)) (not (is_null c) && false) p).1).1 in cc)
cache_typed (a ∷ b ∷ c ∷ d ∷ rest) t p =
    let typed = and_parts _ _ t in
    let second = and_parts _ _ typed.1 in
    let third = and_parts _ _ second.1 in
    let present = and_parts _ _ p in
    let next = and_parts _ _ present.1 in
    let last = and_parts _ _ next.1 in
    record { op = text_is b typed.0 (not-true _ present.0); khash = blob_is c second.0 (not-true _ next.0); ckey = text_is d third.0 (not-true _ last.0) }

module _ (db : Trees) (sound : IsDatabase (record { schema = keeper_schema; trees = db })) where
  pub cached_is : (r : Row) → Has (db 3) r → IsCached r
  cached_is r h =
      let typed = keeps_at Datatype keeper_schema db the_cache r (sound.obeys.rules Datatype) (inr (inr (inl refl))) h in
      let present = keeps_at NotNull keeper_schema db the_cache r (sound.obeys.rules NotNull) (inr (inr (inl refl))) h in
      cache_typed r (and_parts _ _ typed).0 present

pub texts_tie : (s t : Bytes) → s ≡ t → value_cmp (Text s) (Text t) ≡ Equal
texts_tie s t e = value_cmp-Text s t ∙ subst (λ u. bytes_cmp s u ≡ Equal) e (tied_itself nat_list_cmp_total s)

blobs_tie : (s t : Bytes) → s ≡ t → value_cmp (Blob s) (Blob t) ≡ Equal
blobs_tie s t e = value_cmp-Blob s t ∙ subst (λ u. bytes_cmp s u ≡ Equal) e (tied_itself nat_list_cmp_total s)

pub tied_texts : (s t : Bytes) → value_cmp (Text s) (Text t) ≡ Equal → s ≡ t
tied_texts s t e = bytes_same s t (sym (value_cmp-Text s t) ∙ e)

pub tied_blobs : (s t : Bytes) → value_cmp (Blob s) (Blob t) ≡ Equal → s ≡ t
tied_blobs s t e = bytes_same s t (sym (value_cmp-Blob s t) ∙ e)

pub agree_keys : (r s : Row) → IsCached r → IsCached s → key_in r ≡ key_in s → agree plain (1 ∷ 2 ∷ 3 ∷ []) r (1 ∷ 2 ∷ 3 ∷ []) s ≡ true
agree_keys r s p q e =
    let one : value_cmp (column r 1) (column s 1) ≡ Equal = rw (p.op, q.op) (texts_tie _ _ (ap (λ (k : Key). k.op) e)) in
    let two : value_cmp (column r 2) (column s 2) ≡ Equal = rw (p.khash, q.khash) (blobs_tie _ _ (ap (λ (k : Key). k.khash) e)) in
    let three : value_cmp (column r 3) (column s 3) ≡ Equal = rw (p.ckey, q.ckey) (texts_tie _ _ (ap (λ (k : Key). k.ckey) e)) in
    and_from _ _ (plain_equal (column r 1) (column s 1) (rw p.op) (rw q.op) one)
    (and_from _ _ (plain_equal (column r 2) (column s 2) (rw p.khash) (rw q.khash) two)
    (and_from _ _ (plain_equal (column r 3) (column s 3) (rw p.ckey) (rw q.ckey) three) refl))

pub sharing : (r s : Row) → agree plain (1 ∷ 2 ∷ 3 ∷ []) r (1 ∷ 2 ∷ 3 ∷ []) s ≡ true → list_any (shares None the_cache s r) keeper_schema.indexes ≡ true
sharing r s h = or_left _ _ h

-- ---- the rows that the text names

abbrev asked : List Term
asked = equals (col 1 1) (col 0 0) ∷ equals (col 1 2) (col 0 1) ∷ equals (col 1 3) (col 0 2) ∷ []

abbrev params_of : Key → Row
params_of k = Text k.op ∷ Blob k.khash ∷ Text k.ckey ∷ []

abbrev named : Key → Row → Bool
named k r = list_all (holds (params_of k ∷ r ∷ [])) asked

names : (k : Key) (r : Row) → IsCached r → key_in r ≡ k → named k r ≡ true
names k r p e =
    let one : value_cmp (column r 1) (Text k.op) ≡ Equal = rw p.op (texts_tie _ _ (ap (λ (k : Key). k.op) e)) in
    let two : value_cmp (column r 2) (Blob k.khash) ≡ Equal = rw p.khash (blobs_tie _ _ (ap (λ (k : Key). k.khash) e)) in
    let three : value_cmp (column r 3) (Text k.ckey) ≡ Equal = rw p.ckey (texts_tie _ _ (ap (λ (k : Key). k.ckey) e)) in
    and_from _ _ (equal_from Binary (column r 1) (Text k.op) (rw p.op) refl one)
    (and_from _ _ (equal_from Binary (column r 2) (Blob k.khash) (rw p.khash) refl two)
    (and_from _ _ (equal_from Binary (column r 3) (Text k.ckey) (rw p.ckey) refl three) refl))

is_named : (k : Key) (r : Row) → IsCached r → named k r ≡ true → key_in r ≡ k
is_named k r p h =
    let first = and_parts (equal Binary (column r 1) (Text k.op)) (equal Binary (column r 2) (Blob k.khash) && (equal Binary (column r 3) (Text k.ckey) && true)) h in
    let second = and_parts (equal Binary (column r 2) (Blob k.khash)) (equal Binary (column r 3) (Text k.ckey) && true) first.1 in
    let third = and_parts (equal Binary (column r 3) (Text k.ckey)) true second.1 in
    let a = tied_texts (key_in r).op k.op (rw p.op at (equal_parts Binary _ _ first.0)) in
    let b = tied_blobs (key_in r).khash k.khash (rw p.khash at (equal_parts Binary _ _ second.0)) in
    let c = tied_texts (key_in r).ckey k.ckey (rw p.ckey at (equal_parts Binary _ _ third.0)) in
    λ i. record { op = a i; khash = b i; ckey = c i }

module _ (db : Trees) (sound : IsDatabase (record { schema = keeper_schema; trees = db })) (keyed : IsKeyed (db 3)) (k : Key) (found : List Row)
    (is : Selects 3 asked (col 1 0 ∷ []) (params_of k) (record { schema = keeper_schema; trees = db }) found refl) where
  abbrev ids : List ℤ
  ids = ids_of found

  gone : (x : Row) → Has (db 3) x → key_in x ≡ k → ((id : ℤ) → Has ids id → has_rowid id x ≡ false) → ⊥
  gone x h e lacks =
      let f = is.complete x h (names k x (cached_is db sound x h) e) in
      let id = mapped_has (λ (r : Row). id_in (rowid r)) found (rowid x ∷ []) f in
      let i = int_is (rowid x) (all_has _ (db 3) x keyed.ints h) in
      let hit : has_rowid (id_in (rowid x)) x ≡ true = subst (λ v. is_eq (value_cmp (rowid x) v) ≡ true) i (ap is_eq (tied_itself value_cmp_total (rowid x))) in
      let miss = lacks (id_in (rowid x)) id in cc

  stays : (x : Row) → Has (db 3) x → key_in x ≢ k → (id : ℤ) → Has ids id → has_rowid id x ≡ false
  stays x h apart id j = false_from_ne_true _ (λ hit.
      let f = has_mapped (λ (r : Row). id_in (rowid r)) found id j in
      let r = is.sound f.0 f.1 in
      let n = int_is (rowid r.0) (all_has _ (db 3) r.0 keyed.ints r.1) in
      let e : Int id ≡ rowid r.0 = ap Int (f.2 ∙ ap (λ (y : Row). id_in (rowid y)) r.3) ∙ sym n in
      let tie : value_cmp (rowid x) (rowid r.0) ≡ Equal = subst (λ v. value_cmp (rowid x) v ≡ Equal) e (equal_is _ hit) in
      let one = tied_same (db 3) x r.0 keyed.rises h r.1 tie in
      apart (ap key_in one ∙ is_named k r.0 (cached_is db sound r.0 r.1) r.2))

  key_shared : (r s : Row) → Has (db 3) r → Has (db 3) s → key_in r ≡ key_in s → list_any (shares None the_cache s r) keeper_schema.indexes ≡ true
  key_shared r s h j e = sharing r s (agree_keys r s (cached_is db sound r h) (cached_is db sound s j) e)

  unique : (r : Row) → Has (db 3) r → list_all (λ i. not (guards i the_cache && clashes i.order i.columns (db 3) r)) keeper_schema.indexes ≡ true
  unique r h = keeps_at Unique keeper_schema db the_cache r (sound.obeys.rules Unique) (inr (inr (inl refl))) h

  pub removed_map : table_of key_cmp key_in value_in (without_all (db 3) ids) ≡ remove (table_of key_cmp key_in value_in (db 3)) k
  removed_map = removed key_cmp_total key_cmp_antisymmetric key_in value_in (db 3) (without_all (db 3) ids) (once key_cmp_total key_cmp_antisymmetric key_in value_in keeper_schema the_cache (db 3) keyed key_shared unique) k
      (λ x h. let f = left_from ids (db 3) x h in (f.0, λ e. gone x f.0 e f.1)) (λ x h apart. left_has ids (db 3) x h (stays x h apart))

-- ---- the text

pub cache_delete_plain : IsPlain (understood keeper_schema cache_delete)
unfolding understood everything
cache_delete_plain = (refl, refl)

pub key_removed : (old new : State) (k : Key) (count : ℕ) → IsKeeperDatabase old.now → IsTrue old.in_transaction → Executes cache_delete (params_of k) old new (Ok count) → Makes (without_result k) old new
key_removed old new k count database inside h =
    let params = params_of k in
    let db = old.now.trees in
    let q : Program = plain_program (simple 3 asked (col 1 0 ∷ [])) in
    let command = Delete 2 q in
    let w = runs_as cache_delete params old new keeper_schema database.schema command cache_delete_is cache_delete_plain count h in
    let text = statement_of cache_delete (understood keeper_schema cache_delete) in
    let done = went (subst (λ s. Does old.step_limit (mode_of old) params (record old.now { schema = s }) text None command (Ok (w.tally, new.now))) database.schema w.changed) in
    let task : Task = record { limit = old.step_limit; keys = (mode_of old).keys; schema = keeper_schema; table = the_cache; params = params } in
    let now : new.now ≡ record { schema = keeper_schema; trees = done.0.trees } = ap (λ (p : Tally × Database). p.1) (same_value (went (went done.2).2).2) in
    let it : Deleted task (λ olds news. refl) q db new.now.trees = subst (λ (d : Database). Deleted task (λ olds news. refl) q db d.trees) (sym now) (deletes task (λ olds news. refl) db q done.0 done.1) in
    let sound : IsDatabase (record { schema = keeper_schema; trees = db }) = subst (λ s. IsDatabase (record { schema = s; trees = db })) database.schema database.sound in
    let chosen = shows 3 asked (col 1 0 ∷ []) params (record { schema = keeper_schema; trees = db }) it.found refl it.answers in
    let same = λ (t : ℕ) (other : t ≢ 3) (one : 2 ≢ t) (two : 4 ≢ t). it.others t other (one, (two, tt)) in
    let meta = same 0 (λ e. omega arith) (λ e. omega arith) (λ e. omega arith) in
    let inputs = same 1 (λ e. omega arith) (λ e. omega arith) (λ e. omega arith) in
    let logs = same 5 (λ e. omega arith) (λ e. omega arith) (λ e. omega arith) in
    record {
      is_open = w.shown.is_open;
      database = record {
        schema = ap (λ (d : Database). d.schema) now;
        sound = w.sound;
        meta = subst IsKeyed (sym meta) database.meta;
        inputs = subst IsKeyed (sym inputs) database.inputs;
        cache = subst IsKeyed (sym it.rows) (without_all_keyed (ids_of it.found) (db 3) database.cache);
        logs = subst IsKeyed (sym logs) database.logs;
      };
      contents = λ i. record {
        meta = ap (map meta_in) meta i;
        inputs = ap (table_of bytes_cmp name_in literal_in) inputs i;
        cache = (ap (table_of key_cmp key_in value_in) it.rows ∙ removed_map db sound database.cache k it.found chosen) i;
        logs = ap (table_of int_cmp job_in literal_in) logs i;
      };
      inside = w.shown.mode ∙ inside;
      kept = w.shown.committed_is ∙ ap (λ b. if b then old.committed else new.now) inside;
    }

pub key_inside : (old new : State) (k : Key) (r : Result ℕ Error) → IsKeeperDatabase old.now → IsTrue old.in_transaction → ExecutesInside 0 cache_delete (params_of k) old new r → OnOk r (Makes (without_result k) old new)
key_inside old new k (Ok count) database inside h = key_removed old new k count database inside h.0
key_inside old new k (Err e) database inside h = tt
