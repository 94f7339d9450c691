-- Fresh tables that were filled with the rows of the first schema are the moved tables.
use Rattle.std.proofs.Common.{◌≡◌, inl, inr, ℤ, pos, Bool, true, false, cond, List, [], ◌∷◌, map, Option, Some, None, Ordering, Less, Equal, Greater, IsTrue, refl, sym, ap, subst, ◌∙◌}
use Rattle.std.specs.Cmp.{IsTotalOrder, int_cmp_total}
use Rattle.std.specs.Cmp.Lexicographic.{nat_list_cmp_total}
use Rattle.std.specs.FinMap.{FinMap, IsAntisymmetric, empty, entries, entries_sorted, find, from_entries, get, get-empty, get-entries, get-from_entries, get-insert, insert, int_cmp-IsAntisymmetric, same_map}
use Rattle.std.specs.List.{AllByRecursion}
use Rattle.std.specs.Ordering.{eq_by_cmp, int_cmp, ordering_then}
use Rattle.sqlite.specs.Tree.{IsAscending}
use Rattle.keeper_core.specs.declared.tables.CacheValue.{CacheValue}
use Rattle.keeper_core.specs.declared.tables.MetaRow.{MetaRow}
use Rattle.keeper_core.specs.declared.tables.OldCacheKey.{OldCacheKey}
use Rattle.keeper_core.specs.Contents.{Bytes, Contents, OldContents, fresh, input_row, old_rows, key_cmp, key_cmp_total, old_cache_row, old_key_cmp}
use Rattle.keeper_core.specs.Migrations.{hashed, moved, with_format, with_hash}
use Rattle.sqlite.specs.Edit.{id_in}
use Rattle.sqlite.specs.Effect.{IsDatabase}
use Rattle.sqlite.specs.Order.{Row, value_cmp}
use Rattle.sqlite.specs.State.{State}
use Rattle.sqlite.specs.Tree.{rowid}
use Rattle.sqlite.specs.View.{is_int}
use Rattle.sqlite.specs.declared.types.Value.TheVariants.{Int}
use Rattle.sqlite_rules.specs.Lists.{Has}
use Rattle.sqlite_rules.proofs.TableLemmas.{int_is}
use Rattle.sqlite_value.proofs.OrderLemmas.{value_cmp-Int}
use Rattle.keeper_core.specs.WellFormed.{is_meta, next_of, old_first_bad}
use Rattle.sql_keeper.specs.Rows.{meta_in, old_contents}
use Rattle.sql_keeper.specs.declared.first.OldStore.{OldStore}
use Rattle.sql_keeper.specs.inside.Databases.{IsStoreDatabase}
use Rattle.sql_keeper.specs.inside.Schemas.{old_schema}
use Rattle.sql_keeper.proofs.MetaRows.{is_one}
use Rattle.keeper_core.specs.inside.KeyTies.{key_cmp_antisymmetric}
use Rattle.value_core.specs.Orders.{bytes_cmp}
use Rattle.sql_keeper.specs.inside.Moving.{store_of, with_inputs, with_logs, with_old_results, with_store}
use Rattle.sql_keeper.specs.inside.ShownRows.{log_row}
use Rattle.sql_keeper.specs.inside.Steps.{with_next_job}
use Rattle.sql_keeper.proofs.InputMap.{bytes_same}
use Rattle.sql_keeper.proofs.Maps.{equal_is}
use Rattle.sql_keeper.proofs.Ordered.{rising}

find_below : {K V : Type 0} (R : K → K → Ordering) (k : K) (es : List (K × V)) → AllByRecursion (λ e. R k e.0 ≡ Less) es → find R k es ≡ None
find_below R k [] all = refl
find_below R k (e ∷ es) all = rw (all.0) (find_below R k es all.1)

abbrev either : {V : Type 0} → Option V → Option V → Option V
either (Some v) o = Some v
either None o = o

none_else : {V : Type 0} (f : Option V) → either f None ≡ f
none_else None = refl
none_else (Some v) = refl

module _ {K V : Type 0} {R : K → K → Ordering} where
  -- with each entry put in turn
  abbrev put_each : List (K × V) → FinMap R V → FinMap R V
  put_each [] m = m
  put_each (e ∷ es) m = put_each es (insert m e.0 e.1)

  got : (o : IsTotalOrder R) → IsAntisymmetric R → (es : List (K × V)) → IsAscending (λ a b. R a.0 b.0 ≡ Less) es → (m : FinMap R V) (q : K) → get (put_each es m) q ≡ either (find R q es) (get m q)
  got o same [] up m q = refl
  got o same (e ∷ es) up m q = got o same es up.1 (insert m e.0 e.1) q ∙ ap (either (find R q es)) (get-insert o m e.0 e.1 q) ∙ go (eq_by_cmp R q e.0) refl
    where
      go : (b : Bool) → eq_by_cmp R q e.0 ≡ b → either (find R q es) (cond b (Some e.1) (get m q)) ≡ either (cond b (Some e.1) (find R q es)) (get m q)
      go true is =
          let tie : q ≡ e.0 = same q e.0 (equal_is _ is) in
          let none : find R q es ≡ None = ap (λ k. find R k es) tie ∙ find_below R e.0 es up.0 in
          ap (λ f. either f (Some e.1)) none
      go false is = refl

  pub put_all_is : (o : IsTotalOrder R) → IsAntisymmetric R → (es : List (K × V)) → IsAscending (λ a b. R a.0 b.0 ≡ Less) es → put_each es empty ≡ from_entries es
  put_all_is o same es up = same_map o same _ _ (λ q.
      got o same es up empty q ∙ ap (either (find R q es)) (get-empty R q) ∙ none_else (find R q es) ∙ sym (get-from_entries o es q))

  pub entries_map : (o : IsTotalOrder R) → IsAntisymmetric R → (m : FinMap R V) → from_entries (entries m) ≡ m
  entries_map o same m = same_map o same _ _ (λ q. get-from_entries o (entries m) q ∙ sym (get-entries m q))

-- ---- results stay in order under their keys with their hashes

less_then : (a b c : Ordering) → ordering_then a b ≡ Less → ordering_then a (ordering_then b c) ≡ Less
less_then Less b c e = refl
less_then Equal Less c e = refl
less_then Equal Equal c e = absurd (cc)
less_then Equal Greater c e = absurd (cc)
less_then Greater b c e = absurd (cc)

above_hashed : (k : OldCacheKey) (es : List (OldCacheKey × CacheValue)) → AllByRecursion (λ e. old_key_cmp k e.0 ≡ Less) es → AllByRecursion (λ e. key_cmp (with_hash k) e.0 ≡ Less) (map hashed es)
above_hashed k [] all = tt
above_hashed k (e ∷ es) all = (less_then (bytes_cmp k.op e.0.op) (bytes_cmp k.ckey e.0.ckey) _ all.0, above_hashed k es all.1)

rising_hashed : (es : List (OldCacheKey × CacheValue)) → IsAscending (λ a b. old_key_cmp a.0 b.0 ≡ Less) es → IsAscending (λ a b. key_cmp a.0 b.0 ≡ Less) (map hashed es)
rising_hashed [] up = tt
rising_hashed (e ∷ es) up = (above_hashed e.0 es up.0, rising_hashed es up.1)

-- ---- each table

inputs_put : (es : List (Bytes × Bytes)) (t : Contents) → with_inputs (map input_row es) t ≡ record t { inputs = put_each es t.inputs }
inputs_put [] t = refl
inputs_put (e ∷ es) t = inputs_put es (record t { inputs = insert t.inputs e.0 e.1 })

results_put : (es : List (OldCacheKey × CacheValue)) (t : Contents) → with_old_results (map old_cache_row es) t ≡ record t { cache = put_each (map hashed es) t.cache }
results_put [] t = refl
results_put (e ∷ es) t = results_put es (record t { cache = insert t.cache (with_hash e.0) e.1 })

logs_put : (es : List (ℤ × Bytes)) (t : Contents) → with_logs (map log_row es) t ≡ record t { logs = put_each es t.logs }
logs_put [] t = refl
logs_put (e ∷ es) t = logs_put es (record t { logs = insert t.logs e.0 e.1 })

meta_same : (rows : List MetaRow) → is_meta (pos 1) rows ≡ true → AllByRecursion (λ m. m.id ≡ pos 1) rows → (with_next_job (next_of rows) fresh).meta ≡ map with_format rows
meta_same [] is one = absurd (cc)
meta_same (m ∷ []) is one = λ i. record { id = sym one.0 i; format = pos 2; next_job = m.next_job } ∷ []
meta_same (m ∷ n ∷ ms) is one = absurd (cc)

pub moved_is : (t : OldContents) → is_meta (pos 1) t.meta ≡ true → AllByRecursion (λ m. m.id ≡ pos 1) t.meta → with_store (store_of t) fresh ≡ moved t
moved_is t is one =
    let numbered = with_next_job (next_of t.meta) fresh in
    let inputs = put_all_is nat_list_cmp_total bytes_same (entries t.inputs) (rising bytes_cmp (entries t.inputs) (entries_sorted t.inputs)) ∙ entries_map nat_list_cmp_total bytes_same t.inputs in
    let cache = put_all_is key_cmp_total key_cmp_antisymmetric (map hashed (entries t.cache)) (rising_hashed (entries t.cache) (rising old_key_cmp (entries t.cache) (entries_sorted t.cache))) in
    let logs = put_all_is int_cmp_total int_cmp-IsAntisymmetric (entries t.logs) (rising int_cmp (entries t.logs) (entries_sorted t.logs)) ∙ entries_map int_cmp_total int_cmp-IsAntisymmetric t.logs in
    let meta = meta_same t.meta is one in
    logs_put (entries t.logs) _
    ∙ ap (λ (c : Contents). record c { logs = put_each (entries t.logs) c.logs }) (results_put (entries t.cache) _ ∙ ap (λ (c : Contents). record c { cache = put_each (map hashed (entries t.cache)) c.cache }) (inputs_put (entries t.inputs) numbered))
    ∙ λ i. record { meta = meta i; inputs = inputs i; cache = cache i; logs = logs i }

-- ---- what a migration makes of the trees

-- a first bad row that isn't there says that meta is well formed
meta_sound : (t : OldContents) → old_first_bad (old_rows t) ≡ None → is_meta (pos 1) t.meta ≡ true
meta_sound t none = go (is_meta (pos 1) t.meta) refl none
  where
    go : (b : Bool) → is_meta (pos 1) t.meta ≡ b → old_first_bad (old_rows t) ≡ None → is_meta (pos 1) t.meta ≡ true
    go true is h = is
    go false is h = absurd (let e = rw is at h in cc)

ids_are : (rows : List Row) → ((r : Row) → Has rows r → value_cmp (rowid r) (Int (pos 1)) ≡ Equal) → AllByRecursion (λ r. IsTrue (is_int (rowid r))) rows → AllByRecursion (λ m. m.id ≡ pos 1) (map meta_in rows)
ids_are [] one ints = tt
ids_are (r ∷ rows) one ints =
    let n = int_is (rowid r) ints.0 in
    let tie : value_cmp (Int (id_in (rowid r))) (Int (pos 1)) ≡ Equal = subst (λ v. value_cmp v (Int (pos 1)) ≡ Equal) n (one r (inl refl)) in
    (int_cmp-IsAntisymmetric (id_in (rowid r)) (pos 1) (sym (value_cmp-Int (id_in (rowid r)) (pos 1)) ∙ tie), ids_are rows (λ x h. one x (inr h)) ints.1)

pub moved_contents : (old : State) (store : OldStore) → IsStoreDatabase true old.now → store ≡ store_of (old_contents old.now.trees) → old_first_bad store.tables ≡ None
    → with_store store fresh ≡ moved (old_contents old.now.trees)
moved_contents old store database is none =
    let t = old_contents old.now.trees in
    let sound : IsDatabase (record { schema = old_schema; trees = old.now.trees }) = subst (λ s. IsDatabase (record { schema = s; trees = old.now.trees })) database.schema database.sound in
    let first : old_first_bad (old_rows t) ≡ None = subst (λ (s : OldStore). old_first_bad s.tables ≡ None) is none in
    let ids = ids_are (old.now.trees 0) (is_one old_schema (inl refl) old.now.trees sound database.meta) database.meta.ints in
    ap (λ s. with_store s fresh) is ∙ moved_is t (meta_sound t first) ids
