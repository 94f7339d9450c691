-- The rows of the results of the first schema, and what the query of them shows.
use Rattle.std.proofs.Common.{◌≡◌, inl, inr, ℕ, zero, suc, Bool, true, false, ◌&&◌, List, [], ◌∷◌, drop, map, codes, slice_get, Some, None, refl, ap, subst, ◌∙◌}
use Rattle.std.proofs.lemmas.Bool.{and_from, and_parts, not-true, or_left}
use Rattle.std.specs.List.{list_any}
use Rattle.std.specs.Ordering.{ordering_then}
use Rattle.sqlite.specs.Order.{Row, bytes, column, value_cmp}
use Rattle.sqlite.specs.declared.types.Value.TheVariants.{Int, Text}
use Rattle.sqlite.specs.Command.TheVariants.{Select}
use Rattle.sqlite.specs.Edit.{id_in}
use Rattle.sqlite.specs.Effect.{Answers, IsDatabase}
use Rattle.sqlite.specs.Kind.TheVariants as kind
use Rattle.sqlite.specs.Listing.{reads_listing, understood}
use Rattle.sqlite.specs.Query.{Output}
use Rattle.sqlite.specs.State.{Shown, State}
use Rattle.sqlite.specs.Term.{Term, col}
use Rattle.sqlite.specs.Tree.{Trees}
use Rattle.sqlite.proofs.Callers.{IsPlain, command_of, reads_as}
use Rattle.sqlite_schema.specs.Rules.{agree, are_present, are_typed}
use Rattle.sqlite_schema.specs.declared.program.Program.{Program}
use Rattle.sqlite_schema.specs.declared.schema.Column.{Column}
use Rattle.sqlite_schema.specs.declared.schema.Constraint.TheVariants.{Datatype, NotNull, Unique}
use Rattle.sqlite_rules.specs.Keys.{shares}
use Rattle.sqlite_rules.specs.Lists.{Has}
use Rattle.sqlite_rules.proofs.RuleLemmas.{keeps_at}
use Rattle.sqlite_keyed.proofs.ListLemmas.{map-map}
use Rattle.sqlite_tied.specs.Compute.{everything}
use Rattle.sqlite.specs.Collation.TheVariants.{Binary}
use Rattle.sqlite_value.specs.Keys.{ascending, plain}
use Rattle.sqlite_value.specs.declared.keys.Key.{Key as SortKey}
use Rattle.sqlite_value.proofs.OrderLemmas.{then-Equal, value_cmp-Text}
use Rattle.keeper_core.specs.declared.tables.CacheValue.{CacheValue}
use Rattle.keeper_core.specs.declared.tables.OldCacheKey.{OldCacheKey}
use Rattle.keeper_core.specs.declared.tables.OldCacheRow.{OldCacheRow}
use Rattle.keeper_core.specs.Contents.{old_cache_row, old_key_cmp_total}
use Rattle.keeper_core.specs.inside.KeyTies.{old_key_cmp_antisymmetric}
use Rattle.std.specs.FinMap.{entries}
use Rattle.sql_keeper.specs.Rows.{old_contents, old_key_in, old_value_in}
use Rattle.sql_keeper.specs.inside.Schemas.{old_cache_select, old_schema, the_old_cache}
use Rattle.sql_keeper.specs.inside.Databases.{IsKeyed, IsStoreDatabase}
use Rattle.sql_keeper.specs.inside.ShownRows.{old_result_shown}
use Rattle.sql_keeper.specs.inside.Steps.{Says}
use Rattle.sql_keeper.proofs.CacheMap.{texts_tie}
use Rattle.sql_keeper.proofs.InputMap.{text_is}
use Rattle.sql_keeper.proofs.MetaRows.{int_of}
use Rattle.sql_keeper.proofs.Ordered.{apart_from, ordered, reads_entries}
use Rattle.sql_keeper.proofs.Rows.{once, plain_equal}
use Rattle.sql_keeper.proofs.Texts.{plain_program}
use Rattle.sql_keeper.proofs.Typed.{present, typed_column}

abbrev by : ℕ → Term × SortKey
by i = (col 1 i, ascending Binary)

abbrev project : List Term
project = col 1 1 ∷ col 1 2 ∷ col 1 3 ∷ col 1 4 ∷ col 1 5 ∷ col 1 6 ∷ col 1 7 ∷ col 1 8 ∷ []

abbrev query : Program
query = plain_program (ordered 3 project (by 1 ∷ by 2 ∷ []))

select_is : command_of (understood old_schema old_cache_select)
    ≡ Select query (codes "op" ∷ codes "ckey" ∷ codes "cvalue" ∷ codes "fine" ∷ codes "result" ∷ codes "finished" ∷ codes "job" ∷ codes "rebuild" ∷ [])
unfolding understood everything
select_is = refl

pub old_cache_plain : IsPlain (understood old_schema old_cache_select)
unfolding understood everything
old_cache_plain = (refl, refl)

unlisted : reads_listing old_schema old_cache_select ≡ false
unfolding understood everything
unlisted = refl

-- ---- the columns of a row

module _ (db : Trees) (sound : IsDatabase (record { schema = old_schema; trees = db })) (r : Row) (h : Has (db 3) r) where
  typed : are_typed None 0 the_old_cache.columns (drop 1 r) ≡ true
  typed = (and_parts _ _ (keeps_at Datatype old_schema db the_old_cache r (sound.obeys.rules Datatype) (inr (inr (inl refl))) h)).0

  all_present : are_present None 0 the_old_cache.columns r ≡ true
  all_present = keeps_at NotNull old_schema db the_old_cache r (sound.obeys.rules NotNull) (inr (inr (inl refl))) h

  text_at : (i : ℕ) (c : Column) → slice_get the_old_cache.columns i ≡ Some c → c.is_strict ≡ true → c.kind ≡ kind.Text → present (suc i) r ≡ true → column r (suc i) ≡ Text (bytes (column r (suc i)))
  text_at i c is strict of there =
      let full = not-true _ there in
      text_is _ (rw (strict, of) at (typed_column the_old_cache.columns r typed i c is full)) full

  int_at : (i : ℕ) (c : Column) → slice_get the_old_cache.columns i ≡ Some c → c.is_strict ≡ true → c.kind ≡ kind.Integer → present (suc i) r ≡ true → column r (suc i) ≡ Int (id_in (column r (suc i)))
  int_at i c is strict of there =
      let full = not-true _ there in
      int_of _ (rw (strict, of) at (typed_column the_old_cache.columns r typed i c is full)) full

  -- so many columns from one on are there
  abbrev present_from : ℕ → ℕ → Bool
  present_from zero i = true
  present_from (suc n) i = present i r && present_from n (suc i)

  pub record HasColumns : Type 0 where
    pub op : column r 1 ≡ Text (old_key_in r).op
    pub ckey : column r 2 ≡ Text (old_key_in r).ckey
    pub cvalue : column r 3 ≡ Text (old_value_in r).cvalue
    pub fine : column r 4 ≡ Int (old_value_in r).fine
    pub result : column r 5 ≡ Text (old_value_in r).result
    pub finished : column r 6 ≡ Int (old_value_in r).finished
    pub job : column r 7 ≡ Int (old_value_in r).job
    pub rebuild : column r 8 ≡ Int (old_value_in r).rebuild

  pub columns_are : HasColumns
  columns_are =
      let p1 = and_parts (present 1 r) (present_from 7 2) all_present in
      let p2 = and_parts (present 2 r) (present_from 6 3) p1.1 in
      let p3 = and_parts (present 3 r) (present_from 5 4) p2.1 in
      let p4 = and_parts (present 4 r) (present_from 4 5) p3.1 in
      let p5 = and_parts (present 5 r) (present_from 3 6) p4.1 in
      let p6 = and_parts (present 6 r) (present_from 2 7) p5.1 in
      let p7 = and_parts (present 7 r) (present_from 1 8) p6.1 in
      let p8 = and_parts (present 8 r) true p7.1 in
      record {
        op = text_at 0 _ refl refl refl p1.0;
        ckey = text_at 1 _ refl refl refl p2.0;
        cvalue = text_at 2 _ refl refl refl p3.0;
        fine = int_at 3 _ refl refl refl p4.0;
        result = text_at 4 _ refl refl refl p5.0;
        finished = int_at 5 _ refl refl refl p6.0;
        job = int_at 6 _ refl refl refl p7.0;
        rebuild = int_at 7 _ refl refl refl p8.0;
      }

-- ---- rows with one key are one row

module _ (db : Trees) (sound : IsDatabase (record { schema = old_schema; trees = db })) where
  agree_keys : (r s : Row) (h : Has (db 3) r) (j : Has (db 3) s) → HasColumns db sound r h → HasColumns db sound s j → old_key_in r ≡ old_key_in s → agree plain (1 ∷ 2 ∷ []) r (1 ∷ 2 ∷ []) s ≡ true
  agree_keys r s h j p q e =
      let one : value_cmp (column r 1) (column s 1) ≡ _ = rw (p.op, q.op) (texts_tie _ _ (ap (λ (k : OldCacheKey). k.op) e)) in
      let two : value_cmp (column r 2) (column s 2) ≡ _ = rw (p.ckey, q.ckey) (texts_tie _ _ (ap (λ (k : OldCacheKey). k.ckey) e)) in
      and_from _ _ (plain_equal (column r 1) (column s 1) (rw p.op) (rw q.op) one)
      (and_from _ _ (plain_equal (column r 2) (column s 2) (rw p.ckey) (rw q.ckey) two) refl)

  shared : (r s : Row) → Has (db 3) r → Has (db 3) s → old_key_in r ≡ old_key_in s → list_any (shares None the_old_cache s r) old_schema.indexes ≡ true
  shared r s h j e = or_left _ _ (agree_keys r s h j (columns_are db sound r h) (columns_are db sound s j) e)

  one_result : IsKeyed (db 3) → (a b : Row) → Has (db 3) a → Has (db 3) b → old_key_in a ≡ old_key_in b → a ≡ b
  one_result keyed = once old_key_cmp_total old_key_cmp_antisymmetric old_key_in old_value_in old_schema the_old_cache (db 3) keyed shared
      (λ r h. keeps_at Unique old_schema db the_old_cache r (sound.obeys.rules Unique) (inr (inr (inl refl))) h)

abbrev out : OldCacheKey × CacheValue → Output
out e = (
  Text e.0.op ∷ Text e.0.ckey ∷ [],
  Text e.0.op ∷ Text e.0.ckey ∷ Text e.1.cvalue ∷ Int e.1.fine ∷ Text e.1.result ∷ Int e.1.finished ∷ Int e.1.job ∷ Int e.1.rebuild ∷ [],
)

module _ (old new : State) (database : IsStoreDatabase true old.now) where
  abbrev db : Trees
  db = old.now.trees

  sound : IsDatabase (record { schema = old_schema; trees = old.now.trees })
  sound = subst (λ s. IsDatabase (record { schema = s; trees = old.now.trees })) database.schema database.sound

  found : (rows : List Row) → Shown old_cache_select [] old new rows → rows ≡ map (λ e. (out e).1) (entries (old_contents db).cache)
  found rows h =
      let answers : Answers old.now query [] rows = reads_as old_cache_select [] old new old_schema database.schema _ select_is old_cache_plain unlisted rows h in
      reads_entries old_key_cmp_total old_key_cmp_antisymmetric old_key_in old_value_in 3 project (by 1 ∷ by 2 ∷ []) out old.now rows refl answers
      (λ r at. let v = columns_are db sound r at in λ i. (v.op i ∷ v.ckey i ∷ [], v.op i ∷ v.ckey i ∷ v.cvalue i ∷ v.fine i ∷ v.result i ∷ v.finished i ∷ v.job i ∷ v.rebuild i ∷ []))
      (λ a b.
      let op = value_cmp-Text a.0.op b.0.op in
      let ckey = then-Equal (value_cmp (Text a.0.ckey) (Text b.0.ckey)) ∙ value_cmp-Text a.0.ckey b.0.ckey in
      λ i. ordering_then (op i) (ckey i))
      (apart_from old_key_cmp_total old_key_cmp_antisymmetric old_key_in old_value_in (db 3) (db 3) database.cache.rises (λ r at. at) (one_result db sound database.cache))

  pub old_results_loaded : (items : List OldCacheRow) → Says old_result_shown old_cache_select old new items → items ≡ map old_cache_row (entries (old_contents db).cache)
  old_results_loaded items says = says.2 ∙ ap (map old_result_shown) (found says.0 says.1) ∙ map-map old_result_shown (λ (e : OldCacheKey × CacheValue). (out e).1) (entries (old_contents db).cache)
