-- What the queries of a load show is what the contents are.
use Rattle.std.proofs.Common.{◌≡◌, ◌⊎◌, inl, inr, ℕ, ℤ, Bool, true, List, [], ◌∷◌, map, codes, false, None, refl, sym, ap, subst, ◌∙◌, arith}
use Rattle.std.proofs.lemmas.Bool.{or_left}
use Rattle.std.specs.List.{list_any}
use Rattle.std.specs.Cmp.{int_cmp_total}
use Rattle.std.specs.Cmp.Lexicographic.{nat_list_cmp_total}
use Rattle.std.specs.FinMap.{entries, int_cmp-IsAntisymmetric, keys}
use Rattle.std.specs.Ordering.{ordering_then}
use Rattle.sqlite.specs.Order.{Row, column, value_cmp}
use Rattle.sqlite.specs.declared.types.Value.TheVariants.{Null, Int, Text, Blob}
use Rattle.sqlite.specs.Tree.{Trees, rowid}
use Rattle.sqlite.specs.Term.{Term, col}
use Rattle.sqlite.specs.Query.{IsAnswer, Output, output}
use Rattle.sqlite.specs.Command.TheVariants.{Select}
use Rattle.sqlite.specs.Collation.TheVariants.{Binary}
use Rattle.sqlite.specs.Effect.{Answers, IsDatabase}
use Rattle.sqlite.specs.Listing.{reads_listing, understood}
use Rattle.sqlite.specs.State.{Shown, State}
use Rattle.sqlite.proofs.Callers.{IsPlain, command_of, one_permutation, reads_as}
use Rattle.sqlite.specs.Program.{overlay}
use Rattle.sqlite_schema.specs.declared.program.Program.{Program}
use Rattle.sqlite_schema.specs.declared.schema.Constraint.TheVariants.{Unique}
use Rattle.sqlite_rules.proofs.RuleLemmas.{keeps_at}
use Rattle.std.specs.List.Sorted.{IsPermutation}
use Rattle.std.proofs.lemmas.List.Sorted.{length_permutation}
use Rattle.keeper_core.specs.declared.tables.CacheRow.{CacheRow}
use Rattle.keeper_core.specs.declared.tables.InputRow.{InputRow}
use Rattle.keeper_core.specs.declared.tables.MetaRow.{MetaRow}
use Rattle.sqlite_keyed.proofs.ListLemmas.{map-map}
use Rattle.sqlite_rules.specs.Keys.{shares}
use Rattle.sqlite_rules.specs.Lists.{Has}
use Rattle.sqlite_rules.proofs.ListLemmas.{all_has}
use Rattle.sqlite_rules.proofs.PlaceLemmas.{tied_same}
use Rattle.sqlite_rules.proofs.TableLemmas.{int_is}
use Rattle.sqlite_tied.specs.Compute.{everything}
use Rattle.sqlite_schema.specs.Rules.{agree}
use Rattle.sqlite_value.specs.Keys.{ascending, plain}
use Rattle.sqlite_value.specs.declared.keys.Key.{Key as SortKey}
use Rattle.sqlite_value.proofs.OrderLemmas.{then-Equal, value_cmp-Blob, value_cmp-Int, value_cmp-Text}
use Rattle.keeper_core.specs.declared.tables.CacheKey.{CacheKey}
use Rattle.keeper_core.specs.declared.tables.CacheValue.{CacheValue}
use Rattle.keeper_core.specs.Contents.{Bytes, cache_row, input_row, key_cmp_total}
use Rattle.keeper_core.specs.inside.KeyTies.{key_cmp_antisymmetric}
use Rattle.sql_keeper.specs.Rows.{contents, job_in, key_in, literal_in, name_in, value_in}
use Rattle.sql_keeper.specs.inside.Schemas.{cache_select, input_select, jobs_select, meta_select, keeper_schema, schema_of, the_cache, the_inputs, the_meta}
use Rattle.sql_keeper.specs.inside.Databases.{IsKeeperDatabase, IsKeyed, IsStoreDatabase}
use Rattle.sql_keeper.specs.inside.ShownRows.{input_shown, job_shown, meta_shown, result_shown}
use Rattle.sql_keeper.specs.inside.Steps.{Says}
use Rattle.sql_keeper.proofs.CacheMap.{agree_keys, cached_is, sharing as sharing_keys}
use Rattle.sql_keeper.proofs.InputMap.{agree_names, bytes_same, input_is}
use Rattle.sql_keeper.proofs.LogMap.{tie_of}
use Rattle.sql_keeper.proofs.Ordered.{apart_from, one_each, ordered, reads_entries}
use Rattle.sql_keeper.proofs.Texts.{input_select_is, meta_select_is, plain_program, simple}
use Rattle.sql_keeper.proofs.MetaRows.{at_most_one, is_one}
use Rattle.sql_keeper.proofs.Rows.{once}
use Rattle.sql_keeper.proofs.Typed.{value_is}

abbrev by : ℕ → Term × SortKey
by i = (col 1 i, ascending Binary)

-- ---- the texts

inputs_known : (is_old : Bool) → command_of (understood (schema_of is_old) input_select)
    ≡ Select (plain_program (record (simple 1 [] (col 1 1 ∷ col 1 2 ∷ [])) { order = (col 1 1, ascending Binary) ∷ [] })) (codes "name" ∷ codes "literal" ∷ [])
unfolding understood everything
inputs_known true = refl
inputs_known false = input_select_is

pub inputs_plain : (is_old : Bool) → IsPlain (understood (schema_of is_old) input_select)
unfolding understood everything
inputs_plain true = (refl, refl)
inputs_plain false = (refl, refl)

inputs_unlisted : (is_old : Bool) → reads_listing (schema_of is_old) input_select ≡ false
unfolding understood everything
inputs_unlisted true = refl
inputs_unlisted false = refl

abbrev cache_project : List Term
cache_project = col 1 1 ∷ col 1 2 ∷ col 1 3 ∷ col 1 4 ∷ col 1 5 ∷ col 1 6 ∷ col 1 7 ∷ col 1 8 ∷ col 1 9 ∷ []

cache_is : command_of (understood keeper_schema cache_select)
    ≡ Select (plain_program (ordered 3 cache_project (by 1 ∷ by 3 ∷ by 2 ∷ [])))
    (codes "op" ∷ codes "khash" ∷ codes "ckey" ∷ codes "cvalue" ∷ codes "fine" ∷ codes "result" ∷ codes "finished" ∷ codes "job" ∷ codes "rebuild" ∷ [])
unfolding understood everything
cache_is = refl

pub cache_plain : IsPlain (understood keeper_schema cache_select)
unfolding understood everything
cache_plain = (refl, refl)

cache_unlisted : reads_listing keeper_schema cache_select ≡ false
unfolding understood everything
cache_unlisted = refl

jobs_is : (is_old : Bool) → command_of (understood (schema_of is_old) jobs_select) ≡ Select (plain_program (ordered 5 (col 1 0 ∷ []) (by 0 ∷ []))) (codes "job" ∷ [])
unfolding understood everything
jobs_is true = refl
jobs_is false = refl

pub jobs_plain : (is_old : Bool) → IsPlain (understood (schema_of is_old) jobs_select)
unfolding understood everything
jobs_plain true = (refl, refl)
jobs_plain false = (refl, refl)

jobs_unlisted : (is_old : Bool) → reads_listing (schema_of is_old) jobs_select ≡ false
unfolding understood everything
jobs_unlisted true = refl
jobs_unlisted false = refl

meta_known : (is_old : Bool) → command_of (understood (schema_of is_old) meta_select) ≡ Select (plain_program (simple 0 [] (col 1 0 ∷ col 1 2 ∷ col 1 3 ∷ []))) (codes "id" ∷ codes "format" ∷ codes "next_job" ∷ [])
unfolding understood everything
meta_known true = refl
meta_known false = meta_select_is

pub meta_plain : (is_old : Bool) → IsPlain (understood (schema_of is_old) meta_select)
unfolding understood everything
meta_plain true = (refl, refl)
meta_plain false = (refl, refl)

meta_unlisted : (is_old : Bool) → reads_listing (schema_of is_old) meta_select ≡ false
unfolding understood everything
meta_unlisted true = refl
meta_unlisted false = refl

meta_listed : (is_old : Bool) → Has (schema_of is_old).tables the_meta
meta_listed true = inl refl
meta_listed false = inl refl

-- ---- lists of at most one item

no_permuted : {X : Type 0} (ys : List X) → IsPermutation [] ys → ys ≡ []
no_permuted [] same = refl
no_permuted (y ∷ ys) same = absurd (omega (arith, length_permutation _ _ same))

few_permuted : {X : Type 0} (xs ys : List X) → IsPermutation xs ys → (xs ≡ []) ⊎ ((x : X) × (xs ≡ x ∷ [])) → ys ≡ xs
few_permuted xs ys same (inl none) = no_permuted ys (subst (λ l. IsPermutation l ys) none same) ∙ sym none
few_permuted xs ys same (inr one) = one_permutation one.0 ys (subst (λ l. IsPermutation l ys) one.1 same) ∙ sym one.1

-- ---- rows with one key are one row

inputs_listed : (is_old : Bool) → Has (schema_of is_old).tables the_inputs
inputs_listed true = inr (inl refl)
inputs_listed false = inr (inl refl)

sharing_names : (is_old : Bool) (r s : Row) → agree plain (1 ∷ []) r (1 ∷ []) s ≡ true → list_any (shares None the_inputs s r) (schema_of is_old).indexes ≡ true
sharing_names true r s h = or_left _ _ h
sharing_names false r s h = or_left _ _ h

one_input : (is_old : Bool) (db : Trees) → IsDatabase (record { schema = schema_of is_old; trees = db }) → IsKeyed (db 1) → (a b : Row) → Has (db 1) a → Has (db 1) b → name_in a ≡ name_in b → a ≡ b
one_input is_old db sound keyed =
    let inputs_are = input_is (schema_of is_old) (inputs_listed is_old) db sound in
    once nat_list_cmp_total bytes_same name_in literal_in (schema_of is_old) the_inputs (db 1) keyed
    (λ r s h j e. sharing_names is_old r s (agree_names r s (inputs_are r h) (inputs_are s j) e))
    (λ r h. keeps_at Unique (schema_of is_old) db the_inputs r (sound.obeys.rules Unique) (inputs_listed is_old) h)

module _ (db : Trees) (sound : IsDatabase (record { schema = keeper_schema; trees = db })) where
  one_result : IsKeyed (db 3) → (a b : Row) → Has (db 3) a → Has (db 3) b → key_in a ≡ key_in b → a ≡ b
  one_result keyed = once key_cmp_total key_cmp_antisymmetric key_in value_in keeper_schema the_cache (db 3) keyed
      (λ r s h j e. sharing_keys r s (agree_keys r s (cached_is db sound r h) (cached_is db sound s j) e))
      (λ r h. keeps_at Unique keeper_schema db the_cache r (sound.obeys.rules Unique) (inr (inr (inl refl))) h)

pub one_log : (rows : List Row) → IsKeyed rows → (a b : Row) → Has rows a → Has rows b → job_in a ≡ job_in b → a ≡ b
one_log rows keyed a b p q e = tied_same rows a b keyed.rises p q (tie_of rows a b keyed p q e)

-- ---- what is shown of an entry, after what it is sorted by

abbrev input_out : Bytes × Bytes → Output
input_out e = (Text e.0 ∷ [], Text e.0 ∷ Text e.1 ∷ [])

abbrev result_out : CacheKey × CacheValue → Output
result_out e = (
  Text e.0.op ∷ Text e.0.ckey ∷ Blob e.0.khash ∷ [],
  Text e.0.op ∷ Blob e.0.khash ∷ Text e.0.ckey ∷ Text e.1.cvalue ∷ Int e.1.fine ∷ Text e.1.result ∷ Int e.1.finished ∷ Int e.1.job ∷ Int e.1.rebuild ∷ [],
)

abbrev job_out : ℤ × Bytes → Output
job_out e = (Int e.0 ∷ [], Int e.0 ∷ [])

-- ---- the tables

module _ (old new : State) (database : IsKeeperDatabase old.now) where
  abbrev db : Trees
  db = old.now.trees

  sound : IsDatabase (record { schema = keeper_schema; trees = old.now.trees })
  sound = subst (λ s. IsDatabase (record { schema = s; trees = old.now.trees })) database.schema database.sound

  abbrev result_query : Program
  result_query = plain_program (ordered 3 cache_project (by 1 ∷ by 3 ∷ by 2 ∷ []))

  results_found : (rows : List Row) → Shown cache_select [] old new rows → rows ≡ map (λ e. (result_out e).1) (entries (contents db).cache)
  results_found rows h =
      let answers : Answers old.now result_query [] rows = reads_as cache_select [] old new keeper_schema database.schema _ cache_is cache_plain cache_unlisted rows h in
      reads_entries key_cmp_total key_cmp_antisymmetric key_in value_in 3 cache_project (by 1 ∷ by 3 ∷ by 2 ∷ []) result_out old.now rows refl answers
      (λ r at.
      let k = cached_is db sound r at in
      let v = value_is db sound r at in
      λ i. (k.op i ∷ k.ckey i ∷ k.khash i ∷ [], k.op i ∷ k.khash i ∷ k.ckey i ∷ v.cvalue i ∷ v.fine i ∷ v.result i ∷ v.finished i ∷ v.job i ∷ v.rebuild i ∷ []))
      (λ a b.
      let op = value_cmp-Text a.0.op b.0.op in
      let ckey = value_cmp-Text a.0.ckey b.0.ckey in
      let khash = then-Equal (value_cmp (Blob a.0.khash) (Blob b.0.khash)) ∙ value_cmp-Blob a.0.khash b.0.khash in
      λ i. ordering_then (op i) (ordering_then (ckey i) (khash i)))
      (apart_from key_cmp_total key_cmp_antisymmetric key_in value_in (db 3) (db 3) database.cache.rises (λ r at. at) (one_result db sound database.cache))

  pub results_loaded : (items : List CacheRow) → Says result_shown cache_select old new items → items ≡ map cache_row (entries (contents db).cache)
  results_loaded items says = says.2 ∙ ap (map result_shown) (results_found says.0 says.1) ∙ map-map result_shown (λ (e : CacheKey × CacheValue). (result_out e).1) (entries (contents db).cache)

-- ---- the tables that both schemas have

module _ (is_old : Bool) (old new : State) (database : IsStoreDatabase is_old old.now) where
  abbrev metas : List Row
  metas = old.now.trees 0

  sound_store : IsDatabase (record { schema = schema_of is_old; trees = old.now.trees })
  sound_store = subst (λ s. IsDatabase (record { schema = s; trees = old.now.trees })) database.schema database.sound

  abbrev input_query : Program
  input_query = plain_program (ordered 1 (col 1 1 ∷ col 1 2 ∷ []) (by 1 ∷ []))

  inputs_found : (rows : List Row) → Shown input_select [] old new rows → rows ≡ map (λ e. (input_out e).1) (entries (contents old.now.trees).inputs)
  inputs_found rows h =
      let answers : Answers old.now input_query [] rows = reads_as input_select [] old new (schema_of is_old) database.schema (Select input_query (codes "name" ∷ codes "literal" ∷ [])) (inputs_known is_old) (inputs_plain is_old) (inputs_unlisted is_old) rows h in
      reads_entries nat_list_cmp_total bytes_same name_in literal_in 1 (col 1 1 ∷ col 1 2 ∷ []) (by 1 ∷ []) input_out old.now rows refl answers
      (λ r at. let it = input_is (schema_of is_old) (inputs_listed is_old) old.now.trees sound_store r at in λ i. (it.name i ∷ [], it.name i ∷ it.literal i ∷ []))
      (λ a b. then-Equal _ ∙ value_cmp-Text a.0 b.0)
      (apart_from nat_list_cmp_total bytes_same name_in literal_in (old.now.trees 1) (old.now.trees 1) database.inputs.rises (λ r at. at) (one_input is_old old.now.trees sound_store database.inputs))

  pub inputs_loaded : (items : List InputRow) → Says input_shown input_select old new items → items ≡ map input_row (entries (contents old.now.trees).inputs)
  inputs_loaded items says = says.2 ∙ ap (map input_shown) (inputs_found says.0 says.1) ∙ map-map input_shown (λ (e : Bytes × Bytes). (input_out e).1) (entries (contents old.now.trees).inputs)

  abbrev job_query : Program
  job_query = plain_program (ordered 5 (col 1 0 ∷ []) (by 0 ∷ []))

  jobs_found : (rows : List Row) → Shown jobs_select [] old new rows → rows ≡ map (λ e. (job_out e).1) (entries (contents old.now.trees).logs)
  jobs_found rows h =
      let answers : Answers old.now job_query [] rows = reads_as jobs_select [] old new (schema_of is_old) database.schema _ (jobs_is is_old) (jobs_plain is_old) (jobs_unlisted is_old) rows h in
      reads_entries int_cmp_total int_cmp-IsAntisymmetric job_in literal_in 5 (col 1 0 ∷ []) (by 0 ∷ []) job_out old.now rows refl answers
      (λ r at. let n = int_is (rowid r) (all_has _ (old.now.trees 5) r database.logs.ints at) in λ i. (n i ∷ [], n i ∷ []))
      (λ a b. then-Equal _ ∙ value_cmp-Int a.0 b.0)
      (apart_from int_cmp_total int_cmp-IsAntisymmetric job_in literal_in (old.now.trees 5) (old.now.trees 5) database.logs.rises (λ r at. at) (one_log (old.now.trees 5) database.logs))

  pub jobs_loaded : (items : List ℤ) → Says job_shown jobs_select old new items → items ≡ keys (contents old.now.trees).logs
  jobs_loaded items says = says.2 ∙ ap (map job_shown) (jobs_found says.0 says.1) ∙ map-map job_shown (λ (e : ℤ × Bytes). (job_out e).1) (entries (contents old.now.trees).logs)

  abbrev meta_project : List Term
  meta_project = col 1 0 ∷ col 1 2 ∷ col 1 3 ∷ []

  abbrev meta_out : Row → Row
  meta_out r = column r 0 ∷ column r 2 ∷ column r 3 ∷ []

  abbrev meta_output : Row → Output
  meta_output r = ([], meta_out r)

  meta_found : (rows : List Row) → Shown meta_select [] old new rows → rows ≡ map meta_out metas
  meta_found rows h =
      let answers : Answers old.now (plain_program (simple 0 [] meta_project)) [] rows = reads_as meta_select [] old new (schema_of is_old) database.schema _ (meta_known is_old) (meta_plain is_old) (meta_unlisted is_old) rows h in
      let a : IsAnswer (simple 0 [] meta_project) (overlay old.now.trees []) [] rows = answers.answer Null in
      let staged : a.staged ≡ map (λ r. [] ∷ r ∷ []) metas = a.grouped ∙ one_each (λ (r : Row). [] ∷ r ∷ []) metas in
      let kept : a.kept ≡ map meta_output metas = a.distinct ∙ ap (map (output (simple 0 [] meta_project))) staged ∙ map-map (output (simple 0 [] meta_project)) (λ (r : Row). [] ∷ r ∷ []) metas in
      let few = at_most_one metas database.meta (is_one (schema_of is_old) (meta_listed is_old) old.now.trees sound_store database.meta) in
      let ordered = few_permuted (map meta_output metas) a.ordered (subst (λ k. IsPermutation k a.ordered) kept a.same)
      (elim few [ inl none ↦ inl (ap (map meta_output) none) | inr one ↦ inr (meta_output one.0, ap (map meta_output) one.1) ]) in
      a.shown ∙ ap (map (λ (p : Output). p.1)) ordered ∙ map-map (λ (p : Output). p.1) meta_output metas

  pub meta_loaded : (items : List MetaRow) → Says meta_shown meta_select old new items → items ≡ (contents old.now.trees).meta
  meta_loaded items says = says.2 ∙ ap (map meta_shown) (meta_found says.0 says.1) ∙ map-map meta_shown meta_out metas
