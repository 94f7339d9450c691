-- What the query of the logs of the first schema shows.
use Rattle.std.proofs.Common.{◌≡◌, inl, inr, ℤ, true, false, List, [], ◌∷◌, drop, map, codes, Some, refl, ap, subst, ◌∙◌}
use Rattle.std.proofs.lemmas.Bool.{and_parts, not-true}
use Rattle.std.specs.Cmp.{int_cmp_total}
use Rattle.std.specs.FinMap.{entries, int_cmp-IsAntisymmetric}
use Rattle.sqlite.specs.Order.{Row, column}
use Rattle.sqlite.specs.declared.types.Value.TheVariants.{Blob, Int}
use Rattle.sqlite.specs.Collation.TheVariants.{Binary}
use Rattle.sqlite.specs.Command.TheVariants.{Select}
use Rattle.sqlite.specs.Effect.{Answers, IsDatabase}
use Rattle.sqlite.specs.Listing.{reads_listing, understood}
use Rattle.sqlite.specs.Query.{Output}
use Rattle.sqlite.specs.State.{Shown, State}
use Rattle.sqlite.specs.Term.{Term, col}
use Rattle.sqlite.specs.Tree.{rowid}
use Rattle.sqlite.proofs.Callers.{IsPlain, command_of, reads_as}
use Rattle.sqlite_schema.specs.Rules.{are_present, are_typed}
use Rattle.sqlite_schema.specs.declared.program.Program.{Program}
use Rattle.sqlite_schema.specs.declared.schema.Constraint.TheVariants.{Datatype, NotNull}
use Rattle.sqlite_rules.specs.Lists.{Has}
use Rattle.sqlite_rules.proofs.ListLemmas.{all_has}
use Rattle.sqlite_rules.proofs.RuleLemmas.{keeps_at}
use Rattle.sqlite_rules.proofs.TableLemmas.{int_is}
use Rattle.sqlite_keyed.proofs.ListLemmas.{map-map}
use Rattle.sqlite_tied.specs.Compute.{everything}
use Rattle.sqlite_value.specs.Keys.{ascending}
use Rattle.sqlite_value.specs.declared.keys.Key.{Key as SortKey}
use Rattle.sqlite_value.proofs.OrderLemmas.{then-Equal, value_cmp-Int}
use Rattle.keeper_core.specs.Contents.{Bytes}
use Rattle.sql_keeper.specs.Rows.{job_in, literal_in, old_contents}
use Rattle.sql_keeper.specs.declared.columns.LogRow.{LogRow}
use Rattle.sql_keeper.specs.inside.Schemas.{logs_select, old_schema, the_logs}
use Rattle.sql_keeper.specs.inside.Databases.{IsStoreDatabase}
use Rattle.sql_keeper.specs.inside.ShownRows.{log_row, log_row_shown}
use Rattle.sql_keeper.specs.inside.Steps.{Says}
use Rattle.sql_keeper.proofs.CacheMap.{blob_is}
use Rattle.sql_keeper.proofs.Loading.{one_log}
use Rattle.sql_keeper.proofs.Ordered.{apart_from, ordered, reads_entries}
use Rattle.sql_keeper.proofs.Texts.{plain_program}

abbrev project : List Term
project = col 1 0 ∷ col 1 2 ∷ []

abbrev order : List (Term × SortKey)
order = (col 1 0, ascending Binary) ∷ []

abbrev query : Program
query = plain_program (ordered 5 project order)

select_is : command_of (understood old_schema logs_select) ≡ Select query (codes "job" ∷ codes "output" ∷ [])
unfolding understood everything
select_is = refl

pub logs_plain : IsPlain (understood old_schema logs_select)
unfolding understood everything
logs_plain = (refl, refl)

unlisted : reads_listing old_schema logs_select ≡ false
unfolding understood everything
unlisted = refl

output_typed : (r : Row) → are_typed (Some 0) 0 the_logs.columns (drop 1 r) ≡ true → are_present (Some 0) 0 the_logs.columns r ≡ true → column r 2 ≡ Blob (literal_in r)
output_typed [] t p = absurd (cc)
output_typed (a ∷ []) t p = absurd (cc)
output_typed (a ∷ b ∷ []) t p = absurd (cc)
output_typed (a ∷ b ∷ c ∷ rest) t p = blob_is c (and_parts _ _ (and_parts _ _ t).1).0 (not-true _ (and_parts _ _ p).0)

abbrev out : ℤ × Bytes → Output
out e = (Int e.0 ∷ [], Int e.0 ∷ Blob e.1 ∷ [])

module _ (old new : State) (database : IsStoreDatabase true old.now) where
  abbrev rows_in : List Row
  rows_in = old.now.trees 5

  sound : IsDatabase (record { schema = old_schema; trees = old.now.trees })
  sound = subst (λ s. IsDatabase (record { schema = s; trees = old.now.trees })) database.schema database.sound

  output_is : (r : Row) → Has rows_in r → column r 2 ≡ Blob (literal_in r)
  output_is r h =
      let listed : Has old_schema.tables the_logs = inr (inr (inr (inl refl))) in
      let typed = keeps_at Datatype old_schema old.now.trees the_logs r (sound.obeys.rules Datatype) listed h in
      output_typed r (and_parts _ _ typed).0 (keeps_at NotNull old_schema old.now.trees the_logs r (sound.obeys.rules NotNull) listed h)

  found : (rows : List Row) → Shown logs_select [] old new rows → rows ≡ map (λ e. (out e).1) (entries (old_contents old.now.trees).logs)
  found rows h =
      let answers : Answers old.now query [] rows = reads_as logs_select [] old new old_schema database.schema _ select_is logs_plain unlisted rows h in
      reads_entries int_cmp_total int_cmp-IsAntisymmetric job_in literal_in 5 project order out old.now rows refl answers
      (λ r at. let n = int_is (rowid r) (all_has _ rows_in r database.logs.ints at) in let o = output_is r at in λ i. (n i ∷ [], n i ∷ o i ∷ []))
      (λ a b. then-Equal _ ∙ value_cmp-Int a.0 b.0)
      (apart_from int_cmp_total int_cmp-IsAntisymmetric job_in literal_in rows_in rows_in database.logs.rises (λ r at. at) (one_log rows_in database.logs))

  pub logs_loaded : (items : List LogRow) → Says log_row_shown logs_select old new items → items ≡ map log_row (entries (old_contents old.now.trees).logs)
  logs_loaded items says = says.2 ∙ ap (map log_row_shown) (found says.0 says.1) ∙ map-map log_row_shown (λ (e : ℤ × Bytes). (out e).1) (entries (old_contents old.now.trees).logs)
