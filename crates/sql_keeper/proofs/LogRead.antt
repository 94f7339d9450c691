-- The log of a job, as the text that asks for it shows it.
use Rattle.std.proofs.Common.{◌≡◌, inl, ℤ, Bool, true, false, List, [], ◌∷◌, map, Option, Some, None, Equal, refl, sym, ap, subst, ◌∙◌, codes}
use Rattle.std.proofs.lemmas.Bool.{and_from, and_parts}
use Rattle.std.specs.List.{list_all}
use Rattle.std.specs.Ordering.{int_cmp}
use Rattle.std.specs.Cmp.{int_cmp_total, tied_itself}
use Rattle.std.specs.FinMap.{find, get, get-from_entries, int_cmp-IsAntisymmetric}
use Rattle.sqlite.specs.declared.types.Value.TheVariants.{Int}
use Rattle.sqlite.specs.Order.{Row, bytes, column, value_cmp}
use Rattle.sqlite.specs.Tree.{Trees, rowid}
use Rattle.sqlite.specs.Term.{Term, col, holds}
use Rattle.sqlite.specs.Command.TheVariants.{Select}
use Rattle.sqlite.specs.Effect.{Answers}
use Rattle.sqlite.specs.Listing.{reads_listing, understood}
use Rattle.sqlite.specs.State.{Shown, State}
use Rattle.sqlite.proofs.Callers.{IsPlain, command_of, reads_as}
use Rattle.sqlite_tied.specs.Compute.{everything}
use Rattle.sqlite_value.specs.declared.keys.Collation.TheVariants.{Binary}
use Rattle.sqlite_value.proofs.OrderLemmas.{value_cmp-Int, value_cmp_total}
use Rattle.sqlite_rules.specs.Lists.{Has}
use Rattle.sqlite_rules.proofs.ListLemmas.{all_has}
use Rattle.sqlite_rules.proofs.PlaceLemmas.{tied_same}
use Rattle.sqlite_rules.proofs.TableLemmas.{int_is}
use Rattle.sql_keeper.specs.inside.Schemas.{log_select, schema_of}
use Rattle.sql_keeper.specs.inside.Databases.{IsKeyed, IsStoreDatabase}
use Rattle.keeper_core.specs.Contents.{Bytes}
use Rattle.sql_keeper.specs.Rows.{job_in, literal_in, contents}
use Rattle.sql_keeper.specs.inside.ShownRows.{output_of}
use Rattle.sql_keeper.proofs.LogMap.{tie_of}
use Rattle.sql_keeper.proofs.Maps.{find_at, find_from}
use Rattle.sql_keeper.proofs.Rows.{equal_from, equal_parts}
use Rattle.sql_keeper.proofs.Selected.{Shows as Selects, shows}
use Rattle.sql_keeper.proofs.Texts.{equals, log_select_is, plain_program, simple}

abbrev asked : List Term
asked = equals (col 1 0) (col 0 0) ∷ []

abbrev project : List Term
project = col 1 2 ∷ []

module _ (db : Trees) (keyed : IsKeyed (db 5)) (job : ℤ) where
  number : (r : Row) → Has (db 5) r → rowid r ≡ Int (job_in r)
  number r h = int_is (rowid r) (all_has _ (db 5) r keyed.ints h)

  names : (r : Row) → Has (db 5) r → job ≡ job_in r → list_all (holds ((Int job ∷ []) ∷ r ∷ [])) asked ≡ true
  names r h e =
      let tie : value_cmp (rowid r) (Int job) ≡ Equal = subst (λ v. value_cmp (rowid r) v ≡ Equal) (number r h ∙ ap Int (sym e)) (tied_itself value_cmp_total (rowid r)) in
      and_from _ _ (equal_from Binary (rowid r) (Int job) (rw (number r h)) refl tie) refl

  is_named : (r : Row) → Has (db 5) r → list_all (holds ((Int job ∷ []) ∷ r ∷ [])) asked ≡ true → job ≡ job_in r
  is_named r h passes =
      let tie : value_cmp (rowid r) (Int job) ≡ Equal = equal_parts Binary (rowid r) (Int job) (and_parts _ _ passes).0 in
      let ints : value_cmp (Int (job_in r)) (Int job) ≡ Equal = subst (λ v. value_cmp v (Int job) ≡ Equal) (number r h) tie in
      sym (int_cmp-IsAntisymmetric (job_in r) job (sym (value_cmp-Int (job_in r) job) ∙ ints))

  once : (a b : Row) → Has (db 5) a → Has (db 5) b → job_in a ≡ job_in b → a ≡ b
  once a b p q e = tied_same (db 5) a b keyed.rises p q (tie_of (db 5) a b keyed p q e)

  abbrev found_of : Option Bytes
  found_of = find int_cmp job (map (λ r. (job_in r, literal_in r)) (db 5))

  log_shown : (schema : _) (found : List Row) → Selects 5 asked project (Int job ∷ []) (record { schema = schema; trees = db }) found refl → output_of found ≡ found_of
  log_shown schema found is = go found found_of refl is.sound is.complete
    where
      go : (xs : List Row) (o : Option Bytes) → found_of ≡ o
          → ((x : Row) → Has xs x → (r : Row) × Has (db 5) r × (list_all (holds ((Int job ∷ []) ∷ r ∷ [])) asked ≡ true) × (x ≡ column r 2 ∷ []))
          → ((r : Row) → Has (db 5) r → list_all (holds ((Int job ∷ []) ∷ r ∷ [])) asked ≡ true → Has xs (column r 2 ∷ [])) → output_of xs ≡ o
      go [] None e sound complete = refl
      go [] (Some v) e sound complete =
          let f = find_from int_cmp_total int_cmp-IsAntisymmetric job_in literal_in job (db 5) v e in
          absurd (complete f.0 f.1 (names f.0 f.1 f.2))
      go (x ∷ xs) None e sound complete =
          let s = sound x (inl refl) in
          let at = find_at int_cmp_total int_cmp-IsAntisymmetric job_in literal_in (db 5) s.0 s.1 in
          let here : found_of ≡ Some at.0 = subst (λ j. find int_cmp j (map (λ r. (job_in r, literal_in r)) (db 5)) ≡ Some at.0) (sym (is_named s.0 s.1 s.2)) at.1 in
          absurd (let none : None ≡ Some at.0 = sym e ∙ here in cc)
      go (x ∷ xs) (Some v) e sound complete =
          let s = sound x (inl refl) in
          let f = find_from int_cmp_total int_cmp-IsAntisymmetric job_in literal_in job (db 5) v e in
          let same : f.0 ≡ s.0 = once f.0 s.0 f.1 s.1 (sym f.2 ∙ is_named s.0 s.1 s.2) in
          ap (λ (y : Row). Some (bytes (column y 0))) s.3 ∙ ap Some (sym (f.3 ∙ ap literal_in same))

log_select_known : (is_old : Bool) → command_of (understood (schema_of is_old) log_select) ≡ Select (plain_program (simple 5 asked project)) (codes "output" ∷ [])
unfolding understood everything
log_select_known true = refl
log_select_known false = log_select_is

pub log_select_plain : (is_old : Bool) → IsPlain (understood (schema_of is_old) log_select)
unfolding understood everything
log_select_plain true = (refl, refl)
log_select_plain false = (refl, refl)

log_select_unlisted : (is_old : Bool) → reads_listing (schema_of is_old) log_select ≡ false
unfolding understood everything
log_select_unlisted true = refl
log_select_unlisted false = refl

pub log_shown_is : (is_old : Bool) (old new : State) (job : ℤ) (rows : List Row) → IsStoreDatabase is_old old.now → Shown log_select (Int job ∷ []) old new rows → output_of rows ≡ get (contents old.now.trees).logs job
log_shown_is is_old old new job rows database h =
    let db = old.now.trees in
    let command = Select (plain_program (simple 5 asked project)) (codes "output" ∷ []) in
    let answers : Answers old.now (plain_program (simple 5 asked project)) (Int job ∷ []) rows =
    reads_as log_select (Int job ∷ []) old new (schema_of is_old) database.schema command (log_select_known is_old) (log_select_plain is_old) (log_select_unlisted is_old) rows h in
    log_shown db database.logs job old.now.schema rows (shows 5 asked project (Int job ∷ []) old.now rows refl answers)
    ∙ sym (get-from_entries int_cmp_total (map (λ r. (job_in r, literal_in r)) (db 5)) job)
