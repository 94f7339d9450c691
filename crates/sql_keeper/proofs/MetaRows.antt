-- The row of meta, after the text that sets the next number.
use Rattle.std.proofs.Common.{◌≡◌, ◌⊎◌, inl, inr, ℤ, pos, true, false, List, [], ◌∷◌, map, drop, Some, Ordering, Less, Equal, Greater, refl, sym, ap, subst, ◌∙◌}
use Rattle.std.proofs.lemmas.Bool.{and_parts, and_from, not-true}
use Rattle.std.specs.List.{list_all}
use Rattle.std.specs.List.Sorted.{IsPermutation}
use Rattle.std.specs.Ordering.{is_eq}
use Rattle.std.specs.Cmp.{tied_itself}
use Rattle.sqlite.specs.Order.{Row, value_cmp, column}
use Rattle.sqlite.specs.declared.types.Value.{Value}
use Rattle.sqlite.specs.declared.types.Value.TheVariants.{Null, Int, Real, Text, Blob}
use Rattle.sqlite.specs.Schema.{Schema}
use Rattle.sqlite.specs.Tree.{Trees, rowid}
use Rattle.sqlite.specs.Term.{Term, lit, col, eval_all, holds}
use Rattle.sqlite.specs.Query.{IsAnswer, output, page, Output}
use Rattle.sqlite.specs.Program.{overlay}
use Rattle.sqlite.specs.Effect.{IsDatabase, Answers}
use Rattle.sqlite.proofs.Callers.{one_permutation}
use Rattle.sqlite_value.specs.declared.keys.Collation.TheVariants.{Binary}
use Rattle.sqlite_value.proofs.OrderLemmas.{value_cmp_total}
use Rattle.sqlite_schema.specs.Rules.{equal, passes_checks}
use Rattle.sqlite_schema.specs.declared.schema.Constraint.TheVariants.{Check, Datatype, NotNull}
use Rattle.sqlite_sql.specs.Ops.{binary, is_false}
use Rattle.sqlite_rules.specs.Lists.{Has}
use Rattle.sqlite_rules.proofs.RuleLemmas.{keeps_at}
use Rattle.sqlite_rules.proofs.TableLemmas.{int_is}
use Rattle.sqlite_rules.proofs.ListLemmas.{all_has}
use Rattle.sql_keeper.specs.inside.Schemas.{keeper_schema, the_meta}
use Rattle.sql_keeper.specs.inside.Databases.{IsKeyed}
use Rattle.keeper_core.specs.Commits.{with_next}
use Rattle.sql_keeper.specs.Rows.{meta_in}
use Rattle.sql_keeper.proofs.Selected.{shows}
use Rattle.sql_keeper.proofs.Inputs.{cast_null, cast_int}
use Rattle.sql_keeper.proofs.Rows.{equal_from}
use Rattle.sqlite.specs.Kind.TheVariants as kind
use Rattle.sqlite.specs.Cast.{cast_row}
use Rattle.sqlite.specs.Tree.{has_rowid}
use Rattle.sqlite.specs.Edit.{id_in, without_all, put_all}
use Rattle.sqlite_rules.specs.Calls.{ids_of}
use Rattle.sqlite_schema.specs.Rules.{are_typed, are_present}
use Rattle.sql_keeper.proofs.Texts.{plain_program, simple, equals}

-- where the check passes, the rowid is 1
checked_one : (n : ℤ) → is_false (binary (Rattle.sqlite_sql.specs.declared.ops.BinaryOp.TheVariants.Compare Rattle.sqlite_sql.specs.declared.ops.CompareOp.TheVariants.Eq Binary) (Int n) (Int (pos 1))) ≡ false
    → value_cmp (Int n) (Int (pos 1)) ≡ Equal
unfolding binary
checked_one n h = go (value_cmp (Int n) (Int (pos 1))) h
  where
    go : (o : Ordering) → is_false (Rattle.sqlite_sql.specs.Ops.from_truth (Some (is_eq o))) ≡ false → o ≡ Equal
    go Less h = absurd (cc)
    go Equal h = refl
    go Greater h = absurd (cc)

module _ (schema : Schema) (listed : Has schema.tables the_meta) (db : Trees) (sound : IsDatabase (record { schema = schema; trees = db })) (keyed : IsKeyed (db 0)) where
  pub is_one : (r : Row) → Has (db 0) r → value_cmp (rowid r) (Int (pos 1)) ≡ Equal
  is_one r h =
      let n = int_is (rowid r) (all_has _ (db 0) r keyed.ints h) in
      let check = keeps_at Check schema db the_meta r (sound.obeys.rules Check) listed h in
      let one = not-true _ (and_parts _ _ check).0 in
      subst (λ v. value_cmp v (Int (pos 1)) ≡ Equal) (sym n) (checked_one _ (subst (λ v. is_false (binary (Rattle.sqlite_sql.specs.declared.ops.BinaryOp.TheVariants.Compare Rattle.sqlite_sql.specs.declared.ops.CompareOp.TheVariants.Eq Binary) v (Int (pos 1))) ≡ false) n one))

pub at_most_one : (rows : List Row) → IsKeyed rows → ((r : Row) → Has rows r → value_cmp (rowid r) (Int (pos 1)) ≡ Equal) → (rows ≡ []) ⊎ ((r : Row) × (rows ≡ r ∷ []))
at_most_one [] keyed one = inl refl
at_most_one (r ∷ []) keyed one = inr (r, refl)
at_most_one (r ∷ s ∷ rows) keyed one =
    let less = keyed.rises.0.0 in
    let first = one r (inl refl) in
    let next = one s (inr (inl refl)) in
    let same = value_cmp_total.congr (rowid r) (Int (pos 1)) (rowid s) first ∙ Rattle.std.proofs.lemmas.Cmp.tied_back value_cmp_total (rowid s) (Int (pos 1)) next in
    absurd (cc)

pub int_of : (v : Value) → Rattle.sqlite_schema.specs.Rules.is_of kind.Integer v ≡ true → Rattle.sqlite_sql.specs.Ops.is_null v ≡ false → v ≡ Int (id_in v)
int_of Null h p = absurd (cc)
int_of (Int n) h p = refl
int_of (Real x) h p = absurd (cc)
int_of (Text t) h p = absurd (cc)
int_of (Blob b) h p = absurd (cc)

format_typed : (r : Row) → are_typed (Some 0) 0 the_meta.columns (drop 1 r) ≡ true → are_present (Some 0) 0 the_meta.columns r ≡ true → column r 2 ≡ Int (id_in (column r 2))
format_typed [] t p = absurd (cc)
format_typed (a ∷ []) t p = absurd (cc)
format_typed (a ∷ b ∷ []) t p = absurd (cc)
format_typed (a ∷ b ∷ c ∷ rest) t p = int_of c (and_parts _ _ (and_parts _ _ t).1).0 (not-true _ (and_parts _ _ p).0)

abbrev pub asked : List Term
asked = equals (col 1 0) (lit (Int (pos 1))) ∷ []

abbrev pub shown : List Term
shown = col 1 0 ∷ col 1 0 ∷ lit Null ∷ col 1 2 ∷ col 0 0 ∷ []

no_has : (xs : List Row) → ((x : Row) → Has xs x → ⊥) → xs ≡ []
no_has [] none = refl
no_has (x ∷ xs) none = absurd (none x (inl refl))

module _ (db : Trees) (sound : IsDatabase (record { schema = keeper_schema; trees = db })) (keyed : IsKeyed (db 0)) (next : ℤ) (found : List Row)
    (is : Answers (record { schema = keeper_schema; trees = db }) (plain_program (simple 0 asked shown)) (Int next ∷ []) found) where
  abbrev pub after : List Row
  after = put_all (without_all (db 0) (ids_of found)) (map (λ s. cast_row the_meta (drop 1 s)) found)

  none : db 0 ≡ [] → after ≡ []
  none empty =
      let it = shows 0 asked shown (Int next ∷ []) (record { schema = keeper_schema; trees = db }) found refl is in
      let nothing = no_has found (λ x h. let r = it.sound x h in subst (λ rows. Has rows r.0) empty r.1) in
      ap (λ f. put_all (without_all (db 0) (ids_of f)) (map (λ s. cast_row the_meta (drop 1 s)) f)) nothing ∙ empty

  some : (r : Row) → db 0 ≡ r ∷ [] → after ≡ (Int (id_in (rowid r)) ∷ Null ∷ Int (id_in (column r 2)) ∷ Int next ∷ []) ∷ []
  some r one =
      let here : Has (db 0) r = subst (λ rows. Has rows r) (sym one) (inl refl) in
      let n = int_is (rowid r) (all_has _ (db 0) r keyed.ints here) in
      let f = format_typed r (and_parts _ _ (keeps_at Datatype keeper_schema db the_meta r (sound.obeys.rules Datatype) (inl refl) here)).0 (keeps_at NotNull keeper_schema db the_meta r (sound.obeys.rules NotNull) (inl refl) here) in
      let is_null : Rattle.sqlite_sql.specs.Ops.is_null (rowid r) ≡ false = rw n in
      let passes : list_all (holds ((Int next ∷ []) ∷ r ∷ [])) asked ≡ true = and_from _ _ (equal_from Binary (rowid r) (Int (pos 1)) is_null refl (is_one keeper_schema (inl refl) db sound keyed r here)) refl in
      let a : IsAnswer (simple 0 asked shown) (overlay db []) (Int next ∷ []) found = is.answer Null in
      let staged : a.staged ≡ ((Int next ∷ []) ∷ r ∷ []) ∷ [] = a.grouped ∙ rw (one, passes) in
      let o : Output = ([], rowid r ∷ rowid r ∷ Null ∷ column r 2 ∷ Int next ∷ []) in
      let kept : a.kept ≡ o ∷ [] = a.distinct ∙ ap (map (output (simple 0 asked shown))) staged in
      let ordered = one_permutation o a.ordered (subst (λ k. IsPermutation k a.ordered) kept a.same) in
      let rows : found ≡ o.1 ∷ [] = a.shown ∙ ap (λ xs. page (simple 0 asked shown) (Int next ∷ []) (map (λ (p : Output). p.1) xs)) ordered in
      let hit : has_rowid (id_in (rowid r)) r ≡ true = subst (λ v. is_eq (value_cmp (rowid r) v) ≡ true) n (ap is_eq (tied_itself value_cmp_total (rowid r))) in
      let gone : without_all (r ∷ []) (id_in (rowid r) ∷ []) ≡ [] = rw hit in
      let cast : cast_row the_meta (rowid r ∷ Null ∷ column r 2 ∷ Int next ∷ []) ≡ Int (id_in (rowid r)) ∷ Null ∷ Int (id_in (column r 2)) ∷ Int next ∷ [] =
      ap (λ v. Rattle.sqlite.specs.Cast.cast kind.Integer v ∷ Rattle.sqlite.specs.Cast.cast kind.Integer Null ∷ Rattle.sqlite.specs.Cast.cast kind.Integer (column r 2) ∷ Rattle.sqlite.specs.Cast.cast kind.Integer (Int next) ∷ []) n
      ∙ ap (λ v. Rattle.sqlite.specs.Cast.cast kind.Integer (Int (id_in (rowid r))) ∷ Rattle.sqlite.specs.Cast.cast kind.Integer Null ∷ Rattle.sqlite.specs.Cast.cast kind.Integer v ∷ Rattle.sqlite.specs.Cast.cast kind.Integer (Int next) ∷ []) f
      ∙ rw (cast_int (id_in (rowid r)), cast_null, cast_int (id_in (column r 2)), cast_int next) in
      ap (λ g. put_all (without_all (db 0) (ids_of g)) (map (λ s. cast_row the_meta (drop 1 s)) g)) rows
      ∙ ap (λ rs. put_all (without_all rs (id_in (rowid r) ∷ [])) (cast_row the_meta (rowid r ∷ Null ∷ column r 2 ∷ Int next ∷ []) ∷ [])) one
      ∙ ap (λ rs. put_all rs (cast_row the_meta (rowid r ∷ Null ∷ column r 2 ∷ Int next ∷ []) ∷ [])) gone
      ∙ ap (λ x. x ∷ []) cast

  pub numbered : map meta_in after ≡ map (with_next next) (map meta_in (db 0))
  numbered = elim (at_most_one (db 0) keyed (is_one keeper_schema (inl refl) db sound keyed)) [
    | inl empty ↦ ap (map meta_in) (none empty) ∙ sym (ap (λ rs. map (with_next next) (map meta_in rs)) empty)
    | inr r ↦ ap (map meta_in) (some r.0 r.1) ∙ sym (ap (λ rs. map (with_next next) (map meta_in rs)) r.1)
  ]

  pub numbered_keyed : IsKeyed after
  numbered_keyed = elim (at_most_one (db 0) keyed (is_one keeper_schema (inl refl) db sound keyed)) [
    | inl empty ↦ subst IsKeyed (sym (none empty)) (record { rises = tt; ints = tt })
    | inr r ↦ subst IsKeyed (sym (some r.0 r.1)) (record { rises = (tt, tt); ints = (refl, tt) })
  ]
