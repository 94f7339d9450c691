-- The rows of a table after a row took the place of those with its key.
use Rattle.std.proofs.Common.{◌≡◌, ◌≢◌, ◌⊎◌, inl, inr, ℤ, Bool, true, false, not, ◌&&◌, ◌||◌, cond, List, [], ◌∷◌, filter, Some, None, Ordering, Less, Equal, Greater, IsTrue, refl, sym, ap, subst, ◌∙◌, true≢false}
use Rattle.std.proofs.lemmas.Bool.{cases_Bool, and_parts, and_from, or_right, not-true, false_from_ne_true}
use Rattle.std.specs.List.{list_any, list_all}
use Rattle.std.specs.Ordering.{is_eq, is_ne}
use Rattle.std.specs.Cmp.{IsTotalOrder, tied_itself}
use Rattle.std.specs.FinMap.{insert, IsAntisymmetric}
use Rattle.sqlite.specs.declared.types.Value.{Value}
use Rattle.sqlite.specs.declared.types.Value.TheVariants.{Null, Int}
use Rattle.sqlite.specs.Order.{Row, value_cmp}
use Rattle.sqlite.specs.Tree.{Trees, rowid, IsTable, has_rowid, without_rowid}
use Rattle.sqlite.specs.View.{is_int}
use Rattle.sqlite.specs.Schema.{Schema}
use Rattle.sqlite.specs.Table.{Table}
use Rattle.sqlite.specs.Edit.{id_in, next_rowid, without_all, put_all, are_fresh}
use Rattle.sqlite.specs.Rowids.TheVariants.{Chosen}
use Rattle.sqlite_value.specs.declared.keys.Collation.{Collation}
use Rattle.sqlite_value.specs.declared.keys.Collation.TheVariants.{Binary}
use Rattle.sqlite_value.specs.Keys.{plain, collated, first_key}
use Rattle.sqlite_value.proofs.OrderLemmas.{value_cmp_total}
use Rattle.sqlite_value.proofs.KeyLemmas.{first_key-plain}
use Rattle.sqlite_sql.specs.Ops.{binary, is_null, is_true, from_truth}
use Rattle.sqlite_trees.proofs.TreeLemmas.{IsTable-put_row}
use Rattle.sqlite_schema.specs.declared.schema.Index.{Index}
use Rattle.sqlite_schema.specs.Rules.{equal, differ, agree, guards, clashes}
use Rattle.sqlite_rules.specs.Calls.{ids_of}
use Rattle.sqlite_rules.specs.Keys.{AreConflicts, conflicts, shares}
use Rattle.sqlite_rules.specs.Lists.{Has}
use Rattle.sqlite_rules.proofs.ListLemmas.{all_has, all_from, test_has, some_has, some_from, has_filtered, has_kept}
use Rattle.sqlite_rules.proofs.ProbeLemmas.{mapped_has, has_mapped}
use Rattle.sqlite_rules.proofs.TableLemmas.{int_is, put_all_has, put_all_keeps, put_all_adds}
use Rattle.sqlite_rules.proofs.PlaceLemmas.{tied_same, next_is_free}
use Rattle.sql_keeper.specs.inside.Databases.{IsKeyed}
use Rattle.sql_keeper.specs.Rows.{table_of}
use Rattle.sql_keeper.proofs.Maps.{equal_is, written}
use Rattle.sql_keeper.proofs.Parts.{Replaced}

abbrev Lacks : List ℤ → Row → Type 0
Lacks ids x = (id : ℤ) → Has ids id → has_rowid id x ≡ false

pub left_from : (ids : List ℤ) (rows : List Row) (x : Row) → Has (without_all rows ids) x → Has rows x × Lacks ids x
left_from [] rows x h = (h, λ id none. absurd none)
left_from (id ∷ ids) rows x h =
    let r = left_from ids (without_rowid id rows) x h in
    let was = has_filtered (λ y. not (has_rowid id y)) rows x r.0 in
    (was.0, λ other k. elim k [ inl e ↦ rw e (not-true _ was.1) | inr more ↦ r.1 other more ])

pub left_has : (ids : List ℤ) (rows : List Row) (x : Row) → Has rows x → Lacks ids x → Has (without_all rows ids) x
left_has [] rows x h lacks = h
left_has (id ∷ ids) rows x h lacks = left_has ids (without_rowid id rows) x (has_kept (λ y. not (has_rowid id y)) rows x h (ap not (lacks id (inl refl)))) (λ other k. lacks other (inr k))

filter_table : (p : Row → Bool) (rows : List Row) → IsTable rows → IsTable (filter p rows)
filter_table p [] up = tt
filter_table p (r ∷ rows) up = elim (cases_Bool (p r)) [
  | inl e ↦ rw e (all_from _ (filter p rows) (λ y h. all_has _ rows y up.0 (has_filtered p rows y h).0), filter_table p rows up.1)
  | inr e ↦ rw e (filter_table p rows up.1)
]

pub without_all_table : (ids : List ℤ) (rows : List Row) → IsTable rows → IsTable (without_all rows ids)
without_all_table [] rows up = up
without_all_table (id ∷ ids) rows up = without_all_table ids (without_rowid id rows) (filter_table _ rows up)

pub without_all_keyed : (ids : List ℤ) (rows : List Row) → IsKeyed rows → IsKeyed (without_all rows ids)
without_all_keyed ids rows k = record { rises = without_all_table ids rows k.rises; ints = all_from _ (without_all rows ids) (λ x h. all_has _ rows x k.ints (left_from ids rows x h).0) }

pub put_keyed : (rows : List Row) (new : Row) → IsKeyed rows → IsTrue (is_int (rowid new)) → IsKeyed (put_all rows (new ∷ []))
put_keyed rows new k int = record {
  rises = IsTable-put_row new rows k.rises;
  ints = all_from _ (put_all rows (new ∷ [])) (λ x h. elim (put_all_has (new ∷ []) rows x h) [
    | inl is ↦ elim is [ inl e ↦ subst (λ r. IsTrue (is_int (rowid r))) (sym e) int | inr none ↦ absurd none ]
    | inr was ↦ all_has _ rows x k.ints was
  ]);
}

-- ---- SQL's equality

abbrev compared : Bool → Bool → Bool
compared null test = is_true (cond null Null (from_truth (Some test)))

compared_parts : (null test : Bool) → compared null test ≡ true → (null ≡ false) × (test ≡ true)
compared_parts true test h = absurd (true≢false (sym h))
compared_parts false true h = (refl, refl)
compared_parts false false h = absurd (true≢false (sym h))

pub equal_parts : (how : Collation) (a b : Value) → equal how a b ≡ true → collated how a b ≡ Equal
unfolding binary
equal_parts how a b h = equal_is _ (compared_parts (is_null a || is_null b) (is_eq (collated how a b)) h).1

pub equal_from : (how : Collation) (a b : Value) → is_null a ≡ false → is_null b ≡ false → collated how a b ≡ Equal → equal how a b ≡ true
unfolding binary
equal_from how a b p q same = rw (p, q, same)

pub equal_plain : (a b : Value) → equal (first_key plain).collation a b ≡ true → value_cmp a b ≡ Equal
equal_plain a b h = equal_parts Binary a b (subst (λ k. equal k.collation a b ≡ true) first_key-plain h)

pub plain_equal : (a b : Value) → is_null a ≡ false → is_null b ≡ false → value_cmp a b ≡ Equal → equal (first_key plain).collation a b ≡ true
plain_equal a b p q same = subst (λ k. equal k.collation a b ≡ true) (sym first_key-plain) (equal_from Binary a b p q same)

undiffered : (o : Ordering) → compared false (is_ne o) ≡ false → o ≡ Equal
undiffered Less h = absurd (cc)
undiffered Equal h = refl
undiffered Greater h = absurd (cc)

differ_same : (m n : ℤ) → differ (Int m) (Int n) ≡ false → value_cmp (Int m) (Int n) ≡ Equal
unfolding binary
differ_same m n h = undiffered _ h

conflict_cases : (indexes : List Index) (table : Table) (new r : Row) → conflicts None indexes table new r ≡ true
    → (value_cmp (rowid r) (rowid new) ≡ Equal) ⊎ (list_any (shares None table new r) indexes ≡ true)
conflict_cases indexes table new r h = go (equal (first_key plain).collation (rowid r) (rowid new)) refl h
  where
    go : (b : Bool) → equal (first_key plain).collation (rowid r) (rowid new) ≡ b → ((b && true) || list_any (shares None table new r) indexes) ≡ true
        → (value_cmp (rowid r) (rowid new) ≡ Equal) ⊎ (list_any (shares None table new r) indexes ≡ true)
    go true is here = inl (equal_plain (rowid r) (rowid new) is)
    go false is there = inr there

-- ---- the row that was put, in the place of those that share a key with it

module _ {K V : Type 0} {R : K → K → Ordering} (o : IsTotalOrder R) (same : IsAntisymmetric R) (key : Row → K) (val : Row → V) (schema : Schema) (table : Table) (rows : List Row) (keyed : IsKeyed rows) where
  abbrev pub Shares : Row → Row → Type 0
  Shares new r = list_any (shares None table new r) schema.indexes ≡ true

  module _ (shared : (r s : Row) → Has rows r → Has rows s → key r ≡ key s → Shares s r) (unique : (r : Row) → Has rows r → list_all (λ i. not (guards i table && clashes i.order i.columns rows r)) schema.indexes ≡ true) where
    pub once : (a b : Row) → Has rows a → Has rows b → key a ≡ key b → a ≡ b
    once a b p q is =
        let i = some_has (shares None table b a) schema.indexes (shared a b p q is) in
        let parts = and_parts _ _ i.2 in
        let guarded = (and_parts _ _ parts.0).0 in
        let none = test_has (λ i. not (guards i table && clashes i.order i.columns rows b)) schema.indexes i.0 (unique b q) i.1 in
        let m = int_is (rowid a) (all_has _ rows a keyed.ints p) in
        let n = int_is (rowid b) (all_has _ rows b keyed.ints q) in
        elim (cases_Bool (differ (rowid a) (rowid b))) [
          | inl apart ↦ absurd (
              let clash : clashes i.0.order i.0.columns rows b ≡ true = some_from (λ other. agree i.0.order i.0.columns other i.0.columns b && differ (rowid other) (rowid b)) rows a p (and_from _ _ parts.1 apart) in
              let both : (guards i.0 table && clashes i.0.order i.0.columns rows b) ≡ true = and_from _ _ guarded clash in
              let e : not true ≡ true = subst (λ t. not t ≡ true) both none in cc)
          | inr tie ↦
              let e : differ (Int (id_in (rowid a))) (Int (id_in (rowid b))) ≡ false = subst (λ v. differ v (Int (id_in (rowid b))) ≡ false) m (subst (λ v. differ (rowid a) v ≡ false) n tie) in
              let t = differ_same _ _ e in
              tied_same rows a b keyed.rises p q (subst (λ v. value_cmp v (rowid b) ≡ Equal) (sym m) (subst (λ v. value_cmp (Int (id_in (rowid a))) v ≡ Equal) (sym n) t))
        ]

    module _ (db after : Trees) (rest : Row) (is_rows : db table.tree ≡ rows) (it : Replaced schema table db after (Int (next_rowid rows) ∷ rest))
        (meets : (r : Row) → Has rows r → key r ≡ key (Int (next_rowid rows) ∷ rest) → Shares (Int (next_rowid rows) ∷ rest) r)
        (met : (r : Row) → Has rows r → Shares (Int (next_rowid rows) ∷ rest) r → key r ≡ key (Int (next_rowid rows) ∷ rest)) where
      abbrev new : Row
      new = Int (next_rowid rows) ∷ rest

      abbrev ids : List ℤ
      ids = ids_of it.found

      are : AreConflicts None schema.indexes table rows new it.found
      are = subst (λ rs. AreConflicts None schema.indexes table rs new it.found) is_rows it.conflicts

      rows_are : after table.tree ≡ put_all (without_all rows ids) (new ∷ [])
      rows_are = it.rows ∙ ap (λ rs. put_all (without_all rs ids) (new ∷ [])) is_rows

      is_fresh : are_fresh (without_all rows ids) (new ∷ []) ≡ true
      is_fresh = subst (λ rs. are_fresh (without_all rs ids) (new ∷ []) ≡ true) is_rows it.fresh

      -- a row that shares the key has gone
      gone : (x : Row) → Has rows x → key x ≡ key new → Lacks ids x → ⊥
      gone x h e lacks =
          let clash : conflicts None schema.indexes table new x ≡ true = or_right _ _ (meets x h e) in
          let f = are.complete x h clash in
          let id = mapped_has (λ (r : Row). id_in (rowid r)) it.found (rowid x ∷ []) f in
          let i = int_is (rowid x) (all_has _ rows x keyed.ints h) in
          let hit : has_rowid (id_in (rowid x)) x ≡ true = subst (λ v. is_eq (value_cmp (rowid x) v) ≡ true) i (ap is_eq (tied_itself value_cmp_total (rowid x))) in
          let miss = lacks (id_in (rowid x)) id in cc

      -- and no other
      stays : (x : Row) → Has rows x → key x ≢ key new → Lacks ids x
      stays x h apart id k = false_from_ne_true _ (λ hit.
          let f = has_mapped (λ (r : Row). id_in (rowid r)) it.found id k in
          let r = are.sound f.0 f.1 in
          let n = int_is (rowid r.0) (all_has _ rows r.0 keyed.ints r.1) in
          let e : Int id ≡ rowid r.0 = ap Int (f.2 ∙ ap (λ (y : Row). id_in (rowid y)) r.3) ∙ sym n in
          let tie : value_cmp (rowid x) (rowid r.0) ≡ Equal = subst (λ v. value_cmp (rowid x) v ≡ Equal) e (equal_is _ hit) in
          let one = tied_same rows x r.0 keyed.rises h r.1 tie in
          elim (conflict_cases schema.indexes table new r.0 r.2) [
            | inl t ↦
                let free = next_is_free Chosen rows rest keyed.rises keyed.ints in
                let taken = some_from (λ y. is_eq (value_cmp (rowid y) (rowid new))) rows r.0 r.1 (ap is_eq t) in cc
            | inr share ↦ apart (ap key one ∙ met r.0 r.1 share)
          ])

      pub replaced_map : table_of R key val (after table.tree) ≡ insert (table_of R key val rows) (key new) (val new)
      replaced_map = ap (table_of R key val) rows_are ∙ written o same key val rows (put_all (without_all rows ids) (new ∷ [])) once new
          (λ x h. elim (put_all_has (new ∷ []) (without_all rows ids) x h) [
            | inl is ↦ elim is [ inl e ↦ inl e | inr none ↦ absurd none ]
            | inr was ↦ let f = left_from ids rows x was in inr (f.0, λ e. gone x f.0 e f.1)
          ])
          (put_all_adds (new ∷ []) (without_all rows ids) new is_fresh (inl refl))
          (λ x h apart. put_all_keeps (new ∷ []) (without_all rows ids) x is_fresh (left_has ids rows x h (stays x h apart)))

      pub replaced_keyed : IsKeyed (after table.tree)
      replaced_keyed = subst IsKeyed (sym rows_are) (put_keyed (without_all rows ids) new (without_all_keyed ids rows keyed) refl)
