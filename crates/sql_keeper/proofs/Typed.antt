-- The columns of a row have the types of the schema.
use Rattle.std.proofs.Common.{◌≡◌, inl, inr, ℕ, zero, suc, ◌+◌, Bool, true, false, not, ◌&&◌, List, [], ◌∷◌, drop, slice_get, Some, None, refl, subst}
use Rattle.std.proofs.lemmas.Bool.{and_parts, not-true}
use Rattle.sqlite.specs.Order.{Row, bytes, column}
use Rattle.sqlite.specs.declared.types.Value.TheVariants.{Int, Text}
use Rattle.sqlite.specs.Edit.{id_in}
use Rattle.sqlite.specs.Effect.{IsDatabase}
use Rattle.sqlite.specs.Tree.{Trees}
use Rattle.sqlite.specs.Kind.TheVariants as kind
use Rattle.sqlite_sql.specs.Ops.{is_null}
use Rattle.sqlite_schema.specs.Rules.{are_present, are_typed, suits}
use Rattle.sqlite_schema.specs.declared.schema.Column.{Column}
use Rattle.sqlite_schema.specs.declared.schema.Constraint.TheVariants.{Datatype, NotNull}
use Rattle.sqlite_rules.specs.Lists.{Has}
use Rattle.sqlite_rules.proofs.RuleLemmas.{keeps_at}
use Rattle.sql_keeper.specs.inside.Schemas.{keeper_schema, the_cache}
use Rattle.sql_keeper.specs.Rows.{value_in}
use Rattle.sql_keeper.proofs.InputMap.{text_is}
use Rattle.sql_keeper.proofs.MetaRows.{int_of}

next_column : (r : Row) (i : ℕ) → column r (suc i) ≡ column (drop 1 r) i
next_column [] i = refl
next_column (a ∷ r) i = refl

-- a column that isn't NULL has its type
typed_at : (at : ℕ) (cs : List Column) (vs : Row) → are_typed None at cs vs ≡ true → (i : ℕ) (c : Column) → slice_get cs i ≡ Some c → is_null (column vs i) ≡ false → suits c (column vs i) ≡ true
typed_at at [] vs t i c is there = absurd (cc)
typed_at at (d ∷ cs) [] t i c is there = absurd (cc)
typed_at at (d ∷ cs) (v ∷ vs) t zero c is there = let same : d ≡ c = cc in subst (λ e. suits e v ≡ true) same (and_parts _ _ t).0
typed_at at (d ∷ cs) (v ∷ vs) t (suc i) c is there = typed_at (at + 1) cs vs (and_parts _ _ t).1 i c is there

pub typed_column : (cs : List Column) (r : Row) → are_typed None 0 cs (drop 1 r) ≡ true → (i : ℕ) (c : Column) → slice_get cs i ≡ Some c → is_null (column r (suc i)) ≡ false → suits c (column r (suc i)) ≡ true
typed_column cs r t i c is there = rw next_column (typed_at 0 cs (drop 1 r) t i c is (rw next_column at there))

abbrev pub present : ℕ → Row → Bool
present i r = not (is_null (column r i))

module _ (db : Trees) (sound : IsDatabase (record { schema = keeper_schema; trees = db })) (r : Row) (h : Has (db 3) r) where
  typed : are_typed None 0 the_cache.columns (drop 1 r) ≡ true
  typed = (and_parts _ _ (keeps_at Datatype keeper_schema db the_cache r (sound.obeys.rules Datatype) (inr (inr (inl refl))) h)).0

  all_present : are_present None 0 the_cache.columns r ≡ true
  all_present = keeps_at NotNull keeper_schema db the_cache r (sound.obeys.rules NotNull) (inr (inr (inl refl))) h

  text_at : (i : ℕ) (c : Column) → slice_get the_cache.columns i ≡ Some c → c.is_strict ≡ true → c.kind ≡ kind.Text → present (suc i) r ≡ true → column r (suc i) ≡ Text (bytes (column r (suc i)))
  text_at i c is strict of there =
      let full = not-true _ there in
      text_is _ (rw (strict, of) at (typed_column the_cache.columns r typed i c is full)) full

  int_at : (i : ℕ) (c : Column) → slice_get the_cache.columns i ≡ Some c → c.is_strict ≡ true → c.kind ≡ kind.Integer → present (suc i) r ≡ true → column r (suc i) ≡ Int (id_in (column r (suc i)))
  int_at i c is strict of there =
      let full = not-true _ there in
      int_of _ (rw (strict, of) at (typed_column the_cache.columns r typed i c is full)) full

  pub record HasValue : Type 0 where
    pub cvalue : column r 4 ≡ Text (value_in r).cvalue
    pub fine : column r 5 ≡ Int (value_in r).fine
    pub result : column r 6 ≡ Text (value_in r).result
    pub finished : column r 7 ≡ Int (value_in r).finished
    pub job : column r 8 ≡ Int (value_in r).job
    pub rebuild : column r 9 ≡ Int (value_in r).rebuild

  -- the columns from one on are there
  abbrev present_from : ℕ → ℕ → Bool
  present_from zero i = true
  present_from (suc n) i = present i r && present_from n (suc i)

  pub value_is : HasValue
  value_is =
      let p1 = and_parts (present 1 r) (present_from 8 2) all_present in
      let p2 = and_parts (present 2 r) (present_from 7 3) p1.1 in
      let p3 = and_parts (present 3 r) (present_from 6 4) p2.1 in
      let p4 = and_parts (present 4 r) (present_from 5 5) p3.1 in
      let p5 = and_parts (present 5 r) (present_from 4 6) p4.1 in
      let p6 = and_parts (present 6 r) (present_from 3 7) p5.1 in
      let p7 = and_parts (present 7 r) (present_from 2 8) p6.1 in
      let p8 = and_parts (present 8 r) (present_from 1 9) p7.1 in
      let p9 = and_parts (present 9 r) true p8.1 in
      record {
        cvalue = text_at 3 _ refl refl refl p4.0;
        fine = int_at 4 _ refl refl refl p5.0;
        result = text_at 5 _ refl refl refl p6.0;
        finished = int_at 6 _ refl refl refl p7.0;
        job = int_at 7 _ refl refl refl p8.0;
        rebuild = int_at 8 _ refl refl refl p9.0;
      }
