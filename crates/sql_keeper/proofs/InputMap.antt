-- Inputs as a map, after the text that puts one.
use Rattle.std.proofs.Common.{◌≡◌, ◌≢◌, ◌⊎◌, inl, inr, ℕ, ℤ, pos, Bool, true, false, not, ◌&&◌, ◌||◌, cond, if◌then◌else◌, List, [], ◌∷◌, map, filter, Option, Some, None, Ok, Err, Result, OnOk, Ordering, Less, Equal, Greater, IsTrue, refl, sym, ap, subst, ◌∙◌, true≢false, arith}
use Rattle.std.proofs.lemmas.Bool.{and_parts, and_from, or_left, not-true}
use Rattle.std.specs.List.{list_any, list_all}
use Rattle.std.specs.Ordering.{nat_cmp, int_cmp}
use Rattle.std.specs.Cmp.{tied_itself}
use Rattle.std.specs.Cmp.Lexicographic.{slice_cmp, nat_list_cmp_total}
use Rattle.std.specs.FinMap.{insert, IsAntisymmetric, slice_cmp-IsAntisymmetric, nat_cmp-IsAntisymmetric}
use Rattle.sqlite.specs.declared.types.Value.{Value}
use Rattle.sqlite.specs.declared.types.Value.TheVariants.{Null, Int, Real, Text, Blob}
use Rattle.sqlite.specs.Order.{Row, value_cmp, column, bytes}
use Rattle.sqlite.specs.Schema.{Schema}
use Rattle.sqlite.specs.Tree.{Trees}
use Rattle.sqlite.specs.Effect.{IsDatabase}
use Rattle.sqlite_value.specs.Keys.{plain}
use Rattle.sqlite_value.proofs.OrderLemmas.{value_cmp-Text}
use Rattle.sqlite_sql.specs.Ops.{is_null}
use Rattle.sqlite_schema.specs.declared.schema.Constraint.TheVariants.{Datatype, NotNull, Unique}
use Rattle.sqlite_schema.specs.Rules.{is_of, agree, guards, clashes, are_typed, are_present}
use Rattle.sqlite.specs.Kind.TheVariants as kind
use Rattle.sqlite_rules.specs.Lists.{Has}
use Rattle.sqlite_rules.specs.Keys.{shares}
use Rattle.sqlite_rules.proofs.RuleLemmas.{keeps_at}
use Rattle.sql_keeper.specs.inside.Schemas.{keeper_schema, the_inputs}
use Rattle.sql_keeper.specs.Rows.{table_of, name_in, literal_in}
use Rattle.value_core.specs.Orders.{bytes_cmp}
use Rattle.keeper_core.specs.Contents.{Bytes}
use Rattle.sql_keeper.proofs.Parts.{Replaced}
use Rattle.sql_keeper.proofs.Inputs.{input_row}
use Rattle.sql_keeper.specs.inside.Databases.{IsKeyed, IsKeeperDatabase}
use Rattle.sql_keeper.specs.inside.Steps.{Makes}
use Rattle.keeper_core.specs.Contents.{with_literal}
use Rattle.sqlite.specs.State.{State, Executes, ExecutesInside}
use Rattle.sqlite.specs.declared.error.Error.{Error}
use Rattle.sql_keeper.specs.Rows.{meta_in, key_in, value_in, job_in}
use Rattle.keeper_core.specs.Contents.{key_cmp}
use Rattle.sql_keeper.specs.inside.Schemas.{input_replace}
use Rattle.sql_keeper.proofs.Inputs.{puts_input}
use Rattle.sql_keeper.proofs.Rows.{equal_plain, plain_equal, replaced_map, replaced_keyed}

pub bytes_same : IsAntisymmetric bytes_cmp
bytes_same = slice_cmp-IsAntisymmetric nat_cmp-IsAntisymmetric

-- ---- a value of a type

pub text_is : (v : Value) → is_of kind.Text v ≡ true → is_null v ≡ false → v ≡ Text (bytes v)
text_is Null h p = absurd (cc)
text_is (Int n) h p = absurd (cc)
text_is (Real x) h p = absurd (cc)
text_is (Text t) h p = refl
text_is (Blob b) h p = absurd (cc)

pub record IsInput (r : Row) : Type 0 where
  pub name : column r 1 ≡ Text (name_in r)
  pub literal : column r 2 ≡ Text (literal_in r)

input_typed : (r : Row) → are_typed None 0 the_inputs.columns (Rattle.std.proofs.Common.drop 1 r) ≡ true → are_present None 0 the_inputs.columns r ≡ true → IsInput r
input_typed [] t p = absurd (cc)
input_typed (a ∷ []) t p = absurd (cc)
input_typed (a ∷ b ∷ []) t p = absurd (let h = (and_parts (not (is_null b)) false p).1 in cc)
input_typed (a ∷ b ∷ c ∷ rest) t p =
    let typed = and_parts _ _ t in
    let present = and_parts (not (is_null b)) (not (is_null c) && true) p in
    record {
      name = text_is b typed.0 (not-true _ present.0);
      literal = text_is c (and_parts _ _ typed.1).0 (not-true _ (and_parts _ _ present.1).0);
    }

module _ (schema : Schema) (listed : Has schema.tables the_inputs) (db : Trees) (sound : IsDatabase (record { schema = schema; trees = db })) where
  pub input_is : (r : Row) → Has (db 1) r → IsInput r
  input_is r h =
      let typed = keeps_at Datatype schema db the_inputs r (sound.obeys.rules Datatype) listed h in
      let present = keeps_at NotNull schema db the_inputs r (sound.obeys.rules NotNull) listed h in
      input_typed r (and_parts _ _ typed).0 present

-- two rows share the key where they have one name
pub agree_names : (r s : Row) → IsInput r → IsInput s → name_in r ≡ name_in s → agree plain (1 ∷ []) r (1 ∷ []) s ≡ true
agree_names r s p q e =
    let texts : value_cmp (column r 1) (column s 1) ≡ Equal =
    rw (p.name, q.name) (value_cmp-Text _ _ ∙ ap (λ t. slice_cmp nat_cmp t (name_in s)) e ∙ tied_itself nat_list_cmp_total (name_in s)) in
    and_from _ _ (plain_equal (column r 1) (column s 1) (rw p.name) (rw q.name) texts) refl

names_agree : (r s : Row) → IsInput r → IsInput s → agree plain (1 ∷ []) r (1 ∷ []) s ≡ true → name_in r ≡ name_in s
names_agree r s p q h =
    let t = equal_plain (column r 1) (column s 1) (and_parts _ _ h).0 in
    bytes_same (name_in r) (name_in s) (sym (value_cmp-Text _ _) ∙ (rw (p.name, q.name) at t))

pub sharing : (r s : Row) → agree plain (1 ∷ []) r (1 ∷ []) s ≡ true → list_any (shares None the_inputs s r) keeper_schema.indexes ≡ true
sharing r s h = or_left _ _ h

shared : (r s : Row) → list_any (shares None the_inputs s r) keeper_schema.indexes ≡ true → agree plain (1 ∷ []) r (1 ∷ []) s ≡ true
shared r s h = go (agree plain (1 ∷ []) r (1 ∷ []) s) h
  where
    go : (b : Bool) → (b || false) ≡ true → b ≡ true
    go true h = refl
    go false h = h

module _ (db after : Trees) (sound : IsDatabase (record { schema = keeper_schema; trees = db })) (keyed : IsKeyed (db 1)) (name literal : Bytes)
    (it : Replaced keeper_schema the_inputs db after (input_row db name literal)) where
  new_is : IsInput (input_row db name literal)
  new_is = record { name = refl; literal = refl }

  sharing_names : (r s : Row) → Has (db 1) r → Has (db 1) s → name_in r ≡ name_in s → list_any (shares None the_inputs s r) keeper_schema.indexes ≡ true
  sharing_names r s h k e = sharing r s (agree_names r s (input_is keeper_schema (inr (inl refl)) db sound r h) (input_is keeper_schema (inr (inl refl)) db sound s k) e)

  unique : (r : Row) → Has (db 1) r → list_all (λ i. not (guards i the_inputs && clashes i.order i.columns (db 1) r)) keeper_schema.indexes ≡ true
  unique r h = keeps_at Unique keeper_schema db the_inputs r (sound.obeys.rules Unique) (inr (inl refl)) h

  meets : (r : Row) → Has (db 1) r → name_in r ≡ name → list_any (shares None the_inputs (input_row db name literal) r) keeper_schema.indexes ≡ true
  meets r h e = sharing r (input_row db name literal) (agree_names r (input_row db name literal) (input_is keeper_schema (inr (inl refl)) db sound r h) new_is e)

  met : (r : Row) → Has (db 1) r → list_any (shares None the_inputs (input_row db name literal) r) keeper_schema.indexes ≡ true → name_in r ≡ name
  met r h e = names_agree r (input_row db name literal) (input_is keeper_schema (inr (inl refl)) db sound r h) new_is (shared r (input_row db name literal) e)

  pub input_map : table_of bytes_cmp name_in literal_in (after 1) ≡ insert (table_of bytes_cmp name_in literal_in (db 1)) name literal
  input_map = replaced_map nat_list_cmp_total bytes_same name_in literal_in keeper_schema the_inputs (db 1) keyed sharing_names unique db after (Text name ∷ Text literal ∷ []) refl it meets met

  pub input_keyed : IsKeyed (after 1)
  input_keyed = replaced_keyed nat_list_cmp_total bytes_same name_in literal_in keeper_schema the_inputs (db 1) keyed sharing_names unique db after (Text name ∷ Text literal ∷ []) refl it meets met

pub input_step : (old new : State) (name literal : Bytes) (count : ℕ) → IsKeeperDatabase old.now → IsTrue old.in_transaction → Executes input_replace (Text name ∷ Text literal ∷ []) old new (Ok count)
    → Makes (with_literal name literal) old new
input_step old new name literal count database inside h =
    let puts = puts_input old new name literal count database.schema h in
    let db = old.now.trees in
    let sound : IsDatabase (record { schema = keeper_schema; trees = db }) = subst (λ s. IsDatabase (record { schema = s; trees = db })) database.schema database.sound in
    let same = λ (t : ℕ) (other : t ≢ 1) (one : 2 ≢ t) (two : 4 ≢ t). puts.rows.others t other (one, (two, tt)) in
    let meta = same 0 (λ e. omega arith) (λ e. omega arith) (λ e. omega arith) in
    let cache = same 3 (λ e. omega arith) (λ e. omega arith) (λ e. omega arith) in
    let logs = same 5 (λ e. omega arith) (λ e. omega arith) (λ e. omega arith) in
    record {
      is_open = puts.shown.is_open;
      database = record { schema = puts.schema; sound = puts.sound; meta = subst IsKeyed (sym meta) database.meta; inputs = input_keyed db new.now.trees sound database.inputs name literal puts.rows; cache = subst IsKeyed (sym cache) database.cache; logs = subst IsKeyed (sym logs) database.logs };
      contents = λ i. record {
        meta = ap (map meta_in) meta i;
        inputs = input_map db new.now.trees sound database.inputs name literal puts.rows i;
        cache = ap (table_of key_cmp key_in value_in) cache i;
        logs = ap (table_of int_cmp job_in literal_in) logs i;
      };
      inside = puts.shown.mode ∙ inside;
      kept = puts.shown.committed_is ∙ ap (λ b. if b then old.committed else new.now) inside;
    }

pub input_inside : (old new : State) (name literal : Bytes) (r : Result ℕ Error) → IsKeeperDatabase old.now → IsTrue old.in_transaction → ExecutesInside 0 input_replace (Text name ∷ Text literal ∷ []) old new r
    → OnOk r (Makes (with_literal name literal) old new)
input_inside old new name literal (Ok count) database inside h = input_step old new name literal count database inside h.0
input_inside old new name literal (Err e) database inside h = tt
