-- What the texts on inputs do.
use Rattle.std.proofs.Common.{◌≡◌, ℕ, ℤ, Bool, true, false, cond, if◌then◌else◌, List, [], ◌∷◌, None, Ok, refl, sym, ap, subst}
use Rattle.sqlite.specs.Order.{Row}
use Rattle.sqlite.specs.declared.types.Value.{Value}
use Rattle.sqlite.specs.declared.types.Value.TheVariants.{Null, Int, Text}
use Rattle.sqlite.specs.Tree.{Trees}
use Rattle.sqlite.specs.Term.{Term, lit, col}
use Rattle.sqlite.specs.Ops.{unary}
use Rattle.sqlite.specs.Kind.TheVariants.{Integer}
use Rattle.sqlite.specs.Cast.{cast, cast_row}
use Rattle.sqlite.specs.Command.TheVariants.{InsertOr}
use Rattle.sqlite.specs.Source.TheVariants.{Values}
use Rattle.sqlite_schema.specs.declared.command.Conflict.TheVariants.{Replace}
use Rattle.sqlite.specs.Edit.{next_rowid, with_rowid}
use Rattle.sqlite.specs.Rowids.TheVariants.{Chosen}
use Rattle.sqlite.specs.Does.{Tally, Does}
use Rattle.sqlite.specs.Rows.{Task, mended}
use Rattle.sqlite.specs.Effect.{Database, IsDatabase}
use Rattle.sqlite.specs.State.{State, mode_of, Executes, Shows}
use Rattle.sqlite.specs.Listing.{understood}
use Rattle.sqlite.proofs.Callers.{IsPlain, statement_of, runs_as}
use Rattle.sqlite_tied.specs.Compute.{everything}
use Rattle.sql_keeper.specs.inside.Schemas.{keeper_schema, the_inputs, input_replace}
use Rattle.sql_keeper.proofs.Texts.{input_replace_is}
use Rattle.sql_keeper.proofs.Parts.{went, same_value, Replaced, replaces}

either : (b : Bool) (x : Value) → cond b x x ≡ x
either true x = refl
either false x = refl

pub cast_null : cast Integer Null ≡ Null
unfolding unary
cast_null = either _ Null

pub cast_int : (n : ℤ) → cast Integer (Int n) ≡ Int n
unfolding unary
cast_int n = either _ (Int n)

pub input_replace_plain : IsPlain (understood keeper_schema input_replace)
unfolding understood everything
input_replace_plain = (refl, refl)

abbrev terms : List Term
terms = lit Null ∷ col 0 0 ∷ col 0 1 ∷ []

abbrev pub input_row : Trees → List ℕ → List ℕ → Row
input_row db name literal = Int (next_rowid (db 1)) ∷ Text name ∷ Text literal ∷ []

numbered_row : (db : Trees) (name literal : List ℕ) → with_rowid Chosen (db 1) (cast_row the_inputs (mended Replace the_inputs (Null ∷ Text name ∷ Text literal ∷ []))) ≡ input_row db name literal
numbered_row db name literal = rw cast_null

pub record PutsInput (name literal : List ℕ) (old new : State) : Type 0 where
  pub schema : new.now.schema ≡ keeper_schema
  pub rows : Replaced keeper_schema the_inputs old.now.trees new.now.trees (input_row old.now.trees name literal)
  pub sound : IsDatabase new.now
  pub shown : Shows old new new.now (if old.in_transaction then old.committed else new.now) old.in_transaction

pub puts_input : (old new : State) (name literal : List ℕ) (count : ℕ) → old.now.schema ≡ keeper_schema → Executes input_replace (Text name ∷ Text literal ∷ []) old new (Ok count)
    → PutsInput name literal old new
puts_input old new name literal count has h =
    let params = Text name ∷ Text literal ∷ [] in
    let db = old.now.trees in
    let command = InsertOr 1 Replace (Values terms 3) [] in
    let w = runs_as input_replace params old new keeper_schema has command input_replace_is input_replace_plain count h in
    let text = statement_of input_replace (understood keeper_schema input_replace) in
    let done = went (subst (λ s. Does old.step_limit (mode_of old) params (record old.now { schema = s }) text None command (Ok (w.tally, new.now))) has w.changed) in
    let task : Task = record { limit = old.step_limit; keys = (mode_of old).keys; schema = keeper_schema; table = the_inputs; params = params } in
    let now : new.now ≡ record { schema = keeper_schema; trees = done.0.trees } = ap (λ (p : Tally × Database). p.1) (same_value (went (went done.2).2).2) in
    let it = replaces task (λ olds news. refl) db terms 3 (Null ∷ params) (input_row db name literal) done.0 refl refl (numbered_row db name literal) (ap (λ v. v ∷ Text name ∷ Text literal ∷ []) (cast_int (next_rowid (db 1)))) done.1 in
    record {
      schema = ap (λ (d : Database). d.schema) now;
      rows = subst (λ (d : Database). Replaced keeper_schema the_inputs db d.trees (input_row db name literal)) (sym now) it;
      sound = w.sound;
      shown = w.shown;
    }
