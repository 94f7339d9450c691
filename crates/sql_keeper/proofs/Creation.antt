-- What the texts that make the tables do.
use Rattle.std.proofs.Common.{◌≡◌, ℕ, false, if◌then◌else◌, List, [], ◌∷◌, ◌++◌, None, Ok, Err, Result, OnOk, refl, sym, ap, subst, ◌∙◌}
use Rattle.sqlite.specs.declared.error.Error.{Error}
use Rattle.sqlite.specs.Tree.{Trees}
use Rattle.sqlite.specs.Table.{Table}
use Rattle.sqlite.specs.Schema.{Schema}
use Rattle.sqlite.specs.Command.TheVariants.{CreateTable}
use Rattle.sqlite.specs.Compile.{table_defined_by}
use Rattle.sqlite.specs.Change.{created, next_tree, KeepsRows}
use Rattle.sqlite.specs.Does.{Tally, lacks_sequence}
use Rattle.sqlite.specs.Effect.{Database}
use Rattle.sqlite.specs.State.{State, Writes, Executes, ExecutesInside}
use Rattle.sqlite.specs.Listing.{understood}
use Rattle.sqlite.proofs.Callers.{IsPlain, command_of, statement_of, runs_as}
use Rattle.sqlite_tied.specs.Compute.{everything}
use Rattle.std.specs.List.{AllByRecursion}
use Rattle.sql_keeper.specs.inside.Schemas.{no_schema, meta, inputs, cache, logs, meta_text, inputs_text, cache_text, logs_text}
use Rattle.sql_keeper.specs.inside.Fresh.{IsMaking, MakesTable, cache_schema, inputs_schema, meta_schema}
use Rattle.sql_keeper.proofs.Texts.{meta_is, inputs_is, cache_is, logs_is}
use Rattle.sql_keeper.proofs.Parts.{went, same_value}

all_added : {X : Type 0} (P : X → Type 0) (xs : List X) (x : X) → AllByRecursion P xs → P x → AllByRecursion P (xs ++ x ∷ [])
all_added P [] x all here = (here, tt)
all_added P (y ∷ xs) x all here = (all.0, all_added P xs x all.1 here)

still_empty : (tables : List Table) (old new : Trees) → AllByRecursion (λ t. old t.tree ≡ []) tables → KeepsRows tables old new → AllByRecursion (λ t. new t.tree ≡ []) tables
still_empty [] old new all kept = tt
still_empty (t ∷ tables) old new all kept = (kept.0 ∙ all.0, still_empty tables old new all.1 kept.1)

module _ (schema : Schema) (text : List ℕ) (made : Table)
    (is : command_of (understood schema text) ≡ CreateTable) (whole : statement_of text (understood schema text) ≡ text) (plain : IsPlain (understood schema text))
    (defined : table_defined_by text ≡ Ok made) (unsequenced : lacks_sequence (created schema made) ≡ false) where
  makes : (old new : State) (count : ℕ) → IsMaking schema old → Executes text [] old new (Ok count) → MakesTable (created schema made) old new
  makes old new count making h =
      let w = subst (λ t. Writes old new None CreateTable t [] count) whole (runs_as text [] old new schema making.schema CreateTable is plain count h) in
      let all = went w.changed in
      let first = went all.1 in
      let table = first.1 in
      let both : Ok table.table ≡ Ok made = sym table.defined ∙ defined in
      let same : table.table ≡ made = cc in
      let schema_is : first.0.schema ≡ created schema made = table.is ∙ ap (λ s. created s table.table) making.schema ∙ ap (created schema) same in
      let unneeded : lacks_sequence first.0.schema ≡ false = ap lacks_sequence schema_is ∙ unsequenced in
      let now : new.now ≡ first.0 = ap (λ (p : Tally × Database). p.1) (same_value all.2) ∙ same_value (rw unneeded at first.2) in
      let new_empty : new.now.trees (next_tree schema) ≡ [] = ap (λ (d : Database). d.trees (next_tree schema)) now ∙ subst (λ s. first.0.trees (next_tree s) ≡ []) making.schema table.empty in
      let rows : KeepsRows schema.tables old.now.trees new.now.trees =
      subst (λ (d : Database). KeepsRows schema.tables old.now.trees d.trees) (sym now) (subst (λ (s : Schema). KeepsRows s.tables old.now.trees first.0.trees) making.schema table.others) in
      record {
        making = record {
          is_open = w.shown.is_open;
          schema = ap (λ (d : Database). d.schema) now ∙ schema_is;
          sound = w.sound;
          empty = all_added (λ (t : Table). new.now.trees t.tree ≡ []) schema.tables (record made { tree = next_tree schema }) (still_empty schema.tables old.now.trees new.now.trees making.empty rows) new_empty;
          inside = w.shown.mode ∙ making.inside;
        };
        kept = w.shown.committed_is ∙ ap (λ b. if b then old.committed else new.now) making.inside;
      }

  -- inside a transaction, whatever is answered
  pub makes_inside : (old new : State) (r : Result ℕ Error) → IsMaking schema old → ExecutesInside 0 text [] old new r → OnOk r (MakesTable (created schema made) old new)
  makes_inside old new (Ok count) making h = makes old new count making h.0
  makes_inside old new (Err e) making h = tt

meta_command : (command_of (understood no_schema meta_text) ≡ CreateTable) × (statement_of meta_text (understood no_schema meta_text) ≡ meta_text) × IsPlain (understood no_schema meta_text)
unfolding understood everything
meta_command = (refl, refl, (refl, refl))

pub meta_made : (old new : State) (r : Result ℕ Error) → IsMaking no_schema old → ExecutesInside 0 meta_text [] old new r → OnOk r (MakesTable (created no_schema meta) old new)
meta_made = makes_inside no_schema meta_text meta meta_command.0 meta_command.1 meta_command.2 meta_is refl

inputs_command : (command_of (understood meta_schema inputs_text) ≡ CreateTable) × (statement_of inputs_text (understood meta_schema inputs_text) ≡ inputs_text) × IsPlain (understood meta_schema inputs_text)
unfolding understood everything
inputs_command = (refl, refl, (refl, refl))

pub inputs_made : (old new : State) (r : Result ℕ Error) → IsMaking meta_schema old → ExecutesInside 0 inputs_text [] old new r → OnOk r (MakesTable (created meta_schema inputs) old new)
inputs_made = makes_inside meta_schema inputs_text inputs inputs_command.0 inputs_command.1 inputs_command.2 inputs_is refl

cache_command : (command_of (understood inputs_schema cache_text) ≡ CreateTable) × (statement_of cache_text (understood inputs_schema cache_text) ≡ cache_text) × IsPlain (understood inputs_schema cache_text)
unfolding understood everything
cache_command = (refl, refl, (refl, refl))

pub cache_made : (old new : State) (r : Result ℕ Error) → IsMaking inputs_schema old → ExecutesInside 0 cache_text [] old new r → OnOk r (MakesTable (created inputs_schema cache) old new)
cache_made = makes_inside inputs_schema cache_text cache cache_command.0 cache_command.1 cache_command.2 cache_is refl

logs_command : (command_of (understood cache_schema logs_text) ≡ CreateTable) × (statement_of logs_text (understood cache_schema logs_text) ≡ logs_text) × IsPlain (understood cache_schema logs_text)
unfolding understood everything
logs_command = (refl, refl, (refl, refl))

pub logs_made : (old new : State) (r : Result ℕ Error) → IsMaking cache_schema old → ExecutesInside 0 logs_text [] old new r → OnOk r (MakesTable (created cache_schema logs) old new)
logs_made = makes_inside cache_schema logs_text logs logs_command.0 logs_command.1 logs_command.2 logs_is refl
