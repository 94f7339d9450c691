-- What the texts that drop the tables do.
use Rattle.std.proofs.Common.{◌≡◌, ℕ, if◌then◌else◌, List, [], Option, Some, None, Ok, Err, Result, OnOk, refl, ap, subst, ◌∙◌, slice_get}
use Rattle.sqlite.specs.declared.error.Error.{Error}
use Rattle.sqlite.specs.Table.{Table}
use Rattle.sqlite.specs.Schema.{Schema}
use Rattle.sqlite.specs.Command.TheVariants.{DropTable}
use Rattle.sqlite.specs.Change.{without_table}
use Rattle.sqlite.specs.Does.{AtPlace, Does, Drops, Tally}
use Rattle.sqlite.specs.Effect.{Database}
use Rattle.sqlite.specs.State.{State, Executes, ExecutesInside, mode_of}
use Rattle.sqlite.specs.Listing.{understood}
use Rattle.sqlite.proofs.Callers.{IsPlain, command_of, runs_as, statement_of}
use Rattle.sqlite_tied.specs.Compute.{everything}
use Rattle.sql_keeper.specs.inside.Schemas.{no_schema, old_schema, the_inputs, the_logs, the_meta, the_old_cache}
use Rattle.sql_keeper.specs.inside.Moving.{DropsTable, IsDropping, after_cache, after_inputs, after_logs, after_meta, drop_cache, drop_inputs, drop_logs, drop_meta}
use Rattle.sql_keeper.specs.inside.Fresh.{MakesTable}
use Rattle.sql_keeper.proofs.Parts.{went, same_value}

module _ (schema : Schema) (text : List ℕ) (at : ℕ) (table : Table)
    (is : command_of (understood schema text) ≡ DropTable at) (plain : IsPlain (understood schema text)) (there : slice_get schema.tables at ≡ Some table) where
  drops : (old new : State) (count : ℕ) → IsDropping schema old → Executes text [] old new (Ok count) → DropsTable (without_table schema table.tree) old new
  drops old new count dropping h =
      let w = runs_as text [] old new schema dropping.schema (DropTable at) is plain count h in
      let full = statement_of text (understood schema text) in
      let does = subst (λ s. Does old.step_limit (mode_of old) [] (record old.now { schema = s }) full None (DropTable at) (Ok (w.tally, new.now))) dropping.schema w.changed in
      let on = subst (λ (o : Option Table). AtPlace (λ t. Drops (record { limit = old.step_limit; keys = (mode_of old).keys; schema = schema; table = t; params = [] }) (mode_of old) old.now.trees) o (Ok (w.tally, new.now))) there does in
      let emptied = went on in
      let uncounted = went emptied.2 in
      let tested = went uncounted.2 in
      let left = went tested.2 in
      let now : new.now ≡ left.0 = ap (λ (p : Tally × Database). p.1) (same_value left.2) in
      record {
        dropping = record { is_open = w.shown.is_open; schema = ap (λ (d : Database). d.schema) now ∙ left.1.0; sound = w.sound; inside = w.shown.mode ∙ dropping.inside };
        kept = w.shown.committed_is ∙ ap (λ b. if b then old.committed else new.now) dropping.inside;
      }

  -- inside a transaction, whatever is answered
  pub drops_inside : (old new : State) (r : Result ℕ Error) → IsDropping schema old → ExecutesInside 0 text [] old new r → OnOk r (DropsTable (without_table schema table.tree) old new)
  drops_inside old new (Ok count) dropping h = drops old new count dropping h.0
  drops_inside old new (Err e) dropping h = tt

logs_command : (command_of (understood old_schema drop_logs) ≡ DropTable 3) × IsPlain (understood old_schema drop_logs)
unfolding understood everything
logs_command = (refl, (refl, refl))

pub logs_dropped : (old new : State) (r : Result ℕ Error) → IsDropping old_schema old → ExecutesInside 0 drop_logs [] old new r → OnOk r (DropsTable after_logs old new)
logs_dropped = drops_inside old_schema drop_logs 3 the_logs logs_command.0 logs_command.1 refl

cache_command : (command_of (understood after_logs drop_cache) ≡ DropTable 2) × IsPlain (understood after_logs drop_cache)
unfolding understood everything
cache_command = (refl, (refl, refl))

pub cache_dropped : (old new : State) (r : Result ℕ Error) → IsDropping after_logs old → ExecutesInside 0 drop_cache [] old new r → OnOk r (DropsTable after_cache old new)
cache_dropped = drops_inside after_logs drop_cache 2 the_old_cache cache_command.0 cache_command.1 refl

inputs_command : (command_of (understood after_cache drop_inputs) ≡ DropTable 1) × IsPlain (understood after_cache drop_inputs)
unfolding understood everything
inputs_command = (refl, (refl, refl))

pub inputs_dropped : (old new : State) (r : Result ℕ Error) → IsDropping after_cache old → ExecutesInside 0 drop_inputs [] old new r → OnOk r (DropsTable after_inputs old new)
inputs_dropped = drops_inside after_cache drop_inputs 1 the_inputs inputs_command.0 inputs_command.1 refl

meta_command : (command_of (understood after_inputs drop_meta) ≡ DropTable 0) × IsPlain (understood after_inputs drop_meta)
unfolding understood everything
meta_command = (refl, (refl, refl))

meta_none : (old new : State) (r : Result ℕ Error) → IsDropping after_inputs old → ExecutesInside 0 drop_meta [] old new r → OnOk r (DropsTable after_meta old new)
meta_none = drops_inside after_inputs drop_meta 0 the_meta meta_command.0 meta_command.1 refl

blank : (old new : State) (r : Result ℕ Error) → OnOk r (DropsTable after_meta old new) → OnOk r (MakesTable no_schema old new)
blank old new (Ok count) d = record {
  making = record { is_open = d.dropping.is_open; schema = d.dropping.schema; sound = d.dropping.sound; empty = tt; inside = d.dropping.inside };
  kept = d.kept;
}
blank old new (Err e) d = tt

-- then no table is left
pub meta_dropped : (old new : State) (r : Result ℕ Error) → IsDropping after_inputs old → ExecutesInside 0 drop_meta [] old new r → OnOk r (MakesTable no_schema old new)
meta_dropped old new r dropping h = blank old new r (meta_none old new r dropping h)
