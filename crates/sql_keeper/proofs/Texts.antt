-- What the texts of the statements mean.
use Rattle.std.proofs.Common.{◌≡◌, ℕ, pos, negsuc, List, [], ◌∷◌, codes, false, None, Ok, refl}
use Rattle.sqlite.specs.Command.TheVariants.{Insert, InsertOr, Select, Update, Delete}
use Rattle.sqlite.specs.Source.TheVariants.{Values}
use Rattle.sqlite.specs.Compile.{table_defined_by}
use Rattle.sqlite.specs.Query.{Query, inner, end}
use Rattle.sqlite.specs.Term.{Term, lit, col, op2}
use Rattle.sqlite.specs.declared.types.Value.TheVariants.{Null, Int}
use Rattle.sqlite_sql.specs.declared.ops.BinaryOp.TheVariants.{Compare}
use Rattle.sqlite_sql.specs.declared.ops.CompareOp.TheVariants.{Eq}
use Rattle.sqlite.specs.Collation.TheVariants.{Binary}
use Rattle.sqlite_value.specs.Keys.{ascending}
use Rattle.sqlite.proofs.Callers.{command_of}
use Rattle.sqlite_tied.specs.Compute.{everything}
use Rattle.sqlite.specs.Listing.{understood}
use Rattle.sqlite_schema.specs.declared.command.Conflict.TheVariants.{Replace}
use Rattle.sqlite_schema.specs.declared.program.Program.{Program}
use Rattle.sql_keeper.specs.inside.Schemas.{keeper_schema, meta_text, inputs_text, cache_text, logs_text, meta, inputs, cache, logs, meta_insert, meta_update, meta_select, input_select, log_insert, log_select, cache_delete, input_replace, cache_replace}

pub meta_is : table_defined_by meta_text ≡ Ok meta
unfolding understood everything
meta_is = refl

pub inputs_is : table_defined_by inputs_text ≡ Ok inputs
unfolding understood everything
inputs_is = refl

pub cache_is : table_defined_by cache_text ≡ Ok cache
unfolding understood everything
cache_is = refl

pub logs_is : table_defined_by logs_text ≡ Ok logs
unfolding understood everything
logs_is = refl

abbrev pub plain_program : Query → Program
plain_program q = record { lets = []; body = q }

abbrev pub simple : ℕ → List Term → List Term → Query
simple tree filter project = record {
  from = inner tree end;
  filter = filter;
  group = None;
  project = project;
  distinct = false;
  collations = [];
  order = [];
  limit = lit (Int (negsuc 0));
  offset = lit (Int (pos 0));
}

abbrev pub equals : Term → Term → Term
equals a b = op2 (Compare Eq Binary) a b

pub meta_insert_is : command_of (understood keeper_schema meta_insert) ≡ Insert 0 (Values (lit (Int (pos 1)) ∷ lit Null ∷ lit (Int (pos 2)) ∷ lit (Int (pos 1)) ∷ []) 4)
unfolding understood everything
meta_insert_is = refl

pub log_insert_is : command_of (understood keeper_schema log_insert) ≡ Insert 3 (Values (col 0 0 ∷ lit Null ∷ col 0 1 ∷ []) 3)
unfolding understood everything
log_insert_is = refl

pub meta_update_is : command_of (understood keeper_schema meta_update) ≡ Update 0 (plain_program (simple 0 (equals (col 1 0) (lit (Int (pos 1))) ∷ []) (col 1 0 ∷ col 1 0 ∷ lit Null ∷ col 1 2 ∷ col 0 0 ∷ [])))
unfolding understood everything
meta_update_is = refl

pub log_select_is : command_of (understood keeper_schema log_select) ≡ Select (plain_program (simple 5 (equals (col 1 0) (col 0 0) ∷ []) (col 1 2 ∷ []))) (codes "output" ∷ [])
unfolding understood everything
log_select_is = refl

pub meta_select_is : command_of (understood keeper_schema meta_select) ≡ Select (plain_program (simple 0 [] (col 1 0 ∷ col 1 2 ∷ col 1 3 ∷ []))) (codes "id" ∷ codes "format" ∷ codes "next_job" ∷ [])
unfolding understood everything
meta_select_is = refl

pub cache_delete_is : command_of (understood keeper_schema cache_delete)
    ≡ Delete 2 (plain_program (simple 3 (equals (col 1 1) (col 0 0) ∷ equals (col 1 2) (col 0 1) ∷ equals (col 1 3) (col 0 2) ∷ []) (col 1 0 ∷ [])))
unfolding understood everything
cache_delete_is = refl

pub input_replace_is : command_of (understood keeper_schema input_replace) ≡ InsertOr 1 Replace (Values (lit Null ∷ col 0 0 ∷ col 0 1 ∷ []) 3) []
unfolding understood everything
input_replace_is = refl

pub cache_replace_is : command_of (understood keeper_schema cache_replace)
    ≡ InsertOr 2 Replace (Values (lit Null ∷ col 0 0 ∷ col 0 1 ∷ col 0 2 ∷ col 0 3 ∷ col 0 4 ∷ col 0 5 ∷ col 0 6 ∷ col 0 7 ∷ col 0 8 ∷ []) 10) []
unfolding understood everything
cache_replace_is = refl

pub input_select_is : command_of (understood keeper_schema input_select) ≡ Select (plain_program (record (simple 1 [] (col 1 1 ∷ col 1 2 ∷ [])) { order = (col 1 1, ascending Binary) ∷ [] })) (codes "name" ∷ codes "literal" ∷ [])
unfolding understood everything
input_select_is = refl
