-- The nodes of stored terms.
use Rattle.std.specs.Prelude.{ℕ, List, slice_index_or}
use Rattle.sqlite_value.specs.declared.value.Value.TheVariants.{Null}
use Rattle.sqlite_schema.specs.declared.code.Op.{Op}
use Rattle.sqlite_schema.specs.declared.code.Op.TheVariants.{Literal}

-- the node at a place, and NULL where there is none
abbrev pub op_at : List Op → ℕ → Op
op_at ops at = slice_index_or ops at (Literal Null)
