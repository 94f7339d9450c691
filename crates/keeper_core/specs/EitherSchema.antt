-- What a store holds, under either schema.
use Rattle.std.specs.Prelude.{ℕ, pos, Bool, true, false, if◌then◌else◌, Option, Some, None}
use Rattle.core_rules.specs.declared.done.Delta.{Delta}
use Rattle.keeper_core.specs.declared.stored.Stored.{Stored}
use Rattle.keeper_core.specs.declared.stored.Stored.TheVariants.{Current, Old}
use Rattle.keeper_core.specs.declared.tables.Table.{Table}
use Rattle.keeper_core.specs.declared.tables.Table.TheVariants as table
use Rattle.keeper_core.specs.declared.tables.Tables.{Tables}
use Rattle.keeper_core.specs.Commits.{with_delta}
use Rattle.keeper_core.specs.Migrations.{moved}
use Rattle.keeper_core.specs.WellFormed.{old_first_bad}
use Rattle.keeper_core.specs.Contents.{Bytes, Logs, fresh, has_format, loaded, log_in, meta_rows, old_rows}

-- what a store holds that was just made
abbrev pub fresh_stored : Stored
fresh_stored = Current fresh

-- what is loaded; tables of the first schema that claim to be of the second can't be
abbrev pub loaded_of : Stored → Option Tables
loaded_of (Current t) = Some (loaded t)
loaded_of (Old t) = if has_format (pos 2) t.meta then None else Some (meta_rows t.meta)

-- the logs
abbrev pub logs_of : Stored → Logs
logs_of (Current t) = t.logs
logs_of (Old t) = t.logs

-- the log of a job
abbrev pub log_of : Stored → ℕ → Option Bytes
log_of s job = log_in (logs_of s) job

-- the tables after one commit; those of the first schema take none
abbrev pub committed : Delta → Stored → Stored
committed d (Current t) = Current (with_delta d t)
committed d (Old t) = Old t

-- whether the tables are of the first schema
abbrev pub is_old : Stored → Bool
is_old (Current t) = false
is_old (Old t) = true

-- whether the tables are of the second schema and say so
abbrev pub is_current : Stored → Bool
is_current (Current t) = has_format (pos 2) t.meta
is_current (Old t) = false

-- the tables after a migration
abbrev pub migrated : Stored → Stored
migrated (Current t) = Current t
migrated (Old t) = Current (moved t)

-- the first row that keeps tables from being migrated
abbrev pub first_unmovable : Stored → Option (Table × ℕ)
first_unmovable (Current t) = if has_format (pos 2) t.meta then None else Some (table.Meta, 1)
first_unmovable (Old t) = old_first_bad (old_rows t)
