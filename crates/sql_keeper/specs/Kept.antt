-- What contracts know of a keeper over a database.
use Rattle.std.specs.Prelude.{◌≡◌, ◌⊎◌, ℕ, Bool, if◌then◌else◌, [], filter, Option, Some, None, IfSome, refl}
use Rattle.std.specs.Coded.{Coded, code_by, coded×, coded_ℕ, coded_bool}
use Rattle.sqlite.specs.Held.{Held, held_code, state}
use Rattle.sqlite.specs.State.{State, HasCleanDisk}
use Rattle.sqlite.specs.Store.{Ghosts}
use Rattle.sqlite.specs.Tree.{Trees}
use Rattle.sqlite_catalog.specs.Listing.{is_table_row}
use Rattle.sqlite_trees.specs.Objects.{catalog_tree}
use Rattle.keeper_core.specs.declared.stored.Stored.{Stored}
use Rattle.keeper_core.specs.KeeperCalls.{IsSure, Known}
use Rattle.keeper_core.specs.EitherSchema.{fresh_stored}
use Rattle.sql_keeper.specs.Rows.{stored}

-- a connection, whether its tables are of the first schema, how often a call has failed, and the connection as the last commit left it
pub record Kept (S : Type 0) : Type 0 where
  pub conn : Held S
  pub is_old : Bool
  pub faults : ℕ
  pub last : Held S

-- from its parts
abbrev pub kept : {S : Type 0} → Held S → Bool → ℕ → Held S → Kept S
kept conn is_old faults last = record { conn = conn; is_old = is_old; faults = faults; last = last }

-- its code
abbrev pub kept_code : {S : Type 0} → Coded S → Coded (Kept S)
kept_code {S} store =
    code_by (Held S × (Bool × (ℕ × Held S))) (coded× (held_code store) (coded× coded_bool (coded× coded_ℕ (held_code store))))
    (λ k. (k.conn, (k.is_old, (k.faults, k.last)))) (λ p. record { conn = p.0; is_old = p.1.0; faults = p.1.1.0; last = p.1.1.1 }) (λ _. refl)

-- the tables of the last commit, unless the connection is shut
abbrev pub tables_of : State → Option Stored
tables_of s = if s.is_open then Some (stored s.committed.trees) else None

-- the tables of trees that an open after a crash may find, if the disk returned what was written
pub record MayLeave (s : State) (x : Stored) : Type 0 where
  pub clean : HasCleanDisk s
  pub db : Trees
  pub left : s.may_leave db
  pub is : x ≡ stored db

-- the tables as the connection shows them, and those that a stop may leave since the last commit
abbrev pub known_of : {S : Type 0} → Ghosts S → Kept S → Known
known_of g k = record { tables = tables_of (state g k.conn); after_stop = MayLeave (state g k.last) }

-- the catalog of the trees lists no table
abbrev pub ListsNoTable : Trees → Type 0
ListsNoTable db = filter is_table_row (db catalog_tree) ≡ []

-- what an adopted connection is known to hold: the tables of its last commit, or fresh ones if it had none; a stop leaves just them
pub record Adopts (before : Trees) (k : Known) : Type 0 where
  pub tables : IfSome k.tables (λ s. (s ≡ stored before) ⊎ (ListsNoTable before × (s ≡ fresh_stored)))
  pub sure : IsSure k

-- the same of the keeper that adopted it
abbrev pub AdoptsLast : {S : Type 0} → Ghosts S → Held S → Kept S → Type 0
AdoptsLast g before k = Adopts (state g before).committed.trees (known_of g k)

-- if the disk returned what was written, an open after a crash finds tables that a stop may leave
abbrev pub LeavesWithin : Known → State → Type 0
LeavesWithin k s = HasCleanDisk s → (db : Trees) → s.may_leave db → k.after_stop (stored db)
