-- The laws of stored tables, as statements.
use Rattle.std.specs.Prelude.{◌≡◌, ℕ, ◌<◌, ◌≤◌, ◌^◌, nat_abs, true, None, IfSome, is_some}
use Rattle.value_core.specs.Literals.{literal_read}
use Rattle.value_core.specs.Names.{is_name}
use Rattle.sched_rows.specs.declared.row.Row.{Row}
use Rattle.core_rules.specs.declared.done.Delta.{Delta}
use Rattle.keeper_core.specs.Commits.{with_delta}
use Rattle.keeper_core.specs.Contents.{Contents, fresh, loaded}
use Rattle.keeper_core.specs.WellFormed.{first_bad, is_short_text, next_of}

-- no row isn't well formed
abbrev pub IsWellFormed : Contents → Type 0
IsWellFormed t = first_bad (loaded t) ≡ None

-- the next number of a job
abbrev pub next_in : Contents → ℕ
next_in t = nat_abs (next_of t.meta)

-- a row of an operation's name, whose texts may be stored
pub record AreRowTexts (r : Row) : Type 0 where
  pub op : is_name r.op ≡ true
  pub key : is_short_text 65536 r.key ≡ true
  pub value : is_short_text 65536 r.value ≡ true
  pub result : is_short_text 65536 r.result ≡ true

-- such a row, that finished at a time and whose job is below a number
pub record IsStorableRow (next : ℕ) (r : Row) : Type 0 where
  pub texts : AreRowTexts r
  pub finished : r.finished ≤ 2 ^ 60
  pub some_job : 1 ≤ r.job
  pub job : r.job < next

-- an input's name with a literal, a row and the log of a job that may be stored, and a next number that isn't below the one before
pub record IsStorable (before : ℕ) (d : Delta) : Type 0 where
  pub next : before ≤ d.next
  pub last : d.next ≤ 2 ^ 62
  pub input : IfSome d.input (λ e. (is_name e.0 ≡ true) × (is_some (literal_read e.1) ≡ true))
  pub row : IfSome d.put (IsStorableRow d.next)
  pub log : IfSome d.log (λ e. (1 ≤ e.0) × (e.0 < d.next))

-- a fresh store is well formed
abbrev pub FreshIsWellFormed : Type 0
FreshIsWellFormed = IsWellFormed fresh

-- what may be stored leaves well-formed tables well formed
abbrev pub CommitsKeepTables : Type 0
CommitsKeepTables = (t : Contents) (d : Delta) → IsWellFormed t → IsStorable (next_in t) d → IsWellFormed (with_delta d t)
