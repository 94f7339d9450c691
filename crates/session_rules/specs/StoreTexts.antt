-- What is printed of stored tables.
use Rattle.std.specs.Prelude.{ℕ, ℤ, pos, nat_abs, Bool, not, if◌then◌else◌, List, [], ◌∷◌, ◌++◌, length, filter, codes, decimal}
use Rattle.std.specs.List.{flat_map}
use Rattle.std.specs.Ordering.{int_eq}
use Rattle.value_core.specs.Printed.{quoted}
use Rattle.keeper_core.specs.declared.tables.CacheRow.{CacheRow}
use Rattle.keeper_core.specs.declared.tables.Table.{Table}
use Rattle.keeper_core.specs.declared.tables.Table.TheVariants.{Meta, Inputs, Cache, Logs}
use Rattle.keeper_core.specs.declared.tables.Tables.{Tables}
use Rattle.keeper_core.specs.WellFormed.{next_of}
use Rattle.report_text.specs.FaultLines.{row_line}

-- a number that isn't negative
abbrev pub number : ℤ → List ℕ
number n = decimal (nat_abs n)

-- whether a column says yes
abbrev pub is_set : ℤ → Bool
is_set flag = int_eq flag (pos 1)

-- a text after a space, unless it is empty
abbrev pub value_text : List ℕ → List ℕ
value_text [] = []
value_text (b ∷ bs) = codes " " ++ quoted (b ∷ bs)

-- whether it succeeded
abbrev pub outcome_word : CacheRow → List ℕ
outcome_word r = if is_set r.fine then codes "ok" else codes "failed"

-- ` rebuild`, if it is to be made anew
abbrev pub rebuild_text : CacheRow → List ℕ
rebuild_text r = if is_set r.rebuild then codes " rebuild" else []

-- `OP "KEY" ok JOB at T` or `OP "KEY" failed JOB at T`, with the value after the key if there is one
unfoldable pub result_line : CacheRow → List ℕ
result_line r =
    r.op ++ (codes " " ++ (quoted r.ckey ++ (value_text r.cvalue ++ (codes " " ++ (outcome_word r ++ (codes " " ++ (number r.job
    ++ (codes " at " ++ (number r.finished ++ (rebuild_text r ++ codes "\n"))))))))))

-- all results, in the order of loading
unfoldable pub results_text : Tables → List ℕ
results_text t = flat_map result_line t.cache

-- a word and a number
unfoldable pub count_line : List ℕ → ℕ → List ℕ
count_line word n = word ++ (codes " " ++ (decimal n ++ codes "\n"))

-- how many results there are, how many of them failed, how many logs, and the number of the next job
unfoldable pub stats_text : Tables → List ℕ
stats_text t =
    count_line (codes "rows") (length t.cache)
    ++ (count_line (codes "failed") (length (filter (λ r. not (is_set r.fine)) t.cache))
    ++ (count_line (codes "logs") (length t.logs)
    ++ count_line (codes "next") (nat_abs (next_of t.meta))))

-- the name of a table
abbrev pub table_word : Table → List ℕ
table_word Meta = codes "meta"
table_word Inputs = codes "inputs"
table_word Cache = codes "cache"
table_word Logs = codes "logs"

-- `error: row TABLE N`
abbrev pub bad_row_line : Table × ℕ → List ℕ
bad_row_line bad = row_line (table_word bad.0) bad.1
