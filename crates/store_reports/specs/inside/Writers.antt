-- What the functions that write add.
use Rattle.std.specs.Prelude.{◌≡◌, ℕ, List, ◌++◌, codes, filter, not, Result, OnOk}
use Rattle.std.specs.Global.{Vec}
use Rattle.value_core.specs.Printed.{quoted}
use Rattle.keeper_core.specs.declared.tables.CacheRow.{CacheRow}
use Rattle.session_rules.specs.StoreTexts.{is_set, number, value_text}

-- unless something failed, there are these bytes more
abbrev pub Adds : {A E : Type 0} → Result A E → Vec ℕ → Vec ℕ → List ℕ → Type 0
Adds result old new more = OnOk result (new.items ≡ old.items ++ more)

-- the operation and key of a result, and its value if there is one
abbrev pub target_text : CacheRow → List ℕ
target_text r = r.op ++ (codes " " ++ (quoted r.ckey ++ value_text r.cvalue))

-- the job of a result, and when it finished
abbrev pub end_text : CacheRow → List ℕ
end_text r = codes " " ++ (number r.job ++ (codes " at " ++ number r.finished))

-- the results that failed
abbrev pub failed_rows : List CacheRow → List CacheRow
failed_rows rs = filter (λ r. not (is_set r.fine)) rs
