-- The summary that the command `make` is to print.
use Rattle.std.specs.Prelude.{ℕ, List, ◌++◌, codes}
use Rattle.session_rules.specs.StoreTexts.{count_line}

-- the lines of so many nodes, versions and orders
abbrev pub summary_text : ℕ → ℕ → ℕ → List ℕ
summary_text nodes versions orders =
    count_line (codes "nodes") nodes
    ++ (count_line (codes "versions") versions ++ count_line (codes "orders") orders)
