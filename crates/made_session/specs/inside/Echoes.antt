-- Orders that were echoed.
use Rattle.std.specs.Prelude.{◌≡◌, List, [], ◌∷◌}
use Rattle.op_keys.specs.declared.order.Exit.{Exit}
use Rattle.op_keys.specs.declared.order.Order.{Order}
use Rattle.session_rules.specs.Runs.{echo}

-- each of these orders has the exit that echoes it
abbrev pub AreEchoed : List (Order × Exit) → Type 0
AreEchoed [] = Unit {0}
AreEchoed (run ∷ runs) = (run.1 ≡ echo run.0) × AreEchoed runs
