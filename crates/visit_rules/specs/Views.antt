-- The code of trees.
use Rattle.std.specs.Coded.{Coded}
use Rattle.visit_rules.specs.contracts.visit.Visit as visit
use Rattle.visit_rules.specs.declared.visit.Visit.{Visit}

-- the code of trees of visits
abbrev pub visit_code : Coded Visit
visit_code = visit.the_row.coded
