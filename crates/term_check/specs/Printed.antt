-- Printed kinds, as bytes.
use Rattle.std.specs.Prelude.{ℕ, List, ◌++◌, codes}
use Rattle.value_core.specs.declared.value.Kind.{Kind, Kind-F, fold-Kind}
use Rattle.value_core.specs.Printed.{pair_text}
use Rattle.term_check.specs.declared.wanted.Wanted.{Wanted, Wanted-F, fold-Wanted}

-- a list of items of a printed kind
abbrev pub list_text : List ℕ → List ℕ
list_text a = codes "[" ++ (a ++ codes "]")

-- an outcome of a value of a printed kind
abbrev pub outcome_text : List ℕ → List ℕ
outcome_text a = codes "out(" ++ (a ++ codes ")")

-- one layer of a kind, whose parts are printed
abbrev pub kind_text_step : Kind-F (List ℕ) → List ℕ
kind_text_step Kind-F.Text = codes "text"
kind_text_step Kind-F.Num = codes "num"
kind_text_step Kind-F.Unit = codes "unit"
kind_text_step (Kind-F.Pair a b) = pair_text a b
kind_text_step (Kind-F.List a) = list_text a
kind_text_step (Kind-F.Out a) = outcome_text a

-- a kind
abbrev pub kind_text : Kind → List ℕ
kind_text = fold-Kind (List ℕ) kind_text_step

-- one layer of a kind that is wanted, whose parts are printed
abbrev pub wanted_text_step : Wanted-F (List ℕ) → List ℕ
wanted_text_step Wanted-F.Any = codes "any"
wanted_text_step Wanted-F.Text = codes "text"
wanted_text_step Wanted-F.Num = codes "num"
wanted_text_step Wanted-F.Unit = codes "unit"
wanted_text_step (Wanted-F.Pair a b) = pair_text a b
wanted_text_step (Wanted-F.List a) = list_text a
wanted_text_step (Wanted-F.Out a) = outcome_text a

-- a kind that is wanted
abbrev pub wanted_text : Wanted → List ℕ
wanted_text = fold-Wanted (List ℕ) wanted_text_step
