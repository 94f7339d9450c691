-- What the laws of chains ask, as their proofs use it.
use Rattle.std.proofs.Common.{◌≡◌, true, List, [], ◌∷◌, Some}
use Rattle.value_core.specs.declared.value.Value.{Value}
use Rattle.value_core.specs.Literals.{literal_read}
use Rattle.value_core.specs.Printed.{printed}
use Rattle.term_core.specs.declared.program.InputDecl.{InputDecl}
use Rattle.core_rules.specs.Changes.{takes}
use Rattle.keeper_core.specs.Chains.{ArePrintable}
use Rattle.keeper_core.proofs.PrintedReads.{printed_is_read}

-- each input's value is of the declared kind, and is what its printed form is read as
abbrev pub AreReadBack : List InputDecl → List Value → Type 0
AreReadBack [] [] = Unit {0}
AreReadBack [] (v ∷ vs) = ⊥
AreReadBack (d ∷ ds) [] = ⊥
AreReadBack (d ∷ ds) (v ∷ vs) = (takes d v ≡ true) × (literal_read (printed v) ≡ Some v) × AreReadBack ds vs

pub read_back : (ds : List InputDecl) (vs : List Value) → ArePrintable ds vs → AreReadBack ds vs
read_back [] [] h = tt
read_back [] (v ∷ vs) h = absurd h
read_back (d ∷ ds) [] h = absurd h
read_back (d ∷ ds) (v ∷ vs) (kind, printable, h) = (kind, printed_is_read v printable, read_back ds vs h)
