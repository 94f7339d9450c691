-- The codes of the types that hold themselves, and of those over them: a `Model` whose value has one in it asks for its code.
use Rattle.std.specs.Coded.{Coded}
use Rattle.value_core.specs.declared.state.State.{State}
use Rattle.value_core.specs.declared.state.Triple.{Triple}
use Rattle.value_core.specs.declared.value.Kind.{Kind}
use Rattle.value_core.specs.declared.value.Outcome.{Outcome}
use Rattle.value_core.specs.declared.value.Value.{Value}
use Rattle.value_core.specs.contracts.state.State as state
use Rattle.value_core.specs.contracts.state.Triple as triple
use Rattle.value_core.specs.contracts.value.Kind as kind
use Rattle.value_core.specs.contracts.value.Outcome as outcome
use Rattle.value_core.specs.contracts.value.Value as value

-- the code of values
abbrev pub value_code : Coded Value
value_code = value.the_row.coded

-- the code of outcomes
abbrev pub outcome_code : Coded Outcome
outcome_code = outcome.the_row.coded

-- the code of kinds
abbrev pub kind_code : Coded Kind
kind_code = kind.the_row.coded

-- the code of states
abbrev pub state_code : Coded State
state_code = state.the_row.coded

-- the code of triples
abbrev pub triple_code : Coded Triple
triple_code = triple.the_row.coded
