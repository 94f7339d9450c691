-- Lists that grow by more triples.
use Rattle.std.specs.Prelude.{◌≡◌, ◌++◌, List, Result, OnOk}
use Rattle.value_core.specs.declared.state.Triple.{Triple}

-- after Ok the triples are the old ones and these
abbrev pub Adds : {A E : Type 0} → List Triple → List Triple → List Triple → Result A E → Type 0
Adds more old new result = OnOk result (new ≡ old ++ more)
