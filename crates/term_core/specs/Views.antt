-- The data of Rust types as the definitions have it.
use Rattle.std.specs.Prelude.{ℕ, List}
use Rattle.value_core.specs.declared.value.Value.{Value}
use Rattle.value_core.specs.declared.value.Value.TheVariants as value
use Rattle.term_core.specs.declared.context.Context as rust
use Rattle.term_core.specs.declared.lookup.OpKind.{OpKind}
use Rattle.term_core.specs.declared.lookup.OpKind.TheVariants as kind
use Rattle.term_core.specs.Evaluation.{Context, context_of}
use Rattle.term_core.specs.World.{World}

-- what a term is evaluated in, with the world that the entries are
abbrev pub context_in : {E : Type 0} → (E → World) → rust.Context E → Context
context_in world c = context_of c.program.now c.node c.inputs.now c.earlier.now (world c.entries.now)

-- the value of a fine row with this text
abbrev pub value_for : OpKind → List ℕ → Value
value_for kind.Build t = value.Words t
value_for kind.Output t = value.Unit
