-- What a session does, as a list of outputs in order.
use Rattle.std.specs.Prelude.{ℕ, List, [], ◌∷◌, ◌++◌, map}
use Rattle.op_keys.specs.declared.order.Exit.{Exit}
use Rattle.op_keys.specs.declared.order.Order.{Order}
use Rattle.core_rules.specs.declared.done.Delta.{Delta}

-- a delta is committed, a text is written, or an order is run and exits
pub data Output : Type 0 where
  Commit : Delta → Output
  Print : List ℕ → Output
  Run : Order → Exit → Output

-- what the outputs commit, in order
abbrev pub deltas : List Output → List Delta
deltas [] = []
deltas (Commit delta ∷ outputs) = delta ∷ deltas outputs
deltas (Print text ∷ outputs) = deltas outputs
deltas (Run order exit ∷ outputs) = deltas outputs

-- what they write, one text after the other
abbrev pub texts : List Output → List ℕ
texts [] = []
texts (Commit delta ∷ outputs) = texts outputs
texts (Print text ∷ outputs) = text ++ texts outputs
texts (Run order exit ∷ outputs) = texts outputs

-- the orders that they run, each with its exit
abbrev pub runs : List Output → List (Order × Exit)
runs [] = []
runs (Commit delta ∷ outputs) = runs outputs
runs (Print text ∷ outputs) = runs outputs
runs (Run order exit ∷ outputs) = (order, exit) ∷ runs outputs

-- the exits alone
abbrev pub exits : List Output → List Exit
exits outputs = map (λ r. r.1) (runs outputs)
