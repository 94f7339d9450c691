-- How often triples are wanted, and the wanted ones in order.
use Rattle.std.specs.Prelude.{ℕ, ◌+◌, Bool, if◌then◌else◌, List, [], ◌∷◌}
use Rattle.std.specs.List.{list_any}
use Rattle.std.specs.FinMap.Entries.{by_order}
use Rattle.value_core.specs.Orders.{same_triple, triple_cmp}
use Rattle.value_core.specs.declared.state.Triple.{Triple}

-- how often a triple is in a list
abbrev pub count_of : List Triple → Triple → ℕ
count_of [] t = 0
count_of (u ∷ us) t = (if same_triple u t then 1 else 0) + count_of us t

-- whether a triple is among the wanted ones
abbrev pub is_wanted : List Triple → Triple → Bool
is_wanted ws t = list_any (λ u. same_triple u t) ws

-- triples in order with one more at its rank, unless it is among them
abbrev pub with_triple : Triple → List Triple → List Triple
with_triple t [] = t ∷ []
with_triple t (u ∷ us) = by_order (triple_cmp t u) (t ∷ u ∷ us) (u ∷ us) (u ∷ with_triple t us)

-- triples in order, each once
abbrev pub in_order : List Triple → List Triple
in_order [] = []
in_order (t ∷ ts) = with_triple t (in_order ts)
