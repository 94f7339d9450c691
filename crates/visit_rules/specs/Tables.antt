-- How each kind of term is visited: its parts in order, then its body once for each item, then what it reads, and its state.
use Rattle.std.specs.Prelude.{ℕ, ◌^◌, ◌<◌, length, if◌then◌else◌, List, [], ◌∷◌, map, codes, Option, Some, None, slice_get}
use Rattle.value_core.specs.Parts.{items_in, text_in}
use Rattle.value_core.specs.declared.value.Value.{Value}
use Rattle.value_core.specs.declared.value.Value.TheVariants as value
use Rattle.value_core.specs.declared.state.State.{State}
use Rattle.value_core.specs.declared.state.State.TheVariants.{Fine, Failed, Active}
use Rattle.value_core.specs.declared.state.Triple.{Triple}
use Rattle.op_keys.specs.Names.{index_named}
use Rattle.term_core.specs.Evaluation.{Bound, Context, entry_state, fits, innermost, state_or_unit, triple_of, value_or_unit}
use Rattle.term_core.specs.States.{both, caught, gated, listed, mapped, observed, paired, passed}
use Rattle.term_core.specs.World.{entry_of}
use Rattle.term_core.specs.declared.program.Program.{Program}
use Rattle.term_core.specs.declared.program.Term.{Term-F}
use Rattle.visit_rules.specs.declared.visit.Read.{Read}
use Rattle.visit_rules.specs.declared.visit.Read.TheVariants as read

-- ---- what is visited below a term

-- the parts that are visited once, under the values bound to the term
abbrev pub direct_parts : {R : Type 0} → Term-F R → List R
direct_parts (Term-F.Return v) = []
direct_parts (Term-F.Fail kind m) = []
direct_parts (Term-F.Input n) = []
direct_parts (Term-F.Node n) = []
direct_parts (Term-F.Var n) = []
direct_parts (Term-F.Map f t) = t ∷ []
direct_parts (Term-F.Pair a b) = a ∷ b ∷ []
direct_parts (Term-F.Bind n t u) = t ∷ []
direct_parts (Term-F.ListMap n t u) = t ∷ []
direct_parts (Term-F.ListIter n t u) = t ∷ []
direct_parts (Term-F.Catch t) = t ∷ []
direct_parts (Term-F.State t) = t ∷ []
direct_parts (Term-F.Gate on t) = on ∷ t ∷ []
direct_parts (Term-F.All ts) = ts
direct_parts (Term-F.Build op k) = k ∷ []
direct_parts (Term-F.Output op k v) = k ∷ v ∷ []

-- a body, with the name that an item is bound to in it
pub record Body (R : Type 0) : Type 0 where
  pub name : List ℕ
  pub term : R

-- the body that is visited for each item, if there is one
abbrev pub body_of : {R : Type 0} → Term-F R → Option (Body R)
body_of (Term-F.Return v) = None
body_of (Term-F.Fail kind m) = None
body_of (Term-F.Input n) = None
body_of (Term-F.Node n) = None
body_of (Term-F.Var n) = None
body_of (Term-F.Map f t) = None
body_of (Term-F.Pair a b) = None
body_of (Term-F.Bind n t u) = Some (record { name = n; term = u })
body_of (Term-F.ListMap n t u) = Some (record { name = n; term = u })
body_of (Term-F.ListIter n t u) = Some (record { name = n; term = u })
body_of (Term-F.Catch t) = None
body_of (Term-F.State t) = None
body_of (Term-F.Gate on t) = None
body_of (Term-F.All ts) = None
body_of (Term-F.Build op k) = None
body_of (Term-F.Output op k v) = None

-- the first state, or unit's
abbrev pub first_state : List State → State
first_state [] = Fine value.Unit
first_state (s ∷ ss) = s

-- all states but the first
abbrev pub later_states : List State → List State
later_states [] = []
later_states (s ∷ ss) = ss

-- the second state, or unit's
abbrev pub second_state : List State → State
second_state ss = first_state (later_states ss)

-- the value of a fine state
abbrev pub bound_by : State → List Value
bound_by (Fine v) = v ∷ []
bound_by (Failed o m) = []
bound_by (Active o g) = []

-- the items of the list of a fine state
abbrev pub listed_by : State → List Value
listed_by (Fine v) = items_in v
listed_by (Failed o m) = []
listed_by (Active o g) = []

-- what the body is visited for, by the states of the parts: the value of a bind, the items of a list
abbrev pub items_for : {R : Type 0} → Term-F R → List State → List Value
items_for (Term-F.Return v) ss = []
items_for (Term-F.Fail kind m) ss = []
items_for (Term-F.Input n) ss = []
items_for (Term-F.Node n) ss = []
items_for (Term-F.Var n) ss = []
items_for (Term-F.Map f t) ss = []
items_for (Term-F.Pair a b) ss = []
items_for (Term-F.Bind n t u) ss = bound_by (first_state ss)
items_for (Term-F.ListMap n t u) ss = listed_by (first_state ss)
items_for (Term-F.ListIter n t u) ss = listed_by (first_state ss)
items_for (Term-F.Catch t) ss = []
items_for (Term-F.State t) ss = []
items_for (Term-F.Gate on t) ss = []
items_for (Term-F.All ts) ss = []
items_for (Term-F.Build op k) ss = []
items_for (Term-F.Output op k v) ss = []

-- ---- what a term reads

-- a program has fewer inputs, nodes and operations than there are numbers of 32 bits
pub record IsSmall (program : Program) : Type 0 where
  pub few_inputs : length program.inputs < 2 ^ 32
  pub few_nodes : length program.nodes < 2 ^ 32
  pub few_ops : length program.ops < 2 ^ 32

-- the number of the input of this name
abbrev pub input_index : Context → List ℕ → ℕ
input_index given n = index_named 0 (map (λ d. d.name) given.program.inputs) n

-- the number of the node of this name
abbrev pub node_place : Context → List ℕ → ℕ
node_place given n = index_named 0 (map (λ d. d.name) given.program.nodes) n

-- a triple with its entry; one whose order has a word that is too long is not looked up
abbrev pub lookup_read : Context → Triple → Read
lookup_read given t = if fits (slice_get given.program.ops t.op) t then read.Lookup t (entry_of given.world t) else read.Nothing

-- the lookup of a build's key, if its state is fine
abbrev pub build_read : Context → List ℕ → State → Read
build_read given op (Fine k) = lookup_read given (triple_of given op (text_in k) [])
build_read given op (Failed o m) = read.Nothing
build_read given op (Active o g) = read.Nothing

-- the lookup of an output's key and value, if both states are fine
abbrev pub output_read : Context → List ℕ → State → State → Read
output_read given op (Fine k) (Fine x) = lookup_read given (triple_of given op (text_in k) (text_in x))
output_read given op (Fine k) (Failed o m) = read.Nothing
output_read given op (Fine k) (Active o g) = read.Nothing
output_read given op (Failed o m) x = read.Nothing
output_read given op (Active o g) x = read.Nothing

-- what a term reads, by the states of its parts
abbrev pub reading : {R : Type 0} → Context → Term-F R → List State → Read
reading given (Term-F.Return v) ss = read.Nothing
reading given (Term-F.Fail kind m) ss = read.Nothing
reading given (Term-F.Input n) ss = read.Input (input_index given n) (value_or_unit (slice_get given.inputs (input_index given n)))
reading given (Term-F.Node n) ss = read.Node (node_place given n) (state_or_unit (slice_get given.earlier (node_place given n)))
reading given (Term-F.Var n) ss = read.Nothing
reading given (Term-F.Map f t) ss = read.Nothing
reading given (Term-F.Pair a b) ss = read.Nothing
reading given (Term-F.Bind n t u) ss = read.Nothing
reading given (Term-F.ListMap n t u) ss = read.Nothing
reading given (Term-F.ListIter n t u) ss = read.Nothing
reading given (Term-F.Catch t) ss = read.Nothing
reading given (Term-F.State t) ss = read.Nothing
reading given (Term-F.Gate on t) ss = read.Nothing
reading given (Term-F.All ts) ss = read.Nothing
reading given (Term-F.Build op k) ss = build_read given op (first_state ss)
reading given (Term-F.Output op k v) ss = output_read given op (first_state ss) (second_state ss)

-- ---- the state of a term

-- the state of what was read, which for a fine row is the value of its text
abbrev pub state_read : ℕ → (List ℕ → Value) → Read → State
state_read node meant read.Nothing = Failed node (codes "order too long")
state_read node meant (read.Input place v) = Fine v
state_read node meant (read.Node place s) = s
state_read node meant (read.Lookup t e) = entry_state node meant e

-- the state of a bind, by that of its left term and those of its bodies
abbrev pub bind_state : State → List State → State
bind_state (Fine v) ss = first_state ss
bind_state (Failed o m) ss = Failed o m
bind_state (Active o g) ss = Active o g

-- the state of a list term, by that of its list and those of its bodies
abbrev pub list_state : (List Value → State) → State → List State → State
list_state made (Fine v) ss = both ss made
list_state made (Failed o m) ss = Failed o m
list_state made (Active o g) ss = Active o g

-- the state of a build, by that of its key and what was read
abbrev pub build_state : ℕ → State → Read → State
build_state node (Fine k) r = state_read node value.Words r
build_state node (Failed o m) r = Failed o m
build_state node (Active o g) r = Active o g

-- the state of an output, by those of its key and its value and what was read
abbrev pub output_state : ℕ → State → State → Read → State
output_state node (Fine k) (Fine x) r = state_read node (λ t. value.Unit) r
output_state node (Fine k) (Failed o m) r = Failed o m
output_state node (Fine k) (Active o g) r = Active o g
output_state node (Failed o m) x r = Failed o m
output_state node (Active o g) (Fine x) r = Active o g
output_state node (Active o g) (Failed p m) r = Failed p m
output_state node (Active o g) (Active p h) r = Active o g

-- the state of a term in a node under bound values, by what was read and by the states of the parts and of the bodies
abbrev pub state_by : {R : Type 0} → ℕ → Term-F R → Bound → Read → List State → List State → State
state_by node (Term-F.Return v) bound r ps bs = Fine v
state_by node (Term-F.Fail kind m) bound r ps bs = Failed node m
state_by node (Term-F.Input n) bound r ps bs = state_read node value.Words r
state_by node (Term-F.Node n) bound r ps bs = state_read node value.Words r
state_by node (Term-F.Var n) bound r ps bs = Fine (innermost value.Unit bound n)
state_by node (Term-F.Map f t) bound r ps bs = mapped node f (first_state ps)
state_by node (Term-F.Pair a b) bound r ps bs = both (first_state ps ∷ second_state ps ∷ []) (paired node)
state_by node (Term-F.Bind n t u) bound r ps bs = bind_state (first_state ps) bs
state_by node (Term-F.ListMap n t u) bound r ps bs = list_state (listed node) (first_state ps) bs
state_by node (Term-F.ListIter n t u) bound r ps bs = list_state passed (first_state ps) bs
state_by node (Term-F.Catch t) bound r ps bs = caught (first_state ps)
state_by node (Term-F.State t) bound r ps bs = observed (first_state ps)
state_by node (Term-F.Gate on t) bound r ps bs = gated (first_state ps) (second_state ps)
state_by node (Term-F.All ts) bound r ps bs = both ps passed
state_by node (Term-F.Build op k) bound r ps bs = build_state node (first_state ps) r
state_by node (Term-F.Output op k v) bound r ps bs = output_state node (first_state ps) (second_state ps) r
