-- What a term comes to in a node, with what it wants and how many terms are visited.
use Rattle.std.specs.Prelude.{ℕ, Bool, true, if◌then◌else◌, List, [], ◌∷◌, ◌++◌, map, codes, Option, Some, None, slice_get}
use Rattle.std.specs.Str.{bytes_eq}
use Rattle.value_core.specs.declared.value.Value.{Value}
use Rattle.value_core.specs.declared.value.Value.TheVariants as value
use Rattle.value_core.specs.declared.state.State.{State}
use Rattle.value_core.specs.declared.state.State.TheVariants.{Fine, Failed, Active}
use Rattle.value_core.specs.declared.state.Triple.{Triple}
use Rattle.value_core.specs.declared.function.Fun.{Fun}
use Rattle.op_keys.specs.declared.declarations.OpDecl.{OpDecl}
use Rattle.op_keys.specs.Orders.{order_fits}
use Rattle.term_core.specs.declared.program.Term.{Term, Term-F, fold-Term}
use Rattle.term_core.specs.declared.program.Program.{Program}
use Rattle.term_core.specs.declared.program.InputDecl.{InputDecl}
use Rattle.term_core.specs.declared.program.NodeDecl.{NodeDecl}
use Rattle.term_core.specs.declared.context.Binding.{Binding}
use Rattle.term_core.specs.declared.entries.Entry.{Entry}
use Rattle.term_core.specs.declared.entries.Entry.TheVariants as entry
use Rattle.op_keys.specs.Names.{index_named}
use Rattle.term_core.specs.States.{listed, passed, paired, mapped, caught, observed, gated}
use Rattle.term_core.specs.Runs.{Run, stated, visited, turned, after, then_do, then_both, together}
use Rattle.value_core.specs.Parts.{text_in, items_in}
use Rattle.term_core.specs.World.{World, entry_of}

-- what a term is evaluated in: the pipeline, the index of its node, a value for each input, the states of the earlier nodes, and the entries
pub record Context : Type 0 where
  pub program : Program
  pub node : ℕ
  pub inputs : List Value
  pub earlier : List State
  pub world : World

-- the same, by its parts
abbrev pub context_of : Program → ℕ → List Value → List State → World → Context
context_of program node inputs earlier world = record { program = program; node = node; inputs = inputs; earlier = earlier; world = world }

-- a value that is there, or unit
abbrev pub value_or_unit : Option Value → Value
value_or_unit (Some v) = v
value_or_unit None = value.Unit

-- a state that is there, or unit's
abbrev pub state_or_unit : Option State → State
state_or_unit (Some s) = s
state_or_unit None = Fine value.Unit

-- the value of the input of this name; a name that isn't declared stands for unit
abbrev pub input_named : List InputDecl → List Value → List ℕ → Value
input_named decls values n = value_or_unit (slice_get values (index_named 0 (map (λ d. d.name) decls) n))

-- the state of the earlier node of this name; any other name stands for unit
abbrev pub node_named : List NodeDecl → List State → List ℕ → State
node_named decls states n = state_or_unit (slice_get states (index_named 0 (map (λ d. d.name) decls) n))

-- the value bound last to this name, among those bound in order, or the one that was found before
abbrev pub innermost : Value → List Binding → List ℕ → Value
innermost found [] n = found
innermost found (b ∷ bs) n = innermost (if bytes_eq b.name n then b.value else found) bs n

-- the bound values with one more
abbrev pub bind : List Binding → List ℕ → Value → List Binding
bind bound name v = bound ++ record { name = name; value = v } ∷ []

-- the triple of a key and a value for the operation of this name
abbrev pub triple_of : Context → List ℕ → List ℕ → List ℕ → Triple
triple_of context op key v = record { op = index_named 0 (map (λ d. d.name) context.program.ops) op; key = key; value = v }

-- whether each word of the operation's order is short enough; what isn't declared has no words
abbrev pub fits : Option OpDecl → Triple → Bool
fits (Some d) t = order_fits d t.key t.value
fits None t = true

-- the state of an entry, where a fine row's text stands for a value
abbrev pub entry_state : ℕ → (List ℕ → Value) → Entry → State
entry_state node meant (entry.Fine t) = Fine (meant t)
entry_state node meant (entry.Bad m) = Failed node m
entry_state node meant (entry.Active stage) = Active node stage

-- a triple that is wanted once more
abbrev pub wanted : Context → (List ℕ → Value) → Triple → Run
wanted context meant t = record { state = entry_state context.node meant (entry_of context.world t); wants = t ∷ []; ticks = 0 }

-- the lookup of a triple: one whose order has a word that is too long is not wanted
unfoldable pub looked_up : Context → (List ℕ → Value) → Triple → Run
looked_up context meant t = if fits (slice_get context.program.ops t.op) t then wanted context meant t else stated (Failed context.node (codes "order too long"))

-- the bound values, the innermost last
abbrev pub Bound : Type 0
Bound = List Binding

-- what a term comes to under the bound values
abbrev pub Meaning : Type 0
Meaning = Bound → Run

-- a function of the term's value
unfoldable pub map_run : Context → Fun → Meaning → Meaning
map_run context f t bound = visited (turned (mapped context.node f) (t bound))

-- both terms, as a pair
unfoldable pub pair_run : Context → Meaning → Meaning → Meaning
pair_run context a b bound = visited (together (a bound ∷ b bound ∷ []) (paired context.node))

-- the body under the left term's value
unfoldable pub bind_run : List ℕ → Meaning → Meaning → Meaning
bind_run name left body bound = visited (then_do (left bound) (λ v. body (bind bound name v)))

-- the body under each of the items, and what is made of the values
unfoldable pub items_run : (List Value → State) → List ℕ → List Value → Meaning → Meaning
items_run made name items body bound = together (map (λ x. body (bind bound name x)) items) made

-- the body under each item of a list term
unfoldable pub list_run : (List Value → State) → List ℕ → Meaning → Meaning → Meaning
list_run made name list body bound = visited (then_do (list bound) (λ v. items_run made name (items_in v) body bound))

-- a term's state as an outcome
unfoldable pub outcome_run : (State → State) → Meaning → Meaning
outcome_run turn t bound = visited (turned turn (t bound))

-- both terms are evaluated; the second counts where the first is fine
unfoldable pub gate_run : Meaning → Meaning → Meaning
gate_run on t bound = visited (after (on bound) (gated (on bound).state) (t bound))

-- all terms, as unit
unfoldable pub all_run : List Run → Run
all_run rs = visited (together rs passed)

-- the lookup of a key
unfoldable pub build_run : Context → List ℕ → Meaning → Meaning
build_run context op key bound = visited (then_do (key bound) (λ k. looked_up context value.Words (triple_of context op (text_in k) [])))

-- the lookup of a key and a value
unfoldable pub output_run : Context → List ℕ → Meaning → Meaning → Meaning
output_run context op key v bound = visited (then_both (key bound) (v bound) (λ k x. looked_up context (λ t. value.Unit) (triple_of context op (text_in k) (text_in x))))

-- one layer of a term, where each part is its meaning
abbrev pub term_step : Context → Term-F Meaning → Meaning
term_step context (Term-F.Return v) bound = visited (stated (Fine v))
term_step context (Term-F.Fail kind m) bound = visited (stated (Failed context.node m))
term_step context (Term-F.Input n) bound = visited (stated (Fine (input_named context.program.inputs context.inputs n)))
term_step context (Term-F.Node n) bound = visited (stated (node_named context.program.nodes context.earlier n))
term_step context (Term-F.Var n) bound = visited (stated (Fine (innermost value.Unit bound n)))
term_step context (Term-F.Map f t) bound = map_run context f t bound
term_step context (Term-F.Pair a b) bound = pair_run context a b bound
term_step context (Term-F.Bind n t u) bound = bind_run n t u bound
term_step context (Term-F.ListMap n t u) bound = list_run (listed context.node) n t u bound
term_step context (Term-F.ListIter n t u) bound = list_run passed n t u bound
term_step context (Term-F.Catch t) bound = outcome_run caught t bound
term_step context (Term-F.State t) bound = outcome_run observed t bound
term_step context (Term-F.Gate on t) bound = gate_run on t bound
term_step context (Term-F.All ts) bound = all_run (map (λ t. t bound) ts)
term_step context (Term-F.Build op k) bound = build_run context op k bound
term_step context (Term-F.Output op k v) bound = output_run context op k v bound

-- what a term comes to
abbrev pub eval : Context → Term → Meaning
eval context = fold-Term Meaning (term_step context)
