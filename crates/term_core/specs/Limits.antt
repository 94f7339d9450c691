-- The limits of a program.
use Rattle.std.specs.Prelude.{◌≡◌, ℕ, ◌+◌, ◌^◌, ◌≤◌, ◌≤ℤ◌, ℤ, pos, negsuc, max, nat_le, nat_lt, Bool, true, false, ◌&&◌, List, [], ◌∷◌, length, map, sum, Option, Some, None}
use Rattle.std.specs.List.{AllByRecursion, list_all}
use Rattle.value_core.specs.Names.{is_name}
use Rattle.value_core.specs.Values.{weight_of}
use Rattle.value_core.specs.declared.value.Outcome.{Outcome}
use Rattle.value_core.specs.declared.value.Value.{Value, Value-F, out-Value}
use Rattle.op_keys.specs.Names.{are_apart, are_clients_apart}
use Rattle.op_keys.specs.declared.declarations.ClientDecl.{ClientDecl}
use Rattle.op_keys.specs.declared.declarations.Expiry.{Expiry}
use Rattle.op_keys.specs.declared.declarations.Expiry.TheVariants.{Never, After, Daily, Monthly}
use Rattle.op_keys.specs.declared.declarations.OpDecl.{OpDecl}
use Rattle.op_keys.specs.declared.declarations.PoolDecl.{PoolDecl}
use Rattle.op_keys.specs.declared.declarations.WorkerDecl.{WorkerDecl}
use Rattle.term_core.specs.declared.program.InputDecl.{InputDecl}
use Rattle.term_core.specs.declared.program.NodeDecl.{NodeDecl}
use Rattle.term_core.specs.declared.program.Program.{Program}
use Rattle.term_core.specs.declared.program.Term.{Term, Term-F, fold-Term}
use Rattle.term_core.specs.States.{weight_limit}

-- whether a text has at most 65,536 bytes
abbrev pub is_text : List ℕ → Bool
is_text t = nat_le (length t) 65536

-- whether an optional text is within the limit
abbrev pub is_optional_text : Option (List ℕ) → Bool
is_optional_text (Some t) = is_text t
is_optional_text None = true

-- whether a layer of a value is a text within the limit
abbrev pub is_text_layer : Value-F Outcome Value → Bool
is_text_layer (Value-F.Words t) = is_text t
is_text_layer v = false

-- whether a layer of a value is a text, a number of 64 bits or a list of at most 256 texts
abbrev pub is_input_layer : Value-F Outcome Value → Bool
is_input_layer (Value-F.Words t) = is_text t
is_input_layer (Value-F.Num n) = nat_lt n (2 ^ 64)
is_input_layer (Value-F.List xs) = nat_le (length xs) 256 && list_all (λ x. is_text_layer (out-Value x)) xs
is_input_layer v = false

-- whether a layer of a value is one of these or unit
abbrev pub is_literal_layer : Value-F Outcome Value → Bool
is_literal_layer Value-F.Unit = true
is_literal_layer v = is_input_layer v

-- whether a value is a literal of a term, within the limit of weight
abbrev pub is_literal : Value → Bool
is_literal v = is_literal_layer (out-Value v) && nat_le (weight_of v) weight_limit

-- whether an input's value is a text, a number or a list of texts, and a text where a file sets it
abbrev pub fits_watch : Option (List ℕ) → Value → Bool
fits_watch (Some path) v = is_text path && is_text_layer (out-Value v)
fits_watch None v = is_input_layer (out-Value v)

-- whether the names, messages and literals of one layer of a term are within the limits, where each part is whether its own are
abbrev pub words_step : Term-F Bool → Bool
words_step (Term-F.Return v) = is_literal v
words_step (Term-F.Fail kind m) = is_text m
words_step (Term-F.Input n) = is_name n
words_step (Term-F.Node n) = is_name n
words_step (Term-F.Var n) = is_name n
words_step (Term-F.Map f t) = t
words_step (Term-F.Pair a b) = a && b
words_step (Term-F.Bind n t u) = is_name n && (t && u)
words_step (Term-F.ListMap n t u) = is_name n && (t && u)
words_step (Term-F.ListIter n t u) = is_name n && (t && u)
words_step (Term-F.Catch t) = t
words_step (Term-F.State t) = t
words_step (Term-F.Gate a b) = a && b
words_step (Term-F.All ts) = list_all (λ t. t) ts
words_step (Term-F.Build op k) = is_name op && k
words_step (Term-F.Output op k v) = is_name op && (k && v)

-- whether the names, messages and literals of a term are within the limits
abbrev pub has_good_words : Term → Bool
has_good_words = fold-Term Bool words_step

-- the parts of one layer of a term, in order
abbrev pub parts_of : {A : Type 0} → Term-F A → List A
parts_of (Term-F.Return v) = []
parts_of (Term-F.Fail kind m) = []
parts_of (Term-F.Input n) = []
parts_of (Term-F.Node n) = []
parts_of (Term-F.Var n) = []
parts_of (Term-F.Map f t) = t ∷ []
parts_of (Term-F.Pair a b) = a ∷ b ∷ []
parts_of (Term-F.Bind n t u) = t ∷ u ∷ []
parts_of (Term-F.ListMap n t u) = t ∷ u ∷ []
parts_of (Term-F.ListIter n t u) = t ∷ u ∷ []
parts_of (Term-F.Catch t) = t ∷ []
parts_of (Term-F.State t) = t ∷ []
parts_of (Term-F.Gate a b) = a ∷ b ∷ []
parts_of (Term-F.All ts) = ts
parts_of (Term-F.Build op k) = k ∷ []
parts_of (Term-F.Output op k v) = k ∷ v ∷ []

-- the greatest of some numbers
abbrev pub greatest : List ℕ → ℕ
greatest [] = 0
greatest (n ∷ ns) = max n (greatest ns)

-- how many terms stand in a term, itself among them
abbrev pub terms_in : Term → ℕ
terms_in = fold-Term ℕ (λ x. 1 + sum (parts_of x))

-- how many terms are open at the deepest place of a term
abbrev pub depth_of : Term → ℕ
depth_of = fold-Term ℕ (λ x. 1 + greatest (parts_of x))

-- minutes to the east, at most 1,080 either way
pub record IsOffset (offset : ℤ) : Type 0 where
  pub west : negsuc 1079 ≤ℤ offset
  pub east : offset ≤ℤ pos 1080

-- the numbers of an expiry
abbrev pub IsExpiryWithin : Expiry → Type 0
IsExpiryWithin Never = Unit {0}
IsExpiryWithin (After n) = (1 ≤ n) × (n ≤ 1000000000000)
IsExpiryWithin (Daily minute offset) = (minute ≤ 1439) × IsOffset offset
IsExpiryWithin (Monthly day minute offset) = (1 ≤ day) × (day ≤ 28) × (minute ≤ 1439) × IsOffset offset

-- one input
pub record IsInputWithin (d : InputDecl) : Type 0 where
  pub name : is_name d.name ≡ true
  pub value : fits_watch d.watch d.value ≡ true
  pub weight : weight_of d.value ≤ weight_limit

-- one pool
pub record IsPoolWithin (d : PoolDecl) : Type 0 where
  pub name : is_name d.name ≡ true
  pub hold : d.hold ≤ 86400000

-- one client
pub record IsClientWithin (d : ClientDecl) : Type 0 where
  pub name : is_name d.name ≡ true
  pub pool : is_name d.pool ≡ true
  pub some_rate : 1 ≤ d.rate
  pub rate : d.rate ≤ 1000

-- one worker
pub record IsWorkerWithin (d : WorkerDecl) : Type 0 where
  pub name : is_name d.name ≡ true
  pub pool : is_name d.pool ≡ true
  pub some_capacity : 1 ≤ d.capacity
  pub capacity : d.capacity ≤ 8

-- one operation
pub record IsOpWithin (d : OpDecl) : Type 0 where
  pub name : is_name d.name ≡ true
  pub pool : is_name d.pool ≡ true
  pub client : is_name d.client ≡ true
  pub full : d.full ≤ 1000000
  pub cached : d.cached ≤ 1000000
  pub hint : is_optional_text d.hint ≡ true
  pub expiry : IsExpiryWithin d.expiry
  pub some_words : 1 ≤ length d.words
  pub few_words : length d.words ≤ 64
  pub words : list_all is_text d.words ≡ true

-- one node
pub record IsNodeWithin (d : NodeDecl) : Type 0 where
  pub name : is_name d.name ≡ true
  pub words : has_good_words d.term ≡ true
  pub depth : depth_of d.term ≤ 64

-- a program within the limits: names in form and once of a kind (clients once in a pool), values, and each number within its bounds
pub record IsWithinLimits (p : Program) : Type 0 where
  pub few_inputs : length p.inputs ≤ 256
  pub few_pools : length p.pools ≤ 16
  pub few_clients : length p.clients ≤ 64
  pub few_workers : length p.workers ≤ 8
  pub few_ops : length p.ops ≤ 256
  pub few_nodes : length p.nodes ≤ 1000
  pub few_terms : sum (map (λ d. terms_in d.term) p.nodes) ≤ 4096
  pub inputs_apart : are_apart (map (λ d. d.name) p.inputs) ≡ true
  pub pools_apart : are_apart (map (λ d. d.name) p.pools) ≡ true
  pub clients_apart : are_clients_apart p.clients ≡ true
  pub workers_apart : are_apart (map (λ d. d.name) p.workers) ≡ true
  pub ops_apart : are_apart (map (λ d. d.name) p.ops) ≡ true
  pub nodes_apart : are_apart (map (λ d. d.name) p.nodes) ≡ true
  pub inputs : AllByRecursion IsInputWithin p.inputs
  pub pools : AllByRecursion IsPoolWithin p.pools
  pub clients : AllByRecursion IsClientWithin p.clients
  pub workers : AllByRecursion IsWorkerWithin p.workers
  pub ops : AllByRecursion IsOpWithin p.ops
  pub nodes : AllByRecursion IsNodeWithin p.nodes
