-- What a program is printed as: lines of tokens, and the bytes of such lines.
use Rattle.std.specs.Prelude.{ℕ, suc, ℤ, pos, negsuc, ◌==◌, ◌||◌, if◌then◌else◌, Bool, true, false, List, [], ◌∷◌, ◌++◌, map, codes, Option, Some, None}
use Rattle.std.specs.Fmt.{decimal}
use Rattle.std.specs.List.{flat_map}
use Rattle.value_core.specs.declared.token.Token.{Token}
use Rattle.value_core.specs.declared.token.Token.TheVariants.{Name, Number, Words, Mark, LongName, LongText}
use Rattle.value_core.specs.declared.value.Outcome.{Outcome}
use Rattle.value_core.specs.declared.value.Value.{Value, Value-F, out-Value}
use Rattle.value_core.specs.Printed.{quoted}
use Rattle.op_keys.specs.declared.declarations.ClientDecl.{ClientDecl}
use Rattle.op_keys.specs.declared.declarations.Expiry.{Expiry}
use Rattle.op_keys.specs.declared.declarations.Expiry.TheVariants.{Never, After, Daily, Monthly}
use Rattle.op_keys.specs.declared.declarations.OpDecl.{OpDecl}
use Rattle.op_keys.specs.declared.declarations.PoolDecl.{PoolDecl}
use Rattle.op_keys.specs.declared.declarations.WorkerDecl.{WorkerDecl}
use Rattle.op_keys.specs.declared.level.Level.{Level}
use Rattle.op_keys.specs.declared.level.Level.TheVariants as level
use Rattle.term_core.specs.declared.program.InputDecl.{InputDecl}
use Rattle.term_core.specs.declared.program.NodeDecl.{NodeDecl}
use Rattle.term_core.specs.declared.program.Program.{Program}
use Rattle.term_core.specs.declared.program.Term.{Term, Term-F, fold-Term}
use Rattle.pipe_text.specs.declared.words.BodyWord.TheVariants as word
use Rattle.pipe_text.specs.Words.{level_letters, fun_letters, kind_letters}
use Rattle.pipe_text.specs.Grammar.{form}

-- the bytes of a token; one that is too long has none, and is in no line that is printed
abbrev pub token_text : Token → List ℕ
token_text (Name n) = n
token_text (Number n) = decimal n
token_text (Words t) = quoted t
token_text (Mark b) = b ∷ []
token_text LongName = []
token_text LongText = []

-- whether no space follows a token: `(` and `[`
abbrev pub opens : Token → Bool
opens (Mark b) = b == 40 || b == 91
opens k = false

-- whether no space precedes a token: `)`, `]` and `,`
abbrev pub closes : Token → Bool
closes (Mark b) = b == 41 || (b == 93 || b == 44)
closes k = false

-- the space before a token, by whether the token before it wants none
abbrev pub space_before : Bool → Token → List ℕ
space_before tight k = if closes k || tight then [] else codes " "

-- tokens with a space between any two that want one
abbrev pub spaced : Bool → List Token → List ℕ
spaced tight [] = []
spaced tight (k ∷ ks) = space_before tight k ++ (token_text k ++ spaced (opens k) ks)

-- a line of tokens
abbrev pub line_text : List Token → List ℕ
line_text ks = spaced true ks ++ codes "\n"

-- the token of an item of a list; only a text has one
abbrev pub item_layer : Value-F Outcome Value → List Token
item_layer (Value-F.Words t) = Words t ∷ []
item_layer v = []

-- the tokens of an item of a list
abbrev pub item_tokens : Value → List Token
item_tokens v = item_layer (out-Value v)

-- items after commas, and the bracket that closes
abbrev pub more_items : List Value → List Token
more_items [] = Mark 93 ∷ []
more_items (v ∷ vs) = Mark 44 ∷ (item_tokens v ++ more_items vs)

-- items with a comma between two, and the bracket that closes
abbrev pub items_tokens : List Value → List Token
items_tokens [] = Mark 93 ∷ []
items_tokens (v ∷ vs) = item_tokens v ++ more_items vs

-- the tokens of a layer of a literal; pairs and outcomes are none
abbrev pub literal_layer : Value-F Outcome Value → List Token
literal_layer (Value-F.Words t) = Words t ∷ []
literal_layer (Value-F.Num n) = Number n ∷ []
literal_layer Value-F.Unit = Name (codes "unit") ∷ []
literal_layer (Value-F.Pair a b) = []
literal_layer (Value-F.List vs) = Mark 91 ∷ items_tokens vs
literal_layer (Value-F.Out o) = []

-- the tokens of a literal
abbrev pub literal_tokens : Value → List Token
literal_tokens v = literal_layer (out-Value v)

-- the tokens of a layer of a term, whose parts' are in their places
abbrev pub term_tokens_step : Term-F (List Token) → List Token
term_tokens_step (Term-F.Return v) = form word.Return (literal_tokens v)
term_tokens_step (Term-F.Fail k m) = form word.Fail (Name (kind_letters k) ∷ Words m ∷ [])
term_tokens_step (Term-F.Input n) = form word.Input (Name n ∷ [])
term_tokens_step (Term-F.Node n) = form word.Node (Name n ∷ [])
term_tokens_step (Term-F.Var n) = form word.Var (Name n ∷ [])
term_tokens_step (Term-F.Map f a) = form word.Map (Name (fun_letters f) ∷ a)
term_tokens_step (Term-F.Pair a b) = form word.Pair (a ++ b)
term_tokens_step (Term-F.Bind n a b) = form word.Bind (Name n ∷ (a ++ b))
term_tokens_step (Term-F.ListMap n a b) = form word.ListMap (Name n ∷ (a ++ b))
term_tokens_step (Term-F.ListIter n a b) = form word.ListIter (Name n ∷ (a ++ b))
term_tokens_step (Term-F.Catch a) = form word.Catch a
term_tokens_step (Term-F.State a) = form word.State a
term_tokens_step (Term-F.Gate a b) = form word.Gate (a ++ b)
term_tokens_step (Term-F.All as_parts) = form word.All (flat_map (λ a. a) as_parts)
term_tokens_step (Term-F.Build n a) = form word.Build (Name n ∷ a)
term_tokens_step (Term-F.Output n a b) = form word.Output (Name n ∷ (a ++ b))

-- the tokens of a term
abbrev pub term_tokens : Term → List Token
term_tokens = fold-Term (List Token) term_tokens_step

-- the word of a layer of an input's value
abbrev pub value_layer_word : Value-F Outcome Value → List Token
value_layer_word (Value-F.Words t) = Name (codes "text") ∷ []
value_layer_word (Value-F.Num n) = Name (codes "num") ∷ []
value_layer_word (Value-F.List vs) = Name (codes "list") ∷ []
value_layer_word v = []

-- a text after its word, if there is one
abbrev pub text_tokens : List ℕ → Option (List ℕ) → List Token
text_tokens letters None = []
text_tokens letters (Some t) = Name letters ∷ Words t ∷ []

-- the word of a setting that is on
abbrev pub flag_tokens : List ℕ → Bool → List Token
flag_tokens letters on = if on then Name letters ∷ [] else []

-- a level that isn't average
abbrev pub level_tokens : Level → List Token
level_tokens level.Average = []
level_tokens l = Name (codes "level") ∷ Name (level_letters l) ∷ []

-- minutes to the east, or to the west if they are negative
abbrev pub offset_tokens : ℤ → List Token
offset_tokens (pos n) = Name (codes "east") ∷ Number n ∷ []
offset_tokens (negsuc n) = Name (codes "west") ∷ Number (suc n) ∷ []

-- when a result is looked for anew
abbrev pub expiry_tokens : Expiry → List Token
expiry_tokens Never = []
expiry_tokens (After n) = Name (codes "valid_for") ∷ Number n ∷ []
expiry_tokens (Daily m o) = Name (codes "schedule") ∷ Name (codes "daily") ∷ Number m ∷ offset_tokens o
expiry_tokens (Monthly d m o) = Name (codes "schedule") ∷ Name (codes "monthly") ∷ Number d ∷ Number m ∷ offset_tokens o

-- an input's line
abbrev pub input_tokens : InputDecl → List Token
input_tokens d = Name (codes "input") ∷ Name d.name ∷ (value_layer_word (out-Value d.value) ++ (literal_tokens d.value ++ text_tokens (codes "watch") d.watch))

-- a pool's line
abbrev pub pool_tokens : PoolDecl → List Token
pool_tokens d = Name (codes "pool") ∷ Name d.name ∷ Name (codes "hold") ∷ Number d.hold ∷ []

-- a client's line
abbrev pub client_tokens : ClientDecl → List Token
client_tokens d = Name (codes "client") ∷ Name d.name ∷ Name d.pool ∷ Number d.rate ∷ []

-- a worker's line
abbrev pub worker_tokens : WorkerDecl → List Token
worker_tokens d = Name (codes "worker") ∷ Name d.name ∷ Name d.pool ∷ Number d.capacity ∷ []

-- an operation's name and kind
abbrev pub kind_tokens : OpDecl → List Token
kind_tokens d = Name (codes "op") ∷ Name d.name ∷ Name (if d.output then codes "output" else codes "build") ∷ []

-- the pool and client of an operation's orders, and what they cost
abbrev pub placement_tokens : OpDecl → List Token
placement_tokens d = Name (codes "pool") ∷ Name d.pool ∷ Name (codes "client") ∷ Name d.client ∷ Name (codes "cost") ∷ Number d.full ∷ Number d.cached ∷ []

-- the settings of each operation
abbrev pub settings_tokens : OpDecl → List Token
settings_tokens d = text_tokens (codes "hint") d.hint ++ (flag_tokens (codes "urgent") d.urgent ++ level_tokens d.level)

-- how long results are kept, and whether a job continues that nothing refers to
abbrev pub retention_tokens : OpDecl → List Token
retention_tokens d = expiry_tokens d.expiry ++ (flag_tokens (codes "latched") d.latched ++ flag_tokens (codes "no_cancel") d.no_cancel)

-- the words of a command
abbrev pub run_tokens : List (List ℕ) → List Token
run_tokens ts = Name (codes "run") ∷ map Words ts

-- an operation's line
abbrev pub op_tokens : OpDecl → List Token
op_tokens d = kind_tokens d ++ (placement_tokens d ++ (settings_tokens d ++ (retention_tokens d ++ run_tokens d.words)))

-- a node's line
abbrev pub node_tokens : NodeDecl → List Token
node_tokens d = Name (codes "node") ∷ Name d.name ∷ term_tokens d.term

-- the lines of a program: its version, and its declarations by their tokens_in, in list order
abbrev pub lines_of : Program → List (List Token)
lines_of p =
    (Name (codes "pipeline") ∷ Number p.version ∷ []) ∷
    (map input_tokens p.inputs ++ (map pool_tokens p.pools ++ (map client_tokens p.clients ++ (map worker_tokens p.workers ++ (map op_tokens p.ops ++ map node_tokens p.nodes)))))

-- the bytes that a program is printed as
unfoldable pub pipeline_text : Program → List ℕ
pipeline_text p = flat_map line_text (lines_of p)

-- what is printed with one token more, and whether that wants no space after it
unfoldable pub with_token : Token → List ℕ × Bool → List ℕ × Bool
with_token k s = (s.0 ++ (space_before s.1 k ++ token_text k), opens k)

-- what is printed with more tokens
abbrev pub after : List ℕ × Bool → List Token → List ℕ × Bool
after s [] = s
after s (k ∷ ks) = after (with_token k s) ks

-- what is printed with the end of a line
unfoldable pub with_end : List ℕ × Bool → List ℕ × Bool
with_end s = (s.0 ++ codes "\n", true)

-- what is printed with more lines
abbrev pub after_lines : List ℕ × Bool → List (List Token) → List ℕ × Bool
after_lines s [] = s
after_lines s (ks ∷ lines) = after_lines (with_end (after s ks)) lines
