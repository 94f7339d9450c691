-- Which program the bytes of a file are a file of.
use Rattle.std.specs.Prelude.{◌≡◌, ℕ, ◌≤◌, ◌+◌, ◌&&◌, Bool, false, List, [], ◌∷◌, length, filter_map, Option, Some, None, Result, Ok, Err}
use Rattle.std.specs.List.{IsDistinct}
use Rattle.std.specs.Str.{bytes_eq}
use Rattle.value_core.specs.declared.lexing.Stop.TheVariants as stop
use Rattle.value_core.specs.Lexing.{lexed}
use Rattle.value_core.specs.Literals.{tokens_in}
use Rattle.op_keys.specs.declared.declarations.ClientDecl.{ClientDecl}
use Rattle.op_keys.specs.declared.declarations.OpDecl.{OpDecl}
use Rattle.op_keys.specs.declared.declarations.PoolDecl.{PoolDecl}
use Rattle.op_keys.specs.declared.declarations.WorkerDecl.{WorkerDecl}
use Rattle.term_core.specs.declared.program.InputDecl.{InputDecl}
use Rattle.term_core.specs.declared.program.NodeDecl.{NodeDecl}
use Rattle.term_core.specs.declared.program.Program.{Program}
use Rattle.pipe_text.specs.declared.declaration.Declaration.{Declaration}
use Rattle.pipe_text.specs.declared.declaration.Declaration.TheVariants.{Input, Pool, Client, Worker, Op, Node}
use Rattle.pipe_text.specs.declared.fault.LimitName.{LimitName}
use Rattle.pipe_text.specs.declared.fault.LimitName.TheVariants as limit
use Rattle.pipe_text.specs.declared.fault.ReadFault.{ReadFault}
use Rattle.pipe_text.specs.declared.fault.ReadFault.TheVariants.{NoMemory}
use Rattle.pipe_text.specs.declared.words.DeclWord.{DeclWord}
use Rattle.pipe_text.specs.declared.words.DeclWord.TheVariants as decl
use Rattle.pipe_text.specs.LimitTable.{number_of}
use Rattle.pipe_text.specs.Grammar.{Limits}
use Rattle.pipe_text.specs.FileGrammar.{FileSpells}

-- the input that is declared, if it is one
abbrev pub input_in : Declaration → Option InputDecl
input_in (Input d) = Some d
input_in d = None

-- the pool that is declared, if it is one
abbrev pub pool_in : Declaration → Option PoolDecl
pool_in (Pool d) = Some d
pool_in d = None

-- the client that is declared, if it is one
abbrev pub client_in : Declaration → Option ClientDecl
client_in (Client d) = Some d
client_in d = None

-- the worker that is declared, if it is one
abbrev pub worker_in : Declaration → Option WorkerDecl
worker_in (Worker d) = Some d
worker_in d = None

-- the operation that is declared, if it is one
abbrev pub op_in : Declaration → Option OpDecl
op_in (Op d) = Some d
op_in d = None

-- the node that is declared, if it is one
abbrev pub node_in : Declaration → Option NodeDecl
node_in (Node d n) = Some d
node_in d = None

-- the program of these declarations: those of each kind, in order
abbrev pub program_of : ℕ → List Declaration → Program
program_of version ds = record {
  version = version;
  inputs = filter_map input_in ds;
  pools = filter_map pool_in ds;
  clients = filter_map client_in ds;
  workers = filter_map worker_in ds;
  ops = filter_map op_in ds;
  nodes = filter_map node_in ds;
}

-- how many terms a declaration is made of
abbrev pub terms_of : Declaration → ℕ
terms_of (Node d n) = n
terms_of d = 0

-- the sum of a number of each declaration
abbrev pub total : (Declaration → ℕ) → List Declaration → ℕ
total f [] = 0
total f (d ∷ ds) = f d + total f ds

-- how many terms declarations are made of
abbrev pub all_terms : List Declaration → ℕ
all_terms = total terms_of

-- 1 if a declaration begins with this word, else 0
abbrev pub one_of : DeclWord → Declaration → ℕ
one_of decl.Input (Input d) = 1
one_of decl.Pool (Pool d) = 1
one_of decl.Client (Client d) = 1
one_of decl.Worker (Worker d) = 1
one_of decl.Op (Op d) = 1
one_of decl.Node (Node d n) = 1
one_of w d = 0

-- how many declarations begin with this word
abbrev pub count_of : DeclWord → List Declaration → ℕ
count_of w = total (one_of w)

-- whether a declaration begins with this word and has this name; a client is identified by its pool too
abbrev pub has_name : DeclWord → List ℕ → Declaration → Bool
has_name decl.Input n (Input d) = bytes_eq d.name n
has_name decl.Pool n (Pool d) = bytes_eq d.name n
has_name decl.Worker n (Worker d) = bytes_eq d.name n
has_name decl.Op n (Op d) = bytes_eq d.name n
has_name decl.Node n (Node d m) = bytes_eq d.name n
has_name w n d = false

-- whether a declaration is this client of this pool
abbrev pub has_pair : List ℕ → List ℕ → Declaration → Bool
has_pair n p (Client d) = bytes_eq d.name n && bytes_eq d.pool p
has_pair n p d = false

-- whether two declarations are of one kind and have one name, and clients one pool
abbrev pub same_name : Declaration → Declaration → Bool
same_name e (Input d) = has_name decl.Input d.name e
same_name e (Pool d) = has_name decl.Pool d.name e
same_name e (Client d) = has_pair d.name d.pool e
same_name e (Worker d) = has_name decl.Worker d.name e
same_name e (Op d) = has_name decl.Op d.name e
same_name e (Node d n) = has_name decl.Node d.name e

-- the limit on how many declarations begin with this word
abbrev pub limit_of : DeclWord → LimitName
limit_of decl.Input = limit.Inputs
limit_of decl.Pool = limit.Pools
limit_of decl.Client = limit.Clients
limit_of decl.Worker = limit.Workers
limit_of decl.Op = limit.Ops
limit_of decl.Node = limit.Nodes

-- a file's limits on tokens: 256 items, 64 words, and no limit is lifted
abbrev pub file_limits : Limits
file_limits = record { more_items = 255; more_words = 63; lifted = λ what. false }

-- The bytes spell the program: they are tokens to their end, and the tokens spell declarations which are the program's, within the limits, no two of one kind with one name.
pub record IsSpelled (bytes : List ℕ) (p : Program) : Type 0 where
  pub version : ℕ
  pub declarations : List Declaration
  pub ended : (lexed bytes).stop ≡ stop.End (length bytes)
  pub spelled : FileSpells file_limits 64 version declarations (tokens_in (lexed bytes).tokens)
  pub is : p ≡ program_of version declarations
  pub few : (w : DeclWord) → count_of w declarations ≤ number_of (limit_of w)
  pub few_terms : all_terms declarations ≤ 4096
  pub apart : IsDistinct same_name declarations

-- The bytes are a file of the program: they are not too many, and spell it.
pub record IsFileOf (bytes : List ℕ) (p : Program) : Type 0 where
  pub few_bytes : length bytes ≤ 1048576
  pub spelling : IsSpelled bytes p

-- A program that the grammar can express: some bytes, of whatever number, spell it.
pub record HasSpelling (p : Program) : Type 0 where
  pub bytes : List ℕ
  pub spelling : IsSpelled bytes p

-- What was read is the program, or out of memory: the file was not refused.
abbrev pub Reads : Result Program ReadFault → Program → Type 0
Reads (Ok q) p = q ≡ p
Reads (Err NoMemory) p = Unit {0}
Reads (Err f) p = ⊥

-- Bytes are a file of one program at most.
abbrev pub OneProgramAtMost : Type 0
OneProgramAtMost = (bytes : List ℕ) (p q : Program) → IsFileOf bytes p → IsFileOf bytes q → p ≡ q
