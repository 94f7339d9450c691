-- What is known of declarations that were read, with their names in sets.
use Rattle.std.specs.Prelude.{◌≡◌, ℕ, ◌≤◌, ◌&&◌, ◌||◌, Bool, false, List, [], ◌∷◌, ◌++◌, length}
use Rattle.std.specs.Ordering.{nat_cmp}
use Rattle.std.specs.Cmp.Lexicographic.{slice_cmp}
use Rattle.std.specs.List.{list_any}
use Rattle.std.specs.Str.{bytes_eq}
use Rattle.std.specs.BTreeSet.{BTreeSet, contains}
use Rattle.term_core.specs.declared.program.Program.{Program}
use Rattle.op_keys.specs.declared.declarations.OpDecl.{OpDecl}
use Rattle.pipe_text.specs.declared.declaration.OpHead.{OpHead}
use Rattle.pipe_text.specs.declared.declaration.OpParts.{OpParts}
use Rattle.pipe_text.specs.declared.declaration.Declaration.{Declaration}
use Rattle.pipe_text.specs.declared.declaration.Declaration.TheVariants.{Input, Pool, Client, Worker, Op, Node}
use Rattle.pipe_text.specs.declared.declarations.Declarations.{Declarations}
use Rattle.pipe_text.specs.declared.names.Names.{Names}
use Rattle.pipe_text.specs.declared.words.DeclWord.{DeclWord}
use Rattle.pipe_text.specs.declared.words.DeclWord.TheVariants as decl
use Rattle.pipe_text.specs.FileGrammar.{op_of}
use Rattle.pipe_text.specs.Files.{program_of, all_terms, has_name}
use Rattle.pipe_text.specs.inside.FileReading.{Seen}

-- how many declarations of a program begin with this word
abbrev pub count_in : Program → DeclWord → ℕ
count_in p decl.Input = length p.inputs
count_in p decl.Pool = length p.pools
count_in p decl.Client = length p.clients
count_in p decl.Worker = length p.workers
count_in p decl.Op = length p.ops
count_in p decl.Node = length p.nodes

-- whether the set of a kind has this name; clients are identified by their pool too
abbrev pub named_in : Names → DeclWord → List ℕ → Bool
named_in so_far decl.Input n = contains (slice_cmp nat_cmp) so_far.inputs n
named_in so_far decl.Pool n = contains (slice_cmp nat_cmp) so_far.pools n
named_in so_far decl.Client n = false
named_in so_far decl.Worker n = contains (slice_cmp nat_cmp) so_far.workers n
named_in so_far decl.Op n = contains (slice_cmp nat_cmp) so_far.ops n
named_in so_far decl.Node n = contains (slice_cmp nat_cmp) so_far.nodes n

-- whether a name m after one word is a name n after another
abbrev pub is_named : DeclWord → List ℕ → DeclWord → List ℕ → Bool
is_named decl.Input m decl.Input n = bytes_eq m n
is_named decl.Pool m decl.Pool n = bytes_eq m n
is_named decl.Worker m decl.Worker n = bytes_eq m n
is_named decl.Op m decl.Op n = bytes_eq m n
is_named decl.Node m decl.Node n = bytes_eq m n
is_named v m w n = false

-- a set of names has this one more, and no others
abbrev pub HasOneMore : BTreeSet (List ℕ) → List ℕ → BTreeSet (List ℕ) → Type 0
HasOneMore old m new = (n : List ℕ) → contains (slice_cmp nat_cmp) new n ≡ (bytes_eq m n || contains (slice_cmp nat_cmp) old n)

-- the names of a kind have this one more after this word, and no others
abbrev pub KnowsOneMore : Names → DeclWord → List ℕ → Names → Type 0
KnowsOneMore old v m new = (w : DeclWord) (n : List ℕ) → named_in new w n ≡ (is_named v m w n || named_in old w n)

-- whether a program has this client of this pool
abbrev pub paired_in : Program → List ℕ → List ℕ → Bool
paired_in p n q = list_any (λ c. bytes_eq c.name n && bytes_eq c.pool q) p.clients

-- what is known of them
abbrev pub seen_of : Declarations → Seen
seen_of so_far = record { version = so_far.program.version; count = count_in so_far.program; named = named_in so_far.names; paired = paired_in so_far.program; terms = so_far.terms }

-- the word that a declaration begins with
abbrev pub word_of : Declaration → DeclWord
word_of (Input d) = decl.Input
word_of (Pool d) = decl.Pool
word_of (Client d) = decl.Client
word_of (Worker d) = decl.Worker
word_of (Op d) = decl.Op
word_of (Node d n) = decl.Node

-- the name that is declared
abbrev pub name_of : Declaration → List ℕ
name_of (Input d) = d.name
name_of (Pool d) = d.name
name_of (Client d) = d.name
name_of (Worker d) = d.name
name_of (Op d) = d.name
name_of (Node d n) = d.name

-- a program with one declaration more
abbrev pub with_declaration : Program → Declaration → Program
with_declaration p (Input d) = record { version = p.version; inputs = p.inputs ++ d ∷ []; pools = p.pools; clients = p.clients; workers = p.workers; ops = p.ops; nodes = p.nodes }
with_declaration p (Pool d) = record { version = p.version; inputs = p.inputs; pools = p.pools ++ d ∷ []; clients = p.clients; workers = p.workers; ops = p.ops; nodes = p.nodes }
with_declaration p (Client d) = record { version = p.version; inputs = p.inputs; pools = p.pools; clients = p.clients ++ d ∷ []; workers = p.workers; ops = p.ops; nodes = p.nodes }
with_declaration p (Worker d) = record { version = p.version; inputs = p.inputs; pools = p.pools; clients = p.clients; workers = p.workers ++ d ∷ []; ops = p.ops; nodes = p.nodes }
with_declaration p (Op d) = record { version = p.version; inputs = p.inputs; pools = p.pools; clients = p.clients; workers = p.workers; ops = p.ops ++ d ∷ []; nodes = p.nodes }
with_declaration p (Node d n) = record { version = p.version; inputs = p.inputs; pools = p.pools; clients = p.clients; workers = p.workers; ops = p.ops; nodes = p.nodes ++ d ∷ [] }

-- the program has these declarations, and the sets their names
pub record Knows (version : ℕ) (before : List Declaration) (so_far : Declarations) : Type 0 where
  pub program : so_far.program ≡ program_of version before
  pub names : (w : DeclWord) (n : List ℕ) → named_in so_far.names w n ≡ list_any (has_name w n) before
  pub terms : so_far.terms ≡ all_terms before
  pub few : so_far.terms ≤ 4096

-- the operation of what it begins with and of what it has after its kind
abbrev pub op_with : OpHead → OpParts → OpDecl
op_with head parts = op_of head.name head.kind parts.placement parts.settings parts.retention parts.no_cancel parts.words
