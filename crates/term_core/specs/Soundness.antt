-- Which programs are sound: each name is declared, each term has a kind, and lists nest twice at most.
use Rattle.std.specs.Prelude.{◌≡◌, ℕ, ◌+◌, ◌≤◌, nat_lt, nat_le, not, Bool, true, false, ◌&&◌, if◌then◌else◌, List, [], ◌∷◌, ◌++◌, map, sum, Option, Some, None, is_some, slice_get, option_map}
use Rattle.std.specs.List.{list_all, list_any}
use Rattle.std.specs.Option.{option_and_then}
use Rattle.std.specs.Str.{bytes_eq}
use Rattle.value_core.specs.Codes.{kind_code}
use Rattle.value_core.specs.FunctionKinds.{kind_given}
use Rattle.value_core.specs.Kinds.{literal_kind}
use Rattle.value_core.specs.Same.{same}
use Rattle.value_core.specs.declared.value.Kind.{Kind, Kind-F, out-Kind, fold-Kind}
use Rattle.value_core.specs.declared.value.Kind.TheVariants as kind
use Rattle.term_core.specs.Limits.{IsWithinLimits, parts_of}
use Rattle.op_keys.specs.Names.{index_named}
use Rattle.term_core.specs.declared.program.FailKind.{FailKind}
use Rattle.term_core.specs.declared.program.FailKind.TheVariants as fails
use Rattle.term_core.specs.declared.program.NodeDecl.{NodeDecl}
use Rattle.term_core.specs.declared.program.Program.{Program}
use Rattle.term_core.specs.declared.program.Term.{Term, Term-F, fold-Term}

-- how many parts one layer of a kind has, where each part is how many it has
abbrev pub kind_parts_step : Kind-F ℕ → ℕ
kind_parts_step Kind-F.Text = 1
kind_parts_step Kind-F.Num = 1
kind_parts_step Kind-F.Unit = 1
kind_parts_step (Kind-F.Pair a b) = 1 + (a + b)
kind_parts_step (Kind-F.List a) = 1 + a
kind_parts_step (Kind-F.Out a) = 1 + a

-- how many parts a kind has, itself among them
abbrev pub kind_parts : Kind → ℕ
kind_parts = fold-Kind ℕ kind_parts_step

-- a kind, where it has at most 64 parts
abbrev pub small : Kind → Option Kind
small k = if nat_lt 64 (kind_parts k) then None else Some k

-- a kind, where it is the wanted one
abbrev pub wanted_kind : Kind → Kind → Option Kind
wanted_kind wanted k = if same kind_code k wanted then Some k else None

-- the kind that a failing term is of
abbrev pub fail_kind : FailKind → Kind
fail_kind fails.Text = kind.Text
fail_kind fails.Num = kind.Num
fail_kind fails.Unit = kind.Unit
fail_kind fails.List = kind.List kind.Text

-- the kind of the items of a layer of a kind, where it is a list's
abbrev pub item_layer_kind : Kind-F Kind → Option Kind
item_layer_kind (Kind-F.List a) = Some a
item_layer_kind k = None

-- the kind of a list's items
abbrev pub item_kind : Kind → Option Kind
item_kind k = item_layer_kind (out-Kind k)

-- a name, and the kind of what is bound to it
abbrev pub NamedKind : Type 0
NamedKind = List ℕ × Kind

-- the kind bound last to this name, among those bound in order, or the one that was found before
abbrev pub innermost_kind : Option Kind → List NamedKind → List ℕ → Option Kind
innermost_kind found [] n = found
innermost_kind found (b ∷ bs) n = innermost_kind (if bytes_eq b.0 n then Some b.1 else found) bs n

-- the kind of the input of this name
abbrev pub input_kind : Program → List ℕ → Option Kind
input_kind p n = option_map (λ d. literal_kind d.value) (slice_get p.inputs (index_named 0 (map (λ d. d.name) p.inputs) n))

-- the kind of the node of this name, where it is among the earlier ones
abbrev pub node_kind : Program → List Kind → List ℕ → Option Kind
node_kind p earlier n = slice_get earlier (index_named 0 (map (λ d. d.name) p.nodes) n)

-- whether the operation of this name is declared, and is an output as told
abbrev pub is_op : Program → List ℕ → Bool → Bool
is_op p n output = list_any (λ d. bytes_eq d.name n && (if output then d.output else not d.output)) p.ops

-- the kind of a term under kinds of bound values, where it has one
abbrev pub Typing : Type 0
Typing = List NamedKind → Option Kind

-- the kinds with one more
abbrev pub bind_kind : List NamedKind → List ℕ → Kind → List NamedKind
bind_kind bound n k = bound ++ (n, k) ∷ []

-- unit, where each of the kinds is unit
abbrev pub unit_of_units : List (Option Kind) → Option Kind
unit_of_units [] = Some kind.Unit
unit_of_units (o ∷ os) = option_and_then (λ k. unit_of_units os) (option_and_then (wanted_kind kind.Unit) o)

-- a build's kind, for its key's
abbrev pub build_kind : Option Kind → Option Kind
build_kind key = option_and_then (λ k. Some kind.Text) (option_and_then (wanted_kind kind.Text) key)

-- an output's kind, for its key's and its value's
abbrev pub output_kind : Option Kind → Option Kind → Option Kind
output_kind key value =
    option_and_then (λ k. option_and_then (λ v. Some kind.Unit) (option_and_then (wanted_kind kind.Text) value)) (option_and_then (wanted_kind kind.Text) key)

-- the kind of one layer of a term, where each part is its typing
abbrev pub layer_kind : Program → List Kind → Term-F Typing → Typing
layer_kind p earlier (Term-F.Return v) bound = Some (literal_kind v)
layer_kind p earlier (Term-F.Fail k m) bound = Some (fail_kind k)
layer_kind p earlier (Term-F.Input n) bound = input_kind p n
layer_kind p earlier (Term-F.Node n) bound = node_kind p earlier n
layer_kind p earlier (Term-F.Var n) bound = innermost_kind None bound n
layer_kind p earlier (Term-F.Map f t) bound = option_and_then (kind_given f) (t bound)
layer_kind p earlier (Term-F.Pair a b) bound = option_and_then (λ k. option_and_then (λ l. Some (kind.Pair k l)) (b bound)) (a bound)
layer_kind p earlier (Term-F.Bind n t u) bound = option_and_then (λ k. u (bind_kind bound n k)) (t bound)
layer_kind p earlier (Term-F.ListMap n t u) bound = option_and_then (λ a. option_and_then (λ b. Some (kind.List b)) (u (bind_kind bound n a))) (option_and_then item_kind (t bound))
layer_kind p earlier (Term-F.ListIter n t u) bound = option_and_then (λ a. option_and_then (wanted_kind kind.Unit) (u (bind_kind bound n a))) (option_and_then item_kind (t bound))
layer_kind p earlier (Term-F.Catch t) bound = option_and_then (λ k. Some (kind.Out k)) (t bound)
layer_kind p earlier (Term-F.State t) bound = option_and_then (λ k. Some (kind.Out k)) (t bound)
layer_kind p earlier (Term-F.Gate on t) bound = option_and_then (λ k. t bound) (option_and_then (wanted_kind kind.Unit) (on bound))
layer_kind p earlier (Term-F.All ts) bound = unit_of_units (map (λ t. t bound) ts)
layer_kind p earlier (Term-F.Build op k) bound = if is_op p op false then build_kind (k bound) else None
layer_kind p earlier (Term-F.Output op k v) bound = if is_op p op true then output_kind (k bound) (v bound) else None

-- the kind of a term over the kinds of the earlier nodes, each part's kind having at most 64 parts
unfoldable pub term_kind : Program → List Kind → Term → Typing
term_kind p earlier = fold-Term Typing (λ x bound. option_and_then small (layer_kind p earlier x bound))

-- the kinds of the nodes from a place on, over those of the earlier ones, where each has one
abbrev pub kinds_from : Program → List Kind → List NodeDecl → Option (List Kind)
kinds_from p earlier [] = Some earlier
kinds_from p earlier (d ∷ ds) = option_and_then (λ k. kinds_from p (earlier ++ k ∷ []) ds) (term_kind p earlier d.term [])

-- the kinds of all nodes, where each has one
unfoldable pub node_kinds : Program → Option (List Kind)
node_kinds p = kinds_from p [] p.nodes

-- what a term tells of the list terms in it, for a number of list bodies round it: their nesting, and its terms in two bodies
pub record Nesting : Type 0 where
  pub fits : Bool
  pub deep : ℕ

-- a list term in at most one list body: its list stands where it stands, its body in one body more
abbrev pub list_nesting : (ℕ → Nesting) → (ℕ → Nesting) → ℕ → Nesting
list_nesting list body n = record {
  fits = nat_lt n 2 && ((list n).fits && (body (n + 1)).fits);
  deep = (list n).deep + (body (n + 1)).deep;
}

-- any other term: its parts stand where it stands
abbrev pub plain_nesting : List (ℕ → Nesting) → ℕ → Nesting
plain_nesting parts n = record { fits = list_all (λ f. (f n).fits) parts; deep = sum (map (λ f. (f n).deep) parts) }

-- one layer, without the term itself
abbrev pub inner_nesting : Term-F (ℕ → Nesting) → ℕ → Nesting
inner_nesting (Term-F.ListMap n t u) = list_nesting t u
inner_nesting (Term-F.ListIter n t u) = list_nesting t u
inner_nesting x = plain_nesting (parts_of x)

-- one layer, with the term itself, which counts where it stands in two list bodies
abbrev pub nesting_step : Term-F (ℕ → Nesting) → ℕ → Nesting
nesting_step x n = record { fits = (inner_nesting x n).fits; deep = (if nat_le 2 n then 1 else 0) + (inner_nesting x n).deep }

-- the nesting of a term with this many list bodies round it
abbrev pub nesting_of : Term → ℕ → Nesting
nesting_of = fold-Term (ℕ → Nesting) nesting_step

-- whether a pool is declared
abbrev pub is_pool : Program → List ℕ → Bool
is_pool p n = list_any (λ d. bytes_eq d.name n) p.pools

-- whether a client of a pool is declared
abbrev pub is_client : Program → List ℕ → List ℕ → Bool
is_client p n pool = list_any (λ d. bytes_eq d.name n && bytes_eq d.pool pool) p.clients

-- a sound program: within the limits, and without a fault of the check
pub record IsSound (p : Program) : Type 0 where
  pub within : IsWithinLimits p
  pub clients : list_all (λ d. is_pool p d.pool) p.clients ≡ true
  pub workers : list_all (λ d. is_pool p d.pool) p.workers ≡ true
  pub ops : list_all (λ d. is_pool p d.pool && is_client p d.client d.pool) p.ops ≡ true
  pub nesting : list_all (λ d. (nesting_of d.term 0).fits) p.nodes ≡ true
  pub few_deep : sum (map (λ d. (nesting_of d.term 0).deep) p.nodes) ≤ 64
  pub kinds : is_some (node_kinds p) ≡ true
