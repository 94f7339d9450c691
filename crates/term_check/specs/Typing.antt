-- The check of a term: its own name, the nesting of lists, its parts from the left, its kind, the kind's size.
use Rattle.std.specs.Prelude.{ℕ, Bool, true, false, if◌then◌else◌, List, [], ◌∷◌, map, Option, Some, None, is_some}
use Rattle.std.specs.List.{list_any}
use Rattle.std.specs.Str.{bytes_eq}
use Rattle.value_core.specs.FunctionKinds.{kind_given}
use Rattle.value_core.specs.declared.function.Fun.{Fun}
use Rattle.value_core.specs.declared.value.Kind.{Kind}
use Rattle.value_core.specs.declared.value.Kind.TheVariants as kind
use Rattle.term_core.specs.Soundness.{NamedKind, bind_kind, fail_kind, input_kind, is_op, item_kind, innermost_kind, node_kind, wanted_kind}
use Rattle.value_core.specs.Kinds.{literal_kind}
use Rattle.term_core.specs.declared.program.Program.{Program}
use Rattle.term_core.specs.declared.program.Term.{Term, Term-F, out-Term, map-Term, fold-Term}
use Rattle.term_check.specs.Functions.{fun_wanted}
use Rattle.term_check.specs.Verdicts.{inside, behind, in_body, then_typed, expected, turned_kind, named, nested, sized}
use Rattle.term_check.specs.declared.fault.CheckWhat.{CheckWhat}
use Rattle.term_check.specs.declared.fault.CheckWhat.TheVariants as what
use Rattle.term_check.specs.declared.typing.Checker.{Checker}
use Rattle.term_check.specs.declared.verdict.Position.{Position}
use Rattle.term_check.specs.declared.verdict.Verdict.{Verdict}
use Rattle.term_check.specs.declared.verdict.Verdict.TheVariants.{Typed}
use Rattle.term_check.specs.declared.wanted.Wanted.TheVariants as wanted

-- what the check of a term gives under kinds of bound values, the innermost last
abbrev pub Check : Type 0
Check = List NamedKind → Position → Verdict

-- a check over a checker's pipeline and kinds of earlier nodes, under its bound kinds
abbrev pub within : Checker → (Program → List Kind → Check) → Position → Verdict
within c check = check c.context.program.now c.context.earlier.now c.bound

-- a fault where a test fails
abbrev pub unless : Bool → CheckWhat → Option CheckWhat
unless test w = if test then None else Some w

-- whether a node of this name is declared
abbrev pub is_node : Program → List ℕ → Bool
is_node p n = list_any (λ d. bytes_eq d.name n) p.nodes

-- what is wrong with a node's name that is no earlier node's
abbrev pub node_name_fault : Program → List ℕ → CheckWhat
node_name_fault p n = if is_node p n then what.ForwardName n else what.UnknownName n

-- what is wrong with the own name of a layer of a term
abbrev pub name_fault : {A : Type 0} → Program → List Kind → Term-F A → List NamedKind → Option CheckWhat
name_fault p earlier (Term-F.Input n) bound = unless (is_some (input_kind p n)) (what.UnknownName n)
name_fault p earlier (Term-F.Node n) bound = unless (is_some (node_kind p earlier n)) (node_name_fault p n)
name_fault p earlier (Term-F.Var n) bound = unless (is_some (innermost_kind None bound n)) (what.UnknownName n)
name_fault p earlier (Term-F.Build op k) bound = unless (is_op p op false) (what.UnknownName op)
name_fault p earlier (Term-F.Output op k v) bound = unless (is_op p op true) (what.UnknownName op)
name_fault p earlier x bound = None

-- whether a layer of a term evaluates a body for each item of a list
abbrev pub is_list_layer : {A : Type 0} → Term-F A → Bool
is_list_layer (Term-F.ListMap n t u) = true
is_list_layer (Term-F.ListIter n t u) = true
is_list_layer x = false

-- a kind that is there, or unit
abbrev pub kind_or_unit : Option Kind → Kind
kind_or_unit (Some k) = k
kind_or_unit None = kind.Unit

-- a term without parts
abbrev pub leaf : Kind → Position → Verdict
leaf k s = Typed k s.deep s.at

-- a part that is wanted to be a text
abbrev pub of_text : ℕ → Verdict → Verdict
of_text = expected (wanted_kind kind.Text) wanted.Text

-- a part that is wanted to be unit
abbrev pub of_unit : ℕ → Verdict → Verdict
of_unit = expected (wanted_kind kind.Unit) wanted.Unit

-- the kind of the items of a part that is wanted to be a list
abbrev pub items_of : ℕ → Verdict → Verdict
items_of = expected item_kind (wanted.List wanted.Any)

-- a function of a part
unfoldable pub map_check : Fun → Check → Check
map_check f t bound s = expected (kind_given f) (fun_wanted f) s.at (t bound s)

-- both parts, as a pair
unfoldable pub pair_check : Check → Check → Check
pair_check a b bound s = then_typed (a bound s) (λ k deep next. turned_kind (kind.Pair k) (b bound (behind s deep next)))

-- the body, under the left part's kind
unfoldable pub bind_check : List ℕ → Check → Check → Check
bind_check name left body bound s = then_typed (left bound s) (λ k deep next. body (bind_kind bound name k) (behind s deep next))

-- the kind of a list term, by that of the body at a number: a list of it, or unit where it is wanted to be unit
abbrev pub closed : Bool → ℕ → Verdict → Verdict
closed true at v = turned_kind kind.List v
closed false at v = of_unit at v

-- the body, under the items' kind; a list of its kind, or unit
unfoldable pub list_check : Bool → List ℕ → Check → Check → Check
list_check is_map name list body bound s =
    then_typed (items_of s.at (list bound s)) (λ item deep next. closed is_map next (body (bind_kind bound name item) (in_body s deep next)))

-- an outcome of a part
unfoldable pub outcome_check : Check → Check
outcome_check t bound s = turned_kind kind.Out (t bound s)

-- the second part, behind a first one that is wanted to be unit
unfoldable pub gate_check : Check → Check → Check
gate_check on t bound s = then_typed (of_unit s.at (on bound s)) (λ k deep next. t bound (behind s deep next))

-- unit, where each part from a position on is unit
abbrev pub all_from : List (Position → Verdict) → Position → Verdict
all_from [] s = leaf kind.Unit s
all_from (t ∷ ts) s = then_typed (of_unit s.at (t s)) (λ k deep next. all_from ts (behind s deep next))

-- a text, for a key that is wanted to be a text
unfoldable pub build_check : Check → Check
build_check key bound s = turned_kind (λ k. kind.Text) (of_text s.at (key bound s))

-- unit, for a key and a value that are wanted to be texts
unfoldable pub output_check : Check → Check → Check
output_check key v bound s =
    then_typed (of_text s.at (key bound s)) (λ k deep next. turned_kind (λ l. kind.Unit) (of_text next (v bound (behind s deep next))))

-- the parts of one layer of a term, where each is its check, and the kind that the layer makes of theirs
abbrev pub parts_check : Program → List Kind → Term-F Check → Check
parts_check p earlier (Term-F.Return v) bound s = leaf (literal_kind v) s
parts_check p earlier (Term-F.Fail k m) bound s = leaf (fail_kind k) s
parts_check p earlier (Term-F.Input n) bound s = leaf (kind_or_unit (input_kind p n)) s
parts_check p earlier (Term-F.Node n) bound s = leaf (kind_or_unit (node_kind p earlier n)) s
parts_check p earlier (Term-F.Var n) bound s = leaf (kind_or_unit (innermost_kind None bound n)) s
parts_check p earlier (Term-F.Map f t) bound s = map_check f t bound s
parts_check p earlier (Term-F.Pair a b) bound s = pair_check a b bound s
parts_check p earlier (Term-F.Bind n t u) bound s = bind_check n t u bound s
parts_check p earlier (Term-F.ListMap n t u) bound s = list_check true n t u bound s
parts_check p earlier (Term-F.ListIter n t u) bound s = list_check false n t u bound s
parts_check p earlier (Term-F.Catch t) bound s = outcome_check t bound s
parts_check p earlier (Term-F.State t) bound s = outcome_check t bound s
parts_check p earlier (Term-F.Gate on t) bound s = gate_check on t bound s
parts_check p earlier (Term-F.All ts) bound s = all_from (map (λ t. t bound) ts) s
parts_check p earlier (Term-F.Build op k) bound s = build_check k bound s
parts_check p earlier (Term-F.Output op k v) bound s = output_check k v bound s

-- one layer of a term, in the order of the check
abbrev pub check_step : Program → List Kind → Term-F Check → Check
check_step p earlier x bound s =
    named (name_fault p earlier x bound) s.at (nested (is_list_layer x) s (sized s.at (parts_check p earlier x bound (inside s))))

-- what the check of a term gives, over the kinds of the earlier nodes
abbrev pub verdict_of : Program → List Kind → Term → Check
verdict_of p earlier = fold-Term Check (check_step p earlier)

-- what the check of a term's parts gives
abbrev pub parts_verdict : Program → List Kind → Term → Check
parts_verdict p earlier t = parts_check p earlier (map-Term Term Check (verdict_of p earlier) (out-Term t))
