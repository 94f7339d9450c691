-- The made pipeline wants a triple for each item of its input, and no other.
use Rattle.std.proofs.Common.{◌≡◌, ℕ, zero, suc, ◌+◌, ◌-◌, ◌^◌, ◌≤◌, Bool, true, false, List, [], ◌∷◌, ◌++◌, length, map, codes, refl, sym, ap, subst, ◌∙◌, arith}
use Rattle.std.specs.Prelude.{if◌then◌else◌, filter, nat_lt, slice_get}
use Rattle.std.specs.List.{AllByRecursion, flat_map}
use Rattle.std.specs.Option.{option_and_then}
use Rattle.std.specs.FinMap.Entries.{by_order}
use Rattle.std.specs.declared.option.Option.{Option}
use Rattle.std.specs.declared.option.Option.TheVariants.{None, Some}
use Rattle.std.proofs.Common.{Less, Equal, Greater}
use Rattle.std.proofs.lemmas.Bool.{cond_both, lt-ltb}
use Rattle.std.proofs.lemmas.List.{length-append}
use Rattle.value_core.specs.Orders.{triple_cmp}
use Rattle.value_core.specs.Parts.{items_in, items_layer}
use Rattle.value_core.specs.declared.state.State.{State}
use Rattle.value_core.specs.declared.state.State.TheVariants.{Failed}
use Rattle.value_core.specs.declared.state.Triple.{Triple}
use Rattle.value_core.specs.declared.value.Value.{Value, Value-F}
use Rattle.value_core.specs.declared.value.Value.TheVariants as value
use Rattle.value_core.proofs.Layers.{out_at}
use Rattle.term_core.specs.Counts.{in_order, with_triple}
use Rattle.term_core.specs.Evaluation.{Bound, Context, Meaning, bind, build_run, context_of, eval, fits, input_named, items_run, list_run, looked_up, map_run, term_step, wanted}
use Rattle.term_core.specs.Fresh.{fresh, fresh_from}
use Rattle.term_core.specs.Runs.{Run, stated}
use Rattle.term_core.specs.World.{World}
use Rattle.term_core.specs.declared.program.Program.{Program}
use Rattle.term_core.specs.declared.program.Term.{Term-F}
use Rattle.core_rules.specs.Core.{CoreState}
use Rattle.core_rules.specs.Entries.{wants, world}
use Rattle.core_rules.specs.Settling.{create, create_all, created, is_served, is_value, settle, target, targets}
use Rattle.core_rules.specs.Settling as settling
use Rattle.session_rules.specs.Commands.{building_node, counting_node, made_program}
use Rattle.made_session.proofs.Within.{build_fold, count_fold, counting}

-- ---- one term

-- the wants of a body under each of some items
wants_of_each : (items : List Value) (body : Value → Run) → ((x : Value) → length (body x).wants ≤ 1) → length (flat_map (λ (r : Run). r.wants) (map body items)) ≤ length items
wants_of_each [] body few = omega arith
wants_of_each (x ∷ items) body few =
    let one = few x in
    let rest = wants_of_each items body few in
    let both = length-append (body x).wants (flat_map (λ (r : Run). r.wants) (map body items)) in
    omega (arith, one, rest, both)

module _ (context : Context) where
  looked_once : (meant : List ℕ → Value) (t : Triple) → length (looked_up context meant t).wants ≤ 1
  unfolding looked_up
  looked_once meant t =
      cond_both {A = Run} (fits (slice_get context.program.ops t.op) t) (wanted context meant t) (stated (Failed context.node (codes "order too long"))) (λ (r : Run). length r.wants ≤ 1) (λ e. omega arith) (λ e. omega arith)

  abbrev var : Meaning
  var = term_step context (Term-F.Var (codes "x"))

  abbrev input : Meaning
  input = term_step context (Term-F.Input (codes "xs"))

  abbrev build : Meaning
  build = term_step context (Term-F.Build (codes "f") var)

  build_once : (bound : Bound) → length (build bound).wants ≤ 1
  unfolding build_run
  build_once bound = looked_once value.Words _

  abbrev list : List Value
  list = items_in (input_named context.program.inputs context.inputs (codes "xs"))

  list_wants : length (term_step context (Term-F.ListMap (codes "x") input build) []).wants ≤ length list
  unfolding list_run items_run
  list_wants = wants_of_each list (λ x. build (bind [] (codes "x") x)) (λ x. build_once (bind [] (codes "x") x))

  first_wants : length (eval context building_node.term []).wants ≤ length list
  first_wants = subst (λ (m : Meaning). length (m []).wants ≤ length list) (sym (build_fold (term_step context))) list_wants

  next_wants : (i : ℕ) → (eval context (counting_node i).term []).wants ≡ []
  unfolding map_run
  next_wants i = ap (λ (m : Meaning). (m []).wants) (count_fold (term_step context))

-- ---- all nodes

none_more : (p : Program) (inputs : List Value) (w : World) (a k at : ℕ) (earlier : List State) → (fresh_from p inputs w at earlier (counting a k)).wants ≡ []
none_more p inputs w a zero at earlier = refl
none_more p inputs w a (suc k) at earlier =
    let context = context_of p at inputs earlier w in
    ap (λ (ts : List Triple). ts ++ (fresh_from p inputs w (at + 1) (earlier ++ (eval context (counting_node a).term []).state ∷ []) (counting (a + 1) k)).wants) (next_wants context a)
    ∙ none_more p inputs w (a + 1) k (at + 1) (earlier ++ (eval context (counting_node a).term []).state ∷ [])

made_wants : (n : ℕ) (inputs : List Value) (w : World) → length (fresh (made_program n) inputs w).wants ≤ length (items_in (input_named (made_program n).inputs inputs (codes "xs")))
unfolding fresh
made_wants n inputs w =
    let p = made_program n in
    let context = context_of p 0 inputs [] w in
    let first : Run = eval context building_node.term [] in
    let rest = (fresh_from p inputs w 1 (first.state ∷ []) (counting 1 (n - 1))).wants in
    let none : length rest ≡ 0 = ap length (none_more p inputs w 1 (n - 1) 1 (first.state ∷ [])) in
    let few = first_wants context in
    let both = length-append first.wants rest in
    omega (arith, none, few, both)

-- ---- inputs

-- a value with at most 256 items
abbrev pub IsFew : Value → Type 0
IsFew v = length (items_in v) ≤ 256

unit_few : IsFew value.Unit
unit_few = subst (λ (l : Value-F _ Value). length (items_layer l) ≤ 256) (sym (out_at Value-F.Unit value.Unit value.rolls-Unit)) (omega arith)

input_few : (n : ℕ) (inputs : List Value) → AllByRecursion IsFew inputs → IsFew (input_named (made_program n).inputs inputs (codes "xs"))
input_few n [] few = unit_few
input_few n (v ∷ vs) few = few.0

-- the wants of a state of the made pipeline
pub few_wants : (n : ℕ) (s : CoreState) → s.program ≡ made_program n → AllByRecursion IsFew s.inputs → length (wants s) ≤ 256
few_wants n s made few =
    subst (λ (p : Program). length (fresh p s.inputs (world s)).wants ≤ 256) (sym made)
    (let a = made_wants n s.inputs (world s) in let b = input_few n s.inputs few in omega (arith, a, b))

-- ---- settling

with_one : (t : Triple) (us : List Triple) → length (with_triple t us) ≤ suc (length us)
with_one t [] = omega arith
with_one t (u ∷ us) = elim (triple_cmp t u) as (λ o. length (by_order o (t ∷ u ∷ us) (u ∷ us) (u ∷ with_triple t us)) ≤ suc (length (u ∷ us))) [
  | Less ↦ omega arith
  | Equal ↦ omega arith
  | Greater ↦ (let rest = with_one t us in omega (arith, rest))
]

in_order_few : (ts : List Triple) → length (in_order ts) ≤ length ts
in_order_few [] = omega arith
in_order_few (t ∷ ts) =
    let one = with_one t (in_order ts) in
    let rest = in_order_few ts in
    omega (arith, one, rest)

filter_few : (q : Triple → Bool) (ts : List Triple) → length (filter q ts) ≤ length ts
filter_few q [] = omega arith
filter_few q (t ∷ ts) =
    let rest = filter_few q ts in
    cond_both (q t) (t ∷ filter q ts) (filter q ts) (λ us. length us ≤ suc (length ts)) (λ e. omega (arith, rest)) (λ e. omega (arith, rest))

-- a state that is settled for some targets, and how far its numbers rise
pub record Creates (s : CoreState) (us : List Triple) : Type 0 where
  pub after : CoreState
  pub is : create_all s us ≡ Some after
  pub next : after.next ≤ s.next + length us

creates : (s : CoreState) (us : List Triple) → s.next + length us ≤ 2 ^ 62 → Creates s us
creates s [] room = record { after = s; is = refl; next = omega arith }
creates s (u ∷ us) room = elim (is_served s u) as (λ b. is_served s u ≡ b → Creates s (u ∷ us)) [
  | true ↦ λ served.
      let is : create s u ≡ Some s = ap (λ (b : Bool). if b then Some s else (if nat_lt s.next (2 ^ 62) then Some (created s u) else None)) served in
      let rest = creates s us (omega (arith, room)) in
      let next = rest.next in
      record { after = rest.after; is = ap (λ (o : Option CoreState). option_and_then (λ t. create_all t us) o) is ∙ rest.is; next = omega (arith, next) }
  | false ↦ λ unserved.
      let left : nat_lt s.next (2 ^ 62) ≡ true = lt-ltb s.next (2 ^ 62) (omega (arith, room)) in
      let is : create s u ≡ Some (created s u) =
      ap (λ (b : Bool). if b then Some s else (if nat_lt s.next (2 ^ 62) then Some (created s u) else None)) unserved
      ∙ ap (λ (b : Bool). if b then Some (created s u) else None) left in
      let rest = creates (created s u) us (omega (arith, room)) in
      let next = rest.next in
      record { after = rest.after; is = ap (λ (o : Option CoreState). option_and_then (λ t. create_all t us) o) is ∙ rest.is; next = omega (arith, next) }
] refl

-- a state that is settled, and how far its numbers rise
pub record Settles (s : CoreState) : Type 0 where
  pub after : CoreState
  pub is : settle s ≡ Some after
  pub next : after.next ≤ s.next + 256

pub settles : (s : CoreState) → length (wants s) ≤ 256 → s.next + 256 ≤ 2 ^ 62 → Settles s
settles s few room =
    let ws = settling.wanted s in
    let us = targets ws s.jobs in
    let fewer = in_order_few (wants s) in
    let fewest = filter_few (λ t. is_value (target ws s.jobs t.op t.key) t.value) ws in
    let lost = settling.lost_marked ws (settling.dropped ws s) in
    let made = creates lost us (omega (arith, few, room, fewer, fewest)) in
    let next = made.next in
    record { after = made.after; is = made.is; next = omega (arith, next, few, fewer, fewest) }
