-- A term visited again over the tree of an earlier visit: if nothing that was read differs, its tree stays and nothing is counted.
use Rattle.std.specs.Prelude.{ℕ, suc, ◌+◌, Bool, not, ◌&&◌, if◌then◌else◌, List, [], ◌∷◌, map, sum, zip, Option, Some, None}
use Rattle.value_core.specs.Codes.{value_code}
use Rattle.value_core.specs.Same.{same}
use Rattle.value_core.specs.declared.value.Value.{Value}
use Rattle.value_core.specs.declared.state.State.{State}
use Rattle.term_core.specs.Evaluation.{Bound, Context, bind}
use Rattle.term_core.specs.declared.program.Term.{Term, Term-F, out-Term, fold-Term}
use Rattle.visit_rules.specs.Tables.{Body, body_of, direct_parts, items_for, reading, state_by}
use Rattle.visit_rules.specs.Visits.{Test, passes, read_differs, states}
use Rattle.visit_rules.specs.declared.visit.Read.{Read}
use Rattle.visit_rules.specs.declared.visit.Visit.{Visit}
use Rattle.visit_rules.specs.declared.visit.Visit.TheViews.{out-Visit, roll-Visit}

-- the tree that there is now, and how many terms were visited for it
pub record Again : Type 0 where
  pub visit : Visit
  pub ticks : ℕ

-- the trees of several terms
abbrev pub visits : List Again → List Visit
visits rs = map (λ a. a.visit) rs

-- how many terms were visited for several terms
abbrev pub ticks_in : List Again → ℕ
ticks_in rs = sum (map (λ a. a.ticks) rs)

-- what comes of a term over the tree that there was, if there was one, under bound values
abbrev pub Redo : Type 0
Redo = Option Visit → Bound → Again

-- ---- what there was

-- the trees of the parts
abbrev pub old_parts : Option Visit → List Visit
old_parts None = []
old_parts (Some v) = (out-Visit v).parts

-- the items that the bodies were for
abbrev pub old_items : Option Visit → List Value
old_items None = []
old_items (Some v) = (out-Visit v).items

-- the trees of the bodies
abbrev pub old_bodies : Option Visit → List Visit
old_bodies None = []
old_bodies (Some v) = (out-Visit v).bodies

-- each body with the item that it was for
abbrev pub spare_bodies : Option Visit → List (Value × Visit)
spare_bodies old = zip (old_items old) (old_bodies old)

-- ---- parts and bodies

-- each part over the tree at its place
abbrev pub parts_again : List Redo → List Visit → Bound → List Again
parts_again [] old bound = []
parts_again (t ∷ ts) [] bound = t None bound ∷ parts_again ts [] bound
parts_again (t ∷ ts) (v ∷ vs) bound = t (Some v) bound ∷ parts_again ts vs bound

-- the first unused body of an equal item
abbrev pub first_for : Value → List (Value × Visit) → Option Visit
first_for v [] = None
first_for v (p ∷ ps) = if same value_code v p.0 then Some p.1 else first_for v ps

-- the unused bodies without it
abbrev pub without_first : Value → List (Value × Visit) → List (Value × Visit)
without_first v [] = []
without_first v (p ∷ ps) = if same value_code v p.0 then ps else p ∷ without_first v ps

-- a body for each item in order, over the first unused one of an equal item
abbrev pub items_again : (Option Visit → Value → Again) → List Value → List (Value × Visit) → List Again
items_again body [] spare = []
items_again body (v ∷ vs) spare = body (first_for v spare) v ∷ items_again body vs (without_first v spare)

-- the same of a term's body, if it has one
abbrev pub bodies_again : Option (Body Redo) → List Value → List (Value × Visit) → Bound → List Again
bodies_again None vs spare bound = []
bodies_again (Some b) vs spare bound = items_again (λ was v. b.term was (bind bound b.name v)) vs spare

-- ---- one term

-- a visit, made of what it read, its items, its parts and its bodies
abbrev pub assembled : {R : Type 0} → ℕ → Term-F R → Bound → Read → List Value → List Again → List Again → Again
assembled node x bound r items parts bodies = record {
  visit = roll-Visit (record {
    state = state_by node x bound r (states (visits parts)) (states (visits bodies));
    read = r;
    items = items;
    parts = visits parts;
    bodies = visits bodies;
  });
  ticks = 1 + (ticks_in parts + ticks_in bodies);
}

-- a visit over its parts
abbrev pub over_parts : Context → Term-F Redo → Option Visit → Bound → List Again → Again
over_parts given x old bound parts =
    let ps : List State = states (visits parts) in
    assembled given.node x bound (reading given x ps) (items_for x ps) parts (bodies_again (body_of x) (items_for x ps) (spare_bodies old) bound)

-- a term visited, its parts and bodies over those that there were
abbrev pub renewed : Context → Term-F Redo → Redo
renewed given x old bound = over_parts given x old bound (parts_again (direct_parts x) (old_parts old) bound)

-- the tree that there was, if nothing that was read passes the test
abbrev pub kept_or : Test → Option Visit → Again → Again
kept_or test None new = new
kept_or test (Some v) new = if passes test v then new else record { visit = v; ticks = 0 }

-- one layer of a term, over what comes of its parts
abbrev pub again_step : Test → Context → Term-F Redo → Redo
again_step test given x old bound = kept_or test old (renewed given x old bound)

-- what comes of a term over the tree that there was, with a test for what is visited again
abbrev pub again_by : Test → Context → Term → Redo
again_by test given = fold-Term Redo (again_step test given)

-- the same, if what differs now is visited again
abbrev pub again : Context → Term → Redo
again given = again_by (read_differs given) given

-- the tree of all visits of a term
abbrev pub trace : Context → Term → Bound → Visit
trace given t bound = (again given t None bound).visit

-- how many terms are visited
abbrev pub terms : Context → Term → Bound → ℕ
terms given t bound = (again given t None bound).ticks

-- how many terms are visited again
abbrev pub dirty : Context → Term → Visit → Bound → ℕ
dirty given t old bound = (again given t (Some old) bound).ticks

-- ---- the same, by a term's own layer

-- the parts of a term, over those that there were
abbrev pub parts_over : Test → Context → Term → Option Visit → Bound → List Again
parts_over test given t old bound = parts_again (map (again_by test given) (direct_parts (out-Term t))) (old_parts old) bound

-- a body for each item, over those that there were
abbrev pub items_over : Test → Context → Term → List ℕ → List Value → List (Value × Visit) → Bound → List Again
items_over test given u name vs spare bound = items_again (λ was v. again_by test given u was (bind bound name v)) vs spare

-- the same of a body, if there is one
abbrev pub body_over : Test → Context → Option (Body Term) → List Value → List (Value × Visit) → Bound → List Again
body_over test given None vs spare bound = []
body_over test given (Some b) vs spare bound = items_over test given b.term b.name vs spare bound

-- the bodies of a term, over those that there were
abbrev pub bodies_over : Test → Context → Term → List Value → Option Visit → Bound → List Again
bodies_over test given t vs old bound = body_over test given (body_of (out-Term t)) vs (spare_bodies old) bound

-- a term visited, over its parts
abbrev pub visit_over : Test → Context → Term → Option Visit → Bound → List Again → Again
visit_over test given t old bound parts =
    let x : Term-F Term = out-Term t in
    let ps : List State = states (visits parts) in
    assembled given.node x bound (reading given x ps) (items_for x ps) parts (bodies_over test given t (items_for x ps) old bound)

-- ---- items and bodies by their places

-- the place of the first unused item that is equal, or how many there are
abbrev pub unused_place : Value → List Bool → List Value → ℕ
unused_place v [] xs = 0
unused_place v (u ∷ us) [] = 0
unused_place v (u ∷ us) (x ∷ xs) = if not u && same value_code v x then 0 else suc (unused_place v us xs)

-- those that are not used
abbrev pub unused : {X : Type 0} → List Bool → List X → List X
unused [] xs = []
unused (u ∷ us) [] = []
unused (u ∷ us) (x ∷ xs) = if u then unused us xs else x ∷ unused us xs
