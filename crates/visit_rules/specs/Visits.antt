-- A tree of visits: what it wants, how many visits it has, and whether what it read is another now.
use Rattle.std.specs.Prelude.{ℕ, ◌+◌, Bool, false, not, ◌||◌, List, [], ◌∷◌, ◌++◌, map, sum, slice_get}
use Rattle.std.specs.List.{flat_map, list_any}
use Rattle.value_core.specs.Codes.{value_code, state_code}
use Rattle.value_core.specs.Same.{same}
use Rattle.value_core.specs.declared.state.State.{State}
use Rattle.value_core.specs.declared.state.Triple.{Triple}
use Rattle.term_core.specs.Counts.{count_of, in_order}
use Rattle.term_core.specs.Evaluation.{Context, state_or_unit, value_or_unit}
use Rattle.term_core.specs.World.{entry_of}
use Rattle.term_core.specs.Codes.{entry_code}
use Rattle.visit_rules.specs.declared.visit.Read.{Read}
use Rattle.visit_rules.specs.declared.visit.Read.TheVariants as read
use Rattle.visit_rules.specs.declared.visit.Visit.{Visit}
use Rattle.visit_rules.specs.declared.visit.Visit.TheOpen.{Visit-F}
use Rattle.visit_rules.specs.declared.visit.Visit.TheViews.{out-Visit}
use Rattle.visit_rules.specs.declared.visit.Visit.TheFolds.{fold-Visit}

-- the state that a visit came to
abbrev pub state_of : Visit → State
state_of v = (out-Visit v).state

-- the trees of the parts
abbrev pub parts_of : Visit → List Visit
parts_of v = (out-Visit v).parts

-- the trees of the bodies
abbrev pub bodies_of : Visit → List Visit
bodies_of v = (out-Visit v).bodies

-- the states that visits came to
abbrev pub states : List Visit → List State
states vs = map state_of vs

-- whether what was read is another now
abbrev pub read_differs : Context → Read → Bool
read_differs given read.Nothing = false
read_differs given (read.Input place v) = not (same value_code (value_or_unit (slice_get given.inputs place)) v)
read_differs given (read.Node place s) = not (same state_code (state_or_unit (slice_get given.earlier place)) s)
read_differs given (read.Lookup t e) = not (same entry_code (entry_of given.world t) e)

-- a test of what was read
abbrev pub Test : Type 0
Test = Read → Bool

-- whether one visit or one below it passes a test, by whether one of those below does
abbrev pub passes_step : Test → Visit-F Bool → Bool
passes_step test x = test x.read || (list_any (λ b. b) x.parts || list_any (λ b. b) x.bodies)

-- whether what was read in the tree passes a test somewhere
abbrev pub passes : Test → Visit → Bool
passes test = fold-Visit Bool (passes_step test)

-- whether something that was read in the tree is another now
abbrev pub differs : Context → Visit → Bool
differs given = passes (read_differs given)

-- the triple that was looked up, if there was one
abbrev pub read_wants : Read → List Triple
read_wants read.Nothing = []
read_wants (read.Input place v) = []
read_wants (read.Node place s) = []
read_wants (read.Lookup t e) = t ∷ []

-- what one visit wants, its parts first, then its bodies, then its own lookup
abbrev pub wants_step : Visit-F (List Triple) → List Triple
wants_step x = flat_map (λ w. w) x.parts ++ (flat_map (λ w. w) x.bodies ++ read_wants x.read)

-- what the tree wants, in order of evaluation, with repeats
abbrev pub wants_of : Visit → List Triple
wants_of = fold-Visit (List Triple) wants_step

-- one visit more than there are below it
abbrev pub visits_step : Visit-F ℕ → ℕ
visits_step x = 1 + (sum x.parts + sum x.bodies)

-- how many visits the tree has
abbrev pub visits_of : Visit → ℕ
visits_of = fold-Visit ℕ visits_step

-- what several trees want, one after the other
abbrev pub all_wants : List Visit → List Triple
all_wants vs = flat_map wants_of vs

-- how many visits several trees have
abbrev pub all_visits : List Visit → ℕ
all_visits vs = sum (map visits_of vs)

-- the triples that are wanted, in order, each with how often it is wanted
abbrev pub tally : List Triple → List (Triple × ℕ)
tally ws = map (λ t. (t, count_of ws t)) (in_order ws)
