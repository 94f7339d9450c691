-- What renewing does: the trees that patches make, the states that are returned, and how many terms are visited.
use Rattle.std.specs.Prelude.{◌≡◌, ℕ, ◌+◌, List, map, Option}
use Rattle.value_core.specs.declared.value.Value.{Value}
use Rattle.term_core.specs.Evaluation.{bind}
use Rattle.term_core.specs.Views.{context_in}
use Rattle.term_core.specs.World.{World}
use Rattle.term_core.specs.declared.program.Term.{Term}
use Rattle.visit_rules.specs.Again.{Again, again_by, bodies_over, items_over, old_bodies, old_parts, parts_over, spare_bodies, ticks_in, visit_over, visits}
use Rattle.visit_rules.specs.KnownChanges.{moved_between}
use Rattle.visit_rules.specs.KnownChanges.{known_in}
use Rattle.incr_eval.specs.PatchedTrees.{patched, patched_bodies, patched_parts, patched_trees}
use Rattle.visit_rules.specs.Traces.{AgainAll}
use Rattle.visit_rules.specs.Visits.{state_of, states}
use Rattle.incr_eval.specs.declared.nodes.Nodes.{Nodes}
use Rattle.incr_eval.specs.declared.renew.Renewal.{Renewal}
use Rattle.incr_eval.specs.declared.renew.Renewed.{Renewed}
use Rattle.incr_eval.specs.declared.renew.RenewedBodies.{RenewedBodies}
use Rattle.incr_eval.specs.declared.renew.RenewedParts.{RenewedParts}
use Rattle.visit_rules.specs.declared.visit.Visit.{Visit}

-- a term over the tree that there was, as the renewal finds it
abbrev pub term_in : {E : Type 0} → (E → World) → Renewal E → Term → Option Visit → Again
term_in world r t old = again_by (known_in r.setting) (context_in world r.setting.context) t old r.bound

-- the parts of a term, over those that there were
abbrev pub parts_in : {E : Type 0} → (E → World) → Renewal E → Term → Option Visit → List Again
parts_in world r t old = parts_over (known_in r.setting) (context_in world r.setting.context) t old r.bound

-- a term visited, whatever differs
abbrev pub visit_in : {E : Type 0} → (E → World) → Renewal E → Term → Option Visit → Again
visit_in world r t old = visit_over (known_in r.setting) (context_in world r.setting.context) t old r.bound (parts_in world r t old)

-- the bodies of a term for these items, over those that there were
abbrev pub bodies_in : {E : Type 0} → (E → World) → Renewal E → Term → List Value → Option Visit → List Again
bodies_in world r t items old = bodies_over (known_in r.setting) (context_in world r.setting.context) t items old r.bound

-- a body for each item, over those that there were
abbrev pub items_in : {E : Type 0} → (E → World) → Renewal E → Term → List ℕ → List Value → Option Visit → List Again
items_in world r u name items old = items_over (known_in r.setting) (context_in world r.setting.context) u name items (spare_bodies old) r.bound

-- the renewal under one more bound value
abbrev pub binding : {E : Type 0} → Renewal E → List ℕ → Value → Renewal E
binding r name v = record r { bound = bind r.bound name v }

-- the patch makes the tree that there is again, its state is returned, and its ticks are counted
pub record Renews (a : Again) (was : Option Visit) (begun ended : ℕ) (r : Renewed) : Type 0 where
  pub made : patched r.patch was ≡ a.visit
  pub state : r.state ≡ state_of a.visit
  pub ticks : ended ≡ begun + a.ticks

-- the same of the parts of a term
pub record RenewsParts (all : List Again) (was : Option Visit) (begun ended : ℕ) (r : RenewedParts) : Type 0 where
  pub made : patched_parts (map patched r.patches) (old_parts was) ≡ visits all
  pub returned : r.states ≡ states (visits all)
  pub ticks : ended ≡ begun + ticks_in all

-- the same of the bodies of a term
pub record RenewsBodies (all : List Again) (was : Option Visit) (begun ended : ℕ) (r : RenewedBodies) : Type 0 where
  pub made : patched_bodies (map patched r.patches) r.from (old_bodies was) ≡ visits all
  pub returned : r.states ≡ states (visits all)
  pub ticks : ended ≡ begun + ticks_in all

-- the same of all nodes, of which those are known that have moved
pub record RenewsAll (run : AgainAll) (olds : List Visit) (begun ended : ℕ) (n : Nodes) : Type 0 where
  pub made : patched_trees n.patches olds ≡ run.traces
  pub returned : n.states ≡ states run.traces
  pub noted : n.moved ≡ moved_between olds n.states
  pub ticks : ended ≡ begun + run.ticks
