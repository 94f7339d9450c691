-- What Live and a plan are seen as.
use Rattle.std.specs.Prelude.{◌≡◌, ℕ, Bool, List, refl}
use Rattle.std.specs.Coded.{Coded, code_by, coded×, coded_bool, coded_ℕ, coded_list}
use Rattle.value_core.specs.Codes.{state_code}
use Rattle.value_core.specs.declared.state.State.{State}
use Rattle.visit_rules.specs.Differences.{changed_states}
use Rattle.visit_rules.specs.Views.{visit_code}
use Rattle.visit_rules.specs.declared.visit.Visit.{Visit}

-- the trees of all nodes, and whether a plan waits for its install or its abandon
pub record LiveView : Type 0 where
  pub trees : List Visit
  pub waits : Bool

-- the trees to come, and the nodes whose state will be another, with that state
pub record PlanView : Type 0 where
  pub trees : List Visit
  pub changed : List (ℕ × State)

-- the code of what is kept
abbrev pub live_code : Coded LiveView
live_code = code_by (List Visit × Bool) (coded× (coded_list visit_code) coded_bool) (λ k. (k.trees, k.waits)) (λ p. record { trees = p.0; waits = p.1 }) (λ _. refl)

-- the code of what is planned
abbrev pub plan_code : Coded PlanView
plan_code = code_by (List Visit × List (ℕ × State)) (coded× (coded_list visit_code) (coded_list (coded× coded_ℕ state_code))) (λ p. (p.trees, p.changed)) (λ p. record { trees = p.0; changed = p.1 }) (λ _. refl)

-- a plan was made over what is kept
pub record IsPlanOf (kept : LiveView) (plan : PlanView) : Type 0 where
  pub changed : plan.changed ≡ changed_states kept.trees plan.trees
