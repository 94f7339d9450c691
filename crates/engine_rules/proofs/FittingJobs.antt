-- The orders of live jobs fit.
use Rattle.std.proofs.Common.{◌≡◌, ℕ, true, false, cond, List, [], ◌∷◌, Some, None, refl, ap, sym, ◌∙◌, subst}
use Rattle.std.specs.Prelude.{◌==◌, ◌&&◌, if◌then◌else◌, length, nat_lt, not, slice_get}
use Rattle.std.specs.List.{AllByRecursion, list_all}
use Rattle.value_core.specs.declared.state.Triple.{Triple}
use Rattle.op_keys.specs.Orders.{first_too_long, is_short, order_fits, order_limit, order_words}
use Rattle.op_keys.specs.declared.declarations.OpDecl.{OpDecl}
use Rattle.term_core.specs.Evaluation.{fits}
use Rattle.term_core.specs.declared.program.Program.{Program}
use Rattle.core_rules.specs.declared.jobs.Job.{Job}
use Rattle.core_rules.specs.Core.{CoreState, job_numbered}
use Rattle.core_rules.specs.Orders.{picked}
use Rattle.core_rules.proofs.Helpers.{then_some}
use Rattle.engine_rules.specs.Edits.{pick_job}
use Rattle.engine_rules.specs.Orders.{Fits, OrdersFit}
use Rattle.engine_rules.specs.Reached.{IsTripleWithin}

-- triples within the bounds have orders that fit
pub orders_fit : (p : Program) (js : List Job) → AllByRecursion (λ (j : Job). IsTripleWithin p j.triple) js → OrdersFit p js
orders_fit p [] h = tt
orders_fit p (j ∷ js) (w, h) = (w.wantable.order, orders_fit p js h)

-- ---- one job

fit_numbered : (p : Program) (js : List Job) (n : ℕ) (j : Job) → OrdersFit p js → job_numbered js n ≡ Some j → Fits p j.triple
fit_numbered p [] n j h e = let z : ⊥ = cc in absurd z
fit_numbered p (i ∷ js) n j h e = elim (i.number == n) as (λ b. cond b (Some i) (job_numbered js n) ≡ Some j → Fits p j.triple) [
  | true ↦ λ f. let same : i ≡ j = cc in subst (λ (x : Job). Fits p x.triple) same h.0
  | false ↦ λ f. fit_numbered p js n j h.1 f
] e

-- the job that a worker takes next fits
pub fit_pick : (s : CoreState) (w : ℕ) (j : Job) → OrdersFit s.program s.jobs → pick_job s w ≡ Some j → Fits s.program j.triple
fit_pick s w j h e =
    let n = then_some (job_numbered s.jobs) (picked s w) j e in
    fit_numbered s.program s.jobs n.0 j h n.2

-- what fits has no word that is too long
no_long : (ws : List (List ℕ)) → list_all is_short ws ≡ true → first_too_long ws ≡ None
no_long [] h = refl
no_long (w ∷ ws) h = elim (nat_lt order_limit (length w)) as (λ b. (not b && list_all is_short ws) ≡ true → (if b then Some (length w) else first_too_long ws) ≡ None) [
  | true ↦ λ g. let z : ⊥ = cc in absurd z
  | false ↦ λ g. no_long ws g
] h

pub never_too_long : (p : Program) (t : Triple) (d : OpDecl) → Fits p t → slice_get p.ops t.op ≡ Some d → first_too_long (order_words d t.key t.value) ≡ None
unfolding order_fits
never_too_long p t d h e = no_long (order_words d t.key t.value) (ap (λ o. fits o t) (sym e) ∙ h)
