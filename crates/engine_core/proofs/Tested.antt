-- What a test by the parts decides of a step.
use Rattle.std.proofs.Common.{◌≡◌, refl, ap, sym, ◌∙◌, subst}
use Rattle.core_rules.specs.Core.{CoreState}
use Rattle.core_rules.specs.Steps.{Answer, Accepted, Idle, at_time, step}
use Rattle.core_rules.specs.declared.done.Done.{Done}
use Rattle.core_rules.specs.declared.events.Event.{Event}
use Rattle.engine_rules.specs.Edits.{change_of}
use Rattle.engine_rules.specs.Tests.{answered, test_of, tried}
use Rattle.engine_rules.specs.declared.tests.Tested.{Tested}
use Rattle.engine_rules.proofs.Edited.{answers_by_tests, tests_decide}
use Rattle.engine_core.specs.Answers.{Meets}
use Rattle.engine_core.specs.Evaluated.{dirty_after, evaluated}
use Rattle.engine_core.specs.inside.Bare.{bare_at}
use Rattle.engine_core.proofs.BareParts.{test_bare}

module _ (s : CoreState) (e : Event) (t : Tested) (is : test_of (at_time s e.at) e.what ≡ t) where
  pub step_tested : step s e ≡ answered s t (change_of (at_time s e.at) e.what)
  step_tested = answers_by_tests s e ∙ ap (λ (x : Tested). answered s x (change_of (at_time s e.at) e.what)) is

  pub evaluated_tested : evaluated s e ≡ dirty_after s (tried t (change_of (at_time s e.at) e.what))
  evaluated_tested = ap (dirty_after s) (tests_decide (at_time s e.at) e.what ∙ ap (λ (x : Tested). tried x (change_of (at_time s e.at) e.what)) is)

-- the parts' test is the state's
pub test_so : (s : CoreState) (e : Event) (t : Tested) → t ≡ test_of (bare_at s (at_time s e.at).now) e.what → test_of (at_time s e.at) e.what ≡ t
test_so s e t is = sym (is ∙ test_bare (at_time s e.at) e.what)

-- an answer gives the state and the reply
pub accepted_meets : (s : CoreState) (a : Answer) (after : CoreState) (done : Done) → a ≡ Accepted after done → Meets a s after done
accepted_meets s a after done h = subst (λ (x : Answer). Meets x s after done) (sym h) (refl, refl)

pub idle_meets : (s : CoreState) (a : Answer) (done : Done) → a ≡ Idle done → Meets a s s done
idle_meets s a done h = subst (λ (x : Answer). Meets x s s done) (sym h) (refl, refl)
