-- The trees of a state, and what they tell.
use Rattle.std.proofs.Common.{◌≡◌, ℕ, suc, ◌+◌, true, cond, List, [], ◌∷◌, refl, ap, sym, ◌∙◌, subst, add-one}
use Rattle.value_core.specs.Codes.{state_code}
use Rattle.value_core.specs.Same.{same}
use Rattle.value_core.specs.declared.state.State.{State}
use Rattle.value_core.specs.declared.value.Value.{Value}
use Rattle.value_core.proofs.Basics.{same_test}
use Rattle.value_core.proofs.Sames.{same_refl, same_true}
use Rattle.term_core.specs.Fresh.{fresh}
use Rattle.term_core.specs.World.{World}
use Rattle.term_core.specs.declared.program.Program.{Program}
use Rattle.core_rules.specs.Core.{CoreState}
use Rattle.core_rules.specs.Entries.{states as states_in, wants}
use Rattle.core_rules.specs.Replies.{changed_from as changed_nodes}
use Rattle.visit_rules.specs.Differences.{changed_from}
use Rattle.visit_rules.specs.Traces.{traces}
use Rattle.visit_rules.specs.Visits.{all_wants, states}
use Rattle.engine_core.specs.Evaluated.{trees_of}
use Rattle.visit_rules.proofs.AllNodes.{traces_match}

-- what the trees of all nodes tell
pub record TreesTell (program : Program) (inputs : List Value) (world : World) : Type 0 where
  pub states : states (traces program inputs world) ≡ (fresh program inputs world).states
  pub wants : all_wants (traces program inputs world) ≡ (fresh program inputs world).wants

pub trees_tell : (program : Program) (inputs : List Value) (world : World) → TreesTell program inputs world
trees_tell program inputs world = let t = traces_match program inputs world in record { states = t.states; wants = t.wants }

-- the nodes whose states differ, in either order of comparison
same_both : (a b : State) → same state_code b a ≡ same state_code a b
same_both a b = same_test _ _ (λ h. subst (λ x. same state_code a x ≡ true) (sym (same_true state_code b a h)) (same_refl state_code a)) (λ h. subst (λ x. same state_code b x ≡ true) (sym (same_true state_code a b h)) (same_refl state_code b))

pub changed_alike : (at : ℕ) (olds news : List State) → changed_from at olds news ≡ changed_nodes at olds news
changed_alike at olds [] = refl
changed_alike at [] (s ∷ ss) = ap (λ rest. (at, s) ∷ rest) (changed_alike (suc at) [] ss ∙ ap (λ n. changed_nodes n [] ss) (sym (add-one at)))
changed_alike at (o ∷ os) (s ∷ ss) =
    let rest : changed_from (suc at) os ss ≡ changed_nodes (at + 1) os ss = changed_alike (suc at) os ss ∙ ap (λ n. changed_nodes n os ss) (sym (add-one at)) in
    λ i. cond (same_both o s i) (rest i) ((at, s) ∷ rest i)

pub states_of : (s : CoreState) → states (trees_of s) ≡ states_in s
states_of s = (trees_tell s.program s.inputs _).states

pub wants_of : (s : CoreState) → all_wants (trees_of s) ≡ wants s
wants_of s = (trees_tell s.program s.inputs _).wants
