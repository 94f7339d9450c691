-- What replies tell of states that are written out, and how an input is set to a text.
use Rattle.std.proofs.Common.{◌≡◌, ℕ, ◌+◌, Bool, true, false, List, [], ◌∷◌, None, refl, ap, ◌∙◌}
use Rattle.std.specs.Prelude.{if◌then◌else◌}
use Rattle.value_core.specs.declared.value.Value as V
use denote.Hole.Carrier as C
use Rattle.value_core.specs.declared.value.Kind.TheVariants as kind
use Rattle.value_core.specs.declared.value.Value.TheVariants as value
use Rattle.value_core.specs.Parts.{text_in}
use Rattle.value_core.proofs.KindLaws.{fits_words}
use Rattle.value_core.specs.declared.state.State.TheVariants.{Fine}
use Rattle.value_core.specs.declared.state.State.{State}
use Rattle.value_core.specs.Codes.{state_code}
use Rattle.value_core.specs.Same.{same}
use Rattle.value_core.proofs.Sames.{same_refl, same_true}
use Rattle.core_rules.specs.declared.events.Refusal.TheVariants as refusal
use Rattle.core_rules.specs.Changes.{Change, Refuses, Makes, takes}
use Rattle.core_rules.specs.Replies.{changed_from}

pub unchanged : (at : ℕ) (ss : List State) → changed_from at ss ss ≡ []
unchanged at [] = refl
unchanged at (s ∷ ss) = ap (λ b. if b then changed_from (at + 1) ss ss else ((at, s) ∷ changed_from (at + 1) ss ss)) (same_refl state_code s) ∙ unchanged (at + 1) ss

-- the first node's change, by whether its state is the same
abbrev first_unless : State → Bool → List (ℕ × State)
first_unless b c = if c then [] else ((0, b) ∷ [])

-- the only node has another state
pub apart : (a b : State) → (a ≡ b → ⊥) → changed_from 0 (a ∷ []) (b ∷ []) ≡ (0, b) ∷ []
apart a b h = elim (same state_code a b) as (λ c. same state_code a b ≡ c → first_unless b c ≡ (0, b) ∷ []) [ true ↦ λ e. absurd (h (same_true state_code a b e)) | false ↦ λ e. refl ] refl

-- the text of a state
abbrev text_shown : State → List ℕ
text_shown (Fine v) = text_in v
text_shown s = []

-- the only node has another text than before
pub other_text : (t u : List ℕ) → (t ≡ u → ⊥) → changed_from 0 (Fine (value.Words t) ∷ []) (Fine (value.Words u) ∷ []) ≡ (0, Fine (value.Words u)) ∷ []
unfolding V.out-Value C.out
other_text t u h = apart (Fine (value.Words t)) (Fine (value.Words u)) (λ e. h (ap text_shown e))

-- a text may be the value of an input that is declared with one
text_is_taken : (name declared t : List ℕ) → takes (record { name = name; value = value.Words declared; watch = None }) (value.Words t) ≡ true
unfolding V.out-Value C.out
text_is_taken name declared t = fits_words t

-- such an input is set to a text
pub sets : {c : Change} (name declared t : List ℕ) → (if takes (record { name = name; value = value.Words declared; watch = None }) (value.Words t) then Makes c else Refuses refusal.WrongKind) ≡ Makes c
sets {c} name declared t = ap (λ b. if b then Makes c else Refuses refusal.WrongKind) (text_is_taken name declared t)
