-- The number of evaluations that a step shows.
use Rattle.std.proofs.Common.{◌≡◌, ◌+◌, ◌-◌, ◌^◌, ℕ, Bool, true, false, min, refl, ap, ◌∙◌, arith}
use Rattle.core_rules.specs.declared.events.Event.{Event}
use Rattle.core_rules.specs.Core.{CoreState}
use Rattle.engine_core.specs.Evaluated.{evaluated}
use Rattle.session_rules.specs.Steps.{counted}
use Rattle.session_core.specs.Numbers.{CountsSince, counting, number}

-- what was counted since then
since_is : (before old now k n : ℕ) → CountsSince before now n → before ≡ min old (2 ^ 64 - 1) → now ≡ old + k → n ≡ k
since_is before old now k n since was is = let e : n ≡ now - old = since old was (omega (arith, is)) in omega (arith, e, is)

-- the number of an event is shown if it is counted
number_is : (shows : Bool) (c : CoreState) (e : Event) → number shows (evaluated c e) ≡ counted (counting shows) c e
number_is true c e = refl
number_is false c e = refl

-- what is shown after an event
pub shown_number : (shows : Bool) (c : CoreState) (e : Event) (before old now n : ℕ) → CountsSince before now n → before ≡ min old (2 ^ 64 - 1) → now ≡ old + evaluated c e →
    number shows n ≡ counted (counting shows) c e
shown_number shows c e before old now n since was is = ap (number shows) (since_is before old now (evaluated c e) n since was is) ∙ number_is shows c e
