-- How the engine's answers follow the core's rules.
use Rattle.std.specs.Prelude.{◌≡◌, ◌⊎◌, Option, Some, None}
use Rattle.core_rules.specs.Core.{CoreState}
use Rattle.core_rules.specs.Openings.{opening_reply}
use Rattle.core_rules.specs.Steps.{Answer, Refused, Idle, Accepted, step}
use Rattle.core_rules.specs.declared.done.Delta.{Delta}
use Rattle.core_rules.specs.declared.done.Done.{Done}
use Rattle.core_rules.specs.declared.events.Event.{Event}
use Rattle.core_rules.specs.declared.events.Refusal.{Refusal}
use Rattle.core_rules.specs.declared.events.Refusal.TheVariants as refusal

-- a refusal is that of an answer, unless it says that memory is out
abbrev pub IsRefusedBy : Answer → Refusal → Type 0
IsRefusedBy a r = (r ≡ refusal.NoMemory) ⊎ (a ≡ Refused r)

-- a later state and a reply are those of an answer; what changes nothing leaves the state
abbrev pub Meets : Answer → CoreState → CoreState → Done → Type 0
Meets (Refused r) s after done = ⊥
Meets (Idle d) s after done = (after ≡ s) × (done ≡ d)
Meets (Accepted t d) s after done = (after ≡ t) × (done ≡ d)

-- they are those of the step of an event
abbrev pub IsStep : CoreState → Event → CoreState → Done → Type 0
IsStep s e after done = Meets (step s e) s after done

-- what an accepted event stores
abbrev pub stored_by : Answer → Option Delta
stored_by (Refused r) = None
stored_by (Idle d) = None
stored_by (Accepted t d) = Some d.delta

-- an opening gives a state, and its reply is that of the opening
pub record IsOpening (start : Option CoreState) (s : CoreState) (done : Done) : Type 0 where
  pub state : start ≡ Some s
  pub reply : done ≡ opening_reply s

-- an opening is refused where there is no state, unless memory is out
abbrev pub IsUnopened : Option CoreState → Refusal → Type 0
IsUnopened start r = (r ≡ refusal.NoMemory) ⊎ ((r ≡ refusal.NumbersUsed) × (start ≡ None))
