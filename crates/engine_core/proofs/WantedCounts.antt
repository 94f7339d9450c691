-- Wanted triples with their counts, as the jobs take them.
use Rattle.std.proofs.Common.{◌≡◌, ◌⊎◌, inl, inr, ℕ, ◌<◌, Err, List, [], ◌∷◌, map}
use Rattle.std.specs.List.{AllByRecursion}
use Rattle.value_core.specs.declared.state.Triple.{Triple}
use Rattle.term_core.specs.Counts.{count_of, in_order}
use Rattle.core_rules.specs.declared.events.Refusal.{Refusal}
use Rattle.core_rules.specs.declared.events.Refusal.TheVariants as refusal
use Rattle.job_core.specs.Answers.{IsUsed}
use Rattle.job_core.specs.declared.answers.SettleFault.{SettleFault}
use Rattle.job_core.specs.declared.answers.SettleFault.TheVariants as fault
use Rattle.job_core.specs.declared.plan.JobsPlan.{JobsPlan}
use Rattle.job_core.specs.Wants.{AreWants, TriplesRise, triples_in}
use Rattle.engine_rules.specs.Conflicts.{InOrder, counted}
use Rattle.engine_rules.proofs.DoubledKeys.{wants_are_counted}
use Rattle.engine_core.specs.inside.Planning.{reason}

rises : (ts : List Triple) → InOrder ts → TriplesRise ts
rises [] h = tt
rises (t ∷ ts) h = (h.0, rises ts h.1)

declared_counts : (ops : ℕ) (f : Triple → ℕ) (ts : List Triple) → AllByRecursion (λ (t : Triple). t.op < ops) ts → AllByRecursion (λ (p : Triple × ℕ). p.0.op < ops) (map (λ t. (t, f t)) ts)
declared_counts ops f [] h = tt
declared_counts ops f (t ∷ ts) h = (h.0, declared_counts ops f ts h.1)

pub are_wants : (ops : ℕ) (ws : List Triple) → AllByRecursion (λ (t : Triple). t.op < ops) (in_order ws) → AreWants ops (counted ws)
are_wants ops ws h = record {
  rising = rises (triples_in (counted ws)) (wants_are_counted ws).rising;
  declared = declared_counts ops (count_of ws) (in_order ws) h;
  counted = (wants_are_counted ws).counts;
}

-- the triples of the counted ones
pub triples_counted : (ws : List Triple) → triples_in (counted ws) ≡ in_order ws
triples_counted ws = (wants_are_counted ws).triples

-- ---- what isn't settled

pub unsettled_by : (f : SettleFault) (r : Refusal) (N : Type 0) → r ≡ reason f → (IsUsed {T = JobsPlan} (Err f) → N) → (r ≡ refusal.NoMemory) ⊎ ((r ≡ refusal.NumbersUsed) × N)
unsettled_by fault.NumbersUsed r N e u = inr (e, u tt)
unsettled_by fault.NoMemory r N e u = inl e
