-- The causes of a stop in one event.
use Rattle.std.proofs.Common.{◌≡◌, ℕ, sym, subst, ◌∙◌}
use Rattle.io_ends.specs.Causes.{Rose}
use Rattle.std.specs.Prelude.{Some, None}
use Rattle.std.specs.declared.result.Result.{Result}
use Rattle.std.specs.declared.result.Result.TheVariants.{Ok, Err}
use Rattle.keeper_core.specs.KeeperCalls.{Known}
use Rattle.core_rules.specs.declared.done.Done.{Done}
use Rattle.core_rules.specs.declared.events.Event.{Event}
use Rattle.core_rules.specs.declared.events.Refusal.{Refusal}
use Rattle.desk_core.specs.Desk.{DeskState, IsApplied, IsNotApplied, IsRefused}
use Rattle.desk_core.specs.declared.faults.ClosedBy.{ClosedBy}
use Rattle.desk_core.specs.declared.faults.DeskFault.{DeskFault}
use Rattle.desk_core.specs.declared.faults.DeskFault.TheVariants as fault
use Rattle.session_core.specs.declared.stop.Stop.{Stop}
use Rattle.session_core.specs.declared.stop.Stop.TheVariants as stop
use Rattle.session_core.specs.Doing.{Causes, Counts, IsCausedBy}
use Rattle.session_core.specs.Printing.{IsPrintStop, PrintCause}

-- the counts by the state of a desk and the rest
abbrev pub counts_of : {K : Type 0} → (K → ℕ) → ℕ → DeskState K → ℕ → Counts
counts_of faults files d sink = record { sink = sink; keeper = faults d.keeper; files = files; closed = d.closed }

-- a print's stop is one of the session
print_caused : (z : Stop) (old new : Counts) → (new.sink ≡ old.sink → new ≡ old) → IsPrintStop z old.sink new.sink → IsCausedBy z old new
print_caused stop.ReadFault old new all p = absurd p
print_caused stop.WriteFault old new all p = p
print_caused stop.KeeperFault old new all p = absurd p
print_caused stop.NoMemory old new all p = tt
print_caused stop.LimitReached old new all p = all p

module _ {K : Type 0} (known : K → Known) (faults : K → ℕ) (e : Event) (files : ℕ) (d d' : DeskState K) (sink sink' : ℕ) where
  abbrev old : Counts
  old = counts_of faults files d sink

  abbrev new : Counts
  new = counts_of faults files d' sink'

  same_counts : faults d'.keeper ≡ faults d.keeper → d'.closed ≡ d.closed → sink' ≡ sink → new ≡ old
  same_counts keeper closed printed = λ i. record { sink = printed i; keeper = keeper i; files = files; closed = closed i }

  pub made_causes : {T : Type 0} (done : Done) (result : Result T Stop) → IsApplied known faults e d d' done → PrintCause sink sink' result → Causes old new result
  made_causes done (Ok x) a p = same_counts a.count (a.still ∙ sym a.was) p
  made_causes done (Err z) a p = λ _. print_caused z old new (same_counts a.count (a.still ∙ sym a.was)) p

  pub refused_causes : {T : Type 0} (r : Refusal) (result : Result T Stop) → IsRefused e d d' r → PrintCause sink sink' result → Causes old new result
  refused_causes r (Ok x) a p = same_counts (λ i. faults (a.keeper i)) (a.still ∙ sym a.was) p
  refused_causes r (Err z) a p = λ _. print_caused z old new (same_counts (λ i. faults (a.keeper i)) (a.still ∙ sym a.was)) p

  pub refused_caused : {T : Type 0} (x : DeskFault) (r : Refusal) (result : Result T Stop) → x ≡ fault.Refused r → IsNotApplied known faults e d d' x → PrintCause sink sink' result → Causes old new result
  refused_caused x r result is u p = refused_causes r result (subst (λ (y : DeskFault). IsNotApplied known faults e d d' y) is u) p

  pub keeper_rose : (x : DeskFault) → x ≡ fault.Keeper → IsNotApplied known faults e d d' x → Rose (faults d.keeper) (faults d'.keeper)
  keeper_rose x is u = (subst (λ (y : DeskFault). IsNotApplied known faults e d d' y) is u).count

  pub not_open : {P : Type 0} (x : DeskFault) (by : ClosedBy) → x ≡ fault.Closed by → IsNotApplied known faults e d d' x → d.closed ≡ None → P
  not_open x by is u none = let no : Some by ≡ None = sym (subst (λ (y : DeskFault). IsNotApplied known faults e d d' y) is u).0 ∙ none in absurd (cc)

-- ---- one call and then another

-- a call that left the counts, and then another
pub causes_after : {T : Type 0} (a b c : Counts) (result : Result T Stop) → b ≡ a → Causes b c result → Causes a c result
causes_after a b c result same x = subst (λ (y : Counts). Causes y c result) same x

-- a call that only printed
pub printed_causes : {T : Type 0} (a : Counts) (sink : ℕ) (result : Result T Stop) → PrintCause a.sink sink result → Causes a (record a { sink = sink }) result
printed_causes a sink (Ok x) p = λ i. record a { sink = p i }
printed_causes a sink (Err z) p = λ _. print_caused z a (record a { sink = sink }) (λ same. λ i. record a { sink = same i }) p
