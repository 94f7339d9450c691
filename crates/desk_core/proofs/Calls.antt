-- What a desk's calls answer, put together of the calls of its keeper and its engine.
use Rattle.std.proofs.Common.{◌≡◌, inl, inr, ℕ, Option, Some, None, Ok, Err, refl, ap, sym, ◌∙◌, subst}
use Rattle.std.specs.Prelude.{IfSome}
use Rattle.io_ends.specs.Causes.{Rose}
use Rattle.op_keys.specs.declared.level.Level.{Level}
use Rattle.term_core.specs.declared.program.Program.{Program}
use Rattle.core_rules.specs.Core.{CoreState}
use Rattle.core_rules.specs.Entries.{fresh_of}
use Rattle.core_rules.specs.Openings.{Durable, opened, start}
use Rattle.core_rules.specs.Steps.{step}
use Rattle.core_rules.specs.declared.done.Delta.{Delta}
use Rattle.core_rules.specs.declared.done.Done.{Done}
use Rattle.core_rules.specs.declared.events.Event.{Event}
use Rattle.core_rules.specs.declared.events.Refusal.{Refusal}
use Rattle.core_rules.proofs.Settling.{settled_fresh}
use Rattle.keeper_core.specs.Durables.{Reads}
use Rattle.keeper_core.specs.EitherSchema.{committed, loaded_of}
use Rattle.keeper_core.specs.KeeperCalls.{Commits, HasCause, Known, LeavesEither, Loads, ReadsOnly}
use Rattle.keeper_core.specs.Openings.{IsOpenableWithin}
use Rattle.keeper_core.specs.declared.keeper.KeepFault.{KeepFault}
use Rattle.keeper_core.specs.declared.keeper.KeepFault.TheVariants as keep
use Rattle.keeper_core.specs.declared.stored.Stored.{Stored}
use Rattle.keeper_core.specs.declared.tables.Tables.{Tables}
use Rattle.engine_core.specs.Answers.{IsOpening, IsUnopened, stored_by}
use Rattle.engine_core.specs.State.{EngineState}
use Rattle.desk_core.specs.Desk.{DeskState, HoldsCore, IsDeskOpened, IsNotApplied, IsNotOpened, IsReadFrom, opened_tables, start_in}
use Rattle.desk_core.specs.inside.Calls.{IsRead}
use Rattle.desk_core.specs.inside.Faults.{IsCommitted, closed_after, keeper_fault, refusal_fault}
use Rattle.desk_core.proofs.Tables.{AgreeOn, becomes_then, each_some, either_then, kept_then, no_more_then, opening_commits, opening_holds, opening_read, read_from, same_no_more, stays_then}

module _ {K : Type 0} (known : K → Known) (faults : K → ℕ) where
  -- ---- what is read

  pub is_read : (old new : K) (t : Tables) (d : Durable) → ReadsOnly (known old) (known new) (Ok t) → HasCause (faults old) (faults new) (Ok t) → Loads (known new) (Ok t) → Reads t (Ok d) → IsOpenableWithin d → IsRead known faults old new d
  is_read old new t d only cause loads reads openable = record {
    openable = openable;
    read = each_some (IsReadFrom d) (known new).tables (λ s e. read_from s t d (subst (λ (o : Option Stored). IfSome o (λ s. loaded_of s ≡ Some t)) e loads) reads.0 reads.1);
    left = record { tables = only.same; stop = only.no_more; count = cause.kept };
  }

  -- ---- openings

  pub opening_refused : (opens : Durable → Option CoreState) (old new : K) (d : Durable) (r : Refusal) → IsRead known faults old new d → IsUnopened (opens d) r → IsNotOpened known faults opens old new (refusal_fault r)
  opening_refused opens old new d r is (inl e) = subst (λ (x : Refusal). IsNotOpened known faults opens old new (refusal_fault x)) (sym e) is.left
  opening_refused opens old new d r is (inr h) = subst (λ (x : Refusal). IsNotOpened known faults opens old new (refusal_fault x)) (sym h.0)
      (record { refusal = refl; durable = d; openable = is.openable; none = h.1; read = is.read }, is.left)

  module _ (program : Program) (threshold : Option Level) (reading : ℕ) (old mid new : K) (d : Durable) (s : CoreState) (done : Done) (is : IsRead known faults old mid d) (opening : IsOpening (start program d threshold reading) s done) where
    abbrev opens : Durable → Option CoreState
    opens = start_in program threshold reading

    agrees : AgreeOn (committed done.delta) (opened_tables opens) (known mid)
    agrees = opening_commits opens d s done (known mid) is.read opening

    pub opening_fails : (f : KeepFault) → Commits (committed done.delta) (known mid) (known new) {T = Unit {0}} (Err f) → LeavesEither (committed done.delta) (known mid) (known new) → HasCause {T = Unit {0}} (faults mid) (faults new) (Err f) →
        IsNotOpened known faults opens old new (keeper_fault f)
    opening_fails keep.Fault commits stop cause = record {
      tables = kept_then (committed done.delta) (opened_tables opens) (known old) (known mid) (known new) is.left.tables agrees commits;
      stop = either_then (committed done.delta) (opened_tables opens) (known old) (known mid) (known new) is.left.tables is.left.stop agrees stop;
      count = subst (λ (n : ℕ). Rose n (faults new)) is.left.count (cause.failed refl);
    }
    opening_fails keep.NoMemory commits stop cause = record {
      tables = stays_then (known old) (known mid) (known new) is.left.tables commits.0;
      stop = no_more_then (known old) (known mid) (known new) is.left.stop (same_no_more (known mid) (known new) commits.1);
      count = cause.free refl ∙ is.left.count;
    }

    pub desk_opened : (engine : EngineState) → engine.core ≡ s → Commits (committed done.delta) (known mid) (known new) {T = Unit {0}} (Ok tt) → HasCause {T = Unit {0}} (faults mid) (faults new) (Ok tt) →
        IsDeskOpened known faults opens old (record { engine = engine; keeper = new; closed = None }) done
    desk_opened engine e commits cause = record {
      durable = d;
      openable = is.openable;
      opening = subst (λ (c : CoreState). IsOpening (opens d) c done) (sym e) opening;
      read = opening_read (committed done.delta) d (known old) (known mid) (known new) is.left.tables is.read commits.0;
      stored = becomes_then (committed done.delta) (opened_tables opens) (known old) (known mid) (known new) is.left.tables agrees commits.0;
      holds = subst (λ (c : CoreState). IfSome (known new).tables (HoldsCore c)) (sym e) (opening_holds program threshold reading d s done (known mid) (known new) is.read opening commits.0);
      sure = commits.1;
      count = cause.kept ∙ is.left.count;
      still = refl;
    }

  -- ---- steps

  pub step_unstored : {T : Type 0} (e : Event) (old new : DeskState K) (o : Option Delta) (f : KeepFault) → old.closed ≡ None → o ≡ stored_by (step old.engine.core e) → IsCommitted known o old.keeper new.keeper {T = T} (Err f) →
      HasCause {T = T} (faults old.keeper) (faults new.keeper) (Err f) → new.engine.core ≡ old.engine.core → new.closed ≡ closed_after f old.closed → IsNotApplied known faults e old new (keeper_fault f)
  step_unstored e old new None f was stored committed cause core closes = absurd committed
  step_unstored e old new (Some d) keep.Fault was stored committed cause core closes = record {
    was = was;
    delta = d;
    stores = sym stored;
    core = core;
    tables = committed.0;
    stop = committed.1;
    count = cause.failed refl;
    closes = closes;
  }
  step_unstored e old new (Some d) keep.NoMemory was stored committed cause core closes = record {
    was = was;
    core = core;
    tables = committed.0.0;
    stop = committed.0.1;
    count = cause.free refl;
    still = closes ∙ was;
  }

-- ---- ticks

-- an opened state evaluates as it was before it was settled
pub ticks_opened : (program : Program) (durable : Durable) (threshold : Option Level) (reading : ℕ) (s : CoreState) → start program durable threshold reading ≡ Some s → (fresh_of s).ticks ≡ (fresh_of (opened program durable threshold reading)).ticks
unfolding start
ticks_opened program durable threshold reading s e = ap (λ f. f.ticks) (settled_fresh (opened program durable threshold reading) s e)
