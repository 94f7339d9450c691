-- The answers of a desk to an event, and what is written for them, make the event's part.
use Rattle.std.proofs.Common.{◌≡◌, ◌≢◌, ℕ, List, [], refl, sym, ap, subst, ◌∙◌}
use Rattle.std.specs.Prelude.{IfOk, IfSome, ◌⊎◌}
use Rattle.std.specs.declared.option.Option.{Option}
use Rattle.std.specs.declared.option.Option.TheVariants.{None, Some}
use Rattle.std.specs.declared.result.Result.{Result}
use Rattle.std.specs.declared.result.Result.TheVariants.{Ok, Err}
use Rattle.std.specs.Io.KnownBytes.{Appends}
use Rattle.io_ends.specs.Causes.{AppendsFront}
use Rattle.io_ends.specs.Known.{Contents}
use Rattle.op_keys.specs.declared.order.Exit.{Exit}
use Rattle.op_keys.specs.declared.order.Order.{Order}
use Rattle.core_rules.specs.declared.done.Done.{Done}
use Rattle.core_rules.specs.declared.events.Event.{Event}
use Rattle.core_rules.specs.declared.events.Refusal.{Refusal}
use Rattle.core_rules.specs.declared.events.What.{What}
use Rattle.core_rules.specs.declared.notes.Note.{Note}
use Rattle.core_rules.specs.Core.{CoreState}
use Rattle.core_rules.specs.Steps.{Answer, Refused, Idle, Accepted, step}
use Rattle.core_rules.specs.declared.done.Delta.{Delta}
use Rattle.keeper_core.specs.EitherSchema.{committed}
use Rattle.keeper_core.specs.KeeperCalls.{BecomesBy, Known, LeavesEither, Stays}
use Rattle.engine_core.specs.Answers.{Meets, stored_by}
use Rattle.desk_core.specs.Desk.{DeskState, IsApplied, IsNotApplied, IsOutOfMemory, IsRefused, IsUnstored, Stores}
use Rattle.desk_core.specs.declared.faults.ClosedBy.{ClosedBy}
use Rattle.keeper_core.specs.declared.tables.Table.{Table}
use Rattle.desk_core.specs.declared.faults.DeskFault.{DeskFault}
use Rattle.desk_core.specs.declared.faults.DeskFault.TheVariants as fault
use Rattle.report_text.specs.Lines.{refusal_words, refused_line, reply_text}
use Rattle.session_rules.specs.Parts.{Part, Does, StopsIn}
use Rattle.session_rules.specs.Steps.{Counting, counted, event}
use Rattle.session_rules.proofs.Composing.{not_begun}
use Rattle.session_core.specs.declared.stop.Stop.{Stop}
use Rattle.session_core.specs.declared.stop.Stop.TheVariants as stop
use Rattle.session_core.specs.Answers.{accepted_note, news}
use Rattle.session_core.specs.Doing.{DoesPart, Moment, Plays, Stops, StopsPart, scene_of}
use Rattle.session_core.specs.Printing.{Writes}
use Rattle.session_core.proofs.Events.{accepted, idle, idle_in_part, not_kept, out_of_memory, refused_in_part, refuses, shown_in_part, used, used_stops}
use Rattle.session_core.proofs.Notes.{accepted_news, idle_news, idle_text}
use Rattle.session_core.proofs.Played.{at, does_from, stops_from}
use Rattle.session_core.proofs.Still.{none_written}

-- what is seen by the state of a desk and the rest
abbrev pub moment_of : {K : Type 0} → (K → Known) → ℕ → Option (List ℕ) → Option Contents → Option (List (Order × Exit)) → DeskState K → Option (List ℕ) → Moment
moment_of known last rs f ran d wr = record {
  scene = scene_of d.engine.core last rs f;
  outside = record { written = wr; ran = ran; keeper = known d.keeper };
}

module _ {K : Type 0} (known : K → Known) (faults : K → ℕ) (counting : Counting) (w : What) (last : ℕ) (rs : Option (List ℕ)) (f : Option Contents) (ran : Option (List (Order × Exit))) (d d' : DeskState K) (wr wr' : Option (List ℕ)) where
  abbrev c : CoreState
  c = d.engine.core

  abbrev c' : CoreState
  c' = d'.engine.core

  abbrev what_is : Event
  what_is = record { at = last; what = w }

  abbrev answer : Answer
  answer = step c what_is

  abbrev part : Part
  part = event counting w

  -- the number of evaluations that it shows
  abbrev pub shown : Option ℕ
  shown = counted counting c what_is

  abbrev before : Moment
  before = moment_of known last rs f ran d wr

  abbrev after : Moment
  after = moment_of known last rs f ran d' wr'

  -- ---- a step that was made

  -- nothing stops for the numbers
  stops_other : (z : Stop) → z ≢ stop.LimitReached → ((r : List ℕ) (g : Contents) → StopsIn part (at c last r g) before.outside after.outside) → StopsPart z part before after
  stops_other z other stops = stops_from part z c last before.outside after.outside rs f (λ r g. record { stops = stops r g; limit = λ is. absurd (other is) })

  module _ (done : Done) where
    made_accepted : {T : Type 0} (t : CoreState) (r : Done) (result : Result T Stop) → answer ≡ Accepted t r → (c' ≡ t) × (done ≡ r) → Stores known (Some r.delta) d.keeper d'.keeper →
        Writes (reply_text c'.program done shown) wr wr' result → Plays part before after result
    made_accepted t r (Ok x) is same stored wrote = does_from part c c' last before.outside after.outside rs f (λ rd g.
        accepted counting w (at c last rd g) before.outside c' r (known d'.keeper) wr' (is ∙ ap (λ (u : CoreState). Accepted u r) (sym same.0)) stored.0 stored.1
        (subst (λ (y : Done). Appends wr wr' (reply_text c'.program y shown)) same.1 wrote))
    made_accepted t r (Err z) is same stored wrote = stops_other z wrote.1 (λ rd g.
        shown_in_part counting w (at c last rd g) before.outside c' r (known d'.keeper) wr' (is ∙ ap (λ (u : CoreState). Accepted u r) (sym same.0)) stored.0 stored.1
        (subst (λ (y : Done). AppendsFront wr wr' (reply_text c'.program y shown)) same.1 wrote.0))

    no_text : (r : Done) → answer ≡ Idle r → done ≡ r → reply_text c'.program done shown ≡ []
    no_text r is same = idle_text c what_is c'.program done shown (is ∙ ap Idle (sym same))

    made_idle : {T : Type 0} (r : Done) (result : Result T Stop) → answer ≡ Idle r → (c' ≡ c) × (done ≡ r) → d'.keeper ≡ d.keeper →
        Writes (reply_text c'.program done shown) wr wr' result → Plays part before after result
    made_idle r (Ok x) is same kept wrote = does_from part c c' last before.outside after.outside rs f (λ rd g.
        subst (λ (p : CoreState × K). Does part (at c last rd g) (at p.0 last rd g) before.outside (record before.outside { written = wr'; keeper = known p.1 })) (λ i. (sym same.0 i, sym kept i))
        (idle counting w (at c last rd g) before.outside r wr' is (subst (λ t. Appends wr wr' t) (no_text r is same.1) wrote)))
    made_idle r (Err z) is same kept wrote = stops_other z wrote.1 (λ rd g.
        subst (λ (k : K). StopsIn part (at c last rd g) before.outside (record before.outside { written = wr'; keeper = known k })) (sym kept)
        (idle_in_part counting w (at c last rd g) before.outside r wr' is (subst (λ t. AppendsFront wr wr' t) (no_text r is same.1) wrote.0)))

    made_by : {T : Type 0} (a : Answer) (result : Result T Stop) → answer ≡ a → Meets a c c' done → Stores known (stored_by a) d.keeper d'.keeper → Writes (reply_text c'.program done shown) wr wr' result → Plays part before after result
    made_by (Refused r) result is meets stored wrote = absurd meets
    made_by (Idle r) result is meets stored wrote = made_idle r result is meets stored wrote
    made_by (Accepted t r) result is meets stored wrote = made_accepted t r result is meets stored wrote

    pub made_plays : {T : Type 0} (result : Result T Stop) → IsApplied known faults what_is d d' done → Writes (reply_text c'.program done shown) wr wr' result → Plays part before after result
    made_plays result applied wrote = made_by answer result refl applied.made applied.stored wrote

    -- by another name of the number
    pub counted_plays : {T : Type 0} (n : Option ℕ) (result : Result T Stop) → n ≡ shown → IsApplied known faults what_is d d' done → Writes (reply_text c'.program done n) wr wr' result → Plays part before after result
    counted_plays n result is applied wrote = made_plays result applied (subst (λ (k : Option ℕ). Writes (reply_text c'.program done k) wr wr' result) is wrote)

    -- nothing was written
    pub unshown_stops : (z : Stop) → z ≡ stop.NoMemory → wr' ≡ wr → IsApplied known faults what_is d d' done → StopsPart z part before after
    unshown_stops z only same applied =
        let r : Result (Unit {0}) Stop = Err z in
        made_plays r applied (
          subst (λ (v : Option (List ℕ)). AppendsFront wr v (reply_text c'.program done shown)) (sym same) (none_written wr (reply_text c'.program done shown)),
          λ is. let no : stop.NoMemory ≡ stop.LimitReached = sym only ∙ is in let z : ⊥ = cc in z,
        )

    noted_by : (a : Answer) → answer ≡ a → Meets a c c' done → news done.note ≡ accepted_note a
    noted_by (Refused r) is meets = absurd meets
    noted_by (Idle r) is meets = ap (λ (y : Done). news y.note) meets.1 ∙ idle_news c what_is r is
    noted_by (Accepted t r) is meets = ap (λ (y : Done). news y.note) meets.1 ∙ accepted_news c what_is t r is

    pub made_note : (result : Result (Option Note) Stop) → IsApplied known faults what_is d d' done → IfOk result (λ n. n ≡ news done.note) → IfOk result (λ n. n ≡ accepted_note answer)
    made_note (Ok n) applied is = is ∙ noted_by answer refl applied.made
    made_note (Err z) applied is = tt

  -- ---- one that was refused

  module _ (r : Refusal) (refused : IsRefused what_is d d' r) where
    pub refused_does : (why : List ℕ) → refusal_words r ≡ Some why → Appends wr wr' (refused_line why) → DoesPart part before after
    refused_does why words wrote = does_from part c c' last before.outside after.outside rs f (λ rd g.
        subst (λ (x : CoreState × K). Does part (at c last rd g) (at x.0 last rd g) before.outside (record before.outside { written = wr'; keeper = known x.1 })) (λ i. (sym refused.core i, sym refused.keeper i))
        (refuses counting w (at c last rd g) before.outside r why wr' refused.refused words wrote))

    pub refused_note : accepted_note answer ≡ None
    refused_note = ap accepted_note refused.refused

    refused_stops_by : (z : Stop) (o : Option (List ℕ)) → refusal_words r ≡ o → IfSome o (λ why. AppendsFront wr wr' (refused_line why) × (z ≢ stop.LimitReached)) → (o ≡ None → wr' ≡ wr) → StopsPart z part before after
    refused_stops_by z (Some why) words line none = stops_other z line.1 (λ rd g.
        subst (λ (k : K). StopsIn part (at c last rd g) before.outside (record before.outside { written = wr'; keeper = known k })) (sym refused.keeper)
        (refused_in_part counting w (at c last rd g) before.outside r why wr' refused.refused words line.0))
    refused_stops_by z None words line none = stops_from part z c last before.outside after.outside rs f (λ rd g.
        subst (λ (x : K × Option (List ℕ)). Stops z part (at c last rd g) before.outside (record before.outside { written = x.1; keeper = known x.0 })) (λ i. (sym refused.keeper i, sym (none refl) i))
        (record { stops = used_stops counting w (at c last rd g) before.outside r refused.refused words; limit = λ is. used counting w (at c last rd g) before.outside r refused.refused words }))

    -- its line was not written whole, or it has none
    pub refused_stops : (z : Stop) → IfSome (refusal_words r) (λ why. AppendsFront wr wr' (refused_line why) × (z ≢ stop.LimitReached)) → (refusal_words r ≡ None → wr' ≡ wr) → StopsPart z part before after
    refused_stops z line none = refused_stops_by z (refusal_words r) refl line none

  -- ---- one that was not made

  -- the keeper failed
  unstored_by : (a : Answer) → answer ≡ a → IsUnstored known faults what_is d d' → stored_by a ≡ stored_by answer → StopsPart stop.KeeperFault part before (moment_of known last rs f ran d' wr)
  unstored_by (Refused r) is u same = let z : None ≡ Some u.delta = same ∙ u.stores in absurd (cc)
  unstored_by (Idle r) is u same = let z : None ≡ Some u.delta = same ∙ u.stores in absurd (cc)
  unstored_by (Accepted t r) is u same =
      let delta : r.delta ≡ u.delta = let z : Some r.delta ≡ Some u.delta = same ∙ u.stores in cc in
      stops_from part stop.KeeperFault c last before.outside (record before.outside { keeper = known d'.keeper }) rs f (λ rd g. record {
        stops = not_kept counting w (at c last rd g) before.outside t r (known d'.keeper) is
            (subst (λ (y : Delta). Stays (known d.keeper) (known d'.keeper) ⊎ BecomesBy (committed y) (known d.keeper) (known d'.keeper)) (sym delta) u.tables)
            (subst (λ (y : Delta). LeavesEither (committed y) (known d.keeper) (known d'.keeper)) (sym delta) u.stop);
        limit = λ is. let no : ⊥ = cc in absurd no;
      })

  -- under a fault that is known
  pub keeper_stops : (x : DeskFault) → x ≡ fault.Keeper → IsNotApplied known faults what_is d d' x → StopsPart stop.KeeperFault part before (moment_of known last rs f ran d' wr)
  keeper_stops x is u = unstored_by answer refl (subst (λ (y : DeskFault). IsNotApplied known faults what_is d d' y) is u) refl

  lost : IsOutOfMemory known faults d d' → StopsPart stop.NoMemory part before (moment_of known last rs f ran d' wr)
  lost u = stops_from part stop.NoMemory c last before.outside (record before.outside { keeper = known d'.keeper }) rs f (λ rd g. record {
    stops = out_of_memory counting w (at c last rd g) before.outside (known d'.keeper) u.tables u.stop;
    limit = λ is. let no : ⊥ = cc in absurd no;
  })

  closed_before : d' ≡ d → StopsPart stop.KeeperFault part before (moment_of known last rs f ran d' wr)
  closed_before same = subst (λ (x : DeskState K). StopsPart stop.KeeperFault part before (moment_of known last rs f ran x wr)) (sym same)
      (stops_from part stop.KeeperFault c last before.outside before.outside rs f (λ rd g. record {
        stops = not_begun part (at c last rd g) before.outside;
        limit = λ is. let no : ⊥ = cc in absurd no;
      }))

  pub memory_stops : (x : DeskFault) → x ≡ fault.NoMemory → IsNotApplied known faults what_is d d' x → StopsPart stop.NoMemory part before (moment_of known last rs f ran d' wr)
  memory_stops x is u = lost (subst (λ (y : DeskFault). IsNotApplied known faults what_is d d' y) is u)

  pub closed_stops : (x : DeskFault) (by : ClosedBy) → x ≡ fault.Closed by → IsNotApplied known faults what_is d d' x → StopsPart stop.KeeperFault part before (moment_of known last rs f ran d' wr)
  closed_stops x by is u = closed_before (subst (λ (y : DeskFault). IsNotApplied known faults what_is d d' y) is u).1

  pub no_bad_row : {P : Type 0} (x : DeskFault) (table : Table) (n : ℕ) → x ≡ fault.BadRow table n → IsNotApplied known faults what_is d d' x → P
  no_bad_row x table n is u = absurd (subst (λ (y : DeskFault). IsNotApplied known faults what_is d d' y) is u)

  -- the answers that are refused, under a fault that is known
  module _ (x : DeskFault) (r : Refusal) (is : x ≡ fault.Refused r) (u : IsNotApplied known faults what_is d d' x) where
    is_refused : IsRefused what_is d d' r
    is_refused = subst (λ (y : DeskFault). IsNotApplied known faults what_is d d' y) is u

    written_same : (o : Option (List ℕ)) → refusal_words r ≡ o → IfSome o (λ why. Appends wr wr' (refused_line why)) → (o ≡ None → ⊥) → DoesPart part before after
    written_same None words wrote some = absurd (some refl)
    written_same (Some why) words wrote some = refused_does r is_refused why words wrote

    pub refused_plays : {T : Type 0} (result : Result T Stop) → IfSome (refusal_words r) (λ why. Writes (refused_line why) wr wr' result) → (refusal_words r ≡ None → (wr' ≡ wr) × (result ≡ Err stop.LimitReached)) → Plays part before after result
    refused_plays (Ok z) line none = written_same (refusal_words r) refl line (λ words. let two : Ok z ≡ Err stop.LimitReached = (none words).1 in cc)
    refused_plays (Err z) line none = refused_stops r is_refused z line (λ words. (none words).0)

    pub refused_noted : (result : Result (Option Note) Stop) → IfOk result (λ n. n ≡ None) → IfOk result (λ n. n ≡ accepted_note answer)
    refused_noted (Ok n) none = none ∙ sym (refused_note r is_refused)
    refused_noted (Err z) none = tt
