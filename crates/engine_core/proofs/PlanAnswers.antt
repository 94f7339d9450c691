-- What a plan of a draft answers to its event.
use Rattle.std.proofs.Common.{◌≡◌, eq-eqb, inl, inr, ℕ, ◌-◌, ◌^◌, ◌<◌, min, max, List, None, ap, sym, ◌∙◌, subst}
use Rattle.value_core.specs.declared.state.Triple.{Triple}
use Rattle.term_core.specs.Counts.{in_order}
use Rattle.core_rules.specs.Core.{CoreState}
use Rattle.core_rules.specs.Entries.{wants}
use Rattle.core_rules.specs.Settling.{settle_for, wanted}
use Rattle.core_rules.specs.Steps.{Idle, Refused, at_time, idle_reply, step}
use Rattle.core_rules.specs.declared.events.Event.{Event}
use Rattle.core_rules.specs.declared.events.Refusal.{Refusal}
use Rattle.core_rules.specs.declared.events.Refusal.TheVariants as refusal
use Rattle.core_rules.specs.declared.notes.Note.{Note}
use Rattle.engine_rules.specs.Conflicts.{counted, triples_of}
use Rattle.engine_rules.specs.Edits.{MayOwn, edit_of, edited}
use Rattle.engine_rules.specs.Laws.{settled_parts}
use Rattle.engine_rules.specs.Proper.{IsProperWhat}
use Rattle.engine_rules.specs.Tests.{test_of}
use Rattle.engine_rules.specs.declared.edits.Edit.{Edit}
use Rattle.engine_rules.specs.declared.tests.Tested.{Tested}
use Rattle.engine_rules.specs.declared.tests.Tested.TheVariants.{Passes}
use Rattle.engine_rules.proofs.StepParts.{used_by_parts}
use Rattle.incr_eval.specs.Plans.{PlanView}
use Rattle.visit_rules.specs.Visits.{all_wants}
use Rattle.visit_rules.specs.declared.changes.Changes.{Changes}
use Rattle.visit_rules.specs.declared.visit.Visit.{Visit}
use Rattle.engine_core.specs.Answers.{IsRefusedBy, stored_by}
use Rattle.engine_core.specs.Evaluated.{dirty_in, evaluated, trees_of}
use Rattle.engine_core.specs.Plans.{HasRowRoom}
use Rattle.engine_core.specs.State.{EngineState, IsEngineLawful}
use Rattle.engine_core.specs.declared.planned.Planned.{Planned}
use Rattle.engine_core.specs.declared.storing.Draft.{Draft}
use Rattle.engine_core.specs.inside.Bare.{bare_at}
use Rattle.engine_core.specs.inside.Drafts.{IsDraftOf}
use Rattle.engine_core.specs.inside.Planning.{AreChangesOf, CanEvaluate, CanSettle, IsDrafted, IsEvaluated, IsPlan, IsPlanOf, IsSettledPlan, IsUnplanned, IsUnsettled, edited_at, unsettled}
use Rattle.engine_core.proofs.BareParts.{test_bare}
use Rattle.engine_core.proofs.Drafted.{can_evaluate, can_settle, drafted, may, wants_edited}
use Rattle.engine_core.proofs.Stepping.{Pieces, accepted_so, planned_so, settled_drafted}
use Rattle.engine_core.proofs.Tested.{accepted_meets, evaluated_tested, idle_meets, test_so}
use Rattle.engine_core.proofs.Trees.{wants_of}
use Rattle.engine_core.proofs.WantedCounts.{triples_counted}

-- ---- a draft of an event that passes

-- what is known of an event and its draft in a state
pub record Drafting (s : CoreState) (event : Event) (draft : Draft) : Type 0 where
  pub lawful : IsEngineLawful s
  pub proper : IsProperWhat event.what
  pub passes : test_of (at_time s event.at) event.what ≡ Passes
  pub drafted : IsDraftOf (at_time s event.at) event.what draft

-- the parts' test passes at the event's moment
pub passes_bare : (s : CoreState) (event : Event) (moment : ℕ) → moment ≡ (at_time s event.at).now → test_of (at_time s event.at) event.what ≡ Passes → test_of (bare_at s moment) event.what ≡ Passes
passes_bare s event moment is passes = ap (λ n. test_of (bare_at s n) event.what) is ∙ test_bare (at_time s event.at) event.what ∙ passes

-- a draft by the parts is one of the event
pub drafting : (s : CoreState) (event : Event) (moment : ℕ) (draft : Draft) → moment ≡ (at_time s event.at).now → IsDraftOf (bare_at s moment) event.what draft → IsDraftOf (at_time s event.at) event.what draft
drafting s event moment draft is h = drafted (at_time s event.at) event.what draft (subst (λ n. IsDraftOf (bare_at s n) event.what draft) is h)

pub is_drafted : (s : CoreState) (event : Event) (moment : ℕ) (draft : Draft) → IsEngineLawful s → moment ≡ (at_time s event.at).now → test_of (at_time s event.at) event.what ≡ Passes → IsDraftOf (bare_at s moment) event.what draft → IsDrafted s moment draft
is_drafted s event moment draft lawful is passes h = record { lawful = lawful; event = event; timed = is; passes = passes; draft = drafting s event moment draft is h }

-- ---- what is answered

module _ (s : CoreState) (event : Event) (draft : Draft) (is : Drafting s event draft) where
  abbrev u : CoreState
  u = at_time s event.at

  abbrev d : Edit
  d = edit_of u event.what

  -- the terms that are evaluated
  pub ticks_so : evaluated s event ≡ dirty_in s (edited_at s u.now draft.edit)
  ticks_so = evaluated_tested s event Passes is.passes ∙ ap (λ (o : Edit). dirty_in s (edited_at s u.now o)) (sym is.drafted.edit)

  unsettled_so : (r : Refusal) → IsUnplanned s u.now draft.edit r → IsRefusedBy (step s event) r
  unsettled_so r (inl e) = inl e
  unsettled_so r (inr (e, none)) =
      let settled : settled_parts s event ≡ None =
      settled_drafted s event draft is.passes is.drafted _ (wants_edited s event draft is.lawful is.passes is.drafted ∙ ap (λ (o : Edit). wants (edited o u)) is.drafted.edit) ∙ none in
      inr (used_by_parts s event is.passes (inr settled) ∙ ap Refused (sym e))

-- versions that are used up refuse
pub version_used : (s : CoreState) (event : Event) → test_of (at_time s event.at) event.what ≡ Passes → s.version ≡ 2 ^ 64 - 1 → IsRefusedBy (step s event) refusal.NumbersUsed
version_used s event passes is = inr (used_by_parts s event passes (inl (eq-eqb s.version (2 ^ 64 - 1) is)))

-- a plan of a draft is that of the event
plan_here : (e : EngineState) (event : Event) (draft : Draft) (plan : Planned) → Drafting e.core event draft → e.core.version < 2 ^ 64 - 1 → HasRowRoom draft.edit.row e.row_room →
    IsPlanOf e (at_time e.core event.at).now draft plan → IsPlan e.core event e plan
plan_here e event draft plan is version room of =
    let pieces : Pieces e event draft of.before of.evaluation of.settled.settled =
    record { lawful = is.lawful; passes = is.passes; proper = is.proper; version = version; drafted = is.drafted; before = of.triples; evaluated = of.evaluated; settled = of.settled.is; row_room = room } in
    let accepted = accepted_so e event draft of.before of.evaluation of.settled.settled pieces in
    subst (IsPlan e.core event e) (sym of.settled.planned) (record {
      made = accepted_meets e.core (step e.core event) _ _ accepted;
      stored = sym (ap stored_by accepted);
      fits = planned_so e event draft of.before of.evaluation of.settled.settled pieces;
    })

pub plan_so : (s : CoreState) (e : EngineState) (event : Event) (draft : Draft) (plan : Planned) → e.core ≡ s → Drafting s event draft → s.version < 2 ^ 64 - 1 → HasRowRoom draft.edit.row e.row_room →
    IsPlanOf e (at_time s event.at).now draft plan → IsPlan s event e plan
plan_so s e event draft plan same =
    subst (λ (x : CoreState). Drafting x event draft → x.version < 2 ^ 64 - 1 → HasRowRoom draft.edit.row e.row_room → IsPlanOf e (at_time x event.at).now draft plan → IsPlan x event e plan) same
    (plan_here e event draft plan)

-- the same at a moment that is the event's
module _ (s : CoreState) (event : Event) (moment : ℕ) (draft : Draft) (timed : moment ≡ (at_time s event.at).now) (is : Drafting s event draft) where
  pub ticks_at : evaluated s event ≡ dirty_in s (edited_at s moment draft.edit)
  ticks_at = ticks_so s event draft is ∙ ap (λ n. dirty_in s (edited_at s n draft.edit)) (sym timed)

  pub refused_at : (r : Refusal) → IsUnplanned s moment draft.edit r → IsRefusedBy (step s event) r
  refused_at r h = unsettled_so s event draft is r (subst (λ n. IsUnplanned s n draft.edit r) timed h)

  pub plan_at : (e : EngineState) (plan : Planned) → e.core ≡ s → s.version < 2 ^ 64 - 1 → HasRowRoom draft.edit.row e.row_room → IsPlanOf e moment draft plan → IsPlan s event e plan
  plan_at e plan same version room of = plan_so s e event draft plan same is version room (subst (λ n. IsPlanOf e n draft plan) timed of)

-- ---- what a draft may have

module _ (s : CoreState) (moment : ℕ) (draft : Draft) (is : IsDrafted s moment draft) where
  pub may_own : MayOwn (bare_at s moment) draft.edit.own
  may_own = subst (λ n. MayOwn (bare_at s n) draft.edit.own) (sym is.timed) (may s is.event draft is.lawful is.passes is.draft)

  pub may_evaluate : (wantsc : List (Triple × ℕ)) (c : Changes) → triples_of wantsc ≡ wanted s → AreChangesOf s moment wantsc draft.edit c → CanEvaluate s moment draft.edit c
  may_evaluate wantsc c e =
      subst (λ n. AreChangesOf s n wantsc draft.edit c → CanEvaluate s n draft.edit c) (sym is.timed) (can_evaluate s is.event draft is.lawful is.passes is.draft wantsc c e)

  pub may_settle : (p : PlanView) → IsEvaluated s moment draft.edit p → CanSettle s moment draft.edit p
  may_settle p = subst (λ n. IsEvaluated s n draft.edit p → CanSettle s n draft.edit p) (sym is.timed) (can_settle s is.event draft is.lawful is.passes is.draft p)

-- the wanted triples of the trees
pub triples_wanted : (s : CoreState) (vs : List Visit) (wantsc : List (Triple × ℕ)) → vs ≡ trees_of s → wantsc ≡ counted (all_wants vs) → triples_of wantsc ≡ wanted s
triples_wanted s vs wantsc trees is = ap triples_of is ∙ triples_counted (all_wants vs) ∙ ap (λ us. in_order (all_wants us)) trees ∙ ap in_order (wants_of s)

-- what isn't settled isn't planned
pub unplanned_so : (s : CoreState) (moment : ℕ) (d : Edit) (p : PlanView) (r : Refusal) → IsEvaluated s moment d p → IsUnsettled s moment d p r → IsUnplanned s moment d r
unplanned_so s moment d p r is (inl e) = inl e
unplanned_so s moment d p r is (inr (e, none)) = inr (e, ap (λ vs. settle_for (in_order (all_wants vs)) (unsettled s moment d)) (sym is.trees) ∙ none)

-- a plan of a draft that is settled
pub plan_settled : (s : CoreState) (e : EngineState) (moment : ℕ) (draft : Draft) (before : List (Triple × ℕ)) (p : PlanView) (plan : Planned) → e.core ≡ s → triples_of before ≡ wanted s →
    IsEvaluated s moment draft.edit p → IsSettledPlan e moment draft before p plan → IsPlanOf e moment draft plan
plan_settled s e moment draft before p plan same triples evaluated settled = record {
  before = before;
  triples = triples ∙ ap wanted (sym same);
  evaluation = p;
  evaluated = subst (λ (x : CoreState). IsEvaluated x moment draft.edit p) (sym same) evaluated;
  settled = settled;
}

-- ---- the moment of an event

pub moment_so : (i : CoreState) (s : CoreState) (event : Event) (moment : ℕ) → i ≡ s → moment ≡ max i.now (min event.at (2 ^ 60)) → moment ≡ (at_time s event.at).now
moment_so i s event moment is e = e ∙ ap (λ (x : CoreState). (at_time x event.at).now) is

-- the parts' test is the state's
pub tested_so : (s : CoreState) (event : Event) (moment : ℕ) (t : Tested) (parts : CoreState) → moment ≡ (at_time s event.at).now → parts ≡ bare_at s moment → t ≡ test_of parts event.what → test_of (at_time s event.at) event.what ≡ t
tested_so s event moment t parts is bare tested =
    test_so s event t (tested ∙ ap (λ (x : CoreState). test_of x event.what) bare ∙ ap (λ n. test_of (bare_at s n) event.what) is)

-- ---- what changes nothing

pub idle_plan : (s : CoreState) (e : EngineState) (event : Event) (n : Note) (p : Planned) → step s event ≡ Idle (idle_reply s n) → p.done ≡ idle_reply s n → p.change ≡ None → IsPlan s event e p
idle_plan s e event n p is done change =
    let idle : Planned = record { done = idle_reply s n; change = None } in
    let same : idle ≡ p = λ i. record { done = sym done i; change = sym change i } in
    subst (IsPlan s event e) same (record { made = idle_meets s (step s event) (idle_reply s n) is; stored = sym (ap stored_by is); fits = tt })
