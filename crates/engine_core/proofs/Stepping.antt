-- A step, put together of what was drafted, evaluated and settled.
use Rattle.std.proofs.Common.{◌≡◌, ℕ, ◌+◌, ◌-◌, ◌^◌, ◌<◌, false, List, Some, ap, sym, ◌∙◌, arith}
use Rattle.std.proofs.lemmas.Bool.{ne_eqb}
use Rattle.std.specs.Prelude.{◌==◌}
use Rattle.value_core.specs.declared.state.Triple.{Triple}
use Rattle.term_core.specs.Counts.{in_order}
use Rattle.core_rules.specs.Changes.{Change}
use Rattle.core_rules.specs.Core.{CoreState}
use Rattle.core_rules.specs.Entries.{states as states_in, wants, world}
use Rattle.core_rules.specs.Own.{own_change, own_made, rows_made, tried_marks}
use Rattle.core_rules.specs.Parts.{Work, core_of, work_of}
use Rattle.core_rules.specs.Replies.{changed_from as changed_nodes, new_conflicts, with_numbers}
use Rattle.core_rules.specs.Settling.{newly_marked, settle_for, wanted}
use Rattle.core_rules.specs.Steps.{Accepted, at_time, step}
use Rattle.core_rules.specs.declared.done.Done.{Done}
use Rattle.core_rules.specs.declared.events.Event.{Event}
use Rattle.core_rules.proofs.Moves.{accepts}
use Rattle.core_rules.proofs.Settling.{same_settled}
use Rattle.job_core.specs.Own.{own_work}
use Rattle.job_core.specs.Plans.{plan_signals, planned}
use Rattle.job_core.specs.State.{core_at}
use Rattle.engine_rules.specs.Answers.{reply_before}
use Rattle.engine_rules.specs.Conflicts.{triples_of}
use Rattle.engine_rules.specs.Edits.{MayOwn, change_of, edit_of, edited, marks_of}
use Rattle.engine_rules.specs.Laws.{joined, settled_parts}
use Rattle.engine_rules.specs.Proper.{IsProperWhat}
use Rattle.engine_rules.specs.Tests.{test_of}
use Rattle.engine_rules.specs.declared.edits.Edit.{Edit}
use Rattle.engine_rules.specs.declared.tests.Tested.TheVariants.{Passes}
use Rattle.engine_rules.proofs.Edited.{change_made, own_untouched, passed_may_own}
use Rattle.engine_rules.proofs.RepliedBefore.{agreement_lasts}
use Rattle.engine_rules.proofs.StepParts.{accepted_by_parts, marked_alone}
use Rattle.incr_eval.specs.Plans.{PlanView}
use Rattle.visit_rules.specs.Traces.{traces}
use Rattle.visit_rules.specs.Visits.{all_wants, states}
use Rattle.engine_core.specs.Evaluated.{trees_of}
use Rattle.engine_core.specs.Plans.{HasRowRoom, IsPlannedFor, changed_by, reply_planned}
use Rattle.engine_core.specs.State.{EngineState, IsEngineLawful}
use Rattle.engine_core.specs.declared.planned.Settled.{Settled}
use Rattle.engine_core.specs.declared.storing.Draft.{Draft}
use Rattle.engine_core.specs.inside.Drafts.{IsDraftOf}
use Rattle.engine_core.specs.inside.Planning.{IsEvaluated, IsSettled, change_of as step_change, planned_of, unsettled}
use Rattle.engine_core.proofs.Drafted.{agree_self, can_settle, input_there, wants_planned}
use Rattle.engine_core.proofs.OwnAlone.{marks_alone, work_alone}
use Rattle.engine_core.proofs.SameTrees.{same_trees}
use Rattle.engine_core.proofs.Trees.{changed_alike, states_of}

-- ---- the trees of an accepted step

-- what was evaluated before settling is the evaluation of the new state
pub trees_last : (s : CoreState) (e : Event) (s' : CoreState) (r : Done) → step s e ≡ Accepted s' r →
    traces s.program (edited (edit_of (at_time s e.at) e.what) (at_time s e.at)).inputs (world (edited (edit_of (at_time s e.at) e.what) (at_time s e.at))) ≡ trees_of s'
trees_last s e s' r h =
    let u : CoreState = at_time s e.at in
    let a = accepts s e s' r h in
    let t : CoreState = edited (edit_of u e.what) u in
    let same = same_settled (wanted a.own.state) a.own.state a.after a.settled in
    let own : t ≡ a.own.state = ap (λ (c : Change). c.state) (change_made u e.what a.own a.changed).1 in
    let program : t.program ≡ s.program = (own_untouched u (edit_of u e.what).own).program in
    let after : CoreState = record a.after { version = s.version + 1 } in
    (λ i. traces (sym program i) t.inputs (world t))
    ∙ (λ i. traces (own i).program (own i).inputs (world (own i)))
    ∙ (λ i. traces (sym same.program i) (sym same.inputs i) (world a.own.state))
    ∙ sym (same_trees after.program after.inputs (world after) (world a.own.state)
    (agreement_lasts (world a.own.state) a.own.state a.after (s.version + 1) (agree_self (world a.own.state) (wants a.own.state)) a.settled))
    ∙ sym (ap trees_of a.new)

-- ---- what is settled

-- a draft's jobs are those of the event's own change
pub work_drafted : (s : CoreState) (event : Event) (draft : Draft) → test_of (at_time s event.at) event.what ≡ Passes → IsDraftOf (at_time s event.at) event.what draft →
    own_work draft.edit.own (at_time s event.at).now (work_of s) ≡ work_of (own_made (edit_of (at_time s event.at) event.what).own (at_time s event.at))
work_drafted s event draft passes is =
    let u : CoreState = at_time s event.at in
    ap (λ (o : Edit). own_work o.own u.now (work_of s)) is.edit ∙ work_alone u (edit_of u event.what).own (passed_may_own u event.what passes)

-- what settles a draft settles the event's own change
pub settled_drafted : (s : CoreState) (event : Event) (draft : Draft) → test_of (at_time s event.at) event.what ≡ Passes → IsDraftOf (at_time s event.at) event.what draft →
    (ws : List Triple) → ws ≡ wants (edited (edit_of (at_time s event.at) event.what) (at_time s event.at)) → settled_parts s event ≡ settle_for (in_order ws) (unsettled s (at_time s event.at).now draft.edit)
settled_drafted s event draft passes is ws wanted =
    λ i. settle_for (in_order (sym wanted i)) (core_of (sym (work_drafted s event draft passes is) i) (rows_made (sym is.edit i).row s.rows) (at_time s event.at).now)

-- ---- what a plan is made of

-- what was drafted, evaluated and settled of an event that passes its test
pub record Pieces (e : EngineState) (event : Event) (draft : Draft) (wantsc : List (Triple × ℕ)) (p : PlanView) (r : Settled) : Type 0 where
  pub lawful : IsEngineLawful e.core
  pub passes : test_of (at_time e.core event.at) event.what ≡ Passes
  pub proper : IsProperWhat event.what
  pub version : e.core.version < 2 ^ 64 - 1
  pub drafted : IsDraftOf (at_time e.core event.at) event.what draft
  pub before : triples_of wantsc ≡ wanted e.core
  pub evaluated : IsEvaluated e.core (at_time e.core event.at).now draft.edit p
  pub settled : IsSettled e (at_time e.core event.at).now draft.edit wantsc p r
  pub row_room : HasRowRoom draft.edit.row e.row_room

pub left_version : (n : ℕ) → n < 2 ^ 64 - 1 → (n == 2 ^ 64 - 1) ≡ false
left_version n l = ne_eqb n (2 ^ 64 - 1) (λ e. absurd (omega arith))

module _ (e : EngineState) (event : Event) (draft : Draft) (wantsc : List (Triple × ℕ)) (p : PlanView) (r : Settled) (is : Pieces e event draft wantsc p r) where
  abbrev s : CoreState
  s = e.core

  abbrev u : CoreState
  u = at_time s event.at

  abbrev d : Edit
  d = edit_of u event.what

  abbrev w : Work
  w = planned r.jobs (work_of s)

  may : MayOwn u d.own
  may = passed_may_own u event.what is.passes

  wants_same : all_wants p.trees ≡ wants (edited d u)
  wants_same = wants_planned s event draft is.lawful is.passes is.drafted p is.evaluated ∙ ap (λ (o : Edit). wants (edited o u)) is.drafted.edit

  states_same : states p.trees ≡ states_in (edited d u)
  states_same =
      ap states is.evaluated.trees
      ∙ (λ i. states (traces (sym (own_untouched u draft.edit.own).program i) (edited draft.edit u).inputs (world (edited draft.edit u))))
      ∙ states_of (edited draft.edit u)
      ∙ ap (λ (o : Edit). states_in (edited o u)) is.drafted.edit

  work_same : own_work draft.edit.own u.now (work_of s) ≡ work_of (own_made d.own u)
  work_same = work_drafted s event draft is.passes is.drafted

  settled_so : settled_parts s event ≡ Some (core_of w (rows_made d.row s.rows) u.now)
  settled_so =
      settled_drafted s event draft is.passes is.drafted (all_wants p.trees) wants_same
      ∙ is.settled.settled
      ∙ ap (λ (o : Edit). Some (core_of w (rows_made o.row s.rows) u.now)) is.drafted.edit

  signals_so : plan_signals r.jobs ≡ with_numbers (marks_of u d.own) (newly_marked (wanted (edited d u)) (edited d u))
  signals_so =
      is.settled.signals
      ∙ (λ i. with_numbers (tried_marks (own_change (core_at (work_of s) u.now) (is.drafted.edit i).own)) (newly_marked (in_order (wants_same i)) (core_of (work_same i) (rows_made (is.drafted.edit i).row s.rows) u.now)))
      ∙ (λ i. with_numbers (marks_alone u d.own may i) (marked_alone (edited d u) (wanted (edited d u)) (rows_made d.row s.rows) u.now i))

  changed_so : r.changed ≡ changed_nodes 0 (states_in s) (states_in (edited d u))
  changed_so =
      is.settled.changed ∙ is.evaluated.over ∙ changed_alike 0 (states (trees_of s)) (states p.trees)
      ∙ (λ i. changed_nodes 0 (states_of s i) (states_same i))

  conflicts_so : r.conflicts ≡ new_conflicts (wants s) (wants (edited d u))
  conflicts_so = is.settled.conflicts (wants s) is.before ∙ ap (new_conflicts (wants s)) wants_same

  reply_so : reply_before s (change_of u event.what) w.next ≡ reply_planned (planned_of (s.version + 1) u.now draft p r)
  reply_so = sym (λ i. record {
    note = is.drafted.note i;
    version = s.version + 1;
    changed = changed_so i;
    conflicts = conflicts_so i;
    signals = signals_so i;
    delta = record (is.drafted.delta i) { next = is.settled.next i };
  })

  pub accepted_so : step s event ≡ Accepted (changed_by (step_change u.now draft p r) s) (reply_planned (planned_of (s.version + 1) u.now draft p r))
  accepted_so =
      accepted_by_parts s event w is.passes (left_version s.version is.version) settled_so
      ∙ (λ i. Accepted (joined_so i) (reply_so i))
    where
      joined_so : joined s event w ≡ changed_by (step_change u.now draft p r) s
      joined_so = ap (λ (o : Edit). changed_by (record (step_change u.now draft p r) { row = o.row; input = o.input }) s) (sym is.drafted.edit)

  pub planned_so : IsPlannedFor (planned_of (s.version + 1) u.now draft p r) e
  planned_so = record {
    event = event;
    reply = reply_planned (planned_of (s.version + 1) u.now draft p r);
    proper = is.proper;
    accepted = accepted_so;
    version = is.version;
    input = input_there s event draft is.lawful is.passes is.drafted;
    row = (can_settle s event draft is.lawful is.passes is.drafted p is.evaluated).row;
    row_room = is.row_room;
    jobs = is.settled.fits;
    evaluation = is.evaluated.over;
    trees =
        is.evaluated.trees
        ∙ ap (λ (o : Edit). traces s.program (edited o u).inputs (world (edited o u))) is.drafted.edit
        ∙ trees_last s event _ _ accepted_so;
  }
