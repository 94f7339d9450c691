-- What was drafted may be evaluated and settled.
use Rattle.std.proofs.Common.{◌≡◌, ℕ, ◌<◌, List, [], ◌∷◌, ◌++◌, length, map, Option, Some, None, refl, ap, sym, ◌∙◌, subst}
use Rattle.std.proofs.lemmas.Option.{slice_get_within}
use Rattle.std.specs.Prelude.{slice_get, ◌==◌}
use Rattle.std.specs.List.{AllByRecursion, list_any}
use Rattle.value_core.specs.declared.state.Triple.{Triple}
use Rattle.value_core.specs.declared.value.Value.{Value}
use Rattle.term_core.specs.Counts.{in_order, is_wanted}
use Rattle.term_core.specs.Evaluation.{value_or_unit}
use Rattle.term_core.specs.Fresh.{fresh}
use Rattle.term_core.specs.Laws.{Agree}
use Rattle.term_core.specs.Soundness.{IsSound}
use Rattle.term_core.specs.World.{World, entry_of}
use Rattle.term_core.specs.declared.program.InputDecl.{InputDecl}
use Rattle.term_core.specs.declared.program.Program.{Program}
use Rattle.op_keys.specs.Names.{index_named}
use Rattle.core_rules.specs.Core.{CoreState}
use Rattle.core_rules.specs.Entries.{wants, world}
use Rattle.core_rules.specs.Own.{PutsInTime}
use Rattle.core_rules.specs.Parts.{work_of}
use Rattle.core_rules.specs.Settling.{wanted}
use Rattle.core_rules.specs.Steps.{at_time}
use Rattle.core_rules.specs.declared.events.Event.{Event}
use Rattle.core_rules.specs.declared.events.What.{What}
use Rattle.core_rules.specs.declared.events.What.TheVariants as what
use Rattle.engine_rules.specs.Conflicts.{triples_of}
use Rattle.engine_rules.specs.Edits.{MayOwn, edit_of, edited}
use Rattle.engine_rules.specs.Tests.{input_test, test_of}
use Rattle.engine_rules.specs.Touched.{changed_triples, due_in, due_triples, own_triples, touched, touched_by}
use Rattle.engine_rules.specs.declared.edits.Edit.{Edit}
use Rattle.engine_rules.specs.declared.tests.Tested.TheVariants.{Passes}
use Rattle.engine_rules.proofs.BoundedStates.{moments_are_times}
use Rattle.engine_rules.proofs.Edited.{own_untouched, passed_may_own}
use Rattle.engine_rules.proofs.KeptRows.{wants_are_declared}
use Rattle.engine_rules.proofs.StepParts.{puts_at_times}
use Rattle.engine_rules.proofs.TouchedTriples.{differing_are_touched, inputs_kept}
use Rattle.incr_eval.specs.Plans.{PlanView}
use Rattle.visit_rules.specs.Visits.{all_wants}
use Rattle.visit_rules.specs.declared.changes.Changes.{Changes}
use Rattle.engine_core.specs.Plans.{HasInput}
use Rattle.engine_core.specs.State.{IsEngineLawful}
use Rattle.engine_core.specs.declared.storing.Draft.{Draft}
use Rattle.engine_core.specs.inside.Bare.{bare_at}
use Rattle.engine_core.specs.inside.Drafts.{IsDraftOf}
use Rattle.engine_core.specs.inside.Planning.{AreChangesOf, CanEvaluate, CanSettle, IsEvaluated, trees_edited}
use Rattle.engine_core.proofs.BareParts.{changed_bare, delta_bare, edit_bare, note_bare, own_triples_bare, test_bare}
use Rattle.engine_core.proofs.OwnAlone.{made_alone}
use Rattle.engine_core.proofs.Trees.{trees_tell, wants_of}

pub agree_self : (w : World) (ts : List Triple) → Agree w w ts
agree_self w [] = tt
agree_self w (t ∷ ts) = (refl, agree_self w ts)

-- a draft by the parts is one by the state
pub drafted : (u : CoreState) (w : What) (d : Draft) → IsDraftOf (bare_at u u.now) w d → IsDraftOf u w d
drafted u w d h = record { edit = h.edit ∙ edit_bare u w; note = h.note ∙ note_bare u w; delta = h.delta ∙ delta_bare u w }

input_within : (p : Program) (i : ℕ) (v : Value) (o : Option InputDecl) → slice_get p.inputs i ≡ o → input_test o v ≡ Passes → i < length p.inputs
input_within p i v None is h = let z : ⊥ = cc in absurd z
input_within p i v (Some d) is h = slice_get_within p.inputs i d is

-- an input that is set is declared
has_input : (u : CoreState) (w : What) → test_of u w ≡ Passes → HasInput (edit_of u w).input (length u.program.inputs)
has_input u (what.SetInput name v) h = input_within u.program (index_named 0 (map (λ (d : InputDecl). d.name) u.program.inputs) name) v _ refl h
has_input u what.Tick h = tt
has_input u (what.SetLevel threshold) h = tt
has_input u (what.Confirm n) h = tt
has_input u (what.Cancel n) h = tt
has_input u (what.Rebuild op key) h = tt
has_input u (what.Pause w) h = tt
has_input u (what.Resume w) h = tt
has_input u (what.Rate pool client rate) h = tt
has_input u (what.Take w) h = tt
has_input u (what.Finish n x) h = tt

module _ (s : CoreState) (event : Event) (draft : Draft) (lawful : IsEngineLawful s) (passes : test_of (at_time s event.at) event.what ≡ Passes) (is : IsDraftOf (at_time s event.at) event.what draft) where
  abbrev u : CoreState
  u = at_time s event.at

  abbrev d : Edit
  d = draft.edit

  pub may : MayOwn (bare_at s u.now) d.own
  may = subst (λ (o : Edit). MayOwn (bare_at s u.now) o.own) (edit_bare u event.what ∙ sym is.edit) (passed_may_own (bare_at s u.now) event.what (test_bare u event.what ∙ passes))

  timely : PutsInTime d.row
  timely = subst (λ (o : Edit). PutsInTime o.row) (sym is.edit) (puts_at_times u event.what (moments_are_times s event.at lawful.invariant.bounded).0)

  is_touched : (wantsc : List (Triple × ℕ)) → triples_of wantsc ≡ wanted s → touched_by wantsc (due_in s u.now) d (bare_at s u.now) ≡ touched (wanted s) s event
  is_touched wantsc e =
      (λ i. due_triples s u.now ++ (own_triples (e i) (bare_at s u.now) (is.edit i).own ++ changed_triples (bare_at s u.now) (is.edit i).row))
      ∙ (λ i. due_triples s u.now ++ (own_triples_bare u (wanted s) (edit_of u event.what).own i ++ changed_bare u (edit_of u event.what).row i))

  pub input_there : HasInput d.input (length s.inputs)
  input_there = subst (λ n. HasInput d.input n) (sym lawful.invariant.bounded.inputs) (subst (λ (o : Edit). HasInput o.input (length s.program.inputs)) (sym is.edit) (has_input u event.what passes))

  pub can_evaluate : (wantsc : List (Triple × ℕ)) (c : Changes) → triples_of wantsc ≡ wanted s → AreChangesOf s u.now wantsc d c → CanEvaluate s u.now d c
  can_evaluate wantsc c e are = record {
    own = may;
    row = timely;
    input = input_there;
    covered = record {
      was_inputs = s.inputs;
      was_world = world s;
      traced = refl;
      other_inputs = λ n h. ap value_or_unit (inputs_kept d.input s.inputs n (ap (λ ns. list_any (λ j. j == n) ns) (sym are.inputs) ∙ h));
      other_triples = λ t among off.
          subst (λ (o : Edit). entry_of (world (edited o u)) t ≡ entry_of (world s) t) (sym is.edit)
          (differing_are_touched (world s) s event t lawful.invariant lawful.bounds.limits.ops_apart passes (agree_self (world s) (wants s))
          (ap (λ ws. is_wanted ws t) (sym (wants_of s)) ∙ among)
          (ap (λ ws. is_wanted ws t) (sym (are.triples ∙ is_touched wantsc e)) ∙ off));
    };
  }

  -- the program that is evaluated
  same_program : (edited d u).program ≡ s.program
  same_program = (own_untouched u d.own).program

  -- what the evaluated trees want
  pub wants_edited : all_wants (trees_edited s u.now d) ≡ wants (edited d u)
  wants_edited =
      (trees_tell s.program (edited d u).inputs (world (edited d u))).wants
      ∙ ap (λ (q : Program). (fresh q (edited d u).inputs (world (edited d u))).wants) (sym same_program)

  pub wants_planned : (p : PlanView) → IsEvaluated s u.now d p → all_wants p.trees ≡ wants (edited d u)
  wants_planned p h = ap all_wants h.trees ∙ wants_edited

  pub can_settle : (p : PlanView) → IsEvaluated s u.now d p → CanSettle s u.now d p
  can_settle p h = record {
    own = made_alone (work_of s) s.rows u.now d.own may;
    row = timely;
    time = (moments_are_times s event.at lawful.invariant.bounded).0;
    declared =
        let sound : IsSound (edited d u).program = subst IsSound (sym same_program) lawful.bounds.sound in
        subst (λ (ws : List Triple). AllByRecursion (λ (t : Triple). t.op < length s.program.ops) (in_order ws)) (sym (wants_planned p h))
        (subst (λ (q : Program). AllByRecursion (λ (t : Triple). t.op < length q.ops) (wanted (edited d u))) same_program (wants_are_declared (edited d u) sound));
  }
