-- What opening and planning come to: the trees of the new world, with what fresh evaluation tells of them.
use Rattle.std.proofs.Common.{◌≡◌, ℕ, List, [], refl, ap, ◌∙◌}
use Rattle.value_core.specs.declared.state.State.{State}
use Rattle.value_core.specs.declared.value.Value.{Value}
use Rattle.term_core.specs.Fresh.{fresh}
use Rattle.term_core.specs.World.{World}
use Rattle.term_core.specs.declared.program.Program.{Program}
use Rattle.visit_rules.proofs.AllNodes.{traces_renew, traces_match}
use Rattle.visit_rules.proofs.ChangesEnough.{changes_enough, renewed_new}
use Rattle.visit_rules.proofs.NodesLoop.{changed_is}
use Rattle.visit_rules.specs.Differences.{CoversChanges, changed_from, changed_of}
use Rattle.visit_rules.specs.KnownChanges.{looked_at, moved_between, renewed_from}
use Rattle.visit_rules.specs.Traces.{AgainAll, MatchesFresh, again_from, all_dirty, traces}
use Rattle.visit_rules.specs.Visits.{all_visits, all_wants, states}
use Rattle.visit_rules.specs.declared.changes.Looked.{Looked}
use Rattle.visit_rules.specs.declared.changes.Changes.{Changes}
use Rattle.visit_rules.specs.declared.visit.Visit.{Visit}

pub match_fresh : (program : Program) (inputs : List Value) (world : World) (trees : List Visit) → trees ≡ traces program inputs world → MatchesFresh trees (fresh program inputs world)
match_fresh program inputs world trees e =
    let t = traces_match program inputs world in
    record { states = ap (λ (vs : List Visit). states vs) e ∙ t.states; wants = ap (λ (vs : List Visit). all_wants vs) e ∙ t.wants; instances = ap (λ (vs : List Visit). all_visits vs) e ∙ t.visits }

-- ---- an opening

opened_traces : (program : Program) (named : List ℕ) (looked : List Looked) (inputs : List Value) (world : World) →
    (renewed_from program named looked inputs world 0 [] [] program.nodes []).traces ≡ traces program inputs world
unfolding traces
opened_traces program named looked inputs world = ap (λ (a : AgainAll). a.traces) (renewed_new program named looked inputs world)

opened_ticks : (program : Program) (named : List ℕ) (looked : List Looked) (inputs : List Value) (world : World) →
    (renewed_from program named looked inputs world 0 [] [] program.nodes []).ticks ≡ all_dirty program [] inputs world
unfolding all_dirty
opened_ticks program named looked inputs world = ap (λ (a : AgainAll). a.ticks) (renewed_new program named looked inputs world)

module _ (program : Program) (named : List ℕ) (looked : List Looked) (inputs : List Value) (world : World) (olds : List Visit) (none : olds ≡ []) where
  abbrev run : AgainAll
  run = renewed_from program named looked inputs world 0 [] [] program.nodes olds

  pub traces_opened : run.traces ≡ traces program inputs world
  traces_opened = rw none (opened_traces program named looked inputs world)

  pub ticks_opened : run.ticks ≡ (fresh program inputs world).ticks
  ticks_opened = rw none (opened_ticks program named looked inputs world ∙ (traces_match program inputs world).ticks)

-- ---- a plan

planned_ticks : (program : Program) (olds : List Visit) (inputs : List Value) (world : World) → (again_from program inputs world 0 [] program.nodes olds).ticks ≡ all_dirty program olds inputs world
unfolding all_dirty
planned_ticks program olds inputs world = refl

module _ (program : Program) (olds : List Visit) (changes : Changes) (inputs : List Value) (world : World) (told : CoversChanges program olds changes inputs world) where
  abbrev planned : AgainAll
  planned = renewed_from program changes.inputs (looked_at world (all_wants olds) changes.triples) inputs world 0 [] [] program.nodes olds

  pub traces_planned : planned.traces ≡ traces program inputs world
  traces_planned =
      ap (λ (a : AgainAll). a.traces) (changes_enough program olds changes inputs world told)
      ∙ (ap (λ (vs : List Visit). (again_from program inputs world 0 [] program.nodes vs).traces) told.traced
      ∙ traces_renew program inputs told.was_inputs world told.was_world)

  pub ticks_planned : planned.ticks ≡ all_dirty program olds inputs world
  ticks_planned = ap (λ (a : AgainAll). a.ticks) (changes_enough program olds changes inputs world told) ∙ planned_ticks program olds inputs world

-- the same of what is named and looked up, by what they are
module _ (program : Program) (olds : List Visit) (changes : Changes) (inputs : List Value) (world : World) (told : CoversChanges program olds changes inputs world)
    (named : List ℕ) (looked : List Looked) (is_named : named ≡ changes.inputs) (is_looked : looked ≡ looked_at world (all_wants olds) changes.triples) where
  pub traces_planned_by : (renewed_from program named looked inputs world 0 [] [] program.nodes olds).traces ≡ traces program inputs world
  traces_planned_by = rw (is_named, is_looked) (traces_planned program olds changes inputs world told)

  pub ticks_planned_by : (renewed_from program named looked inputs world 0 [] [] program.nodes olds).ticks ≡ all_dirty program olds inputs world
  ticks_planned_by = rw (is_named, is_looked) (ticks_planned program olds changes inputs world told)

pub changed_planned : (olds trees : List Visit) (ss : List State) → ss ≡ states trees → changed_of (moved_between olds ss) ss ≡ changed_from 0 (states olds) (states trees)
changed_planned olds trees ss e = changed_is olds ss ∙ ap (λ (xs : List State). changed_from 0 (states olds) xs) e
