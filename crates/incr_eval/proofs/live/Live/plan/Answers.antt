use Rattle.std.proofs.Common.{◌≡◌, ◌∙◌, ◌+◌, ℕ, List, [], ap, sym}
use Rattle.visit_rules.proofs.Planning.{changed_planned, match_fresh, ticks_planned_by, traces_planned_by}
use Rattle.visit_rules.specs.KnownChanges.{looked_at, renewed_from}
use Rattle.incr_eval.specs.PatchedTrees.{patched_trees}
use Rattle.visit_rules.specs.Differences.{CoversChanges}
use Rattle.visit_rules.specs.Visits.{all_wants, states}
use Rattle.visit_rules.specs.declared.visit.Visit.{Visit}
use Rattle.incr_eval.proofs.live.Live.plan.Goals as goal

pub returns-clause-trees : goal.returns-clause-trees
returns-clause-trees g c =
    let p = c.args.program.now in
    let inputs = c.args.inputs.now in
    let changes = c.args.changes.now in
    let world = g.E.Entries.world c.args.entries.now in
    let olds = c.self.inside.forest in
    let named = c.as_slice-2.result.now in
    let looked = c.as_slice-3.result.now in
    let told : CoversChanges p olds changes inputs world = rw (← c.self.view_is) at c.requires.covered in
    let found : c.in_ok-looked.looked ≡ looked_at world (all_wants olds) changes.triples = rw (c.as_slice.ensures, c.as_slice-named.ensures, c.self.invariant) at c.in_ok-looked.ensures in
    let made : patched_trees c.in_ok-nodes.nodes.patches olds ≡ (renewed_from p named looked inputs world 0 [] [] p.nodes olds).traces = c.in_ok-nodes.ensures.run.made in
    c.in_ok-forest.ensures ∙ (made ∙ traces_planned_by p olds changes inputs world told named looked c.as_slice-2.ensures (c.as_slice-3.ensures ∙ found))

pub returns-clause-fresh : goal.returns-clause-fresh
returns-clause-fresh g c = match_fresh c.args.program.now c.args.inputs.now (g.E.Entries.world c.args.entries.now) c.in_ok-forest.forest (returns-clause-trees g c)

pub returns-clause-ticks : goal.returns-clause-ticks
returns-clause-ticks g c =
    let p = c.args.program.now in
    let inputs = c.args.inputs.now in
    let changes = c.args.changes.now in
    let world = g.E.Entries.world c.args.entries.now in
    let olds = c.self.inside.forest in
    let named = c.as_slice-2.result.now in
    let looked = c.as_slice-3.result.now in
    let told : CoversChanges p olds changes inputs world = rw (← c.self.view_is) at c.requires.covered in
    let found : c.in_ok-looked.looked ≡ looked_at world (all_wants olds) changes.triples = rw (c.as_slice.ensures, c.as_slice-named.ensures, c.self.invariant) at c.in_ok-looked.ensures in
    let ticks : c.renew_all.new.steps ≡ c.args.steps.now + (renewed_from p named looked inputs world 0 [] [] p.nodes olds).ticks = c.in_ok-nodes.ensures.run.ticks in
    let all = ap (λ (n : ℕ). c.args.steps.now + n) (ticks_planned_by p olds changes inputs world told named looked c.as_slice-2.ensures (c.as_slice-3.ensures ∙ found)) in
    rw (← c.self.view_is) (ticks ∙ all)

pub returns-clause-made : goal.returns-clause-made
returns-clause-made g c =
    let run = c.in_ok-nodes.ensures.run in
    let olds = c.self.inside.forest in
    let told_states = run.returned ∙ ap (λ (vs : List Visit). states vs) (sym (c.in_ok-forest.ensures ∙ run.made)) in
    record { changed = rw (c.as_slice-4.ensures, c.as_slice-5.ensures) at c.in_ok-changed.ensures ∙ rw run.noted (changed_planned olds c.in_ok-forest.forest c.in_ok-nodes.nodes.states told_states) }
