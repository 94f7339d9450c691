use Rattle.std.proofs.Common.{◌≡◌, ◌∙◌, ◌+◌, ℕ, [], ap}
use Rattle.visit_rules.proofs.Planning.{match_fresh, ticks_opened, traces_opened}
use Rattle.visit_rules.specs.KnownChanges.{renewed_from}
use Rattle.incr_eval.specs.PatchedTrees.{patched_trees}
use Rattle.incr_eval.proofs.live.Live.open.Goals as goal

pub returns-clause-trees : goal.returns-clause-trees
returns-clause-trees g c =
    let p = c.args.program.now in
    let world = g.E.Entries.world c.args.entries.now in
    let made : patched_trees c.in_ok-nodes.nodes.patches c.new-nothing.result ≡ (renewed_from p [] [] c.args.inputs.now world 0 [] [] p.nodes c.new-nothing.result).traces = c.in_ok-nodes.ensures.run.made in
    c.in_ok-forest.ensures ∙ (made ∙ traces_opened p [] [] c.args.inputs.now world c.new-nothing.result c.new-nothing.ensures)

pub returns-clause-fresh : goal.returns-clause-fresh
returns-clause-fresh g c = match_fresh c.args.program.now c.args.inputs.now (g.E.Entries.world c.args.entries.now) c.in_ok-forest.forest (returns-clause-trees g c)

pub returns-clause-ticks : goal.returns-clause-ticks
returns-clause-ticks g c =
    let p = c.args.program.now in
    let world = g.E.Entries.world c.args.entries.now in
    let ticks : c.renew_all.new.steps ≡ c.args.steps.now + (renewed_from p [] [] c.args.inputs.now world 0 [] [] p.nodes c.new-nothing.result).ticks = c.in_ok-nodes.ensures.run.ticks in
    ticks ∙ ap (λ (n : ℕ). c.args.steps.now + n) (ticks_opened p [] [] c.args.inputs.now world c.new-nothing.result c.new-nothing.ensures)
