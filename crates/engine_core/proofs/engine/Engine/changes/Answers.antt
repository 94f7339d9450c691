use Rattle.std.proofs.Common.{◌≡◌, refl, ap, ◌∙◌, subst}
use Rattle.term_core.specs.declared.program.Program.{Program}
use Rattle.core_rules.specs.Core.{CoreState}
use Rattle.engine_rules.specs.Touched.{KeptFor, due_in, touched_by}
use Rattle.engine_rules.proofs.TouchedTriples.{due_by_operations}
use Rattle.engine_core.specs.State.{EngineState}
use Rattle.engine_core.specs.inside.Keeping.{core_in}
use Rattle.engine_core.proofs.engine.Engine.changes.Goals as goal

pub returns : goal.returns
returns c =
    let i = c.self.inside in
    let s : CoreState = core_in i in
    let is : s ≡ c.args.self.now.core = ap (λ (e : EngineState). e.core) c.self.view_is in
    let kept : KeptFor s.program i.rows = subst (λ (p : Program). KeptFor p i.rows) c.self.invariant.program c.self.invariant.expiries in
    let due : c.as_slice.result.now ≡ due_in c.args.self.now.core c.args.moment =
    c.as_slice.ensures ∙ c.in_ok-due.ensures ∙ due_by_operations s i.rows c.args.moment refl kept ∙ ap (λ (x : CoreState). due_in x c.args.moment) is in
    record {
      inputs = c.in_ok-set_inputs.ensures;
      triples = c.in_ok-touched.ensures ∙ (λ j. touched_by c.args.wants.now (due j) c.args.edit.now (c.parts-parts.ensures j));
    }
