use Rattle.std.proofs.Common.{List, ap₂, ◌∙◌, ◌++◌, ◌∷◌, []}
use Rattle.term_core.specs.declared.program.NodeDecl.{NodeDecl}
use Rattle.made_session.proofs.Longer.{nodes_more}
use Rattle.made_session.proofs.program.nodes.Goals as goal

pub loop-i-preserved : goal.loop-i-preserved
loop-i-preserved c =
    c.in_ok-push.ensures.ok ∙ ap₂ (λ (ds : List NodeDecl) (d : NodeDecl). ds ++ d ∷ []) c.loop-i.invariant c.in_ok-next_node.ensures ∙ nodes_more c.loop-i.i c.loop-i.auto.i
