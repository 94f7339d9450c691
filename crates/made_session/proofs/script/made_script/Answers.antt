use Rattle.std.proofs.Common.{ℕ, List, ap, sym, ◌∙◌, ◌+◌, ◌++◌}
use Rattle.session_rules.specs.Commands.{made_line}
use Rattle.made_session.proofs.Longer.{flat_more}
use Rattle.made_session.proofs.script.made_script.Goals as goal

pub loop-i-preserved : goal.loop-i-preserved
loop-i-preserved c =
    c.in_ok-write_line.ensures ∙ ap (λ (t : List ℕ). t ++ made_line c.args.nodes (1 + c.loop-i.i)) c.loop-i.invariant ∙ sym (flat_more (made_line c.args.nodes) 1 c.loop-i.i)
