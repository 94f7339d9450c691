use Rattle.std.proofs.Common.{◌≡◌, ◌∙◌}
use Rattle.visit_rules.proofs.Layers.{out_output}
use Rattle.visit_rules.proofs.FirstTwo.{first_is, second_is}
use Rattle.visit_rules.specs.Tables.{first_state, second_state}
use Rattle.visit_rules.proofs.reads.reading.Goals as goal

pub returns-in_ok-value-in-Output : goal.returns-in_ok-value-in-Output
returns-in_ok-value-in-Output g c =
    let key : c.in_ok-key-in-Output.key ≡ first_state c.args.parts.now = c.in_ok-key-in-Output.ensures ∙ first_is c.args.parts.now in
    let value : c.in_ok-value-in-Output.value ≡ second_state c.args.parts.now = c.in_ok-value-in-Output.ensures ∙ second_is c.args.parts.now in
    rw (c.in-Output.is, out_output, ← key, ← value) c.look_up_output.ensures
