use Rattle.std.proofs.Common.{◌≡◌, ◌++◌, arith}
use Rattle.std.proofs.lemmas.Grind.{common_steps}
use Rattle.std.specs.Char.{encode_utf8}
use Rattle.op_keys.proofs.Fillings.{filled-char}
use Rattle.op_keys.proofs.filling.first_piece.Goals as goal

pub returns-in-Some-next-clause-piece : goal.returns-in-Some-next-clause-piece
returns-in-Some-next-clause-piece c =
    let is : c.args.template.now ≡ encode_utf8 c.in-Some-next.c ++ c.as_str.result.now = grind (arith, common_steps) in
    λ key value. filled-char key value _ _ _ is c.in_default.ensures.cases c.in_default-strip_prefix.ensures.cases
