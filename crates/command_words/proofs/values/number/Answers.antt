use Rattle.std.proofs.Common.{sym, arith, ◌∙◌}
use Rattle.value_core.proofs.Scans.{too_big}
use Rattle.command_words.proofs.values.number.Goals as goal

pub returns-in-Err : goal.returns-in-Err
returns-in-Err c = sym (too_big c.args.text.now c.parse.result c.in-Err.field-0 (sym c.is_digits.ensures ∙ c.if-not-is_digits.false) (omega (arith, c.in-len1-up.len_at_least)) c.parse.ensures.value.0 c.in-Err.is)
