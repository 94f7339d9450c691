use Rattle.std.proofs.Common.{sym, arith, ◌∙◌}
use Rattle.value_core.proofs.Scans.{too_big, digits_utf8}
use Rattle.value_core.proofs.numerals.number.Goals as goal

pub returns-in-Err-parse : goal.returns-in-Err-parse
returns-in-Err-parse c = sym (too_big c.args.word.now c.parse.result c.in-Err-parse.field-0 (sym c.is_digits.ensures ∙ c.if-not-is_digits.false) (omega (arith, c.in-len1-up.len_at_least)) (rw c.in-Ok.ensures.cases.0 at c.parse.ensures.value.0) c.in-Err-parse.is)

pub returns-in-Err : goal.returns-in-Err
returns-in-Err c = absurd (c.in-Err.ensures.cases.0 (digits_utf8 _ (sym c.is_digits.ensures ∙ c.if-not-is_digits.false)))
