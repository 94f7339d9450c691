-- What terms without parts come to.
use Rattle.std.proofs.Common.{◌≡◌, ℕ, List, ap, sym, ◌∙◌}
use Rattle.value_core.specs.declared.value.Value.{Value}
use Rattle.term_core.specs.declared.program.Term.{Term-F, fold-roll-Term}
use Rattle.term_core.specs.declared.program.Term.TheVariants as term
use Rattle.term_core.specs.Evaluation.{Context, Meaning, term_step, eval}

pub return_is : (given : Context) (v : Value) → eval given (term.Return v) ≡ term_step given (Term-F.Return v)
return_is given v = ap (eval given) (sym (term.rolls-Return v)) ∙ fold-roll-Term Meaning (term_step given) (Term-F.Return v)

pub input_is : (given : Context) (n : List ℕ) → eval given (term.Input n) ≡ term_step given (Term-F.Input n)
input_is given n = ap (eval given) (sym (term.rolls-Input n)) ∙ fold-roll-Term Meaning (term_step given) (Term-F.Input n)

pub var_is : (given : Context) (n : List ℕ) → eval given (term.Var n) ≡ term_step given (Term-F.Var n)
var_is given n = ap (eval given) (sym (term.rolls-Var n)) ∙ fold-roll-Term Meaning (term_step given) (Term-F.Var n)
