use Rattle.std.proofs.Common.{arith, sym, ◌∙◌, ap, length, length-append}
use Rattle.role_rules.proofs.Names.{names_bad, names_more}
use Rattle.role_rules.proofs.line.read_names.Goals as goal

pub returns-in-None : goal.returns-in-None
returns-in-None c = sym (names_bad _ c.in-Some.piece.now _ _ (rw c.in-Some.ensures.some at c.names.invariant.so_far) (sym c.in_ok-name.ensures ∙ c.in-None.is))

pub names-preserved : goal.names-preserved
names-preserved c =
    let more = names_more c.names.names c.in-Some.piece.now c.in-Some-2.name _ _ (rw c.in-Some.ensures.some at c.names.invariant.so_far) (sym c.in_ok-name.ensures ∙ c.in-Some-2.is) c.names.invariant.are_names in
    let pushed = c.in_ok-push-in-Some-2.ensures.ok in
    record {
      so_far = rw pushed more.0;
      are_names = rw pushed more.1;
      few = omega (arith, ap length pushed, length-append c.names.names);
    }
