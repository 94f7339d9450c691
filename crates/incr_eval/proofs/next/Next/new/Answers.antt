use Rattle.std.proofs.Common.{◌∙◌, sym}
use Rattle.incr_eval.proofs.Patched.{grown_is, stays_is}
use Rattle.incr_eval.proofs.next.Next.new.Goals as goal

pub returns-in-Kept : goal.returns-in-Kept
returns-in-Kept c = rw c.in-Kept.is (c.kept.ensures ∙ sym (stays_is c.args.old))

pub returns-in-Grown : goal.returns-in-Grown
returns-in-Grown c =
    rw (c.in-Grown.is, c.as_slice.ensures, c.as_slice-in-Grown.ensures, c.as_slice-in-Grown-2.ensures)
    (sym (grown_is c.in-Grown.instance c.in-Grown.parts c.in-Grown.from c.in-Grown.bodies c.args.old))
