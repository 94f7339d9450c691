use Rattle.std.proofs.Common.{◌∙◌, ap, sym}
use Rattle.std.specs.List.{list_any}
use Rattle.term_check.specs.Reports.{names_here, some_term}
use Rattle.term_check.proofs.Parts.{names_all}
use Rattle.term_check.proofs.report.+names.Goals as goal

pub loop-part-init : goal.loop-part-init
loop-part-init t c =
    ap (list_any (some_term (names_here c.args.role c.args.name.now))) c.as_slice-part-items.ensures
    ∙ sym (ap (some_term (names_here c.args.role c.args.name.now)) c.in-All.is ∙ names_all c.args.role c.args.name.now _)
