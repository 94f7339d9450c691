use Rattle.std.proofs.Common.{◌∙◌, Some, sym, ap}
use Rattle.std.proofs.lemmas.Option.{slice_get-get_or}
use Rattle.visit_rules.proofs.Layers.{parts_all}
use Rattle.visit_rules.proofs.terms.part_of.Goals as goal

pub returns-in-All-clause-part : goal.returns-in-All-clause-part
returns-in-All-clause-part c =
    let within = rw (c.in-All.is, parts_all, ← c.as_slice.ensures) at c.requires in
    rw (c.in-All.is, parts_all, ← c.as_slice.ensures) (slice_get-get_or c.as_slice.result.now c.args.i c.index-as_slice-i.result within ∙ ap Some (sym c.index-as_slice-i.is))
