use Rattle.std.proofs.Common.{◌≡◌, IfOk, sym, ◌∙◌, subst}
use Rattle.engine_rules.specs.Found.{found_entry}
use Rattle.engine_rules.proofs.FoundEntries.{entries_are_found}
use Rattle.engine_rules.proofs.finding.entry_after.Goals as goal

pub returns : goal.returns
returns g c = subst (λ x. IfOk c.found_entry.result (λ e. e ≡ x))
    ((λ i. found_entry (c.threshold_after.ensures i) (c.now.ensures i) (c.op.ensures.op i) (c.requires.stage i) (c.row_after.ensures.row i))
    ∙ sym (entries_are_found (g.P.Lookups.state c.args.parts.now) c.args.edit.now c.args.triple.now))
    c.found_entry.ensures
