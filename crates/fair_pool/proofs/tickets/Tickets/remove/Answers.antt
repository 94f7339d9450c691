use Rattle.std.proofs.Common.{ap, ◌∙◌, drop}
use Rattle.std.specs.Prelude.{remove}
use Rattle.fair_pool.proofs.Rows.{drop-remove}
use Rattle.fair_pool.proofs.tickets.Tickets.remove.Goals as goal

pub returns-else-at-len-clause-items : goal.returns-else-at-len-clause-items
returns-else-at-len-clause-items c =
    let b = c.self.inside.blanks in
    ap (drop b) c.remove.ensures.items ∙ drop-remove b c.self.inside.row.items c.args.at c.self.invariant ∙ ap (λ t. remove t.items c.args.at) c.self.view_is
