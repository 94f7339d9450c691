use Rattle.std.proofs.Common.{ap, ◌∙◌, drop}
use Rattle.std.specs.Prelude.{insert}
use Rattle.fair_pool.proofs.Rows.{drop-insert}
use Rattle.fair_pool.proofs.tickets.Tickets.insert.Goals as goal

pub returns-clause-items : goal.returns-clause-items
returns-clause-items c =
    let b = c.self.inside.blanks in
    let ks = c.self.inside.row.items in
    ap (drop b) c.insert_within.ensures.items ∙ drop-insert b ks c.args.at c.args.ticket c.self.invariant ∙ ap (λ t. insert t.items c.args.at c.args.ticket) c.self.view_is
