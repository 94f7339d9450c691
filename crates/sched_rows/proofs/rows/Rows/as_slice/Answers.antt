use Rattle.std.proofs.Common.{◌∙◌, ap, sym, map}
use Rattle.sched_rows.specs.Holding.{expiry_entry, row_entry}
use Rattle.sched_rows.proofs.KeptLaws.{entries_expiries, entries_rows}
use Rattle.sched_rows.proofs.rows.Rows.as_slice.Goals as goal

pub returns-clause-rows : goal.returns-clause-rows
returns-clause-rows c =
    ap (map row_entry) c.as_slice.ensures.value ∙ sym (entries_rows c.self.inside.held.items c.args.self.now.rows (ap (λ k. k.rows) c.self.view_is) c.self.invariant.orderly.ordered)

pub returns-clause-expiries : goal.returns-clause-expiries
returns-clause-expiries c =
    ap (map expiry_entry) c.as_slice.ensures.value ∙ sym (entries_expiries c.self.inside.held.items c.args.self.now.expiries (ap (λ k. k.expiries) c.self.view_is) c.self.invariant.orderly.ordered)
