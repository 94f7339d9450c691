use Rattle.std.proofs.Common.{◌∙◌, sym, ap, is_some}
use Rattle.op_keys.specs.Orders.{order_fits, order_words}
use Rattle.op_keys.proofs.Fitting.{fits_is_none}
use Rattle.op_keys.proofs.order.order_fits.Goals as goal

pub returns : goal.returns
unfolding order_fits
returns c =
    let length = rw c.as_slice.ensures at c.too_long.ensures in
    fits_is_none (order_words c.args.decl.now c.args.key.now c.args.value.now) c.is_none.result (ap is_some (sym length) ∙ c.is_none.ensures)
