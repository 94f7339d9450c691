use Rattle.std.proofs.Common.{◌∙◌, sym}
use Rattle.op_keys.specs.Orders.{order_fits, order_words}
use Rattle.op_keys.proofs.Fitting.{fits_none}
use Rattle.op_keys.proofs.order.words_of.Goals as goal

pub returns-clause-fits : goal.returns-clause-fits
unfolding order_fits
returns-clause-fits c =
    let length = rw c.as_slice-templates.ensures at c.too_long.ensures in
    fits_none (order_words c.args.decl.now c.args.key.now c.args.value.now) (sym length ∙ c.in_default.is)
