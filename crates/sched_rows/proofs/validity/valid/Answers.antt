use Rattle.std.proofs.Common.{◌∙◌, sym}
use Rattle.sched_rows.proofs.ValidityLaws.{valid-never, valid-until}
use Rattle.sched_rows.proofs.validity.valid.Goals as goal

pub returns-in-None : goal.returns-in-None
returns-in-None c = sym (valid-never c.args.expiry.now c.args.now c.args.row.now c.if-row.false (sym c.expires.ensures ∙ c.in-None.is))

pub returns-in-Some : goal.returns-in-Some
returns-in-Some c = sym (valid-until c.args.expiry.now c.args.now c.args.row.now c.in-Some.end c.if-row.false (sym c.expires.ensures ∙ c.in-Some.is))
