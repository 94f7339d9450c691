use Rattle.std.proofs.Common.{rules, ◌≡◌, ◌∙◌, ap, FitsSigned, nat_eq, to_z-of_z, w64}
use Rattle.jiff_core.specs.Date.{epoch_day}
use Rattle.sched_rows.proofs.CivilDays.{has_day-date}
use Rattle.sched_rows.proofs.schedule.has_day.Goals as goal

pub returns-in-Ok : goal.returns-in-Ok
returns-in-Ok c =
    let f : FitsSigned w64 c.args.d = c.ranges.d in
    let at : epoch_day c.in-Ok.date ≡ c.args.d = search (rules, to_z-of_z) in
    let same : c.from.result ≡ c.in-Ok.date.day = c.from.ensures in
    ap (λ n. nat_eq n c.args.day) same ∙ has_day-date c.in-Ok.date c.args.day c.args.d at
