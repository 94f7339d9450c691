use Rattle.std.proofs.Common.{arith}
use Rattle.jiff_core.proofs.SignedLemmas.{signed_casts}
use Rattle.sched_rows.proofs.Moments.{instant_of-parts, nat_abs-parts}
use Rattle.sched_rows.proofs.schedule.first_day.Goals as goal

pub returns-clause-above : goal.returns-clause-above
returns-clause-above c =
    let v = c.shift.ensures.value in
    let lo = c.shift.ensures.low in
    let hi = c.shift.ensures.high in
    omega (arith, signed_casts, nat_abs-parts, instant_of-parts)

pub returns-clause-before : goal.returns-clause-before
returns-clause-before c =
    let v = c.shift.ensures.value in
    let lo = c.shift.ensures.low in
    let hi = c.shift.ensures.high in
    omega (arith, signed_casts, nat_abs-parts, instant_of-parts)
