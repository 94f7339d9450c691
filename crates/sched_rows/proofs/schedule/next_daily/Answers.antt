use Rattle.std.proofs.Common.{rules, arith, ◌≡◌, sym, ◌∙◌, pos, ◌<ℤ◌, to_z, of_z, to_z-of_z, w32, w64}
use Rattle.jiff_core.proofs.SignedLemmas.{signed_casts}
use Rattle.sched_rows.specs.Instants.{instant_of}
use Rattle.sched_rows.proofs.InstantLaws.{IsDay, first_from, next_daily_is, next_daily_none}
use Rattle.sched_rows.proofs.schedule.next_daily.Goals as goal

pub returns-then-d-gt-LAST_DAY : goal.returns-then-d-gt-LAST_DAY
returns-then-d-gt-LAST_DAY c =
    let back : to_z w32 (of_z w32 c.args.offset) ≡ c.args.offset = to_z-of_z {w = w32} (search rules) in
    let first = c.first_day-d.ensures in
    let past = c.if-d-gt-LAST_DAY.true in
    let beyond : pos 2932896 <ℤ c.first_day-d.result = omega (arith, signed_casts) in
    sym (next_daily_none c.args.time c.args.minute c.args.offset c.first_day-d.result (first_from _ _ _ _ _ back first.above first.before) beyond)

pub returns-else-d-gt-LAST_DAY : goal.returns-else-d-gt-LAST_DAY
returns-else-d-gt-LAST_DAY c =
    let back : to_z w32 (of_z w32 c.args.offset) ≡ c.args.offset = to_z-of_z {w = w32} (search rules) in
    let day_back : to_z w64 (of_z w64 c.first_day-d.result) ≡ c.first_day-d.result = to_z-of_z {w = w64} (search rules) in
    let first = c.first_day-d.ensures in
    let low = first.low in
    let kept = c.if-d-gt-LAST_DAY.false in
    let is : IsDay c.first_day-d.result = (low, omega (arith, signed_casts)) in
    let at : pos c.instant_of.result ≡ instant_of c.args.minute c.args.offset c.first_day-d.result = c.instant_of.ensures ∙ (λ i. instant_of c.args.minute (back i) (day_back i)) in
    sym (next_daily_is c.args.time c.args.minute c.args.offset c.first_day-d.result c.instant_of.result (first_from _ _ _ _ _ back first.above first.before) is at)
