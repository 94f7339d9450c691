use Rattle.std.proofs.Common.{rules, arith, ◌≡◌, ◌⊎◌, inl, inr, sym, ap, subst, ◌∙◌, false, ℤ, pos, ◌+ℤ◌, ◌≤ℤ◌, ◌<ℤ◌, to_z, of_z, to_z-of_z, w32, w64}
use Rattle.std.proofs.lemmas.Int.{by_lt_z}
use Rattle.jiff_core.proofs.SignedLemmas.{signed_arith, signed_casts}
use Rattle.sched_rows.specs.Instants.{has_day, instant_of}
use Rattle.sched_rows.proofs.InstantLaws.{IsDay, first_from, next_monthly_is, next_monthly_none}
use Rattle.sched_rows.proofs.schedule.next_monthly.Goals as goal

next_or_before : (k d : ℤ) → k <ℤ (d +ℤ pos 1) → (k <ℤ d) ⊎ (k ≡ d)
next_or_before k d h = by_lt_z k d inl (λ no_less. inr (omega (arith, signed_arith)))

pub returns-then-has_day : goal.returns-then-has_day
returns-then-has_day c =
    let d = to_z w64 c.loop-d.d-bits in
    let first = c.first_day-first.result in
    let back : to_z w64 (of_z w64 first) ≡ first = to_z-of_z {w = w64} (search rules) in
    let offset_back : to_z w32 (of_z w32 c.args.offset) ≡ c.args.offset = to_z-of_z {w = w32} (search rules) in
    let test = c.loop-d-test.true in
    let low = c.first_day-first.ensures.low in
    let reached : first ≤ℤ d = subst (λ (z : ℤ). z ≤ℤ d) back c.loop-d.invariant.reached in
    let is : IsDay d = (omega (arith, signed_casts), omega (arith, signed_casts)) in
    let at : pos c.instant_of.result ≡ instant_of c.args.minute c.args.offset d = c.instant_of.ensures ∙ ap (λ (z : ℤ). instant_of c.args.minute z d) offset_back in
    sym (next_monthly_is c.args.time c.args.day c.args.minute c.args.offset first d c.instant_of.result
    (first_from _ _ _ _ _ offset_back c.first_day-first.ensures.above c.first_day-first.ensures.before) reached is
    (λ k start. c.loop-d.invariant.none k (subst (λ (z : ℤ). z ≤ℤ k) (sym back) start)) (search rules) at)

pub loop-d-preserved : goal.loop-d-preserved
loop-d-preserved c =
    let d = to_z w64 c.loop-d.d-bits in
    let test = c.loop-d-test.true in
    let low = c.first_day-first.ensures.low in
    let first = c.first_day-first.result in
    let back : to_z w64 (of_z w64 first) ≡ first = to_z-of_z {w = w64} (search rules) in
    let reached : first ≤ℤ d = subst (λ (z : ℤ). z ≤ℤ d) back c.loop-d.invariant.reached in
    let next : to_z w64 (of_z w64 (d +ℤ pos 1)) ≡ d +ℤ pos 1 = to_z-of_z {w = w64} (omega (arith, signed_casts)) in
    let none : has_day c.args.day d ≡ false = search rules in
    record {
      reached = omega (arith, signed_casts, next);
      none = λ k start end. elim (next_or_before k d (subst (λ (z : ℤ). k <ℤ z) next end)) [
        | inl less ↦ c.loop-d.invariant.none k start less
        | inr same ↦ ap (has_day c.args.day) same ∙ none
      ];
    }

pub returns : goal.returns
returns c =
    let d = to_z w64 c.loop-d.d-bits in
    let first = c.first_day-first.result in
    let back : to_z w64 (of_z w64 first) ≡ first = to_z-of_z {w = w64} (search rules) in
    let offset_back : to_z w32 (of_z w32 c.args.offset) ≡ c.args.offset = to_z-of_z {w = w32} (search rules) in
    let test = c.loop-d-test.false in
    let past : pos 2932896 <ℤ d = omega (arith, signed_casts) in
    sym (next_monthly_none c.args.time c.args.day c.args.minute c.args.offset first d
    (first_from _ _ _ _ _ offset_back c.first_day-first.ensures.above c.first_day-first.ensures.before)
    (λ k start. c.loop-d.invariant.none k (subst (λ (z : ℤ). z ≤ℤ k) (sym back) start)) past)
