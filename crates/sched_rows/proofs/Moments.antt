-- The instants of days, in the terms that `omega` reads.
use Rattle.std.proofs.Common.{◌≡◌, ℕ, ◌+◌, ◌*◌, ◌<◌, ℤ, pos, negsuc, ◌+ℤ◌, ◌-ℤ◌, ◌*ℤ◌, ◌<ℤ◌, ◌≤ℤ◌, nat_abs, refl, arith}
use borrow.Author.Differences.{up, down}
use Rattle.jiff_core.proofs.SignedLemmas.{signed_arith}
use Rattle.sched_rows.specs.Instants.{instant_of}

pub instant_of-parts : (minute : ℕ) (offset d : ℤ)
    → up (instant_of minute offset d) + 86400000 * down d + 60000 * up offset
    ≡ down (instant_of minute offset d) + 86400000 * up d + 60000 * minute + 60000 * down offset
instant_of-parts minute offset d =
    let e : instant_of minute offset d ≡ (pos 86400000 *ℤ d) +ℤ (pos 60000 *ℤ (pos minute -ℤ offset)) = refl in
    omega (arith, signed_arith)

pub nat_abs-parts : (z : ℤ) → nat_abs z ≡ up z + down z
nat_abs-parts (pos n) = omega arith
nat_abs-parts (negsuc n) = omega arith

-- an instant above a time is no day's before the first day whose instant is above it
pub not_before : (time u : ℕ) (d first : ℤ) (minute : ℕ) (offset : ℤ)
    → instant_of minute offset (first -ℤ pos 1) ≤ℤ pos time → time < u → pos u ≡ instant_of minute offset d → first ≤ℤ d
not_before time u d first minute offset before above is = omega (arith, signed_arith, instant_of-parts)

-- a smaller instant is an earlier day's
pub earlier_day : (t u : ℕ) (d k : ℤ) (minute : ℕ) (offset : ℤ)
    → pos t ≡ instant_of minute offset d → pos u ≡ instant_of minute offset k → u < t → k <ℤ d
earlier_day t u d k minute offset at is less = omega (arith, signed_arith, instant_of-parts)

-- a later day's instant is above the time too
pub later_than : (time t : ℕ) (first d : ℤ) (minute : ℕ) (offset : ℤ)
    → pos time <ℤ instant_of minute offset first → first ≤ℤ d → pos t ≡ instant_of minute offset d → time < t
later_than time t first d minute offset above reached at = omega (arith, signed_arith, instant_of-parts)
