-- The least instant above a time, by days.
use Rattle.std.proofs.Common.{◌≡◌, ℕ, ◌<◌, ◌≤◌, true, false, nat_lt, nat_le, not, ◌&&◌, map, Some, None, sym, ap, subst, ◌∙◌, inl, inr, ℤ, pos, negsuc, ◌-ℤ◌, ◌<ℤ◌, ◌≤ℤ◌, arith}
use Rattle.std.proofs.lemmas.Bool.{cases_lt, false≢true, and_parts, and_from, lt-ltb, ltb-true, le-ltb, le-leb, leb-true}
use Rattle.std.specs.List.{filter}
use Rattle.jiff_core.proofs.SignedLemmas.{signed_arith}
use Rattle.op_keys.specs.declared.declarations.Expiry.{Expiry}
use Rattle.op_keys.specs.declared.declarations.Expiry.TheVariants.{Daily, Monthly}
use Rattle.sched_rows.specs.Instants.{calendar_days, has_day, instant_of, instants, times_of}
use Rattle.sched_rows.specs.Validity.{next_instant, has_instant}
use Rattle.sched_rows.proofs.Members.{IsIn, map_in, map_found, filter_in, filter_found, run_in, run_found, time_in, time_found, least_is, least_none, least_found, least_nothing, any_in, none_in}
use Rattle.sched_rows.proofs.Moments.{not_before, earlier_day, later_than}

-- a day of the calendar
abbrev pub IsDay : ℤ → Type 0
IsDay d = (negsuc 0 ≤ℤ d) × (d ≤ℤ pos 2932896)

day_in : (d : ℤ) → IsDay d → IsIn d calendar_days
unfolding calendar_days
day_in d h = run_in d (negsuc 0) 2932898 h.0 (omega (arith, signed_arith))

day_found : (d : ℤ) → IsIn d calendar_days → IsDay d
unfolding calendar_days
day_found d h = let r = run_found d (negsuc 0) 2932898 h in (r.0, omega (arith, signed_arith))

-- a time above another that is one of the instants
abbrev After : Expiry → ℕ → ℕ → Type 0
After expiry time t = IsIn (pos t) (instants expiry) × (time < t)

after_in : (expiry : Expiry) (time t : ℕ) → After expiry time t → IsIn t (filter (nat_lt time) (times_of (instants expiry)))
after_in expiry time t h = filter_in (nat_lt time) (times_of (instants expiry)) t (time_in t (instants expiry) h.0) (lt-ltb time t h.1)

after_found : (expiry : Expiry) (time t : ℕ) → IsIn t (filter (nat_lt time) (times_of (instants expiry))) → After expiry time t
after_found expiry time t h =
    let r = filter_found (nat_lt time) (times_of (instants expiry)) t h in
    (time_found t (instants expiry) r.0, ltb-true time t r.1)

pub next_instant_is : (expiry : Expiry) (time t : ℕ) → IsIn (pos t) (instants expiry) → time < t → ((u : ℕ) → IsIn (pos u) (instants expiry) → time < u → t ≤ u) → next_instant expiry time ≡ Some t
unfolding next_instant
next_instant_is expiry time t is above low =
    least_is (filter (nat_lt time) (times_of (instants expiry))) t (after_in expiry time t (is, above))
    (λ u h. let a = after_found expiry time u h in low u a.0 a.1)

pub next_instant_none : (expiry : Expiry) (time : ℕ) → ((u : ℕ) → IsIn (pos u) (instants expiry) → time < u → ⊥) → next_instant expiry time ≡ None
unfolding next_instant
next_instant_none expiry time none =
    least_none (filter (nat_lt time) (times_of (instants expiry))) (λ u h. let a = after_found expiry time u h in none u a.0 a.1)

daily_in : (minute : ℕ) (offset d : ℤ) (t : ℕ) → IsDay d → pos t ≡ instant_of minute offset d → IsIn (pos t) (instants (Daily minute offset))
unfolding instants
daily_in minute offset d t is at = subst (λ (z : ℤ). IsIn z (map (instant_of minute offset) calendar_days)) (sym at) (map_in (instant_of minute offset) calendar_days d (day_in d is))

daily_found : (minute : ℕ) (offset : ℤ) (t : ℕ) → IsIn (pos t) (instants (Daily minute offset)) → (d : ℤ) × IsDay d × (pos t ≡ instant_of minute offset d)
unfolding instants
daily_found minute offset t h = let r = map_found (instant_of minute offset) calendar_days (pos t) h in (r.0, day_found r.0 r.1, r.2)

monthly_in : (day minute : ℕ) (offset d : ℤ) (t : ℕ) → IsDay d → has_day day d ≡ true → pos t ≡ instant_of minute offset d → IsIn (pos t) (instants (Monthly day minute offset))
unfolding instants
monthly_in day minute offset d t is has at =
    subst (λ (z : ℤ). IsIn z (map (instant_of minute offset) (filter (has_day day) calendar_days))) (sym at)
    (map_in (instant_of minute offset) (filter (has_day day) calendar_days) d (filter_in (has_day day) calendar_days d (day_in d is) has))

monthly_found : (day minute : ℕ) (offset : ℤ) (t : ℕ) → IsIn (pos t) (instants (Monthly day minute offset)) → (d : ℤ) × IsDay d × (has_day day d ≡ true) × (pos t ≡ instant_of minute offset d)
unfolding instants
monthly_found day minute offset t h =
    let r = map_found (instant_of minute offset) (filter (has_day day) calendar_days) (pos t) h in
    let f = filter_found (has_day day) calendar_days r.0 r.1 in
    (r.0, day_found r.0 f.0, f.1, r.2)

-- the first day whose instant is above the time
pub record IsFirst (time minute : ℕ) (offset first : ℤ) : Type 0 where
  pub above : pos time <ℤ instant_of minute offset first
  pub before : instant_of minute offset (first -ℤ pos 1) ≤ℤ pos time

pub next_daily_is : (time minute : ℕ) (offset d : ℤ) (t : ℕ) → IsFirst time minute offset d → IsDay d → pos t ≡ instant_of minute offset d → next_instant (Daily minute offset) time ≡ Some t
next_daily_is time minute offset d t first is at =
    next_instant_is (Daily minute offset) time t (daily_in minute offset d t is at)
    (later_than time t d d minute offset first.above (omega (arith, signed_arith)) at)
    (λ u h over. let r = daily_found minute offset u h in
    let reached : d ≤ℤ r.0 = not_before time u r.0 d minute offset first.before over r.2 in
    elim (cases_lt u t) [
      | inl less ↦ let early : r.0 <ℤ d = earlier_day t u d r.0 minute offset at r.2 less in absurd (omega (arith, signed_arith))
      | inr more ↦ more
    ])

pub next_daily_none : (time minute : ℕ) (offset d : ℤ) → IsFirst time minute offset d → pos 2932896 <ℤ d → next_instant (Daily minute offset) time ≡ None
next_daily_none time minute offset d first past =
    next_instant_none (Daily minute offset) time
    (λ u h over. let r = daily_found minute offset u h in
    let reached : d ≤ℤ r.0 = not_before time u r.0 d minute offset first.before over r.2 in
    let last : r.0 ≤ℤ pos 2932896 = r.1.1 in
    omega (arith, signed_arith))

-- no day from the first on, up to d, has the day of the month
abbrev pub NoneBefore : ℕ → ℤ → ℤ → Type 0
NoneBefore day first d = (k : ℤ) → first ≤ℤ k → k <ℤ d → has_day day k ≡ false

pub next_monthly_is : (time day minute : ℕ) (offset first d : ℤ) (t : ℕ) → IsFirst time minute offset first → first ≤ℤ d → IsDay d → NoneBefore day first d → has_day day d ≡ true → pos t ≡ instant_of minute offset d → next_instant (Monthly day minute offset) time ≡ Some t
next_monthly_is time day minute offset first d t is_first from is none has at =
    next_instant_is (Monthly day minute offset) time t (monthly_in day minute offset d t is has at)
    (later_than time t first d minute offset is_first.above from at)
    (λ u h over. let r = monthly_found day minute offset u h in
    let reached : first ≤ℤ r.0 = not_before time u r.0 first minute offset is_first.before over r.3 in
    elim (cases_lt u t) [
      | inl less ↦ let early : r.0 <ℤ d = earlier_day t u d r.0 minute offset at r.3 less in absurd (false≢true (sym (none r.0 reached early) ∙ r.2))
      | inr more ↦ more
    ])

pub next_monthly_none : (time day minute : ℕ) (offset first d : ℤ) → IsFirst time minute offset first → NoneBefore day first d → pos 2932896 <ℤ d → next_instant (Monthly day minute offset) time ≡ None
next_monthly_none time day minute offset first d is_first none past =
    next_instant_none (Monthly day minute offset) time
    (λ u h over. let r = monthly_found day minute offset u h in
    let reached : first ≤ℤ r.0 = not_before time u r.0 first minute offset is_first.before over r.3 in
    let last : r.0 ≤ℤ pos 2932896 = r.1.1 in
    let past_it : r.0 <ℤ d = omega (arith, signed_arith) in
    false≢true (sym (none r.0 reached past_it) ∙ r.2))

-- the same from what a call was passed
pub first_from : (time minute : ℕ) (offset passed first : ℤ) → passed ≡ offset → pos time <ℤ instant_of minute passed first → instant_of minute passed (first -ℤ pos 1) ≤ℤ pos time → IsFirst time minute offset first
first_from time minute offset passed first is above before = record {
  above = subst (λ (z : ℤ). pos time <ℤ instant_of minute z first) is above;
  before = subst (λ (z : ℤ). instant_of minute z (first -ℤ pos 1) ≤ℤ pos time) is before;
}

-- an instant lies above a time and at most at another exactly where the least one above the first does
pub has_instant-next : (expiry : Expiry) (after upto end : ℕ) → next_instant expiry after ≡ Some end → has_instant expiry after upto ≡ not (nat_lt upto end)
unfolding next_instant has_instant
has_instant-next expiry after upto end next =
    let ts = times_of (instants expiry) in
    let r = least_found (filter (nat_lt after) ts) end next in
    let f = filter_found (nat_lt after) ts end r.0 in
    elim (cases_lt upto end) [
      | inl less ↦ none_in (λ t. nat_lt after t && nat_le t upto) ts (λ t h is. let b = and_parts (nat_lt after t) (nat_le t upto) is in let low : end ≤ t = r.1 t (filter_in (nat_lt after) ts t h b.0) in let high : t ≤ upto = leb-true t upto b.1 in omega arith) ∙ sym (ap not (lt-ltb upto end less))
      | inr more ↦ any_in (λ t. nat_lt after t && nat_le t upto) ts end f.0 (and_from (nat_lt after end) (nat_le end upto) f.1 (le-leb end upto more)) ∙ sym (ap not (le-ltb upto end more))
    ]

-- and none where no instant is above the first
pub has_instant-none : (expiry : Expiry) (after upto : ℕ) → next_instant expiry after ≡ None → has_instant expiry after upto ≡ false
unfolding next_instant has_instant
has_instant-none expiry after upto next =
    let ts = times_of (instants expiry) in
    none_in (λ t. nat_lt after t && nat_le t upto) ts (λ t h is. let b = and_parts (nat_lt after t) (nat_le t upto) is in least_nothing (filter (nat_lt after) ts) t next (filter_in (nat_lt after) ts t h b.0))
