-- The day of the month of a day number is that of its civil date.
use Rattle.std.proofs.Common.{◌≡◌, ℕ, ◌==◌, Bool, true, false, nat_le, ◌&&◌, inl, inr, refl, sym, ap, ◌∙◌, ℤ, pos, neg_ℤ, arith}
use Rattle.std.proofs.lemmas.Bool.{cases_Bool, cases_eq, and_parts, and_from, le-leb, leb-true, eq-eqb, ne_eqb}
use Rattle.std.proofs.lemmas.Bool.Decides.{Decides-int_eq}
use Rattle.std.specs.List.{list_any}
use Rattle.std.specs.Ordering.{int_eq}
use Rattle.jiff_core.proofs.DateLemmas.{epoch_day_injective}
use Rattle.jiff_core.proofs.SignedLemmas.{signed_arith}
use Rattle.jiff_core.specs.Calendar.{days_from_civil, days_in_month, IsYear}
use Rattle.jiff_core.specs.Date.{epoch_day}
use Rattle.jiff_core.specs.declared.civil.date.Date.{Date}
use Rattle.sched_rows.specs.Instants.{calendar_years, has_day, is_date, months}
use Rattle.sched_rows.proofs.Members.{IsIn, any_found, any_in, range_found, range_in, run_found, run_in}

year_in : (y : ℤ) → IsYear y → IsIn y calendar_years
unfolding calendar_years
year_in y h = run_in y (neg_ℤ (pos 9999)) 19999 h.0 (omega (arith, signed_arith))

year_found : (y : ℤ) → IsIn y calendar_years → IsYear y
unfolding calendar_years
year_found y h = let r = run_found y (neg_ℤ (pos 9999)) 19999 h in (r.0, omega (arith, signed_arith))

-- the date that a test tells of
date_told : (day : ℕ) (d y : ℤ) (m : ℕ) → IsYear y → IsIn m months → is_date y m day d ≡ true → (date : Date) × (epoch_day date ≡ d) × (date.day ≡ day)
date_told day d y m year month is =
    let a = and_parts (nat_le 1 day) (nat_le day (days_in_month y m) && int_eq (days_from_civil y m day) d) is in
    let b = and_parts (nat_le day (days_in_month y m)) (int_eq (days_from_civil y m day) d) a.1 in
    let r = range_found m 1 12 month in (
      record { year = y; month = m; day = day; year_in = year; month_in = (r.0, omega arith); day_in = (leb-true 1 day a.0, leb-true day (days_in_month y m) b.0) },
      (Decides-int_eq (days_from_civil y m day) d).0 b.1,
      refl,
    )

found_date : (day : ℕ) (d : ℤ) → has_day day d ≡ true → (date : Date) × (epoch_day date ≡ d) × (date.day ≡ day)
unfolding has_day
found_date day d h =
    let y = any_found (λ year. list_any (λ month. is_date year month day d) months) calendar_years h in
    let m = any_found (λ month. is_date y.0 month day d) months y.2 in
    date_told day d y.0 m.0 (year_found y.0 y.1) m.1 m.2

has_its_day : (date : Date) → has_day date.day (epoch_day date) ≡ true
unfolding has_day
has_its_day date =
    let y : ℤ = date.year in
    let m : ℕ = date.month in
    let is : is_date y m date.day (epoch_day date) ≡ true = and_from _ _ (le-leb 1 date.day date.day_in.0) (and_from _ _ (le-leb date.day (days_in_month y m) date.day_in.1) ((Decides-int_eq (days_from_civil y m date.day) (epoch_day date)).1 refl)) in
    let month : list_any (λ month. is_date y month date.day (epoch_day date)) months ≡ true = any_in (λ month. is_date y month date.day (epoch_day date)) months m (range_in m 1 12 date.month_in.0 (omega (arith, date.month_in.1))) is in
    any_in (λ year. list_any (λ month. is_date year month date.day (epoch_day date)) months) calendar_years y (year_in y date.year_in) month

not_found : (b : Bool) → (b ≡ true → ⊥) → b ≡ false
not_found b not_so = elim (cases_Bool b) [ inl t ↦ absurd (not_so t) | inr f ↦ f ]

-- whether a date's day number has a day of the month
pub has_day-date : (date : Date) (day : ℕ) (d : ℤ) → epoch_day date ≡ d → (date.day == day) ≡ has_day day d
has_day-date date day d at =
    elim (cases_eq date.day day) [
      | inl same ↦ eq-eqb date.day day same ∙ sym (ap (λ n. has_day n d) (sym same) ∙ ap (has_day date.day) (sym at) ∙ has_its_day date)
      | inr other ↦ ne_eqb date.day day other ∙ sym (not_found (has_day day d) (λ h. let f = found_date day d h in other (sym (epoch_day_injective f.0 date (f.1 ∙ sym at)).2 ∙ f.2)))
    ]
