-- A row has not run out at a time that is below its end.
use Rattle.std.proofs.Common.{◌≡◌, ℕ, Bool, true, false, cond, not, ◌&&◌, nat_le, nat_lt, ◌≤◌, Option, Some, None, refl, sym, ap, ◌∙◌, inl, inr, arith}
use Rattle.std.proofs.lemmas.Bool.{cases_Bool}
use Rattle.std.proofs.lemmas.Bool.Decides.{nat_tests}
use Rattle.std.proofs.lemmas.Option.{none-some, same_Some}
use Rattle.op_keys.specs.declared.declarations.Expiry.{Expiry}
use Rattle.op_keys.specs.declared.declarations.Expiry.TheVariants.{Never, After, Daily, Monthly}
use Rattle.sched_rows.specs.declared.row.Row.{Row}
use Rattle.sched_rows.specs.Rows.{end_under, falls_within}
use Rattle.sched_rows.specs.Validity.{expires, in_time, valid}
use Rattle.sched_rows.proofs.InstantLaws.{has_instant-next, has_instant-none}

not_not : (b : Bool) → not (not b) ≡ b
not_not true = refl
not_not false = refl

in_time-never : (expiry : Expiry) (finished now : ℕ) → expires expiry finished ≡ None → in_time expiry finished now ≡ true
in_time-never Never finished now e = refl
in_time-never (After n) finished now e = absurd (none-some _ (sym e))
in_time-never (Daily minute offset) finished now e = ap not (has_instant-none (Daily minute offset) finished now e)
in_time-never (Monthly day minute offset) finished now e = ap not (has_instant-none (Monthly day minute offset) finished now e)

in_time-until : (expiry : Expiry) (finished now end : ℕ) → expires expiry finished ≡ Some end → in_time expiry finished now ≡ nat_lt now end
in_time-until Never finished now end e = absurd (none-some end e)
in_time-until (After n) finished now end e = ap (nat_lt now) (same_Some _ end e)
in_time-until (Daily minute offset) finished now end e = ap not (has_instant-next (Daily minute offset) finished now end e) ∙ not_not (nat_lt now end)
in_time-until (Monthly day minute offset) finished now end e = ap not (has_instant-next (Monthly day minute offset) finished now end e) ∙ not_not (nat_lt now end)

pub valid-never : (expiry : Expiry) (now : ℕ) (row : Row) → row.rebuild ≡ false → expires expiry row.finished ≡ None → valid expiry now row ≡ true
valid-never expiry now row unmarked e = ap (λ b. not b && in_time expiry row.finished now) unmarked ∙ in_time-never expiry row.finished now e

pub valid-until : (expiry : Expiry) (now : ℕ) (row : Row) (end : ℕ) → row.rebuild ≡ false → expires expiry row.finished ≡ Some end → valid expiry now row ≡ nat_lt now end
valid-until expiry now row end unmarked e = ap (λ b. not b && in_time expiry row.finished now) unmarked ∙ in_time-until expiry row.finished now end e

later : (a b end : ℕ) → a ≤ b → nat_lt b end ≡ (nat_lt a end && not (nat_lt a end && nat_le end b))
later a b end upto = grind (arith, nat_tests)

ends_later : (expiry : Expiry) (row : Row) (a b : ℕ) (o : Option ℕ) → a ≤ b → row.rebuild ≡ false → expires expiry row.finished ≡ o → valid expiry b row ≡ (valid expiry a row && not (falls_within a b o))
ends_later expiry row a b None upto unmarked e =
    valid-never expiry b row unmarked e ∙ sym (ap (λ t. t && not (falls_within a b None)) (valid-never expiry a row unmarked e))
ends_later expiry row a b (Some end) upto unmarked e =
    valid-until expiry b row end unmarked e ∙ later a b end upto ∙ sym (ap (λ t. t && not (falls_within a b (Some end))) (valid-until expiry a row end unmarked e))

-- a row stays valid until its end
pub valid-later : (expiry : Expiry) (row : Row) (a b : ℕ) → a ≤ b → valid expiry b row ≡ (valid expiry a row && not (falls_within a b (end_under row expiry)))
valid-later expiry row a b upto = elim (cases_Bool row.rebuild) [
  | inl marked ↦
      ap (λ m. not m && in_time expiry row.finished b) marked
      ∙ sym (ap (λ m. (not m && in_time expiry row.finished a) && not (falls_within a b (end_under row expiry))) marked)
  | inr unmarked ↦
      ends_later expiry row a b (expires expiry row.finished) upto unmarked refl
      ∙ ap (λ o. valid expiry a row && not (falls_within a b o)) (sym (ap (λ m. cond m None (expires expiry row.finished)) unmarked))
]
