-- An order fits exactly where no word of it is too long.
use Rattle.std.proofs.Common.{◌≡◌, ℕ, Bool, true, false, not, List, [], ◌∷◌, length, nat_lt, Some, None, is_some, option_map, refl, sym, ◌∙◌, ap, inl, inr}
use Rattle.std.proofs.Common.{◌<◌, arith}
use Rattle.std.proofs.lemmas.Bool.Decides.{nat_tests}
use Rattle.std.specs.List.{list_all}
use Rattle.value_core.proofs.Basics.{bool_cases}
use Rattle.op_keys.specs.Orders.{order_limit, is_short, first_too_long, capped}

not_not : (b : Bool) → not (not b) ≡ b
not_not true = refl
not_not false = refl

-- the two ways to say it
pub fits_is : (ws : List (List ℕ)) → list_all is_short ws ≡ not (is_some (option_map capped (first_too_long ws)))
fits_is [] = refl
fits_is (w ∷ ws) = elim (bool_cases (nat_lt order_limit (length w))) [
  | inl t ↦ rw t
  | inr f ↦ rw f (fits_is ws)
]

-- a test for no word that is too long tells whether the order fits
pub fits_is_none : (ws : List (List ℕ)) (b : Bool) → is_some (option_map capped (first_too_long ws)) ≡ not b → b ≡ list_all is_short ws
fits_is_none ws b e = sym (fits_is ws ∙ ap not e ∙ not_not b)

-- without a word that is too long all fit
pub fits_none : (ws : List (List ℕ)) → option_map capped (first_too_long ws) ≡ None → list_all is_short ws ≡ true
fits_none ws e = fits_is ws ∙ ap (λ o. not (is_some o)) e

beyond : (n : ℕ) → order_limit < capped n → nat_lt order_limit n ≡ true
beyond n h = grind (arith, nat_tests)

-- the first word that is too long, after those that are not
pub first_is : (w : List ℕ) (ws : List (List ℕ)) (n : ℕ) → n ≡ capped (length w) → order_limit < n → Some n ≡ option_map capped (first_too_long (w ∷ ws))
first_is w ws n is h = let above : order_limit < capped (length w) = rw (← is) h in rw (beyond (length w) above, is)
