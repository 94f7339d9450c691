-- Bytes, cut at the first separator.
use Rattle.std.proofs.Common.{◌≡◌, ℕ, suc, ◌+◌, Bool, true, false, List, [], ◌∷◌, take, drop, refl, arith}
use Rattle.std.specs.Prelude.{◌==◌}
use Rattle.std.specs.List.{position_or_len}
use Rattle.role_rules.specs.Pieces.{pieces_after, pieces}

cut_step : (s b : ℕ) (bs : List ℕ) (t : Bool) → b == s ≡ t → pieces s bs ≡ take (position_or_len (λ c. c == s) bs) bs ∷ pieces_after s (drop (position_or_len (λ c. c == s) bs) bs)
    → pieces s (b ∷ bs) ≡ take (position_or_len (λ c. c == s) (b ∷ bs)) (b ∷ bs) ∷ pieces_after s (drop (position_or_len (λ c. c == s) (b ∷ bs)) (b ∷ bs))
cut_step s b bs true e h = rw e refl
cut_step s b bs false e h =
    let one : 1 + position_or_len (λ c. c == s) bs ≡ suc (position_or_len (λ c. c == s) bs) = omega arith in
    rw (e, h, one) refl

-- the pieces are what stands before the first separator, and those after it
pub cut_at_first : (s : ℕ) (bs : List ℕ) → pieces s bs ≡ take (position_or_len (λ c. c == s) bs) bs ∷ pieces_after s (drop (position_or_len (λ c. c == s) bs) bs)
cut_at_first s [] = refl
cut_at_first s (b ∷ bs) = cut_step s b bs (b == s) refl (cut_at_first s bs)
