-- Templates, as bytes.
use Rattle.std.specs.Prelude.{ℕ, zero, suc, ◌==◌, ◌&&◌, if◌then◌else◌, Bool, true, false, List, [], ◌∷◌, ◌++◌, codes}

-- whether the bytes begin with the first ones
abbrev pub begins : List ℕ → List ℕ → Bool
begins [] bs = true
begins (p ∷ ps) [] = false
begins (p ∷ ps) (b ∷ bs) = p == b && begins ps bs

-- a template filled from the left, whose first so many bytes belong to a name that was just replaced: each
-- `{key}` and each `{value}` is replaced, and what was put in is not looked at again
abbrev pub filled_after : List ℕ → List ℕ → ℕ → List ℕ → List ℕ
filled_after key value n [] = []
filled_after key value (suc n) (b ∷ bs) = filled_after key value n bs
filled_after key value zero (b ∷ bs) =
    if begins (codes "{key}") (b ∷ bs) then key ++ filled_after key value 4 bs
    else (if begins (codes "{value}") (b ∷ bs) then value ++ filled_after key value 6 bs
    else (b ∷ filled_after key value zero bs))

-- a template with this key and this value
abbrev pub filled : List ℕ → List ℕ → List ℕ → List ℕ
filled key value template = filled_after key value 0 template
