-- The indices of names.
use Rattle.std.proofs.Common.{ℕ, ◌+◌, ◌≤◌, List, [], ◌∷◌, true, false, cond, arith}
use Rattle.std.specs.Str.{bytes_eq}
use Rattle.op_keys.specs.Names.{index_named}

-- an index that is counted from a number on is at least that number
pub index_from : (at : ℕ) (ns : List (List ℕ)) (n : List ℕ) → at ≤ index_named at ns n
index_from at [] n = omega arith
index_from at (m ∷ ns) n =
    elim (bytes_eq m n) as (λ b. at ≤ cond b at (index_named (at + 1) ns n)) [ true ↦ omega arith | false ↦ let h = index_from (at + 1) ns n in omega (arith, h) ]
