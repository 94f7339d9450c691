-- What the loop over tokens keeps: those so far, in front of those that are left, are the tokens of the bytes.
use Rattle.std.proofs.Common.{◌≡◌, ℕ, zero, suc, ◌-◌, ◌<◌, ◌≤◌, List, [], ◌∷◌, ◌++◌, length, refl, ◌∙◌, ap, append_assoc, arith}
use Rattle.std.specs.Prelude.{Ok}
use Rattle.value_core.specs.declared.token.Token.{Token}
use Rattle.value_core.specs.declared.token.Next.TheVariants.{Found}
use Rattle.value_core.specs.declared.lexing.TokenAt.{TokenAt}
use Rattle.value_core.specs.Tokens.{next_at}
use Rattle.value_core.specs.Lexing.{in_front, lexed_next, lexed_from, lexed}

abbrev pub SoFar : List ℕ → List TokenAt → ℕ → Type 0
SoFar bytes ts from = (k : ℕ) × (length bytes - from < k) × (in_front ts (lexed_from k bytes from) ≡ lexed bytes)

pub starts : (bytes : List ℕ) (ts : List TokenAt) → ts ≡ [] → SoFar bytes ts 0
unfolding lexed
starts bytes ts none = (suc (length bytes), omega arith, rw none refl)

goes_on : (bytes : List ℕ) (ts : List TokenAt) (token : Token) (offset end from k : ℕ) → next_at bytes from ≡ Ok (Found token offset end) → from < end → end ≤ length bytes
    → length bytes - from < k → in_front ts (lexed_from k bytes from) ≡ lexed bytes → SoFar bytes (ts ++ record { token = token; offset = offset } ∷ []) end
goes_on bytes ts token offset end from zero found later within fits same = absurd (omega (arith, fits))
goes_on bytes ts token offset end from (suc k) found later within fits same =
    let here : lexed_from (suc k) bytes from ≡ in_front (record { token = token; offset = offset } ∷ []) (lexed_from k bytes end) = ap (λ n. lexed_next (length bytes) n (lexed_from k bytes)) found in
    let all : in_front (ts ++ record { token = token; offset = offset } ∷ []) (lexed_from k bytes end) ≡ in_front ts (lexed_from (suc k) bytes from) = rw (here, append_assoc) refl in
    (k, omega (arith, later, within, fits), all ∙ same)

pub next_found : (bytes : List ℕ) (ts : List TokenAt) (token : Token) (offset end from : ℕ) → next_at bytes from ≡ Ok (Found token offset end) → from < end → end ≤ length bytes
    → SoFar bytes ts from → SoFar bytes (ts ++ record { token = token; offset = offset } ∷ []) end
next_found bytes ts token offset end from found later within so_far = goes_on bytes ts token offset end from so_far.0 found later within so_far.1 so_far.2
