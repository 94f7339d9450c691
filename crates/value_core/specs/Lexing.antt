-- All tokens of some bytes, and how they stop.
use Rattle.std.specs.Prelude.{ℕ, zero, suc, List, [], ◌∷◌, ◌++◌, length, Result, Ok, Err}
use Rattle.value_core.specs.declared.token.Next.{Next}
use Rattle.value_core.specs.declared.token.Next.TheVariants.{Found, End}
use Rattle.value_core.specs.declared.lexing.TokenAt.{TokenAt}
use Rattle.value_core.specs.declared.lexing.Stop.{Stop}
use Rattle.value_core.specs.declared.lexing.Stop.TheVariants as stop
use Rattle.value_core.specs.declared.lexing.Tokens.{Tokens}
use Rattle.value_core.specs.Tokens.{next_at}

-- more tokens in front
abbrev pub in_front : List TokenAt → Tokens → Tokens
in_front ts more = record { tokens = ts ++ more.tokens; stop = more.stop }

-- no token, and how they stop
abbrev pub stopped : Stop → Tokens
stopped s = record { tokens = []; stop = s }

-- what comes next, if `rest` has the tokens from each offset on
abbrev pub lexed_next : ℕ → Result Next ℕ → (ℕ → Tokens) → Tokens
lexed_next size (Ok (Found token offset end)) rest = in_front (record { token = token; offset = offset } ∷ []) (rest end)
lexed_next size (Ok End) rest = stopped (stop.End size)
lexed_next size (Err offset) rest = stopped (stop.Lex offset)

-- the tokens from an offset on, at most n of them
abbrev pub lexed_from : ℕ → List ℕ → ℕ → Tokens
lexed_from zero bytes from = stopped (stop.End (length bytes))
lexed_from (suc n) bytes from = lexed_next (length bytes) (next_at bytes from) (lexed_from n bytes)

-- the tokens of the bytes: each has a byte at least, so there are no more tokens than bytes
unfoldable pub lexed : List ℕ → Tokens
lexed bytes = lexed_from (suc (length bytes)) bytes 0
