-- Bytes that are read as tokens, piece by piece.
use Rattle.std.proofs.Common.{◌≡◌, ℕ, suc, ◌+◌, true, List, [], ◌∷◌, ◌++◌, length, subst, arith}
use Rattle.std.proofs.lemmas.List.{append-nil}
use Rattle.value_core.specs.declared.lexing.Stop.TheVariants as stop
use Rattle.value_core.specs.declared.token.Next.TheVariants.{End}
use Rattle.value_core.specs.declared.token.Token.{Token}
use Rattle.value_core.specs.declared.token.Token.TheVariants.{Mark, Number, Words}
use Rattle.value_core.specs.Lexing.{lexed}
use Rattle.value_core.specs.Literals.{tokens_in}
use Rattle.value_core.specs.Printed.{quoted}
use Rattle.value_core.specs.Tokens.{is_mark}
use Rattle.std.specs.Fmt.{decimal}
use Rattle.pipe_text.specs.Printing.{token_text}
use Rattle.pipe_text.proofs.GoodTokens.{IsGood}
use Rattle.pipe_text.proofs.TermTokens.{IsShort}
use Rattle.pipe_text.proofs.Lexemes.{MayFollow, token_read, token_some}
use Rattle.pipe_text.proofs.PrintedLines.{Lexes, lex_end, lex_token}

-- ---- tokens and what follows them

token_lexes : (k : Token) (rest : List ℕ) (ks : List Token) → IsGood k → IsShort k → MayFollow k rest → Lexes rest ks → Lexes (token_text k ++ rest) (k ∷ ks)
token_lexes k rest ks good short follows more = lex_token (token_text k) rest k ks (token_some k good short) (token_read k rest good short follows) more

pub mark_lexes : (b : ℕ) (rest : List ℕ) (ks : List Token) → is_mark b ≡ true → Lexes rest ks → Lexes (b ∷ rest) (Mark b ∷ ks)
mark_lexes b rest ks mark more = token_lexes (Mark b) rest ks mark tt tt more

pub text_lexes : (t rest : List ℕ) (ks : List Token) → IsGood (Words t) → Lexes rest ks → Lexes (quoted t ++ rest) (Words t ∷ ks)
text_lexes t rest ks good more = token_lexes (Words t) rest ks good tt tt more

pub text_alone : (t : List ℕ) → IsGood (Words t) → Lexes (quoted t) (Words t ∷ [])
text_alone t good = subst (λ (l : List ℕ). Lexes l (Words t ∷ [])) (append-nil (quoted t)) (text_lexes t [] [] good lex_end)

pub number_alone : (n : ℕ) → IsGood (Number n) → Lexes (decimal n) (Number n ∷ [])
number_alone n good = subst (λ (l : List ℕ). Lexes l (Number n ∷ [])) (append-nil (decimal n)) (token_lexes (Number n) [] [] good tt tt lex_end)

-- all bytes are read, to the end
pub lexed_whole : (l : List ℕ) (ks : List Token) → Lexes l ks → (tokens_in (lexed l).tokens ≡ ks) × ((lexed l).stop ≡ stop.End (length l))
unfolding lexed
lexed_whole l ks h = h.lexes [] (suc (length l)) (omega arith)
