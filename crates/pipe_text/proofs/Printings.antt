-- Printing token by token comes to the text of the lines.
use Rattle.std.proofs.Common.{◌≡◌, ℕ, zero, suc, ◌+◌, ◌<◌, Bool, true, List, [], ◌∷◌, ◌++◌, length, map, drop, get_or, arith, refl, sym, ap, ◌∙◌, append_assoc}
use Rattle.std.specs.Prelude.{codes}
use Rattle.std.specs.List.{flat_map}
use Rattle.std.proofs.lemmas.List.{append-nil}
use Rattle.value_core.specs.declared.token.Token.{Token}
use Rattle.value_core.specs.declared.token.Token.TheVariants.{Name}
use Rattle.term_core.specs.declared.program.Term.{Term, Term-F, fold-roll-Term}
use Rattle.term_core.specs.declared.program.Term.TheVariants as term
use Rattle.pipe_text.specs.declared.words.BodyWord.TheVariants as word
use Rattle.pipe_text.specs.Grammar.{form}
use Rattle.pipe_text.specs.Printing.{term_tokens, term_tokens_step, space_before, token_text, opens, spaced, line_text, with_token, after, with_end, after_lines}

-- tokens after tokens
pub after_both : (s : List ℕ × Bool) (ks ls : List Token) → after s (ks ++ ls) ≡ after (after s ks) ls
after_both s [] ls = refl
after_both s (k ∷ ks) ls = after_both (with_token k s) ks ls

-- lines after lines
pub lines_both : (s : List ℕ × Bool) (ks ls : List (List Token)) → after_lines s (ks ++ ls) ≡ after_lines (after_lines s ks) ls
lines_both s [] ls = refl
lines_both s (k ∷ ks) ls = lines_both (with_end (after s k)) ks ls

-- the bytes that tokens add
pub after_bytes : (b : List ℕ) (t : Bool) (ks : List Token) → (after (b, t) ks).0 ≡ b ++ spaced t ks
unfolding with_token
after_bytes b t [] = sym (append-nil b)
after_bytes b t (k ∷ ks) =
    after_bytes (b ++ (space_before t k ++ token_text k)) (opens k) ks ∙ append_assoc b (space_before t k ++ token_text k) (spaced (opens k) ks)
    ∙ ap (λ (x : List ℕ). b ++ x) (append_assoc (space_before t k) (token_text k) (spaced (opens k) ks))

-- the bytes that lines add
pub lines_bytes : (b : List ℕ) (ls : List (List Token)) → (after_lines (b, true) ls).0 ≡ b ++ flat_map line_text ls
unfolding with_end
lines_bytes b [] = sym (append-nil b)
lines_bytes b (ks ∷ ls) =
    lines_bytes ((after (b, true) ks).0 ++ codes "\n") ls ∙ ap (λ (x : List ℕ). (x ++ codes "\n") ++ flat_map line_text ls) (after_bytes b true ks)
    ∙ ap (λ (x : List ℕ). x ++ flat_map line_text ls) (append_assoc b (spaced true ks) (codes "\n")) ∙ append_assoc b (line_text ks) (flat_map line_text ls)

-- the bytes of lines alone
pub all_lines : (ls : List (List Token)) → (after_lines ([], true) ls).0 ≡ flat_map line_text ls
all_lines ls = lines_bytes [] ls

-- the tokens of the term at an index, and those of the terms after it
pub next_term : (s : List ℕ × Bool) (t : Term) (ts : List Term) (i : ℕ) → i < length ts → t ≡ get_or ts i t
    → after (after s (term_tokens t)) (flat_map (λ (ks : List Token). ks) (map term_tokens (drop (i + 1) ts))) ≡ after s (flat_map (λ (ks : List Token). ks) (map term_tokens (drop i ts)))
next_term s t [] i h e = absurd (omega (arith, h))
next_term s t (x ∷ xs) zero h e =
    ap (λ (z : Term). after (after s (term_tokens z)) (flat_map (λ (ks : List Token). ks) (map term_tokens xs))) e ∙ sym (after_both s (term_tokens x) (flat_map (λ (ks : List Token). ks) (map term_tokens xs)))
next_term s t (x ∷ xs) (suc i) h e = let one : suc i + 1 ≡ suc (i + 1) = omega arith in rw one (next_term s t xs i (omega (arith, h)) e)

pub list_map_tokens : (n : List ℕ) (a b : Term) → term_tokens (term.ListMap n a b) ≡ form word.ListMap (Name n ∷ (term_tokens a ++ term_tokens b))
list_map_tokens n a b = ap term_tokens (sym (term.rolls-ListMap n a b)) ∙ fold-roll-Term (List Token) term_tokens_step (Term-F.ListMap n a b)

pub list_iter_tokens : (n : List ℕ) (a b : Term) → term_tokens (term.ListIter n a b) ≡ form word.ListIter (Name n ∷ (term_tokens a ++ term_tokens b))
list_iter_tokens n a b = ap term_tokens (sym (term.rolls-ListIter n a b)) ∙ fold-roll-Term (List Token) term_tokens_step (Term-F.ListIter n a b)
