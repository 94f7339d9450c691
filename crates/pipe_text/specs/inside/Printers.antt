-- What the functions that print add.
use Rattle.std.specs.Prelude.{◌≡◌, ℕ, Bool, List, [], ◌∷◌, ◌++◌, map, codes, Result, OnOk}
use Rattle.std.specs.List.{flat_map}
use Rattle.value_core.specs.declared.function.Fun.{Fun}
use Rattle.value_core.specs.declared.token.Token.{Token}
use Rattle.value_core.specs.declared.token.Token.TheVariants.{Name, Words, Mark}
use Rattle.value_core.specs.declared.value.Value.{Value, out-Value}
use Rattle.term_core.specs.declared.program.FailKind.{FailKind}
use Rattle.term_core.specs.declared.program.Term.{Term}
use Rattle.pipe_text.specs.Words.{fun_letters, kind_letters}
use Rattle.pipe_text.specs.Printing.{literal_tokens, term_tokens, value_layer_word, after}

-- unless something failed, these tokens are printed after what was printed before
abbrev pub Prints : {A E : Type 0} → Result A E → List ℕ × Bool → List ℕ × Bool → List Token → Type 0
Prints result old new ks = OnOk result (new ≡ after old ks)

-- a term's tokens: in brackets, a word and what follows it
abbrev pub bracketed : List ℕ → List Token → List Token
bracketed letters ks = Mark 40 ∷ Name letters ∷ (ks ++ Mark 41 ∷ [])

-- a term that returns a value
abbrev pub return_tokens : Value → List Token
return_tokens v = bracketed (codes "return") (literal_tokens v)

-- a term that fails
abbrev pub fail_tokens : FailKind → List ℕ → List Token
fail_tokens kind message = bracketed (codes "fail") (Name (kind_letters kind) ∷ Words message ∷ [])

-- a term of a word and a name
abbrev pub named_tokens : List ℕ → List ℕ → List Token
named_tokens letters n = bracketed letters (Name n ∷ [])

-- a term with a function of a term's value
abbrev pub map_tokens : Fun → Term → List Token
map_tokens f t = bracketed (codes "map") (Name (fun_letters f) ∷ term_tokens t)

-- a term of a word and a term
abbrev pub one_tokens : List ℕ → Term → List Token
one_tokens letters t = bracketed letters (term_tokens t)

-- a term of a word and two terms
abbrev pub two_tokens : List ℕ → Term → Term → List Token
two_tokens letters a b = bracketed letters (term_tokens a ++ term_tokens b)

-- a term of a word, a name and a term
abbrev pub keyed_tokens : List ℕ → List ℕ → Term → List Token
keyed_tokens letters n t = bracketed letters (Name n ∷ term_tokens t)

-- a term of a word, a name and two terms
abbrev pub under_tokens : List ℕ → List ℕ → Term → Term → List Token
under_tokens letters n a b = bracketed letters (Name n ∷ (term_tokens a ++ term_tokens b))

-- terms one after the other
abbrev pub terms_tokens : List Term → List Token
terms_tokens ts = flat_map (λ (ks : List Token). ks) (map term_tokens ts)

-- a term of terms
abbrev pub all_tokens : List Term → List Token
all_tokens ts = bracketed (codes "all") (terms_tokens ts)

-- the word of an input's value
abbrev pub value_tokens : Value → List Token
value_tokens v = value_layer_word (out-Value v)
