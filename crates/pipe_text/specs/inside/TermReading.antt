-- Reading names, texts, literals and terms, up to the first fault.
use Rattle.std.specs.Prelude.{ℕ, zero, suc, ◌+◌, ◌-◌, ◌==◌, List, [], ◌∷◌, ◌++◌, map, codes, Result, Ok, Err, if◌then◌else◌, Option, Some, None}
use Rattle.value_core.specs.declared.lexing.TokenAt.{TokenAt}
use Rattle.value_core.specs.declared.token.Token.{Token}
use Rattle.value_core.specs.declared.token.Token.TheVariants.{Name, Number, Words, Mark, LongName, LongText}
use Rattle.value_core.specs.declared.value.Value.{Value}
use Rattle.value_core.specs.declared.value.Value.TheVariants as value
use Rattle.value_core.specs.Literals.{is_mark_of}
use Rattle.term_core.specs.declared.program.Term.{Term}
use Rattle.term_core.specs.declared.program.Term.TheVariants as term
use Rattle.pipe_text.specs.declared.words.BodyWord.{BodyWord}
use Rattle.pipe_text.specs.declared.words.BodyWord.TheVariants as word
use Rattle.pipe_text.specs.declared.fault.Fault.{Fault}
use Rattle.pipe_text.specs.declared.fault.Fault.TheVariants.{Syntax, Limit}
use Rattle.pipe_text.specs.declared.fault.LimitName.{LimitName}
use Rattle.pipe_text.specs.declared.fault.LimitName.TheVariants as limit
use Rattle.pipe_text.specs.LimitTable.{number_of}
use Rattle.pipe_text.specs.Words.{body_word, fun_word, kind_word}
use Rattle.pipe_text.specs.Grammar.{Limits, list_of, is_within}
use Rattle.pipe_text.specs.inside.Readers.{◌>>=◌, Reader, give, seq, Choice, branch, peek, mark_at, chosen, word_at, only, is_string}

-- the fault at an offset of a token that goes beyond a limit
abbrev pub beyond : LimitName → ℕ → Fault
beyond what = Limit what (number_of what)

-- a name is its own end
abbrev pub name_choice : Limits → Token → Choice (List ℕ)
name_choice lim (Name n) = Ok (give n)
name_choice lim LongName = if lim.lifted limit.Name then Ok (give []) else Err (beyond limit.Name)
name_choice lim k = Err Syntax

-- a name
abbrev pub name_at : Limits → Reader (List ℕ)
name_at lim = branch (name_choice lim)

-- a string is its own end
abbrev pub text_choice : Limits → Token → Choice (List ℕ)
text_choice lim (Words t) = Ok (give t)
text_choice lim LongText = if lim.lifted limit.Text then Ok (give []) else Err (beyond limit.Text)
text_choice lim k = Err Syntax

-- the text of a string
abbrev pub text_at : Limits → Reader (List ℕ)
text_at lim = branch (text_choice lim)

-- a number within the limit of this name is its own end
abbrev pub number_choice : Limits → LimitName → Token → Choice ℕ
number_choice lim what (Number n) = if is_within lim what n then Ok (give n) else Err (beyond what)
number_choice lim what k = Err Syntax

-- a number within the limit of this name
abbrev pub number_at : Limits → LimitName → Reader ℕ
number_at lim what = branch (number_choice lim what)

-- a string is its own end, if there is room for so many more under the limit of this name
abbrev pub room_choice : Limits → LimitName → ℕ → Token → Choice (List ℕ)
room_choice lim what room (Words t) = if room == 0 then Err (beyond what) else Ok (give t)
room_choice lim what room LongText = if lim.lifted limit.Text then (if room == 0 then Err (beyond what) else Ok (give [])) else Err (beyond limit.Text)
room_choice lim what room k = Err Syntax

-- the text of a string, with room for so many more
abbrev pub room_at : Limits → LimitName → ℕ → Reader (List ℕ)
room_at lim what room = branch (room_choice lim what room)

-- after a text of a list, with room for so many more: the closing bracket, or one more text after a comma
abbrev pub item_choice : Limits → ℕ → Token → Choice (Option (List ℕ))
item_choice lim room (Mark m) = if m == 93 then Ok (give None) else (if m == 44 then Ok (seq (room_at lim limit.List room) (λ t. give (Some t))) else Err Syntax)
item_choice lim room k = Err Syntax

-- one more text of a list, or its end
unfoldable pub item_at : Limits → ℕ → Reader (Option (List ℕ))
item_at lim room = branch (item_choice lim room)

-- one more word of a command, if a string is next
unfoldable pub command_word_at : Limits → ℕ → Reader (Option (List ℕ))
command_word_at lim room = peek is_string (seq (room_at lim limit.Words room) (λ t. give (Some t))) (give None)

-- no more texts, or what is read after one more
abbrev pub with_text_read : Option (List ℕ) → Reader (List (List ℕ)) → Reader (List (List ℕ))
with_text_read None r = give []
with_text_read (Some t) r = seq r (λ ts. give (t ∷ ts))

-- texts as long as there are some, with room for so many, by what reads one with the room that is left
unfoldable pub texts_at : (ℕ → Reader (Option (List ℕ))) → ℕ → Reader (List (List ℕ))
texts_at reads zero = seq (reads 0) (λ o. with_text_read o (give []))
texts_at reads (suc room) = seq (reads (suc room)) (λ o. with_text_read o (texts_at reads room))

-- a list after its opening bracket
unfoldable pub items_at : Limits → Reader (List (List ℕ))
items_at lim = peek (is_mark_of 93) (seq (mark_at 93) (λ u. give [])) (seq (text_at lim) (λ t. seq (texts_at (item_at lim) lim.more_items) (λ ts. give (t ∷ ts))))

-- a literal is its own end, but a list continues after its opening bracket
abbrev pub literal_choice : Limits → Token → Choice Value
literal_choice lim (Words t) = Ok (give (value.Words t))
literal_choice lim LongText = if lim.lifted limit.Text then Ok (give (value.Words [])) else Err (beyond limit.Text)
literal_choice lim (Number n) = Ok (give (value.Num n))
literal_choice lim (Name n) = chosen (λ u. Ok (give value.Unit)) (only (codes "unit") n)
literal_choice lim (Mark m) = if m == 91 then Ok (seq (items_at lim) (λ ts. give (list_of ts))) else Err Syntax
literal_choice lim LongName = Err Syntax

-- a literal
unfoldable pub literal_at : Limits → Reader Value
literal_at lim = branch (literal_choice lim)

-- a term, and how many terms it is made of
abbrev pub Counted : Type 0
Counted = Term × ℕ

-- the opening bracket is its own end, if there is room for d brackets and n terms
abbrev pub open_choice : ℕ → ℕ → Token → Choice (Unit {0})
open_choice d n (Mark m) = if m == 40 then (if n == 0 then Err (beyond limit.Terms) else (if d == 0 then Err (beyond limit.Depth) else Ok (give tt))) else Err Syntax
open_choice d n k = Err Syntax

-- the opening bracket
abbrev pub open_at : ℕ → ℕ → Reader (Unit {0})
open_at d n = branch (open_choice d n)

-- two terms, with room for n, by what reads one with room for so many
unfoldable pub two_at : (ℕ → Reader Counted) → ℕ → Reader ((Term × Term) × ℕ)
two_at reads n = seq (reads n) (λ a. seq (reads (n - a.1)) (λ b. give ((a.0, b.0), a.1 + b.1)))

-- one more term, if an opening bracket is next
unfoldable pub part_at : (ℕ → Reader Counted) → ℕ → Reader (Option Counted)
part_at reads n = peek (is_mark_of 40) (seq (reads n) (λ a. give (Some a))) (give None)

-- no more terms, or what is read after one more
abbrev pub with_part : Option Counted → (ℕ → Reader (List Term × ℕ)) → Reader (List Term × ℕ)
with_part None r = give ([], 0)
with_part (Some a) r = seq (r a.1) (λ x. give (a.0 ∷ x.0, a.1 + x.1))

-- terms as long as there are some, at most m of them, with room for n terms in all
unfoldable pub parts_at : (ℕ → Reader Counted) → ℕ → ℕ → Reader (List Term × ℕ)
parts_at reads zero n = seq (part_at reads n) (λ o. with_part o (λ used. give ([], 0)))
parts_at reads (suc m) n = seq (part_at reads n) (λ o. with_part o (λ used. parts_at reads m (n - used)))

-- the part of a term after its word, with room for n terms, by what reads one with room for so many
unfoldable pub body_at : Limits → (ℕ → Reader Counted) → ℕ → BodyWord → Reader Counted
body_at lim reads n word.Return = seq (literal_at lim) (λ v. give (term.Return v, 1))
body_at lim reads n word.Fail = seq (word_at kind_word) (λ f. seq (text_at lim) (λ t. give (term.Fail f t, 1)))
body_at lim reads n word.Input = seq (name_at lim) (λ x. give (term.Input x, 1))
body_at lim reads n word.Node = seq (name_at lim) (λ x. give (term.Node x, 1))
body_at lim reads n word.Var = seq (name_at lim) (λ x. give (term.Var x, 1))
body_at lim reads n word.Map = seq (word_at fun_word) (λ f. seq (reads n) (λ a. give (term.Map f a.0, 1 + a.1)))
body_at lim reads n word.Pair = seq (two_at reads n) (λ p. give (term.Pair p.0.0 p.0.1, 1 + p.1))
body_at lim reads n word.Bind = seq (name_at lim) (λ x. seq (two_at reads n) (λ p. give (term.Bind x p.0.0 p.0.1, 1 + p.1)))
body_at lim reads n word.ListMap = seq (name_at lim) (λ x. seq (two_at reads n) (λ p. give (term.ListMap x p.0.0 p.0.1, 1 + p.1)))
body_at lim reads n word.ListIter = seq (name_at lim) (λ x. seq (two_at reads n) (λ p. give (term.ListIter x p.0.0 p.0.1, 1 + p.1)))
body_at lim reads n word.Catch = seq (reads n) (λ a. give (term.Catch a.0, 1 + a.1))
body_at lim reads n word.State = seq (reads n) (λ a. give (term.State a.0, 1 + a.1))
body_at lim reads n word.Gate = seq (two_at reads n) (λ p. give (term.Gate p.0.0 p.0.1, 1 + p.1))
body_at lim reads n word.All = seq (parts_at reads n n) (λ x. give (term.All x.0, 1 + x.1))
body_at lim reads n word.Build = seq (name_at lim) (λ x. seq (reads n) (λ a. give (term.Build x a.0, 1 + a.1)))
body_at lim reads n word.Output = seq (name_at lim) (λ x. seq (two_at reads n) (λ p. give (term.Output x p.0.0 p.0.1, 1 + p.1)))

-- a term, with room for d brackets inside one another and for n terms; with no room for a bracket it ends there
unfoldable pub term_at : Limits → ℕ → ℕ → Reader Counted
term_at lim zero n = seq (open_at 0 n) (λ u. give (term.All [], 1))
term_at lim (suc d) n = seq (open_at (suc d) n) (λ u. seq (word_at body_word) (λ w. seq (body_at lim (term_at lim d) (n - 1) w) (λ x. seq (mark_at 41) (λ v. give x))))

-- values of the texts that were read before, in front of those that are read
abbrev pub following : {V : Type 0} → (List ℕ → V) → List V → Result (List (List ℕ) × List TokenAt) Fault → Result (List V × List TokenAt) Fault
following f before read = read >>= λ x. Ok (before ++ map f x.0, x.1)

-- the texts of a list as values, from the first on, which was read before
abbrev pub items_from : Limits → List ℕ → Reader (List Value)
items_from lim first s ts = following value.Words (value.Words first ∷ []) (texts_at (item_at lim) lim.more_items s ts)

-- the words of a command, from the first on, which was read before
abbrev pub words_from : Limits → List ℕ → Reader (List (List ℕ))
words_from lim first s ts = following (λ t. t) (first ∷ []) (texts_at (command_word_at lim) lim.more_words s ts)

-- the terms that were read before, in front of those that are read
abbrev pub following_parts : List Term → ℕ → Result ((List Term × ℕ) × List TokenAt) Fault → Result ((List Term × ℕ) × List TokenAt) Fault
following_parts before used read = read >>= λ x. Ok ((before ++ x.0.0, used + x.0.1), x.1)
