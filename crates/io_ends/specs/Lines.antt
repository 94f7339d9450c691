-- The lines of a text that is read in pieces.
use Rattle.std.specs.Prelude.{◌≡◌, ◌≢◌, ◌+◌, ◌<◌, ℕ, slice_index, IfOk, OnOk, List, [], ◌∷◌, length, map, nat_lt, ◌==◌, if◌then◌else◌, ⊤}
use Rattle.std.specs.Io.BufRead.{drop_through}
use Rattle.std.specs.Io.KnownBytes.{prepend_known}
use Rattle.std.specs.declared.option.Option.{Option}
use Rattle.std.specs.declared.option.Option.TheVariants.{None, Some}
use Rattle.std.specs.declared.result.Result.{Result}
use Rattle.io_ends.specs.declared.lines.Line.{Line}
use Rattle.io_ends.specs.declared.lines.Line.TheVariants.{Whole, TooLong, End}
use Rattle.io_ends.specs.declared.lines.LineFault.{LineFault}
use Rattle.io_ends.specs.declared.lines.LineFault.TheVariants.{Failed, NoMemory}
use Rattle.io_ends.specs.Causes.{HasCauseOf}

-- a line as the text has it: its bytes, or that they are too many
pub data TextLine : Type 0 where
  Bytes : List ℕ → TextLine
  Long : TextLine

-- a line has at most so many bytes before its newline
abbrev pub line_limit : ℕ
line_limit = 131072

-- a byte at the front of the first line
abbrev pub put_front : ℕ → List (List ℕ) → List (List ℕ)
put_front b [] = (b ∷ []) ∷ []
put_front b (l ∷ ls) = (b ∷ l) ∷ ls

-- the text cut after each newline; a last line needs none
abbrev pub cut_lines : List ℕ → List (List ℕ)
cut_lines [] = []
cut_lines (b ∷ bs) = if b == 10 then [] ∷ cut_lines bs else put_front b (cut_lines bs)

-- the bytes of a line, unless they are too many
abbrev pub text_line : List ℕ → TextLine
text_line l = if nat_lt line_limit (length l) then Long else Bytes l

-- the lines of a text
abbrev pub lines_of : List ℕ → List TextLine
lines_of bs = map text_line (cut_lines bs)

-- this is the first line of the bytes ahead, and these bytes are ahead after it
abbrev pub IsNext : List ℕ → Line → List ℕ → Type 0
IsNext old (Whole bytes) new =
    (lines_of old ≡ Bytes bytes.items ∷ lines_of new) × (new ≡ drop_through 10 old)
IsNext old TooLong new = (lines_of old ≡ Long ∷ lines_of new) × (new ≡ drop_through 10 old)
IsNext old End new = (old ≡ []) × (new ≡ [])

-- the same of bytes that may be unknown
abbrev pub NextLine : Option (List ℕ) → Line → Option (List ℕ) → Type 0
NextLine None line new = ⊤
NextLine (Some old) line None = ⊥
NextLine (Some old) line (Some new) = IsNext old line new

-- a call answered the next line of the bytes in hand and then those left, if they are known
abbrev pub ReadsLine :
    List ℕ → Option (List ℕ) → Result Line LineFault → List ℕ → Option (List ℕ) → Type 0
ReadsLine hand left result hand' left' =
    IfOk result (λ line. NextLine (prepend_known hand left) line (prepend_known hand' left'))

-- a line uses up bytes, of those in hand and those that can still be read
abbrev pub Uses : List ℕ → ℕ → Result Line LineFault → List ℕ → ℕ → Type 0
Uses hand budget result hand' budget' =
    IfOk result (λ line. line ≢ End → budget' + length hand' < budget + length hand)

-- none of the first so many bytes is a newline
abbrev pub HasNoNewline : ℕ → List ℕ → Type 0
HasNoNewline n bytes = (k : ℕ) → k < n → slice_index bytes k ≢ 10

-- the first newline of the bytes is at this offset
abbrev pub IsFirstNewline : List ℕ → ℕ → Type 0
IsFirstNewline bytes at =
    (at < length bytes) × (slice_index bytes at ≡ 10) × HasNoNewline at bytes

-- known bytes lose all up to and including the first newline
abbrev pub DropsLine : Option (List ℕ) → Option (List ℕ) → Type 0
DropsLine None new = ⊤
DropsLine (Some old) None = ⊥
DropsLine (Some old) (Some new) = new ≡ drop_through 10 old

-- a call that answered Ok dropped the rest of a line, of the bytes left and then of those in hand
abbrev pub DropsRest :
    {E : Type 0} → Option (List ℕ) → Result Unit E → List ℕ → Option (List ℕ) → Type 0
DropsRest left result hand' left' = OnOk result (DropsLine left (prepend_known hand' left'))

-- the count of faults rises at a failed read, and stays at every other answer
abbrev pub HasLineCause : ℕ → ℕ → Result Line LineFault → Type 0
HasLineCause = HasCauseOf Failed NoMemory
