-- Bytes from outside, read as a text.
use Rattle.std.specs.Prelude.{◌≡◌, ℕ, nat_lt, if◌then◌else◌, List, length, Result, Ok, Err}
use Rattle.std.specs.Io.BufRead.{strip_last}
use Rattle.value_core.specs.declared.text.TextFault.{TextFault}
use Rattle.value_core.specs.declared.text.TextFault.TheVariants.{TooLarge, NotText, NoMemory}
use Rattle.value_core.specs.Texts.{is_text}

-- the text, without one final newline, or why there is none
abbrev pub text_read : List ℕ → Result (List ℕ) TextFault
text_read bytes =
    if nat_lt 65536 (length bytes) then Err (TooLarge (length bytes))
    else (if is_text bytes then Ok (strip_last 10 bytes)
    else Err NotText)

-- a fault is the one that was found, or out of memory
abbrev pub FailsText : TextFault → Result (List ℕ) TextFault → Type 0
FailsText NoMemory read = Unit {0}
FailsText fault read = read ≡ Err fault

-- what was returned is what the bytes are read as, or out of memory
abbrev pub ReturnsText : Result (List ℕ) TextFault → Result (List ℕ) TextFault → Type 0
ReturnsText (Ok text) read = read ≡ Ok text
ReturnsText (Err fault) read = FailsText fault read
