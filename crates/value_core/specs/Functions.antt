-- What each function returns for a value.
use Rattle.std.specs.Prelude.{ℕ, ◌+◌, ◌^◌, nat_lt, nat_le, if◌then◌else◌, Bool, List, [], ◌∷◌, ◌++◌, length, codes, Option, Some, None}
use Rattle.std.specs.Fmt.{decimal}
use Rattle.std.specs.List.{flat_map}
use Rattle.std.specs.Str.{bytes_eq}
use Rattle.value_core.specs.declared.cutting.Separator.TheVariants.{Newline, White}
use Rattle.value_core.specs.declared.function.Applied.{Applied}
use Rattle.value_core.specs.declared.function.Applied.TheVariants.{Fine, Bad}
use Rattle.value_core.specs.declared.function.Fun.{Fun}
use Rattle.value_core.specs.declared.function.Fun.TheVariants as fun
use Rattle.value_core.specs.declared.value.Outcome.{Outcome, Outcome-F, out-Outcome}
use Rattle.value_core.specs.declared.value.Value.{Value}
use Rattle.value_core.specs.declared.value.Value.TheVariants as value
use Rattle.value_core.specs.Cuts.{pieces_of, trimmed}
use Rattle.value_core.specs.Parts.{text_values, text_in, number_in, items_in, texts_in, first_in, second_in, outcome_in}
use Rattle.value_core.specs.Tokens.{number_of}

-- a list of texts, unless it has too many
abbrev pub limited_list : List (List ℕ) → Applied
limited_list ts = if nat_lt 256 (length ts) then Bad (codes "list too long") else Fine (value.List (text_values ts))

-- a text, unless it has too many bytes
abbrev pub limited_text : List ℕ → Applied
limited_text t = if nat_lt 65536 (length t) then Bad (codes "text too large") else Fine (value.Words t)

-- a number, unless it is above 64 bits
abbrev pub limited_number : ℕ → Applied
limited_number n = if nat_lt n (2 ^ 64) then Fine (value.Num n) else Bad (codes "number too large")

-- texts with a newline between each two
abbrev pub joined : List (List ℕ) → List ℕ
joined [] = []
joined (t ∷ ts) = t ++ flat_map (λ u. 10 ∷ u) ts

-- the number that a spelling has
abbrev pub spelled_number : Option ℕ → Applied
spelled_number None = Bad (codes "not a number")
spelled_number (Some n) = Fine (value.Num n)

-- unit if a test holds, else a message
abbrev pub unit_if : Bool → List ℕ → Applied
unit_if test message = if test then Fine value.Unit else Bad message

-- an outcome in words
abbrev pub described : Outcome-F Outcome Value → Applied
described (Outcome-F.Fine v) = Fine (value.Words (codes "ok"))
described (Outcome-F.Bad m) = limited_text (codes "failed: " ++ m)
described Outcome-F.Going = Fine (value.Words (codes "active"))

-- the value of an outcome that is fine
abbrev pub demanded : Outcome-F Outcome Value → Applied
demanded (Outcome-F.Fine v) = Fine v
demanded (Outcome-F.Bad m) = Bad m
demanded Outcome-F.Going = Bad (codes "active")

-- the value or message that each function returns
unfoldable pub fn_value : Fun → Value → Applied
fn_value fun.Trim v = Fine (value.Words (trimmed (text_in v)))
fn_value fun.Lines v = limited_list (pieces_of Newline (text_in v))
fn_value fun.Words v = limited_list (pieces_of White (text_in v))
fn_value fun.Join v = limited_text (joined (texts_in v))
fn_value fun.Concat v = limited_text (text_in (first_in v) ++ text_in (second_in v))
fn_value fun.Length v = Fine (value.Num (length (text_in v)))
fn_value fun.Count v = Fine (value.Num (length (items_in v)))
fn_value fun.Number v = spelled_number (number_of (text_in v))
fn_value fun.Show v = Fine (value.Words (decimal (number_in v)))
fn_value fun.Add v = limited_number (number_in (first_in v) + number_in (second_in v))
fn_value fun.Equal v = unit_if (bytes_eq (text_in (first_in v)) (text_in (second_in v))) (codes "not equal")
fn_value fun.AtMost v = unit_if (nat_le (number_in (first_in v)) (number_in (second_in v))) (codes "too large")
fn_value fun.First v = Fine (first_in v)
fn_value fun.Second v = Fine (second_in v)
fn_value fun.Describe v = described (out-Outcome (outcome_in v))
fn_value fun.Must v = demanded (out-Outcome (outcome_in v))
