-- The made script has few lines.
use Rattle.std.proofs.Common.{◌≡◌, ℕ, zero, suc, ◌+◌, ◌*◌, ◌≤◌, Bool, true, false, List, [], ◌∷◌, ◌++◌, length, map, codes, decimal, sym, ap, subst, ◌∙◌, arith}
use Rattle.std.specs.Prelude.{◌==◌, ◌||◌, if◌then◌else◌, nat_lt}
use Rattle.std.specs.List.{flat_map, range_with_len}
use Rattle.std.proofs.lemmas.List.{length-append, length-map}
use Rattle.io_ends.specs.Lines.{cut_lines, lines_of, put_front, text_line}
use Rattle.value_core.specs.Parts.{text_values}
use Rattle.value_core.specs.Printed.{escape, escaped, following, hex_escape, list_text, outcome_text_step, printed, quoted, separated, value_text_step}
use Rattle.value_core.specs.declared.value.Value.{Value, Value-F, fold-roll-Value}
use Rattle.value_core.specs.declared.value.Value.TheVariants as value
use Rattle.session_rules.specs.Commands.{digits_from, made_items, made_line, made_script}
use Rattle.made_session.proofs.Within.{short}

-- ---- lines

put_length : (b : ℕ) (ls : List (List ℕ)) → length (put_front b ls) ≤ 1 + length ls
put_length b [] = omega arith
put_length b (l ∷ ls) = omega arith

if_length : (b : Bool) (xs ys : List (List ℕ)) (m : ℕ) → length xs ≤ m → length ys ≤ m → length (if b then xs else ys) ≤ m
if_length true xs ys m h k = h
if_length false xs ys m h k = k

few_cuts : (bs : List ℕ) → length (cut_lines bs) ≤ length bs
few_cuts [] = omega arith
few_cuts (b ∷ bs) =
    let rest = few_cuts bs in
    let put = put_length b (cut_lines bs) in
    if_length (b == 10) ([] ∷ cut_lines bs) (put_front b (cut_lines bs)) (length (b ∷ bs)) (omega (arith, rest)) (omega (arith, rest, put))

few_lines : (bs : List ℕ) → length (lines_of bs) ≤ length bs
few_lines bs = subst (λ (k : ℕ). k ≤ length bs) (sym (length-map (cut_lines bs) text_line)) (few_cuts bs)

-- ---- texts

if_short : (b : Bool) (xs ys : List ℕ) (m : ℕ) → length xs ≤ m → length ys ≤ m → length (if b then xs else ys) ≤ m
if_short true xs ys m h k = h
if_short false xs ys m h k = k

escape_short : (b : ℕ) → length (escape b) ≤ 4
escape_short b =
    if_short (b == 34) (codes "\\\"") _ 4 (omega arith)
    (if_short (b == 92) (codes "\\\\") _ 4 (omega arith)
    (if_short (b == 10) (codes "\\n") _ 4 (omega arith)
    (if_short (b == 9) (codes "\\t") _ 4 (omega arith)
    (if_short (b == 13) (codes "\\r") _ 4 (omega arith)
    (if_short (nat_lt b 32 || b == 127) (hex_escape b) (b ∷ []) 4 (omega arith) (omega arith))))))

escaped_short : (t : List ℕ) → length (escaped t) ≤ 4 * length t
escaped_short [] = omega arith
escaped_short (b ∷ t) =
    let one = escape_short b in
    let rest = escaped_short t in
    let both = length-append (escape b) (escaped t) in
    omega (arith, one, rest, both)

quoted_short : (i : ℕ) → i ≤ 1000 → length (quoted (decimal i)) ≤ 18
quoted_short i few =
    let brief = short i few in
    let long = escaped_short (decimal i) in
    let both = length-append (escaped (decimal i)) (codes "\"") in
    omega (arith, brief, long, both)

printed_words : (t : List ℕ) → printed (value.Words t) ≡ quoted t
printed_words t = ap printed (sym (value.rolls-Words t)) ∙ fold-roll-Value (List ℕ) (List ℕ) outcome_text_step value_text_step (Value-F.Words t)

printed_list : (vs : List Value) → printed (value.List vs) ≡ list_text (map printed vs)
printed_list vs = ap printed (sym (value.rolls-List vs)) ∙ fold-roll-Value (List ℕ) (List ℕ) outcome_text_step value_text_step (Value-F.List vs)

following_short : (a k : ℕ) → a + k ≤ 1001 → length (following (map printed (text_values (digits_from a k)))) ≤ 20 * k
following_short a zero few = omega arith
following_short a (suc k) few =
    let one : length (printed (value.Words (decimal a))) ≤ 18 = subst (λ (t : List ℕ). length t ≤ 18) (sym (printed_words (decimal a))) (quoted_short a (omega (arith, few))) in
    let rest = following_short (a + 1) k (omega (arith, few)) in
    let both = length-append (codes ", " ++ printed (value.Words (decimal a))) (following (map printed (text_values (digits_from (a + 1) k)))) in
    omega (arith, one, rest, both)

separated_short : (xs : List (List ℕ)) → length (separated xs) ≤ length (following xs)
separated_short [] = omega arith
separated_short (x ∷ xs) =
    let left = length-append x (following xs) in
    let right = length-append (codes ", " ++ x) (following xs) in
    omega (arith, left, right)

line_short : (n first : ℕ) → first ≤ 10 → length (made_line n first) ≤ 5200
line_short n first few =
    let items : made_items n ≤ 256 = omega arith in
    let texts : List (List ℕ) = map printed (text_values (digits_from first (made_items n))) in
    let whole : length (printed (value.List (text_values (digits_from first (made_items n))))) ≡ length (list_text texts) = ap length (printed_list (text_values (digits_from first (made_items n)))) in
    let one = separated_short texts in
    let rest = following_short first (made_items n) (omega (arith, items, few)) in
    let closed = length-append (separated texts) (codes "]") in
    let last = length-append (printed (value.List (text_values (digits_from first (made_items n))))) (codes "\n") in
    omega (arith, items, whole, one, rest, closed, last)

lines_short : (n a k : ℕ) → a + k ≤ 11 → length (flat_map (made_line n) (range_with_len a k)) ≤ 5200 * k
lines_short n a zero few = omega arith
lines_short n a (suc k) few =
    let one = line_short n a (omega (arith, few)) in
    let rest = lines_short n (a + 1) k (omega (arith, few)) in
    let both = length-append (made_line n a) (flat_map (made_line n) (range_with_len (a + 1) k)) in
    omega (arith, one, rest, both)

pub few_script_lines : (n : ℕ) → length (lines_of (made_script n)) ≤ 52000
few_script_lines n =
    let bytes = lines_short n 1 10 (omega arith) in
    let lines = few_lines (made_script n) in
    omega (arith, bytes, lines)
