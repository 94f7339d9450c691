-- A text that is read in pieces has its lines cut where the newlines are.
use Rattle.std.proofs.Common.{◌≡◌, ℕ, zero, suc, ◌+◌, ◌<◌, ◌≤◌, true, false, eqb, ltb, List, [], ◌∷◌, ◌++◌, length, get_or, take, drop, refl, sym, ap, subst, ◌∙◌, append_assoc, arith, inl, inr, eq-eqb, add-one}
use Rattle.std.specs.Prelude.{map}
use Rattle.std.specs.Global.{Vec}
use Rattle.std.specs.declared.option.Option.{Option}
use Rattle.std.specs.declared.option.Option.TheVariants.{None, Some}
use Rattle.std.specs.Io.KnownBytes.{prepend_known, Keeps, IsAtEnd}
use Rattle.std.specs.Io.BufRead.{drop_through}
use Rattle.std.proofs.lemmas.Bool.{lt-ltb, le-ltb}
use Rattle.std.proofs.lemmas.Bool.Decides.{eqb_tells}
use Rattle.std.proofs.lemmas.List.{append-nil}
use Rattle.io_ends.specs.declared.lines.Line.{Line}
use Rattle.io_ends.specs.declared.lines.Line.TheVariants.{Whole, TooLong}
use Rattle.io_ends.specs.Lines.{Bytes, Long, line_limit, put_front, cut_lines, text_line, lines_of, NextLine, DropsLine}

-- no newline stands below n
abbrev pub NoneBelow : ℕ → List ℕ → Type 0
NoneBelow n bs = (k : ℕ) → k < n → get_or bs k 0 ≡ 10 → ⊥

none_rest : (n b : ℕ) (bs : List ℕ) → NoneBelow (suc n) (b ∷ bs) → NoneBelow n bs
none_rest n b bs h k lt e = h (suc k) (omega arith) e

none_cons : (b : ℕ) (bs : List ℕ) → (b ≡ 10 → ⊥) → NoneBelow (length bs) bs → NoneBelow (length (b ∷ bs)) (b ∷ bs)
none_cons b bs first h zero lt e = first e
none_cons b bs first h (suc k) lt e = h k (omega arith) e

none_first : (n b : ℕ) (bs : List ℕ) → NoneBelow (suc n) (b ∷ bs) → eqb b 10 ≡ false
none_first n b bs h = elim (eqb_tells b 10) [ inl y ↦ absurd (h 0 (omega arith) y.1) | inr n ↦ n.0 ]

-- the first newline of a piece, and what stands after it, whatever follows the piece
pub drop_at : (bs more : List ℕ) (at : ℕ) → at < length bs → get_or bs at 0 ≡ 10 → NoneBelow at bs → drop_through 10 (bs ++ more) ≡ drop (suc at) bs ++ more
drop_at [] more at lt e h = absurd (omega arith)
drop_at (b ∷ bs) more zero lt e h = rw (eq-eqb b 10 e) refl
drop_at (b ∷ bs) more (suc at) lt e h = rw (none_first at b bs h) (drop_at bs more at (omega arith) e (none_rest at b bs h))

cut_at : (bs more : List ℕ) (at : ℕ) → at < length bs → get_or bs at 0 ≡ 10 → NoneBelow at bs → cut_lines (bs ++ more) ≡ take at bs ∷ cut_lines (drop (suc at) bs ++ more)
cut_at [] more at lt e h = absurd (omega arith)
cut_at (b ∷ bs) more zero lt e h = rw (eq-eqb b 10 e) refl
cut_at (b ∷ bs) more (suc at) lt e h = rw (none_first at b bs h) (ap (put_front b) (cut_at bs more at (omega arith) e (none_rest at b bs h)))

-- a piece with no newline
pub drop_none : (bs more : List ℕ) → NoneBelow (length bs) bs → drop_through 10 (bs ++ more) ≡ drop_through 10 more
drop_none [] more h = refl
drop_none (b ∷ bs) more h = rw (none_first (length bs) b bs h) (drop_none bs more (none_rest (length bs) b bs h))

-- a front with no newline stands before the first line of what follows
cut_front : (bs more l : List ℕ) (ls : List (List ℕ)) → NoneBelow (length bs) bs → cut_lines more ≡ l ∷ ls → cut_lines (bs ++ more) ≡ (bs ++ l) ∷ ls
cut_front [] more l ls h e = e
cut_front (b ∷ bs) more l ls h e = rw (none_first (length bs) b bs h) (ap (put_front b) (cut_front bs more l ls (none_rest (length bs) b bs h) e))

-- a front with no newline, and then bytes with none
pub none_append : (bs cs : List ℕ) → NoneBelow (length bs) bs → NoneBelow (length cs) cs → NoneBelow (length (bs ++ cs)) (bs ++ cs)
none_append [] cs h g = g
none_append (b ∷ bs) cs h g = none_cons b (bs ++ cs) (h 0 (omega arith)) (none_append bs cs (none_rest (length bs) b bs h) g)

head_of : (b : ℕ) (more : List ℕ) → (l : List ℕ) × (1 ≤ length l) × (put_front b (cut_lines more) ≡ l ∷ cut_lines (drop_through 10 more))
head_of b [] = (b ∷ [], omega arith, refl)
head_of b (x ∷ xs) =
    elim (eqb_tells x 10) [
      | inl y ↦ (b ∷ [], omega arith, rw (y.0) refl)
      | inr n ↦ let rest = head_of x xs in (b ∷ rest.0, omega arith, rw (n.0) (ap (put_front b) rest.2))
    ]

front_of : (bs more : List ℕ) → NoneBelow (length bs) bs → 0 < length bs → (l : List ℕ) × (length bs ≤ length l) × (cut_lines (bs ++ more) ≡ l ∷ cut_lines (drop_through 10 more))
front_of [] more h lt = absurd (omega arith)
front_of (b ∷ []) more h lt = let r = head_of b more in (r.0, r.1, rw (none_first 0 b [] h) r.2)
front_of (b ∷ c ∷ bs) more h lt =
    let r = front_of (c ∷ bs) more (none_rest (length (c ∷ bs)) b (c ∷ bs) h) (omega arith) in
    (b ∷ r.0, omega (arith, r.1), rw (none_first (length (c ∷ bs)) b (c ∷ bs) h) (ap (put_front b) r.2))

last_line : (bs : List ℕ) → NoneBelow (length bs) bs → 0 < length bs → cut_lines bs ≡ bs ∷ []
last_line [] h lt = absurd (omega arith)
last_line (b ∷ []) h lt = rw (none_first 0 b [] h) refl
last_line (b ∷ c ∷ bs) h lt = rw (none_first (length (c ∷ bs)) b (c ∷ bs) h) (ap (put_front b) (last_line (c ∷ bs) (none_rest (length (c ∷ bs)) b (c ∷ bs) h) (omega arith)))

-- ---- what the reader answers: `line` was read of the line, and `piece` behind it

keeps_next : (a b c : Option (List ℕ)) (line : Line) → Keeps a b → NextLine b line c → NextLine a line c
keeps_next None b c line k n = tt
keeps_next (Some a) None c line k n = absurd k
keeps_next (Some a) (Some b) c line k n = subst (λ (x : List ℕ). NextLine (Some x) line c) k n

-- the piece has a newline
cut_piece : (line piece more : List ℕ) (at : ℕ) → NoneBelow (length line) line → at < length piece → get_or piece at 0 ≡ 10 → NoneBelow at piece
    → (cut_lines (line ++ (piece ++ more)) ≡ (line ++ take at piece) ∷ cut_lines (drop (at + 1) piece ++ more)) × (drop (at + 1) piece ++ more ≡ drop_through 10 (line ++ (piece ++ more)))
cut_piece line piece more at none lt e h = rw add-one (
  cut_front line (piece ++ more) (take at piece) _ none (cut_at piece more at lt e h),
  sym (drop_none line (piece ++ more) none ∙ drop_at piece more at lt e h),
)

-- and with that the line is within the limit
pub next_whole : (a left : Option (List ℕ)) (line piece : List ℕ) (at : ℕ) (v : Vec ℕ) → Keeps a (prepend_known line (prepend_known piece left)) → NoneBelow (length line) line
    → at < length piece → get_or piece at 0 ≡ 10 → NoneBelow at piece → v.items ≡ line ++ take at piece → length v.items ≤ line_limit
    → NextLine a (Whole v) (prepend_known (drop (at + 1) piece) left)
next_whole a None line piece at v k none lt e h is fits = keeps_next a None None (Whole v) k tt
next_whole a (Some more) line piece at v k none lt e h is fits =
    let cut = cut_piece line piece more at none lt e h in
    let short : ltb line_limit (length v.items) ≡ false = le-ltb _ _ fits in
    let lines : lines_of (line ++ (piece ++ more)) ≡ Bytes v.items ∷ lines_of (drop (at + 1) piece ++ more) = ap (map text_line) cut.0 ∙ rw (← is, short) refl in
    keeps_next a (Some (line ++ (piece ++ more))) (Some (drop (at + 1) piece ++ more)) (Whole v) k (lines, cut.1)

-- or it is past the limit
pub next_long : (a left : Option (List ℕ)) (line piece : List ℕ) (at : ℕ) (v : Vec ℕ) → Keeps a (prepend_known line (prepend_known piece left)) → NoneBelow (length line) line
    → at < length piece → get_or piece at 0 ≡ 10 → NoneBelow at piece → v.items ≡ line ++ take at piece → line_limit < length v.items
    → NextLine a TooLong (prepend_known (drop (at + 1) piece) left)
next_long a None line piece at v k none lt e h is long = keeps_next a None None TooLong k tt
next_long a (Some more) line piece at v k none lt e h is long =
    let cut = cut_piece line piece more at none lt e h in
    let is_long : ltb line_limit (length v.items) ≡ true = lt-ltb _ _ long in
    let lines : lines_of (line ++ (piece ++ more)) ≡ Long ∷ lines_of (drop (at + 1) piece ++ more) = ap (map text_line) cut.0 ∙ rw (← is, is_long) refl in
    keeps_next a (Some (line ++ (piece ++ more))) (Some (drop (at + 1) piece ++ more)) TooLong k (lines, cut.1)

-- the limit is passed and no newline has come: the rest of the line is dropped
pub next_dropped : (a left after : Option (List ℕ)) (line : List ℕ) → Keeps a (prepend_known line left) → NoneBelow (length line) line → line_limit < length line → DropsLine left after
    → NextLine a TooLong after
next_dropped a None after line k none long d = keeps_next a None after TooLong k tt
next_dropped a (Some more) None line k none long d = absurd d
next_dropped a (Some more) (Some after) line k none long d =
    let r = front_of line more none (omega arith) in
    let is_long : ltb line_limit (length r.0) ≡ true = lt-ltb _ _ (omega (arith, r.1)) in
    let cut : lines_of (line ++ more) ≡ Long ∷ lines_of after = ap (map text_line) r.2 ∙ rw (is_long, d) refl in
    keeps_next a (Some (line ++ more)) (Some after) TooLong k (cut, d ∙ sym (drop_none line more none))

-- the source ended in a line
pub next_last : (a left : Option (List ℕ)) (v : Vec ℕ) (piece : List ℕ) → Keeps a (prepend_known v.items (prepend_known piece left)) → piece ≡ [] → IsAtEnd left → NoneBelow (length v.items) v.items
    → 0 < length v.items → length v.items ≤ line_limit → NextLine a (Whole v) (prepend_known piece left)
next_last a None v piece k empty end none some fits = keeps_next a None None (Whole v) k tt
next_last a (Some more) v piece k empty end none some fits =
    let short : ltb line_limit (length v.items) ≡ false = le-ltb _ _ fits in
    let rest : piece ++ more ≡ [] = rw (empty, end) refl in
    let all : v.items ++ (piece ++ more) ≡ v.items = rw rest (append-nil v.items) in
    let cut : lines_of (v.items ++ (piece ++ more)) ≡ Bytes v.items ∷ lines_of (piece ++ more) = ap lines_of all ∙ ap (map text_line) (last_line v.items none some) ∙ rw (short, rest) refl in
    let left_of_it : piece ++ more ≡ drop_through 10 (v.items ++ (piece ++ more)) = rest ∙ sym (drop_none v.items (piece ++ more) none ∙ ap (drop_through 10) rest) in
    keeps_next a (Some (v.items ++ (piece ++ more))) (Some (piece ++ more)) (Whole v) k (cut, left_of_it)

-- ---- what is ahead of a line that is read

-- the line takes the piece
pub keeps_taken : (a left : Option (List ℕ)) (line piece taken : List ℕ) → Keeps a (prepend_known line (prepend_known piece left)) → taken ≡ line ++ piece → Keeps a (prepend_known taken left)
keeps_taken None left line piece taken k e = tt
keeps_taken (Some a) None line piece taken k e = absurd k
keeps_taken (Some a) (Some more) line piece taken k e = rw e (append_assoc line piece more) ∙ k

-- the next piece comes
pub keeps_refilled : (a b c : Option (List ℕ)) (line : List ℕ) → Keeps a (prepend_known line b) → Keeps b c → Keeps a (prepend_known line c)
keeps_refilled None b c line k f = tt
keeps_refilled (Some a) None c line k f = absurd k
keeps_refilled (Some a) (Some b) None line k f = absurd f
keeps_refilled (Some a) (Some b) (Some c) line k f = ap (λ (x : List ℕ). line ++ x) f ∙ k

-- ---- what is dropped of a long line

-- the next piece has its newline
pub dropped_at : (a left : Option (List ℕ)) (piece : List ℕ) (at : ℕ) → Keeps a (prepend_known piece left) → at < length piece → get_or piece at 0 ≡ 10 → NoneBelow at piece → DropsLine a (prepend_known (drop (at + 1) piece) left)
dropped_at None left piece at k lt e h = tt
dropped_at (Some a) None piece at k lt e h = absurd k
dropped_at (Some a) (Some more) piece at k lt e h = rw add-one (sym (drop_at piece more at lt e h) ∙ ap (drop_through 10) k)

-- the next piece has no newline
pub dropped_past : (a left after : Option (List ℕ)) (piece : List ℕ) → Keeps a (prepend_known piece left) → NoneBelow (length piece) piece → DropsLine left after → DropsLine a after
dropped_past None left after piece k h d = tt
dropped_past (Some a) None after piece k h d = absurd k
dropped_past (Some a) (Some more) None piece k h d = absurd d
dropped_past (Some a) (Some more) (Some after) piece k h d = d ∙ sym (drop_none piece more h) ∙ ap (drop_through 10) k
