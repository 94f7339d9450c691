-- A string is read as it is spelled.
use Rattle.std.proofs.Common.{◌≡◌, ℕ, ◌+◌, ◌*◌, Bool, true, false, cond, List, [], ◌∷◌, ◌++◌, map, length, refl, sym, ap, ◌∙◌, append_assoc, length-append, arith}
use Rattle.std.specs.Prelude.{Option, Some, None, ◌==◌, ◌&&◌, ◌||◌, if◌then◌else◌, nat_lt}
use Rattle.std.specs.List.{flat_map, list_all}
use Rattle.std.proofs.lemmas.Bool.Decides.{nat_tests}
use Rattle.value_core.specs.declared.strings.Mode.{Mode}
use Rattle.value_core.specs.declared.strings.Mode.TheVariants.{Plain, Slash, Hex, Digit}
use Rattle.value_core.specs.declared.strings.Step.{Step}
use Rattle.value_core.specs.declared.strings.Step.TheVariants.{Ends, Adds, Turns, Wrong}
use Rattle.value_core.specs.Strings.{with_byte, later, go_on, step, is_hex, hex_value, is_control, body_at}
use Rattle.value_core.specs.Pieces.{Piece, plain, short, hex, spelled, short_value, meant, is_right, BeginsString}
use Rattle.value_core.proofs.Basics.{and_parts, nat_is, some_is}

plain_step : (b : ℕ) → is_right (plain b) ≡ true → step Plain b ≡ Adds b
plain_step b e = grind (arith, nat_tests)

slash_step : step Plain 92 ≡ Turns Slash
slash_step = refl

short_step : (b : ℕ) → is_right (short b) ≡ true → step Slash b ≡ Adds (short_value b)
short_step b e = grind (arith, nat_tests)

-- one piece more
piece_read : (p : Piece) (bs : List ℕ) (t : List ℕ) (n : ℕ) → is_right p ≡ true → body_at Plain bs ≡ Some (t, n) → body_at Plain (spelled p ++ bs) ≡ Some (meant p ∷ t, length (spelled p) + n)
piece_read (plain b) bs t n right e = let n1 : n + 1 ≡ 1 + n = omega arith in rw (plain_step b right, e) (λ i. Some (b ∷ t, n1 i))
piece_read (short b) bs t n right e = let n2 : n + 1 + 1 ≡ 2 + n = omega arith in rw (short_step b right, e) (λ i. Some (short_value b ∷ t, n2 i))
piece_read (hex h l) bs t n right e =
    let p = and_parts (is_hex h) _ right in
    let q = and_parts (is_hex l) _ p.1 in
    let r = and_parts (nat_lt (hex_value h) 8) _ q.1 in
    let n4 : n + 1 + 1 + 1 + 1 ≡ 4 + n = omega arith in
    rw (p.0, r.0, q.0, r.0, r.1, e) (λ i. Some ((16 * hex_value h + hex_value l) ∷ t, n4 i))

-- What is spelled so is read, whatever follows.
pub body_all : (ps : List Piece) (rest : List ℕ) → list_all is_right ps ≡ true → body_at Plain (flat_map spelled ps ++ 34 ∷ rest) ≡ Some (map meant ps, length (flat_map spelled ps) + 1)
body_all [] rest e = refl
body_all (p ∷ ps) rest e =
    let parts = and_parts (is_right p) (list_all is_right ps) e in
    let ih = piece_read p (flat_map spelled ps ++ 34 ∷ rest) (map meant ps) (length (flat_map spelled ps) + 1) parts.0 (body_all ps rest parts.1) in
    let len : length (spelled p) + (length (flat_map spelled ps) + 1) ≡ length (spelled p ++ flat_map spelled ps) + 1 = rw (length-append (spelled p) (flat_map spelled ps)) (omega arith) in
    ap (body_at Plain) (append_assoc (spelled p) (flat_map spelled ps) (34 ∷ rest)) ∙ ih ∙ (λ i. Some (meant p ∷ map meant ps, len i))

-- ---- what is read is spelled so

-- the digit of a value
digit_of : ℕ → ℕ
digit_of v = if nat_lt v 10 then 48 + v else 87 + v

digit_back : (b : ℕ) → is_hex b ≡ true → digit_of (hex_value b) ≡ b
unfolding digit_of
digit_back b e = grind (arith, nat_tests)

digit_right : (v : ℕ) → nat_lt v 16 ≡ true → (is_hex (digit_of v) ≡ true) × (hex_value (digit_of v) ≡ v)
unfolding digit_of
digit_right v e = (grind (arith, nat_tests), grind (arith, nat_tests))

-- what stands before, of the piece that has begun
pending : Mode → List ℕ
pending Plain = []
pending Slash = 92 ∷ []
pending Hex = 92 ∷ 120 ∷ []
pending (Digit v) = 92 ∷ 120 ∷ digit_of v ∷ []

-- what a step says of the bytes
Means : Mode → ℕ → Step → Type 0
Means m b Ends = pending m ++ b ∷ [] ≡ 34 ∷ []
Means m b (Adds c) = (p : Piece) × (is_right p ≡ true) × (pending m ++ b ∷ [] ≡ spelled p) × (meant p ≡ c)
Means m b (Turns k) = pending m ++ b ∷ [] ≡ pending k
Means m b Wrong = Unit {0}

if_means : (m : Mode) (k : ℕ) (b : Bool) (x y : Step) → (b ≡ true → Means m k x) → (b ≡ false → Means m k y) → Means m k (cond b x y)
if_means m k true x y f g = f refl
if_means m k false x y f g = g refl

pub plain_right : (b : ℕ) → (b == 34) ≡ false → (b == 92) ≡ false → (nat_lt b 32 || b == 127) ≡ false → is_right (plain b) ≡ true
plain_right b q s c = grind (arith, nat_tests, q, s, c)

quote_slash : (b : ℕ) → (b == 34 || b == 92) ≡ true → (is_right (short b) ≡ true) × (short_value b ≡ b)
quote_slash b e = (grind (arith, nat_tests), grind (arith, nat_tests))

small_16 : (v : ℕ) → nat_lt v 8 ≡ true → nat_lt v 16 ≡ true
small_16 v e = grind (arith, nat_tests)

hex_right : (v b : ℕ) → (is_hex b && (nat_lt v 8 && is_control (16 * v + hex_value b))) ≡ true → (is_right (hex (digit_of v) b) ≡ true) × (meant (hex (digit_of v) b) ≡ 16 * v + hex_value b)
hex_right v b e =
    let p = and_parts (is_hex b) _ e in
    let q = and_parts (nat_lt v 8) _ p.1 in
    let d = digit_right v (small_16 v q.0) in
    (rw (d.1, d.0, p.0, q.0, q.1) refl, rw d.1 refl)

step_means : (m : Mode) (b : ℕ) → Means m b (step m b)
unfolding Means pending
step_means Plain b =
    let high : Step = if nat_lt b 32 || b == 127 then Wrong else Adds b in
    if_means Plain b (b == 34) Ends (if b == 92 then Turns Slash else high) (λ e. (λ i. nat_is b 34 e i ∷ [])) (λ q. if_means Plain b (b == 92) (Turns Slash) high (λ e. (λ i. nat_is b 92 e i ∷ []))
    (λ s. if_means Plain b (nat_lt b 32 || b == 127) Wrong (Adds b) (λ e. tt) (λ c. (plain b, plain_right b q s c, refl, refl))))
step_means Slash b =
    let hex_else : Step = if b == 120 then Turns Hex else Wrong in
    let return : Step = if b == 114 then Adds 13 else hex_else in
    let tab : Step = if b == 116 then Adds 9 else return in
    let line : Step = if b == 110 then Adds 10 else tab in
    if_means Slash b (b == 34 || b == 92) (Adds b) line (λ e. let r = quote_slash b e in (short b, r.0, refl, r.1)) (λ e. if_means Slash b (b == 110) (Adds 10) tab (λ n. (short 110, refl, (λ i. 92 ∷ nat_is b 110 n i ∷ []), refl))
    (λ e. if_means Slash b (b == 116) (Adds 9) return (λ n. (short 116, refl, (λ i. 92 ∷ nat_is b 116 n i ∷ []), refl)) (λ e. if_means Slash b (b == 114) (Adds 13) hex_else (λ n. (short 114, refl, (λ i. 92 ∷ nat_is b 114 n i ∷ []), refl))
    (λ e. if_means Slash b (b == 120) (Turns Hex) Wrong (λ n. (λ i. 92 ∷ nat_is b 120 n i ∷ [])) (λ e. tt)))))
step_means Hex b = if_means Hex b (is_hex b && nat_lt (hex_value b) 8) (Turns (Digit (hex_value b))) Wrong (λ e. (λ i. 92 ∷ 120 ∷ sym (digit_back b (and_parts (is_hex b) _ e).0) i ∷ [])) (λ e. tt)
step_means (Digit v) b =
    if_means (Digit v) b (is_hex b && (nat_lt v 8 && is_control (16 * v + hex_value b))) (Adds (16 * v + hex_value b)) Wrong (λ e. let r = hex_right v b e in (hex (digit_of v) b, r.0, refl, r.1)) (λ e. tt)

abbrev Found : Mode → List ℕ → List ℕ → Type 0
Found m bs t = (ps : List Piece) × (rest : List ℕ) × (list_all is_right ps ≡ true) × (pending m ++ bs ≡ flat_map spelled ps ++ 34 ∷ rest) × (t ≡ map meant ps)

plain_bytes : (bs : List ℕ) {l : List ℕ} → pending Plain ++ bs ≡ l → bs ≡ l
unfolding pending
plain_bytes bs e = e

byte_of : (c : ℕ) (o : Option (List ℕ × ℕ)) (t : List ℕ) (n : ℕ) → with_byte c o ≡ Some (t, n) → (u : List ℕ) × (k : ℕ) × (o ≡ Some (u, k)) × (t ≡ c ∷ u)
byte_of c None t n e = absurd cc
byte_of c (Some x) t n e = (x.0, x.1, refl, sym (ap (λ (y : List ℕ × ℕ). y.0) (some_is (c ∷ x.0, x.1 + 1) (t, n) e)))

later_of : (o : Option (List ℕ × ℕ)) (t : List ℕ) (n : ℕ) → later o ≡ Some (t, n) → (k : ℕ) × (o ≡ Some (t, k))
later_of None t n e = absurd cc
later_of (Some x) t n e = (x.1, let p = ap (λ (y : List ℕ × ℕ). y.0) (some_is (x.0, x.1 + 1) (t, n) e) in ap (λ (u : List ℕ). Some (u, x.1)) p)

found_step : (m : Mode) (b : ℕ) (bs : List ℕ) (s : Step) → Means m b s → ((k : Mode) (t : List ℕ) (n : ℕ) → body_at k bs ≡ Some (t, n) → Found k bs t) → (t : List ℕ) (n : ℕ) → go_on s (λ k. body_at k bs) ≡ Some (t, n) → Found m (b ∷ bs) t
unfolding Means
found_step m b bs Ends means ih t n e = ([], bs, refl, sym (append_assoc (pending m) (b ∷ []) bs) ∙ ap (λ (l : List ℕ). l ++ bs) means, sym (ap (λ (y : List ℕ × ℕ). y.0) (some_is ([], 1) (t, n) e)))
found_step m b bs (Adds c) (p, right, is, value) ih t n e =
    let x = byte_of c (body_at Plain bs) t n e in
    let f = ih Plain x.0 x.1 x.2 in (
      p ∷ f.0,
      f.1,
      rw (right, f.2) refl,
      sym (append_assoc (pending m) (b ∷ []) bs) ∙ ap (λ (l : List ℕ). l ++ bs) is ∙ ap (λ (l : List ℕ). spelled p ++ l) (plain_bytes bs f.3) ∙ sym (append_assoc (spelled p) (flat_map spelled f.0) (34 ∷ f.1)),
      x.3 ∙ (λ i. sym value i ∷ f.4 i),
    )
found_step m b bs (Turns k) means ih t n e =
    let x = later_of (body_at k bs) t n e in
    let f = ih k t x.0 x.1 in
    (f.0, f.1, f.2, sym (append_assoc (pending m) (b ∷ []) bs) ∙ ap (λ (l : List ℕ). l ++ bs) means ∙ f.3, f.4)
found_step m b bs Wrong means ih t n e = absurd cc

-- What is read is spelled so.
body_found : (bs : List ℕ) (m : Mode) (t : List ℕ) (n : ℕ) → body_at m bs ≡ Some (t, n) → Found m bs t
body_found [] m t n e = absurd cc
body_found (b ∷ bs) m t n e = found_step m b bs (step m b) (step_means m b) (λ k u j h. body_found bs k u j h) t n e

pub string_found : (bs t : List ℕ) (n : ℕ) → body_at Plain bs ≡ Some (t, n) → BeginsString bs t
string_found bs t n e = let f = body_found bs Plain t n e in (f.0, f.1, f.2, plain_bytes bs f.3, f.4)
