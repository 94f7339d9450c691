-- The check of a term tells its kind, its list bodies and its number of terms, or that one of the first two is amiss.
use Rattle.std.proofs.Common.{◌≡◌, ℕ, ◌+◌, ◌<◌, ◌≤◌, List, [], ◌∷◌, map, sum, drop, Bool, true, false, cond, Option, Some, None, refl, ap, sym, subst, ◌∙◌, arith}
use Rattle.std.specs.Prelude.{◌&&◌, ◌||◌, nat_lt, nat_le, is_some}
use Rattle.std.specs.List.{list_all}
use Rattle.std.specs.Option.{option_and_then}
use Rattle.std.proofs.lemmas.Bool.{and_parts, and_from, lt-ltb, ltb-true, leb-true, leb-false}
use Rattle.std.proofs.lemmas.List.Sums.{sum_by-cons}
use Rattle.value_core.specs.FunctionKinds.{kind_given}
use Rattle.value_core.specs.declared.function.Fun.{Fun}
use Rattle.value_core.specs.declared.value.Kind.{Kind}
use Rattle.value_core.specs.declared.value.Kind.TheVariants as kind
use Rattle.term_core.specs.Limits.{parts_of, terms_in}
use Rattle.term_core.specs.Soundness.{NamedKind, Typing, Nesting, bind_kind, build_kind, fail_kind, innermost_kind, input_kind, is_op, item_kind, kind_parts, layer_kind, nesting_of, nesting_step, node_kind, output_kind, small, term_kind, unit_of_units, wanted_kind}
use Rattle.value_core.specs.Kinds.{literal_kind}
use Rattle.term_core.specs.declared.program.Program.{Program}
use Rattle.term_core.specs.declared.program.Term.{Term, Term-F, roll-Term, map-Term, fold-roll-Term, ind-Term}
use Rattle.term_check.specs.Functions.{fun_wanted}
use Rattle.term_check.specs.Typing.{Check, all_from, bind_check, build_check, check_step, closed, gate_check, kind_or_unit, leaf, list_check, map_check, node_name_fault, of_text, of_unit, outcome_check, output_check, pair_check, unless, verdict_of}
use Rattle.term_check.specs.Verdicts.{behind, expected, in_body, inside, named, nested, sized, then_typed, turned_kind, typed_or}
use Rattle.term_check.specs.declared.fault.CheckWhat.{CheckWhat}
use Rattle.term_check.specs.declared.fault.CheckWhat.TheVariants as what
use Rattle.term_check.specs.declared.verdict.Position.{Position}
use Rattle.term_check.specs.declared.verdict.Verdict.{Verdict}
use Rattle.term_check.specs.declared.verdict.Verdict.TheVariants.{Typed, Faulty}
use Rattle.term_check.specs.declared.wanted.Wanted.{Wanted}
use Rattle.term_check.specs.declared.wanted.Wanted.TheVariants as wanted

-- a verdict tells a kind, whether lists nest well, how many terms more stand in two list bodies than before, and the number of the next term
pub record IsTold (k : Kind) (d n : ℕ) (o : Option Kind) (fits : Bool) (more before next : ℕ) : Type 0 where
  pub kind_is : o ≡ Some k
  pub fits_is : fits ≡ true
  pub deep_is : d ≡ before + more
  pub few : before ≤ 64 → d ≤ 64
  pub next_is : n ≡ next

-- or else one of the first three is amiss
pub record IsAmiss (o : Option Kind) (fits : Bool) (more before : ℕ) : Type 0 where
  pub amiss : before ≤ 64 → is_some o ≡ true → fits ≡ true → before + more ≤ 64 → ⊥

abbrev pub Tells : Verdict → Option Kind → Bool → ℕ → ℕ → ℕ → Type 0
Tells (Typed k d n) o fits more before next = IsTold k d n o fits more before next
Tells (Faulty t w) o fits more before next = IsAmiss o fits more before

pub record Answer (v : Verdict) (o : Option Kind) (fits : Bool) (more before next : ℕ) : Type 0 where
  pub tells : Tells v o fits more before next

tells_at : (v : Verdict) (o : Option Kind) (f f' : Bool) (c c' b n n' : ℕ) → Tells v o f c b n → f ≡ f' → c ≡ c' → n ≡ n' → Tells v o f' c' b n'
tells_at (Typed k d m) o f f' c c' b n n' h ef ec en = record { kind_is = h.kind_is; fits_is = sym ef ∙ h.fits_is; deep_is = omega (arith, h.deep_is); few = h.few; next_is = h.next_is ∙ en }
tells_at (Faulty t w) o f f' c c' b n n' h ef ec en = record { amiss = λ before some fits few. h.amiss before some (ef ∙ fits) (omega arith) }

answer_at : {v : Verdict} {o : Option Kind} {f f' : Bool} {c c' b n n' : ℕ} → Answer v o f c b n → f ≡ f' → c ≡ c' → n ≡ n' → Answer v o f' c' b n'
answer_at {v} {o} {f} {f'} {c} {c'} {b} {n} {n'} h ef ec en = record { tells = tells_at v o f f' c c' b n n' h.tells ef ec en }

-- ---- a part, and then what follows

some_of : (o : Option Kind) (g : Kind → Option Kind) → is_some (option_and_then g o) ≡ true → is_some o ≡ true
some_of (Some k) g h = refl
some_of None g h = h

follow : (x : Verdict) (o : Option Kind) (g : Kind → Option Kind) (k : Kind) (d n : ℕ) (f f' : Bool) (c c' b next next' : ℕ) → IsTold k d n o f c b next →
    Tells x (g k) f' c' d next' → Tells x (option_and_then g o) (f && f') (c + c') b next'
follow (Typed k2 d2 n2) o g k d n f f' c c' b next next' h x =
    record {
      kind_is = ap (option_and_then g) h.kind_is ∙ x.kind_is;
      fits_is = and_from f f' h.fits_is x.fits_is;
      deep_is = omega (arith, h.deep_is, x.deep_is);
      few = λ before. x.few (h.few before);
      next_is = x.next_is;
    }
follow (Faulty t w) o g k d n f f' c c' b next next' h x =
    record { amiss = λ before some fits few. x.amiss (h.few before) (subst (λ (p : Option Kind). is_some (option_and_then g p) ≡ true) h.kind_is some) (and_parts f f' fits).1 (omega (arith, h.deep_is)) }

then_tells : (v : Verdict) (go : Kind → ℕ → ℕ → Verdict) (o : Option Kind) (g : Kind → Option Kind) (f f' : Bool) (c c' b next next' : ℕ) →
    Tells v o f c b next → ((k : Kind) (d : ℕ) → Answer (go k d next) (g k) f' c' d next') → Tells (then_typed v go) (option_and_then g o) (f && f') (c + c') b next'
then_tells (Typed k d n) go o g f f' c c' b next next' h later =
    follow (go k d n) o g k d n f f' c c' b next next' h (subst (λ (m : ℕ). Tells (go k d m) (g k) f' c' d next') (sym h.next_is) (later k d).tells)
then_tells (Faulty t w) go o g f f' c c' b next next' h later =
    record { amiss = λ before some fits few. h.amiss before (some_of o g some) (and_parts f f' fits).0 (omega arith) }

then_answers : {v : Verdict} {o : Option Kind} {f f' : Bool} {c c' b next next' : ℕ} (go : Kind → ℕ → ℕ → Verdict) (g : Kind → Option Kind) →
    Answer v o f c b next → ((k : Kind) (d : ℕ) → Answer (go k d next) (g k) f' c' d next') → Answer (then_typed v go) (option_and_then g o) (f && f') (c + c') b next'
then_answers {v} {o} {f} {f'} {c} {c'} {b} {next} {next'} go g h later = record { tells = then_tells v go o g f f' c c' b next next' h.tells later }

-- a kind that is there at once
typed_answer : (k : Kind) (d n : ℕ) → Answer (Typed k d n) (Some k) true 0 d n
typed_answer k d n = record { tells = record { kind_is = refl; fits_is = refl; deep_is = omega arith; few = λ h. h; next_is = refl } }

and_true : (b : Bool) → (b && true) ≡ b
and_true true = refl
and_true false = refl

turn_answers : {v : Verdict} {o : Option Kind} {f : Bool} {c b next : ℕ} (turn : Kind → Kind) → Answer v o f c b next → Answer (turned_kind turn v) (option_and_then (λ k. Some (turn k)) o) f c b next
turn_answers {v} {o} {f} {c} {b} {next} turn h =
    answer_at (then_answers (λ k d n. Typed (turn k) d n) (λ k. Some (turn k)) h (λ k d. typed_answer (turn k) d next)) (and_true f) (omega arith) refl

or_answers : (w : CheckWhat) (at d n : ℕ) (o : Option Kind) → Answer (typed_or (Faulty at w) d n o) o true 0 d n
or_answers w at d n (Some k) = typed_answer k d n
or_answers w at d n None = record { tells = record { amiss = λ before some fits few. cc } }

expect_answers : {v : Verdict} {o : Option Kind} {f : Bool} {c b next : ℕ} (turn : Kind → Option Kind) (wanted : Wanted) (at : ℕ) → Answer v o f c b next → Answer (expected turn wanted at v) (option_and_then turn o) f c b next
expect_answers {v} {o} {f} {c} {b} {next} turn wanted at h =
    answer_at (then_answers (λ k d n. typed_or (Faulty at (what.KindMismatch k wanted)) d n (turn k)) turn h (λ k d. or_answers (what.KindMismatch k wanted) at d next (turn k))) (and_true f) (omega arith) refl

-- ---- what comes before and behind the parts

sized_kind_tells : (big : Bool) (k : Kind) (at d n : ℕ) (o : Option Kind) (f : Bool) (c before next : ℕ) → IsTold k d n o f c before next → nat_lt 64 (kind_parts k) ≡ big →
    Tells (cond big (Faulty at (what.KindTooLarge (kind_parts k))) (Typed k d n)) (option_and_then small o) f c before next
sized_kind_tells true k at d n o f c before next h is =
    let none : option_and_then small o ≡ None = ap (option_and_then small) h.kind_is ∙ ap (λ (b : Bool). cond b None (Some k)) is in
    record { amiss = λ before some fits few. let no : false ≡ true = ap is_some (sym none) ∙ some in cc }
sized_kind_tells false k at d n o f c before next h is =
    record {
      kind_is = ap (option_and_then small) h.kind_is ∙ ap (λ (b : Bool). cond b None (Some k)) is;
      fits_is = h.fits_is;
      deep_is = h.deep_is;
      few = h.few;
      next_is = h.next_is;
    }

sized_tells : (v : Verdict) (at : ℕ) (o : Option Kind) (f : Bool) (c b next : ℕ) → Tells v o f c b next → Tells (sized at v) (option_and_then small o) f c b next
sized_tells (Typed k d n) at o f c b next h = sized_kind_tells (nat_lt 64 (kind_parts k)) k at d n o f c b next h refl
sized_tells (Faulty t w) at o f c b next h = record { amiss = λ before some fits few. h.amiss before (some_of o small some) fits few }

-- whether a list term may stand in so many list bodies, and its parts fit
abbrev lists_fit : Bool → ℕ → Bool → Bool
lists_fit true n f = nat_lt n 2 && f
lists_fit false n f = f

-- a term in two list bodies or more: a list term may not stand there, nor a 65th term
deep_tells : (il full : Bool) (bodies deep at : ℕ) (x : Verdict) (o : Option Kind) (f : Bool) (c next : ℕ) → nat_le 2 bodies ≡ true → nat_le 64 deep ≡ full →
    Tells x o f c (deep + 1) next → Tells (cond (il || full) (Faulty at what.ListNesting) x) o (lists_fit il bodies f) (1 + c) deep next
deep_tells true full bodies deep at x o f c next two is h =
    record { amiss = λ before some fits few. let no : bodies < 2 = ltb-true bodies 2 (and_parts (nat_lt bodies 2) f fits).0 in omega (arith, leb-true 2 bodies two) }
deep_tells false true bodies deep at x o f c next two is h =
    record { amiss = λ before some fits few. omega (arith, leb-true 64 deep is) }
deep_tells false false bodies deep at (Typed k d n) o f c next two is h =
    record { kind_is = h.kind_is; fits_is = h.fits_is; deep_is = omega (arith, h.deep_is); few = λ before. h.few (omega (arith, leb-false 64 deep is)); next_is = h.next_is }
deep_tells false false bodies deep at (Faulty t w) o f c next two is h =
    record { amiss = λ before some fits few. h.amiss (omega (arith, leb-false 64 deep is)) some fits (omega arith) }

flat_fit : (il : Bool) (bodies : ℕ) (f : Bool) → nat_le 2 bodies ≡ false → f ≡ lists_fit il bodies f
flat_fit true bodies f one = let less : nat_lt bodies 2 ≡ true = lt-ltb bodies 2 (leb-false 2 bodies one) in ap (λ (b : Bool). b && f) (sym less)
flat_fit false bodies f one = refl

nested_tells : (two : Bool) (il : Bool) (bodies deep at : ℕ) (x : Verdict) (o : Option Kind) (f : Bool) (c next : ℕ) → nat_le 2 bodies ≡ two →
    Tells x o f c (cond two (deep + 1) deep) next → Tells (cond (two && (il || nat_le 64 deep)) (Faulty at what.ListNesting) x) o (lists_fit il bodies f) ((cond two 1 0) + c) deep next
nested_tells true il bodies deep at x o f c next is h = deep_tells il (nat_le 64 deep) bodies deep at x o f c next is refl h
nested_tells false il bodies deep at x o f c next is h = tells_at x o f (lists_fit il bodies f) c (0 + c) deep next next h (flat_fit il bodies f is) (omega arith) refl

-- a term whose parts have been answered
framed : {v : Verdict} {o : Option Kind} {f : Bool} {c next : ℕ} (il : Bool) (s : Position) → Answer v o f c (inside s).deep next →
    Answer (nested il s (sized s.at v)) (option_and_then small o) (lists_fit il s.bodies f) ((cond (nat_le 2 s.bodies) 1 0) + c) s.deep next
framed {v} {o} {f} {c} {next} il s h =
    record { tells = nested_tells (nat_le 2 s.bodies) il s.bodies s.deep s.at (sized s.at v) (option_and_then small o) f c next refl (sized_tells v s.at o f c (inside s).deep next h.tells) }

-- a term that is a name
name_answers : (w : CheckWhat) (s : Position) (o : Option Kind) →
    Answer (named (unless (is_some o) w) s.at (nested false s (sized s.at (leaf (kind_or_unit o) (inside s))))) (option_and_then small o) true ((cond (nat_le 2 s.bodies) 1 0) + 0) s.deep (s.at + 1)
name_answers w s (Some k) = framed false s (typed_answer k (inside s).deep (s.at + 1))
name_answers w s None = record { tells = record { amiss = λ before some fits few. cc } }

-- a term whose operation may be unknown
op_answers : {v : Verdict} (o : Option Kind) {f : Bool} {c b next : ℕ} (known : Bool) (w : CheckWhat) (at : ℕ) → Answer v (option_and_then small o) f c b next →
    Answer (named (unless known w) at v) (option_and_then small (cond known o None)) f c b next
op_answers o true w at h = h
op_answers o false w at h = record { tells = record { amiss = λ before some fits few. cc } }

-- ---- the kinds of terms

abbrev AnswersUnder : Check → Typing → (ℕ → Nesting) → ℕ → Type 0
AnswersUnder v k n m = (bound : List NamedKind) (s : Position) → Answer (v bound s) (k bound) (n s.bodies).fits (n s.bodies).deep s.deep (s.at + m)

both_fit : (f g : Bool) → (f && g) ≡ (f && (g && true))
both_fit f g = ap (λ (b : Bool). f && b) (sym (and_true g))

map_answers : (f : Fun) (v : Check) (k : Typing) (n : ℕ → Nesting) (m : ℕ) → AnswersUnder v k n m → (bound : List NamedKind) (s : Position) →
    Answer (map_check f v bound s) (option_and_then (kind_given f) (k bound)) (n s.bodies).fits (n s.bodies).deep s.deep (s.at + m)
unfolding map_check
map_answers f v k n m h bound s = expect_answers (kind_given f) (fun_wanted f) s.at (h bound s)

outcome_answers : (v : Check) (k : Typing) (n : ℕ → Nesting) (m : ℕ) → AnswersUnder v k n m → (bound : List NamedKind) (s : Position) →
    Answer (outcome_check v bound s) (option_and_then (λ a. Some (kind.Out a)) (k bound)) (n s.bodies).fits (n s.bodies).deep s.deep (s.at + m)
unfolding outcome_check
outcome_answers v k n m h bound s = turn_answers kind.Out (h bound s)

build_answers : (v : Check) (k : Typing) (n : ℕ → Nesting) (m : ℕ) → AnswersUnder v k n m → (bound : List NamedKind) (s : Position) →
    Answer (build_check v bound s) (build_kind (k bound)) (n s.bodies).fits (n s.bodies).deep s.deep (s.at + m)
unfolding build_check
build_answers v k n m h bound s = turn_answers (λ a. kind.Text) (expect_answers (wanted_kind kind.Text) wanted.Text s.at (h bound s))

pair_answers : (v v' : Check) (k k' : Typing) (n n' : ℕ → Nesting) (m m' : ℕ) → AnswersUnder v k n m → AnswersUnder v' k' n' m' → (bound : List NamedKind) (s : Position) →
    Answer (pair_check v v' bound s) (option_and_then (λ a. option_and_then (λ b. Some (kind.Pair a b)) (k' bound)) (k bound)) ((n s.bodies).fits && (n' s.bodies).fits) ((n s.bodies).deep + (n' s.bodies).deep) s.deep ((s.at + m) + m')
unfolding pair_check
pair_answers v v' k k' n n' m m' h h' bound s =
    then_answers (λ a d at. turned_kind (kind.Pair a) (v' bound (behind s d at))) (λ a. option_and_then (λ b. Some (kind.Pair a b)) (k' bound)) (h bound s)
    (λ a d. turn_answers (kind.Pair a) (h' bound (behind s d (s.at + m))))

gate_answers : (v v' : Check) (k k' : Typing) (n n' : ℕ → Nesting) (m m' : ℕ) → AnswersUnder v k n m → AnswersUnder v' k' n' m' → (bound : List NamedKind) (s : Position) →
    Answer (gate_check v v' bound s) (option_and_then (λ a. k' bound) (option_and_then (wanted_kind kind.Unit) (k bound))) ((n s.bodies).fits && (n' s.bodies).fits) ((n s.bodies).deep + (n' s.bodies).deep) s.deep ((s.at + m) + m')
unfolding gate_check
gate_answers v v' k k' n n' m m' h h' bound s =
    then_answers (λ a d at. v' bound (behind s d at)) (λ a. k' bound) (expect_answers (wanted_kind kind.Unit) wanted.Unit s.at (h bound s)) (λ a d. h' bound (behind s d (s.at + m)))

output_answers : (v v' : Check) (k k' : Typing) (n n' : ℕ → Nesting) (m m' : ℕ) → AnswersUnder v k n m → AnswersUnder v' k' n' m' → (bound : List NamedKind) (s : Position) →
    Answer (output_check v v' bound s) (output_kind (k bound) (k' bound)) ((n s.bodies).fits && (n' s.bodies).fits) ((n s.bodies).deep + (n' s.bodies).deep) s.deep ((s.at + m) + m')
unfolding output_check
output_answers v v' k k' n n' m m' h h' bound s =
    then_answers (λ a d at. turned_kind (λ b. kind.Unit) (of_text at (v' bound (behind s d at)))) (λ a. option_and_then (λ b. Some kind.Unit) (option_and_then (wanted_kind kind.Text) (k' bound)))
    (expect_answers (wanted_kind kind.Text) wanted.Text s.at (h bound s))
    (λ a d. turn_answers (λ b. kind.Unit) (expect_answers (wanted_kind kind.Text) wanted.Text (s.at + m) (h' bound (behind s d (s.at + m)))))

bind_answers : (name : List ℕ) (v v' : Check) (k k' : Typing) (n n' : ℕ → Nesting) (m m' : ℕ) → AnswersUnder v k n m → AnswersUnder v' k' n' m' → (bound : List NamedKind) (s : Position) →
    Answer (bind_check name v v' bound s) (option_and_then (λ a. k' (bind_kind bound name a)) (k bound)) ((n s.bodies).fits && (n' s.bodies).fits) ((n s.bodies).deep + (n' s.bodies).deep) s.deep ((s.at + m) + m')
unfolding bind_check
bind_answers name v v' k k' n n' m m' h h' bound s =
    then_answers (λ a d at. v' (bind_kind bound name a) (behind s d at)) (λ a. k' (bind_kind bound name a)) (h bound s) (λ a d. h' (bind_kind bound name a) (behind s d (s.at + m)))

-- the kind of a list term's body, and what is made of it
abbrev closed_kind : Bool → Option Kind → Option Kind
closed_kind true o = option_and_then (λ b. Some (kind.List b)) o
closed_kind false o = option_and_then (wanted_kind kind.Unit) o

closed_answers : {v : Verdict} {o : Option Kind} {f : Bool} {c b next : ℕ} (is_map : Bool) (at : ℕ) → Answer v o f c b next → Answer (closed is_map at v) (closed_kind is_map o) f c b next
closed_answers true at h = turn_answers kind.List h
closed_answers false at h = expect_answers (wanted_kind kind.Unit) wanted.Unit at h

list_answers : (is_map : Bool) (name : List ℕ) (v v' : Check) (k k' : Typing) (n n' : ℕ → Nesting) (m m' : ℕ) → AnswersUnder v k n m → AnswersUnder v' k' n' m' → (bound : List NamedKind) (s : Position) →
    Answer (list_check is_map name v v' bound s) (option_and_then (λ a. closed_kind is_map (k' (bind_kind bound name a))) (option_and_then item_kind (k bound))) ((n s.bodies).fits && (n' (s.bodies + 1)).fits) ((n s.bodies).deep + (n' (s.bodies + 1)).deep) s.deep ((s.at + m) + m')
unfolding list_check
list_answers is_map name v v' k k' n n' m m' h h' bound s =
    then_answers (λ a d at. closed is_map at (v' (bind_kind bound name a) (in_body s d at))) (λ a. closed_kind is_map (k' (bind_kind bound name a)))
    (expect_answers item_kind (wanted.List wanted.Any) s.at (h bound s))
    (λ a d. closed_answers is_map (s.at + m) (h' (bind_kind bound name a) (in_body s d (s.at + m))))

-- ---- the induction

module _ (p : Program) (earlier : List Kind) where
  abbrev IsAnswered : Term → Type 0
  IsAnswered t = AnswersUnder (verdict_of p earlier t) (term_kind p earlier t) (nesting_of t) (terms_in t)

  abbrev step_answers : Term-F Term → Type 0
  step_answers x = (bound : List NamedKind) (s : Position) →
      Answer (check_step p earlier (map-Term Term Check (verdict_of p earlier) x) bound s) (option_and_then small (layer_kind p earlier (map-Term Term Typing (term_kind p earlier) x) bound))
      (nesting_step (map-Term Term (ℕ → Nesting) nesting_of x) s.bodies).fits (nesting_step (map-Term Term (ℕ → Nesting) nesting_of x) s.bodies).deep s.deep (s.at + (1 + sum (parts_of (map-Term Term ℕ terms_in x))))

  all_answers : {E : Type 0} (of : E → Term) → ((e : E) → IsAnswered (of e)) → (ts : List E) (bound : List NamedKind) (s : Position) →
      Answer (all_from (map (λ v. v bound) (map (verdict_of p earlier) (map of ts))) s) (unit_of_units (map (λ k. k bound) (map (term_kind p earlier) (map of ts))))
      (list_all (λ n. (n s.bodies).fits) (map nesting_of (map of ts))) (sum (map (λ n. (n s.bodies).deep) (map nesting_of (map of ts)))) s.deep (s.at + sum (map terms_in (map of ts)))
  all_answers of has [] bound s = answer_at (typed_answer kind.Unit s.deep s.at) refl refl (omega arith)
  all_answers of has (t ∷ ts) bound s =
      let first = expect_answers (wanted_kind kind.Unit) wanted.Unit s.at (has t bound s) in
      let deep = sum_by-cons (λ (x : ℕ). x) (nesting_of (of t) s.bodies).deep (map (λ n. (n s.bodies).deep) (map nesting_of (map of ts))) in
      let count = sum_by-cons (λ (x : ℕ). x) (terms_in (of t)) (map terms_in (map of ts)) in
      answer_at
      (then_answers {f' = list_all (λ n. (n s.bodies).fits) (map nesting_of (map of ts))} {c' = sum (map (λ n. (n s.bodies).deep) (map nesting_of (map of ts)))} (λ k d at. all_from (map (λ v. v bound) (map (verdict_of p earlier) (map of ts))) (behind s d at)) (λ k. unit_of_units (map (λ k. k bound) (map (term_kind p earlier) (map of ts)))) first
      (λ k d. all_answers of has ts bound (behind s d (s.at + terms_in (of t)))))
      refl (omega (arith, deep)) (omega (arith, count))

  layer_answers : {E : Type 0} (of : E → Term) → ((e : E) → IsAnswered (of e)) → (y : Term-F E) → step_answers (map-Term E Term of y)
  unfolding term_kind
  layer_answers of has (Term-F.Return v) bound s = framed false s (typed_answer (literal_kind v) (inside s).deep (s.at + 1))
  layer_answers of has (Term-F.Fail k m) bound s = framed false s (typed_answer (fail_kind k) (inside s).deep (s.at + 1))
  layer_answers of has (Term-F.Input n) bound s = name_answers (what.UnknownName n) s (input_kind p n)
  layer_answers of has (Term-F.Node n) bound s = name_answers (node_name_fault p n) s (node_kind p earlier n)
  layer_answers of has (Term-F.Var n) bound s = name_answers (what.UnknownName n) s (innermost_kind None bound n)
  layer_answers of has (Term-F.Map f t) bound s =
      answer_at (framed false s (map_answers f _ _ _ _ (has t) bound (inside s))) (sym (and_true _)) (omega arith) (omega arith)
  layer_answers of has (Term-F.Pair a b) bound s =
      answer_at (framed false s (pair_answers _ _ _ _ _ _ _ _ (has a) (has b) bound (inside s))) (both_fit _ _) (omega arith) (omega arith)
  layer_answers of has (Term-F.Bind n t u) bound s =
      answer_at (framed false s (bind_answers n _ _ _ _ _ _ _ _ (has t) (has u) bound (inside s))) (both_fit _ _) (omega arith) (omega arith)
  layer_answers of has (Term-F.ListMap n t u) bound s =
      answer_at (framed true s (list_answers true n _ _ _ _ _ _ _ _ (has t) (has u) bound (inside s))) refl (omega arith) (omega arith)
  layer_answers of has (Term-F.ListIter n t u) bound s =
      answer_at (framed true s (list_answers false n _ _ _ _ _ _ _ _ (has t) (has u) bound (inside s))) refl (omega arith) (omega arith)
  layer_answers of has (Term-F.Catch t) bound s =
      answer_at (framed false s (outcome_answers _ _ _ _ (has t) bound (inside s))) (sym (and_true _)) (omega arith) (omega arith)
  layer_answers of has (Term-F.State t) bound s =
      answer_at (framed false s (outcome_answers _ _ _ _ (has t) bound (inside s))) (sym (and_true _)) (omega arith) (omega arith)
  layer_answers of has (Term-F.Gate a b) bound s =
      answer_at (framed false s (gate_answers _ _ _ _ _ _ _ _ (has a) (has b) bound (inside s))) (both_fit _ _) (omega arith) (omega arith)
  layer_answers of has (Term-F.All ts) bound s = answer_at (framed false s (all_answers of has ts bound (inside s))) refl refl (omega arith)
  layer_answers of has (Term-F.Build op k) bound s =
      answer_at (op_answers _ (is_op p op false) (what.UnknownName op) s.at (framed false s (build_answers _ _ _ _ (has k) bound (inside s)))) (sym (and_true _)) (omega arith) (omega arith)
  layer_answers of has (Term-F.Output op a b) bound s =
      answer_at (op_answers _ (is_op p op true) (what.UnknownName op) s.at (framed false s (output_answers _ _ _ _ _ _ _ _ (has a) (has b) bound (inside s)))) (both_fit _ _) (omega arith) (omega arith)

  answer_by : {v v' : Verdict} {o o' : Option Kind} {n n' : Nesting} {m m' b : ℕ} (at : ℕ) → v' ≡ v → o' ≡ o → n' ≡ n → m' ≡ m → Answer v o n.fits n.deep b (at + m) → Answer v' o' n'.fits n'.deep b (at + m')
  answer_by at ev eo en em h = rw (ev, eo, en, em) h

  rolled_answers : (x : Term-F Term) → step_answers x → IsAnswered (roll-Term x)
  unfolding term_kind
  rolled_answers x h bound s =
      answer_by s.at (ap (λ (f : Check). f bound s) (fold-roll-Term Check (check_step p earlier) x))
      (ap (λ (f : Typing). f bound) (fold-roll-Term Typing (λ y bound. option_and_then small (layer_kind p earlier y bound)) x))
      (ap (λ (f : ℕ → Nesting). f s.bodies) (fold-roll-Term (ℕ → Nesting) nesting_step x))
      (fold-roll-Term ℕ (λ (y : Term-F ℕ). 1 + sum (parts_of y)) x)
      (h bound s)

  pub answered : (t : Term) → IsAnswered t
  answered = ind-Term IsAnswered (λ x y is. subst (λ z. IsAnswered (roll-Term z)) is (rolled_answers _ (layer_answers (λ e. e.0) (λ e. e.1) y)))

-- the number of the term behind one that has a kind
pub next_at : (p : Program) (earlier : List Kind) (t : Term) (bound : List NamedKind) (s : Position) {v : Verdict} {k : Kind} {d n : ℕ} → v ≡ verdict_of p earlier t bound s → v ≡ Typed k d n → n ≡ s.at + terms_in t
next_at p earlier t bound s {v} {k} {d} {n} is e =
    let told : Tells (Typed k d n) (term_kind p earlier t bound) (nesting_of t s.bodies).fits (nesting_of t s.bodies).deep s.deep (s.at + terms_in t) =
    subst (λ (x : Verdict). Tells x (term_kind p earlier t bound) (nesting_of t s.bodies).fits (nesting_of t s.bodies).deep s.deep (s.at + terms_in t)) (sym is ∙ e) (answered p earlier t bound s).tells in
    told.next_is

typed_before : (turn : Kind → Option Kind) (wanted : Wanted) (at : ℕ) (v : Verdict) (k : Kind) (d n : ℕ) → expected turn wanted at v ≡ Typed k d n → (j : Kind) × (v ≡ Typed j d n)
typed_before turn wanted at (Typed j e m) k d n is =
    elim (turn j) as (λ o. typed_or (Faulty at (what.KindMismatch j wanted)) e m o ≡ Typed k d n → (i : Kind) × (Typed j e m ≡ Typed i d n))
    [ None ↦ λ is. absurd cc | Some i ↦ λ is. (j, cc) ] is
typed_before turn wanted at (Faulty t w) k d n is = absurd cc

-- the same behind one that is wanted to be of a kind
pub next_expected : (p : Program) (earlier : List Kind) (t : Term) (bound : List NamedKind) (s : Position) (turn : Kind → Option Kind) (wanted : Wanted) (at : ℕ) {v x : Verdict} {k : Kind} {d n : ℕ} →
    v ≡ verdict_of p earlier t bound s → x ≡ expected turn wanted at v → x ≡ Typed k d n → n ≡ s.at + terms_in t
next_expected p earlier t bound s turn wanted at {v} {x} {k} {d} {n} is turned e = next_at p earlier t bound s is (typed_before turn wanted at v k d n (sym turned ∙ e)).1

-- one part of an `all` more
pub all_step : (p : Program) (earlier : List Kind) (bound inner : List NamedKind) (ts : List Term) (i : ℕ) (t : Term) (s s' : Position) {v x : Verdict} {k : Kind} {d n : ℕ} →
    drop i ts ≡ t ∷ drop (i + 1) ts → inner ≡ bound → v ≡ verdict_of p earlier t inner s → x ≡ of_unit s.at v → x ≡ Typed k d n → s' ≡ behind s d n →
    all_from (map (λ t. verdict_of p earlier t bound) (drop (i + 1) ts)) s' ≡ all_from (map (λ t. verdict_of p earlier t bound) (drop i ts)) s
all_step p earlier bound inner ts i t s s' {v} {x} {k} {d} {n} cons same is turned typed next =
    let rest : List (Position → Verdict) = map (λ t. verdict_of p earlier t bound) (drop (i + 1) ts) in
    let own : of_unit s.at (verdict_of p earlier t bound s) ≡ Typed k d n = ap (λ (b : List NamedKind). of_unit s.at (verdict_of p earlier t b s)) (sym same) ∙ ap (of_unit s.at) (sym is) ∙ sym turned ∙ typed in
    ap (λ (z : Position). all_from rest z) next
    ∙ sym (ap (λ (z : Verdict). then_typed z (λ k d n. all_from rest (behind s d n))) own)
    ∙ sym (ap (λ xs. all_from (map (λ t. verdict_of p earlier t bound) xs) s) cons)
