-- A roles file, line by line: the policy is that of its lines, and a fault is the first.
use Rattle.std.proofs.Common.{◌≡◌, ℕ, ◌+◌, ◌<◌, ◌≤◌, inl, inr, Bool, true, false, List, [], ◌∷◌, ◌++◌, length, refl, arith, append_assoc, append-nil, length-append, sym, ◌∙◌, ap, subst}
use Rattle.std.specs.Prelude.{IfErr, IfOk, not, nat_lt, if◌then◌else◌, Option, Some, None, Result, Ok, Err}
use Rattle.std.specs.List.{AllByRecursion, IsDistinct}
use Rattle.std.specs.Str.{bytes_eq}
use Rattle.std.proofs.lemmas.Bool.Decides.{nat_tests}
use Rattle.std.proofs.lemmas.Grind.{flat_map-append}
use Rattle.role_rules.specs.declared.line.Line.{Line}
use Rattle.role_rules.specs.declared.line.Line.TheVariants.{Nothing, Grants, Anyone}
use Rattle.role_rules.specs.declared.policy.Grant.{Grant}
use Rattle.role_rules.specs.declared.policy.Policy.{Policy}
use Rattle.role_rules.specs.declared.reading.RolesFault.{RolesFault}
use Rattle.role_rules.specs.declared.reading.RolesFault.TheVariants.{TooLarge, BadLine, TooMany, Duplicate, NoMemory}
use Rattle.role_rules.specs.declared.role.Role.{Role}
use Rattle.role_rules.specs.Files.{IsFaultOf, IsFirstWrong, IsOfNoForm, IsOneTooMany, IsPolicyOf, IsThereBefore, Say, Sound, StandsFor, first, grant_of, grants_of, policy_of, role_for_anyone, roles_for_anyone, same_word}
use Rattle.role_rules.specs.Lines.{Says, line_read}
use Rattle.role_rules.specs.Pieces.{pieces}
use Rattle.role_rules.specs.Reading.{IsFaultReadAs, IsReadAs, and_then, anyone_taken, has_word, lines_taken, nobody, roles_read, taken, with_grant}
use Rattle.role_rules.proofs.Roles.{line_says, says_read}
use Rattle.value_core.proofs.Basics.{or_parts}

-- a fault of a line is that of the lines from it on
pub fault_ends : (e : RolesFault) (n : ℕ) (p : Policy) (l : List ℕ) (ls : List (List ℕ)) → IsFaultReadAs e (taken n p (line_read l)) → IsFaultReadAs e (lines_taken n p (l ∷ ls))
fault_ends TooLarge n p l ls h = rw h refl
fault_ends (BadLine k) n p l ls h = rw h refl
fault_ends (TooMany k) n p l ls h = rw h refl
fault_ends (Duplicate k) n p l ls h = rw h refl
fault_ends NoMemory n p l ls h = tt

-- ---- one line more

say_more : (ls : List (List ℕ)) (ss : List Line) (l : List ℕ) (s : Line) → Say ls ss → Says l s → Say (ls ++ l ∷ []) (ss ++ s ∷ [])
say_more [] [] l s h k = (k, tt)
say_more [] (t ∷ ss) l s h k = absurd h
say_more (m ∷ ls) [] l s h k = absurd h
say_more (m ∷ ls) (t ∷ ss) l s h k = (h.0, say_more ls ss l s h.1 k)

all_more : {X : Type 0} (P : X → Type 0) (xs : List X) (y : X) → AllByRecursion P xs → P y → AllByRecursion P (xs ++ y ∷ [])
all_more P [] y h k = (k, tt)
all_more P (x ∷ xs) y h k = (h.0, all_more P xs y h.1 k)

distinct_more : (gs : List Grant) (g : Grant) → IsDistinct same_word gs → has_word g.word gs ≡ false → IsDistinct same_word (gs ++ g ∷ [])
unfolding IsDistinct
distinct_more [] g h e = (tt, tt)
distinct_more (f ∷ gs) g h e =
    let p = or_parts (bytes_eq f.word g.word) (has_word g.word gs) e in
    (all_more (λ k. same_word f k ≡ false) gs g h.0 p.0, distinct_more gs g h.1 p.1)

none_distinct : IsDistinct same_word []
unfolding IsDistinct
none_distinct = tt

grants_more : (ss : List Line) (s : Line) → grants_of (ss ++ s ∷ []) ≡ grants_of ss ++ grant_of s
grants_more ss s = flat_map-append grant_of ss (s ∷ []) ∙ ap (λ gs. grants_of ss ++ gs) (append-nil (grant_of s))

roles_more : (ss : List Line) (s : Line) → roles_for_anyone (ss ++ s ∷ []) ≡ roles_for_anyone ss ++ role_for_anyone s
roles_more ss s = flat_map-append role_for_anyone ss (s ∷ []) ∙ ap (λ rs. roles_for_anyone ss ++ rs) (append-nil (role_for_anyone s))

sound_by : (ss : List Line) (gs : List Grant) (rs : List Role) → grants_of ss ≡ gs → roles_for_anyone ss ≡ rs → length gs ≤ 256 → IsDistinct same_word gs → length rs ≤ 1 → Sound ss
sound_by ss gs rs eg er few apart one = record { few = rw eg few; apart = rw eg apart; one = rw er one }

policy_by : (ss : List Line) (gs : List Grant) (rs : List Role) → grants_of ss ≡ gs → roles_for_anyone ss ≡ rs → policy_of ss ≡ record { grants = gs; anyone = first rs }
policy_by ss gs rs eg er = λ i. record { grants = eg i; anyone = first (er i) }

-- ---- what comes of the lines

abbrev Wrong : List (List ℕ) → RolesFault → Type 0
Wrong ls TooLarge = ⊥
Wrong ls (BadLine n) = IsFirstWrong ls n IsOfNoForm
Wrong ls (TooMany n) = IsFirstWrong ls n IsOneTooMany
Wrong ls (Duplicate n) = IsFirstWrong ls n IsThereBefore
Wrong ls NoMemory = ⊥

abbrev Means : List (List ℕ) → Result Policy RolesFault → Type 0
Means ls (Ok p) = StandsFor ls p
Means ls (Err f) = Wrong ls f

abbrev Next : ℕ → List (List ℕ) → List ℕ → List (List ℕ) → Type 0
Next n before l ls = (q : Policy) (ss : List Line) → Say (before ++ l ∷ []) ss → Sound ss → q ≡ policy_of ss → Means ((before ++ l ∷ []) ++ ls) (lines_taken (n + 1) q ls)

grant_step : (n : ℕ) (ls before : List (List ℕ)) (l : List ℕ) (ss : List Line) (g : Grant) (few there : Bool) → Say before ss → Sound ss → n ≡ length before + 1 → Says l (Grants g) → Next n before l ls
    → nat_lt (length (grants_of ss)) 256 ≡ few → has_word g.word (grants_of ss) ≡ there
    → Means (before ++ l ∷ ls) (and_then (if not few then Err (TooMany n) else (if there then Err (Duplicate n) else Ok (with_grant (policy_of ss) g))) (λ q. lines_taken (n + 1) q ls))
grant_step n ls before l ss g false there say sound at says next few has =
    let many : length (grants_of ss) ≡ 256 = grind (arith, nat_tests, sound.few) in
    (before, l, ls, ss, refl, at, say, sound, (g, says, many))
grant_step n ls before l ss g true true say sound at says next few has =
    let less : length (grants_of ss) < 256 = grind (arith, nat_tests) in
    (before, l, ls, ss, refl, at, say, sound, inl (g, says, less, has))
grant_step n ls before l ss g true false say sound at says next few has =
    let less : length (grants_of ss) < 256 = grind (arith, nat_tests) in
    let eg = grants_more ss (Grants g) in
    let er : roles_for_anyone (ss ++ Grants g ∷ []) ≡ roles_for_anyone ss = roles_more ss (Grants g) ∙ append-nil (roles_for_anyone ss) in
    let still : Sound (ss ++ Grants g ∷ []) = sound_by (ss ++ Grants g ∷ []) (grants_of ss ++ g ∷ []) (roles_for_anyone ss) eg er (omega (arith, length-append (grants_of ss) (g ∷ []))) (distinct_more (grants_of ss) g sound.apart has) sound.one in
    subst (λ ms. Means ms (lines_taken (n + 1) (with_grant (policy_of ss) g) ls)) (append_assoc before (l ∷ []) ls)
    (next (with_grant (policy_of ss) g) (ss ++ Grants g ∷ []) (say_more before ss l (Grants g) say says) still (sym (policy_by (ss ++ Grants g ∷ []) (grants_of ss ++ g ∷ []) (roles_for_anyone ss) eg er)))

anyone_step : (n : ℕ) (ls before : List (List ℕ)) (l : List ℕ) (ss : List Line) (r : Role) (rs : List Role) → Say before ss → Sound ss → n ≡ length before + 1 → Says l (Anyone r) → Next n before l ls
    → roles_for_anyone ss ≡ rs → Means (before ++ l ∷ ls) (and_then (anyone_taken n (grants_of ss) (first rs) r) (λ q. lines_taken (n + 1) q ls))
anyone_step n ls before l ss r (q ∷ rs) say sound at says next is =
    let some : 0 < length (roles_for_anyone ss) = rw is (omega arith) in
    (before, l, ls, ss, refl, at, say, sound, inr (r, says, some))
anyone_step n ls before l ss r [] say sound at says next is =
    let eg : grants_of (ss ++ Anyone r ∷ []) ≡ grants_of ss = grants_more ss (Anyone r) ∙ append-nil (grants_of ss) in
    let er : roles_for_anyone (ss ++ Anyone r ∷ []) ≡ r ∷ [] = roles_more ss (Anyone r) ∙ ap (λ qs. qs ++ r ∷ []) is in
    let still : Sound (ss ++ Anyone r ∷ []) = sound_by (ss ++ Anyone r ∷ []) (grants_of ss) (r ∷ []) eg er sound.few sound.apart (omega arith) in
    let q : Policy = record { grants = grants_of ss; anyone = Some r } in
    subst (λ ms. Means ms (lines_taken (n + 1) q ls)) (append_assoc before (l ∷ []) ls)
    (next q (ss ++ Anyone r ∷ []) (say_more before ss l (Anyone r) say says) still (sym (policy_by (ss ++ Anyone r ∷ []) (grants_of ss) (r ∷ []) eg er)))

nothing_step : (n : ℕ) (ls before : List (List ℕ)) (l : List ℕ) (ss : List Line) → Say before ss → Sound ss → Says l Nothing → Next n before l ls
    → Means (before ++ l ∷ ls) (lines_taken (n + 1) (policy_of ss) ls)
nothing_step n ls before l ss say sound says next =
    let eg : grants_of (ss ++ Nothing ∷ []) ≡ grants_of ss = grants_more ss Nothing ∙ append-nil (grants_of ss) in
    let er : roles_for_anyone (ss ++ Nothing ∷ []) ≡ roles_for_anyone ss = roles_more ss Nothing ∙ append-nil (roles_for_anyone ss) in
    let still : Sound (ss ++ Nothing ∷ []) = sound_by (ss ++ Nothing ∷ []) (grants_of ss) (roles_for_anyone ss) eg er sound.few sound.apart sound.one in
    subst (λ ms. Means ms (lines_taken (n + 1) (policy_of ss) ls)) (append_assoc before (l ∷ []) ls)
    (next (policy_of ss) (ss ++ Nothing ∷ []) (say_more before ss l Nothing say says) still (sym (policy_by (ss ++ Nothing ∷ []) (grants_of ss) (roles_for_anyone ss) eg er)))

line_step : (n : ℕ) (ls before : List (List ℕ)) (l : List ℕ) (ss : List Line) (o : Option Line) → Say before ss → Sound ss → n ≡ length before + 1 → line_read l ≡ o → Next n before l ls
    → Means (before ++ l ∷ ls) (and_then (taken n (policy_of ss) o) (λ q. lines_taken (n + 1) q ls))
line_step n ls before l ss None say sound at e next =
    let bad : IsOfNoForm ss l = λ s h. (let some : line_read l ≡ Some s = says_read l s h in absurd cc) in
    (before, l, ls, ss, refl, at, say, sound, bad)
line_step n ls before l ss (Some Nothing) say sound at e next = nothing_step n ls before l ss say sound (line_says l Nothing e) next
line_step n ls before l ss (Some (Grants g)) say sound at e next =
    grant_step n ls before l ss g (nat_lt (length (grants_of ss)) 256) (has_word g.word (grants_of ss)) say sound at (line_says l (Grants g) e) next refl refl
line_step n ls before l ss (Some (Anyone r)) say sound at e next =
    anyone_step n ls before l ss r (roles_for_anyone ss) say sound at (line_says l (Anyone r) e) next refl

all_lines : (ls before : List (List ℕ)) (ss : List Line) (n : ℕ) (p : Policy) → Say before ss → Sound ss → n ≡ length before + 1 → p ≡ policy_of ss → Means (before ++ ls) (lines_taken n p ls)
all_lines [] before ss n p say sound at is = rw (append-nil before) (ss, say, sound, is)
all_lines (l ∷ ls) before ss n p say sound at is =
    subst (λ q. Means (before ++ l ∷ ls) (lines_taken n q (l ∷ ls))) (sym is)
    (line_step n ls before l ss (line_read l) say sound at refl
    (λ q ts say' sound' is'. all_lines ls (before ++ l ∷ []) ts (n + 1) q say' sound' (omega (arith, length-append before (l ∷ []))) is'))

lines_mean : (ls : List (List ℕ)) → Means ls (lines_taken 1 nobody ls)
lines_mean ls = all_lines ls [] [] 1 nobody tt (record { few = omega arith; apart = none_distinct; one = omega arith }) refl refl

abbrev FileMeans : List ℕ → Result Policy RolesFault → Type 0
FileMeans bytes (Ok p) = IsPolicyOf bytes p
FileMeans bytes (Err f) = IsFaultOf bytes f

within : (bytes : List ℕ) (r : Result Policy RolesFault) → length bytes ≤ 65536 → Means (pieces 10 bytes) r → FileMeans bytes r
within bytes (Ok p) few h = (few, h)
within bytes (Err TooLarge) few h = absurd h
within bytes (Err (BadLine n)) few h = (few, h)
within bytes (Err (TooMany n)) few h = (few, h)
within bytes (Err (Duplicate n)) few h = (few, h)
within bytes (Err NoMemory) few h = tt

file_means : (bytes : List ℕ) (t : Bool) → nat_lt 65536 (length bytes) ≡ t → FileMeans bytes (if t then Err TooLarge else lines_taken 1 nobody (pieces 10 bytes))
file_means bytes true e = grind (arith, nat_tests)
file_means bytes false e = within bytes (lines_taken 1 nobody (pieces 10 bytes)) (grind (arith, nat_tests)) (lines_mean (pieces 10 bytes))

-- what is read of a file is its policy
pub policy_read : (bytes : List ℕ) (p : Policy) → roles_read bytes ≡ Ok p → IsPolicyOf bytes p
policy_read bytes p e = subst (FileMeans bytes) e (file_means bytes (nat_lt 65536 (length bytes)) refl)

-- what is answered is its fault
pub fault_read : (bytes : List ℕ) (f : RolesFault) → IsFaultReadAs f (roles_read bytes) → IsFaultOf bytes f
fault_read bytes NoMemory e = tt
fault_read bytes TooLarge e = subst (FileMeans bytes) e (file_means bytes (nat_lt 65536 (length bytes)) refl)
fault_read bytes (BadLine n) e = subst (FileMeans bytes) e (file_means bytes (nat_lt 65536 (length bytes)) refl)
fault_read bytes (TooMany n) e = subst (FileMeans bytes) e (file_means bytes (nat_lt 65536 (length bytes)) refl)
fault_read bytes (Duplicate n) e = subst (FileMeans bytes) e (file_means bytes (nat_lt 65536 (length bytes)) refl)

pub policy_given : (bytes : List ℕ) (r : Result Policy RolesFault) → IsReadAs r (roles_read bytes) → IfOk r (λ p. IsPolicyOf bytes p)
policy_given bytes (Ok p) h = policy_read bytes p h
policy_given bytes (Err f) h = tt

pub fault_given : (bytes : List ℕ) (r : Result Policy RolesFault) → IsReadAs r (roles_read bytes) → IfErr r (λ f. IsFaultOf bytes f)
fault_given bytes (Ok p) h = tt
fault_given bytes (Err f) h = fault_read bytes f h
