-- What closing a scope makes of the open scopes.
use Rattle.std.proofs.Common.{◌≡◌, ℕ, zero, suc, ◌+◌, ◌<◌, List, length, get_or, [], ◌∷◌, ◌++◌, filter, Option, Some, None, true, false, Bool, cond, refl, ap, sym, ◌∙◌, arith, not, ◌==◌, ◌||◌, All, subst}
use Rattle.std.proofs.lemmas.List.{append_assoc, append-nil}
use Rattle.std.proofs.lemmas.List.Elements.{All-push, All-tail, filter-append}
use Rattle.std.proofs.lemmas.List.Folds.{list_any-append}
use Rattle.std.proofs.lemmas.Bool.Decides.{nat_tests}
use Rattle.scope_pool.specs.Layout.{among, among_maybe, found_from, newest_first, shown}
use Rattle.scope_pool.specs.Region.{OpenScope, AreSound, IsOpenOrTop, is_open, is_within, scopes_outside}
use Rattle.scope_pool.specs.declared.scopes.Scope.{Scope}

pub false-ne-true : false ≡ true → ⊥
false-ne-true h = cc

pub same_name : (n : ℕ) → (n == n) ≡ true
same_name n = grind (arith, nat_tests)

pub or_later : (a b : Bool) → b ≡ true → (a || b) ≡ true
or_later true b h = refl
or_later false b h = h

pub or_first : (a b : Bool) → a ≡ true → (a || b) ≡ true
or_first true b h = refl
or_first false b h = cc

-- ---- what a pass over the scopes finds

-- what is found of the scopes with the newest first
abbrev found_in : ℕ → List OpenScope → List ℕ
found_in outer [] = []
found_in outer (s ∷ older) = let found = found_in outer older in cond (s.name == outer || among_maybe found s.parent) (found ++ s.name ∷ []) found

found_turned : (outer : ℕ) (ss : List Scope) (older : List OpenScope) → found_from outer (found_in outer older) ss ≡ found_in outer (newest_first ss ++ older)
found_turned outer [] older = refl
found_turned outer (s ∷ ss) older = found_turned outer ss (shown s ∷ older) ∙ ap (found_in outer) (sym (append_assoc (newest_first ss) (shown s ∷ []) older))

not_open : (outer n : ℕ) (ss : List OpenScope) → is_open ss n ≡ false → is_within outer (Some n) ss ≡ false
not_open outer n [] h = refl
not_open outer n (s ∷ ss) h =
    elim (s.name == n) as (λ b. (b || is_open ss n) ≡ false → cond b (n == outer || is_within outer s.parent ss) (is_within outer (Some n) ss) ≡ false)
    [ true ↦ λ e. cc | false ↦ λ e. not_open outer n ss e ] h

at_name : (c f : Bool) → f ≡ false → cond c (f || (true || false)) f ≡ c
at_name true f e = rw e refl
at_name false f e = e

other_name : (c f : Bool) → cond c (f || (false || false)) f ≡ f
other_name true true = refl
other_name true false = refl
other_name false f = refl

found_maybe : (outer : ℕ) (ss : List OpenScope) (found : List ℕ) → ((n : ℕ) → among found n ≡ is_within outer (Some n) ss) → (o : Option ℕ) → among_maybe found o ≡ is_within outer o ss
found_maybe outer ss found same None = refl
found_maybe outer ss found same (Some n) = same n

found_within : (outer : ℕ) (ss : List OpenScope) → AreSound ss → (n : ℕ) → among (found_in outer ss) n ≡ is_within outer (Some n) ss
found_within outer [] sound n = refl
found_within outer (s ∷ older) sound n =
    let found = found_in outer older in
    let same : (s.name == n) ≡ true → n ≡ s.name = λ e. grind (arith, nat_tests, e) in
    let tested : (s.name == outer || among_maybe found s.parent) ≡ (s.name == outer || is_within outer s.parent older) = ap (λ b. s.name == outer || b) (found_maybe outer older found (found_within outer older sound.1.1) s.parent) in
    let grown : (c : Bool) → among (cond c (found ++ s.name ∷ []) found) n ≡ cond c (among found n || (s.name == n || false)) (among found n) =
    λ c. elim c as (λ c. among (cond c (found ++ s.name ∷ []) found) n ≡ cond c (among found n || (s.name == n || false)) (among found n)) [ true ↦ list_any-append (λ m. m == n) found (s.name ∷ []) | false ↦ refl ] in
    let cases : (b : Bool) → (s.name == n) ≡ b → cond (s.name == outer || is_within outer s.parent older) (among found n || (b || false)) (among found n) ≡ cond b (n == outer || is_within outer s.parent older) (is_within outer (Some n) older) =
    λ b. elim b as (λ b. (s.name == n) ≡ b → cond (s.name == outer || is_within outer s.parent older) (among found n || (b || false)) (among found n) ≡ cond b (n == outer || is_within outer s.parent older) (is_within outer (Some n) older)) [
      | true ↦ λ e. rw (same e) (at_name (s.name == outer || is_within outer s.parent older) (among found s.name) (found_within outer older sound.1.1 s.name ∙ not_open outer s.name older sound.0))
      | false ↦ λ e. other_name (s.name == outer || is_within outer s.parent older) (among found n) ∙ found_within outer older sound.1.1 n
    ] in
    grown (s.name == outer || among_maybe found s.parent) ∙ ap (λ c. cond c (among found n || (s.name == n || false)) (among found n)) tested ∙ cases (s.name == n) refl

-- a pass over the scopes finds just those within the outer one
pub found_is : (outer : ℕ) (ss : List Scope) → AreSound (newest_first ss) → (n : ℕ) → among (found_from outer [] ss) n ≡ is_within outer (Some n) (newest_first ss)
found_is outer ss sound n =
    ap (λ found. among found n) (found_turned outer ss [] ∙ ap (found_in outer) (append-nil (newest_first ss))) ∙ found_within outer (newest_first ss) sound n

open_at : (ss : List Scope) (i : ℕ) (d : Scope) → i < length ss → is_open (newest_first ss) (get_or ss i d).name ≡ true
open_at [] i d h = absurd (omega arith)
open_at (s ∷ ss) zero d h =
    let whole : is_open (newest_first ss ++ shown s ∷ []) s.name ≡ (is_open (newest_first ss) s.name || (s.name == s.name || false)) = list_any-append (λ t. t.name == s.name) (newest_first ss) (shown s ∷ []) in
    whole ∙ or_later (is_open (newest_first ss) s.name) (s.name == s.name || false) (or_first (s.name == s.name) false (same_name s.name))
open_at (s ∷ ss) (suc i) d h =
    let n = (get_or ss i d).name in
    let whole : is_open (newest_first ss ++ shown s ∷ []) n ≡ (is_open (newest_first ss) n || (s.name == n || false)) = list_any-append (λ t. t.name == n) (newest_first ss) (shown s ∷ []) in
    whole ∙ or_first (is_open (newest_first ss) n) (s.name == n || false) (open_at ss i d (omega arith))

found_each : (P : ℕ → Type 0) (outer : ℕ) (found : List ℕ) (ss : List Scope) → All P found → All (λ s. P s.name) ss → All P (found_from outer found ss)
found_each P outer found [] had all = had
found_each P outer found (s ∷ ss) had all =
    let more : (b : Bool) → All P (cond b (found ++ s.name ∷ []) found) = λ b. elim b as (λ b. All P (cond b (found ++ s.name ∷ []) found)) [ true ↦ All-push P found s.name had (all 0 s (omega arith)) | false ↦ had ] in
    found_each P outer (cond (s.name == outer || among_maybe found s.parent) (found ++ s.name ∷ []) found) ss (more (s.name == outer || among_maybe found s.parent)) (All-tail (λ t. P t.name) s ss all)

-- only open scopes are found
pub found_open : (outer : ℕ) (ss : List Scope) → All (λ n. is_open (newest_first ss) n ≡ true) (found_from outer [] ss)
found_open outer ss = found_each (λ n. is_open (newest_first ss) n ≡ true) outer [] ss (λ i d h. absurd (omega arith)) (λ i d h. open_at ss i d h)

-- ---- what is left

-- the scopes that are left, with the newest first
pub newest_left : (gone : ℕ → Bool) (ss : List Scope) → newest_first (filter (λ s. not (gone s.name)) ss) ≡ filter (λ s. not (gone s.name)) (newest_first ss)
newest_left gone [] = refl
newest_left gone (s ∷ ss) =
    let whole : filter (λ (t : OpenScope). not (gone t.name)) (newest_first ss ++ shown s ∷ []) ≡ filter (λ t. not (gone t.name)) (newest_first ss) ++ cond (not (gone s.name)) (shown s ∷ []) [] = filter-append (λ t. not (gone t.name)) (newest_first ss) (shown s ∷ []) in
    elim (gone s.name) as (λ b. newest_first (cond (not b) (s ∷ filter (λ s. not (gone s.name)) ss) (filter (λ s. not (gone s.name)) ss)) ≡ filter (λ t. not (gone t.name)) (newest_first ss) ++ cond (not b) (shown s ∷ []) [])
    [ true ↦ newest_left gone ss ∙ sym (append-nil (filter (λ t. not (gone t.name)) (newest_first ss))) | false ↦ ap (λ ts. ts ++ shown s ∷ []) (newest_left gone ss) ] ∙ sym whole

-- where a scope stays its parent does
abbrev Stay : (ℕ → Bool) → List OpenScope → Type 0
Stay gone [] = Unit {0}
Stay gone (s ∷ older) = (gone s.name ≡ false → (p : ℕ) → s.parent ≡ Some p → gone p ≡ false) × Stay gone older

open_left : (gone : ℕ → Bool) (ss : List OpenScope) (n : ℕ) → is_open ss n ≡ true → gone n ≡ false → is_open (filter (λ s. not (gone s.name)) ss) n ≡ true
open_left gone [] n h stays = h
open_left gone (s ∷ ss) n h stays = grind (arith, nat_tests, open_left gone ss n)

closed_left : (gone : ℕ → Bool) (ss : List OpenScope) (n : ℕ) → is_open ss n ≡ false → is_open (filter (λ s. not (gone s.name)) ss) n ≡ false
closed_left gone [] n h = refl
closed_left gone (s ∷ ss) n h = grind (arith, nat_tests, closed_left gone ss n)

parent_left : (gone : ℕ → Bool) (ss : List OpenScope) (o : Option ℕ) → IsOpenOrTop ss o → ((p : ℕ) → o ≡ Some p → gone p ≡ false) → IsOpenOrTop (filter (λ s. not (gone s.name)) ss) o
parent_left gone ss None h stays = tt
parent_left gone ss (Some p) h stays = open_left gone ss p h (stays p refl)

sound_left : (gone : ℕ → Bool) (ss : List OpenScope) → AreSound ss → Stay gone ss → AreSound (filter (λ s. not (gone s.name)) ss)
sound_left gone [] sound stay = tt
sound_left gone (s ∷ older) sound stay =
    let rest = sound_left gone older sound.1.1 stay.1 in
    let cases : (b : Bool) → gone s.name ≡ b → AreSound (cond (not b) (s ∷ filter (λ s. not (gone s.name)) older) (filter (λ s. not (gone s.name)) older)) =
    λ b. elim b as (λ b. gone s.name ≡ b → AreSound (cond (not b) (s ∷ filter (λ s. not (gone s.name)) older) (filter (λ s. not (gone s.name)) older)))
    [ true ↦ λ e. rest | false ↦ λ e. (closed_left gone older s.name sound.0, (parent_left gone older s.parent sound.1.0 (stay.0 e), rest)) ]
    in cases (gone s.name) refl

apart : (name n : ℕ) (older : List OpenScope) → is_open older name ≡ false → is_open older n ≡ true → (name == n) ≡ false
apart name n older new h =
    let cases : (b : Bool) → (name == n) ≡ b → b ≡ false =
    λ b. elim b as (λ b. (name == n) ≡ b → b ≡ false)
    [ true ↦ λ e. let same : name ≡ n = grind (arith, nat_tests, e) in absurd (false-ne-true (sym new ∙ ap (is_open older) same ∙ h)) | false ↦ λ e. refl ]
    in cases (name == n) refl

pub skips : (outer : ℕ) (s : OpenScope) (older : List OpenScope) (n : ℕ) → is_open older s.name ≡ false → is_open older n ≡ true → is_within outer (Some n) (s ∷ older) ≡ is_within outer (Some n) older
skips outer s older n new h = ap (λ b. cond b (n == outer || is_within outer s.parent older) (is_within outer (Some n) older)) (apart s.name n older new h)

open_maybe : (older : List OpenScope) (o : Option ℕ) (p : ℕ) → o ≡ Some p → IsOpenOrTop older o → is_open older p ≡ true
open_maybe older o p e h = subst (IsOpenOrTop older) e h

or_false : (a b : Bool) → (a || b) ≡ false → b ≡ false
or_false true b h = cc
or_false false b h = h

stay_within : (outer : ℕ) (gone : ℕ → Bool) (ss : List OpenScope) → AreSound ss → ((n : ℕ) → is_open ss n ≡ true → gone n ≡ is_within outer (Some n) ss) → Stay gone ss
stay_within outer gone [] sound same = tt
stay_within outer gone (s ∷ older) sound same =
    let later : (n : ℕ) → is_open older n ≡ true → is_open (s ∷ older) n ≡ true = λ n h. or_later (s.name == n) (is_open older n) h in
    let kept : (n : ℕ) → is_open older n ≡ true → gone n ≡ is_within outer (Some n) older = λ n h. same n (later n h) ∙ skips outer s older n sound.0 h in
    let here : gone s.name ≡ (s.name == outer || is_within outer s.parent older) =
    same s.name (or_first (s.name == s.name) (is_open older s.name) (same_name s.name))
    ∙ ap (λ b. cond b (s.name == outer || is_within outer s.parent older) (is_within outer (Some s.name) older)) (same_name s.name) in (
      λ stays p e. kept p (open_maybe older s.parent p e sound.1.0) ∙ ap (λ o. is_within outer o older) (sym e) ∙ or_false (s.name == outer) (is_within outer s.parent older) (sym here ∙ stays),
      stay_within outer gone older sound.1.1 kept,
    )

-- what is left of sound scopes is sound
pub sound_closed : (outer : ℕ) (ss : List OpenScope) → AreSound ss → AreSound (scopes_outside outer ss)
sound_closed outer ss sound = sound_left (λ n. is_within outer (Some n) ss) ss sound (stay_within outer (λ n. is_within outer (Some n) ss) ss sound (λ n h. refl))

-- ---- opening

pub newest_more : (ss : List Scope) (s : Scope) → newest_first (ss ++ s ∷ []) ≡ shown s ∷ newest_first ss
newest_more [] s = refl
newest_more (t ∷ ss) s = ap (λ ts. ts ++ shown t ∷ []) (newest_more ss s)

-- a name above all that are used isn't open
pub not_used : (ss : List Scope) (n : ℕ) → All (λ s. s.name < n) ss → is_open (newest_first ss) n ≡ false
not_used [] n below = refl
not_used (s ∷ ss) n below =
    let here : s.name < n = below 0 s (omega arith) in
    let differ : (s.name == n) ≡ false = grind (arith, nat_tests) in
    let rest = not_used ss n (All-tail (λ t. t.name < n) s ss below) in
    let whole : is_open (newest_first ss ++ shown s ∷ []) n ≡ (is_open (newest_first ss) n || (s.name == n || false)) = list_any-append (λ t. t.name == n) (newest_first ss) (shown s ∷ []) in
    rw (whole, differ, rest) refl

-- names that were used stay below the next one
pub used_more : (ss : List Scope) (s : Scope) (n : ℕ) → All (λ t. t.name < n) ss → s.name ≡ n → All (λ t. t.name < n + 1) (ss ++ s ∷ [])
used_more ss s n below same =
    All-push (λ (t : Scope). t.name < n + 1) ss s (λ i d h. let b = below i d h in omega (arith, b)) (omega (arith, same))
