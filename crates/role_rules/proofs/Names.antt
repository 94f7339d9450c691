-- Names: what their bytes keep, and names read one by one.
use Rattle.std.proofs.Common.{◌≡◌, ℕ, ◌+◌, ◌≤◌, Bool, true, false, List, [], ◌∷◌, ◌++◌, length, refl, arith, append_assoc, append-nil, length-append, sym, ◌∙◌, ap}
use Rattle.std.specs.Prelude.{◌&&◌, nat_lt, Option, Some, None}
use Rattle.std.specs.List.{list_all}
use Rattle.std.specs.Str.{IsUtf8}
use Rattle.std.proofs.lemmas.Bool.Decides.{nat_tests}
use Rattle.std.proofs.lemmas.Str.{IsUtf8-from_is_utf8}
use Rattle.value_core.specs.Names.{is_name}
use Rattle.value_core.proofs.Basics.{and_parts}
use Rattle.value_core.proofs.Scans.{name_word, word_utf8}
use Rattle.role_rules.specs.Lines.{name_read, names_read}

pub name_utf8 : (n : List ℕ) → is_name n ≡ true → IsUtf8 n
name_utf8 n e = IsUtf8-from_is_utf8 n (word_utf8 n (name_word n e))

pub all_both : {X : Type 0} (p : X → Bool) (xs ys : List X) → list_all p xs ≡ true → list_all p ys ≡ true → list_all p (xs ++ ys) ≡ true
all_both p [] ys e f = f
all_both p (x ∷ xs) ys e f = let h = and_parts (p x) (list_all p xs) e in rw (h.0, all_both p xs ys h.1 f) refl

all_first : {X : Type 0} (p : X → Bool) (xs ys : List X) → list_all p (xs ++ ys) ≡ true → list_all p ys ≡ true
all_first p [] ys e = e
all_first p (x ∷ xs) ys e = all_first p xs ys (and_parts (p x) _ e).1

named : (n : List ℕ) (o : Option (List ℕ)) (t : Bool) → is_name n ≡ t → name_read n ≡ o → (o ≡ None → t ≡ false) × ((m : List ℕ) → o ≡ Some m → (m ≡ n) × (t ≡ true))
named n o true e h =
    let is : Some n ≡ o = rw e at h in
    (λ k. absurd cc, λ m k. (cc, refl))
named n o false e h =
    let is : None ≡ o = rw e at h in
    (λ k. refl, λ m k. absurd cc)

no_name : (n : List ℕ) → name_read n ≡ None → is_name n ≡ false
no_name n e = (named n None (is_name n) refl e).0 refl

a_name : (n m : List ℕ) → name_read n ≡ Some m → (m ≡ n) × (is_name n ≡ true)
a_name n m e = (named n (Some m) (is_name n) refl e).1 m refl

none_read : (ns : List (List ℕ)) (t : Bool) → nat_lt (length ns) 65 && list_all is_name ns ≡ t → t ≡ false → names_read ns ≡ None
none_read [] t e f = refl
none_read (n ∷ ns) t e f = let h : nat_lt (length (n ∷ ns)) 65 && list_all is_name (n ∷ ns) ≡ false = e ∙ f in rw h refl

pub some_read : (n : List ℕ) (ns : List (List ℕ)) → length (n ∷ ns) ≤ 64 → list_all is_name (n ∷ ns) ≡ true → names_read (n ∷ ns) ≡ Some (n ∷ ns)
some_read n ns few are =
    let h : nat_lt (length (n ∷ ns)) 65 ≡ true = grind (arith, nat_tests) in
    rw (h, are) refl

-- the names so far are all
pub names_end : (ns all : List (List ℕ)) → ns ++ [] ≡ all → (length ns ≡ 0 → ⊥) → list_all is_name ns ≡ true → length ns ≤ 64 → Some ns ≡ names_read all
names_end [] all is some are few = absurd (some refl)
names_end (n ∷ ns) all is some are few =
    let whole : all ≡ n ∷ ns = sym is ∙ append-nil (n ∷ ns) in
    rw whole (sym (some_read n ns few are))

-- there are too many
pub names_many : (ns : List (List ℕ)) (p : List ℕ) (ps all : List (List ℕ)) → ns ++ p ∷ ps ≡ all → length ns ≡ 64 → names_read all ≡ None
names_many ns p ps all is many =
    let size : length all ≡ length ns + length (p ∷ ps) = ap length (sym is) ∙ length-append ns (p ∷ ps) in
    let h : nat_lt (length all) 65 ≡ false = grind (arith, nat_tests) in
    none_read all (nat_lt (length all) 65 && list_all is_name all) refl (rw h refl)

and_fails : (a b : Bool) → b ≡ false → (a && b) ≡ false
and_fails true b e = e
and_fails false b e = refl

all_fails : {X : Type 0} (test : X → Bool) (xs ys : List X) (y : X) → test y ≡ false → list_all test (xs ++ y ∷ ys) ≡ false
all_fails test [] ys y e = rw e refl
all_fails test (x ∷ xs) ys y e = and_fails (test x) _ (all_fails test xs ys y e)

-- one of them is no name
pub names_bad : (ns : List (List ℕ)) (p : List ℕ) (ps all : List (List ℕ)) → ns ++ p ∷ ps ≡ all → name_read p ≡ None → names_read all ≡ None
names_bad ns p ps all is bad =
    let h : list_all is_name all ≡ false = ap (list_all is_name) (sym is) ∙ all_fails is_name ns ps p (no_name p bad) in
    none_read all (nat_lt (length all) 65 && list_all is_name all) refl (and_fails (nat_lt (length all) 65) _ h)

-- one more
pub names_more : (ns : List (List ℕ)) (p m : List ℕ) (ps all : List (List ℕ)) → ns ++ p ∷ ps ≡ all → name_read p ≡ Some m → list_all is_name ns ≡ true
    → ((ns ++ m ∷ []) ++ ps ≡ all) × (list_all is_name (ns ++ m ∷ []) ≡ true)
names_more ns p m ps all is e are =
    let h = a_name p m e in
    let good : is_name m ≡ true = ap is_name h.0 ∙ h.1 in
    (append_assoc ns (m ∷ []) ps ∙ (ap (λ n. ns ++ n ∷ ps) h.0 ∙ is), all_both is_name ns (m ∷ []) are (rw good refl))
