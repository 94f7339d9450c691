-- Readers that take nothing but what a language has.
use Rattle.std.proofs.Common.{◌≡◌, ℕ, Bool, true, false, cond, List, [], ◌∷◌, ◌++◌, Result, refl, sym, ap, subst, ◌∙◌, append_assoc, inl, inr}
use Rattle.std.specs.Prelude.{◌==◌, Ok, Err, Option, Some, None, ◌⊎◌}
use Rattle.std.proofs.lemmas.List.{append-nil}
use Rattle.value_core.specs.declared.token.Token.{Token}
use Rattle.value_core.specs.declared.token.Token.TheVariants.{Name, Number, Words, Mark, LongName, LongText}
use Rattle.value_core.specs.declared.lexing.TokenAt.{TokenAt}
use Rattle.pipe_text.specs.declared.fault.Fault.{Fault}
use Rattle.value_core.specs.declared.lexing.Stop.{Stop}
use Rattle.value_core.specs.Literals.{tokens_in}
use Rattle.pipe_text.specs.inside.Readers.{◌>>=◌, Reader, give, seq, Choice, go, branch, peek, next_passes, mark_at, mark_choice, chosen, word_choice, word_at}
use Rattle.pipe_text.proofs.Exactly.{tokens_in-append}
use Rattle.value_core.proofs.Basics.{nat_is}

-- what is read is in the language
pub record Finds {A : Type 0} (r : Reader A) (L : A → List Token → Type 0) : Type 0 where
  pub found : (s : Stop) (ts : List TokenAt) (a : A) (rest : List TokenAt) → r s ts ≡ Ok (a, rest) → (front : List TokenAt) × (ts ≡ front ++ rest) × L a (tokens_in front)

pub bind_ok : {A B : Type 0} (r : Result A Fault) (f : A → Result B Fault) (y : B) → (r >>= f) ≡ Ok y → (x : A) × (r ≡ Ok x) × (f x ≡ Ok y)
bind_ok (Ok x) f y e = (x, refl, e)
bind_ok (Err d) f y e = absurd cc

abbrev pub done : {A : Type 0} → A → Result A Fault
done x = Ok x

pub ok_is : {A : Type 0} (x y : A) → done x ≡ done y → x ≡ y
ok_is x y e = cc

pub finds_same : {A : Type 0} (r : Reader A) (L M : A → List Token → Type 0) → Finds r L → ((a : A) (ks : List Token) → L a ks → M a ks) → Finds r M
finds_same r L M x to = record { found = λ s ts a rest e. let f = x.found s ts a rest e in (f.0, f.1, to a (tokens_in f.0) f.2) }

abbrev pub Nothing : {A : Type 0} → A → A → List Token → Type 0
Nothing a b ks = (b ≡ a) × (ks ≡ [])

pub finds_give : {A : Type 0} (a : A) → Finds (give a) (Nothing a)
finds_give {A} a = record {
  found = λ s ts b rest e. let p = ok_is (a, ts) (b, rest) e in ([], ap (λ (x : A × List TokenAt). x.1) p, (sym (ap (λ (x : A × List TokenAt). x.0) p), refl));
}

abbrev pub Then : {A B : Type 0} → (A → List Token → Type 0) → (A → B → List Token → Type 0) → B → List Token → Type 0
Then {A} L M b ks = (a : A) × (k1 k2 : List Token) × (ks ≡ k1 ++ k2) × L a k1 × M a b k2

pub finds_seq : {A B : Type 0} (r : Reader A) (f : A → Reader B) (L : A → List Token → Type 0) (M : A → B → List Token → Type 0) → Finds r L → ((a : A) → Finds (f a) (M a)) → Finds (seq r f) (Then L M)
finds_seq {A} {B} r f L M xr xf = record {
  found = λ s ts b rest e.
      let x = bind_ok (r s ts) (λ x. f x.0 s x.1) (b, rest) e in
      let first = xr.found s ts x.0.0 x.0.1 x.1 in
      let second = (xf x.0.0).found s x.0.1 b rest x.2 in (
        first.0 ++ second.0,
        first.1 ∙ ap (λ (l : List TokenAt). first.0 ++ l) second.1 ∙ sym (append_assoc first.0 second.0 rest),
        (x.0.0, tokens_in first.0, tokens_in second.0, tokens_in-append first.0 second.0, first.2, second.2),
      );
}

-- a value that is only dressed up
abbrev pub Dressed : {A B : Type 0} → (A → B) → (A → List Token → Type 0) → B → List Token → Type 0
Dressed {A} g L b ks = (a : A) × (b ≡ g a) × L a ks

dress_then : {A B : Type 0} (g : A → B) (L : A → List Token → Type 0) (b : B) (ks : List Token) → Then L (λ a. Nothing (g a)) b ks → Dressed g L b ks
dress_then g L b ks (a, k1, k2, parts, l, (is, none)) = (a, is, subst (λ (k : List Token). L a k) (sym (rw none at parts ∙ append-nil k1)) l)

pub finds_as : {A B : Type 0} (r : Reader A) (g : A → B) (L : A → List Token → Type 0) → Finds r L → Finds (seq r (λ x. give (g x))) (Dressed g L)
finds_as r g L x = finds_same _ (Then L (λ a. Nothing (g a))) (Dressed g L) (finds_seq r (λ y. give (g y)) L (λ a. Nothing (g a)) x (λ a. finds_give (g a))) (dress_then g L)

-- ---- by the token in hand

abbrev pub FindsFor : {A : Type 0} → Choice A → (A → List Token → Type 0) → Type 0
FindsFor (Err f) L = Unit {0}
FindsFor (Ok r) L = Finds r L

pub for_if : {A : Type 0} (b : Bool) (x y : Choice A) (L : A → List Token → Type 0) → (b ≡ true → FindsFor x L) → (b ≡ false → FindsFor y L) → FindsFor (cond b x y) L
for_if true x y L f g = f refl
for_if false x y L f g = g refl

abbrev pub ByFirst : {A : Type 0} → (Token → A → List Token → Type 0) → A → List Token → Type 0
ByFirst L a ks = (k : Token) × (more : List Token) × (ks ≡ k ∷ more) × L k a more

go_found : {A : Type 0} (o : Choice A) (L : A → List Token → Type 0) (offset : ℕ) (s : Stop) (ts : List TokenAt) (a : A) (rest : List TokenAt) → FindsFor o L → go o offset s ts ≡ Ok (a, rest) → (front : List TokenAt) × (ts ≡ front ++ rest) × L a (tokens_in front)
go_found (Err f) L offset s ts a rest x e = absurd cc
go_found (Ok r) L offset s ts a rest x e = x.found s ts a rest e

branch_found : {A : Type 0} (table : Token → Choice A) (L : Token → A → List Token → Type 0) → ((k : Token) → FindsFor (table k) (L k)) → (s : Stop) (ts : List TokenAt) (a : A) (rest : List TokenAt) → branch table s ts ≡ Ok (a, rest) → (front : List TokenAt) × (ts ≡ front ++ rest) × ByFirst L a (tokens_in front)
branch_found table L x s [] a rest e = absurd cc
branch_found table L x s (t ∷ ts) a rest e =
    let f = go_found (table t.token) (L t.token) t.offset s ts a rest (x t.token) e in
    (t ∷ f.0, ap (λ (l : List TokenAt). t ∷ l) f.1, (t.token, tokens_in f.0, refl, f.2))

pub finds_branch : {A : Type 0} (table : Token → Choice A) (L : Token → A → List Token → Type 0) → ((k : Token) → FindsFor (table k) (L k)) → Finds (branch table) (ByFirst L)
finds_branch table L x = record { found = branch_found table L x }

-- one of both, by a test that is left open
if_ok : {A : Type 0} (b : Bool) (x y : Result A Fault) (z : A) → cond b x y ≡ Ok z → (x ≡ Ok z) ⊎ (y ≡ Ok z)
if_ok true x y z e = inl e
if_ok false x y z e = inr e

abbrev pub Either : {A : Type 0} → (A → List Token → Type 0) → (A → List Token → Type 0) → A → List Token → Type 0
Either L M a ks = L a ks ⊎ M a ks

peek_found : {A : Type 0} (test : Token → Bool) (r q : Reader A) (L M : A → List Token → Type 0) → Finds r L → Finds q M → (s : Stop) (ts : List TokenAt) (a : A) (rest : List TokenAt) → peek test r q s ts ≡ Ok (a, rest) → (front : List TokenAt) × (ts ≡ front ++ rest) × Either L M a (tokens_in front)
peek_found test r q L M x y s ts a rest e = elim (if_ok (next_passes test ts) (r s ts) (q s ts) (a, rest) e) [
  | inl h ↦ let f = x.found s ts a rest h in (f.0, f.1, inl f.2)
  | inr h ↦ let f = y.found s ts a rest h in (f.0, f.1, inr f.2)
]

pub finds_peek : {A : Type 0} (test : Token → Bool) (r q : Reader A) (L M : A → List Token → Type 0) → Finds r L → Finds q M → Finds (peek test r q) (Either L M)
finds_peek test r q L M x y = record { found = peek_found test r q L M x y }

-- ---- one token

-- a language of one token: what L says of it
abbrev pub Single : {A : Type 0} → (A → Token → Type 0) → A → List Token → Type 0
Single L a ks = (k : Token) × (ks ≡ k ∷ []) × L a k

-- the token in hand gives the value, or a fault
abbrev pub Tells : {A : Type 0} → (A → Token → Type 0) → Token → A → List Token → Type 0
Tells L k a more = (more ≡ []) × L a k

single : {A : Type 0} (L : A → Token → Type 0) (a : A) (ks : List Token) → ByFirst (Tells L) a ks → Single L a ks
single L a ks (k, more, parts, (none, l)) = (k, parts ∙ ap (λ (m : List Token). k ∷ m) none, l)

pub finds_token : {A : Type 0} (table : Token → Choice A) (L : A → Token → Type 0) → ((k : Token) → FindsFor (table k) (Tells L k)) → Finds (branch table) (Single L)
finds_token table L x = finds_same _ (ByFirst (Tells L)) (Single L) (finds_branch table (Tells L) x) (single L)

tell : {A : Type 0} (L : A → Token → Type 0) (k : Token) (a b : A) (ks : List Token) → L a k → Nothing a b ks → Tells L k b ks
tell L k a b ks l (is, none) = (none, rw is l)

pub tells : {A : Type 0} (L : A → Token → Type 0) (k : Token) (a : A) → L a k → Finds (give a) (Tells L k)
tells L k a l = finds_same (give a) (Nothing a) (Tells L k) (finds_give a) (λ b ks n. tell L k a b ks l n)

abbrev pub IsMark : ℕ → Unit {0} → Token → Type 0
IsMark c u k = k ≡ Mark c

mark_for : (c : ℕ) (k : Token) → FindsFor (mark_choice c k) (Tells (IsMark c) k)
mark_for c (Mark m) = for_if (m == c) _ _ _ (λ e. tells (IsMark c) (Mark m) tt (ap Mark (nat_is m c e))) (λ e. tt)
mark_for c (Name n) = tt
mark_for c (Number n) = tt
mark_for c (Words n) = tt
mark_for c LongName = tt
mark_for c LongText = tt

pub finds_mark : (c : ℕ) → Finds (mark_at c) (Single (IsMark c))
finds_mark c = finds_token (mark_choice c) (IsMark c) (mark_for c)

abbrev pub IsWord : {W : Type 0} → (List ℕ → Option W) → W → Token → Type 0
IsWord find w k = (n : List ℕ) × (k ≡ Name n) × (find n ≡ Some w)

chosen_for : {W : Type 0} (find : List ℕ → Option W) (n : List ℕ) (o : Option W) → find n ≡ o → FindsFor (chosen (λ w. Ok (give w)) o) (Tells (IsWord find) (Name n))
chosen_for find n None e = tt
chosen_for find n (Some w) e = tells (IsWord find) (Name n) w (n, refl, e)

word_for : {W : Type 0} (find : List ℕ → Option W) (k : Token) → FindsFor (word_choice find (λ w. Ok (give w)) k) (Tells (IsWord find) k)
word_for find (Name n) = chosen_for find n (find n) refl
word_for find (Mark m) = tt
word_for find (Number n) = tt
word_for find (Words n) = tt
word_for find LongName = tt
word_for find LongText = tt

pub finds_word : {W : Type 0} (find : List ℕ → Option W) → Finds (word_at find) (Single (IsWord find))
finds_word find = finds_token (word_choice find (λ w. Ok (give w))) (IsWord find) (word_for find)

first_is : {A : Type 0} (L : A → List Token → Type 0) (a : A) (ks : List Token) → ByFirst (λ k b more. L b (k ∷ more)) a ks → L a ks
first_is L a ks (k, more, parts, l) = subst (λ (m : List Token). L a m) (sym parts) l

-- each token in hand goes on to the same language
pub finds_by : {A : Type 0} (table : Token → Choice A) (L : A → List Token → Type 0) → ((k : Token) → FindsFor (table k) (λ a more. L a (k ∷ more))) → Finds (branch table) L
finds_by table L x = finds_same _ (ByFirst (λ k b more. L b (k ∷ more))) L (finds_branch table (λ k b more. L b (k ∷ more)) x) (first_is L)

give_in : {A : Type 0} (M : A → List Token → Type 0) (a b : A) (more : List Token) → M a [] → Nothing a b more → M b more
give_in M a b more l (is, none) = rw (is, none) l

-- the value that is given with no more tokens
pub finds_one : {A : Type 0} (M : A → List Token → Type 0) (a : A) → M a [] → Finds (give a) M
finds_one M a l = finds_same (give a) (Nothing a) M (finds_give a) (λ b more n. give_in M a b more l n)
