-- Declarations after others: their counts, their names and the bounds.
use Rattle.std.proofs.Common.{◌≡◌, ℕ, ◌+◌, ◌-◌, ◌≤◌, ◌<◌, Bool, true, false, List, [], ◌∷◌, ◌++◌, refl, sym, ◌∙◌, arith, inl, inr}
use Rattle.std.specs.Prelude.{◌⊎◌, ◌||◌, ◌&&◌, not}
use Rattle.std.specs.List.{IsDistinct, AllByRecursion, list_any}
use Rattle.pipe_text.specs.declared.declaration.Declaration.{Declaration}
use Rattle.pipe_text.specs.declared.declaration.Declaration.TheVariants.{Input, Pool, Client, Worker, Op, Node}
use Rattle.pipe_text.specs.declared.words.DeclWord.{DeclWord}
use Rattle.pipe_text.specs.declared.words.DeclWord.TheVariants as decl
use Rattle.pipe_text.specs.Files.{terms_of, total, one_of, count_of, same_name}
use Rattle.pipe_text.specs.inside.FileReading.{Bounds, Seen, seen_in}
use Rattle.pipe_text.specs.inside.Known.{word_of}
use Rattle.value_core.proofs.Basics.{or_parts}
pub use Rattle.pipe_text.specs.FirstFault.{Sound}

-- whether a declaration of this kind and name is known, for a client one of the same pool
abbrev pub is_known : Seen → Declaration → Bool
is_known seen (Input d) = seen.named decl.Input d.name
is_known seen (Pool d) = seen.named decl.Pool d.name
is_known seen (Client d) = seen.paired d.name d.pool
is_known seen (Worker d) = seen.named decl.Worker d.name
is_known seen (Op d) = seen.named decl.Op d.name
is_known seen (Node d n) = seen.named decl.Node d.name

-- a declaration after those that are known keeps the bounds
pub record Fits (b : Bounds) (seen : Seen) (d : Declaration) : Type 0 where
  pub room : seen.count (word_of d) < b.most (word_of d)
  pub free : (not b.twice && is_known seen d) ≡ false
  pub terms : terms_of d ≤ b.terms - seen.terms

pub total-append : (f : Declaration → ℕ) (xs ys : List Declaration) → total f (xs ++ ys) ≡ total f xs + total f ys
total-append f [] ys = omega arith
total-append f (x ∷ xs) ys = let e = total-append f xs ys in omega (arith, e)

one_is : (w : DeclWord) (d : Declaration) → (one_of w d ≡ 0) ⊎ ((w ≡ word_of d) × (one_of w d ≡ 1))
one_is decl.Input (Input d) = inr (refl, refl)
one_is decl.Input (Pool d) = inl refl
one_is decl.Input (Client d) = inl refl
one_is decl.Input (Worker d) = inl refl
one_is decl.Input (Op d) = inl refl
one_is decl.Input (Node d n) = inl refl
one_is decl.Pool (Input d) = inl refl
one_is decl.Pool (Pool d) = inr (refl, refl)
one_is decl.Pool (Client d) = inl refl
one_is decl.Pool (Worker d) = inl refl
one_is decl.Pool (Op d) = inl refl
one_is decl.Pool (Node d n) = inl refl
one_is decl.Client (Input d) = inl refl
one_is decl.Client (Pool d) = inl refl
one_is decl.Client (Client d) = inr (refl, refl)
one_is decl.Client (Worker d) = inl refl
one_is decl.Client (Op d) = inl refl
one_is decl.Client (Node d n) = inl refl
one_is decl.Worker (Input d) = inl refl
one_is decl.Worker (Pool d) = inl refl
one_is decl.Worker (Client d) = inl refl
one_is decl.Worker (Worker d) = inr (refl, refl)
one_is decl.Worker (Op d) = inl refl
one_is decl.Worker (Node d n) = inl refl
one_is decl.Op (Input d) = inl refl
one_is decl.Op (Pool d) = inl refl
one_is decl.Op (Client d) = inl refl
one_is decl.Op (Worker d) = inl refl
one_is decl.Op (Op d) = inr (refl, refl)
one_is decl.Op (Node d n) = inl refl
one_is decl.Node (Input d) = inl refl
one_is decl.Node (Pool d) = inl refl
one_is decl.Node (Client d) = inl refl
one_is decl.Node (Worker d) = inl refl
one_is decl.Node (Op d) = inl refl
one_is decl.Node (Node d n) = inr (refl, refl)

known_is : (v : ℕ) (before : List Declaration) (d : Declaration) → is_known (seen_in v before) d ≡ list_any (λ e. same_name e d) before
known_is v before (Input d) = refl
known_is v before (Pool d) = refl
known_is v before (Client d) = refl
known_is v before (Worker d) = refl
known_is v before (Op d) = refl
known_is v before (Node d n) = refl

none_any : (test : Declaration → Bool) (xs : List Declaration) → list_any test xs ≡ false → AllByRecursion (λ x. test x ≡ false) xs
none_any test [] e = tt
none_any test (x ∷ xs) e = let p = or_parts (test x) (list_any test xs) e in (p.0, none_any test xs p.1)

any_none : (test : Declaration → Bool) (xs : List Declaration) → AllByRecursion (λ x. test x ≡ false) xs → list_any test xs ≡ false
any_none test [] h = refl
any_none test (x ∷ xs) (h, more) = rw h (any_none test xs more)

add_all : (P : Declaration → Type 0) (xs : List Declaration) (d : Declaration) → AllByRecursion P xs → P d → AllByRecursion P (xs ++ d ∷ [])
add_all P [] d h p = (p, tt)
add_all P (x ∷ xs) d (h, more) p = (h, add_all P xs d more p)

in_all : (P : Declaration → Type 0) (xs : List Declaration) (d : Declaration) (ys : List Declaration) → AllByRecursion P (xs ++ d ∷ ys) → P d
in_all P [] d ys (h, more) = h
in_all P (x ∷ xs) d ys (h, more) = in_all P xs d ys more

distinct_more : (xs : List Declaration) (d : Declaration) → IsDistinct same_name xs → AllByRecursion (λ x. same_name x d ≡ false) xs → IsDistinct same_name (xs ++ d ∷ [])
unfolding IsDistinct
distinct_more [] d h new = (tt, tt)
distinct_more (x ∷ xs) d (apart, h) (other, new) = (add_all (λ y. same_name x y ≡ false) xs d apart other, distinct_more xs d h new)

distinct_new : (xs : List Declaration) (d : Declaration) (ys : List Declaration) → IsDistinct same_name (xs ++ d ∷ ys) → AllByRecursion (λ x. same_name x d ≡ false) xs
unfolding IsDistinct
distinct_new [] d ys h = tt
distinct_new (x ∷ xs) d ys (apart, h) = (in_all (λ y. same_name x y ≡ false) xs d ys apart, distinct_new xs d ys h)

free_of : (twice known : Bool) → (twice ≡ false → known ≡ false) → (not twice && known) ≡ false
free_of true known h = refl
free_of false known h = h refl

of_free : (twice known : Bool) → (not twice && known) ≡ false → twice ≡ false → known ≡ false
of_free true known e h = absurd cc
of_free false known e h = e

few_more : (w v : DeclWord) (n k most : ℕ) → (k ≡ 0) ⊎ ((w ≡ v) × (k ≡ 1)) → n ≤ most → (w ≡ v → n < most) → n + (k + 0) ≤ most
few_more w v n k most (inl none) few room = omega (arith, none, few)
few_more w v n k most (inr (is, one)) few room = let r = room is in omega (arith, one, r)

-- one more that fits
pub sound_more : (b : Bounds) (v : ℕ) (before : List Declaration) (d : Declaration) → Sound b before → Fits b (seen_in v before) d → Sound b (before ++ d ∷ [])
sound_more b v before d s f = record {
  few = λ w. rw (total-append (one_of w) before (d ∷ [])) (few_more w (word_of d) (count_of w before) (one_of w d) (b.most w) (one_is w d) (s.few w) (λ is. rw is f.room));
  terms = let few = s.terms in let more = f.terms in let e = total-append terms_of before (d ∷ []) in omega (arith, few, more, e);
  apart = λ once. distinct_more before d (s.apart once) (none_any (λ e. same_name e d) before (sym (known_is v before d) ∙ of_free b.twice (is_known (seen_in v before) d) f.free once));
}

one_word : (d : Declaration) → one_of (word_of d) d ≡ 1
one_word (Input d) = refl
one_word (Pool d) = refl
one_word (Client d) = refl
one_word (Worker d) = refl
one_word (Op d) = refl
one_word (Node d n) = refl

-- where a declaration is the next, it fits
pub next_fits : (b : Bounds) (v : ℕ) (before : List Declaration) (d : Declaration) (ds : List Declaration) → Sound b (before ++ d ∷ ds) → Fits b (seen_in v before) d
next_fits b v before d ds s = record {
  room = let few = s.few (word_of d) in let e = total-append (one_of (word_of d)) before (d ∷ ds) in let one = one_word d in omega (arith, few, e, one);
  free = free_of b.twice (is_known (seen_in v before) d) (λ once. known_is v before d ∙ any_none (λ e. same_name e d) before (distinct_new before d ds (s.apart once)));
  terms = let few = s.terms in let e = total-append terms_of before (d ∷ ds) in omega (arith, few, e);
}
