-- Readers that look no further than the token in hand, at these bounds and at wider ones.
use Rattle.std.proofs.Common.{◌≡◌, ℕ, Bool, true, false, List, [], ◌∷◌, ◌++◌, Result, refl, sym, ap, subst, ◌∙◌, append_assoc, inl, inr}
use Rattle.std.specs.Prelude.{Ok, Err, ◌⊎◌}
use Rattle.value_core.specs.declared.token.Token.{Token}
use Rattle.value_core.specs.declared.lexing.TokenAt.{TokenAt}
use Rattle.pipe_text.specs.declared.fault.Fault.{Fault}
use Rattle.pipe_text.specs.declared.fault.Fault.TheVariants.{Lex, Syntax, Limit, Duplicate}
use Rattle.value_core.specs.declared.lexing.Stop.{Stop}
use Rattle.value_core.specs.Literals.{tokens_in}
use Rattle.pipe_text.specs.inside.Readers.{◌>>=◌, Reader, fault_of, give, seq, Choice, go, branch, peek, next_passes}
use Rattle.pipe_text.specs.LimitTable.{number_of}
use Rattle.pipe_text.specs.inside.FileReading.{Bounds}
use Rattle.pipe_text.specs.FirstFault.{Begins, GoesOn}
use Rattle.pipe_text.proofs.Exactly.{tokens_in-append}
use Rattle.pipe_text.proofs.Finding.{bind_ok, Nothing, Then, Either, ok_is}
use Rattle.pipe_text.proofs.Wider.{Wider, Up, wider_refl, up_refl}

-- both go on with the same token
abbrev pub SameToken : List TokenAt → List TokenAt → Type 0
SameToken xs ys = (t : TokenAt) × (x y : List TokenAt) × (xs ≡ t ∷ x) × (ys ≡ t ∷ y)

-- both go on with the same token, or stop there alike
abbrev pub SameNext : Stop → List TokenAt → Stop → List TokenAt → Type 0
SameNext s xs r ys = SameToken xs ys ⊎ ((xs ≡ []) × (ys ≡ []) × (s ≡ r))

pub same_self : (s : Stop) (xs : List TokenAt) → SameNext s xs s xs
same_self s [] = inr (refl, refl, refl)
same_self s (t ∷ xs) = inl (t, xs, xs, refl, refl)

-- what the language says of a fault at a token
abbrev pub Says : {A : Type 0} → (A → List Token → Type 0) → List Token → TokenAt → Fault → Type 0
Says G ks t (Lex p) = ⊥
Says G ks t (Syntax p) = (p ≡ t.offset) × Begins G ks
Says G ks t (Limit m n p) = (p ≡ t.offset) × (n ≡ number_of m) × GoesOn G (ks ++ t.token ∷ [])
Says G ks t (Duplicate n p) = (p ≡ t.offset) × GoesOn G (ks ++ t.token ∷ [])

abbrev pub Taken : {A : Type 0} → Bounds → (Bounds → Reader A) → (A → List Token → Type 0) → Stop → List TokenAt → A → List TokenAt → Type 0
Taken b r G s ts a rest = (front : List TokenAt) × (ts ≡ front ++ rest) × G a (tokens_in front)
    × ((e : Bounds) (s' : Stop) (rest' : List TokenAt) → Wider b e → SameNext s rest s' rest' → r e s' (front ++ rest') ≡ Ok (a, rest'))

abbrev pub AtToken : {A : Type 0} → Bounds → (Bounds → Reader A) → (A → List Token → Type 0) → List TokenAt → Fault → Type 0
AtToken b r G ts f = (front : List TokenAt) × (t : TokenAt) × (after : List TokenAt) × (ts ≡ front ++ t ∷ after) × Says G (tokens_in front) t f
    × ((e : Bounds) (s : Stop) (after' : List TokenAt) → Up f b e → r e s (front ++ t ∷ after') ≡ Err f)

abbrev pub Ended : {A : Type 0} → Bounds → (Bounds → Reader A) → (A → List Token → Type 0) → Stop → List TokenAt → Fault → Type 0
Ended b r G s ts f = (f ≡ fault_of s) × Begins G (tokens_in ts) × ((e : Bounds) → Wider b e → r e s ts ≡ Err f)

pub record Local {A : Type 0} (b : Bounds) (r : Bounds → Reader A) (G : A → List Token → Type 0) : Type 0 where
  pub ok : (s : Stop) (ts : List TokenAt) (a : A) (rest : List TokenAt) → r b s ts ≡ Ok (a, rest) → Taken b r G s ts a rest
  pub err : (s : Stop) (ts : List TokenAt) (f : Fault) → r b s ts ≡ Err f → Ended b r G s ts f ⊎ AtToken b r G ts f

pub bind_err : {A B : Type 0} (r : Result A Fault) (g : A → Result B Fault) (f : Fault) → (r >>= g) ≡ Err f → (r ≡ Err f) ⊎ ((x : A) × (r ≡ Ok x) × (g x ≡ Err f))
bind_err {A} (Ok x) g f e = inr (x, refl, e)
bind_err (Err d) g f e = inl cc

pub err_stays : {A B : Type 0} (r : Result A Fault) (g : A → Result B Fault) (f : Fault) → r ≡ Err f → (r >>= g) ≡ Err f
err_stays (Ok x) g f e = absurd cc
err_stays (Err d) g f e = cc

pub ok_goes : {A B : Type 0} (r : Result A Fault) (g : A → Result B Fault) (x : A) (y : Result B Fault) → r ≡ Ok x → g x ≡ y → (r >>= g) ≡ y
ok_goes {A} (Ok z) g x y e h = let same : z ≡ x = cc in ap g same ∙ h
ok_goes (Err d) g x y e h = absurd cc

-- ---- a language in wider words

pub says_wider : {A B : Type 0} (G : A → List Token → Type 0) (H : B → List Token → Type 0) (pre : List Token) (t : TokenAt) (f : Fault) (ks : List Token)
    → (Begins G ks → Begins H (pre ++ ks)) → (GoesOn G (ks ++ t.token ∷ []) → GoesOn H (pre ++ (ks ++ t.token ∷ []))) → Says G ks t f → Says H (pre ++ ks) t f
says_wider G H pre t (Lex p) ks x y l = l
says_wider G H pre t (Syntax p) ks x y (is, l) = (is, x l)
says_wider G H pre t (Limit m n p) ks x y (is, num, l) = (is, num, rw (append_assoc pre ks (t.token ∷ [])) (y l))
says_wider G H pre t (Duplicate n p) ks x y (is, l) = (is, rw (append_assoc pre ks (t.token ∷ [])) (y l))

abbrev pub Implies : {A : Type 0} → (A → List Token → Type 0) → (A → List Token → Type 0) → Type 0
Implies {A} G H = (a : A) (ks : List Token) → G a ks → H a ks

begins_to : {A : Type 0} (G H : A → List Token → Type 0) → Implies G H → (ks : List Token) → Begins G ks → Begins H ks
begins_to G H to ks (a, k, rest, g) = (a, k, rest, to a (ks ++ k ∷ rest) g)

goes_to : {A : Type 0} (G H : A → List Token → Type 0) → Implies G H → (ks : List Token) → GoesOn G ks → GoesOn H ks
goes_to G H to ks (a, rest, g) = (a, rest, to a (ks ++ rest) g)

pub local_same : {A : Type 0} (b : Bounds) (r : Bounds → Reader A) (G H : A → List Token → Type 0) → Local b r G → Implies G H → Local b r H
local_same b r G H x to = record {
  ok = λ s ts a rest e. let o = x.ok s ts a rest e in (o.0, o.1, to a (tokens_in o.0) o.2, o.3);
  err = λ s ts f e. elim (x.err s ts f e) [
    | inl (is, begins, all) ↦ inl (is, begins_to G H to _ begins, all)
    | inr (front, t, after, parts, says, local) ↦ inr (front, t, after, parts, says_wider G H [] t f (tokens_in front) (begins_to G H to _) (goes_to G H to _) says, local)
  ];
}

-- ---- nothing

nothing_taken : {A : Type 0} (b : Bounds) (a : A) (s : Stop) (ts : List TokenAt) (c : A) (rest : List TokenAt) → give a s ts ≡ Ok (c, rest) → Taken b (λ e. give a) (Nothing a) s ts c rest
nothing_taken {A} b a s ts c rest e =
    let p = ok_is (a, ts) (c, rest) e in
    let same : a ≡ c = ap (λ (x : A × List TokenAt). x.0) p in
    ([], ap (λ (x : A × List TokenAt). x.1) p, (sym same, refl), λ e' s' rest' w n. ap (λ (x : A). Ok (x, rest')) same)

pub local_give : {A : Type 0} (b : Bounds) (a : A) → Local b (λ e. give a) (Nothing a)
local_give b a = record { ok = nothing_taken b a; err = λ s ts f e. absurd cc }

-- ---- one after the other

begins_first : {A B : Type 0} (G : A → List Token → Type 0) (H : A → B → List Token → Type 0) → ((a : A) → (b : B) × (ks : List Token) × H a b ks) → (ks : List Token) → Begins G ks → Begins (Then G H) ks
begins_first G H some ks (a, k, rest, g) = let s = some a in (s.0, k, rest ++ s.1, (a, ks ++ k ∷ rest, s.1, sym (append_assoc ks (k ∷ rest) s.1), g, s.2))

goes_first : {A B : Type 0} (G : A → List Token → Type 0) (H : A → B → List Token → Type 0) → ((a : A) → (b : B) × (ks : List Token) × H a b ks) → (ks : List Token) → GoesOn G ks → GoesOn (Then G H) ks
goes_first G H some ks (a, rest, g) = let s = some a in (s.0, rest ++ s.1, (a, ks ++ rest, s.1, sym (append_assoc ks rest s.1), g, s.2))

begins_second : {A B : Type 0} (G : A → List Token → Type 0) (H : A → B → List Token → Type 0) (a : A) (k1 ks : List Token) → G a k1 → Begins (H a) ks → Begins (Then G H) (k1 ++ ks)
begins_second G H a k1 ks g (b, k, rest, h) = (b, k, rest, (a, k1, ks ++ k ∷ rest, append_assoc k1 ks (k ∷ rest), g, h))

goes_second : {A B : Type 0} (G : A → List Token → Type 0) (H : A → B → List Token → Type 0) (a : A) (k1 ks : List Token) → G a k1 → GoesOn (H a) ks → GoesOn (Then G H) (k1 ++ ks)
goes_second G H a k1 ks g (b, rest, h) = (b, rest, (a, k1, ks ++ rest, append_assoc k1 ks rest, g, h))

pub next_along : (s s' : Stop) (front x y : List TokenAt) (t : TokenAt) → SameNext s (front ++ t ∷ x) s' (front ++ t ∷ y)
next_along s s' [] x y t = inl (t, x, y, refl, refl)
next_along s s' (u ∷ front) x y t = inl (u, front ++ t ∷ x, front ++ t ∷ y, refl, refl)

same_along : (s s' : Stop) (front rest rest' : List TokenAt) → SameNext s rest s' rest' → SameNext s (front ++ rest) s' (front ++ rest')
same_along s s' [] rest rest' n = n
same_along s s' (u ∷ front) rest rest' n = inl (u, front ++ rest, front ++ rest', refl, refl)

-- the reader gives this value somewhere
abbrev pub Possible : {A : Type 0} → Reader A → A → Type 0
Possible r a = (s : Stop) × (ts rest : List TokenAt) × (r s ts ≡ Ok (a, rest))

pub local_seq : {A B : Type 0} (b : Bounds) (r : Bounds → Reader A) (q : Bounds → A → Reader B) (G : A → List Token → Type 0) (H : A → B → List Token → Type 0)
    → ((a : A) → (c : B) × (ks : List Token) × H a c ks) → Local b r G → ((a : A) → Possible (r b) a → Local b (λ e. q e a) (H a)) → Local b (λ e. seq (r e) (q e)) (Then G H)
local_seq {A} {B} b r q G H some x y = record {
  ok = λ s ts c rest e.
      let m = bind_ok (r b s ts) (λ z. q b z.0 s z.1) (c, rest) e in
      let first = x.ok s ts m.0.0 m.0.1 m.1 in
      let second = (y m.0.0 (s, ts, m.0.1, m.1)).ok s m.0.1 c rest m.2 in (
        first.0 ++ second.0,
        first.1 ∙ ap (λ (l : List TokenAt). first.0 ++ l) second.1 ∙ sym (append_assoc first.0 second.0 rest),
        (m.0.0, tokens_in first.0, tokens_in second.0, tokens_in-append first.0 second.0, first.2, second.2),
        λ e' s' rest' w n. rw (append_assoc first.0 second.0 rest') (ok_goes _ _ _ _ (first.3 e' s' (second.0 ++ rest') w (subst (λ (l : List TokenAt). SameNext s l s' (second.0 ++ rest')) (sym second.1) (same_along s s' second.0 rest rest' n))) (second.3 e' s' rest' w n)),
      );
  err = λ s ts f e. elim (bind_err (r b s ts) (λ z. q b z.0 s z.1) f e) [
    | inl one ↦ elim (x.err s ts f one) [
      | inl (is, begins, all) ↦ inl (is, begins_first G H some (tokens_in ts) begins, λ e' w. err_stays _ _ _ (all e' w))
      | inr (front, t, after, parts, says, local) ↦
          inr (front, t, after, parts, says_wider G (Then G H) [] t f (tokens_in front) (begins_first G H some _) (goes_first G H some _) says, λ e' s' after' u. err_stays _ _ _ (local e' s' after' u))
    ]
    | inr (z, good, two) ↦
        let first = x.ok s ts z.0 z.1 good in
        elim ((y z.0 (s, ts, z.1, good)).err s z.1 f two) [
          | inl (is, begins, all) ↦ inl (
            is,
            rw (first.1, tokens_in-append first.0 z.1) (begins_second G H z.0 (tokens_in first.0) (tokens_in z.1) first.2 begins),
            λ e' w. ap (seq (r e') (q e') s) first.1 ∙ ok_goes _ _ _ _ (first.3 e' s z.1 w (same_self s z.1)) (all e' w),
          )
          | inr (front, t, after, parts, says, local) ↦
              inr (
                first.0 ++ front,
                t,
                after,
                first.1 ∙ ap (λ (l : List TokenAt). first.0 ++ l) parts ∙ sym (append_assoc first.0 front (t ∷ after)),
                rw (tokens_in-append first.0 front) (says_wider (H z.0) (Then G H) (tokens_in first.0) t f (tokens_in front) (begins_second G H z.0 (tokens_in first.0) (tokens_in front) first.2) (goes_second G H z.0 (tokens_in first.0) (tokens_in front ++ t.token ∷ []) first.2) says),
                λ e' s' after' u. rw (append_assoc first.0 front (t ∷ after')) (ok_goes _ _ _ _ (first.3 e' s' (front ++ t ∷ after') u.0 (subst (λ (l : List TokenAt). SameNext s l s' (front ++ t ∷ after')) (sym parts) (next_along s s' front after after' t))) (local e' s' after' u)),
              )
        ]
  ];
}

-- ---- by the token in hand

-- At this token there is a fault, at these bounds and at those above that have the limit that it names; or it goes on.
abbrev pub LocalFor : {A : Type 0} → Bounds → (Bounds → Choice A) → (A → List Token → Type 0) → Token → Type 0
LocalFor {A} b o G k = ((p : ℕ → Fault) × ((e : Bounds) (x : ℕ) → Up (p x) b e → o e ≡ Err p) × ((t : TokenAt) → t.token ≡ k → Says G [] t (p t.offset)))
    ⊎ ((r : Bounds → Reader A) × ((e : Bounds) → Wider b e → o e ≡ Ok (r e)) × Local b r (λ a more. G a (k ∷ more)))

go_err : {A : Type 0} (o : Choice A) (p : ℕ → Fault) (offset : ℕ) (s : Stop) (ts : List TokenAt) → o ≡ Err p → go o offset s ts ≡ Err (p offset)
go_err o p offset s ts e = rw e refl

go_on : {A : Type 0} (o : Choice A) (r : Reader A) (offset : ℕ) (s : Stop) (ts : List TokenAt) → o ≡ Ok r → go o offset s ts ≡ r s ts
go_on o r offset s ts e = rw e refl

branch_ok : {A : Type 0} (b : Bounds) (table : Bounds → Token → Choice A) (G : A → List Token → Type 0) → ((k : Token) → LocalFor b (λ e. table e k) G k) → (s : Stop) (ts : List TokenAt) (a : A) (rest : List TokenAt) → branch (table b) s ts ≡ Ok (a, rest) → Taken b (λ e. branch (table e)) G s ts a rest
branch_ok b table G x s [] a rest e = absurd cc
branch_ok {A} b table G x s (t ∷ ts) a rest e = elim (x t.token) [
  | inl (p, is, says) ↦ absurd (let wrong = go_err (table b t.token) p t.offset s ts (is b t.offset (up_refl (p t.offset) b)) in cc)
  | inr (r, is, l) ↦
      let o = l.ok s ts a rest (sym (go_on (table b t.token) (r b) t.offset s ts (is b (wider_refl b))) ∙ e) in
      (t ∷ o.0, ap (λ (y : List TokenAt). t ∷ y) o.1, o.2, λ e' s' rest' w n. go_on (table e' t.token) (r e') t.offset s' (o.0 ++ rest') (is e' w) ∙ o.3 e' s' rest' w n)
]

branch_err : {A : Type 0} (b : Bounds) (table : Bounds → Token → Choice A) (G : A → List Token → Type 0) → Begins G [] → ((k : Token) → LocalFor b (λ e. table e k) G k) → (s : Stop) (ts : List TokenAt) (f : Fault) → branch (table b) s ts ≡ Err f → Ended b (λ e. branch (table e)) G s ts f ⊎ AtToken b (λ e. branch (table e)) G ts f
branch_err b table G some x s [] f e = inl (cc, some, λ e' w. e)
branch_err {A} b table G some x s (t ∷ ts) f e = elim (x t.token) [
  | inl (p, is, says) ↦
      let same : p t.offset ≡ f = let wrong = go_err (table b t.token) p t.offset s ts (is b t.offset (up_refl (p t.offset) b)) in cc in
      inr ([], t, ts, refl, subst (λ (g : Fault). Says G [] t g) same (says t refl), λ e' s' after' u. go_err (table e' t.token) p t.offset s' after' (is e' t.offset (subst (λ (g : Fault). Up g b e') (sym same) u)) ∙ ap (λ (g : Fault). Err g) same)
  | inr (r, is, l) ↦ elim (l.err s ts f (sym (go_on (table b t.token) (r b) t.offset s ts (is b (wider_refl b))) ∙ e)) [
    | inl (stopped, begins, all) ↦ inl (stopped, begins, λ e' w. go_on (table e' t.token) (r e') t.offset s ts (is e' w) ∙ all e' w)
    | inr (front, u, after, parts, says, local) ↦
        inr (t ∷ front, u, after, ap (λ (y : List TokenAt). t ∷ y) parts, says_wider (λ a more. G a (t.token ∷ more)) G (t.token ∷ []) u f (tokens_in front) (λ z. z) (λ z. z) says, λ e' s' after' up. go_on (table e' t.token) (r e') t.offset s' (front ++ u ∷ after') (is e' (up.0)) ∙ local e' s' after' up)
  ]
]

pub local_branch : {A : Type 0} (b : Bounds) (table : Bounds → Token → Choice A) (G : A → List Token → Type 0) → Begins G [] → ((k : Token) → LocalFor b (λ e. table e k) G k) → Local b (λ e. branch (table e)) G
local_branch b table G some x = record { ok = branch_ok b table G x; err = branch_err b table G some x }

give_last : {A : Type 0} (G : A → List Token → Type 0) (k : Token) (a : A) → G a (k ∷ []) → Implies (Nothing a) (λ c more. G c (k ∷ more))
give_last G k a l c more (is, none) = rw (is, none) l

-- the token gives a value
pub for_give : {A : Type 0} (b : Bounds) (o : Bounds → Choice A) (G : A → List Token → Type 0) (k : Token) (a : A) → ((e : Bounds) → Wider b e → o e ≡ Ok (give a)) → G a (k ∷ []) → LocalFor b o G k
for_give b o G k a is l = inr (λ e. give a, is, local_same b (λ e. give a) (Nothing a) (λ c more. G c (k ∷ more)) (local_give b a) (give_last G k a l))

-- no token here goes on so
pub for_syntax : {A : Type 0} (b : Bounds) (o : Bounds → Choice A) (G : A → List Token → Type 0) (k : Token) → Begins G [] → ((e : Bounds) → o e ≡ Err Syntax) → LocalFor b o G k
for_syntax b o G k some is = inl (Syntax, λ e x u. is e, λ t e. (refl, some))

-- ---- by a test of the token in hand

pick_yes : {A : Type 0} (test : Token → Bool) (r q : Reader A) (s : Stop) (ts : List TokenAt) → next_passes test ts ≡ true → peek test r q s ts ≡ r s ts
pick_yes test r q s ts e = rw e refl

pick_no : {A : Type 0} (test : Token → Bool) (r q : Reader A) (s : Stop) (ts : List TokenAt) → next_passes test ts ≡ false → peek test r q s ts ≡ q s ts
pick_no test r q s ts e = rw e refl

-- a test of the token in hand sees the same
same_test : (test : Token → Bool) (s s' : Stop) (front rest rest' : List TokenAt) → SameNext s rest s' rest' → next_passes test (front ++ rest) ≡ next_passes test (front ++ rest')
same_test test s s' [] rest rest' (inl (t, x, y, one_is, two_is)) = rw (one_is, two_is) refl
same_test test s s' [] rest rest' (inr (one_is, two_is, stops)) = rw (one_is, two_is) refl
same_test test s s' (u ∷ front) rest rest' n = refl

pub which : (b : Bool) → (b ≡ true) ⊎ (b ≡ false)
which true = inl refl
which false = inr refl

says_to : {A : Type 0} (G H : A → List Token → Type 0) → Implies G H → (ks : List Token) (t : TokenAt) (f : Fault) → Says G ks t f → Says H ks t f
says_to G H to ks t f l = says_wider G H [] t f ks (begins_to G H to ks) (goes_to G H to _) l

test_kept : (test : Token → Bool) (s s' : Stop) (ts front rest rest' : List TokenAt) (b : Bool) → next_passes test ts ≡ b → ts ≡ front ++ rest → SameNext s rest s' rest' → next_passes test (front ++ rest') ≡ b
test_kept test s s' ts front rest rest' b e parts n = sym (same_test test s s' front rest rest' n) ∙ ap (next_passes test) (sym parts) ∙ e

pub local_peek : {A : Type 0} (b : Bounds) (test : Token → Bool) (r q : Bounds → Reader A) (G H : A → List Token → Type 0) → Local b r G → Local b q H → Local b (λ e. peek test (r e) (q e)) (Either G H)
local_peek {A} b test r q G H x y = record {
  ok = λ s ts a rest e. elim (which (next_passes test ts)) [
    | inl yes_t ↦
        let o = x.ok s ts a rest (sym (pick_yes test (r b) (q b) s ts yes_t) ∙ e) in
        (o.0, o.1, inl o.2, λ e' s' rest' w n. pick_yes test (r e') (q e') s' (o.0 ++ rest') (test_kept test s s' ts o.0 rest rest' true yes_t o.1 n) ∙ o.3 e' s' rest' w n)
    | inr no_t ↦
        let o = y.ok s ts a rest (sym (pick_no test (r b) (q b) s ts no_t) ∙ e) in
        (o.0, o.1, inr o.2, λ e' s' rest' w n. pick_no test (r e') (q e') s' (o.0 ++ rest') (test_kept test s s' ts o.0 rest rest' false no_t o.1 n) ∙ o.3 e' s' rest' w n)
  ];
  err = λ s ts f e. elim (which (next_passes test ts)) [
    | inl yes_t ↦ elim (x.err s ts f (sym (pick_yes test (r b) (q b) s ts yes_t) ∙ e)) [
      | inl (is, begins, all) ↦ inl (is, begins_to G (Either G H) (λ a ks l. inl l) (tokens_in ts) begins, λ e' w. pick_yes test (r e') (q e') s ts yes_t ∙ all e' w)
      | inr (front, u, after, parts, says, local) ↦ inr (
        front,
        u,
        after,
        parts,
        says_to G (Either G H) (λ a ks l. inl l) (tokens_in front) u f says,
        λ e' s' after' up. pick_yes test (r e') (q e') s' (front ++ u ∷ after') (test_kept test s s' ts front (u ∷ after) (u ∷ after') true yes_t parts (inl (u, after, after', refl, refl))) ∙ local e' s' after' up,
      )
    ]
    | inr no_t ↦ elim (y.err s ts f (sym (pick_no test (r b) (q b) s ts no_t) ∙ e)) [
      | inl (is, begins, all) ↦ inl (is, begins_to H (Either G H) (λ a ks l. inr l) (tokens_in ts) begins, λ e' w. pick_no test (r e') (q e') s ts no_t ∙ all e' w)
      | inr (front, u, after, parts, says, local) ↦ inr (
        front,
        u,
        after,
        parts,
        says_to H (Either G H) (λ a ks l. inr l) (tokens_in front) u f says,
        λ e' s' after' up. pick_no test (r e') (q e') s' (front ++ u ∷ after') (test_kept test s s' ts front (u ∷ after) (u ∷ after') false no_t parts (inl (u, after, after', refl, refl))) ∙ local e' s' after' up,
      )
    ]
  ];
}

-- ---- at bounds that are changed on the way

pub local_at : {A : Type 0} (b : Bounds) (change : Bounds → Bounds) (r : Bounds → Reader A) (G : A → List Token → Type 0) → ((e : Bounds) → Wider b e → Wider (change b) (change e)) → ((f : Fault) (e : Bounds) → Up f b e → Up f (change b) (change e)) → Local (change b) r G → Local b (λ e. r (change e)) G
local_at b change r G wide up x = record {
  ok = λ s ts a rest e. let o = x.ok s ts a rest e in (o.0, o.1, o.2, λ e' s' rest' w n. o.3 (change e') s' rest' (wide e' w) n);
  err = λ s ts f e. elim (x.err s ts f e) [
    | inl (is, begins, all) ↦ inl (is, begins, λ e' w. all (change e') (wide e' w))
    | inr (front, t, after, parts, says, local) ↦ inr (front, t, after, parts, says, λ e' s' after' u. local (change e') s' after' (up f e' u))
  ];
}

pub local_eq : {A : Type 0} (b : Bounds) (r q : Bounds → Reader A) (G : A → List Token → Type 0) → ((e : Bounds) (s : Stop) (ts : List TokenAt) → r e s ts ≡ q e s ts) → Local b q G → Local b r G
local_eq b r q G same x = record {
  ok = λ s ts a rest e. let o = x.ok s ts a rest (sym (same b s ts) ∙ e) in (o.0, o.1, o.2, λ e' s' rest' w n. same e' s' (o.0 ++ rest') ∙ o.3 e' s' rest' w n);
  err = λ s ts f e. elim (x.err s ts f (sym (same b s ts) ∙ e)) [
    | inl (is, begins, all) ↦ inl (is, begins, λ e' w. same e' s ts ∙ all e' w)
    | inr (front, t, after, parts, says, local) ↦ inr (front, t, after, parts, says, λ e' s' after' u. same e' s' (front ++ t ∷ after') ∙ local e' s' after' u)
  ];
}
