-- What a change of one place does to the chains of the scopes.
use Rattle.std.proofs.Common.{◌≡◌, ℕ, ◌==◌, ◌||◌, List, [], ◌∷◌, Option, Some, None, true, false, Bool, refl, ap, sym, ◌∙◌, arith, subst, option_map}
use Rattle.std.proofs.lemmas.Bool.Decides.{nat_tests}
use Rattle.scope_pool.specs.Layout.{Link, IsChain, IsChained, among, is_of}

false-ne-true : false ≡ true → ⊥
false-ne-true h = cc

pub same_number : (n : ℕ) → (n == n) ≡ true
same_number n = grind (arith, nat_tests)

pub equal_of : (m n : ℕ) → (m == n) ≡ true → m ≡ n
equal_of m n e = grind (arith, nat_tests)

pub swapped : (m n : ℕ) → (m == n) ≡ false → (n == m) ≡ false
swapped m n e = grind (arith, nat_tests)

or_more : (a b : Bool) → b ≡ true → (a || b) ≡ true
or_more true b h = refl
or_more false b h = h

either : {P : Type 0} (b : Bool) → (b ≡ true → P) → (b ≡ false → P) → P
either true f g = f refl
either false f g = g refl

-- both say the same everywhere but at one place
abbrev pub AgreeBut : ℕ → (ℕ → Option Link) → (ℕ → Option Link) → Type 0
AgreeBut p old new = (q : ℕ) → (q == p) ≡ false → new q ≡ old q

-- each place of a chain is of its scope
of_scope : (at : ℕ → Option Link) (s : ℕ) (last : Option ℕ) (ps : List ℕ) → IsChain at s last ps → (q : ℕ) → among ps q ≡ true → is_of s (at q) ≡ true
of_scope at s last [] chain q h = absurd (false-ne-true h)
of_scope at s last (p ∷ ps) (first, (before, (here, (apart, chain)))) q h =
    either (p == q)
    (λ e. ap (λ n. is_of s (at n)) (sym (equal_of p q e)) ∙ ap (is_of s) here ∙ same_number s)
    (λ e. of_scope at s before ps chain q (ap (λ b. b || among ps q) (sym e) ∙ h))

-- a chain stays where its places do
chain_kept : (old new : ℕ → Option Link) (s : ℕ) (last : Option ℕ) (ps : List ℕ) → IsChain old s last ps → ((q : ℕ) → among ps q ≡ true → new q ≡ old q) → IsChain new s last ps
chain_kept old new s last [] chain kept = chain
chain_kept old new s last (p ∷ ps) (first, (before, (here, (apart, chain)))) kept =
    (first, (before, (kept p (ap (λ b. b || among ps p) (same_number p)) ∙ here, (apart, chain_kept old new s before ps chain (λ q h. kept q (or_more (p == q) (among ps q) h))))))

-- a chain that says the same at each place
pub chained_same : (old new : ℕ → Option Link) (s : ℕ) (last : Option ℕ) → ((q : ℕ) → new q ≡ old q) → IsChained old s last → IsChained new s last
chained_same old new s last same (ps, (chain, all)) =
    (ps, (chain_kept old new s last ps chain (λ q h. same q), λ q h. all q (ap (is_of s) (sym (same q)) ∙ h)))

-- a place that is of no other scope changes no other chain
pub chained_other : (old new : ℕ → Option Link) (p s : ℕ) (last : Option ℕ) → AgreeBut p old new → is_of s (old p) ≡ false → is_of s (new p) ≡ false → IsChained old s last → IsChained new s last
chained_other old new p s last agree was is (ps, (chain, all)) =
    let differ : (q : ℕ) → is_of s (old q) ≡ true → (q == p) ≡ false =
    λ q h. either (q == p) (λ e. absurd (false-ne-true (sym was ∙ ap (λ n. is_of s (old n)) (sym (equal_of q p e)) ∙ h))) (λ e. e) in
    let differ_now : (q : ℕ) → is_of s (new q) ≡ true → (q == p) ≡ false =
    λ q h. either (q == p) (λ e. absurd (false-ne-true (sym is ∙ ap (λ n. is_of s (new n)) (sym (equal_of q p e)) ∙ h))) (λ e. e) in (
      ps,
      (
        chain_kept old new s last ps chain (λ q h. agree q (differ q (of_scope old s last ps chain q h))),
        λ q h. all q (ap (is_of s) (sym (agree q (differ_now q h))) ∙ h),
      ),
    )

-- an item that is put is the last of its scope
pub chained_put : (old new : ℕ → Option Link) (p s : ℕ) (last : Option ℕ) → AgreeBut p old new → old p ≡ None → new p ≡ Some (record { scope = s; before = last }) → IsChained old s last → IsChained new s (Some p)
chained_put old new p s last agree none is (ps, (chain, all)) =
    let apart : among ps p ≡ false = either (among ps p) (λ e. absurd (false-ne-true (ap (is_of s) (sym none) ∙ of_scope old s last ps chain p e))) (λ e. e) in
    let differ : (q : ℕ) → among ps q ≡ true → (q == p) ≡ false =
    λ q h. either (q == p) (λ e. absurd (false-ne-true (sym apart ∙ ap (among ps) (sym (equal_of q p e)) ∙ h))) (λ e. e) in (
      p ∷ ps,
      (
        (refl, (last, (is, (apart, chain_kept old new s last ps chain (λ q h. agree q (differ q h)))))),
        λ q h. either (q == p)
            (λ e. ap (λ n. n == q || among ps q) (sym (equal_of q p e)) ∙ ap (λ b. b || among ps q) (same_number q))
            (λ e. or_more (p == q) (among ps q) (all q (ap (is_of s) (sym (agree q e)) ∙ h))),
      ),
    )

some_is : (p q : ℕ) → ◌≡◌ {A = Option ℕ} (Some p) (Some q) → p ≡ q
some_is p q e = cc

some_of : (b c : Option ℕ) → ◌≡◌ {A = Option (Option ℕ)} (Some b) (Some c) → b ≡ c
some_of b c e = cc

-- the last item of a scope
pub last_link : (at : ℕ → Option Link) (p s : ℕ) → IsChained at s (Some p) → (before : Option ℕ) × (at p ≡ Some (record { scope = s; before = before }))
last_link at p s ([], (chain, all)) = cc
last_link at p s (q ∷ ps, ((first, (before, (here, rest))), all)) = (before, ap at (some_is p q first) ∙ here)

-- the last item of a scope goes
pub chained_less : (old new : ℕ → Option Link) (p s : ℕ) (before : Option ℕ) → AgreeBut p old new → old p ≡ Some (record { scope = s; before = before }) → new p ≡ None → IsChained old s (Some p) → IsChained new s before
chained_less old new p s before agree was is ([], (chain, all)) = cc
chained_less old new p s before agree was is (q ∷ ps, ((first, (b, (here, (apart, chain)))), all)) =
    let same : p ≡ q = some_is p q first in
    let link : ◌≡◌ {A = Option Link} (Some (record { scope = s; before = b })) (Some (record { scope = s; before = before })) = sym here ∙ ap old (sym same) ∙ was in
    let next : b ≡ before = some_of b before (ap (option_map (λ (l : Link). l.before)) link) in
    let away : among ps p ≡ false = ap (among ps) same ∙ apart in
    let differ : (r : ℕ) → among ps r ≡ true → (r == p) ≡ false =
    λ r h. either (r == p) (λ e. absurd (false-ne-true (sym away ∙ ap (among ps) (sym (equal_of r p e)) ∙ h))) (λ e. e) in
    let others : (r : ℕ) → is_of s (new r) ≡ true → (r == p) ≡ false =
    λ r h. either (r == p) (λ e. absurd (false-ne-true (ap (is_of s) (sym is) ∙ ap (λ n. is_of s (new n)) (sym (equal_of r p e)) ∙ h))) (λ e. e) in (
      ps,
      (
        chain_kept old new s before ps (subst (λ o. IsChain old s o ps) next chain) (λ r h. agree r (differ r h)),
        λ r h. ap (λ c. c || among ps r) (sym (swapped r q (ap (λ n. r == n) (sym same) ∙ others r h))) ∙ all r (ap (is_of s) (sym (agree r (others r h))) ∙ h),
      ),
    )

-- an empty chain leaves no place
pub chained_none : (at : ℕ → Option Link) (s : ℕ) → IsChained at s None → (q : ℕ) → is_of s (at q) ≡ false
chained_none at s ([], (chain, all)) q = either (is_of s (at q)) (λ e. absurd (false-ne-true (all q e))) (λ e. e)
chained_none at s (p ∷ ps, ((first, rest), all)) q = cc
