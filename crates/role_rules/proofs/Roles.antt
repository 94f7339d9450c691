-- Lines of a roles file: what is read is what a line says, and all that lines say is read.
use Rattle.std.proofs.Common.{◌≡◌, ℕ, ◌≤◌, ◌⊎◌, inl, inr, Bool, true, false, cond, List, [], ◌∷◌, ◌++◌, length, refl, arith, sym, ◌∙◌, ap, subst}
use Rattle.std.specs.Prelude.{◌&&◌, ◌==◌, not, nat_lt, codes, Option, Some, None}
use Rattle.std.specs.List.{list_all}
use Rattle.std.specs.Option.{option_map}
use Rattle.std.specs.Str.{bytes_eq}
use Rattle.std.proofs.lemmas.Bool.Decides.{nat_tests}
use Rattle.std.proofs.lemmas.List.Splits.{join_with_byte-slice_split}
use Rattle.role_rules.specs.declared.line.Line.{Line}
use Rattle.role_rules.specs.declared.line.Line.TheVariants.{Nothing, Grants, Anyone}
use Rattle.role_rules.specs.declared.policy.Grant.{Grant}
use Rattle.role_rules.specs.declared.role.Role.{Role}
use Rattle.role_rules.specs.declared.role.Role.TheVariants.{Viewer, Builder, Monitor, Admin}
use Rattle.role_rules.specs.Lines.{IsGrant, Says, anyone_read, by_role, find_role, grant_read, is_visible, is_word, line_read, names_read, role_letters, role_of, scope_read, scope_tokens, spaced, tokens_read}
use Rattle.role_rules.specs.Pieces.{pieces}
use Rattle.role_rules.proofs.Names.{some_read}
use Rattle.value_core.proofs.Basics.{and_parts, bytes_same}
use Rattle.value_core.proofs.Scans.{name_word}
use Rattle.value_core.specs.Names.{is_name, is_word_byte}

-- ---- words

role_is : (r : Role) → role_of (role_letters r) ≡ Some r
unfolding role_of
role_is Viewer = refl
role_is Builder = refl
role_is Monitor = refl
role_is Admin = refl

pick : (n : List ℕ) (v : Role) (b : Bool) (o : Option Role) (r : Role) → bytes_eq n (role_letters v) ≡ b → cond b (Some v) o ≡ Some r → (n ≡ role_letters r) ⊎ (o ≡ Some r)
pick n v true o r t e = let same : v ≡ r = cc in inl (bytes_same n (role_letters v) t ∙ ap role_letters same)
pick n v false o r t e = inr e

found_letters : (rs : List Role) (n : List ℕ) (r : Role) → find_role rs n ≡ Some r → n ≡ role_letters r
found_letters [] n r e = absurd cc
found_letters (v ∷ rs) n r e = elim (pick n v (bytes_eq n (role_letters v)) (find_role rs n) r refl e) [ inl h ↦ h | inr h ↦ found_letters rs n r h ]

letters_are : (n : List ℕ) (r : Role) → role_of n ≡ Some r → n ≡ role_letters r
unfolding role_of
letters_are n r e = found_letters (Viewer ∷ Builder ∷ Monitor ∷ Admin ∷ []) n r e

-- ---- what is read is what the tokens say

names_are : (ns ms : List (List ℕ)) (t : Bool) → nat_lt (length ns) 65 && list_all is_name ns ≡ t → names_read ns ≡ Some ms
    → (ns ≡ ms) × (ms ≡ [] → ⊥) × (list_all is_name ms ≡ true) × (length ms ≤ 64)
names_are [] ms t e h = absurd cc
names_are (n ∷ ns) ms false e h = let none : None ≡ Some ms = rw e at h in absurd cc
names_are (n ∷ ns) ms true e h =
    let some : Some (n ∷ ns) ≡ Some ms = rw e at h in
    let same : n ∷ ns ≡ ms = cc in
    let p = and_parts (nat_lt (length (n ∷ ns)) 65) _ e in
    let few : length (n ∷ ns) ≤ 64 = grind (arith, nat_tests, p.0) in
    (same, λ z. absurd cc, rw (sym same) p.1, rw (sym same) few)

scope_by : (ms : List (List ℕ)) → (ms ≡ [] → ⊥) → codes "on" ∷ ms ≡ scope_tokens ms
scope_by [] some = absurd (some refl)
scope_by (m ∷ ms) some = refl

scope_on : (on : List ℕ) (ps ns : List (List ℕ)) (t : Bool) → bytes_eq on (codes "on") ≡ t → cond t (names_read ps) None ≡ Some ns
    → (on ∷ ps ≡ scope_tokens ns) × (list_all is_name ns ≡ true) × (length ns ≤ 64)
scope_on on ps ns false t e = absurd cc
scope_on on ps ns true t e =
    let h = names_are ps ns _ refl e in
    ((λ i. bytes_same on (codes "on") t i ∷ h.0 i) ∙ scope_by ns h.1, h.2, h.3)

scope_is : (ps ns : List (List ℕ)) → scope_read ps ≡ Some ns
    → (ps ≡ scope_tokens ns) × (list_all is_name ns ≡ true) × (length ns ≤ 64)
scope_is [] ns e = let none : [] ≡ ns = cc in rw (sym none) (refl, refl, omega arith)
scope_is (on ∷ ps) ns e = scope_on on ps ns (bytes_eq on (codes "on")) refl e

-- what tokens say, once a line is cut into them
abbrev Tokens : List (List ℕ) → Line → Type 0
Tokens ps Nothing = ⊥
Tokens ps (Grants g) = (ps ≡ role_letters g.role ∷ g.word ∷ scope_tokens g.names) × IsGrant g
Tokens ps (Anyone r) = ps ≡ codes "anyone" ∷ role_letters r ∷ []

grant_from : (r : Role) (w : List ℕ) (ps : List (List ℕ)) (o : Option (List (List ℕ))) (s : Line) → scope_read ps ≡ o → is_word w ≡ true
    → option_map (λ (ns : List (List ℕ)). Grants (record { role = r; word = w; names = ns })) o ≡ Some s → Tokens (role_letters r ∷ w ∷ ps) s
grant_from r w ps None s e good h = absurd cc
grant_from r w ps (Some ns) s e good h =
    let is : Grants (record { role = r; word = w; names = ns }) ≡ s = cc in
    let p = scope_is ps ns e in
    subst (Tokens (role_letters r ∷ w ∷ ps)) is ((λ i. role_letters r ∷ w ∷ p.0 i), record { word = good; names = p.1; few = p.2 })

grant_word : (r : Role) (w : List ℕ) (ps : List (List ℕ)) (s : Line) (t : Bool) → is_word w ≡ t
    → cond t (option_map (λ (ns : List (List ℕ)). Grants (record { role = r; word = w; names = ns })) (scope_read ps)) None ≡ Some s → Tokens (role_letters r ∷ w ∷ ps) s
grant_word r w ps s false t e = absurd cc
grant_word r w ps s true t e = grant_from r w ps (scope_read ps) s refl t e

grant_tokens : (r : Role) (ps : List (List ℕ)) (s : Line) → grant_read r ps ≡ Some s → Tokens (role_letters r ∷ ps) s
grant_tokens r [] s e = absurd cc
grant_tokens r (w ∷ ps) s e = grant_word r w ps s (is_word w) refl e

anyone_by : (p : List ℕ) (o : Option Role) (s : Line) → role_of p ≡ o → option_map Anyone o ≡ Some s → Tokens (codes "anyone" ∷ p ∷ []) s
anyone_by p None s t e = absurd cc
anyone_by p (Some r) s t e = let is : Anyone r ≡ s = cc in subst (Tokens (codes "anyone" ∷ p ∷ [])) is (λ i. codes "anyone" ∷ letters_are p r t i ∷ [])

anyone_tokens : (ps : List (List ℕ)) (s : Line) → anyone_read ps ≡ Some s → Tokens (codes "anyone" ∷ ps) s
anyone_tokens [] s e = absurd cc
anyone_tokens (p ∷ []) s e = anyone_by p (role_of p) s refl e
anyone_tokens (p ∷ q ∷ ps) s e = absurd cc

role_by : (p : List ℕ) (ps : List (List ℕ)) (o : Option Role) (s : Line) → role_of p ≡ o → by_role o ps ≡ Some s → Tokens (p ∷ ps) s
role_by p ps None s t e = absurd cc
role_by p ps (Some r) s t e = rw (letters_are p r t) (grant_tokens r ps s e)

tokens_by : (p : List ℕ) (ps : List (List ℕ)) (s : Line) (t : Bool) → bytes_eq p (codes "anyone") ≡ t → cond t (anyone_read ps) (by_role (role_of p) ps) ≡ Some s → Tokens (p ∷ ps) s
tokens_by p ps s true t e = rw (bytes_same p (codes "anyone") t) (anyone_tokens ps s e)
tokens_by p ps s false t e = role_by p ps (role_of p) s refl e

tokens_say : (ps : List (List ℕ)) (s : Line) → tokens_read ps ≡ Some s → Tokens ps s
tokens_say [] s e = absurd cc
tokens_say (p ∷ ps) s e = tokens_by p ps s (bytes_eq p (codes "anyone")) refl e

says_tokens : (bytes : List ℕ) (ps : List (List ℕ)) (s : Line) → pieces 32 bytes ≡ ps → Tokens ps s → Says bytes s
says_tokens bytes ps Nothing is h = absurd h
says_tokens bytes ps (Grants g) is h = (sym (join_with_byte-slice_split 32 bytes) ∙ ap spaced (is ∙ h.0), h.1)
says_tokens bytes ps (Anyone r) is h = sym (join_with_byte-slice_split 32 bytes) ∙ ap spaced (is ∙ h)

hash : (b : ℕ) → (b == 35) ≡ true → b ≡ 35
hash b e = grind (arith, nat_tests)

line_by : (b : ℕ) (bs : List ℕ) (s : Line) (t : Bool) → (b == 35) ≡ t → cond t (Some Nothing) (tokens_read (pieces 32 (b ∷ bs))) ≡ Some s → Says (b ∷ bs) s
line_by b bs s true t e = let is : Nothing ≡ s = cc in subst (Says (b ∷ bs)) is (inr (bs, λ i. hash b t i ∷ bs))
line_by b bs s false t e = says_tokens (b ∷ bs) (pieces 32 (b ∷ bs)) s refl (tokens_say (pieces 32 (b ∷ bs)) s e)

-- what is read of a line is what it says
pub line_says : (bytes : List ℕ) (s : Line) → line_read bytes ≡ Some s → Says bytes s
line_says [] s e = let is : Nothing ≡ s = cc in subst (Says []) is (inl refl)
line_says (b ∷ bs) s e = line_by b bs s (b == 35) refl e

-- ---- what lines say is read

abbrev no_space : List ℕ → Bool
no_space t = list_all (λ b. not (b == 32)) t

is_not : (b : Bool) → not b ≡ true → b ≡ false
is_not true e = absurd cc
is_not false e = refl

apart_one : (t : List ℕ) → no_space t ≡ true → pieces 32 t ≡ t ∷ []
apart_one [] e = refl
apart_one (b ∷ bs) e = let p = and_parts (not (b == 32)) _ e in rw (is_not (b == 32) p.0, apart_one bs p.1) refl

apart_more : (t more : List ℕ) → no_space t ≡ true → pieces 32 (t ++ 32 ∷ more) ≡ t ∷ pieces 32 more
apart_more [] more e = refl
apart_more (b ∷ bs) more e = let p = and_parts (not (b == 32)) _ e in rw (is_not (b == 32) p.0, apart_more bs more p.1) refl

pieces_spaced : (t : List ℕ) (ts : List (List ℕ)) → list_all no_space (t ∷ ts) ≡ true → pieces 32 (spaced (t ∷ ts)) ≡ t ∷ ts
pieces_spaced t [] e = apart_one t (and_parts (no_space t) _ e).0
pieces_spaced t (u ∷ ts) e = let p = and_parts (no_space t) _ e in apart_more t (spaced (u ∷ ts)) p.0 ∙ (λ i. t ∷ pieces_spaced u ts p.1 i)

all_weaker : {X : Type 0} (p q : X → Bool) → ((x : X) → p x ≡ true → q x ≡ true) → (xs : List X) → list_all p xs ≡ true → list_all q xs ≡ true
all_weaker p q f [] e = refl
all_weaker p q f (x ∷ xs) e = let h = and_parts (p x) _ e in rw (f x h.0, all_weaker p q f xs h.1) refl

visible_apart : (b : ℕ) → is_visible b ≡ true → not (b == 32) ≡ true
visible_apart b e = grind (arith, nat_tests)

word_byte_apart : (b : ℕ) → is_word_byte b ≡ true → not (b == 32) ≡ true
word_byte_apart b e = grind (arith, nat_tests)

word_apart : (w : List ℕ) → is_word w ≡ true → no_space w ≡ true
word_apart w e = all_weaker is_visible (λ b. not (b == 32)) visible_apart w (and_parts (nat_lt (length w) 257) _ (and_parts (nat_lt 0 (length w)) _ e).1).1

name_apart : (n : List ℕ) → is_name n ≡ true → no_space n ≡ true
name_apart n e = all_weaker is_word_byte (λ b. not (b == 32)) word_byte_apart n (name_word n e)

scope_apart : (ns : List (List ℕ)) → list_all is_name ns ≡ true → list_all no_space (scope_tokens ns) ≡ true
scope_apart [] e = refl
scope_apart (n ∷ ns) e = all_weaker is_name no_space name_apart (n ∷ ns) e

scope_reads : (ns : List (List ℕ)) → list_all is_name ns ≡ true → length ns ≤ 64 → scope_read (scope_tokens ns) ≡ Some ns
scope_reads [] e few = refl
scope_reads (n ∷ ns) e few = some_read n ns few e

grant_reads : (g : Grant) → IsGrant g → grant_read g.role (g.word ∷ scope_tokens g.names) ≡ Some (Grants g)
grant_reads g k = rw (k.word, scope_reads g.names k.names k.few) refl

role_first : (r : Role) (w : List ℕ) (ps : List (List ℕ)) (s : Line) → list_all no_space (w ∷ ps) ≡ true → grant_read r (w ∷ ps) ≡ Some s → line_read (spaced (role_letters r ∷ w ∷ ps)) ≡ Some s
unfolding role_of
role_first Viewer w ps s apart e = ap tokens_read (pieces_spaced (codes "viewer") (w ∷ ps) apart) ∙ e
role_first Builder w ps s apart e = ap tokens_read (pieces_spaced (codes "builder") (w ∷ ps) apart) ∙ e
role_first Monitor w ps s apart e = ap tokens_read (pieces_spaced (codes "monitor") (w ∷ ps) apart) ∙ e
role_first Admin w ps s apart e = ap tokens_read (pieces_spaced (codes "admin") (w ∷ ps) apart) ∙ e

anyone_first : (r : Role) → line_read (spaced (codes "anyone" ∷ role_letters r ∷ [])) ≡ Some (Anyone r)
unfolding role_of
anyone_first Viewer = refl
anyone_first Builder = refl
anyone_first Monitor = refl
anyone_first Admin = refl

-- what a line says is read of it
pub says_read : (bytes : List ℕ) (s : Line) → Says bytes s → line_read bytes ≡ Some s
says_read bytes Nothing h = elim h [ inl e ↦ ap line_read e | inr x ↦ ap line_read x.1 ]
says_read bytes (Grants g) h = ap line_read h.0 ∙ role_first g.role g.word (scope_tokens g.names) (Grants g) (rw (word_apart g.word h.1.word) (scope_apart g.names h.1.names)) (grant_reads g h.1)
says_read bytes (Anyone r) h = ap line_read h ∙ anyone_first r
