-- The equations of the check of terms, and of the number of terms in a term, a kind of term at a time.
use Rattle.std.proofs.Common.{◌≡◌, ℕ, ◌+◌, ◌≤◌, List, [], ◌∷◌, map, sum, Bool, true, false, Option, refl, ap, sym, ◌∙◌, arith}
use Rattle.value_core.specs.declared.function.Fun.{Fun}
use Rattle.value_core.specs.declared.value.Kind.{Kind}
use Rattle.term_core.specs.Limits.{parts_of, terms_in}
use Rattle.term_core.specs.Soundness.{NamedKind}
use Rattle.term_core.specs.declared.program.Program.{Program}
use Rattle.term_core.specs.declared.program.Term.{Term, Term-F, out-Term, roll-Term, out-roll-Term, map-Term, fold-roll-Term, fold_out-Term}
use Rattle.term_core.specs.declared.program.Term.TheVariants as term
use Rattle.term_check.specs.Typing.{Check, all_from, bind_check, build_check, check_step, gate_check, is_list_layer, list_check, map_check, name_fault, outcome_check, output_check, pair_check, parts_check, parts_verdict, verdict_of}
use Rattle.term_check.specs.Verdicts.{inside, named, nested, sized}
use Rattle.term_check.specs.declared.fault.CheckWhat.{CheckWhat}
use Rattle.term_check.specs.declared.verdict.Position.{Position}

out_at : (x : Term-F Term) (t : Term) → roll-Term x ≡ t → out-Term t ≡ x
out_at x t e = ap out-Term (sym e) ∙ out-roll-Term x

-- ---- own names and lists are told by a layer alone

pub name_mapped : {A B : Type 0} (p : Program) (earlier : List Kind) (f : A → B) (x : Term-F A) (bound : List NamedKind) →
    name_fault p earlier (map-Term A B f x) bound ≡ name_fault p earlier x bound
name_mapped p earlier f (Term-F.Return v) bound = refl
name_mapped p earlier f (Term-F.Fail k m) bound = refl
name_mapped p earlier f (Term-F.Input n) bound = refl
name_mapped p earlier f (Term-F.Node n) bound = refl
name_mapped p earlier f (Term-F.Var n) bound = refl
name_mapped p earlier f (Term-F.Map g t) bound = refl
name_mapped p earlier f (Term-F.Pair a b) bound = refl
name_mapped p earlier f (Term-F.Bind n t u) bound = refl
name_mapped p earlier f (Term-F.ListMap n t u) bound = refl
name_mapped p earlier f (Term-F.ListIter n t u) bound = refl
name_mapped p earlier f (Term-F.Catch t) bound = refl
name_mapped p earlier f (Term-F.State t) bound = refl
name_mapped p earlier f (Term-F.Gate a b) bound = refl
name_mapped p earlier f (Term-F.All ts) bound = refl
name_mapped p earlier f (Term-F.Build op k) bound = refl
name_mapped p earlier f (Term-F.Output op k v) bound = refl

pub list_mapped : {A B : Type 0} (f : A → B) (x : Term-F A) → is_list_layer (map-Term A B f x) ≡ is_list_layer x
list_mapped f (Term-F.Return v) = refl
list_mapped f (Term-F.Fail k m) = refl
list_mapped f (Term-F.Input n) = refl
list_mapped f (Term-F.Node n) = refl
list_mapped f (Term-F.Var n) = refl
list_mapped f (Term-F.Map g t) = refl
list_mapped f (Term-F.Pair a b) = refl
list_mapped f (Term-F.Bind n t u) = refl
list_mapped f (Term-F.ListMap n t u) = refl
list_mapped f (Term-F.ListIter n t u) = refl
list_mapped f (Term-F.Catch t) = refl
list_mapped f (Term-F.State t) = refl
list_mapped f (Term-F.Gate a b) = refl
list_mapped f (Term-F.All ts) = refl
list_mapped f (Term-F.Build op k) = refl
list_mapped f (Term-F.Output op k v) = refl

-- ---- the check of a term by its outermost layer

pub verdict_of_is : (p : Program) (earlier : List Kind) (t : Term) (bound : List NamedKind) (s : Position) →
    verdict_of p earlier t bound s ≡ named (name_fault p earlier (out-Term t) bound) s.at (nested (is_list_layer (out-Term t)) s (sized s.at (parts_verdict p earlier t bound (inside s))))
verdict_of_is p earlier t bound s =
    ap (λ (f : Check). f bound s) (fold_out-Term Check (check_step p earlier) t)
    ∙ ap (λ (w : Option CheckWhat). named w s.at (nested (is_list_layer (map-Term Term Check (verdict_of p earlier) (out-Term t))) s (sized s.at (parts_verdict p earlier t bound (inside s))))) (name_mapped p earlier (verdict_of p earlier) (out-Term t) bound)
    ∙ ap (λ (b : Bool). named (name_fault p earlier (out-Term t) bound) s.at (nested b s (sized s.at (parts_verdict p earlier t bound (inside s))))) (list_mapped (verdict_of p earlier) (out-Term t))

-- ---- the check of a term's parts

parts_at : (p : Program) (earlier : List Kind) (x : Term-F Term) (t : Term) → roll-Term x ≡ t → (bound : List NamedKind) (s : Position) →
    parts_verdict p earlier t bound s ≡ parts_check p earlier (map-Term Term Check (verdict_of p earlier) x) bound s
parts_at p earlier x t e bound s = ap (λ (y : Term-F Term). parts_check p earlier (map-Term Term Check (verdict_of p earlier) y) bound s) (out_at x t e)

pub map_parts : (p : Program) (earlier : List Kind) (f : Fun) (t : Term) (bound : List NamedKind) (s : Position) →
    parts_verdict p earlier (term.Map f t) bound s ≡ map_check f (verdict_of p earlier t) bound s
map_parts p earlier f t bound s = parts_at p earlier (Term-F.Map f t) (term.Map f t) (term.rolls-Map f t) bound s

pub pair_parts : (p : Program) (earlier : List Kind) (a b : Term) (bound : List NamedKind) (s : Position) →
    parts_verdict p earlier (term.Pair a b) bound s ≡ pair_check (verdict_of p earlier a) (verdict_of p earlier b) bound s
pair_parts p earlier a b bound s = parts_at p earlier (Term-F.Pair a b) (term.Pair a b) (term.rolls-Pair a b) bound s

pub bind_parts : (p : Program) (earlier : List Kind) (n : List ℕ) (t u : Term) (bound : List NamedKind) (s : Position) →
    parts_verdict p earlier (term.Bind n t u) bound s ≡ bind_check n (verdict_of p earlier t) (verdict_of p earlier u) bound s
bind_parts p earlier n t u bound s = parts_at p earlier (Term-F.Bind n t u) (term.Bind n t u) (term.rolls-Bind n t u) bound s

pub list_map_parts : (p : Program) (earlier : List Kind) (n : List ℕ) (t u : Term) (bound : List NamedKind) (s : Position) →
    parts_verdict p earlier (term.ListMap n t u) bound s ≡ list_check true n (verdict_of p earlier t) (verdict_of p earlier u) bound s
list_map_parts p earlier n t u bound s = parts_at p earlier (Term-F.ListMap n t u) (term.ListMap n t u) (term.rolls-ListMap n t u) bound s

pub list_iter_parts : (p : Program) (earlier : List Kind) (n : List ℕ) (t u : Term) (bound : List NamedKind) (s : Position) →
    parts_verdict p earlier (term.ListIter n t u) bound s ≡ list_check false n (verdict_of p earlier t) (verdict_of p earlier u) bound s
list_iter_parts p earlier n t u bound s = parts_at p earlier (Term-F.ListIter n t u) (term.ListIter n t u) (term.rolls-ListIter n t u) bound s

pub catch_parts : (p : Program) (earlier : List Kind) (t : Term) (bound : List NamedKind) (s : Position) →
    parts_verdict p earlier (term.Catch t) bound s ≡ outcome_check (verdict_of p earlier t) bound s
catch_parts p earlier t bound s = parts_at p earlier (Term-F.Catch t) (term.Catch t) (term.rolls-Catch t) bound s

pub state_parts : (p : Program) (earlier : List Kind) (t : Term) (bound : List NamedKind) (s : Position) →
    parts_verdict p earlier (term.State t) bound s ≡ outcome_check (verdict_of p earlier t) bound s
state_parts p earlier t bound s = parts_at p earlier (Term-F.State t) (term.State t) (term.rolls-State t) bound s

pub gate_parts : (p : Program) (earlier : List Kind) (a b : Term) (bound : List NamedKind) (s : Position) →
    parts_verdict p earlier (term.Gate a b) bound s ≡ gate_check (verdict_of p earlier a) (verdict_of p earlier b) bound s
gate_parts p earlier a b bound s = parts_at p earlier (Term-F.Gate a b) (term.Gate a b) (term.rolls-Gate a b) bound s

pub map_apply : {X : Type 0} (f : X → Check) (xs : List X) (bound : List NamedKind) → map (λ m. m bound) (map f xs) ≡ map (λ x. f x bound) xs
map_apply f [] bound = refl
map_apply f (x ∷ xs) bound = ap (λ vs. f x bound ∷ vs) (map_apply f xs bound)

pub all_parts : (p : Program) (earlier : List Kind) (ts : List Term) (bound : List NamedKind) (s : Position) →
    parts_verdict p earlier (term.All ts) bound s ≡ all_from (map (λ t. verdict_of p earlier t bound) ts) s
all_parts p earlier ts bound s =
    parts_at p earlier (Term-F.All ts) (term.All ts) (term.rolls-All ts) bound s ∙ ap (λ vs. all_from vs s) (map_apply (verdict_of p earlier) ts bound)

pub build_parts : (p : Program) (earlier : List Kind) (op : List ℕ) (k : Term) (bound : List NamedKind) (s : Position) →
    parts_verdict p earlier (term.Build op k) bound s ≡ build_check (verdict_of p earlier k) bound s
build_parts p earlier op k bound s = parts_at p earlier (Term-F.Build op k) (term.Build op k) (term.rolls-Build op k) bound s

pub output_parts : (p : Program) (earlier : List Kind) (op : List ℕ) (k v : Term) (bound : List NamedKind) (s : Position) →
    parts_verdict p earlier (term.Output op k v) bound s ≡ output_check (verdict_of p earlier k) (verdict_of p earlier v) bound s
output_parts p earlier op k v bound s = parts_at p earlier (Term-F.Output op k v) (term.Output op k v) (term.rolls-Output op k v) bound s

-- ---- how many terms a term has

terms_at : (x : Term-F Term) (t : Term) → roll-Term x ≡ t → terms_in t ≡ 1 + sum (parts_of (map-Term Term ℕ terms_in x))
terms_at x t e = ap terms_in (sym e) ∙ fold-roll-Term ℕ (λ (y : Term-F ℕ). 1 + sum (parts_of y)) x

pub one_term : (t : Term) → 1 ≤ terms_in t
one_term t = let e : terms_in t ≡ 1 + sum (parts_of (map-Term Term ℕ terms_in (out-Term t))) = fold_out-Term ℕ (λ (y : Term-F ℕ). 1 + sum (parts_of y)) t in omega arith

pub map_terms : (f : Fun) (t : Term) → terms_in (term.Map f t) ≡ 1 + terms_in t
map_terms f t = let e = terms_at (Term-F.Map f t) (term.Map f t) (term.rolls-Map f t) in omega (arith, e)

pub pair_terms : (a b : Term) → terms_in (term.Pair a b) ≡ 1 + (terms_in a + terms_in b)
pair_terms a b = let e = terms_at (Term-F.Pair a b) (term.Pair a b) (term.rolls-Pair a b) in omega (arith, e)

pub bind_terms : (n : List ℕ) (t u : Term) → terms_in (term.Bind n t u) ≡ 1 + (terms_in t + terms_in u)
bind_terms n t u = let e = terms_at (Term-F.Bind n t u) (term.Bind n t u) (term.rolls-Bind n t u) in omega (arith, e)

pub list_map_terms : (n : List ℕ) (t u : Term) → terms_in (term.ListMap n t u) ≡ 1 + (terms_in t + terms_in u)
list_map_terms n t u = let e = terms_at (Term-F.ListMap n t u) (term.ListMap n t u) (term.rolls-ListMap n t u) in omega (arith, e)

pub list_iter_terms : (n : List ℕ) (t u : Term) → terms_in (term.ListIter n t u) ≡ 1 + (terms_in t + terms_in u)
list_iter_terms n t u = let e = terms_at (Term-F.ListIter n t u) (term.ListIter n t u) (term.rolls-ListIter n t u) in omega (arith, e)

pub catch_terms : (t : Term) → terms_in (term.Catch t) ≡ 1 + terms_in t
catch_terms t = let e = terms_at (Term-F.Catch t) (term.Catch t) (term.rolls-Catch t) in omega (arith, e)

pub state_terms : (t : Term) → terms_in (term.State t) ≡ 1 + terms_in t
state_terms t = let e = terms_at (Term-F.State t) (term.State t) (term.rolls-State t) in omega (arith, e)

pub gate_terms : (a b : Term) → terms_in (term.Gate a b) ≡ 1 + (terms_in a + terms_in b)
gate_terms a b = let e = terms_at (Term-F.Gate a b) (term.Gate a b) (term.rolls-Gate a b) in omega (arith, e)

pub all_terms : (ts : List Term) → terms_in (term.All ts) ≡ 1 + sum (map terms_in ts)
all_terms ts = terms_at (Term-F.All ts) (term.All ts) (term.rolls-All ts)

pub build_terms : (op : List ℕ) (k : Term) → terms_in (term.Build op k) ≡ 1 + terms_in k
build_terms op k = let e = terms_at (Term-F.Build op k) (term.Build op k) (term.rolls-Build op k) in omega (arith, e)

pub output_terms : (op : List ℕ) (k v : Term) → terms_in (term.Output op k v) ≡ 1 + (terms_in k + terms_in v)
output_terms op k v = let e = terms_at (Term-F.Output op k v) (term.Output op k v) (term.rolls-Output op k v) in omega (arith, e)

pub ruleset parts_are = (map_parts, pair_parts, bind_parts, list_map_parts, list_iter_parts, catch_parts, state_parts, gate_parts, all_parts, build_parts, output_parts)

pub ruleset terms_are = (map_terms, pair_terms, bind_terms, list_map_terms, list_iter_terms, catch_terms, state_terms, gate_terms, all_terms, build_terms, output_terms)
