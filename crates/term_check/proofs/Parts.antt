-- The parts of a term of several terms, and the numbers of declarations, one after the other.
use Rattle.std.proofs.Common.{◌≡◌, ℕ, ◌+◌, List, [], ◌∷◌, ◌++◌, map, Bool, true, false, cond, Option, Some, drop, ap, sym, ◌∙◌, append_assoc}
use Rattle.std.specs.Prelude.{◌||◌}
use Rattle.std.specs.List.{filter, list_any}
use Rattle.value_core.proofs.Basics.{any_mapped}
use Rattle.op_keys.specs.declared.declarations.OpDecl.{OpDecl}
use Rattle.op_keys.specs.declared.level.Level.{Level}
use Rattle.term_core.specs.Limits.{parts_of}
use Rattle.term_core.specs.declared.program.Term.{Term, Term-F, fold-roll-Term}
use Rattle.term_core.specs.declared.program.Term.TheVariants as term
use Rattle.term_check.specs.Reports.{greatest_level, has_body, higher, names_here, numbers_where, some_term}
use Rattle.term_check.specs.declared.report.Role.{Role}

pub names_all : (r : Role) (n : List ℕ) (ts : List Term) → some_term (names_here r n) (term.All ts) ≡ list_any (some_term (names_here r n)) ts
names_all r n ts =
    ap (some_term (names_here r n)) (sym (term.rolls-All ts))
    ∙ fold-roll-Term Bool (λ x. names_here r n x || list_any (λ b. b) (parts_of x)) (Term-F.All ts)
    ∙ any_mapped (some_term (names_here r n)) ts

pub bodies_all : (ts : List Term) → some_term has_body (term.All ts) ≡ list_any (some_term has_body) ts
bodies_all ts =
    ap (some_term has_body) (sym (term.rolls-All ts))
    ∙ fold-roll-Term Bool (λ x. has_body x || list_any (λ b. b) (parts_of x)) (Term-F.All ts)
    ∙ any_mapped (some_term has_body) ts

-- one number more, where the declaration passes the test
pub number_taken : {D : Type 0} (test : D → Bool) (ds : List D) (at : ℕ) (d : D) (ns : List ℕ) → drop at ds ≡ d ∷ drop (at + 1) ds → test d ≡ true → (ns ++ at ∷ []) ++ numbers_where test (at + 1) (drop (at + 1) ds) ≡ ns ++ numbers_where test at (drop at ds)
number_taken test ds at d ns cons is =
    append_assoc ns (at ∷ []) (numbers_where test (at + 1) (drop (at + 1) ds))
    ∙ ap (λ (b : Bool). ns ++ cond b (at ∷ numbers_where test (at + 1) (drop (at + 1) ds)) (numbers_where test (at + 1) (drop (at + 1) ds))) (sym is)
    ∙ ap (λ xs. ns ++ numbers_where test at xs) (sym cons)

pub number_left : {D : Type 0} (test : D → Bool) (ds : List D) (at : ℕ) (d : D) (ns : List ℕ) → drop at ds ≡ d ∷ drop (at + 1) ds → test d ≡ false → ns ++ numbers_where test (at + 1) (drop (at + 1) ds) ≡ ns ++ numbers_where test at (drop at ds)
number_left test ds at d ns cons is =
    ap (λ (b : Bool). ns ++ cond b (at ∷ numbers_where test (at + 1) (drop (at + 1) ds)) (numbers_where test (at + 1) (drop (at + 1) ds))) (sym is)
    ∙ ap (λ xs. ns ++ numbers_where test at xs) (sym cons)

-- one level more, where the operation passes the test
pub level_taken : (test : OpDecl → Bool) (ds : List OpDecl) (at : ℕ) (d : OpDecl) (found : Option Level) → drop at ds ≡ d ∷ drop (at + 1) ds → test d ≡ true →
    greatest_level (Some (higher found d.level)) (map (λ d. d.level) (filter test (drop (at + 1) ds))) ≡ greatest_level found (map (λ d. d.level) (filter test (drop at ds)))
level_taken test ds at d found cons is =
    ap (λ (b : Bool). greatest_level found (map (λ d. d.level) (cond b (d ∷ filter test (drop (at + 1) ds)) (filter test (drop (at + 1) ds))))) (sym is)
    ∙ ap (λ xs. greatest_level found (map (λ d. d.level) (filter test xs))) (sym cons)

pub level_left : (test : OpDecl → Bool) (ds : List OpDecl) (at : ℕ) (d : OpDecl) (found : Option Level) → drop at ds ≡ d ∷ drop (at + 1) ds → test d ≡ false →
    greatest_level found (map (λ d. d.level) (filter test (drop (at + 1) ds))) ≡ greatest_level found (map (λ d. d.level) (filter test (drop at ds)))
level_left test ds at d found cons is =
    ap (λ (b : Bool). greatest_level found (map (λ d. d.level) (cond b (d ∷ filter test (drop (at + 1) ds)) (filter test (drop (at + 1) ds))))) (sym is)
    ∙ ap (λ xs. greatest_level found (map (λ d. d.level) (filter test xs))) (sym cons)
