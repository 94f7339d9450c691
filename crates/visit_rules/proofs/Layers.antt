-- A term visited again, told by its own layer.
use Rattle.std.proofs.Common.{◌≡◌, ℕ, List, Option, Some, None, true, false, refl, ap, sym, ◌∙◌}
use Rattle.term_core.specs.Evaluation.{Bound, Context}
use Rattle.term_core.specs.declared.program.Term.{Term, Term-F, out-Term, out-roll-Term, map-Term, fold_out-Term}
use Rattle.term_core.specs.declared.program.Term.TheVariants as term
use Rattle.visit_rules.specs.Again.{Again, Redo, again_by, again_step, kept_or, parts_over, renewed, visit_over}
use Rattle.visit_rules.specs.Tables.{direct_parts}
use Rattle.visit_rules.specs.Visits.{Test, passes}
use Rattle.visit_rules.specs.declared.visit.Visit.{Visit}

layer_is : (test : Test) (given : Context) (x : Term-F Term) (t : Term) → out-Term t ≡ x → (old : Option Visit) (bound : Bound) →
    renewed given (map-Term Term Redo (again_by test given) x) old bound ≡ visit_over test given t old bound (parts_over test given t old bound)
layer_is test given (Term-F.Return v) t e old bound = rw e refl
layer_is test given (Term-F.Fail kind m) t e old bound = rw e refl
layer_is test given (Term-F.Input n) t e old bound = rw e refl
layer_is test given (Term-F.Node n) t e old bound = rw e refl
layer_is test given (Term-F.Var n) t e old bound = rw e refl
layer_is test given (Term-F.Map f u) t e old bound = rw e refl
layer_is test given (Term-F.Pair a b) t e old bound = rw e refl
layer_is test given (Term-F.Bind n u w) t e old bound = rw e refl
layer_is test given (Term-F.ListMap n u w) t e old bound = rw e refl
layer_is test given (Term-F.ListIter n u w) t e old bound = rw e refl
layer_is test given (Term-F.Catch u) t e old bound = rw e refl
layer_is test given (Term-F.State u) t e old bound = rw e refl
layer_is test given (Term-F.Gate on u) t e old bound = rw e refl
layer_is test given (Term-F.All ts) t e old bound = rw e refl
layer_is test given (Term-F.Build op k) t e old bound = rw e refl
layer_is test given (Term-F.Output op k v) t e old bound = rw e refl

pub again_is : (test : Test) (given : Context) (t : Term) (old : Option Visit) (bound : Bound) →
    again_by test given t old bound ≡ kept_or test old (visit_over test given t old bound (parts_over test given t old bound))
again_is test given t old bound =
    ap (λ (f : Redo). f old bound) (fold_out-Term Redo (again_step test given) t)
    ∙ ap (λ (a : Again). kept_or test old a) (layer_is test given (out-Term t) t refl old bound)

pub again_new : (test : Test) (given : Context) (t : Term) (bound : Bound) → again_by test given t None bound ≡ visit_over test given t None bound (parts_over test given t None bound)
again_new test given t bound = again_is test given t None bound

pub again_passes : (test : Test) (given : Context) (t : Term) (v : Visit) (bound : Bound) → passes test v ≡ true →
    again_by test given t (Some v) bound ≡ visit_over test given t (Some v) bound (parts_over test given t (Some v) bound)
again_passes test given t v bound h = again_is test given t (Some v) bound ∙ rw h refl

pub again_kept : (test : Test) (given : Context) (t : Term) (v : Visit) (bound : Bound) → passes test v ≡ false → again_by test given t (Some v) bound ≡ record { visit = v; ticks = 0 }
again_kept test given t v bound h = again_is test given t (Some v) bound ∙ rw h refl

pub parts_all : (ts : List Term) → direct_parts (out-Term (term.All ts)) ≡ ts
parts_all ts = ap (λ (t : Term). direct_parts (out-Term t)) (sym (term.rolls-All ts)) ∙ ap direct_parts (out-roll-Term (Term-F.All ts))

pub out_output : (op : List ℕ) (k v : Term) → out-Term (term.Output op k v) ≡ Term-F.Output op k v
out_output op k v = ap out-Term (sym (term.rolls-Output op k v)) ∙ out-roll-Term (Term-F.Output op k v)

pub out_bind : (n : List ℕ) (t u : Term) → out-Term (term.Bind n t u) ≡ Term-F.Bind n t u
out_bind n t u = ap out-Term (sym (term.rolls-Bind n t u)) ∙ out-roll-Term (Term-F.Bind n t u)

pub out_list_map : (n : List ℕ) (t u : Term) → out-Term (term.ListMap n t u) ≡ Term-F.ListMap n t u
out_list_map n t u = ap out-Term (sym (term.rolls-ListMap n t u)) ∙ out-roll-Term (Term-F.ListMap n t u)

pub out_list_iter : (n : List ℕ) (t u : Term) → out-Term (term.ListIter n t u) ≡ Term-F.ListIter n t u
out_list_iter n t u = ap out-Term (sym (term.rolls-ListIter n t u)) ∙ out-roll-Term (Term-F.ListIter n t u)
