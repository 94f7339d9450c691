use Rattle.std.proofs.Common.{◌≡◌, ℕ, Bool, List, ◌+◌, ◌∷◌, ◌++◌, drop, map, ap, sym, subst, ◌∙◌}
use Rattle.std.specs.Prelude.{OnOk}
use Rattle.std.specs.List.{flat_map}
use Rattle.value_core.specs.declared.token.Token.{Token}
use Rattle.value_core.specs.declared.token.Token.TheVariants.{Name}
use Rattle.term_core.specs.declared.program.Term.{Term}
use Rattle.pipe_text.specs.declared.words.BodyWord.TheVariants as word
use Rattle.pipe_text.specs.Grammar.{form}
use Rattle.pipe_text.specs.Printing.{after, term_tokens}
use Rattle.pipe_text.proofs.Printings.{next_term, list_map_tokens, list_iter_tokens}
use Rattle.pipe_text.proofs.printing.+printing.Goals as goal

pub put_terms-loop-term-preserved : goal.put_terms-loop-term-preserved
put_terms-loop-term-preserved t c =
    ap (λ (s : List ℕ × Bool). after s (flat_map (λ (ks : List Token). ks) (map term_tokens (drop (c.loop-term.term-index + 1) c.args.terms.now)))) c.in_ok-put_term.ensures
    ∙ next_term c.loop-term.printer c.term-item.result c.args.terms.now c.loop-term.term-index c.loop-term-test.true c.term-item.is ∙ c.loop-term.invariant

pub put_term-returns-in-ListMap : goal.put_term-returns-in-ListMap
put_term-returns-in-ListMap t c =
    rw c.in-ListMap.is (subst (λ (ks : List Token). OnOk c.put_under-in-ListMap.result (c.put_under-in-ListMap.new.printer ≡ after c.args.printer.now ks)) (sym (list_map_tokens c.in-ListMap.name c.in-ListMap.list c.in-ListMap.body))
    (subst (λ (a : Term). OnOk c.put_under-in-ListMap.result (c.put_under-in-ListMap.new.printer ≡ after c.args.printer.now (form word.ListMap (Name c.in-ListMap.name ∷ (term_tokens a ++ term_tokens c.in-ListMap.body))))) c.get-in-ListMap.ensures
    (subst (λ (b : Term). OnOk c.put_under-in-ListMap.result (c.put_under-in-ListMap.new.printer ≡ after c.args.printer.now (form word.ListMap (Name c.in-ListMap.name ∷ (term_tokens c.get-in-ListMap.result.now ++ term_tokens b))))) c.get-in-ListMap-2.ensures c.put_under-in-ListMap.ensures)))

pub put_term-returns-in-ListIter : goal.put_term-returns-in-ListIter
put_term-returns-in-ListIter t c =
    rw c.in-ListIter.is (subst (λ (ks : List Token). OnOk c.put_under-in-ListIter.result (c.put_under-in-ListIter.new.printer ≡ after c.args.printer.now ks)) (sym (list_iter_tokens c.in-ListIter.name c.in-ListIter.list c.in-ListIter.body))
    (subst (λ (a : Term). OnOk c.put_under-in-ListIter.result (c.put_under-in-ListIter.new.printer ≡ after c.args.printer.now (form word.ListIter (Name c.in-ListIter.name ∷ (term_tokens a ++ term_tokens c.in-ListIter.body))))) c.get-in-ListIter.ensures
    (subst (λ (b : Term). OnOk c.put_under-in-ListIter.result (c.put_under-in-ListIter.new.printer ≡ after c.args.printer.now (form word.ListIter (Name c.in-ListIter.name ∷ (term_tokens c.get-in-ListIter.result.now ++ term_tokens b))))) c.get-in-ListIter-2.ensures c.put_under-in-ListIter.ensures)))
