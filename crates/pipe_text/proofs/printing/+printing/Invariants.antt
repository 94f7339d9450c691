use Rattle.std.proofs.Common.{◌≡◌, List, ◌+◌, ◌*◌, max, drop, map}
use Rattle.std.specs.List.{flat_map}
use Rattle.value_core.specs.declared.token.Token.{Token}
use Rattle.term_core.specs.declared.program.Term.{size-Term}
use Rattle.pipe_text.specs.Printing.{after, term_tokens}
use Rattle.pipe_text.proofs.printing.+printing.Given as goal

abbrev pub decreases-put_term : goal.decreases-put_term
decreases-put_term l = 3 * size-Term l.term.now

abbrev pub decreases-put_map : goal.decreases-put_map
decreases-put_map l = 3 * size-Term l.term.now + 1

abbrev pub decreases-put_one : goal.decreases-put_one
decreases-put_one l = 3 * size-Term l.term.now + 1

abbrev pub decreases-put_keyed : goal.decreases-put_keyed
decreases-put_keyed l = 3 * size-Term l.key.now + 1

abbrev pub decreases-put_two : goal.decreases-put_two
decreases-put_two l = 3 * max (size-Term l.a.now) (size-Term l.b.now) + 1

abbrev pub decreases-put_under : goal.decreases-put_under
decreases-put_under l = 3 * max (size-Term l.a.now) (size-Term l.b.now) + 1

abbrev pub decreases-put_all : goal.decreases-put_all
decreases-put_all l = 3 * goal.size-put_all l + 2

abbrev pub decreases-put_terms : goal.decreases-put_terms
decreases-put_terms l = 3 * goal.size-put_terms l + 1

abbrev pub invariant-put_terms-loop-term : goal.invariant-put_terms-loop-term
invariant-put_terms-loop-term l = after l.printer (flat_map (λ (ks : List Token). ks) (map term_tokens (drop l.term-index l.terms))) ≡ after l.initial.printer (flat_map (λ (ks : List Token). ks) (map term_tokens l.terms))
