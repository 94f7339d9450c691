-- The nodes of an opening, taken over one after the other.
use Rattle.std.proofs.Common.{◌≡◌, ℕ, ◌+◌, ◌≤◌, List, [], ◌∷◌, ◌++◌, length, drop, append_assoc, Some, ap, sym, ◌∙◌, add-one}
use Rattle.std.specs.Prelude.{slice_get}
use Rattle.value_core.specs.declared.state.State.{State}
use Rattle.core_rules.specs.Replies.{changed_from}
use Rattle.job_core.proofs.Merging.{append_none, drop_all, drop_get}

-- one more
pub taken_next : (ss : List State) (n : ℕ) (s : State) (all all' whole : List (ℕ × State)) → slice_get ss n ≡ Some s → all' ≡ all ++ (n, s) ∷ [] →
    all ++ changed_from n [] (drop n ss) ≡ whole → all' ++ changed_from (n + 1) [] (drop (n + 1) ss) ≡ whole
taken_next ss n s all all' whole e is h =
    ap (λ xs. xs ++ changed_from (n + 1) [] (drop (n + 1) ss)) is
    ∙ append_assoc all ((n, s) ∷ []) (changed_from (n + 1) [] (drop (n + 1) ss))
    ∙ ap (λ xs. all ++ changed_from n [] xs) (sym (drop_get ss n (n + 1) s (add-one n) e)) ∙ h

-- all of them
pub taken_all : (ss : List State) (n : ℕ) (all whole : List (ℕ × State)) → length ss ≤ n → all ++ changed_from n [] (drop n ss) ≡ whole → all ≡ whole
taken_all ss n all whole l h = sym (ap (λ xs. all ++ changed_from n [] xs) (drop_all ss n l) ∙ append_none all) ∙ h
