-- What a query of one table shows, as a set.
use Rattle.std.proofs.Common.{◌≡◌, inl, inr, ℕ, zero, suc, arith, ◌<◌, Bool, true, false, cond, List, [], ◌∷◌, ◌++◌, map, length, get_or, flat_map, All, refl, sym, ap, subst, ◌∙◌}
use Rattle.std.specs.List.{list_all}
use Rattle.std.specs.List.Sorted.{IsPermutation}
use Rattle.std.proofs.lemmas.List.Sorted.{All-permutation, Contains-permutation}
use Rattle.sqlite.specs.Order.{Row}
use Rattle.sqlite.specs.declared.types.Value.TheVariants.{Null}
use Rattle.sqlite.specs.Term.{Term, Env, eval_all, holds}
use Rattle.sqlite.specs.Query.{Query, IsAnswer, output, Output}
use Rattle.sqlite.specs.Program.{overlay}
use Rattle.sqlite.specs.Effect.{Database, Answers}
use Rattle.sqlite_rules.specs.Lists.{Has}
use Rattle.sqlite_rules.proofs.ListLemmas.{has_right, has_contained, contains_had, has_at}
use Rattle.sqlite_rules.proofs.ProbeLemmas.{has_mapped, mapped_has}
use Rattle.sql_keeper.proofs.Texts.{plain_program, simple}

has_matched : {X Y : Type 0} (p : X → Bool) (f : X → Y) (xs : List X) (y : Y) → Has (flat_map (λ x. cond (p x) (f x ∷ []) []) xs) y → (x : X) × Has xs x × (p x ≡ true) × (y ≡ f x)
has_matched p f [] y h = absurd h
has_matched {X} {Y} p f (x ∷ xs) y h = go (p x) refl h (has_matched p f xs y)
  where
    go : (b : Bool) → p x ≡ b → Has (cond b (f x ∷ []) [] ++ flat_map (λ z. cond (p z) (f z ∷ []) []) xs) y
        → (Has (flat_map (λ z. cond (p z) (f z ∷ []) []) xs) y → (z : X) × Has xs z × (p z ≡ true) × (y ≡ f z)) → (z : X) × Has (x ∷ xs) z × (p z ≡ true) × (y ≡ f z)
    go true is (inl same) later = (x, inl refl, is, same)
    go true is (inr there) later = let r = later there in (r.0, inr r.1, r.2, r.3)
    go false is there later = let r = later there in (r.0, inr r.1, r.2, r.3)

matched_has : {X Y : Type 0} (p : X → Bool) (f : X → Y) (xs : List X) (x : X) → Has xs x → p x ≡ true → Has (flat_map (λ z. cond (p z) (f z ∷ []) []) xs) (f x)
matched_has p f [] x h passes = absurd h
matched_has p f (z ∷ xs) x (inl same) passes = rw (← same, passes) (inl refl)
matched_has p f (z ∷ xs) x (inr later) passes = has_right (cond (p z) (f z ∷ []) []) (flat_map (λ w. cond (p w) (f w ∷ []) []) xs) (f x) (matched_has p f xs x later passes)

pub permutation_has : {X : Type 0} (xs ys : List X) (x : X) → IsPermutation xs ys → Has xs x → Has ys x
permutation_has xs ys x p h = has_contained ys x (Contains-permutation xs ys x p (contains_had xs x h))

same_default : {X : Type 0} (xs : List X) (i : ℕ) (d e : X) → i < length xs → get_or xs i d ≡ get_or xs i e
same_default [] i d e low = absurd (omega arith)
same_default (x ∷ xs) zero d e low = refl
same_default (x ∷ xs) (suc i) d e low = same_default xs i d e (omega arith)

pub permutation_back : {X : Type 0} (xs ys : List X) (x : X) → IsPermutation xs ys → Has ys x → Has xs x
permutation_back xs ys x p h =
    let all : All (λ y. Has xs y) ys = All-permutation (λ y. Has xs y) xs ys p (λ i d low. has_at xs i (get_or xs i d) low (same_default xs i d (get_or xs i d) low)) in
    let at = contains_had ys x h in
    subst (Has xs) at.2 (all at.0 x at.1)

module _ (tree : ℕ) (filter project : List Term) (params : Row) (db : Database) (rows : List Row) (bare : overlay db.trees [] tree ≡ db.trees tree) where
  abbrev query : Query
  query = simple tree filter project

  abbrev env : Row → Env
  env r = params ∷ r ∷ []

  pub record Shows : Type 0 where
    pub sound : (x : Row) → Has rows x → (r : Row) × Has (db.trees tree) r × (list_all (holds (env r)) filter ≡ true) × (x ≡ eval_all project (env r))
    pub complete : (r : Row) → Has (db.trees tree) r → list_all (holds (env r)) filter ≡ true → Has rows (eval_all project (env r))

  pub shows : Answers db (plain_program query) params rows → Shows
  shows h =
      let a : IsAnswer query (overlay db.trees []) params rows = h.answer Null in
      let staged : a.staged ≡ flat_map (λ r. cond (list_all (holds (env r)) filter) (env r ∷ []) []) (db.trees tree) = a.grouped ∙ ap (flat_map (λ r. cond (list_all (holds (env r)) filter) (env r ∷ []) [])) bare in
      let kept : a.kept ≡ map (output query) a.staged = a.distinct in
      let shown : rows ≡ map (λ (p : Output). p.1) a.ordered = a.shown in
      record {
        sound = λ x is.
            let o = has_mapped (λ (p : Output). p.1) a.ordered x (subst (λ xs. Has xs x) shown is) in
            let k = permutation_back a.kept a.ordered o.0 a.same o.1 in
            let e = has_mapped (output query) a.staged o.0 (subst (λ xs. Has xs o.0) kept k) in
            let m = has_matched (λ r. list_all (holds (env r)) filter) env (db.trees tree) e.0 (subst (λ xs. Has xs e.0) staged e.1) in
            (m.0, m.1, m.2, o.2 ∙ ap (λ (p : Output). p.1) e.2 ∙ ap (λ v. eval_all project v) m.3);
        complete = λ r is passes.
            let m = subst (λ xs. Has xs (env r)) (sym staged) (matched_has (λ r. list_all (holds (env r)) filter) env (db.trees tree) r is passes) in
            let k = subst (λ xs. Has xs (output query (env r))) (sym kept) (mapped_has (output query) a.staged (env r) m) in
            let o = permutation_has a.kept a.ordered (output query (env r)) a.same k in
            subst (λ xs. Has xs (eval_all project (env r))) (sym shown) (mapped_has (λ (p : Output). p.1) a.ordered (output query (env r)) o);
      }
