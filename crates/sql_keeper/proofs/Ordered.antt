-- A table that is read in the order of its keys: what is shown are the entries of its map.
use Rattle.std.proofs.Common.{◌≡◌, ◌≢◌, inl, inr, ℕ, Bool, true, false, cond, ◌&&◌, T, List, [], ◌∷◌, length, map, flat_map, Option, Some, None, Ordering, Less, Equal, Greater, refl, sym, ap, subst, ◌∙◌, is_lt}
use Rattle.std.proofs.lemmas.List.Sorted.{IsPermutation-refl, IsPermutation-cons, IsPermutation-trans, IsPermutation-sym, IsPermutation-map, IsPermutation-middle}
use Rattle.std.specs.Cmp.{IsTotalOrder, tied_itself}
use Rattle.std.specs.FinMap.{FinMap, IsAntisymmetric, empty, entries, entries-insert, entries_sorted, find, from_entries, get, get-entries, get-from_entries, insert, is_sorted, len, len-empty, len-entries, put}
use Rattle.std.specs.FinMap.Entries.{below_all}
use Rattle.std.specs.List.{AllByRecursion}
use Rattle.std.specs.List.Sorted.{IsPermutation}
use Rattle.sqlite.specs.Order.{Row, value_cmp}
use Rattle.sqlite.specs.Tree.{IsTable, IsAscending, rowid}
use Rattle.sqlite.specs.Query.{IsAnswer, Output, Query, output, output_cmp}
use Rattle.sqlite.specs.Program.{overlay}
use Rattle.sqlite.specs.Effect.{Answers, Database}
use Rattle.sqlite.specs.Term.{Term}
use Rattle.sqlite.specs.declared.types.Value.TheVariants.{Null}
use Rattle.sqlite_keyed.proofs.ListLemmas.{ascending-map, map-map}
use Rattle.sqlite_keyed.proofs.SortLemmas.{sorted_unique}
use Rattle.sqlite_rules.specs.Lists.{Has}
use Rattle.sqlite_rules.proofs.ListLemmas.{all_from, all_has}
use Rattle.sqlite_sql.proofs.QueryLemmas.{output_cmp_total}
use Rattle.sqlite_value.proofs.OrderLemmas.{value_cmp_total}
use Rattle.sqlite_value.specs.declared.keys.Key.{Key}
use Rattle.sql_keeper.specs.Rows.{table_of}
use Rattle.sql_keeper.proofs.Maps.{find_from}
use Rattle.sql_keeper.proofs.Texts.{plain_program, simple}

no_length : {X : Type 0} (xs : List X) → length xs ≡ 0 → xs ≡ []
no_length [] e = refl
no_length (x ∷ xs) e = absurd (cc)

-- the entries of a map have keys that rise
less_of : (o : Ordering) → T (is_lt o) → o ≡ Less
less_of Less h = refl
less_of Equal h = absurd h
less_of Greater h = absurd h

and_first : (a b : Bool) → T (a && b) → T a
and_first true b h = tt
and_first false b h = absurd h

and_second : (a b : Bool) → T (a && b) → T b
and_second true b h = h
and_second false b h = absurd h

module _ {K V : Type 0} (R : K → K → Ordering) where
  above_each : (k : K) (es : List (K × V)) → T (below_all R k es) → AllByRecursion (λ e. R k e.0 ≡ Less) es
  above_each k [] h = tt
  above_each k (e ∷ es) h = (less_of _ (and_first _ _ h), above_each k es (and_second (is_lt (R k e.0)) _ h))

  pub rising : (es : List (K × V)) → T (is_sorted R es) → IsAscending (λ a b. R a.0 b.0 ≡ Less) es
  rising [] h = tt
  rising (e ∷ es) h = (above_each e.0 es (and_first _ _ h), rising es (and_second (below_all R e.0 es) _ h))

  no_entries : entries (empty {X = V} {R = R}) ≡ []
  no_entries = no_length _ (sym (len-entries (empty {X = V} {R = R})) ∙ len-empty R V)

  -- to put an entry of a new key adds it
  put_adds : (o : IsTotalOrder R) (k : K) (v : V) (es : List (K × V)) → find R k es ≡ None → IsPermutation ((k, v) ∷ es) (put R k v es)
  put_adds o k v [] none = IsPermutation-refl _
  put_adds o k v (e ∷ es) none = go (R k e.0) refl none (put_adds o k v es)
    where
      go : (r : Ordering) → R k e.0 ≡ r → cond (Rattle.std.specs.Ordering.is_eq r) (Some e.1) (find R k es) ≡ None
          → (find R k es ≡ None → IsPermutation ((k, v) ∷ es) (put R k v es))
          → IsPermutation ((k, v) ∷ e ∷ es) (Rattle.std.specs.FinMap.Entries.by_order r ((k, v) ∷ e ∷ es) ((e.0, v) ∷ es) (e ∷ put R k v es))
      go Less is n more = IsPermutation-refl _
      go Equal is n more = absurd (cc)
      go Greater is n more = IsPermutation-trans _ _ _ (IsPermutation-sym _ _ (IsPermutation-middle (e ∷ []) (k, v) es)) (IsPermutation-cons e _ _ (more n))

module _ {K V : Type 0} {R : K → K → Ordering} (o : IsTotalOrder R) (same : IsAntisymmetric R) (key : Row → K) (val : Row → V) where
  abbrev pub pair : Row → K × V
  pair r = (key r, val r)

  -- no two rows have one key
  abbrev pub AreApart : List Row → Type 0
  AreApart = IsAscending (λ a b. key a ≢ key b)

  pub apart_from : (all rows : List Row) → IsTable rows → ((r : Row) → Has rows r → Has all r) → ((a b : Row) → Has all a → Has all b → key a ≡ key b → a ≡ b) → AreApart rows
  apart_from all [] up sub once = tt
  apart_from all (x ∷ rows) up sub once = (
    all_from _ rows (λ y h e.
        let is = once x y (sub x (inl refl)) (sub y (inr h)) e in
        let less = subst (λ z. value_cmp (rowid x) (rowid z) ≡ Less) (sym is) (all_has _ rows y up.0 h) in
        let equal = tied_itself value_cmp_total (rowid x) in absurd (cc)),
    apart_from all rows up.1 (λ r h. sub r (inr h)) once,
  )

  new_key : (x : Row) (rows : List Row) → AllByRecursion (λ y. key x ≢ key y) rows → find R (key x) (map pair rows) ≡ None
  new_key x rows apart = go (find R (key x) (map pair rows)) refl
    where
      go : (f : Option V) → find R (key x) (map pair rows) ≡ f → f ≡ None
      go None e = refl
      go (Some v) e = let r = find_from o same key val (key x) rows v e in absurd (all_has _ rows r.0 apart r.1 r.2)

  pub entries_all : (rows : List Row) → AreApart rows → IsPermutation (map pair rows) (entries (table_of R key val rows))
  entries_all [] apart = subst (IsPermutation []) (sym (no_entries R)) (IsPermutation-refl [])
  entries_all (x ∷ rows) apart =
      let m = table_of R key val rows in
      let fresh : find R (key x) (entries m) ≡ None = sym (get-entries m (key x)) ∙ get-from_entries o (map pair rows) (key x) ∙ new_key x rows apart.0 in
      subst (IsPermutation (pair x ∷ map pair rows)) (sym (entries-insert o m (key x) (val x)))
      (IsPermutation-trans _ _ _ (IsPermutation-cons (pair x) _ _ (entries_all rows apart.1)) (put_adds R o (key x) (val x) (entries m) fresh))

pub one_each : {X Y : Type 0} (f : X → Y) (xs : List X) → flat_map (λ x. f x ∷ []) xs ≡ map f xs
one_each f [] = refl
one_each f (x ∷ xs) = ap (λ l. f x ∷ l) (one_each f xs)

pub map_same : {X Y : Type 0} (f g : X → Y) (xs : List X) → ((x : X) → Has xs x → f x ≡ g x) → map f xs ≡ map g xs
map_same f g [] h = refl
map_same f g (x ∷ xs) h = let first = h x (inl refl) in let rest = map_same f g xs (λ y at. h y (inr at)) in λ i. first i ∷ rest i

-- a query of one table that orders its rows by terms
abbrev pub ordered : ℕ → List Term → List (Term × Key) → Query
ordered tree project order = record (simple tree [] project) { order = order }

module _ {K V : Type 0} {R : K → K → Ordering} (o : IsTotalOrder R) (same : IsAntisymmetric R) (key : Row → K) (val : Row → V)
    (tree : ℕ) (project : List Term) (order : List (Term × Key)) (out : K × V → Output) where
  abbrev asked : Query
  asked = ordered tree project order

  pub reads_entries : (db : Database) (found : List Row) → overlay db.trees [] tree ≡ db.trees tree → Answers db (plain_program asked) [] found
      → ((r : Row) → Has (db.trees tree) r → output asked ([] ∷ r ∷ []) ≡ out (pair o same key val r))
      → ((a b : K × V) → output_cmp asked (out a) (out b) ≡ R a.0 b.0)
      → AreApart o same key val (db.trees tree)
      → found ≡ map (λ e. (out e).1) (entries (table_of R key val (db.trees tree)))
  reads_entries db found bare h shown by apart =
      let rows = db.trees tree in
      let es = entries (table_of R key val rows) in
      let a : IsAnswer asked (overlay db.trees []) [] found = h.answer Null in
      let staged : a.staged ≡ map (λ r. [] ∷ r ∷ []) rows = a.grouped ∙ ap (flat_map (λ (r : Row). ([] ∷ r ∷ []) ∷ [])) bare ∙ one_each (λ (r : Row). [] ∷ r ∷ []) rows in
      let kept : a.kept ≡ map out (map (pair o same key val) rows) =
      a.distinct ∙ ap (map (output asked)) staged ∙ map-map (output asked) (λ (r : Row). [] ∷ r ∷ []) rows ∙ map_same _ _ rows shown ∙ sym (map-map out (pair o same key val) rows) in
      let perm : IsPermutation (map out es) a.ordered =
      IsPermutation-trans _ _ _ (IsPermutation-map out _ _ (IsPermutation-sym _ _ (entries_all o same key val rows apart))) (subst (λ k. IsPermutation k a.ordered) kept a.same) in
      let strict : IsAscending (λ x y. output_cmp asked x y ≡ Less) (map out es) =
      ascending-map (λ x y. output_cmp asked x y ≡ Less) out es
      (Rattle.sqlite_keyed.proofs.ListLemmas.ascending_weaker (λ (x y : K × V). R x.0 y.0 ≡ Less) (λ x y. output_cmp asked (out x) (out y) ≡ Less) (λ x y less. by x y ∙ less) es (rising R es (entries_sorted (table_of R key val rows)))) in
      let is = sorted_unique (output_cmp asked) (output_cmp_total asked) (map out es) a.ordered strict perm a.sorted in
      a.shown ∙ ap (map (λ (p : Output). p.1)) is ∙ map-map (λ (p : Output). p.1) out es
