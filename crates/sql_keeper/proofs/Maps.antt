-- A table as a map, after a write of one key.
use Rattle.std.proofs.Common.{◌≡◌, ◌≢◌, ◌⊎◌, inl, inr, Bool, true, false, cond, List, [], ◌∷◌, map, Option, Some, None, Ordering, Less, Equal, Greater, refl, sym, ap, subst, ◌∙◌}
use Rattle.std.specs.Ordering.{is_eq, eq_by_cmp}
use Rattle.std.specs.Cmp.{IsTotalOrder, tied_itself}
use Rattle.std.specs.FinMap.{find, insert, remove, get-from_entries, get-insert, get-remove, same_map, IsAntisymmetric}
use Rattle.sqlite.specs.Order.{Row}
use Rattle.sqlite_rules.specs.Lists.{Has}
use Rattle.sql_keeper.specs.Rows.{table_of}

pub equal_is : (o : Ordering) → is_eq o ≡ true → o ≡ Equal
equal_is Less h = absurd (cc)
equal_is Equal h = refl
equal_is Greater h = absurd (cc)

module _ {K V : Type 0} {R : K → K → Ordering} (o : IsTotalOrder R) (same : IsAntisymmetric R) (key : Row → K) (val : Row → V) where
  abbrev pub entry : Row → K × V
  entry r = (key r, val r)

  pub find_from : (q : K) (rows : List Row) (v : V) → find R q (map entry rows) ≡ Some v → (r : Row) × Has rows r × (q ≡ key r) × (v ≡ val r)
  find_from q [] v e = absurd (cc)
  find_from q (r ∷ rows) v e = go (eq_by_cmp R q (key r)) refl e (find_from q rows v)
    where
      go : (b : Bool) → eq_by_cmp R q (key r) ≡ b → cond b (Some (val r)) (find R q (map entry rows)) ≡ Some v
          → (find R q (map entry rows) ≡ Some v → (x : Row) × Has rows x × (q ≡ key x) × (v ≡ val x)) → (x : Row) × Has (r ∷ rows) x × (q ≡ key x) × (v ≡ val x)
      go true is here later = (r, inl refl, same q (key r) (equal_is _ is), cc)
      go false is there later = let x = later there in (x.0, inr x.1, x.2, x.3)

  pub find_at : (rows : List Row) (r : Row) → Has rows r → (v : V) × (find R (key r) (map entry rows) ≡ Some v)
  find_at [] r h = absurd h
  find_at (x ∷ rows) r (inl is) =
      (val x, ap (λ b. cond b (Some (val x)) (find R (key r) (map entry rows))) (ap is_eq (subst (λ y. R (key r) (key y) ≡ Equal) is (tied_itself o (key r)))))
  find_at (x ∷ rows) r (inr h) = go (eq_by_cmp R (key r) (key x)) (find_at rows r h)
    where
      go : (b : Bool) → ((v : V) × (find R (key r) (map entry rows) ≡ Some v)) → (v : V) × (cond b (Some (val x)) (find R (key r) (map entry rows)) ≡ Some v)
      go true later = (val x, refl)
      go false later = later

  -- two lists of rows that have the same rows at a key find the same there
  find_same : (q : K) (one two : List Row) → ((a b : Row) → Has two a → Has two b → key a ≡ key b → a ≡ b)
      → ((x : Row) → q ≡ key x → Has one x → Has two x) → ((x : Row) → q ≡ key x → Has two x → Has one x)
      → find R q (map entry one) ≡ find R q (map entry two)
  find_same q one two once there back = go (find R q (map entry one)) (find R q (map entry two)) refl refl
    where
      go : (a b : Option V) → find R q (map entry one) ≡ a → find R q (map entry two) ≡ b → a ≡ b
      go None None p e = refl
      go None (Some w) p e =
          let x = find_from q two w e in
          let y = find_at one x.0 (back x.0 x.2 x.1) in
          absurd (let z : find R q (map entry one) ≡ Some y.0 = subst (λ k. find R k (map entry one) ≡ Some y.0) (sym x.2) y.1 in cc)
      go (Some v) None p e =
          let x = find_from q one v p in
          let y = find_at two x.0 (there x.0 x.2 x.1) in
          absurd (let z : find R q (map entry two) ≡ Some y.0 = subst (λ k. find R k (map entry two) ≡ Some y.0) (sym x.2) y.1 in cc)
      go (Some v) (Some w) p e =
          let x = find_from q one v p in
          let y = find_from q two w e in
          let is = once x.0 y.0 (there x.0 x.2 x.1) y.1 (sym x.2 ∙ y.2) in
          ap Some (x.3 ∙ ap val is ∙ sym y.3)

  module _ (rows next : List Row) (once : (a b : Row) → Has rows a → Has rows b → key a ≡ key b → a ≡ b) where
    pub written : (new : Row) → ((x : Row) → Has next x → (x ≡ new) ⊎ (Has rows x × (key x ≢ key new))) → Has next new → ((x : Row) → Has rows x → key x ≢ key new → Has next x)
        → table_of R key val next ≡ insert (table_of R key val rows) (key new) (val new)
    written new from has keeps = same_map o same _ _ (λ q.
        get-from_entries o (map entry next) q ∙ at q (eq_by_cmp R q (key new)) refl
        ∙ ap (cond (eq_by_cmp R q (key new)) (Some (val new))) (sym (get-from_entries o (map entry rows) q)) ∙ sym (get-insert o (table_of R key val rows) (key new) (val new) q))
      where
        at : (q : K) (b : Bool) → eq_by_cmp R q (key new) ≡ b → find R q (map entry next) ≡ cond (eq_by_cmp R q (key new)) (Some (val new)) (find R q (map entry rows))
        at q true is =
            let tie = same q (key new) (equal_is _ is) in
            let f = find_at next new has in
            let g = find_from (key new) next f.0 f.1 in
            let v : f.0 ≡ val new = elim (from g.0 g.1) [ inl e ↦ g.3 ∙ ap val e | inr other ↦ absurd (other.1 (sym g.2)) ] in
            let found : find R q (map entry next) ≡ Some (val new) = subst (λ k. find R k (map entry next) ≡ Some (val new)) (sym tie) (f.1 ∙ ap Some v) in
            found ∙ sym (ap (λ b. cond b (Some (val new)) (find R q (map entry rows))) is)
        at q false is =
            let apart : (x : Row) → q ≡ key x → key x ≢ key new = λ x e k. absurd (let t : is_eq (R q q) ≡ true = ap is_eq (tied_itself o q) in let u : is_eq (R q (key new)) ≡ true = subst (λ k. is_eq (R q k) ≡ true) (e ∙ k) t in cc) in
            find_same q next rows once
            (λ x e h. elim (from x h) [ inl n ↦ absurd (apart x e (ap key n)) | inr was ↦ was.0 ])
            (λ x e h. keeps x h (apart x e))
            ∙ sym (ap (λ b. cond b (Some (val new)) (find R q (map entry rows))) is)

    pub removed : (k : K) → ((x : Row) → Has next x → Has rows x × (key x ≢ k)) → ((x : Row) → Has rows x → key x ≢ k → Has next x)
        → table_of R key val next ≡ remove (table_of R key val rows) k
    removed k from keeps = same_map o same _ _ (λ q.
        get-from_entries o (map entry next) q ∙ at q (eq_by_cmp R q k) refl
        ∙ ap (cond (eq_by_cmp R q k) None) (sym (get-from_entries o (map entry rows) q)) ∙ sym (get-remove o (table_of R key val rows) k q))
      where
        none : (q : K) (found : Option V) → q ≡ k → find R q (map entry next) ≡ found → found ≡ None
        none q None tie p = refl
        none q (Some v) tie p = let x = find_from q next v p in absurd ((from x.0 x.1).1 (sym x.2 ∙ tie))

        at : (q : K) (b : Bool) → eq_by_cmp R q k ≡ b → find R q (map entry next) ≡ cond (eq_by_cmp R q k) None (find R q (map entry rows))
        at q true is = none q _ (same q k (equal_is _ is)) refl ∙ sym (ap (λ b. cond b None (find R q (map entry rows))) is)
        at q false is =
            let apart : (x : Row) → q ≡ key x → key x ≢ k = λ x e t. absurd (let u : is_eq (R q q) ≡ true = ap is_eq (tied_itself o q) in let w : is_eq (R q k) ≡ true = subst (λ z. is_eq (R q z) ≡ true) (e ∙ t) u in cc) in
            find_same q next rows once (λ x e h. (from x h).0) (λ x e h. keeps x h (apart x e)) ∙ sym (ap (λ b. cond b None (find R q (map entry rows))) is)
