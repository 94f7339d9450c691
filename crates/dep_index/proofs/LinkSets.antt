-- The set of a list of pairs when one is put in or taken out.
use Rattle.std.proofs.Common.{◌≡◌, ℕ, zero, suc, ◌<◌, Bool, true, false, not, ◌&&◌, ◌||◌, List, [], ◌∷◌, map, length, get_or, Result, Ok, Err, refl, sym, ap, subst, ◌∙◌, inl, inr, arith}
use Rattle.std.proofs.lemmas.Bool.{cases_lt, false≢true, or_left, or_right}
use Rattle.std.specs.Result.{is_ok}
use Rattle.std.specs.FinSet.{contains, contains-from_list, contains-insert, contains-remove, from_list, same_set}
use Rattle.std.specs.FinSet as set_of
use Rattle.std.specs.List.{AllByRecursion, insert, list_any, remove}
use Rattle.std.specs.Ordering.{eq_by_cmp}
use Rattle.std.specs.declared.cmp.Ordering.TheVariants.{Less, Greater}
use Rattle.dep_index.specs.inside.Layout.{Finds, IsFoundAt, IsGapFor, IsIndex, Rises, link_at, links_of, listed, order_of}
use Rattle.dep_index.specs.Pairs.{Link, Links, link_cmp, link_cmp_total}
use Rattle.dep_index.specs.declared.pair.By.{By}
use Rattle.dep_index.specs.declared.pair.Pair.{Pair}
use Rattle.dep_index.proofs.LinkOrder.{itself, link_apart, not_below_itself, tied, turned}
use Rattle.dep_index.proofs.Rising.{all_at, all_insert, all_remove, map-at, map-insert, map-length, map-remove, rising_insert, rising_remove}

abbrev pub eq : Link → Link → Bool
eq q l = eq_by_cmp link_cmp q l

or_swap : (a b c : Bool) → (a || (b || c)) ≡ (b || (a || c))
or_swap true true c = refl
or_swap true false c = refl
or_swap false b c = refl

any_insert : (p : Link → Bool) (l : Link) (ls : List Link) (i : ℕ) → list_any p (insert ls i l) ≡ (p l || list_any p ls)
any_insert p l [] zero = refl
any_insert p l [] (suc i) = refl
any_insert p l (m ∷ ls) zero = refl
any_insert p l (m ∷ ls) (suc i) = ap (λ b. p m || b) (any_insert p l ls i) ∙ or_swap (p m) (p l) (list_any p ls)

links_insert : (l : Link) (ls : List Link) (i : ℕ) → from_list {R = link_cmp} (insert ls i l) ≡ set_of.insert (from_list ls) l
links_insert l ls i = same_set link_cmp_total link_apart _ _ (λ q.
    contains-from_list link_cmp_total (insert ls i l) q ∙ any_insert (eq q) l ls i
    ∙ sym (contains-insert link_cmp_total (from_list ls) l q ∙ ap (λ b. eq q l || b) (contains-from_list link_cmp_total ls q)))

-- a pair below another is another
differs : (by : By) (l m : Link) → order_of by l m ≡ Less → eq l m ≡ false
differs by l m h = elim (eq l m) as (λ b. eq l m ≡ b → b ≡ false) [
  | true ↦ λ e. absurd (not_below_itself by m (subst (λ (x : Link). order_of by x m ≡ Less) (tied l m e) h))
  | false ↦ λ e. refl
] refl

none_above : (by : By) (q : Link) (ls : List Link) → AllByRecursion (λ m. order_of by q m ≡ Less) ls → list_any (eq q) ls ≡ false
none_above by q [] h = refl
none_above by q (m ∷ ls) h = ap (λ b. b || list_any (eq q) ls) (differs by q m h.0) ∙ none_above by q ls h.1

any_remove : (by : By) (q d : Link) (ls : List Link) (i : ℕ) → Rises by ls → i < length ls → list_any (eq q) (remove ls i) ≡ (not (eq q (get_or ls i d)) && list_any (eq q) ls)
any_remove by q d [] i h within = absurd (omega arith)
any_remove by q d (m ∷ ls) zero h within = elim (eq q m) as (λ b. eq q m ≡ b → list_any (eq q) ls ≡ (not b && (b || list_any (eq q) ls))) [
  | true ↦ λ e. ap (λ (x : Link). list_any (eq x) ls) (tied q m e) ∙ none_above by m ls h.0
  | false ↦ λ e. refl
] refl
any_remove by q d (m ∷ ls) (suc i) h within = elim (eq q m) as (λ b. eq q m ≡ b → (b || list_any (eq q) (remove ls i)) ≡ (not (eq q (get_or ls i d)) && (b || list_any (eq q) ls))) [
  | true ↦ λ e. sym (ap (λ b. not b && true) (ap (λ (x : Link). eq x (get_or ls i d)) (tied q m e) ∙ differs by m (get_or ls i d) (all_at (λ k. order_of by m k ≡ Less) ls h.0 i d (omega arith))))
  | false ↦ λ e. any_remove by q d ls i h.1 (omega arith)
] refl

links_remove : (by : By) (d : Link) (ls : List Link) (i : ℕ) → Rises by ls → i < length ls → from_list {R = link_cmp} (remove ls i) ≡ set_of.remove (from_list ls) (get_or ls i d)
links_remove by d ls i h within = same_set link_cmp_total link_apart _ _ (λ q.
    contains-from_list link_cmp_total (remove ls i) q ∙ any_remove by q d ls i h within
    ∙ sym (contains-remove link_cmp_total (from_list ls) (get_or ls i d) q ∙ ap (λ b. not (eq q (get_or ls i d)) && b) (contains-from_list link_cmp_total ls q)))

-- ---- a pair that is there already, or isn't there

there : (a b : Bool) → (a ≡ true → b ≡ true) → (a || b) ≡ b
there true b f = sym (f refl)
there false b f = refl

not_there : (a b : Bool) → (a ≡ true → b ≡ false) → (not a && b) ≡ b
not_there true b f = sym (f refl)
not_there false b f = refl

pub insert_there : (s : Links) (l : Link) → contains s l ≡ true → set_of.insert s l ≡ s
insert_there s l h = same_set link_cmp_total link_apart (set_of.insert s l) s (λ q.
    contains-insert link_cmp_total s l q ∙ there (eq q l) (contains s q) (λ e. ap (contains s) (tied q l e) ∙ h))

pub remove_none : (s : Links) (l : Link) → contains s l ≡ false → set_of.remove s l ≡ s
remove_none s l h = same_set link_cmp_total link_apart (set_of.remove s l) s (λ q.
    contains-remove link_cmp_total s l q ∙ not_there (eq q l) (contains s q) (λ e. ap (contains s) (tied q l e) ∙ h))

pub removed_gone : (s : Links) (l : Link) → contains (set_of.remove s l) l ≡ false
removed_gone s l = contains-remove link_cmp_total s l l ∙ ap (λ b. not b && contains s l) (itself l)

any_at : (ls : List Link) (i : ℕ) (d : Link) → i < length ls → list_any (eq (get_or ls i d)) ls ≡ true
any_at [] i d within = absurd (omega arith)
any_at (l ∷ ls) zero d within = or_left (eq l l) (list_any (eq l) ls) (itself l)
any_at (l ∷ ls) (suc i) d within = or_right (eq (get_or ls i d) l) (list_any (eq (get_or ls i d)) ls) (any_at ls i d (omega arith))

none_of : (l : Link) (ls : List Link) → ((j : ℕ) → j < length ls → get_or ls j l ≡ l → ⊥) → list_any (eq l) ls ≡ false
none_of l [] f = refl
none_of l (m ∷ ls) f = elim (eq l m) as (λ b. eq l m ≡ b → (b || list_any (eq l) ls) ≡ false) [
  | true ↦ λ e. absurd (f 0 (omega arith) (sym (tied l m e)))
  | false ↦ λ e. none_of l ls (λ j w. f (suc j) (omega arith))
] refl

-- ---- numbers of slots

module _ (slots : List Pair) (ns : List ℕ) where
  pub at_listed : (j d : ℕ) (e : Link) → j < length ns → get_or (listed slots ns) j e ≡ link_at slots (get_or ns j d)
  at_listed j d e within = map-at (link_at slots) ns j d e within

  pub in_links : (j d : ℕ) → j < length ns → contains (links_of slots ns) (link_at slots (get_or ns j d)) ≡ true
  in_links j d within =
      let e = link_at slots 0 in
      let len = map-length (link_at slots) ns in
      subst (λ (l : Link). contains (links_of slots ns) l ≡ true) (at_listed j d e within)
      (contains-from_list link_cmp_total (listed slots ns) (get_or (listed slots ns) j e) ∙ any_at (listed slots ns) j e (omega arith))

  pub found_there : (l : Link) (at : ℕ) → IsFoundAt l slots ns at → contains (links_of slots ns) l ≡ true
  found_there l at h = subst (λ (m : Link). contains (links_of slots ns) m ≡ true) (h.is 0) (in_links at 0 h.within)

  pub gap_absent : (by : By) (l : Link) (at : ℕ) → IsGapFor by l slots ns at → contains (links_of slots ns) l ≡ false
  gap_absent by l at h =
      let len = map-length (link_at slots) ns in
      contains-from_list link_cmp_total (listed slots ns) l ∙ none_of l (listed slots ns) (λ j w e.
      let within : j < length ns = omega arith in
      let is : link_at slots (get_or ns j 0) ≡ l = sym (at_listed j 0 l within) ∙ e in
      elim (cases_lt j at) [
        | inl less ↦ not_below_itself by l (subst (λ (m : Link). order_of by m l ≡ Less) is (h.before j 0 less))
        | inr more ↦ not_below_itself by l (turned by l l (subst (λ (m : Link). order_of by m l ≡ Greater) is (h.behind j 0 more within)))
      ])

  module _ (by : By) (index : IsIndex by slots ns) where
    pub index_insert : (n at : ℕ) → n < length slots → IsGapFor by (link_at slots n) slots ns at → IsIndex by slots (insert ns at n)
    index_insert n at here h =
        let l = link_at slots n in
        let len = map-length (link_at slots) ns in
        let up = h.within in
        record {
          within = all_insert (λ k. k < length slots) ns at n here index.within;
          rising = subst (Rises by) (sym (map-insert (link_at slots) ns at n)) (rising_insert by l (listed slots ns) at index.rising (omega arith)
              (λ j less. subst (λ (m : Link). order_of by m l ≡ Less) (sym (at_listed j 0 l (omega arith))) (h.before j 0 less))
              (λ j more less. subst (λ (m : Link). order_of by m l ≡ Greater) (sym (at_listed j 0 l (omega arith))) (h.behind j 0 more (omega arith))));
        }

    pub index_remove : (at : ℕ) → IsIndex by slots (remove ns at)
    index_remove at = record {
      within = all_remove (λ k. k < length slots) ns at index.within;
      rising = subst (Rises by) (sym (map-remove (link_at slots) ns at)) (rising_remove by (listed slots ns) at index.rising);
    }

    pub set_remove : (l : Link) (at : ℕ) → IsFoundAt l slots ns at → links_of slots (remove ns at) ≡ set_of.remove (links_of slots ns) l
    set_remove l at h =
        let len = map-length (link_at slots) ns in
        let up = h.within in
        ap (λ ls. from_list {R = link_cmp} ls) (map-remove (link_at slots) ns at)
        ∙ links_remove by l (listed slots ns) at index.rising (omega arith)
        ∙ ap (set_of.remove (links_of slots ns)) (at_listed at 0 l h.within ∙ h.is 0)

  pub set_insert : (n at : ℕ) → links_of slots (insert ns at n) ≡ set_of.insert (links_of slots ns) (link_at slots n)
  set_insert n at = ap (λ ls. from_list {R = link_cmp} ls) (map-insert (link_at slots) ns at n) ∙ links_insert (link_at slots n) (listed slots ns) at

  -- whether a search finds a pair's number is whether the pair is among these
  pub found_is : (by : By) (l : Link) (r : Result ℕ ℕ) → Finds by l slots ns r → is_ok r ≡ contains (links_of slots ns) l
  found_is by l (Ok at) h = sym (found_there l at h)
  found_is by l (Err at) h = sym (gap_absent by l at h)

any_found : (l : Link) (f : ℕ → Link) (ns : List ℕ) → list_any (eq l) (map f ns) ≡ true → (j : ℕ) × (j < length ns) × (f (get_or ns j 0) ≡ l)
any_found l f [] h = absurd (false≢true h)
any_found l f (n ∷ ns) h = elim (eq l (f n)) as (λ b. eq l (f n) ≡ b → (b || list_any (eq l) (map f ns)) ≡ true → (j : ℕ) × (j < length (n ∷ ns)) × (f (get_or (n ∷ ns) j 0) ≡ l)) [
  | true ↦ λ e k. (0, omega arith, sym (tied l (f n) e))
  | false ↦ λ e k. let g = any_found l f ns k in (suc g.0, (let w = g.1 in omega arith), g.2)
] refl h

-- the index of a pair's number
pub index_of : (slots : List Pair) (ns : List ℕ) (l : Link) → contains (links_of slots ns) l ≡ true → (j : ℕ) × (j < length ns) × (link_at slots (get_or ns j 0) ≡ l)
index_of slots ns l h = any_found l (link_at slots) ns (sym (contains-from_list link_cmp_total (listed slots ns) l) ∙ h)
