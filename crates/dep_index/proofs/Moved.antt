-- The last pair moves to a slot: numbers show the same pairs.
use Rattle.std.proofs.Common.{◌≡◌, ℕ, zero, suc, ◌+◌, ◌-◌, ◌<◌, false, List, [], ◌∷◌, map, length, get_or, set, refl, sym, ap, subst, ◌∙◌, inl, inr, arith}
use Rattle.std.proofs.lemmas.Bool.{cases_eq, cases_lt, false≢true}
use Rattle.std.specs.FinSet.{contains}
use Rattle.std.specs.List.{AllByRecursion}
use Rattle.std.specs.declared.cmp.Ordering.TheVariants.{Less}
use Rattle.dep_index.specs.inside.Layout.{IsFoundAt, IsGapFor, IsIndex, IsMovedLast, IsSwapRemoved, link_at, links_of, order_of, shown_or}
use Rattle.dep_index.specs.Pairs.{Link}
use Rattle.dep_index.specs.declared.pair.By.{By}
use Rattle.dep_index.specs.declared.pair.Pair.{Pair}
use Rattle.dep_index.proofs.LinkOrder.{not_below_itself}
use Rattle.dep_index.proofs.LinkSets.{found_there, gap_absent, in_links}
use Rattle.dep_index.proofs.Rising.{all_at, all_from}
use Rattle.dep_index.proofs.Searched.{rise}

map_same : {X : Type 0} (f g : ℕ → X) (ns : List ℕ) → ((j : ℕ) → j < length ns → g (get_or ns j 0) ≡ f (get_or ns j 0)) → map g ns ≡ map f ns
map_same f g [] h = refl
map_same f g (n ∷ ns) h = λ i. h 0 (omega arith) i ∷ map_same f g ns (λ j w. h (suc j) (omega arith)) i

map_set : {X : Type 0} (f g : ℕ → X) (ns : List ℕ) (at n : ℕ) → at < length ns
    → ((j : ℕ) → j < length ns → (j ≡ at → ⊥) → g (get_or ns j 0) ≡ f (get_or ns j 0)) → g n ≡ f (get_or ns at 0) → map g (set ns at n) ≡ map f ns
map_set f g [] at n within h k = absurd (omega arith)
map_set f g (m ∷ ns) zero n within h k = λ i. k i ∷ map_same f g ns (λ j w. h (suc j) (omega arith) (λ e. absurd (omega arith))) i
map_set f g (m ∷ ns) (suc at) n within h k =
    λ i. h 0 (omega arith) (λ e. absurd (omega arith)) i ∷ map_set f g ns at n (omega arith) (λ j w d. h (suc j) (omega arith) (λ e. d (omega arith))) k i

all_set : (P : ℕ → Type 0) (ns : List ℕ) (at n : ℕ) → ((j : ℕ) → j < length ns → (j ≡ at → ⊥) → P (get_or ns j 0)) → P n → AllByRecursion P (set ns at n)
all_set P [] at n h k = tt
all_set P (m ∷ ns) zero n h k = (k, all_from P 0 ns (λ j w. h (suc j) (omega arith) (λ e. absurd (omega arith))))
all_set P (m ∷ ns) (suc at) n h k = (h 0 (omega arith) (λ e. absurd (omega arith)), all_set P ns at n (λ j w d. h (suc j) (omega arith) (λ e. d (omega arith))) k)

module _ (by : By) (slots : List Pair) (ns : List ℕ) (slot : ℕ) (here : slot < length slots) (index : IsIndex by slots ns) (gone : contains (links_of slots ns) (link_at slots slot) ≡ false) where
  abbrev last : ℕ
  last = length slots - 1

  below : (j : ℕ) → j < length ns → get_or ns j 0 < length slots
  below j w = all_at (λ n. n < length slots) ns index.within j 0 w

  -- the slot's number isn't among these
  not_slot : (j : ℕ) → j < length ns → get_or ns j 0 ≡ slot → ⊥
  not_slot j w e = false≢true (sym gone ∙ ap (λ n. contains (links_of slots ns) (link_at slots n)) (sym e) ∙ in_links slots ns j 0 w)

  -- the other numbers show what they did
  shows_same : (after : List Pair) → IsSwapRemoved slot slots after → (j : ℕ) → j < length ns → (get_or ns j 0 ≡ last → ⊥) → link_at after (get_or ns j 0) ≡ link_at slots (get_or ns j 0)
  shows_same after sw j w other =
      let b = below j w in
      let len = sw.len in
      let inside : get_or ns j 0 < length after = elim (cases_eq (get_or ns j 0) last) [
        | inl e ↦ absurd (other e)
        | inr d ↦ elim (cases_lt (get_or ns j 0) (length after)) [
          | inl l ↦ l
          | inr m ↦ absurd (d (omega arith))
        ]
      ] in
      ap shown_or (sw.others (get_or ns j 0) (not_slot j w) inside)

  within_last : (j : ℕ) → j < length ns → (get_or ns j 0 ≡ last → ⊥) → get_or ns j 0 + 1 < length slots
  within_last j w other = let b = below j w in elim (cases_lt (get_or ns j 0 + 1) (length slots)) [
    | inl l ↦ l
    | inr m ↦ absurd (other (omega arith))
  ]

  -- no number is the last slot's
  pub moved_none : (at : ℕ) → IsGapFor by (link_at slots last) slots ns at → IsMovedLast slot slots ns ns
  moved_none at gap =
      let none : (j : ℕ) → j < length ns → get_or ns j 0 ≡ last → ⊥ = λ j w e.
      false≢true (sym (gap_absent slots ns by (link_at slots last) at gap) ∙ ap (λ n. contains (links_of slots ns) (link_at slots n)) (sym e) ∙ in_links slots ns j 0 w) in
      record {
        within = all_from (λ n. n + 1 < length slots) 0 ns (λ j w. within_last j w (none j w));
        shows = λ after sw. map_same (link_at slots) (link_at after) ns (λ j w. shows_same after sw j w (none j w));
      }

  -- the number of the last pair is at an index
  pub moved_at : (at : ℕ) → IsFoundAt (link_at slots last) slots ns at → IsMovedLast slot slots ns (set ns at slot)
  moved_at at found =
      let w = found.within in
      let has = found_there slots ns (link_at slots last) at found in
      let before_last : slot + 1 < length slots = elim (cases_lt (slot + 1) (length slots)) [
        | inl l ↦ l
        | inr m ↦
            let e : slot ≡ last = omega arith in
            absurd (false≢true (sym gone ∙ ap (λ n. contains (links_of slots ns) (link_at slots n)) e ∙ has))
      ] in
      let none : (j : ℕ) → j < length ns → (j ≡ at → ⊥) → get_or ns j 0 ≡ last → ⊥ = λ j w d e.
      let l : Link = link_at slots last in
      elim (cases_lt j at) [
        | inl less ↦ not_below_itself by l (subst (λ (m : Link). order_of by m l ≡ Less) (ap (link_at slots) e) (subst (λ (m : Link). order_of by (link_at slots (get_or ns j 0)) m ≡ Less) (found.is 0) (rise by slots ns index j at 0 less found.within)))
        | inr more ↦ elim (cases_eq j at) [
          | inl same ↦ d same
          | inr apart ↦
              let up : at < j = elim (cases_lt at j) [ inl l ↦ l | inr m ↦ absurd (apart (omega arith)) ] in
              not_below_itself by l (subst (λ (m : Link). order_of by l m ≡ Less) (ap (link_at slots) e) (subst (λ (m : Link). order_of by m (link_at slots (get_or ns j 0)) ≡ Less) (found.is 0) (rise by slots ns index at j 0 up w)))
        ]
      ] in
      record {
        within = all_set (λ n. n + 1 < length slots) ns at slot (λ j w d. within_last j w (none j w d)) before_last;
        shows = λ after sw.
            let len = sw.len in
            let end : length after ≡ last = omega arith in
            map_set (link_at slots) (link_at after) ns at slot found.within
            (λ j w d. shows_same after sw j w (none j w d))
            (ap shown_or (sw.moved (omega arith)) ∙ ap (link_at slots) end ∙ sym (found.is 0));
      }
