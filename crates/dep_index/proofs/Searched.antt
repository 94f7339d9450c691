-- What a search by halving finds.
use Rattle.std.proofs.Common.{◌≡◌, ℕ, zero, suc, ◌+◌, ◌<◌, ◌≤◌, List, [], ◌∷◌, length, get_or, Result, Ok, Err, refl, sym, ap, subst, ◌∙◌, inl, inr, arith}
use Rattle.std.proofs.lemmas.Bool.{cases_lt}
use Rattle.std.proofs.lemmas.List.Sorted.{searchable_from_sorted}
use Rattle.std.specs.List.{slice_get}
use Rattle.std.specs.List.Sorted.{IsBinarySearchResult, IsNonDecreasingBy, IsSearchInRange, IsSortedBy}
use Rattle.std.specs.Ordering.{is_lt, ordering_index, ordering_reverse}
use Rattle.std.specs.declared.cmp.Ordering.TheVariants.{Less}
use Rattle.dep_index.specs.inside.Layout.{Finds, IsFoundAt, IsGapFor, IsIndex, IsStartOf, compared, link_at, listed, order_of, shown}
use Rattle.dep_index.specs.Pairs.{Link}
use Rattle.dep_index.specs.declared.pair.By.{By}
use Rattle.dep_index.specs.declared.pair.Pair.{Pair}
use Rattle.dep_index.proofs.LinkOrder.{not_below_greater, not_below_itself, one_way, order_apart, order_total}
use Rattle.dep_index.proofs.Rising.{all_at, map-at, map-length, rising_at}

-- the pair of a slot that is there
pub compared_is : (by : By) (l : Link) (slots : List Pair) (n : ℕ) → n < length slots → compared by l (slice_get slots n) ≡ order_of by (link_at slots n) l
compared_is by l [] n h = absurd (omega arith)
compared_is by l (p ∷ ps) zero h = refl
compared_is by l (p ∷ ps) (suc n) h = compared_is by l ps n (omega arith)

pub link_at_is : (slots : List Pair) (n : ℕ) (d : Pair) → n < length slots → link_at slots n ≡ shown (get_or slots n d)
link_at_is [] n d h = absurd (omega arith)
link_at_is (p ∷ ps) zero d h = refl
link_at_is (p ∷ ps) (suc n) d h = link_at_is ps n d (omega arith)

module _ (by : By) (slots : List Pair) (ns : List ℕ) (index : IsIndex by slots ns) where
  compared_at : (l : Link) (j d : ℕ) → j < length ns → compared by l (slice_get slots (get_or ns j d)) ≡ order_of by (link_at slots (get_or ns j d)) l
  compared_at l j d h = compared_is by l slots (get_or ns j d) (all_at (λ n. n < length slots) ns index.within j d h)

  -- the pairs of the numbers rise
  pub rise : (i j d : ℕ) → i < j → j < length ns → order_of by (link_at slots (get_or ns i d)) (link_at slots (get_or ns j d)) ≡ Less
  rise i j d less within =
      let len = map-length (link_at slots) ns in
      let e = link_at slots 0 in
      let h = rising_at by (listed slots ns) i j e index.rising less (omega arith) in
      subst (λ (l : Link). order_of by l (link_at slots (get_or ns j d)) ≡ Less) (map-at (link_at slots) ns i d e (omega arith))
      (subst (λ (l : Link). order_of by (get_or (listed slots ns) i e) l ≡ Less) (map-at (link_at slots) ns j d e within) h)

  sorted : IsSortedBy (λ a b. is_lt (order_of by (link_at slots a) (link_at slots b))) ns
  sorted = λ i d low within.
      let up = rise i (i + 1) d (omega arith) within in
      ap is_lt ((order_total by).antisymm (link_at slots (get_or ns (i + 1) d)) (link_at slots (get_or ns i d))) ∙ ap (λ r. is_lt (ordering_reverse r)) up

  searchable : (l : Link) → IsNonDecreasingBy (λ n. ordering_index (compared by l (slice_get slots n))) ns
  searchable l = λ i j d up within.
      let h = searchable_from_sorted (order_total by) (link_at slots) ns l sorted i j d up within in
      subst (λ r. ordering_index r ≤ ordering_index (compared by l (slice_get slots (get_or ns j d)))) (sym (compared_at l i d (omega arith)))
      (subst (λ r. ordering_index (order_of by (link_at slots (get_or ns i d)) l) ≤ ordering_index r) (sym (compared_at l j d within)) h)

  pub searched : (l : Link) (r : Result ℕ ℕ) → IsSearchInRange r (length ns) → IsBinarySearchResult (λ n. compared by l (slice_get slots n)) ns r → Finds by l slots ns r
  searched l (Ok at) within says = record { within = within; is = λ d. order_apart by (link_at slots (get_or ns at d)) l (sym (compared_at l at d within) ∙ says d) }
  searched l (Err at) within says =
      let parted = says (searchable l) in
      record {
        within = within;
        before = λ i d less. sym (compared_at l i d (omega arith)) ∙ parted.0 i d (omega arith) less;
        behind = λ i d more less. sym (compared_at l i d less) ∙ parted.1 i d more less;
      }

  -- the numbers of lesser pairs come first
  pub start_found : (l : Link) (at : ℕ) → IsFoundAt l slots ns at → IsStartOf by l slots ns at
  start_found l at h =
      let w = h.within in
      record {
        within = omega arith;
        before = λ i d less. subst (λ (m : Link). order_of by (link_at slots (get_or ns i d)) m ≡ Less) (h.is d) (rise i at d less h.within);
        behind = λ i d more less below. elim (cases_lt at i) [
          | inl up ↦ one_way by (link_at slots (get_or ns i d)) l below (subst (λ (m : Link). order_of by m (link_at slots (get_or ns i d)) ≡ Less) (h.is d) (rise at i d up less))
          | inr down ↦
              let same : i ≡ at = omega arith in
              not_below_itself by l (subst (λ (m : Link). order_of by m l ≡ Less) (ap (λ k. link_at slots (get_or ns k d)) same ∙ h.is d) below)
        ];
      }

  pub start_gap : (l : Link) (at : ℕ) → IsGapFor by l slots ns at → IsStartOf by l slots ns at
  start_gap l at h = record {
    within = h.within;
    before = h.before;
    behind = λ i d more less below. not_below_greater by (link_at slots (get_or ns i d)) l (h.behind i d more less) below;
  }
