-- What a pair more and a pair less leave of the indexes.
use Rattle.std.proofs.Common.{◌≡◌, ◌≢◌, ℕ, zero, suc, ◌+◌, ◌-◌, ◌<◌, List, [], ◌∷◌, ◌++◌, length, get_or, Some, refl, sym, ap, subst, ◌∙◌, arith}
use Rattle.std.proofs.lemmas.Option.{slice_get-get_or}
use Rattle.std.specs.FinSet.{from_list}
use Rattle.std.specs.FinSet as set_of
use Rattle.std.specs.List.{AllByRecursion, slice_get}
use Rattle.dep_index.specs.inside.Layout.{IsIndex, IsMovedLast, IsSwapRemoved, Rises, link_at, links_of, listed, shown, shown_or}
use Rattle.dep_index.specs.Pairs.{link_cmp}
use Rattle.dep_index.specs.declared.pair.By.{By}
use Rattle.dep_index.specs.declared.pair.Pair.{Pair}
use Rattle.dep_index.specs.declared.used.Used.TheVariants as used

get-push : (slots : List Pair) (p : Pair) (n : ℕ) → n < length slots → slice_get (slots ++ p ∷ []) n ≡ slice_get slots n
get-push [] p n l = absurd (omega arith)
get-push (q ∷ slots) p zero l = refl
get-push (q ∷ slots) p (suc n) l = get-push slots p n (omega arith)

get-pushed : (slots : List Pair) (p : Pair) → slice_get (slots ++ p ∷ []) (length slots) ≡ slice_get (p ∷ []) 0
get-pushed [] p = refl
get-pushed (q ∷ slots) p = get-pushed slots p

length-pushed : (slots : List Pair) (p : Pair) → length (slots ++ p ∷ []) ≡ suc (length slots)
length-pushed [] p = refl
length-pushed (q ∷ slots) p = ap suc (length-pushed slots p)

-- the other slots' numbers show what they did
listed-push : (slots : List Pair) (p : Pair) (ns : List ℕ) → AllByRecursion (λ n. n < length slots) ns → listed (slots ++ p ∷ []) ns ≡ listed slots ns
listed-push slots p [] h = refl
listed-push slots p (n ∷ ns) h = λ i. shown_or (get-push slots p n h.0 i) ∷ listed-push slots p ns h.1 i

within-push : (slots : List Pair) (p : Pair) (ns : List ℕ) → AllByRecursion (λ n. n < length slots) ns → AllByRecursion (λ n. n < length (slots ++ p ∷ [])) ns
within-push slots p [] h = tt
within-push slots p (n ∷ ns) h = (let l = h.0 in let e = length-pushed slots p in omega arith, within-push slots p ns h.1)

pub index-push : (by : By) (slots : List Pair) (p : Pair) (ns : List ℕ) → IsIndex by slots ns → IsIndex by (slots ++ p ∷ []) ns
index-push by slots p ns h = record {
  within = within-push slots p ns h.within;
  rising = subst (Rises by) (sym (listed-push slots p ns h.within)) h.rising;
}

-- the pairs with the one in the new slot
pub links-push : (by : By) (slots : List Pair) (p : Pair) (ns new : List ℕ) → IsIndex by slots ns
    → links_of (slots ++ p ∷ []) new ≡ set_of.insert (links_of (slots ++ p ∷ []) ns) (link_at (slots ++ p ∷ []) (length slots))
    → links_of (slots ++ p ∷ []) new ≡ set_of.insert (links_of slots ns) (shown p)
links-push by slots p ns new h e =
    let old : links_of (slots ++ p ∷ []) ns ≡ links_of slots ns = ap (λ ls. from_list {R = link_cmp} ls) (listed-push slots p ns h.within) in
    e ∙ (λ i. set_of.insert (old i) (shown_or (get-pushed slots p i)))

-- ---- a pair less

a_pair : Pair
a_pair = record { source = used.Input 0; to = 0 }

pub swapped : (slot : ℕ) (slots after : List Pair) → length after + 1 ≡ length slots
    → ((d : Pair) → slot + 1 < length slots → get_or after slot d ≡ get_or slots (length slots - 1) d)
    → ((k : ℕ) (d : Pair) → k ≢ slot → k + 1 < length slots → get_or after k d ≡ get_or slots k d)
    → IsSwapRemoved slot slots after
swapped slot slots after len moved others = record {
  len = len;
  moved = λ l.
      let end : length slots - 1 ≡ length after = omega arith in
      slice_get-get_or after slot a_pair l ∙ ap Some (moved a_pair (omega arith) ∙ ap (λ n. get_or slots n a_pair) end)
      ∙ sym (slice_get-get_or slots (length after) a_pair (omega arith));
  others = λ n d l.
      slice_get-get_or after n a_pair l ∙ ap Some (others n a_pair d (omega arith)) ∙ sym (slice_get-get_or slots n a_pair (omega arith));
}

within_less : (slots after : List Pair) (ns : List ℕ) → length after + 1 ≡ length slots → AllByRecursion (λ n. n + 1 < length slots) ns → AllByRecursion (λ n. n < length after) ns
within_less slots after [] len h = tt
within_less slots after (n ∷ ns) len h = (let l = h.0 in omega arith, within_less slots after ns len h.1)

pub index_moved : (by : By) (slot : ℕ) (slots after : List Pair) (ns new : List ℕ) → IsIndex by slots ns → IsMovedLast slot slots ns new → IsSwapRemoved slot slots after → IsIndex by after new
index_moved by slot slots after ns new index moved sw = record {
  within = within_less slots after new sw.len moved.within;
  rising = subst (Rises by) (sym (moved.shows after sw)) index.rising;
}

pub links_moved : (slot : ℕ) (slots after : List Pair) (ns new : List ℕ) → IsMovedLast slot slots ns new → IsSwapRemoved slot slots after → links_of after new ≡ links_of slots ns
links_moved slot slots after ns new moved sw = ap (λ ls. from_list {R = link_cmp} ls) (moved.shows after sw)
