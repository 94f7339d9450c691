-- Hints in order, and the finite map that they stand for.
use Rattle.std.proofs.Common.{◌≡◌, ℕ, zero, suc, ◌+◌, ◌<◌, Bool, true, false, cond, ◌&&◌, List, [], ◌∷◌, map, length, get_or, set, Some, None, refl, sym, ap, ◌∙◌, subst, arith, Less, Equal, Greater}
use Rattle.std.specs.Prelude.{insert, T}
use Rattle.std.specs.Cmp.{alike_right}
use Rattle.std.specs.List.Sorted.{IsSortedBy, IsNonDecreasingBy}
use Rattle.std.specs.Ordering.{is_lt, is_eq, ordering_reverse, ordering_index}
use Rattle.std.specs.declared.cmp.Ordering.{Ordering}
use Rattle.std.specs.FinMap.{entries, get, entries-from_sorted, entries-insert, get-from_sorted, same_entries_map, empty, empty_of_len, len-entries}
use Rattle.std.specs.FinMap as map
use Rattle.std.specs.FinMap.Entries.{by_order, put, find, below_all, is_sorted, is_sorted-put}
use Rattle.std.proofs.lemmas.List.Sorted.{searchable_from_sorted}
use Rattle.fair_pool.specs.Hints.{HintKey, hint_key_cmp, hint_key_total, hint_key, hint_entry}
use Rattle.fair_pool.specs.Kept.{hint_table, AreHintsKept, IsKnownAt, IsMissingAt}
use Rattle.fair_pool.specs.declared.ticket.HintWorker.{HintWorker}

both_of : (a b : Bool) → T (a && b) → T a × T b
both_of true b t = (tt, t)
both_of false b t = absurd t

is_less : (o : Ordering) → T (is_lt o) → o ≡ Less
is_less Less t = refl
is_less Equal t = absurd t
is_less Greater t = absurd t

turned : (h : HintWorker) (k : HintKey) (o : Ordering) → hint_key_cmp (hint_key h) k ≡ o → hint_key_cmp k (hint_key h) ≡ ordering_reverse o
turned h k o e = hint_key_total.antisymm k (hint_key h) ∙ ap ordering_reverse e

below_at : (x : HintKey) (hs : List HintWorker) (i : ℕ) (d : HintWorker) → T (below_all hint_key_cmp x (map hint_entry hs)) → i < length hs → hint_key_cmp x (hint_key (get_or hs i d)) ≡ Less
below_at x [] i d t l = absurd (omega arith)
below_at x (h ∷ hs) zero d t l = is_less (hint_key_cmp x (hint_key h)) (both_of (is_lt (hint_key_cmp x (hint_key h))) (below_all hint_key_cmp x (map hint_entry hs)) t).0
below_at x (h ∷ hs) (suc i) d t l = below_at x hs i d (both_of (is_lt (hint_key_cmp x (hint_key h))) (below_all hint_key_cmp x (map hint_entry hs)) t).1 (omega arith)

abbrev below_rest : (h : HintWorker) (hs : List HintWorker) → AreHintsKept (h ∷ hs) → T (below_all hint_key_cmp (hint_key h) (map hint_entry hs))
below_rest h hs t = (both_of (below_all hint_key_cmp (hint_key h) (map hint_entry hs)) (is_sorted hint_key_cmp (map hint_entry hs)) t).0

abbrev kept_rest : (h : HintWorker) (hs : List HintWorker) → AreHintsKept (h ∷ hs) → AreHintsKept hs
kept_rest h hs t = (both_of (below_all hint_key_cmp (hint_key h) (map hint_entry hs)) (is_sorted hint_key_cmp (map hint_entry hs)) t).1

-- ---- what a search by halving asks

rising : (hs : List HintWorker) → AreHintsKept hs → IsSortedBy (λ a b. is_lt (hint_key_cmp (hint_key a) (hint_key b))) hs
rising [] t k d a b = absurd (omega arith)
rising (h ∷ hs) t zero d a b = ap is_lt (turned h (hint_key (get_or hs zero d)) Less (below_at (hint_key h) hs zero d (below_rest h hs t) (omega arith)))
rising (h ∷ hs) t (suc k) d a b =
    subst (λ n. is_lt (hint_key_cmp (hint_key (get_or (h ∷ hs) n d)) (hint_key (get_or hs k d))) ≡ false) (let e : suc (k + 1) ≡ suc k + 1 = omega arith in e)
    (rising hs (kept_rest h hs t) k d (omega arith) (omega arith))

pub searchable : (hs : List HintWorker) (k : HintKey) → AreHintsKept hs → IsNonDecreasingBy (λ y. ordering_index (hint_key_cmp (hint_key y) k)) hs
searchable hs k t = searchable_from_sorted hint_key_total hint_key hs k (rising hs t)

-- ---- a hint that is known

earlier : (h : HintWorker) (hs : List HintWorker) (i : ℕ) (k : HintKey) → AreHintsKept (h ∷ hs) → i < length hs → ((d : HintWorker) → hint_key_cmp (hint_key (get_or hs i d)) k ≡ Equal) → hint_key_cmp k (hint_key h) ≡ Greater
earlier h hs i k t l e = turned h k Less (sym (alike_right hint_key_total (hint_key (get_or hs i h)) k (hint_key h) (e h)) ∙ below_at (hint_key h) hs i h (below_rest h hs t) l)

find_known : (k : HintKey) (hs : List HintWorker) (at : ℕ) (d : HintWorker) → AreHintsKept hs → IsKnownAt k hs at → find hint_key_cmp k (map hint_entry hs) ≡ Some (get_or hs at d).worker
find_known k [] at d t e = let l = e.0 in absurd (omega arith)
find_known k (h ∷ hs) zero d t e = ap (λ o. cond (is_eq o) (Some h.worker) (find hint_key_cmp k (map hint_entry hs))) (turned h k Equal (e.1 h))
find_known k (h ∷ hs) (suc i) d t e = let l : i < length hs = let m = e.0 in omega arith in
    ap (λ o. cond (is_eq o) (Some h.worker) (find hint_key_cmp k (map hint_entry hs))) (earlier h hs i k t l e.1) ∙ find_known k hs i d (kept_rest h hs t) (l, e.1)

put_known : (k : HintKey) (v : ℕ) (hs : List HintWorker) (at : ℕ) (d : HintWorker) → AreHintsKept hs → IsKnownAt k hs at → put hint_key_cmp k v (map hint_entry hs) ≡ map hint_entry (set hs at (record (get_or hs at d) { worker = v }))
put_known k v [] at d t e = let l = e.0 in absurd (omega arith)
put_known k v (h ∷ hs) zero d t e = ap (λ o. by_order o ((k, v) ∷ hint_entry h ∷ map hint_entry hs) ((hint_key h, v) ∷ map hint_entry hs) (hint_entry h ∷ put hint_key_cmp k v (map hint_entry hs))) (turned h k Equal (e.1 h))
put_known k v (h ∷ hs) (suc i) d t e = let l : i < length hs = let m = e.0 in omega arith in
    ap (λ o. by_order o ((k, v) ∷ hint_entry h ∷ map hint_entry hs) ((hint_key h, v) ∷ map hint_entry hs) (hint_entry h ∷ put hint_key_cmp k v (map hint_entry hs))) (earlier h hs i k t l e.1)
    ∙ ap (λ es. hint_entry h ∷ es) (put_known k v hs i d (kept_rest h hs t) (l, e.1))

-- ---- a hint that isn't

abbrev later_part : (k : HintKey) (h : HintWorker) (hs : List HintWorker) (i : ℕ) → IsMissingAt k (h ∷ hs) (suc i) → IsMissingAt k hs i
later_part k h hs i e = (let l = e.0 in omega arith, (λ j d a b. e.1.0 (suc j) d (omega arith) (omega arith), λ j d a b. e.1.1 (suc j) d (omega arith) (omega arith)))

none_after : (k : HintKey) (hs : List HintWorker) → ((j : ℕ) (d : HintWorker) → j < length hs → hint_key_cmp (hint_key (get_or hs j d)) k ≡ Greater) → find hint_key_cmp k (map hint_entry hs) ≡ None
none_after k [] e = refl
none_after k (h ∷ hs) e = ap (λ o. cond (is_eq o) (Some h.worker) (find hint_key_cmp k (map hint_entry hs))) (turned h k Greater (e zero h (omega arith))) ∙ none_after k hs (λ j d l. e (suc j) d (omega arith))

find_missing : (k : HintKey) (hs : List HintWorker) (at : ℕ) → IsMissingAt k hs at → find hint_key_cmp k (map hint_entry hs) ≡ None
find_missing k hs zero e = none_after k hs (λ j d l. e.1.1 j d (omega arith) l)
find_missing k [] (suc i) e = refl
find_missing k (h ∷ hs) (suc i) e = ap (λ o. cond (is_eq o) (Some h.worker) (find hint_key_cmp k (map hint_entry hs))) (turned h k Less (e.1.0 zero h (omega arith) (omega arith))) ∙ find_missing k hs i (later_part k h hs i e)

put_missing : (k : HintKey) (v : ℕ) (hs : List HintWorker) (at : ℕ) → IsMissingAt k hs at → put hint_key_cmp k v (map hint_entry hs) ≡ map hint_entry (insert hs at (record { pool = k.pool; hint = k.hint; worker = v }))
put_missing k v [] zero e = refl
put_missing k v [] (suc i) e = let l = e.0 in absurd (omega arith)
put_missing k v (h ∷ hs) zero e = ap (λ o. by_order o ((k, v) ∷ hint_entry h ∷ map hint_entry hs) ((hint_key h, v) ∷ map hint_entry hs) (hint_entry h ∷ put hint_key_cmp k v (map hint_entry hs))) (turned h k Greater (e.1.1 zero h (omega arith) (omega arith)))
put_missing k v (h ∷ hs) (suc i) e = ap (λ o. by_order o ((k, v) ∷ hint_entry h ∷ map hint_entry hs) ((hint_key h, v) ∷ map hint_entry hs) (hint_entry h ∷ put hint_key_cmp k v (map hint_entry hs))) (turned h k Less (e.1.0 zero h (omega arith) (omega arith)))
    ∙ ap (λ es. hint_entry h ∷ es) (put_missing k v hs i (later_part k h hs i e))

-- ---- the finite map

pub table_entries : (hs : List HintWorker) → AreHintsKept hs → entries (hint_table hs) ≡ map hint_entry hs
table_entries hs t = entries-from_sorted hint_key_cmp (map hint_entry hs) t

pub get_known : (k : HintKey) (hs : List HintWorker) (at : ℕ) (d : HintWorker) → AreHintsKept hs → IsKnownAt k hs at → get (hint_table hs) k ≡ Some (get_or hs at d).worker
get_known k hs at d t e = get-from_sorted hint_key_cmp (map hint_entry hs) k t ∙ find_known k hs at d t e

pub get_missing : (k : HintKey) (hs : List HintWorker) (at : ℕ) → AreHintsKept hs → IsMissingAt k hs at → get (hint_table hs) k ≡ None
get_missing k hs at t e = get-from_sorted hint_key_cmp (map hint_entry hs) k t ∙ find_missing k hs at e

-- hints that are those of a table with one put in are in order, and stand for it
pub record Notes (k : HintKey) (v : ℕ) (hs hs' : List HintWorker) : Type 0 where
  pub kept : AreHintsKept hs'
  pub table : hint_table hs' ≡ map.insert (hint_table hs) k v

noted_by : (k : HintKey) (v : ℕ) (hs hs' : List HintWorker) → AreHintsKept hs → put hint_key_cmp k v (map hint_entry hs) ≡ map hint_entry hs' → Notes k v hs hs'
noted_by k v hs hs' t e =
    let kept : AreHintsKept hs' = subst (λ es. T (is_sorted hint_key_cmp es)) e (is_sorted-put hint_key_cmp hint_key_total k v (map hint_entry hs) t) in
    record {
      kept = kept;
      table = same_entries_map (hint_table hs') (map.insert (hint_table hs) k v)
          (table_entries hs' kept ∙ sym e ∙ ap (put hint_key_cmp k v) (sym (table_entries hs t)) ∙ sym (entries-insert hint_key_total (hint_table hs) k v));
    }

pub noted_known : (k : HintKey) (v : ℕ) (hs : List HintWorker) (at : ℕ) (d : HintWorker) → AreHintsKept hs → IsKnownAt k hs at → Notes k v hs (set hs at (record (get_or hs at d) { worker = v }))
noted_known k v hs at d t e = noted_by k v hs (set hs at (record (get_or hs at d) { worker = v })) t (put_known k v hs at d t e)

pub noted_missing : (k : HintKey) (v : ℕ) (hs : List HintWorker) (at : ℕ) → AreHintsKept hs → IsMissingAt k hs at → Notes k v hs (insert hs at (record { pool = k.pool; hint = k.hint; worker = v }))
noted_missing k v hs at t e = noted_by k v hs (insert hs at (record { pool = k.pool; hint = k.hint; worker = v })) t (put_missing k v hs at e)

pub no_hints : (hs : List HintWorker) → hs ≡ [] → hint_table hs ≡ empty
no_hints hs e = ap hint_table e ∙ empty_of_len (hint_table []) (len-entries (hint_table []) ∙ ap length (table_entries [] tt))
