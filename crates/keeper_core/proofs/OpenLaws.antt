-- Well-formed tables are what a session can open with.
use Rattle.std.proofs.Common.{◌≡◌, ◌<◌, ◌≤◌, ◌+◌, ◌^◌, ℕ, ℤ, pos, negsuc, Bool, true, false, T, List, [], ◌∷◌, map, length, Option, Some, None, Result, Ok, Err, IfOk, Ordering, Less, refl, sym, subst, ap, ◌∙◌, inl, inr}
use Rattle.std.proofs.lemmas.Bool.{cases_Bool, false≢true}
use Rattle.std.proofs.lemmas.Simd.{map-map}
use Rattle.std.specs.Prelude.{if◌then◌else◌, nat_abs, nat_le, nat_lt}
use Rattle.std.specs.Cmp.{IsTotalOrder}
use Rattle.std.specs.Cmp.Lexicographic.{nat_list_cmp_total}
use Rattle.std.specs.FinMap.{entries, entries-from_sorted, from_entries, is_sorted}
use Rattle.std.specs.FinMap.Entries.{below_all}
use Rattle.std.specs.List.{AllByRecursion}
use Rattle.std.specs.Option.{option_map, option_or}
use Rattle.std.specs.Ordering.{is_lt}
use Rattle.std.specs.Str.{bytes_eq}
use Rattle.sha2.specs.Sha256.{sha256}
use Rattle.value_core.specs.declared.value.Value.{Value}
use Rattle.value_core.specs.Literals.{literal_read}
use Rattle.value_core.specs.Orders.{bytes_cmp}
use Rattle.value_core.proofs.Basics.{and_parts, nat_le_is, nat_lt_is}
use Rattle.sched_rows.specs.declared.row.Row.{Row}
use Rattle.sched_rows.specs.RowKeys.{RowKey, key_of, row_key_cmp, row_key_cmp_total}
use Rattle.sched_rows.proofs.KeyOrders.{row_key_cmp_tells}
use Rattle.sched_rows.proofs.SortedEntries.{both_from, both_true, is_less, is_sorted-val}
use Rattle.core_rules.specs.Openings.{Durable, IsRowOpenable, rows_in}
use Rattle.keeper_core.specs.declared.reading.TableFault.{TableFault}
use Rattle.keeper_core.specs.declared.tables.CacheRow.{CacheRow}
use Rattle.keeper_core.specs.declared.tables.InputRow.{InputRow}
use Rattle.keeper_core.specs.declared.tables.MetaRow.{MetaRow}
use Rattle.keeper_core.specs.declared.tables.Table.{Table}
use Rattle.keeper_core.specs.declared.tables.Table.TheVariants as table
use Rattle.keeper_core.specs.declared.tables.Tables.{Tables}
use Rattle.keeper_core.specs.Durables.{Reads, durable_of, row_of, values_of, with_value}
use Rattle.keeper_core.specs.Openings.{IsLiteralValue, IsOpenableWithin, IsRowShort}
use Rattle.keeper_core.specs.WellFormed.{are_flags, are_texts, first_bad, first_refused, is_input, is_job, is_key, is_log, is_meta, is_result, is_short_text, is_within, key_in, name_of, next_of, rises_over, value_in}
use Rattle.keeper_core.proofs.MoveLaws.{sorted_map}
use Rattle.keeper_core.proofs.ReadLiterals.{read_within}

below_trans : {K X : Type 0} (R : K → K → Ordering) → IsTotalOrder R → (j k : K) (es : List (K × X)) → R j k ≡ Less → T (below_all R k es) → T (below_all R j es)
below_trans R o j k [] less h = tt
below_trans R o j k (e ∷ es) less h =
    let b = both_true _ _ h in
    both_from (is_lt (R j e.0)) (below_all R j es) (subst (λ r. T (is_lt r)) (sym (o.trans j k e.0 less (is_less (R k e.0) b.0))) tt) (below_trans R o j k es less b.1)

-- rows whose keys rise one after another are in order
module _ {Row K X : Type 0} (R : K → K → Ordering) (o : IsTotalOrder R) (key : Row → K) (val : Row → X) (is : Option Row → Row → Bool)
    (rises : (before : Option Row) (r : Row) → is before r ≡ true → rises_over R (option_map key before) (key r) ≡ true) where
  abbrev entry : Row → K × X
  entry r = (key r, val r)

  in_order_behind : (r : Row) (n : ℕ) (rs : List Row) → first_refused is (Some r) n rs ≡ None → T (below_all R (key r) (map entry rs)) × T (is_sorted R (map entry rs))
  in_order_behind r n [] h = (tt, tt)
  in_order_behind r n (x ∷ xs) h = elim (cases_Bool (is (Some r) x)) [
    | inl good ↦
        let rest = in_order_behind x (n + 1) xs (rw good at h) in
        let less : R (key r) (key x) ≡ Less = is_less (R (key r) (key x)) (subst T (sym (rises (Some r) x good)) tt) in (
          both_from (is_lt (R (key r) (key x))) (below_all R (key r) (map entry xs)) (subst T (sym (rises (Some r) x good)) tt) (below_trans R o (key r) (key x) (map entry xs) less rest.0),
          both_from (below_all R (key x) (map entry xs)) (is_sorted R (map entry xs)) rest.0 rest.1,
        )
    | inr bad ↦ absurd (let e : Some n ≡ None = rw bad at h in cc)
  ]

  pub in_order : (rs : List Row) → first_refused is None 1 rs ≡ None → T (is_sorted R (map entry rs))
  in_order [] h = tt
  in_order (x ∷ xs) h = elim (cases_Bool (is None x)) [
    | inl good ↦
        let rest = in_order_behind x 2 xs (rw good at h) in
        both_from (below_all R (key x) (map entry xs)) (is_sorted R (map entry xs)) rest.0 rest.1
    | inr bad ↦ absurd (let e : Some 1 ≡ None = rw bad at h in cc)
  ]

-- what the test says of each row
pub each_passed : {Row X : Type 0} (f : Row → X) (P : X → Type 0) (is : Option Row → Row → Bool) → ((before : Option Row) (r : Row) → is before r ≡ true → P (f r))
    → (before : Option Row) (n : ℕ) (rs : List Row) → first_refused is before n rs ≡ None → AllByRecursion P (map f rs)
each_passed f P is says before n [] h = tt
each_passed f P is says before n (r ∷ rs) h = elim (cases_Bool (is before r)) [
  | inl good ↦ (says before r good, each_passed f P is says (Some r) (n + 1) rs (rw good at h))
  | inr bad ↦ absurd (let e : Some n ≡ None = rw bad at h in cc)
]

-- ---- numbers and texts

job_below : (z j : ℤ) → is_job z j ≡ true → (1 ≤ nat_abs j) × (nat_abs j < nat_abs z)
job_below (pos n) (pos m) h = let b = and_parts (nat_le 1 m) (nat_lt m n) h in (nat_le_is 1 m b.0, nat_lt_is m n b.1)
job_below (pos n) (negsuc m) h = absurd (false≢true h)
job_below (negsuc n) (pos m) h = absurd (false≢true (and_parts (nat_le 1 m) false h).1)
job_below (negsuc n) (negsuc m) h = absurd (false≢true h)

within : (low high : ℕ) (z : ℤ) → is_within (pos low) (pos high) z ≡ true → (low ≤ nat_abs z) × (nat_abs z ≤ high)
within low high (pos n) h = let b = and_parts (nat_le low n) (nat_le n high) h in (nat_le_is low n b.0, nat_le_is n high b.1)
within low high (negsuc n) h = absurd (false≢true h)

short : (limit : ℕ) (bs : List ℕ) → is_short_text limit bs ≡ true → length bs ≤ limit
short limit bs h = nat_le_is (length bs) limit (and_parts _ _ h).0

abbrev entry_in : CacheRow → RowKey × Row
entry_in r = (key_in r, row_of r)

row_openable : (z : ℤ) (before : Option CacheRow) (r : CacheRow) → is_result z before r ≡ true → IsRowOpenable (nat_abs z) (entry_in r)
row_openable z before r h =
    let columns = and_parts (are_texts (value_in r)) _ (and_parts (bytes_eq r.khash (sha256 r.ckey)) _ (and_parts (is_key 65536 (option_map key_in before) (key_in r)) _ h).1).1 in
    let numbers = and_parts (is_within (pos 0) (pos (2 ^ 60)) r.finished) (is_job z r.job) (and_parts (are_flags (value_in r)) _ columns.1).1 in
    let job = job_below z r.job numbers.1 in
    record {
      key = refl;
      first = job.0;
      below = job.1;
      finished = (within 0 (2 ^ 60) r.finished numbers.0).1;
    }

row_short : (z : ℤ) (before : Option CacheRow) (r : CacheRow) → is_result z before r ≡ true → IsRowShort (entry_in r)
row_short z before r h =
    let outer = and_parts _ _ h in
    let keyed = and_parts _ _ outer.0 in
    let columns = and_parts _ _ (and_parts _ _ outer.1).1 in
    let texts = and_parts _ _ columns.0 in
    record {
      key = short 65536 r.ckey (and_parts _ _ keyed.1).0;
      value = short 65536 r.cvalue texts.0;
      result = short 65536 r.result texts.1;
    }

result_rises : (z : ℤ) (before : Option CacheRow) (r : CacheRow) → is_result z before r ≡ true → rises_over row_key_cmp (option_map key_in before) (key_in r) ≡ true
result_rises z before r h = (and_parts _ _ (and_parts _ _ (and_parts _ _ h).0).1).1

input_rises : (before : Option InputRow) (r : InputRow) → is_input before r ≡ true → rises_over bytes_cmp (option_map name_of before) (name_of r) ≡ true
input_rises before r h = (and_parts _ _ (and_parts _ _ h).0).1

-- ---- values by their names

values_within : (rs : List InputRow) → AllByRecursion (λ (e : List ℕ × Value). IsLiteralValue e.1) (values_of rs)
values_within [] = tt
values_within (r ∷ rs) = go (literal_read r.literal) refl (values_within rs)
  where
    go : (o : Option Value) → literal_read r.literal ≡ o → AllByRecursion (λ (e : List ℕ × Value). IsLiteralValue e.1) (values_of rs) → AllByRecursion (λ (e : List ℕ × Value). IsLiteralValue e.1) (with_value r.name o (values_of rs))
    go None is rest = rest
    go (Some v) is rest = (read_within r.literal v is, rest)

abbrev named : InputRow → List ℕ × InputRow
named r = (name_of r, r)

values_below : (k : List ℕ) (rs : List InputRow) → T (below_all bytes_cmp k (map named rs)) → T (below_all bytes_cmp k (values_of rs))
values_below k [] h = tt
values_below k (r ∷ rs) h =
    let b = both_true (is_lt (bytes_cmp k r.name)) (below_all bytes_cmp k (map named rs)) h in
    go (literal_read r.literal) b.0 (values_below k rs b.1)
  where
    go : (o : Option Value) → T (is_lt (bytes_cmp k r.name)) → T (below_all bytes_cmp k (values_of rs)) → T (below_all bytes_cmp k (with_value r.name o (values_of rs)))
    go None less rest = rest
    go (Some v) less rest = both_from (is_lt (bytes_cmp k r.name)) (below_all bytes_cmp k (values_of rs)) less rest

values_sorted : (rs : List InputRow) → T (is_sorted bytes_cmp (map named rs)) → T (is_sorted bytes_cmp (values_of rs))
values_sorted [] h = tt
values_sorted (r ∷ rs) h =
    let b = both_true (below_all bytes_cmp r.name (map named rs)) (is_sorted bytes_cmp (map named rs)) h in
    go (literal_read r.literal) (values_below r.name rs b.0) (values_sorted rs b.1)
  where
    go : (o : Option Value) → T (below_all bytes_cmp r.name (values_of rs)) → T (is_sorted bytes_cmp (values_of rs)) → T (is_sorted bytes_cmp (with_value r.name o (values_of rs)))
    go None below rest = rest
    go (Some v) below rest = both_from (below_all bytes_cmp r.name (values_of rs)) (is_sorted bytes_cmp (values_of rs)) below rest

-- ---- rows by their keys

abbrev row_entry : Row → RowKey × Row
row_entry r = (key_of r, r)

rows_sorted : (rs : List CacheRow) → T (is_sorted row_key_cmp (map (λ r. (key_in r, r)) rs)) → T (is_sorted row_key_cmp (map entry_in rs))
rows_sorted rs h = subst T (is_sorted-val row_key_cmp key_in (λ (r : CacheRow). r) row_of rs) h

pub rows_entries : (rs : List CacheRow) → T (is_sorted row_key_cmp (map (λ r. (key_in r, r)) rs)) → entries (rows_in (map row_of rs)) ≡ map entry_in rs
rows_entries rs h =
    let sorted = rows_sorted rs h in
    ap (λ (es : List (RowKey × Row)). entries (from_entries {R = row_key_cmp} es)) (map-map row_entry row_of rs) ∙ sym (ap entries (sorted_map row_key_cmp_total row_key_cmp_tells (map entry_in rs) sorted))
    ∙ entries-from_sorted row_key_cmp (map entry_in rs) sorted

-- ---- whole tables

openable : (z : ℤ) (inputs : List InputRow) (rows : List CacheRow) → is_within (pos 1) (pos (2 ^ 62)) z ≡ true → first_refused is_input None 1 inputs ≡ None → first_refused (is_result z) None 1 rows ≡ None
    → IsOpenableWithin (record { inputs = values_of inputs; rows = rows_in (map row_of rows); next = nat_abs z })
openable z inputs rows next i r =
    let number = within 1 (2 ^ 62) z next in
    let sorted = in_order row_key_cmp row_key_cmp_total key_in (λ (x : CacheRow). x) (is_result z) (result_rises z) rows r in
    let same = sym (rows_entries rows sorted) in
    record {
      openable = record {
        first_next = number.0;
        last_next = number.1;
        rows = subst (AllByRecursion (IsRowOpenable (nat_abs z))) same (each_passed entry_in (IsRowOpenable (nat_abs z)) (is_result z) (row_openable z) None 1 rows r);
      };
      names = values_sorted inputs (in_order bytes_cmp nat_list_cmp_total name_of (λ (x : InputRow). x) is_input input_rises inputs i);
      values = values_within inputs;
      rows = subst (AllByRecursion IsRowShort) same (each_passed entry_in IsRowShort (is_result z) (row_short z) None 1 rows r);
    }

meta_within : (format : ℤ) (ms : List MetaRow) → is_meta format ms ≡ true → is_within (pos 1) (pos (2 ^ 62)) (next_of ms) ≡ true
meta_within format [] h = absurd (cc)
meta_within format (m ∷ []) h = (and_parts _ _ h).1
meta_within format (m ∷ n ∷ ms) h = absurd (cc)

-- where no row is bad, no table has one
none_bad_parts : (m : Bool) (i r l : Option ℕ) (in_inputs in_cache in_logs : ℕ → Table × ℕ) (meta : Table × ℕ)
    → (if m then option_or (option_map in_inputs i) (option_or (option_map in_cache r) (option_map in_logs l)) else Some meta) ≡ None → (m ≡ true) × (i ≡ None) × (r ≡ None)
none_bad_parts true None None l f g k meta h = (refl, refl, refl)
none_bad_parts true None (Some n) l f g k meta h = absurd (cc)
none_bad_parts true (Some n) r l f g k meta h = absurd (cc)
none_bad_parts false i r l f g k meta h = absurd (cc)

opens : (t : Tables) → first_bad t ≡ None → IsOpenableWithin (durable_of t)
opens t h =
    let p = none_bad_parts (is_meta (pos 2) t.meta) (first_refused is_input None 1 t.inputs) (first_refused (is_result (next_of t.meta)) None 1 t.cache) (first_refused (is_log (next_of t.meta)) None 1 t.logs)
    (λ n. (table.Inputs, n)) (λ n. (table.Cache, n)) (λ n. (table.Logs, n)) (table.Meta, 1) h in
    openable (next_of t.meta) t.inputs t.cache (meta_within (pos 2) t.meta p.0) p.1 p.2

-- so a session can open with what is read
pub reads_openable : (t : Tables) (r : Result Durable TableFault) → Reads t r → IfOk r IsOpenableWithin
reads_openable t (Ok d) h = subst IsOpenableWithin (sym h.1) (opens t h.0)
reads_openable t (Err e) h = tt
