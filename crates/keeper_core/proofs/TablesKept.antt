-- What may be stored leaves well-formed tables well formed.
use Rattle.std.proofs.Common.{◌≡◌, ◌<◌, ◌≤◌, ◌^◌, ℕ, ℤ, pos, negsuc, Bool, true, false, ◌&&◌, T, List, [], ◌∷◌, map, Option, Some, None, Ordering, Less, Equal, Greater, refl, sym, subst, ap, ◌∙◌, ◌⊎◌, inl, inr, arith}
use Rattle.std.proofs.lemmas.Bool.{false≢true}
use Rattle.std.specs.Prelude.{if◌then◌else◌, int_le, int_lt, nat_abs, nat_le, nat_lt, is_some, IfSome}
use Rattle.std.specs.Cmp.{tied_itself}
use Rattle.std.specs.Cmp.Lexicographic.{nat_list_cmp_total}
use Rattle.std.specs.FinMap.{entries, get-empty, entries_sorted, int_cmp-IsAntisymmetric, is_sorted, keys}
use Rattle.std.specs.FinMap.Entries.{below_all}
use Rattle.std.specs.Cmp.{int_cmp_total}
use Rattle.std.specs.List.{AllByRecursion}
use Rattle.std.specs.Option.{option_map, option_or}
use Rattle.std.specs.Ordering.{int_cmp, int_eq, is_lt, ordering_then}
use Rattle.std.specs.Str.{bytes_eq}
use Rattle.sha2.specs.Sha256.{sha256}
use Rattle.value_core.specs.Literals.{literal_read}
use Rattle.value_core.specs.Names.{is_name}
use Rattle.value_core.specs.Orders.{bytes_cmp}
use Rattle.sched_rows.specs.RowKeys.{row_key, row_key_cmp}
use Rattle.sched_rows.specs.declared.row.Row.{Row}
use Rattle.sched_rows.proofs.SortedEntries.{both_true, is_less}
use Rattle.core_rules.specs.declared.done.Delta.{Delta}
use Rattle.value_core.proofs.Basics.{and_both, and_parts, bytes_same, bytes_tie, is_nat_le, is_nat_lt, nat_le_is, nat_lt_is, same_bytes}
use Rattle.keeper_core.specs.declared.tables.CacheKey.{CacheKey}
use Rattle.keeper_core.specs.declared.tables.CacheRow.{CacheRow}
use Rattle.keeper_core.specs.declared.tables.CacheValue.{CacheValue}
use Rattle.keeper_core.specs.declared.tables.InputRow.{InputRow}
use Rattle.keeper_core.specs.declared.tables.MetaRow.{MetaRow}
use Rattle.keeper_core.specs.declared.tables.Table.{Table}
use Rattle.keeper_core.specs.declared.tables.Table.TheVariants as table
use Rattle.keeper_core.specs.declared.tables.Tables.{Tables}
use Rattle.keeper_core.specs.Commits.{cache_key, cache_value, flag, with_delta, with_input, with_log, with_next, with_put, with_void}
use Rattle.keeper_core.specs.Contents.{Bytes, Cache, Contents, Inputs, Logs, all_rows, cache_row, fresh, has_format, input_row, key_cmp, key_cmp_total, loaded, meta_rows}
use Rattle.keeper_core.specs.inside.KeyTies.{key_cmp_antisymmetric}
use Rattle.keeper_core.specs.Laws.{IsStorable, IsStorableRow, IsWellFormed, next_in}
use Rattle.keeper_core.specs.WellFormed.{are_columns, are_flags, are_numbers, are_texts, first_bad, first_refused, is_flag, is_input, is_input_name, is_job, is_key, is_log, is_meta, is_result, is_short_text, is_within, key_in, name_of, next_of, rises_over, value_in}
use Rattle.keeper_core.proofs.EveryEntry.{Chain, Every, all_of_every, every_insert, every_of_all, every_remove, passed, unrefused}

-- ---- what each entry keeps

abbrev pub IsInputEntry : Bytes × Bytes → Type 0
IsInputEntry e = (is_name e.0 ≡ true) × (is_some (literal_read e.1) ≡ true)

abbrev pub IsResultEntry : ℤ → CacheKey × CacheValue → Type 0
IsResultEntry next e = (is_name e.0.op ≡ true) × (is_short_text 65536 e.0.ckey ≡ true) × (bytes_eq e.0.khash (sha256 e.0.ckey) ≡ true) × (are_columns next e.1 ≡ true)

abbrev IsLogEntry : ℤ → ℤ × Bytes → Type 0
IsLogEntry next e = is_job next e.0 ≡ true

abbrev EveryInput : Inputs → Type 0
EveryInput m = Every IsInputEntry m

abbrev EveryResult : ℤ → Cache → Type 0
EveryResult next m = Every (IsResultEntry next) m

abbrev EveryLog : ℤ → Logs → Type 0
EveryLog next m = Every (IsLogEntry next) m

-- well-formed tables, entry by entry
pub record ByEntries (t : Contents) : Type 0 where
  pub meta : is_meta (pos 2) t.meta ≡ true
  pub inputs : EveryInput t.inputs
  pub results : EveryResult (next_of t.meta) t.cache
  pub logs : EveryLog (next_of t.meta) t.logs

-- ---- from rows to entries

input_says : (before : Option InputRow) (e : Bytes × Bytes) → is_input before (input_row e) ≡ true → IsInputEntry e
input_says before e h =
    let b = and_parts (is_input_name before (input_row e)) (is_some (literal_read e.1)) h in
    ((and_parts (is_name e.0) (rises_over bytes_cmp (option_map name_of before) e.0) b.0).0, b.1)

result_says : (next : ℤ) (before : Option CacheRow) (e : CacheKey × CacheValue) → is_result next before (cache_row e) ≡ true → IsResultEntry next e
result_says next before e h =
    let b = and_parts (is_key 65536 (option_map key_in before) (key_in (cache_row e))) (bytes_eq e.0.khash (sha256 e.0.ckey) && are_columns next (value_in (cache_row e))) h in
    let k = and_parts (is_name e.0.op) (is_short_text 65536 e.0.ckey && rises_over row_key_cmp (option_map key_in before) (key_in (cache_row e))) b.0 in
    let l = and_parts (is_short_text 65536 e.0.ckey) (rises_over row_key_cmp (option_map key_in before) (key_in (cache_row e))) k.1 in
    let c = and_parts (bytes_eq e.0.khash (sha256 e.0.ckey)) (are_columns next (value_in (cache_row e))) b.1 in
    (k.0, l.0, c.0, c.1)

meta_current : (ms : List MetaRow) → is_meta (pos 2) ms ≡ true → has_format (pos 2) ms ≡ true
meta_current [] h = absurd (cc)
meta_current (m ∷ []) h = (and_parts (int_eq m.format (pos 2)) (is_within (pos 1) (pos (2 ^ 62)) m.next_job) h).0
meta_current (m ∷ n ∷ ms) h = absurd (cc)

-- where no row is bad, no table has one
none_bad : (m : Bool) (i r l : Option ℕ) (in_inputs in_cache in_logs : ℕ → Table × ℕ) (first : Table × ℕ)
    → (if m then option_or (option_map in_inputs i) (option_or (option_map in_cache r) (option_map in_logs l)) else Some first) ≡ None → (m ≡ true) × (i ≡ None) × (r ≡ None) × (l ≡ None)
none_bad true None None None f g k first h = (refl, refl, refl, refl)
none_bad true None None (Some n) f g k first h = absurd (cc)
none_bad true None (Some n) l f g k first h = absurd (cc)
none_bad true (Some n) r l f g k first h = absurd (cc)
none_bad false i r l f g k first h = absurd (cc)

tables_none : (t : Tables) → first_bad t ≡ None
    → (is_meta (pos 2) t.meta ≡ true) × (first_refused is_input None 1 t.inputs ≡ None) × (first_refused (is_result (next_of t.meta)) None 1 t.cache ≡ None) × (first_refused (is_log (next_of t.meta)) None 1 t.logs ≡ None)
tables_none t h =
    none_bad (is_meta (pos 2) t.meta) (first_refused is_input None 1 t.inputs) (first_refused (is_result (next_of t.meta)) None 1 t.cache) (first_refused (is_log (next_of t.meta)) None 1 t.logs)
    (λ n. (table.Inputs, n)) (λ n. (table.Cache, n)) (λ n. (table.Logs, n)) (table.Meta, 1) h

meta_kept : (b : Bool) (t : Contents) → (if b then all_rows t else meta_rows t.meta).meta ≡ t.meta
meta_kept true t = refl
meta_kept false t = refl

pub loaded_all : (t : Contents) → is_meta (pos 2) t.meta ≡ true → loaded t ≡ all_rows t
loaded_all t h = let current = meta_current t.meta h in rw current refl

well_formed_meta : (t : Contents) → IsWellFormed t → is_meta (pos 2) t.meta ≡ true
well_formed_meta t h = ap (is_meta (pos 2)) (sym (meta_kept (has_format (pos 2) t.meta) t)) ∙ (tables_none (loaded t) h).0

pub by_entries : (t : Contents) → IsWellFormed t → ByEntries t
by_entries t h =
    let meta = well_formed_meta t h in
    let p = tables_none (all_rows t) (ap first_bad (sym (loaded_all t meta)) ∙ h) in
    let next = next_of t.meta in
    record {
      meta = meta;
      inputs = every_of_all bytes_cmp nat_list_cmp_total bytes_tie IsInputEntry t.inputs (passed input_row is_input IsInputEntry input_says None 1 (entries t.inputs) p.1);
      results = every_of_all key_cmp key_cmp_total key_cmp_antisymmetric (IsResultEntry next) t.cache (passed cache_row (is_result next) (IsResultEntry next) (result_says next) None 1 (entries t.cache) p.2);
      logs = every_of_all int_cmp int_cmp_total int_cmp-IsAntisymmetric (IsLogEntry next) t.logs (passed (λ (e : ℤ × Bytes). e.0) (is_log next) (IsLogEntry next) (λ before e good. good) None 1 (entries t.logs) p.3);
    }

-- ---- from entries to rows

-- the key rises over that of the entry before
abbrev Rises : {K X : Type 0} → (K → K → Ordering) → Option (K × X) → K × X → Type 0
Rises R before e = rises_over R (option_map (λ x. x.0) before) e.0 ≡ true

abbrev IsBelow : {K X : Type 0} → (K → K → Ordering) → Option (K × X) → List (K × X) → Type 0
IsBelow R None es = Unit {0}
IsBelow R (Some b) es = T (below_all R b.0 es)

rises : {K X : Type 0} (R : K → K → Ordering) (before : Option (K × X)) (e : K × X) (es : List (K × X)) → IsBelow R before (e ∷ es) → Rises R before e
rises R None e es h = refl
rises R (Some b) e es h = let less : R b.0 e.0 ≡ Less = is_less (R b.0 e.0) (both_true (is_lt (R b.0 e.0)) (below_all R b.0 es) h).0 in rw less refl

chained : {K X : Type 0} (R : K → K → Ordering) (before : Option (K × X)) (es : List (K × X)) → IsBelow R before es → T (is_sorted R es) → Chain (Rises R) before es
chained R before [] h s = tt
chained R before (e ∷ es) h s =
    let b = both_true (below_all R e.0 es) (is_sorted R es) s in
    (rises R before e es h, chained R (Some e) es b.0 b.1)

-- inputs
input_passes : (before : Option (Bytes × Bytes)) (e : Bytes × Bytes) → IsInputEntry e → Rises bytes_cmp before e → is_input (option_map input_row before) (input_row e) ≡ true
input_passes None e (n, l) r = and_both (is_name e.0 && true) (is_some (literal_read e.1)) (and_both (is_name e.0) true n refl) l
input_passes (Some b) e (n, l) r = and_both (is_name e.0 && rises_over bytes_cmp (Some b.0) e.0) (is_some (literal_read e.1)) (and_both (is_name e.0) (rises_over bytes_cmp (Some b.0) e.0) n r) l

inputs_pass : (m : Inputs) → EveryInput m → first_refused is_input None 1 (map input_row (entries m)) ≡ None
inputs_pass m h =
    unrefused input_row is_input IsInputEntry (Rises bytes_cmp) input_passes None 1 (entries m) (all_of_every bytes_cmp nat_list_cmp_total bytes_tie IsInputEntry m h)
    (chained bytes_cmp None (entries m) tt (entries_sorted m))

-- results: keys that have their hashes rise by operation and key
then_less : (a b : Ordering) → ordering_then a b ≡ Less → (a ≡ Less) ⊎ ((a ≡ Equal) × (b ≡ Less))
then_less Less b h = inl refl
then_less Equal b h = inr (refl, h)
then_less Greater b h = absurd (cc)

same_hash : (a b : CacheKey) → bytes_eq a.khash (sha256 a.ckey) ≡ true → bytes_eq b.khash (sha256 b.ckey) ≡ true → a.ckey ≡ b.ckey → a.khash ≡ b.khash
same_hash a b ha hb same = bytes_same a.khash (sha256 a.ckey) ha ∙ ap sha256 same ∙ sym (bytes_same b.khash (sha256 b.ckey) hb)

no_less_hash : (a b : CacheKey) → a.khash ≡ b.khash → bytes_cmp a.khash b.khash ≡ Less → ⊥
no_less_hash a b same less = let tie : bytes_cmp a.khash b.khash ≡ Equal = ap (bytes_cmp a.khash) (sym same) ∙ tied_itself nat_list_cmp_total a.khash in let z : Less ≡ Equal = sym less ∙ tie in cc

key_less : (a b : CacheKey) → bytes_eq a.khash (sha256 a.ckey) ≡ true → bytes_eq b.khash (sha256 b.ckey) ≡ true → key_cmp a b ≡ Less → row_key_cmp (row_key a.op a.ckey) (row_key b.op b.ckey) ≡ Less
key_less a b ha hb less = elim (then_less (bytes_cmp a.op b.op) (ordering_then (bytes_cmp a.ckey b.ckey) (bytes_cmp a.khash b.khash)) less) [
  | inl op ↦ rw op refl
  | inr (op, rest) ↦ elim (then_less (bytes_cmp a.ckey b.ckey) (bytes_cmp a.khash b.khash) rest) [
    | inl key ↦ rw (op, key) refl
    | inr (key, hash) ↦ absurd (no_less_hash a b (same_hash a b ha hb (bytes_tie a.ckey b.ckey key)) hash)
  ]
]

-- the key of the entry before is less and has its hash
abbrev RisesHashed : Option (CacheKey × CacheValue) → CacheKey × CacheValue → Type 0
RisesHashed None e = Unit {0}
RisesHashed (Some b) e = (bytes_eq b.0.khash (sha256 b.0.ckey) ≡ true) × (key_cmp b.0 e.0 ≡ Less)

result_passes : (next : ℤ) (before : Option (CacheKey × CacheValue)) (e : CacheKey × CacheValue) → IsResultEntry next e → RisesHashed before e → is_result next (option_map cache_row before) (cache_row e) ≡ true
result_passes next None e (op, key, hash, columns) r = rw (op, key, hash, columns) refl
result_passes next (Some b) e (op, key, hash, columns) (hashed, less) = let rising = key_less b.0 e.0 hashed hash less in rw (op, key, hash, columns, rising) refl

is_less_than : {K : Type 0} (R : K → K → Ordering) (j k : K) → rises_over R (Some j) k ≡ true → R j k ≡ Less
is_less_than R j k h = is_less (R j k) (subst T (sym h) tt)

hashed_chain : (next : ℤ) (before : Option (CacheKey × CacheValue)) (es : List (CacheKey × CacheValue)) → (IfSome before (IsResultEntry next)) → AllByRecursion (IsResultEntry next) es → Chain (Rises key_cmp) before es → Chain RisesHashed before es
hashed_chain next before [] b h c = tt
hashed_chain next None (e ∷ es) b (p, h) (r, c) = (tt, hashed_chain next (Some e) es p h c)
hashed_chain next (Some x) (e ∷ es) b (p, h) (r, c) = ((b.2, is_less_than key_cmp x.0 e.0 r), hashed_chain next (Some e) es p h c)

results_pass : (next : ℤ) (m : Cache) → EveryResult next m → first_refused (is_result next) None 1 (map cache_row (entries m)) ≡ None
results_pass next m h =
    let all = all_of_every key_cmp key_cmp_total key_cmp_antisymmetric (IsResultEntry next) m h in
    unrefused cache_row (is_result next) (IsResultEntry next) RisesHashed (result_passes next) None 1 (entries m) all
    (hashed_chain next None (entries m) tt all (chained key_cmp None (entries m) tt (entries_sorted m)))

-- logs
logs_pass : (next : ℤ) (m : Logs) → EveryLog next m → first_refused (is_log next) None 1 (keys m) ≡ None
logs_pass next m h =
    unrefused (λ (e : ℤ × Bytes). e.0) (is_log next) (IsLogEntry next) (λ before e. Unit {0}) (λ before e p r. p) None 1 (entries m) (all_of_every int_cmp int_cmp_total int_cmp-IsAntisymmetric (IsLogEntry next) m h)
    (any_chain None (entries m))
  where
    any_chain : (before : Option (ℤ × Bytes)) (es : List (ℤ × Bytes)) → Chain (λ (b : Option (ℤ × Bytes)) (e : ℤ × Bytes). Unit {0}) before es
    any_chain before [] = tt
    any_chain before (e ∷ es) = (tt, any_chain (Some e) es)

first_none : (m : Bool) (i r l : Option ℕ) (in_inputs in_cache in_logs : ℕ → Table × ℕ) (first : Table × ℕ) → m ≡ true → i ≡ None → r ≡ None → l ≡ None
    → (if m then option_or (option_map in_inputs i) (option_or (option_map in_cache r) (option_map in_logs l)) else Some first) ≡ None
first_none m i r l f g k first hm hi hr hl = rw (hm, hi, hr, hl) refl

pub well_formed : (t : Contents) → ByEntries t → IsWellFormed t
well_formed t h =
    let next = next_of t.meta in
    ap first_bad (loaded_all t h.meta)
    ∙ first_none (is_meta (pos 2) t.meta) (first_refused is_input None 1 (map input_row (entries t.inputs))) (first_refused (is_result next) None 1 (map cache_row (entries t.cache))) (first_refused (is_log next) None 1 (keys t.logs))
    (λ n. (table.Inputs, n)) (λ n. (table.Cache, n)) (λ n. (table.Logs, n)) (table.Meta, 1) h.meta (inputs_pass t.inputs h.inputs) (results_pass next t.cache h.results) (logs_pass next t.logs h.logs)

-- ---- commits

-- a job below a number is below a greater one
job_lasts : (z : ℤ) (n : ℕ) (j : ℤ) → nat_abs z ≤ n → is_job z j ≡ true → is_job (pos n) j ≡ true
job_lasts (pos m) n (pos k) h j =
    let b = and_parts (nat_le 1 k) (nat_lt k m) j in
    let below = nat_lt_is k m b.1 in
    and_both (nat_le 1 k) (nat_lt k n) b.0 (is_nat_lt k n (omega (arith, below, h)))
job_lasts (negsuc m) n (pos k) h j = absurd (false≢true (and_parts (nat_le 1 k) false j).1)
job_lasts z n (negsuc k) h j = absurd (false≢true (and_parts false (int_lt (negsuc k) z) j).0)

columns_last : (z : ℤ) (n : ℕ) (v : CacheValue) → nat_abs z ≤ n → are_columns z v ≡ true → are_columns (pos n) v ≡ true
columns_last z n v h c =
    let a = and_parts (are_texts v) (are_flags v && are_numbers z v) c in
    let b = and_parts (are_flags v) (are_numbers z v) a.1 in
    let d = and_parts (is_within (pos 0) (pos (2 ^ 60)) v.finished) (is_job z v.job) b.1 in
    and_both (are_texts v) (are_flags v && are_numbers (pos n) v) a.0
    (and_both (are_flags v) (are_numbers (pos n) v) b.0 (and_both (is_within (pos 0) (pos (2 ^ 60)) v.finished) (is_job (pos n) v.job) d.0 (job_lasts z n v.job h d.1)))

results_last : (z : ℤ) (n : ℕ) (m : Cache) → nat_abs z ≤ n → EveryResult z m → EveryResult (pos n) m
results_last z n m h p k v f = let e = p k v f in (e.0, e.1, e.2, columns_last z n v h e.3)

logs_last : (z : ℤ) (n : ℕ) (m : Logs) → nat_abs z ≤ n → EveryLog z m → EveryLog (pos n) m
logs_last z n m h p k v f = job_lasts z n k h (p k v f)

flag_is : (b : Bool) → is_flag (flag b) ≡ true
flag_is true = refl
flag_is false = refl

row_columns : (n : ℕ) (r : Row) → IsStorableRow n r → are_columns (pos n) (cache_value r) ≡ true
row_columns n r h =
    and_both (are_texts (cache_value r)) (are_flags (cache_value r) && are_numbers (pos n) (cache_value r)) (and_both (is_short_text 65536 r.value) (is_short_text 65536 r.result) h.texts.value h.texts.result)
    (and_both (are_flags (cache_value r)) (are_numbers (pos n) (cache_value r)) (and_both (is_flag (flag r.fine)) (is_flag (flag r.rebuild)) (flag_is r.fine) (flag_is r.rebuild))
    (and_both (nat_le 0 r.finished && nat_le r.finished (2 ^ 60)) (is_job (pos n) (pos r.job)) (and_both (nat_le 0 r.finished) (nat_le r.finished (2 ^ 60)) (is_nat_le 0 r.finished (omega arith)) (is_nat_le r.finished (2 ^ 60) h.finished))
    (and_both (nat_le 1 r.job) (nat_lt r.job n) (is_nat_le 1 r.job h.some_job) (is_nat_lt r.job n h.job))))

pub meta_after : (z : ℤ) (ms : List MetaRow) (n : ℕ) → 1 ≤ n → n ≤ 2 ^ 62 → is_meta (pos 2) ms ≡ true → (is_meta (pos 2) (map (with_next (pos n)) ms) ≡ true) × (next_of (map (with_next (pos n)) ms) ≡ pos n)
meta_after z [] n h l m = absurd (cc)
meta_after z (x ∷ []) n h l m =
    let b = and_parts (int_eq x.format (pos 2)) (is_within (pos 1) (pos (2 ^ 62)) x.next_job) m in
    (and_both (int_eq x.format (pos 2)) (nat_le 1 n && nat_le n (2 ^ 62)) b.0 (and_both (nat_le 1 n) (nat_le n (2 ^ 62)) (is_nat_le 1 n h) (is_nat_le n (2 ^ 62) l)), refl)
meta_after z (x ∷ y ∷ ms) n h l m = absurd (cc)

pub next_some : (ms : List MetaRow) → is_meta (pos 2) ms ≡ true → 1 ≤ nat_abs (next_of ms)
next_some [] m = absurd (cc)
next_some (x ∷ []) m = some x.next_job (and_parts (int_eq x.format (pos 2)) (is_within (pos 1) (pos (2 ^ 62)) x.next_job) m).1
  where
    some : (z : ℤ) → is_within (pos 1) (pos (2 ^ 62)) z ≡ true → 1 ≤ nat_abs z
    some (pos n) h = nat_le_is 1 n (and_parts (nat_le 1 n) (nat_le n (2 ^ 62)) h).0
    some (negsuc n) h = absurd (false≢true (and_parts false (int_le (negsuc n) (pos (2 ^ 62))) h).0)
next_some (x ∷ y ∷ ms) m = absurd (cc)

inputs_after : (i : Option (Bytes × Bytes)) (m : Inputs) → EveryInput m → IfSome i (λ e. (is_name e.0 ≡ true) × (is_some (literal_read e.1) ≡ true)) → EveryInput (with_input i m)
inputs_after None m p h = p
inputs_after (Some e) m p h = every_insert bytes_cmp nat_list_cmp_total bytes_tie IsInputEntry m e.0 e.1 p h

void_after : (n : ℕ) (k : Option (Bytes × Bytes)) (m : Cache) → EveryResult (pos n) m → EveryResult (pos n) (with_void k m)
void_after n None m p = p
void_after n (Some k) m p = every_remove key_cmp key_cmp_total key_cmp_antisymmetric (IsResultEntry (pos n)) m (cache_key k.0 k.1) p

put_after : (n : ℕ) (o : Option Row) (m : Cache) → EveryResult (pos n) m → IfSome o (IsStorableRow n) → EveryResult (pos n) (with_put o m)
put_after n None m p h = p
put_after n (Some r) m p h =
    every_insert key_cmp key_cmp_total key_cmp_antisymmetric (IsResultEntry (pos n)) m (cache_key r.op r.key) (cache_value r) p (h.texts.op, h.texts.key, same_bytes (sha256 r.key) (sha256 r.key) refl, row_columns n r h)

log_after : (n : ℕ) (l : Option (ℕ × Bytes)) (m : Logs) → EveryLog (pos n) m → IfSome l (λ e. (1 ≤ e.0) × (e.0 < n)) → EveryLog (pos n) (with_log l m)
log_after n None m p h = p
log_after n (Some e) m p h = every_insert int_cmp int_cmp_total int_cmp-IsAntisymmetric (IsLogEntry (pos n)) m (pos e.0) e.1 p (and_both (nat_le 1 e.0) (nat_lt e.0 n) (is_nat_le 1 e.0 h.0) (is_nat_lt e.0 n h.1))

pub commits_keep : (t : Contents) (d : Delta) → IsWellFormed t → IsStorable (next_in t) d → IsWellFormed (with_delta d t)
commits_keep t d w h =
    let e = by_entries t w in
    let more = h.next in
    let some = next_some t.meta e.meta in
    let meta = meta_after (next_of t.meta) t.meta d.next (omega (arith, more, some)) h.last e.meta in
    let results = put_after d.next d.put (with_void d.void t.cache) (void_after d.next d.void t.cache (results_last (next_of t.meta) d.next t.cache more e.results)) h.row in
    let logs = log_after d.next d.log t.logs (logs_last (next_of t.meta) d.next t.logs more e.logs) h.log in
    well_formed (with_delta d t) (record {
      meta = meta.0;
      inputs = inputs_after d.input t.inputs e.inputs h.input;
      results = subst (λ (z : ℤ). EveryResult z (with_put d.put (with_void d.void t.cache))) (sym meta.1) results;
      logs = subst (λ (z : ℤ). EveryLog z (with_log d.log t.logs)) (sym meta.1) logs;
    })

pub fresh_well_formed : IsWellFormed fresh
fresh_well_formed =
    well_formed fresh (record {
      meta = refl;
      inputs = λ k v f. absurd (let z : None ≡ Some v = sym (get-empty bytes_cmp k) ∙ f in cc);
      results = λ k v f. absurd (let z : None ≡ Some v = sym (get-empty key_cmp k) ∙ f in cc);
      logs = λ k v f. absurd (let z : None ≡ Some v = sym (get-empty int_cmp k) ∙ f in cc);
    })
