-- Tables hold the state of the core through commits.
use Rattle.std.proofs.Common.{◌≡◌, ◌≤◌, ◌^◌, ℕ, ℤ, pos, negsuc, min, Bool, true, false, cond, ◌&&◌, List, [], ◌∷◌, map, Option, Some, None, Ordering, Less, Equal, Greater, refl, sym, subst, ap, ◌∙◌, inl, inr, arith}
use Rattle.std.proofs.lemmas.Bool.{cases_Bool, false≢true}
use Rattle.std.proofs.lemmas.Simd.{map-map}
use Rattle.std.specs.Prelude.{int_le, nat_abs, nat_le, is_some, not}
use Rattle.std.specs.Cmp.{Equal-is, tied_itself}
use Rattle.std.specs.Cmp.Lexicographic.{nat_list_cmp_total}
use Rattle.std.specs.FinMap.{entries, get, get-entries, get-from_entries, get-insert, get-remove, same_map}
use Rattle.std.specs.FinMap.Entries.{find}
use Rattle.std.specs.List.{AllByRecursion, list_any}
use Rattle.std.specs.Option.{option_map}
use Rattle.std.specs.Ordering.{eq_by_cmp, int_eq, is_eq, ordering_then}
use Rattle.std.specs.Str.{bytes_eq}
use Rattle.sha2.specs.Sha256.{sha256}
use Rattle.value_core.specs.declared.value.Value.{Value}
use Rattle.value_core.specs.Literals.{literal_read}
use Rattle.value_core.specs.Printed.{printed}
use Rattle.op_keys.specs.declared.level.Level.{Level}
use Rattle.op_keys.specs.Names.{are_apart}
use Rattle.term_core.specs.declared.program.InputDecl.{InputDecl}
use Rattle.term_core.specs.declared.program.Program.{Program}
use Rattle.sched_rows.specs.declared.row.Row.{Row}
use Rattle.value_core.specs.Orders.{bytes_cmp}
use Rattle.sched_rows.specs.RowKeys.{RowKey, key_of, row_key, row_key_cmp, row_key_cmp_total}
use Rattle.sched_rows.specs.Rows.{Rows}
use Rattle.fair_pool.specs.Pools.{opened as pools_opened}
use Rattle.sched_rows.proofs.KeyOrders.{row_key_cmp_tells, row_keys_tie}
use Rattle.core_rules.specs.declared.done.Delta.{Delta}
use Rattle.core_rules.specs.declared.done.Done.{Done}
use Rattle.core_rules.specs.declared.events.Event.{Event}
use Rattle.core_rules.specs.Changes.{takes}
use Rattle.core_rules.specs.Core.{CoreState, layout_of}
use Rattle.core_rules.specs.Laws.{Invariant}
use Rattle.core_rules.specs.Openings.{Durable, latest, opened, opening_reply, or_declared, rows_in, start, stored_at}
use Rattle.core_rules.specs.Replies.{next_alone}
use Rattle.core_rules.specs.Settling.{settle, wanted}
use Rattle.core_rules.specs.Steps.{Accepted, step}
use Rattle.core_rules.specs.Stored.{durable, named_values, printed_values, replaced}
use Rattle.core_rules.specs.Stored as stored_part
use Rattle.core_rules.proofs.Numbers.{next_bounded}
use Rattle.core_rules.proofs.Settling.{same_settled}
use Rattle.core_rules.proofs.Storing.{steps_store}
use Rattle.keeper_core.specs.declared.tables.CacheKey.{CacheKey}
use Rattle.keeper_core.specs.declared.tables.CacheValue.{CacheValue}
use Rattle.keeper_core.specs.declared.tables.MetaRow.{MetaRow}
use Rattle.keeper_core.specs.Chains.{ArePrintable, AreInputsApart, HoldsState, durable_in, opened_inputs}
use Rattle.keeper_core.specs.Commits.{cache_key, cache_value, flag, with_delta, with_input, with_put, with_void}
use Rattle.keeper_core.specs.Contents.{Bytes, Cache, Contents, Inputs, all_rows, cache_row, input_row, key_cmp, key_cmp_total}
use Rattle.keeper_core.specs.Durables.{durable_of, row_of, values_of, with_value}
use Rattle.keeper_core.specs.Laws.{IsStorable, IsWellFormed, next_in}
use Rattle.keeper_core.specs.WellFormed.{is_meta, is_within, next_of}
use Rattle.keeper_core.specs.inside.KeyTies.{key_cmp_antisymmetric}
use Rattle.value_core.proofs.Basics.{and_parts, bytes_same, bytes_tie, nat_le_is, same_bytes, some_is}
use Rattle.keeper_core.proofs.EveryEntry.{all_of_every}
use Rattle.keeper_core.proofs.ChainPremises.{AreReadBack, read_back}
use Rattle.keeper_core.proofs.TablesKept.{IsInputEntry, IsResultEntry, by_entries, commits_keep, loaded_all, meta_after, next_some}
use Rattle.core_rules.proofs.Programs.{step_program, next_kept}

-- ---- rows

-- the row that columns make under an operation's name and a key
row_under : RowKey → CacheValue → Row
row_under k v = row_of (cache_row (cache_key k.op k.key, v))

-- what the results are as rows
abbrev AreRows : Cache → Rows → Type 0
AreRows m rows = (k : RowKey) → get rows k ≡ option_map (row_under k) (get m (cache_key k.op k.key))

-- two keys of results with their hashes tie as their operations and keys do
tie_of_three : (a b c : Ordering) → (b ≡ Equal → c ≡ Equal) → is_eq (ordering_then a (ordering_then b c)) ≡ is_eq (ordering_then a b)
tie_of_three Less b c h = refl
tie_of_three Greater b c h = refl
tie_of_three Equal Less c h = refl
tie_of_three Equal Greater c h = refl
tie_of_three Equal Equal c h = ap is_eq (h refl)

tie_hashed : (a b : CacheKey) → a.khash ≡ sha256 a.ckey → b.khash ≡ sha256 b.ckey → eq_by_cmp key_cmp a b ≡ eq_by_cmp row_key_cmp (row_key a.op a.ckey) (row_key b.op b.ckey)
tie_hashed a b ha hb = tie_of_three (bytes_cmp a.op b.op) (bytes_cmp a.ckey b.ckey) (bytes_cmp a.khash b.khash)
    (λ e. let same : a.khash ≡ b.khash = ha ∙ ap sha256 (bytes_tie a.ckey b.ckey e) ∙ sym hb in ap (bytes_cmp a.khash) (sym same) ∙ tied_itself nat_list_cmp_total a.khash)

abbrev row_entry_of : CacheKey × CacheValue → RowKey × Row
row_entry_of e = (row_key e.0.op e.0.ckey, row_of (cache_row e))

found_rows : (next : ℤ) (k : RowKey) (es : List (CacheKey × CacheValue)) → AllByRecursion (IsResultEntry next) es → find row_key_cmp k (map row_entry_of es) ≡ option_map (row_under k) (find key_cmp (cache_key k.op k.key) es)
unfolding row_under
found_rows next k [] h = refl
found_rows next k (e ∷ es) (p, h) =
    let hash : e.0.khash ≡ sha256 e.0.ckey = bytes_same e.0.khash (sha256 e.0.ckey) p.2 in
    let tests : eq_by_cmp key_cmp (cache_key k.op k.key) e.0 ≡ eq_by_cmp row_key_cmp k (row_key e.0.op e.0.ckey) = tie_hashed (cache_key k.op k.key) e.0 refl hash in
    elim (cases_Bool (eq_by_cmp row_key_cmp k (row_key e.0.op e.0.ckey))) [
      | inl same ↦
          let key : k ≡ row_key e.0.op e.0.ckey = row_keys_tie k (row_key e.0.op e.0.ckey) same in
          let other : eq_by_cmp key_cmp (cache_key k.op k.key) e.0 ≡ true = tests ∙ same in
          ap (λ b. cond b (Some (row_of (cache_row e))) (find row_key_cmp k (map row_entry_of es))) same
          ∙ ap (λ (q : RowKey). Some (row_of (cache_row (cache_key q.op q.key, e.1)))) (sym key)
          ∙ sym (ap (λ b. option_map (row_under k) (cond b (Some e.1) (find key_cmp (cache_key k.op k.key) es))) other)
      | inr apart ↦
          let other : eq_by_cmp key_cmp (cache_key k.op k.key) e.0 ≡ false = tests ∙ apart in
          ap (λ b. cond b (Some (row_of (cache_row e))) (find row_key_cmp k (map row_entry_of es))) apart
          ∙ found_rows next k es h
          ∙ sym (ap (λ b. option_map (row_under k) (cond b (Some e.1) (find key_cmp (cache_key k.op k.key) es))) other)
    ]

abbrev rows_from : Cache → Rows
rows_from m = rows_in (map row_of (map cache_row (entries m)))

rows_mapped : (es : List (CacheKey × CacheValue)) → map (λ r. (key_of r, r)) (map row_of (map cache_row es)) ≡ map row_entry_of es
rows_mapped es = map-map (λ r. (key_of r, r)) row_of (map cache_row es) ∙ map-map (λ r. (key_of (row_of r), row_of r)) cache_row es

are_rows : (next : ℤ) (m : Cache) → AllByRecursion (IsResultEntry next) (entries m) → AreRows m (rows_from m)
are_rows next m h k =
    get-from_entries row_key_cmp_total (map (λ r. (key_of r, r)) (map row_of (map cache_row (entries m)))) k
    ∙ ap (λ (es : List (RowKey × Row)). find row_key_cmp k es) (rows_mapped (entries m)) ∙ found_rows next k (entries m) h ∙ ap (option_map (row_under k)) (sym (get-entries m (cache_key k.op k.key)))

-- ---- rows after a commit

mapped_if : {A B : Type 0} (f : A → B) (b : Bool) (x y : Option A) → cond b (option_map f x) (option_map f y) ≡ option_map f (cond b x y)
mapped_if f true x y = refl
mapped_if f false x y = refl

void_rows : (e : Option (Bytes × Bytes)) (m : Cache) (rows : Rows) → AreRows m rows → AreRows (with_void e m) (stored_part.with_void e rows)
void_rows None m rows h k = h k
void_rows (Some e) m rows h k =
    get-remove row_key_cmp_total rows (row_key e.0 e.1) k
    ∙ (λ i. cond (sym (tie_hashed (cache_key k.op k.key) (cache_key e.0 e.1) refl refl) i) None (h k i))
    ∙ mapped_if (row_under k) (eq_by_cmp key_cmp (cache_key k.op k.key) (cache_key e.0 e.1)) None (get m (cache_key k.op k.key))
    ∙ ap (option_map (row_under k)) (sym (get-remove key_cmp_total m (cache_key e.0 e.1) (cache_key k.op k.key)))

flag_back : (b : Bool) → int_eq (flag b) (pos 1) ≡ b
flag_back true = refl
flag_back false = refl

row_back : (r : Row) → row_under (key_of r) (cache_value r) ≡ r
unfolding row_under
row_back r = λ i. record { op = r.op; key = r.key; value = r.value; fine = flag_back r.fine i; result = r.result; finished = r.finished; job = r.job; rebuild = flag_back r.rebuild i }

put_rows : (o : Option Row) (m : Cache) (rows : Rows) → AreRows m rows → AreRows (with_put o m) (stored_part.with_put o rows)
put_rows None m rows h k = h k
put_rows (Some r) m rows h k =
    let tests = tie_hashed (cache_key k.op k.key) (cache_key r.op r.key) refl refl in
    let ck = cache_key k.op k.key in
    elim (cases_Bool (eq_by_cmp row_key_cmp k (key_of r))) [
      | inl same ↦
          let key : k ≡ key_of r = row_keys_tie k (key_of r) same in
          let other : eq_by_cmp key_cmp ck (cache_key r.op r.key) ≡ true = tests ∙ same in
          get-insert row_key_cmp_total rows (key_of r) r k ∙ ap (λ b. cond b (Some r) (get rows k)) same
          ∙ ap (λ x. Some x) (sym (ap (λ (q : RowKey). row_under q (cache_value r)) key ∙ row_back r))
          ∙ sym (ap (option_map (row_under k)) (get-insert key_cmp_total m (cache_key r.op r.key) (cache_value r) ck ∙ ap (λ b. cond b (Some (cache_value r)) (get m ck)) other))
      | inr apart ↦
          let other : eq_by_cmp key_cmp ck (cache_key r.op r.key) ≡ false = tests ∙ apart in
          get-insert row_key_cmp_total rows (key_of r) r k ∙ ap (λ b. cond b (Some r) (get rows k)) apart ∙ h k
          ∙ sym (ap (option_map (row_under k)) (get-insert key_cmp_total m (cache_key r.op r.key) (cache_value r) ck ∙ ap (λ b. cond b (Some (cache_value r)) (get m ck)) other))
    ]

rows_same : (m : Cache) (a b : Rows) → AreRows m a → AreRows m b → a ≡ b
rows_same m a b ha hb = same_map row_key_cmp_total row_key_cmp_tells a b (λ k. ha k ∙ sym (hb k))

-- ---- inputs

-- the value that a literal has, if there is one
abbrev read_if : Option Bytes → Option Value
read_if None = None
read_if (Some l) = literal_read l

bytes_tests : (a b : Bytes) → bytes_eq a b ≡ eq_by_cmp bytes_cmp b a
bytes_tests a b = elim (cases_Bool (bytes_eq a b)) [
  | inl same ↦ let is = bytes_same a b same in same ∙ sym (ap is_eq (ap (bytes_cmp b) is ∙ tied_itself nat_list_cmp_total b))
  | inr apart ↦ elim (cases_Bool (eq_by_cmp bytes_cmp b a)) [
    | inl tie ↦ absurd (let same = same_bytes a b (sym (bytes_tie b a ((Equal-is (bytes_cmp b a)).0 tie))) in let z : true ≡ false = sym same ∙ apart in cc)
    | inr other ↦ apart ∙ sym other
  ]
]

with_read : (l name : Bytes) (o : Option Value) (vs : List (Bytes × Value)) (n : Bytes) → o ≡ literal_read l → is_some o ≡ true → stored_at (with_value n o vs) name ≡ cond (bytes_eq n name) (literal_read l) (stored_at vs name)
with_read l name None vs n is s = absurd (cc)
with_read l name (Some v) vs n is s = ap (λ (x : Option Value). cond (bytes_eq n name) x (stored_at vs name)) is

found_inputs : (name : Bytes) (es : List (Bytes × Bytes)) → AllByRecursion IsInputEntry es → stored_at (values_of (map input_row es)) name ≡ read_if (find bytes_cmp name es)
found_inputs name [] h = refl
found_inputs name (e ∷ es) (p, h) =
    with_read e.1 name (literal_read e.1) (values_of (map input_row es)) e.0 refl p.1
    ∙ (λ i. cond (bytes_tests e.0 name i) (literal_read e.1) (found_inputs name es h i))
    ∙ read_either (eq_by_cmp bytes_cmp name e.0) e.1 (find bytes_cmp name es)
  where
    read_either : (b : Bool) (l : Bytes) (o : Option Bytes) → cond b (literal_read l) (read_if o) ≡ read_if (cond b (Some l) o)
    read_either true l o = refl
    read_either false l o = refl

-- what is stored under a name
abbrev AreInputs : Inputs → (Bytes → Option Value) → Type 0
AreInputs m f = (name : Bytes) → f name ≡ read_if (get m name)

inputs_found : (m : Inputs) → AllByRecursion IsInputEntry (entries m) → AreInputs m (stored_at (values_of (map input_row (entries m))))
inputs_found m h name = found_inputs name (entries m) h ∙ ap read_if (sym (get-entries m name))

-- with an input's literal
abbrev set_at : Option (Bytes × Bytes) → (Bytes → Option Value) → Bytes → Option Value
set_at None f name = f name
set_at (Some e) f name = cond (bytes_eq e.0 name) (literal_read e.1) (f name)

input_set : (e : Option (Bytes × Bytes)) (m : Inputs) (f g : Bytes → Option Value) → AreInputs m f → AreInputs (with_input e m) g → (name : Bytes) → g name ≡ set_at e f name
input_set None m f g hf hg name = hg name ∙ sym (hf name)
input_set (Some e) m f g hf hg name =
    hg name ∙ ap read_if (get-insert nat_list_cmp_total m e.0 e.1 name) ∙ read_either (eq_by_cmp bytes_cmp name e.0) e.1 (get m name)
    ∙ (λ i. cond (sym (bytes_tests e.0 name) i) (literal_read e.1) (sym (hf name) i))
  where
    read_either : (b : Bool) (l : Bytes) (o : Option Bytes) → read_if (cond b (Some l) o) ≡ cond b (literal_read l) (read_if o)
    read_either true l o = refl
    read_either false l o = refl

-- values of declared inputs by what is stored under their names
abbrev declared_values : (Bytes → Option Value) → List InputDecl → List Value
declared_values f ds = map (λ d. or_declared d (f d.name)) ds

values_alike : (f g : Bytes → Option Value) (ds : List InputDecl) → ((name : Bytes) → f name ≡ g name) → declared_values f ds ≡ declared_values g ds
values_alike f g [] h = refl
values_alike f g (d ∷ ds) h = λ i. or_declared d (h d.name i) ∷ values_alike f g ds h i

heads : {A : Type 0} (x y : A) (xs ys : List A) → x ∷ xs ≡ y ∷ ys → (x ≡ y) × (xs ≡ ys)
heads x y xs ys e = (cc, cc)

-- values that print alike are the same
printed_once : (ds : List InputDecl) (vs us : List Value) → AreReadBack ds vs → AreReadBack ds us → printed_values (named_values ds vs) ≡ printed_values (named_values ds us) → vs ≡ us
printed_once [] [] [] p q e = refl
printed_once [] [] (u ∷ us) p q e = absurd q
printed_once [] (v ∷ vs) us p q e = absurd p
printed_once (d ∷ ds) [] us p q e = absurd p
printed_once (d ∷ ds) (v ∷ vs) [] p q e = absurd q
printed_once (d ∷ ds) (v ∷ vs) (u ∷ us) p q e =
    let both = heads (d.name, printed v) (d.name, printed u) (printed_values (named_values ds vs)) (printed_values (named_values ds us)) e in
    let first : printed v ≡ printed u = ap (λ p. p.1) both.0 in
    let rest = both.1 in
    let same : v ≡ u = some_is v u (sym p.1 ∙ ap literal_read first ∙ q.1) in
    λ i. same i ∷ printed_once ds vs us p.2 q.2 rest i

-- a name that no declaration has
unset : (e : Bytes × Bytes) (f : Bytes → Option Value) (ds : List InputDecl) → list_any (bytes_eq e.0) (map (λ d. d.name) ds) ≡ false → declared_values (set_at (Some e) f) ds ≡ declared_values f ds
unset e f [] h = refl
unset e f (d ∷ ds) h = elim (cases_Bool (bytes_eq e.0 d.name)) [
  | inl same ↦ absurd (let z : true ≡ false = rw same at h in cc)
  | inr apart ↦
      let more : list_any (bytes_eq e.0) (map (λ d. d.name) ds) ≡ false = rw apart at h in
      λ i. or_declared d (ap (λ b. cond b (literal_read e.1) (f d.name)) apart i) ∷ unset e f ds more i
]

taken_value : (d : InputDecl) (v : Value) → takes d v ≡ true → or_declared d (Some v) ≡ v
taken_value d v t = rw t refl

not_both : (a b : Bool) → (not a && b) ≡ true → (a ≡ false) × (b ≡ true)
not_both true b h = absurd (cc)
not_both false b h = (refl, h)

set_values : (e : Bytes × Bytes) (f : Bytes → Option Value) (ds : List InputDecl) (vs us : List Value) → are_apart (map (λ d. d.name) ds) ≡ true → AreReadBack ds vs → AreReadBack ds us
    → printed_values (named_values ds us) ≡ replaced e (printed_values (named_values ds vs)) → declared_values f ds ≡ vs → declared_values (set_at (Some e) f) ds ≡ us
set_values e f [] [] [] a p q r h = refl
set_values e f [] [] (u ∷ us) a p q r h = absurd q
set_values e f [] (v ∷ vs) us a p q r h = absurd p
set_values e f (d ∷ ds) [] us a p q r h = absurd p
set_values e f (d ∷ ds) (v ∷ vs) [] a p q r h = absurd q
set_values e f (d ∷ ds) (v ∷ vs) (u ∷ us) a p q r h =
    let apart = not_both (list_any (bytes_eq d.name) (map (λ x. x.name) ds)) (are_apart (map (λ x. x.name) ds)) a in
    let held = heads (or_declared d (f d.name)) v (declared_values f ds) vs h in
    let rest = held.1 in
    elim (cases_Bool (bytes_eq d.name e.0)) [
      | inl same ↦
          let name : d.name ≡ e.0 = bytes_same d.name e.0 same in
          let now : (d.name, printed u) ∷ printed_values (named_values ds us) ≡ e ∷ printed_values (named_values ds vs) = rw same at r in
          let both = heads (d.name, printed u) e (printed_values (named_values ds us)) (printed_values (named_values ds vs)) now in
          let text : printed u ≡ e.1 = ap (λ p. p.1) both.0 in
          let others = both.1 in
          let value : literal_read e.1 ≡ Some u = ap literal_read (sym text) ∙ q.1 in
          let here : bytes_eq e.0 d.name ≡ true = same_bytes e.0 d.name (sym name) in
          let first : or_declared d (set_at (Some e) f d.name) ≡ u = ap (λ b. or_declared d (cond b (literal_read e.1) (f d.name))) here ∙ ap (or_declared d) value ∙ taken_value d u q.0 in
          let none : list_any (bytes_eq e.0) (map (λ x. x.name) ds) ≡ false = subst (λ (n : Bytes). list_any (bytes_eq n) (map (λ x. x.name) ds) ≡ false) name apart.0 in
          λ i. first i ∷ (unset e f ds none ∙ rest ∙ sym (printed_once ds us vs q.2 p.2 others)) i
      | inr other ↦
          let now : (d.name, printed u) ∷ printed_values (named_values ds us) ≡ (d.name, printed v) ∷ replaced e (printed_values (named_values ds vs)) = rw other at r in
          let both = heads (d.name, printed u) (d.name, printed v) (printed_values (named_values ds us)) (replaced e (printed_values (named_values ds vs))) now in
          let text : printed u ≡ printed v = ap (λ p. p.1) both.0 in
          let others = both.1 in
          let value : v ≡ u = some_is v u (sym p.1 ∙ ap literal_read (sym text) ∙ q.1) in
          let old = held.0 in
          let here : bytes_eq e.0 d.name ≡ false = bytes_tests e.0 d.name ∙ no_tie e.0 d.name other in
          let first : or_declared d (set_at (Some e) f d.name) ≡ u = ap (λ b. or_declared d (cond b (literal_read e.1) (f d.name))) here ∙ old ∙ value in
          λ i. first i ∷ set_values e f ds vs us apart.1 p.2 q.2 others rest i
    ]
  where
    no_tie : (a b : Bytes) → bytes_eq b a ≡ false → eq_by_cmp bytes_cmp b a ≡ false
    no_tie a b h = elim (cases_Bool (eq_by_cmp bytes_cmp b a)) [
      | inl tie ↦ absurd (let same = same_bytes b a (bytes_tie b a ((Equal-is (bytes_cmp b a)).0 tie)) in let z : true ≡ false = sym same ∙ h in cc)
      | inr apart ↦ apart
    ]

values_after : (o : Option (Bytes × Bytes)) (f : Bytes → Option Value) (ds : List InputDecl) (vs us : List Value) → are_apart (map (λ d. d.name) ds) ≡ true → AreReadBack ds vs → AreReadBack ds us
    → printed_values (named_values ds us) ≡ stored_part.with_input o (printed_values (named_values ds vs)) → declared_values f ds ≡ vs → declared_values (set_at o f) ds ≡ us
values_after None f ds vs us a p q r h = h ∙ sym (printed_once ds us vs q p r)
values_after (Some e) f ds vs us a p q r h = set_values e f ds vs us a p q r h

-- the values of a state's own durable part
named_back : (ds : List InputDecl) (vs : List Value) → are_apart (map (λ d. d.name) ds) ≡ true → AreReadBack ds vs → declared_values (stored_at (named_values ds vs)) ds ≡ vs
named_back [] [] a p = refl
named_back [] (v ∷ vs) a p = absurd p
named_back (d ∷ ds) [] a p = absurd p
named_back (d ∷ ds) (v ∷ vs) a p =
    let apart = not_both (list_any (bytes_eq d.name) (map (λ x. x.name) ds)) (are_apart (map (λ x. x.name) ds)) a in
    let own : bytes_eq d.name d.name ≡ true = same_bytes d.name d.name refl in
    let first : or_declared d (cond (bytes_eq d.name d.name) (Some v) (stored_at (named_values ds vs) d.name)) ≡ v = ap (λ b. or_declared d (cond b (Some v) (stored_at (named_values ds vs) d.name))) own ∙ taken_value d v p.0 in
    λ i. first i ∷ (passed_by d.name v (named_values ds vs) ds apart.0 ∙ named_back ds vs apart.1 p.2) i
  where
    passed_by : (n : Bytes) (v : Value) (es : List (Bytes × Value)) (ds : List InputDecl) → list_any (bytes_eq n) (map (λ d. d.name) ds) ≡ false → declared_values (stored_at ((n, v) ∷ es)) ds ≡ declared_values (stored_at es) ds
    passed_by n v es [] h = refl
    passed_by n v es (d ∷ ds) h = elim (cases_Bool (bytes_eq n d.name)) [
      | inl same ↦ absurd (let z : true ≡ false = rw same at h in cc)
      | inr apart ↦
          let more : list_any (bytes_eq n) (map (λ d. d.name) ds) ≡ false = rw apart at h in
          λ i. or_declared d (ap (λ b. cond b (Some v) (stored_at es d.name)) apart i) ∷ passed_by n v es ds more i
    ]

-- ---- tables

durable_all : (t : Contents) → IsWellFormed t → durable_in t ≡ durable_of (all_rows t)
durable_all t w = ap durable_of (loaded_all t (by_entries t w).meta)

results_all : (t : Contents) (w : IsWellFormed t) → AllByRecursion (IsResultEntry (next_of t.meta)) (entries t.cache)
results_all t w = all_of_every key_cmp key_cmp_total key_cmp_antisymmetric (IsResultEntry (next_of t.meta)) t.cache (by_entries t w).results

inputs_all : (t : Contents) (w : IsWellFormed t) → AllByRecursion IsInputEntry (entries t.inputs)
inputs_all t w = all_of_every bytes_cmp nat_list_cmp_total bytes_tie IsInputEntry t.inputs (by_entries t w).inputs

rows_after : (t : Contents) (d : Delta) → IsWellFormed t → IsWellFormed (with_delta d t) → (durable_in (with_delta d t)).rows ≡ stored_part.with_put d.put (stored_part.with_void d.void (durable_in t).rows)
rows_after t d w v =
    let n : Contents = with_delta d t in
    ap (λ x. x.rows) (durable_all n v)
    ∙ rows_same n.cache (rows_from n.cache) (stored_part.with_put d.put (stored_part.with_void d.void (rows_from t.cache))) (are_rows (next_of n.meta) n.cache (results_all n v))
    (put_rows d.put (with_void d.void t.cache) (stored_part.with_void d.void (rows_from t.cache)) (void_rows d.void t.cache (rows_from t.cache) (are_rows (next_of t.meta) t.cache (results_all t w))))
    ∙ ap (λ x. stored_part.with_put d.put (stored_part.with_void d.void x.rows)) (sym (durable_all t w))

inputs_after : (t : Contents) (d : Delta) → IsWellFormed t → IsWellFormed (with_delta d t) → (name : Bytes) → stored_at (durable_in (with_delta d t)).inputs name ≡ set_at d.input (stored_at (durable_in t).inputs) name
inputs_after t d w v name =
    let n : Contents = with_delta d t in
    let old : AreInputs t.inputs (stored_at (durable_in t).inputs) = λ q. ap (λ x. stored_at x.inputs q) (durable_all t w) ∙ inputs_found t.inputs (inputs_all t w) q in
    let new : AreInputs n.inputs (stored_at (durable_in n).inputs) = λ q. ap (λ x. stored_at x.inputs q) (durable_all n v) ∙ inputs_found n.inputs (inputs_all n v) q in
    input_set d.input t.inputs (stored_at (durable_in t).inputs) (stored_at (durable_in n).inputs) old new name

next_is : (t : Contents) → IsWellFormed t → (durable_in t).next ≡ next_in t
next_is t w = ap (λ x. x.next) (durable_all t w)

next_after : (t : Contents) (d : Delta) → IsWellFormed t → IsWellFormed (with_delta d t) → 1 ≤ d.next → d.next ≤ 2 ^ 62 → (durable_in (with_delta d t)).next ≡ d.next
next_after t d w v some last = next_is (with_delta d t) v ∙ ap nat_abs (meta_after (next_of t.meta) t.meta d.next some last (by_entries t w).meta).1

-- ---- steps

held_after : (s : CoreState) (e : Event) (s' : CoreState) (r : Done) (t : Contents) → step s e ≡ Accepted s' r → Invariant s → AreInputsApart s.program →
    AreReadBack s.program.inputs s.inputs → AreReadBack s'.program.inputs s'.inputs → IsStorable s.next r.delta → HoldsState s t → HoldsState s' (with_delta r.delta t)
held_after s e s' r t h b apart p q d k =
    let after = steps_store s e s' r b.bounded.rows h in
    let before : s.next ≡ next_in t = sym k.next ∙ next_is t k.well_formed in
    let storable = subst (λ n. IsStorable n r.delta) before d in
    let v = commits_keep t r.delta k.well_formed storable in
    let first = b.bounded.first_next in
    let more = d.next in
    let program = step_program s e s' r h in
    let inputs : s'.program.inputs ≡ s.program.inputs = ap (λ x. x.inputs) program in
    let q2 : AreReadBack s.program.inputs s'.inputs = subst (λ ds. AreReadBack ds s'.inputs) inputs q in
    let printed_now : printed_values (named_values s.program.inputs s'.inputs) ≡ stored_part.with_input r.delta.input (printed_values (named_values s.program.inputs s.inputs)) = ap (λ ds. printed_values (named_values ds s'.inputs)) (sym inputs) ∙ ap (λ x. x.inputs) after in
    let values = values_after r.delta.input (stored_at (durable_in t).inputs) s.program.inputs s.inputs s'.inputs apart p q2 printed_now k.inputs in
    record {
      well_formed = v;
      rows = rows_after t r.delta k.well_formed v ∙ ap (λ x. stored_part.with_put r.delta.put (stored_part.with_void r.delta.void x)) k.rows ∙ sym (ap (λ x. x.rows) after);
      next = next_after t r.delta k.well_formed v (omega (arith, first, more)) d.last ∙ sym (ap (λ x. x.next) after);
      inputs = ap (λ ds. opened_inputs (durable_in (with_delta r.delta t)) ds) inputs
          ∙ values_alike (stored_at (durable_in (with_delta r.delta t)).inputs) (set_at r.delta.input (stored_at (durable_in t).inputs)) s.program.inputs (inputs_after t r.delta k.well_formed v) ∙ values;
    }

pub steps_are_held : (s : CoreState) (e : Event) (s' : CoreState) (r : Done) (t : Contents) → step s e ≡ Accepted s' r → Invariant s → AreInputsApart s.program →
    ArePrintable s.program.inputs s.inputs → ArePrintable s'.program.inputs s'.inputs → IsStorable s.next r.delta → HoldsState s t → HoldsState s' (with_delta r.delta t)
steps_are_held s e s' r t h b apart p q d k = held_after s e s' r t h b apart (read_back s.program.inputs s.inputs p) (read_back s'.program.inputs s'.inputs q) d k

-- ---- openings

-- an opening by what it takes of the stored part
opened_by : Program → Option Level → ℕ → Rows → ℕ → List Value → CoreState
opened_by program threshold reading rows next inputs = record {
  program = program;
  threshold = threshold;
  now = latest (min reading (2 ^ 60)) (entries rows);
  version = 1;
  inputs = inputs;
  rows = rows;
  next = next;
  jobs = [];
  fair = (pools_opened (layout_of program)).fair;
}

start_alike : (program : Program) (a b : Durable) (threshold : Option Level) (reading : ℕ) → a.rows ≡ b.rows → a.next ≡ b.next → opened_inputs a program.inputs ≡ opened_inputs b program.inputs
    → start program a threshold reading ≡ start program b threshold reading
unfolding start opened_by
start_alike program a b threshold reading rows next inputs = λ i. settle (opened_by program threshold reading (rows i) (next i) (inputs i))

next_last : (ms : List MetaRow) → is_meta (pos 2) ms ≡ true → nat_abs (next_of ms) ≤ 2 ^ 62
next_last [] m = absurd (cc)
next_last (x ∷ []) m = last x.next_job (and_parts (int_eq x.format (pos 2)) (is_within (pos 1) (pos (2 ^ 62)) x.next_job) m).1
  where
    last : (z : ℤ) → is_within (pos 1) (pos (2 ^ 62)) z ≡ true → nat_abs z ≤ 2 ^ 62
    last (pos n) h = nat_le_is n (2 ^ 62) (and_parts (nat_le 1 n) (nat_le n (2 ^ 62)) h).1
    last (negsuc n) h = absurd (false≢true (and_parts false (int_le (negsuc n) (pos (2 ^ 62))) h).0)
next_last (x ∷ y ∷ ms) m = absurd (cc)

alone_storable : (before next : ℕ) → before ≤ next → next ≤ 2 ^ 62 → IsStorable before (next_alone next)
alone_storable before next h l = record { next = h; last = l; input = tt; row = tt; log = tt }

pub openings_are_held : (program : Program) (threshold : Option Level) (reading : ℕ) (t : Contents) (s : CoreState) → IsWellFormed t → start program (durable_in t) threshold reading ≡ Some s → HoldsState s (with_delta (opening_reply s).delta t)
unfolding start
openings_are_held program threshold reading t s w e =
    let o : CoreState = opened program (durable_in t) threshold reading in
    let same = same_settled (wanted o) o s e in
    let entries = by_entries t w in
    let is : (durable_in t).next ≡ next_in t = next_is t w in
    let some = next_some t.meta entries.meta in
    let last = next_last t.meta entries.meta in
    let rises : next_in t ≤ s.next = next_kept (next_in t) (wanted o) o s e (omega (arith, is)) in
    let limit : s.next ≤ 2 ^ 62 = next_bounded (wanted o) o s e (omega (arith, is, last)) in
    let d : Delta = next_alone s.next in
    let v = commits_keep t d w (alone_storable (next_in t) s.next rises limit) in
    record {
      well_formed = v;
      rows = rows_after t d w v ∙ sym same.rows;
      next = next_after t d w v (omega (arith, some, rises)) limit;
      inputs = ap (λ (p : Program). opened_inputs (durable_in (with_delta d t)) p.inputs) same.program
          ∙ values_alike (stored_at (durable_in (with_delta d t)).inputs) (stored_at (durable_in t).inputs) program.inputs (inputs_after t d w v) ∙ sym same.inputs;
    }

pub next_opening_follows : (s : CoreState) (threshold : Option Level) (reading : ℕ) (t : Contents) → AreInputsApart s.program → ArePrintable s.program.inputs s.inputs →
    HoldsState s t → start s.program (durable_in t) threshold reading ≡ start s.program (durable s) threshold reading
next_opening_follows s threshold reading t apart p h =
    start_alike s.program (durable_in t) (durable s) threshold reading h.rows h.next (h.inputs ∙ sym (named_back s.program.inputs s.inputs apart (read_back s.program.inputs s.inputs p)))
