-- A wanted triple whose entry an event changes is among the touched ones.
use Rattle.std.proofs.Common.{◌≡◌, ℕ, ◌≤◌, Bool, true, false, cond, not, ◌&&◌, ◌||◌, inl, inr, List, [], ◌∷◌, ◌++◌, map, Option, Some, None, T, is_some, refl, ap, sym, ◌∙◌, subst, arith}
use Rattle.std.proofs.lemmas.Bool.{both_ways, eq-eqb, eqb-true, false_from_ne_true, or_left, or_parts}
use Rattle.std.specs.Prelude.{◌==◌, filter, if◌then◌else◌, slice_get}
use Rattle.std.specs.FinMap.{entries, entries_sorted, get, get-entries, get-insert, get-remove, insert, remove}
use Rattle.std.specs.FinMap.Entries.{below_all, find as find_entry, is_sorted}
use Rattle.std.specs.Cmp.{tied_itself}
use Rattle.std.specs.List.{list_any}
use Rattle.std.specs.Option.{option_and_then}
use Rattle.std.specs.Ordering.{eq_by_cmp, is_eq, is_lt}
use Rattle.std.specs.Str.{bytes_eq}
use Rattle.value_core.specs.declared.value.Value.{Value}
use Rattle.value_core.specs.declared.state.Stage.TheVariants.{Running}
use Rattle.value_core.specs.declared.state.Triple.{Triple}
use Rattle.op_keys.specs.Names.{index_named}
use Rattle.op_keys.specs.declared.declarations.OpDecl.{OpDecl}
use Rattle.op_keys.specs.declared.level.Level.{Level}
use Rattle.term_core.specs.Laws.{Agree}
use Rattle.term_core.specs.World.{World, entry_of}
use Rattle.value_core.specs.Orders.{same_triple}
use Rattle.term_core.specs.declared.entries.Entry.TheVariants as entry
use Rattle.fair_pool.specs.Fair.{same_bool, withdrawn}
use Rattle.sched_rows.specs.declared.row.Row.{Row}
use Rattle.sched_rows.specs.RowKeys.{RowKey, key_of, row_key, row_key_cmp, row_key_cmp_total}
use Rattle.sched_rows.specs.Rows.{Kept, due_keys, end_under, falls_within, is_due, mark_found, marked}
use Rattle.sched_rows.specs.Validity.{valid}
use Rattle.sched_rows.proofs.Lookups.{slice_get-set_other}
use Rattle.sched_rows.proofs.SortedEntries.{both_true, is_less}
use Rattle.sched_rows.proofs.ValidityLaws.{valid-later}
use Rattle.core_rules.specs.declared.events.Event.{Event}
use Rattle.core_rules.specs.declared.jobs.Job.{Job}
use Rattle.core_rules.specs.Changes.{op_named}
use Rattle.core_rules.specs.Core.{CoreState, expiry_of, is_latched, job_numbered, may_start, op_of, stage, unstarted, when_allowed, with_job, without_job}
use Rattle.core_rules.specs.Entries.{entry_by, entry_in, job_of, outcome, row_at, row_of, wants, with_value, world}
use Rattle.core_rules.specs.Laws.{Invariant, JobsAbove, Rising}
use Rattle.core_rules.specs.Settling.{wanted}
use Rattle.term_core.specs.Counts.{is_wanted}
use Rattle.core_rules.specs.Steps.{at_time}
use Rattle.core_rules.proofs.Helpers.{any-append, then_some}
use Rattle.core_rules.proofs.Entries.{world_entry}
use Rattle.core_rules.proofs.Settling.{wanted_same}
use Rattle.core_rules.proofs.Starts.{number_found}
use Rattle.engine_rules.specs.declared.edits.Edit.{Edit}
use Rattle.engine_rules.specs.declared.edits.InputChange.{InputChange}
use Rattle.engine_rules.specs.declared.edits.InputChange.TheVariants as input
use Rattle.core_rules.specs.declared.own.Own.{Own}
use Rattle.core_rules.specs.declared.own.Own.TheVariants as own
use Rattle.core_rules.specs.declared.own.RowChange.{RowChange}
use Rattle.core_rules.specs.declared.own.RowChange.TheVariants as row
use Rattle.engine_rules.specs.declared.tests.Tested.TheVariants as tested
use Rattle.engine_rules.specs.Edits.{MayOwn, edit_of, edited, inputs_made, pick_job}
use Rattle.core_rules.specs.Own.{cancelled, own_made, rows_made, took}
use Rattle.core_rules.specs.Orders.{taken_by}
use Rattle.core_rules.specs.Changes.{confirmed, user_marked}
use Rattle.engine_rules.specs.Tests.{test_of}
use Rattle.engine_rules.specs.Touched.{KeptFor, OpsApart, changed_triples, due_in, due_triples, expiry_named, is_moved, own_triples, expires_by, set_inputs, touched, triple_at, triple_of_job, triple_under}
use Rattle.engine_rules.proofs.DueRows.{found_in_rows}
use Rattle.sched_rows.proofs.KeyOrders.{row_keys_tie}
use Rattle.engine_rules.proofs.Edited.{edited_over, over, passed_may_own}
use Rattle.engine_rules.proofs.RepliedBefore.{agree_at}
use Rattle.engine_rules.proofs.NamedIndexes.{declared_own, index_own}
use Rattle.value_core.proofs.Basics.{cond_is, bytes_same, triple_same, same_triples}
use Rattle.core_rules.proofs.Rising.{none_numbered}

-- ---- a row and its triple

-- where a triple has a row, its operation is declared, and the row stands under its name and key with its value
pub row_found : (s : CoreState) (t : Triple) (r : Row) (o : Option OpDecl) → op_of s t.op ≡ o → option_and_then (with_value t.value) (row_at s.rows o t.key) ≡ Some r →
    (d : OpDecl) × (op_of s t.op ≡ Some d) × (get s.rows (row_key d.name t.key) ≡ Some r) × (r.value ≡ t.value)
row_found s t r None is e = let z : ⊥ = cc in absurd z
row_found s t r (Some d) is e =
    let x = then_some (with_value t.value) (get s.rows (row_key d.name t.key)) r e in
    elim (cond_is (bytes_eq x.0.value t.value) (Some x.0) None (Some r) x.2) [
      | inl h ↦
          let same : x.0 ≡ r = (let f = h.1 in cc) in
          (d, is, x.1 ∙ ap Some same, sym (ap (λ y. y.value) same) ∙ bytes_same x.0.value t.value h.0)
      | inr h ↦ let z : ⊥ = (let f = h.1 in cc) in absurd z
    ]

-- the number of an operation by its name
op_numbered : (s : CoreState) (n : ℕ) (d : OpDecl) → OpsApart s.program → op_of s n ≡ Some d → op_named s d.name ≡ Some n
op_numbered s n d apart is = declared_own (λ x. x.name) s.program.ops n d apart is

-- a row with a triple's value, under the name and key of its operation, is one of the triple
triple_there : (s : CoreState) (t : Triple) (d : OpDecl) (r : Row) → OpsApart s.program → op_of s t.op ≡ Some d → r.value ≡ t.value → is_wanted (triple_under (op_named s d.name) t.key (Some r)) t ≡ true
triple_there s t d r apart is v =
    ap (λ o. is_wanted (triple_under o t.key (Some r)) t) (op_numbered s t.op d apart is)
    ∙ or_left (same_triple (record { op = t.op; key = t.key; value = r.value }) t) false (same_triples (record { op = t.op; key = t.key; value = r.value }) t (λ i. record { op = t.op; key = t.key; value = v i }))

-- ---- 1. rows that run out

and_yes : (b : Bool) → (b && true) ≡ b
and_yes true = refl
and_yes false = refl

-- a state at another moment
abbrev at_moment : CoreState → ℕ → CoreState
at_moment s n = record s { now = n }

entry_later : (s : CoreState) (n : ℕ) (d : Option OpDecl) (o : Option Job) (q : Option Row) → s.now ≤ n → ((r : Row) → q ≡ Some r → falls_within s.now n (end_under r (expiry_of d)) ≡ false) →
    entry_by (at_moment s n) d o q ≡ entry_by s d o q
entry_later s n d (Some j) (Some r) le h = refl
entry_later s n d (Some j) None le h = refl
entry_later s n d None None le h = refl
entry_later s n d None (Some r) le h = ap (λ v. if v || is_latched d then outcome r else entry.Active (unstarted s d))
    (valid-later (expiry_of d) r s.now n le ∙ ap (λ b. valid (expiry_of d) s.now r && not b) (h r refl) ∙ and_yes (valid (expiry_of d) s.now r))

expiry_same : (s : CoreState) (n : ℕ) (d : OpDecl) → OpsApart s.program → op_of s n ≡ Some d → expiry_named s.program d.name ≡ expiry_of (Some d)
expiry_same s n d apart is =
    let p : index_named 0 (map (λ (x : OpDecl). x.name) s.program.ops) d.name ≡ n = index_own (λ x. x.name) 0 s.program.ops n d apart is ∙ omega arith in
    ap (λ m. expiry_of (slice_get s.program.ops m)) p ∙ ap expiry_of is

-- a row of a triple that runs out is due
row_due : (s : CoreState) (n : ℕ) (t : Triple) (r : Row) → OpsApart s.program → row_of s t ≡ Some r → falls_within s.now n (end_under r (expiry_of (op_of s t.op))) ≡ true → is_wanted (due_triples s n) t ≡ true
row_due s n t r apart e falls =
    let f = row_found s t r (op_of s t.op) refl e in
    let out : expires_by s n (row_key f.0.name t.key, r) ≡ true = ap (λ x. falls_within s.now n (end_under r x)) (expiry_same s t.op f.0 apart f.1 ∙ sym (ap expiry_of f.1)) ∙ falls in
    found_in_rows (λ u. same_triple u t) (λ n. triple_at s n.0 n.1) (expires_by s n) (row_key f.0.name t.key) r s.rows f.2 out
    (ap (λ o. is_wanted (triple_under (op_named s f.0.name) t.key o) t) f.2 ∙ triple_there s t f.0 r apart f.1 f.3)

time_keeps : (s : CoreState) (n : ℕ) (t : Triple) → OpsApart s.program → s.now ≤ n → is_wanted (due_triples s n) t ≡ false → entry_in (at_moment s n) t ≡ entry_in s t
time_keeps s n t apart le h = entry_later s n (op_of s t.op) (job_of s.jobs t) (row_of s t) le
    (λ r e. false_from_ne_true (falls_within s.now n (end_under r (expiry_of (op_of s t.op)))) (λ falls. both_ways (is_wanted (due_triples s n) t) h (row_due s n t r apart e falls)))

-- ---- 2. changes among the rows

none_under : (o : Option ℕ) (key : List ℕ) (t : Triple) → is_wanted (triple_under o key None) t ≡ false
none_under None key t = refl
none_under (Some op) key t = refl

-- a row that isn't one of a triple isn't its row
not_its_row : (s : CoreState) (t : Triple) (d : OpDecl) (name key : List ℕ) (o : Option Row) → OpsApart s.program → op_of s t.op ≡ Some d → d.name ≡ name → t.key ≡ key →
    is_wanted (triple_under (op_named s name) key o) t ≡ false → option_and_then (with_value t.value) o ≡ None
not_its_row s t d name key None apart is n k h = refl
not_its_row s t d name key (Some r) apart is n k h = elim (bytes_eq r.value t.value) as (λ b. bytes_eq r.value t.value ≡ b → (if b then Some r else None) ≡ None) [
  | true ↦ λ v.
      let there : is_wanted (triple_under (op_named s name) key (Some r)) t ≡ true =
      (λ i. is_wanted (triple_under (op_named s (sym n i)) (sym k i) (Some r)) t) ∙ triple_there s t d r apart is (bytes_same r.value t.value v) in
      absurd (both_ways (is_wanted (triple_under (op_named s name) key (Some r)) t) h there)
  | false ↦ λ v. refl
] refl

-- rows that differ at one name and key alone
elsewhere_same : (s : CoreState) (t : Triple) (d : OpDecl) (name key : List ℕ) (new other : Option Row) → OpsApart s.program → op_of s t.op ≡ Some d →
    other ≡ cond (eq_by_cmp row_key_cmp (row_key d.name t.key) (row_key name key)) new (get s.rows (row_key d.name t.key)) →
    is_wanted (triple_under (op_named s name) key new) t ≡ false → is_wanted (triple_at s name key) t ≡ false →
    option_and_then (with_value t.value) other ≡ option_and_then (with_value t.value) (get s.rows (row_key d.name t.key))
elsewhere_same s t d name key new other apart is e put stood = elim (eq_by_cmp row_key_cmp (row_key d.name t.key) (row_key name key)) as (λ b.
    eq_by_cmp row_key_cmp (row_key d.name t.key) (row_key name key) ≡ b → other ≡ cond b new (get s.rows (row_key d.name t.key)) →
    option_and_then (with_value t.value) other ≡ option_and_then (with_value t.value) (get s.rows (row_key d.name t.key))) [
      | true ↦ λ tie e.
          let same : row_key d.name t.key ≡ row_key name key = row_keys_tie (row_key d.name t.key) (row_key name key) tie in
          let n : d.name ≡ name = ap (λ k. k.op) same in
          let k : t.key ≡ key = ap (λ k. k.key) same in
          let old : option_and_then (with_value t.value) (get s.rows (row_key name key)) ≡ None = not_its_row s t d name key (get s.rows (row_key name key)) apart is n k stood in
          ap (option_and_then (with_value t.value)) e ∙ not_its_row s t d name key new apart is n k put ∙ sym (ap (λ q. option_and_then (with_value t.value) (get s.rows q)) same ∙ old)
      | false ↦ λ tie e. ap (option_and_then (with_value t.value)) e
    ] refl e

rows_same : (s : CoreState) (t : Triple) (d : OpDecl) (c : RowChange) → OpsApart s.program → op_of s t.op ≡ Some d → is_wanted (changed_triples s c) t ≡ false →
    option_and_then (with_value t.value) (get (rows_made c s.rows) (row_key d.name t.key)) ≡ option_and_then (with_value t.value) (get s.rows (row_key d.name t.key))
rows_same s t d row.None apart is h = refl
rows_same s t d (row.Put r) apart is h =
    let parts = or_parts _ _ (sym (any-append (λ u. same_triple u t) (triple_under (op_named s r.op) r.key (Some r)) (triple_at s r.op r.key)) ∙ h) in
    elsewhere_same s t d r.op r.key (Some r) (get (insert s.rows (key_of r) r) (row_key d.name t.key)) apart is (get-insert row_key_cmp_total s.rows (key_of r) r (row_key d.name t.key)) parts.0 parts.1
rows_same s t d (row.Void op key) apart is h =
    elsewhere_same s t d op key None (get (remove s.rows (row_key op key)) (row_key d.name t.key)) apart is (get-remove row_key_cmp_total s.rows (row_key op key) (row_key d.name t.key)) (none_under (op_named s op) key t) h
rows_same s t d (row.Mark op key) apart is h = elim (get s.rows (row_key op key)) as (λ o. get s.rows (row_key op key) ≡ o → is_wanted (triple_under (op_named s op) key o) t ≡ false →
    option_and_then (with_value t.value) (get (mark_found (row_key op key) o s.rows) (row_key d.name t.key)) ≡ option_and_then (with_value t.value) (get s.rows (row_key d.name t.key))) [
      | None ↦ λ e k. refl
      | Some r ↦ λ e k. elsewhere_same s t d op key (Some (marked r)) (get (insert s.rows (row_key op key) (marked r)) (row_key d.name t.key)) apart is
          (get-insert row_key_cmp_total s.rows (row_key op key) (marked r) (row_key d.name t.key)) (marked_alike (op_named s op) key r t ∙ k) h
    ] refl h
  where
    marked_alike : (o : Option ℕ) (key : List ℕ) (r : Row) (t : Triple) → is_wanted (triple_under o key (Some (marked r))) t ≡ is_wanted (triple_under o key (Some r)) t
    marked_alike None key r t = refl
    marked_alike (Some op) key r t = refl

rows_keep : (s : CoreState) (t : Triple) (c : RowChange) → OpsApart s.program → is_wanted (changed_triples s c) t ≡ false → row_of (record s { rows = rows_made c s.rows }) t ≡ row_of s t
rows_keep s t c apart h = by_op (op_of s t.op) refl
  where
    by_op : (o : Option OpDecl) → op_of s t.op ≡ o → option_and_then (with_value t.value) (row_at (rows_made c s.rows) o t.key) ≡ option_and_then (with_value t.value) (row_at s.rows o t.key)
    by_op None is = refl
    by_op (Some d) is = rows_same s t d c apart is h

rows_keep_entry : (s : CoreState) (t : Triple) (c : RowChange) (inputs : List Value) → OpsApart s.program → is_wanted (changed_triples s c) t ≡ false → entry_in (over s (rows_made c s.rows) inputs s.version) t ≡ entry_in s t
rows_keep_entry s t c inputs apart h = ap (λ q. entry_by s (op_of s t.op) (job_of s.jobs t) q) (rows_keep s t c apart h)

-- ---- 3. changes among the jobs

found_triple : (js : List Job) (t : Triple) (j : Job) → job_of js t ≡ Some j → j.triple ≡ t
found_triple [] t j e = let z : ⊥ = cc in absurd z
found_triple (i ∷ js) t j e = elim (same_triple i.triple t) as (λ b. same_triple i.triple t ≡ b → cond b (Some i) (job_of js t) ≡ Some j → j.triple ≡ t) [
  | true ↦ λ is k. let same : i ≡ j = cc in subst (λ x. x.triple ≡ t) same (triple_same i.triple t is)
  | false ↦ λ is k. found_triple js t j k
] refl e

-- a job that changes but for its triple changes the look-up of no other triple
job_with : (n : ℕ) (f : Job → Job) (js : List Job) (j : Job) (t : Triple) → ((i : Job) → (f i).triple ≡ i.triple) → job_numbered js n ≡ Some j → same_triple j.triple t ≡ false → job_of (with_job n f js) t ≡ job_of js t
job_with n f [] j t k e h = refl
job_with n f (i ∷ js) j t k e h = elim (i.number == n) as (λ b. cond b (Some i) (job_numbered js n) ≡ Some j → job_of (if b then f i ∷ js else i ∷ with_job n f js) t ≡ job_of (i ∷ js) t) [
  | true ↦ λ e.
      let same : i ≡ j = cc in
      let off : same_triple i.triple t ≡ false = ap (λ x. same_triple x.triple t) same ∙ h in
      ap (λ u. cond (same_triple u t) (Some (f i)) (job_of js t)) (k i) ∙ ap (λ b. cond b (Some (f i)) (job_of js t)) off ∙ sym (ap (λ b. cond b (Some i) (job_of js t)) off)
  | false ↦ λ e. ap (λ o. cond (same_triple i.triple t) (Some i) o) (job_with n f js j t k e h)
] e

-- a job that goes changes the look-up of no other triple
job_without : (n : ℕ) (js : List Job) (j : Job) (t : Triple) → Rising js → job_numbered js n ≡ Some j → same_triple j.triple t ≡ false → job_of (without_job n js) t ≡ job_of js t
job_without n [] j t r e h = refl
job_without n (i ∷ js) j t r e h = elim (i.number == n) as (λ b. (i.number == n) ≡ b → cond b (Some i) (job_numbered js n) ≡ Some j → job_of (cond (not b) (i ∷ without_job n js) (without_job n js)) t ≡ job_of (i ∷ js) t) [
  | true ↦ λ is e.
      let same : i ≡ j = cc in
      let off : same_triple i.triple t ≡ false = ap (λ x. same_triple x.triple t) same ∙ h in
      let above : JobsAbove n js = subst (λ m. JobsAbove m js) (eqb-true i.number n is) r.0 in
      ap (λ ks. job_of ks t) (none_numbered n js above) ∙ sym (ap (λ b. cond b (Some i) (job_of js t)) off)
  | false ↦ λ is e. ap (λ o. cond (same_triple i.triple t) (Some i) o) (job_without n js j t r.1 e h)
] refl e

-- the entry by other jobs that give a triple the same one
by_jobs : (s : CoreState) (js : List Job) (t : Triple) → job_of js t ≡ job_of s.jobs t → entry_in (record s { jobs = js }) t ≡ entry_in s t
by_jobs s js t e = ap (λ o. entry_by s (op_of s t.op) o (row_of s t)) e

one_triple : (j : Job) (t : Triple) → is_wanted (triple_of_job (Some j)) t ≡ false → same_triple j.triple t ≡ false
one_triple j t h = (or_parts (same_triple j.triple t) false h).0

job_off : (s : CoreState) (n : ℕ) (j : Job) (t : Triple) → job_numbered s.jobs n ≡ Some j → is_wanted (triple_of_job (job_numbered s.jobs n)) t ≡ false → same_triple j.triple t ≡ false
job_off s n j t is h = one_triple j t (ap (λ o. is_wanted (triple_of_job o) t) (sym is) ∙ h)

cancel_keeps : (s : CoreState) (n : ℕ) (j : Job) (t : Triple) → Rising s.jobs → job_numbered s.jobs n ≡ Some j → same_triple j.triple t ≡ false → entry_in (cancelled s (Some j)) t ≡ entry_in s t
cancel_keeps s n j t r is off =
    let found : job_numbered s.jobs j.number ≡ Some j = subst (λ m. job_numbered s.jobs m ≡ Some j) (sym (number_found s.jobs n j is)) is in
    elim (is_some j.worker) as (λ b. entry_in (if b then record s { jobs = with_job j.number user_marked s.jobs } else record s { jobs = without_job j.number s.jobs; fair = withdrawn j.number s.fair }) t ≡ entry_in s t) [
      | true ↦ by_jobs s (with_job j.number user_marked s.jobs) t (job_with j.number user_marked s.jobs j t (λ _. refl) found off)
      | false ↦ by_jobs s (without_job j.number s.jobs) t (job_without j.number s.jobs j t r found off)
    ]

-- ---- a threshold

kept_wanted : (p : Triple → Bool) (ws : List Triple) (t : Triple) → is_wanted (filter p ws) t ≡ (p t && is_wanted ws t)
kept_wanted p [] t = and_no (p t)
  where
    and_no : (b : Bool) → false ≡ (b && false)
    and_no true = refl
    and_no false = refl
kept_wanted p (u ∷ ws) t = elim (same_triple u t) as (λ b. same_triple u t ≡ b → is_wanted (filter p (u ∷ ws)) t ≡ (p t && (b || is_wanted ws t))) [
  | true ↦ λ is.
      let same : u ≡ t = triple_same u t is in
      elim (p u) as (λ b. p u ≡ b → is_wanted (cond b (u ∷ filter p ws) (filter p ws)) t ≡ (p t && true)) [
        | true ↦ λ e. ap (λ b. b || is_wanted (filter p ws) t) is ∙ sym (ap (λ b. b && true) (ap p (sym same) ∙ e))
        | false ↦ λ e.
            let none : p t ≡ false = ap p (sym same) ∙ e in
            kept_wanted p ws t ∙ ap (λ b. b && is_wanted ws t) none ∙ sym (ap (λ b. b && true) none)
      ] refl
  | false ↦ λ is. elim (p u) as (λ b. is_wanted (cond b (u ∷ filter p ws) (filter p ws)) t ≡ (p t && is_wanted ws t)) [
    | true ↦ ap (λ b. b || is_wanted (filter p ws) t) is ∙ kept_wanted p ws t
    | false ↦ kept_wanted p ws t
  ]
] refl

same_bools : (a b : Bool) → not (same_bool a b) ≡ false → a ≡ b
same_bools true true e = refl
same_bools true false e = let z : ⊥ = cc in absurd z
same_bools false true e = let z : ⊥ = cc in absurd z
same_bools false false e = refl

-- a job's stage under another threshold that treats its operation alike
stage_alike : (s : CoreState) (threshold : Option Level) (t : Triple) (j : Job) → may_start threshold (op_of s t.op) ≡ may_start s.threshold (op_of s t.op) → job_of s.jobs t ≡ Some j →
    stage (record s { threshold = threshold }) j ≡ stage s j
stage_alike s threshold t j m is =
    let same : j.triple ≡ t = found_triple s.jobs t j is in
    let alike : may_start threshold (op_of s j.triple.op) ≡ may_start s.threshold (op_of s j.triple.op) = subst (λ u. may_start threshold (op_of s u.op) ≡ may_start s.threshold (op_of s u.op)) (sym same) m in
    ap (λ b. if is_some j.worker then Running else when_allowed (b || j.confirmed)) alike

-- and an entry
entry_alike : (s : CoreState) (threshold : Option Level) (t : Triple) (o : Option Job) (q : Option Row) → may_start threshold (op_of s t.op) ≡ may_start s.threshold (op_of s t.op) → job_of s.jobs t ≡ o →
    entry_by (record s { threshold = threshold }) (op_of s t.op) o q ≡ entry_by s (op_of s t.op) o q
entry_alike s threshold t None None m is = ap (λ b. entry.Active (when_allowed b)) m
entry_alike s threshold t None (Some r) m is = ap (λ b. if valid (expiry_of (op_of s t.op)) s.now r || is_latched (op_of s t.op) then outcome r else entry.Active (when_allowed b)) m
entry_alike s threshold t (Some j) None m is = ap entry.Active (stage_alike s threshold t j m is)
entry_alike s threshold t (Some j) (Some r) m is = ap (λ g. if is_latched (op_of s t.op) then outcome r else entry.Active g) (stage_alike s threshold t j m is)

level_keeps : (ws : List Triple) (s : CoreState) (threshold : Option Level) (t : Triple) → is_wanted ws t ≡ true → is_wanted (filter (is_moved threshold s) ws) t ≡ false → entry_in (record s { threshold = threshold }) t ≡ entry_in s t
level_keeps ws s threshold t w h =
    let still : is_moved threshold s t ≡ false = sym (and_yes (is_moved threshold s t)) ∙ sym (ap (λ b. is_moved threshold s t && b) w) ∙ sym (kept_wanted (is_moved threshold s) ws t) ∙ h in
    entry_alike s threshold t (job_of s.jobs t) (row_of s t) (same_bools (may_start threshold (op_of s t.op)) (may_start s.threshold (op_of s t.op)) still) refl

own_keeps : (ws : List Triple) (s : CoreState) (o : Own) (t : Triple) → Rising s.jobs → MayOwn s o → is_wanted ws t ≡ true → is_wanted (own_triples ws s o) t ≡ false → entry_in (own_made o s) t ≡ entry_in s t
own_keeps ws s own.None t r m w h = refl
own_keeps ws s (own.Level threshold) t r m w h = level_keeps ws s threshold t w h
own_keeps ws s (own.Confirm n) t r m w h = by_jobs s (with_job n confirmed s.jobs) t (job_with n confirmed s.jobs m.0 t (λ _. refl) m.1 (job_off s n m.0 t m.1 h))
own_keeps ws s (own.Cancel n) t r m w h = ap (λ o. entry_in (cancelled s o) t) m.1 ∙ cancel_keeps s n m.0 t r m.1 (job_off s n m.0 t m.1 h)
own_keeps ws s (own.Take k) t r m w h =
    let n = m.1 in
    let j = m.3.0 in
    let is = m.3.1 in
    let pick : pick_job s k ≡ Some j = ap (option_and_then (job_numbered s.jobs)) m.2 ∙ is in
    let off : same_triple j.triple t ≡ false = one_triple j t (ap (λ o. is_wanted (triple_of_job o) t) (sym pick) ∙ h) in
    ap (λ p. entry_in (took s k p) t) m.2 ∙ by_jobs s (with_job n (taken_by k) s.jobs) t (job_with n (taken_by k) s.jobs j t (λ _. refl) is off)
own_keeps ws s (own.Finish n) t r m w h = by_jobs s (without_job n s.jobs) t (job_without n s.jobs m.0 t r m.1 (job_off s n m.0 t m.1 h))
own_keeps ws s (own.Pause k) t r m w h = refl
own_keeps ws s (own.Resume k) t r m w h = refl
own_keeps ws s (own.Rate c rate) t r m w h = refl

-- ---- all three

edit_keeps : (ws : List Triple) (s : CoreState) (e : Edit) (t : Triple) → OpsApart s.program → Rising s.jobs → MayOwn s e.own → is_wanted ws t ≡ true →
    is_wanted (own_triples ws s e.own) t ≡ false → is_wanted (changed_triples s e.row) t ≡ false → entry_in (edited e s) t ≡ entry_in s t
edit_keeps ws s e t apart r m w own_off row_off =
    let u : CoreState = over s (rows_made e.row s.rows) (inputs_made e.input s.inputs) s.version in
    ap (λ z. entry_in z t) (sym (edited_over s e)) ∙ own_keeps ws u e.own t r m w own_off ∙ rows_keep_entry s t e.row (inputs_made e.input s.inputs) apart row_off

pub changed_are_touched : (s : CoreState) (e : Event) (t : Triple) → Invariant s → OpsApart s.program → test_of (at_time s e.at) e.what ≡ tested.Passes →
    is_wanted (wants s) t ≡ true → is_wanted (touched (wanted s) s e) t ≡ false →
    entry_in (edited (edit_of (at_time s e.at) e.what) (at_time s e.at)) t ≡ entry_in s t
changed_are_touched s e t inv apart passes w h =
    let u : CoreState = at_time s e.at in
    let d = edit_of u e.what in
    let parts = or_parts _ _ (sym (any-append (λ x. same_triple x t) (due_triples s u.now) (own_triples (wanted s) u d.own ++ changed_triples u d.row)) ∙ h) in
    let more = or_parts _ _ (sym (any-append (λ x. same_triple x t) (own_triples (wanted s) u d.own) (changed_triples u d.row)) ∙ parts.1) in
    edit_keeps (wanted s) u d t apart inv.lawful.numbered.rising (passed_may_own u e.what passes) (wanted_same (wants s) t ∙ w) more.0 more.1
    ∙ time_keeps s u.now t apart (omega arith) parts.0

pub differing_are_touched : (w : World) (s : CoreState) (e : Event) (t : Triple) → Invariant s → OpsApart s.program → test_of (at_time s e.at) e.what ≡ tested.Passes →
    Agree (world s) w (wants s) → is_wanted (wants s) t ≡ true → is_wanted (touched (wanted s) s e) t ≡ false →
    entry_of (world (edited (edit_of (at_time s e.at) e.what) (at_time s e.at))) t ≡ entry_of w t
differing_are_touched w s e t inv apart passes agree wants_it off =
    world_entry (edited (edit_of (at_time s e.at) e.what) (at_time s e.at)) t
    ∙ changed_are_touched s e t inv apart passes wants_it off
    ∙ sym (world_entry s t)
    ∙ agree_at (world s) w (wants s) t agree wants_it

-- ---- inputs

pub inputs_kept : (c : InputChange) (values : List Value) (i : ℕ) → list_any (λ j. j == i) (set_inputs c) ≡ false → slice_get (inputs_made c values) i ≡ slice_get values i
inputs_kept input.None values i h = refl
inputs_kept (input.Set place v) values i h = slice_get-set_other values place v i (λ e.
    both_ways (place == i) ((or_parts (place == i) false h).0) (eq-eqb place i (sym e)))

-- ---- expiries of operations

-- what is below all keys isn't found
not_found : (k : RowKey) (es : List (RowKey × Row)) → T (below_all row_key_cmp k es) → find_entry row_key_cmp k es ≡ None
not_found k [] h = refl
not_found k (e ∷ es) h =
    let parts = both_true (is_lt (row_key_cmp k e.0)) (below_all row_key_cmp k es) h in
    ap (λ o. cond (is_eq o) (Some e.1) (find_entry row_key_cmp k es)) (is_less (row_key_cmp k e.0) parts.0) ∙ not_found k es parts.1

itself_tied : (k : RowKey) → eq_by_cmp row_key_cmp k k ≡ true
itself_tied k = ap is_eq (tied_itself row_key_cmp_total k)

-- two tests that agree on what is found keep the same entries
filter_same : (p q : RowKey × Row → Bool) (es : List (RowKey × Row)) → T (is_sorted row_key_cmp es) → ((k : RowKey) (r : Row) → find_entry row_key_cmp k es ≡ Some r → p (k, r) ≡ q (k, r)) → filter p es ≡ filter q es
filter_same p q [] sorted h = refl
filter_same p q (e ∷ es) sorted h =
    let parts = both_true (below_all row_key_cmp e.0 es) (is_sorted row_key_cmp es) sorted in
    let first : p e ≡ q e = h e.0 e.1 (ap (λ b. cond b (Some e.1) (find_entry row_key_cmp e.0 es)) (itself_tied e.0)) in
    let rest : filter p es ≡ filter q es = filter_same p q es parts.1 (λ k r f. h k r (later k r f parts.0)) in
    λ i. cond (first i) (e ∷ rest i) (rest i)
  where
    later : (k : RowKey) (r : Row) → find_entry row_key_cmp k es ≡ Some r → T (below_all row_key_cmp e.0 es) → find_entry row_key_cmp k (e ∷ es) ≡ Some r
    later k r f below = elim (eq_by_cmp row_key_cmp k e.0) as (λ b. eq_by_cmp row_key_cmp k e.0 ≡ b → cond b (Some e.1) (find_entry row_key_cmp k es) ≡ Some r) [
      | true ↦ λ tie.
          let none : find_entry row_key_cmp k es ≡ None = ap (λ x. find_entry row_key_cmp x es) (row_keys_tie k e.0 tie) ∙ not_found e.0 es below in
          let z : ⊥ = cc in absurd z
      | false ↦ λ tie. f
    ] refl

pub due_by_operations : (s : CoreState) (k : Kept) (upto : ℕ) → k.rows ≡ s.rows → KeptFor s.program k → due_keys k s.now upto ≡ due_in s upto
due_by_operations s k upto same kept =
    ap (map (λ (e : RowKey × Row). (e.0.op, e.0.key))) (filter_same (is_due k s.now upto) (expires_by s upto) (entries k.rows) (entries_sorted k.rows)
    (λ key r f. ap (λ o. falls_within s.now upto (option_and_then (end_under r) o)) (kept key r (get-entries k.rows key ∙ f))))
    ∙ ap (λ rows. map (λ (e : RowKey × Row). (e.0.op, e.0.key)) (filter (expires_by s upto) (entries rows))) same
