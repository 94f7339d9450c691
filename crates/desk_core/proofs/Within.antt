-- What an accepted event stores may be held by tables.
use Rattle.std.proofs.Common.{◌≡◌, ℕ, zero, suc, ◌+◌, ◌<◌, Bool, true, false, cond, List, [], ◌∷◌, length, map, Option, Some, None, is_some, inl, inr, refl, ap, sym, subst, arith, codes}
use Rattle.std.specs.Prelude.{◌==◌, IfSome, nat_le, nat_lt, slice_get}
use Rattle.std.specs.FinMap.{get}
use Rattle.std.specs.List.{AllByRecursion}
use Rattle.std.specs.Option.{option_map}
use Rattle.std.specs.Str.{bytes_eq}
use Rattle.std.proofs.lemmas.Bool.{cond_both, ltb-true}
use Rattle.value_core.specs.Names.{is_name}
use Rattle.value_core.specs.Printed.{printed}
use Rattle.value_core.specs.Texts.{is_text}
use Rattle.value_core.specs.declared.value.Value.{Value}
use Rattle.value_core.proofs.Basics.{and_both, bytes_same, cond_is, is_nat_le}
use Rattle.op_keys.specs.Names.{index_named}
use Rattle.op_keys.specs.declared.declarations.OpDecl.{OpDecl}
use Rattle.op_keys.specs.declared.order.Exit.{Exit}
use Rattle.term_core.specs.Limits.{IsInputWithin, IsOpWithin}
use Rattle.term_core.specs.declared.program.InputDecl.{InputDecl}
use Rattle.term_check.proofs.Named.{found_name}
use Rattle.sched_rows.specs.RowKeys.{RowKey, row_key}
use Rattle.sched_rows.specs.Rows.{Rows, marked}
use Rattle.sched_rows.specs.declared.row.Row.{Row}
use Rattle.core_rules.specs.Bounds.{AreRowsKeyed}
use Rattle.core_rules.specs.Changes.{cancelled_row, op_named, row_by, takes}
use Rattle.core_rules.specs.Core.{CoreState, job_numbered, op_name, op_of, is_output}
use Rattle.core_rules.specs.Steps.{Accepted, at_time, step}
use Rattle.core_rules.specs.Stored.{with_void}
use Rattle.core_rules.specs.declared.done.Done.{Done}
use Rattle.core_rules.specs.declared.events.Event.{Event}
use Rattle.core_rules.specs.declared.events.Refusal.TheVariants as refusal
use Rattle.core_rules.specs.declared.events.What.{What}
use Rattle.core_rules.specs.declared.events.What.TheVariants as what
use Rattle.core_rules.specs.declared.jobs.Job.{Job}
use Rattle.core_rules.specs.declared.jobs.Mark.{Mark}
use Rattle.core_rules.specs.declared.jobs.Mark.TheVariants.{Unmarked, Automatic, User}
use Rattle.core_rules.specs.declared.own.RowChange.{RowChange}
use Rattle.core_rules.specs.declared.own.RowChange.TheVariants as row
use Rattle.engine_rules.specs.Edits.{cancelled_rows, edit_of, inputs_made, left_row, left_rows, pick_job, stored_input, stored_row, taken_rows}
use Rattle.engine_rules.specs.Proper.{IsProperWhat, IsRowShort}
use Rattle.engine_rules.specs.Reached.{IsTripleWithin}
use Rattle.engine_rules.specs.Tests.{input_named, input_test, rebuild_test, test_of}
use Rattle.engine_rules.specs.declared.tests.Tested.TheVariants.{Passes}
use Rattle.engine_rules.proofs.BoundedStates.{bounds_through_steps}
use Rattle.engine_rules.proofs.Edited.{unless_passes}
use Rattle.job_core.proofs.Walks.{all_get}
use Rattle.keeper_core.specs.Chains.{AreTextsStorable, IsInputStorable}
use Rattle.keeper_core.specs.Laws.{AreRowTexts}
use Rattle.keeper_core.proofs.PrintedReads.{printed_is_read}
use Rattle.engine_core.specs.State.{IsEngineLawful}
use Rattle.desk_core.specs.Laws.{HasRowTexts, HaveTexts, SetsTexts}
use Rattle.desk_core.proofs.Accepted.{accepted_so, row_put}
use Rattle.desk_core.proofs.Printable.{is_printable, texts_set}

-- ---- names of operations

-- the name of a declared operation
name_at : (ds : List OpDecl) (i : ℕ) → AllByRecursion IsOpWithin ds → i < length ds → is_name (op_name (slice_get ds i)) ≡ true
name_at [] i within h = absurd (omega (arith, h))
name_at (d ∷ ds) zero within h = within.0.name
name_at (d ∷ ds) (suc i) within h = name_at ds i within.1 (omega (arith, h))

-- what is the name of a declared operation
name_of_one : (at : ℕ) (ds : List OpDecl) (name : List ℕ) → AllByRecursion IsOpWithin ds → index_named at (map (λ d. d.name) ds) name < at + length ds → is_name name ≡ true
name_of_one at [] name within h = absurd (omega (arith, h))
name_of_one at (d ∷ ds) name within h = elim (bytes_eq d.name name) as (λ b. bytes_eq d.name name ≡ b → cond b at (index_named (at + 1) (map (λ d. d.name) ds) name) < at + length (d ∷ ds) → is_name name ≡ true) [
  | true ↦ λ same _. subst (λ (n : List ℕ). is_name n ≡ true) (bytes_same d.name name same) within.0.name
  | false ↦ λ _ h. name_of_one (at + 1) ds name within.1 (omega (arith, h))
] refl h

rebuilt_name : (s : CoreState) (name : List ℕ) (o job : Option ℕ) (has_row : Bool) → AllByRecursion IsOpWithin s.program.ops → op_named s name ≡ o → rebuild_test o job has_row ≡ Passes → is_name name ≡ true
rebuilt_name s name None job has_row within is t = let z : ⊥ = cc in absurd z
rebuilt_name s name (Some k) job has_row within is t =
    let ops = s.program.ops in
    let i = index_named 0 (map (λ (d : OpDecl). d.name) ops) name in
    elim (cond_is {A = Option ℕ} (nat_lt i (length ops)) (Some i) None (Some k) is) [
      | inl f ↦ let below = ltb-true i (length ops) f.0 in name_of_one 0 ops name within (omega (arith, below))
      | inr f ↦ let z : ⊥ = (let g = f.1 in cc) in absurd z
    ]

-- ---- rows that are put

abbrev IsNamed : Row → Type 0
IsNamed r = is_name r.op ≡ true

-- the row of a change has an operation's name, if there is one
abbrev StoresNamed : Rows → RowChange → Type 0
StoresNamed rows c = IfSome (stored_row rows c) IsNamed

-- a job of a declared operation
abbrev IsDeclared : CoreState → Job → Type 0
IsDeclared s j = j.triple.op < length s.program.ops

found_job : (P : Job → Type 0) (js : List Job) (n : ℕ) (o : Option Job) → AllByRecursion P js → job_numbered js n ≡ o → IfSome o P
found_job P js n None all is = tt
found_job P [] n (Some j) all is = let z : ⊥ = cc in absurd z
found_job P (i ∷ js) n (Some j) all is = elim (cond_is {A = Option Job} (i.number == n) (Some i) (job_numbered js n) (Some j) is) [
  | inl f ↦ let same : i ≡ j = (let g = f.1 in cc) in subst P same all.0
  | inr f ↦ found_job P js n (Some j) all.1 f.1
]

module _ (s : CoreState) (within : AllByRecursion IsOpWithin s.program.ops) where
  row_named : (j : Job) (fine : Bool) (result : List ℕ) → IsDeclared s j → IsNamed (row_by s j fine result)
  row_named j fine result d = name_at s.program.ops j.triple.op within d

  cancelled_named : (o : Option Job) → IfSome o (IsDeclared s) → StoresNamed s.rows (cancelled_rows s o)
  cancelled_named None d = tt
  cancelled_named (Some j) d = cond_both (is_some j.worker) row.None (row.Put (cancelled_row s j)) (StoresNamed s.rows) (λ _. tt) (λ _. row_named j false (codes "cancelled") d)

  taken_named : (o : Option Job) → StoresNamed s.rows (taken_rows s o)
  taken_named None = tt
  taken_named (Some j) = cond_both (is_output (op_of s j.triple.op)) _ _ (StoresNamed s.rows) (λ _. tt) (λ _. tt)

  left_named : (j : Job) (x : Exit) (m : Mark) → IsDeclared s j → StoresNamed s.rows (left_row m s j x)
  left_named j x Automatic d = tt
  left_named j x User d = name_at s.program.ops j.triple.op within d
  left_named j x Unmarked d = name_at s.program.ops j.triple.op within d

  ended_named : (o : Option Job) (x : Exit) → IfSome o (IsDeclared s) → StoresNamed s.rows (left_rows s o x)
  ended_named None x d = tt
  ended_named (Some j) x d = left_named j x j.mark d

  marked_named : (k : RowKey) (o : Option Row) → get s.rows k ≡ o → AreRowsKeyed s.rows → is_name k.op ≡ true → IfSome (option_map marked o) IsNamed
  marked_named k None is keyed h = tt
  marked_named k (Some r) is keyed h = subst (λ (q : RowKey). is_name q.op ≡ true) (sym (keyed k r is).0) h

  stored_named : (w : What) → AllByRecursion (IsDeclared s) s.jobs → AreRowsKeyed s.rows → test_of s w ≡ Passes → StoresNamed s.rows (edit_of s w).row
  stored_named (what.SetInput name v) jobs keyed t = tt
  stored_named what.Tick jobs keyed t = tt
  stored_named (what.SetLevel threshold) jobs keyed t = tt
  stored_named (what.Confirm n) jobs keyed t = tt
  stored_named (what.Cancel n) jobs keyed t = cancelled_named (job_numbered s.jobs n) (found_job (IsDeclared s) s.jobs n (job_numbered s.jobs n) jobs refl)
  stored_named (what.Rebuild op key) jobs keyed t =
      marked_named (row_key op key) (get s.rows (row_key op key)) refl keyed (rebuilt_name s op (op_named s op) _ _ within refl t)
  stored_named (what.Pause w) jobs keyed t = tt
  stored_named (what.Resume w) jobs keyed t = tt
  stored_named (what.Rate pool client rate) jobs keyed t = tt
  stored_named (what.Take w) jobs keyed t = taken_named (pick_job s w)
  stored_named (what.Finish n x) jobs keyed t = ended_named (job_numbered s.jobs n) x (found_job (IsDeclared s) s.jobs n (job_numbered s.jobs n) jobs refl)

jobs_declared : (s : CoreState) (js : List Job) → AllByRecursion (λ (j : Job). IsTripleWithin s.program j.triple) js → AllByRecursion (IsDeclared s) js
jobs_declared s [] h = tt
jobs_declared s (j ∷ js) h = (h.0.declared, jobs_declared s js h.1)

row_texts : (o : Option Row) → IfSome o IsNamed → IfSome o IsRowShort → IfSome o HasRowTexts → IfSome o AreRowTexts
row_texts None named short texts = tt
row_texts (Some r) named short texts = record {
  op = named;
  key = and_both (nat_le (length r.key) 65536) (is_text r.key) (is_nat_le (length r.key) 65536 short.key) texts.key;
  value = and_both (nat_le (length r.value) 65536) (is_text r.value) (is_nat_le (length r.value) 65536 short.value) texts.value;
  result = and_both (nat_le (length r.result) 65536) (is_text r.result) (is_nat_le (length r.result) 65536 short.result) texts.result;
}

-- ---- inputs that are set

set_storable : (s : CoreState) (name : List ℕ) (v : Value) (o : Option InputDecl) → AllByRecursion IsInputWithin s.program.inputs → input_named s.program name ≡ o → input_test o v ≡ Passes → IsProperWhat (what.SetInput name v) →
    SetsTexts (what.SetInput name v) → IsInputStorable (name, printed v)
set_storable s name v None within is t proper texts = let z : ⊥ = cc in absurd z
set_storable s name v (Some d) within is t proper texts =
    let i = index_named 0 (map (λ (d : InputDecl). d.name) s.program.inputs) name in
    let one = all_get IsInputWithin s.program.inputs i d within is in
    let same : d.name ≡ name = bytes_same d.name name (found_name (λ (d : InputDecl). d.name) 0 s.program.inputs name i d (omega arith) is) in
    let kind : takes d v ≡ true = unless_passes refusal.WrongKind (takes d v) t in
    (subst (λ (n : List ℕ). is_name n ≡ true) same one.name, ap is_some (printed_is_read v (is_printable d v one (record { of_kind = kind; bounded = proper.bounded; light = proper.light }) texts)))

input_storable : (s : CoreState) (w : What) → AllByRecursion IsInputWithin s.program.inputs → test_of s w ≡ Passes → IsProperWhat w → SetsTexts w → IfSome (stored_input w) IsInputStorable
input_storable s (what.SetInput name v) within t proper texts = set_storable s name v (input_named s.program name) within refl t proper texts
input_storable s what.Tick within t proper texts = tt
input_storable s (what.SetLevel threshold) within t proper texts = tt
input_storable s (what.Confirm n) within t proper texts = tt
input_storable s (what.Cancel n) within t proper texts = tt
input_storable s (what.Rebuild op key) within t proper texts = tt
input_storable s (what.Pause w) within t proper texts = tt
input_storable s (what.Resume w) within t proper texts = tt
input_storable s (what.Rate pool client rate) within t proper texts = tt
input_storable s (what.Take w) within t proper texts = tt
input_storable s (what.Finish n x) within t proper texts = tt

made_texts : (s : CoreState) (w : What) → SetsTexts w → HaveTexts s.inputs → HaveTexts (inputs_made (edit_of s w).input s.inputs)
made_texts s (what.SetInput name v) texts h = texts_set s.inputs _ v h texts
made_texts s what.Tick texts h = h
made_texts s (what.SetLevel threshold) texts h = h
made_texts s (what.Confirm n) texts h = h
made_texts s (what.Cancel n) texts h = h
made_texts s (what.Rebuild op key) texts h = h
made_texts s (what.Pause w) texts h = h
made_texts s (what.Resume w) texts h = h
made_texts s (what.Rate pool client rate) texts h = h
made_texts s (what.Take w) texts h = h
made_texts s (what.Finish n x) texts h = h

-- ---- the whole

module _ (s : CoreState) (e : Event) (t : CoreState) (r : Done) (is : step s e ≡ Accepted t r) (lawful : IsEngineLawful s) where
  pub delta_storable : IsProperWhat e.what → SetsTexts e.what → IfSome r.delta.put HasRowTexts → AreTextsStorable r.delta
  delta_storable proper sets stores =
      let a = accepted_so s e t r is lawful.invariant.bounded.rows in
      let u : CoreState = at_time s e.at in
      let limits = lawful.bounds.limits in
      let after = bounds_through_steps s e t r is proper lawful.bounds in
      let named = subst (λ (o : Option Row). IfSome o IsNamed) (sym a.put) (stored_named u limits.ops e.what (jobs_declared s s.jobs lawful.bounds.jobs) lawful.invariant.bounded.rows a.passes) in
      let short = row_put IsRowShort t.rows r.delta.put (with_void r.delta.void s.rows) a.rows after.proper.rows in
      record {
        input = subst (λ (o : Option (List ℕ × List ℕ)). IfSome o IsInputStorable) (sym a.input) (input_storable u e.what limits.inputs a.passes proper sets);
        row = row_texts r.delta.put named short stores;
      }

  pub inputs_have_texts : SetsTexts e.what → HaveTexts s.inputs → HaveTexts t.inputs
  inputs_have_texts sets texts =
      let a = accepted_so s e t r is lawful.invariant.bounded.rows in
      subst HaveTexts (sym a.inputs) (made_texts (at_time s e.at) e.what sets texts)
