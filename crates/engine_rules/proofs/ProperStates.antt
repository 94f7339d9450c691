-- Values and texts stay within the bounds.
use Rattle.std.proofs.Common.{◌≡◌, inl, inr, ℕ, zero, suc, ◌≤◌, ◌-◌, Bool, true, false, List, [], ◌∷◌, ◌++◌, map, length, take, Option, Some, None, is_some, Result, Ok, Err, refl, ap, sym, ◌∙◌, subst, arith}
use Rattle.std.proofs.lemmas.Bool.{cond_both, ltb-false}
use Rattle.std.proofs.lemmas.Fmt.{length-decimal-le_succ}
use Rattle.std.proofs.lemmas.List.{length-append}
use Rattle.std.specs.Prelude.{◌==◌, ◌&&◌, ◌||◌, codes, if◌then◌else◌, is_ok, nat_lt, slice_get, slice_set, IfSome}
use Rattle.std.specs.Fmt.{decimal}
use Rattle.std.specs.FinMap.{get, get-insert, get-remove}
use Rattle.std.specs.Io.BufRead.{ends_with_byte, strip_last}
use Rattle.std.specs.List.{AllByRecursion}
use Rattle.std.specs.Ordering.{eq_by_cmp}
use Rattle.std.specs.Str.{bytes_eq, is_utf8}
use Rattle.value_core.specs.Reading.{text_read}
use Rattle.value_core.specs.Texts.{no_nul}
use Rattle.value_core.specs.declared.text.TextFault.TheVariants as fault
use Rattle.value_core.specs.declared.value.Kind.{Kind}
use Rattle.value_core.specs.declared.value.Value.{Value}
use Rattle.value_core.specs.declared.state.Triple.{Triple}
use Rattle.op_keys.specs.declared.declarations.OpDecl.{OpDecl}
use Rattle.op_keys.specs.declared.level.Level.{Level}
use Rattle.op_keys.specs.declared.order.Exit.{Exit}
use Rattle.op_keys.specs.declared.order.Exit.TheVariants as exit
use Rattle.term_core.specs.Limits.{IsInputWithin, IsWithinLimits}
use Rattle.term_core.specs.Soundness.{IsSound, node_kinds}
use Rattle.value_core.specs.Kinds.{literal_kind}
use Rattle.term_core.specs.declared.entries.Entry.{Entry}
use Rattle.term_core.specs.declared.entries.Entry.TheVariants as entry
use Rattle.term_core.specs.declared.program.InputDecl.{InputDecl}
use Rattle.term_core.specs.declared.program.Program.{Program}
use Rattle.term_check.specs.Bounds.{AreProperInputs, AreProperStates, HasShortEntries, IsProper, IsShortEntry}
use Rattle.term_check.proofs.Proper.{states_have_their_kinds}
use Rattle.sched_rows.specs.declared.row.Row.{Row}
use Rattle.sched_rows.specs.RowKeys.{RowKey, key_of, row_key, row_key_cmp, row_key_cmp_total}
use Rattle.sched_rows.specs.Rows.{Rows, mark_found, marked}
use Rattle.sched_rows.specs.Validity.{valid}
use Rattle.core_rules.specs.declared.events.Event.{Event}
use Rattle.core_rules.specs.declared.events.What.{What}
use Rattle.core_rules.specs.declared.events.What.TheVariants as what
use Rattle.core_rules.specs.declared.jobs.Job.{Job}
use Rattle.core_rules.specs.declared.jobs.Mark.{Mark}
use Rattle.core_rules.specs.declared.jobs.Mark.TheVariants.{Unmarked, Automatic, User}
use Rattle.core_rules.specs.Changes.{cancelled_row, input_index, row_by, takes}
use Rattle.core_rules.specs.Core.{CoreState, expiry_of, is_latched, is_output, job_numbered, op_of}
use Rattle.core_rules.specs.Entries.{entry_by, entry_in, job_of, known, outcome, row_of, states, world}
use Rattle.core_rules.specs.Exits.{code_outcome, exit_outcome, text_outcome}
use Rattle.core_rules.specs.Openings.{Durable, opened, or_declared, start, stored_at}
use Rattle.core_rules.specs.Orders.{result_text}
use Rattle.core_rules.specs.declared.done.Done.{Done}
use Rattle.core_rules.specs.Settling.{wanted}
use Rattle.core_rules.specs.Steps.{Accepted, at_time, step}
use Rattle.core_rules.proofs.Moves.{accepts}
use Rattle.core_rules.proofs.Settling.{same_settled}
use Rattle.core_rules.specs.declared.own.RowChange.{RowChange}
use Rattle.core_rules.specs.declared.own.RowChange.TheVariants as row
use Rattle.engine_rules.specs.declared.tests.Tested.TheVariants as tested
use Rattle.engine_rules.specs.Edits.{cancelled_rows, edit_of, edited, inputs_made, left_row, left_rows, pick_job, taken_rows}
use Rattle.core_rules.specs.Own.{rows_made}
use Rattle.engine_rules.specs.Proper.{AreRowsShort, IsRowShort, IsByteExit, IsLight, IsProperCore, IsProperDurable, IsProperWhat}
use Rattle.engine_rules.specs.Reached.{IsTripleWithin}
use Rattle.engine_rules.specs.Tests.{input_test, test_of}
use Rattle.engine_rules.proofs.Edited.{change_made, own_untouched, unless_passes}
use Rattle.engine_rules.proofs.LiteralInputs.{declared_proper}
use Rattle.engine_rules.proofs.TouchedTriples.{row_found}
use Rattle.core_rules.specs.declared.events.Refusal.TheVariants as refusal
use Rattle.value_core.proofs.Basics.{cond_is}

-- ---- entries are short

outcome_short : (r : Row) → length r.result ≤ 65536 → IsShortEntry (outcome r)
outcome_short r h = elim r.fine as (λ b. IsShortEntry (if b then entry.Fine r.result else entry.Bad r.result)) [ true ↦ h | false ↦ h ]

short_by : (s : CoreState) (d : Option OpDecl) (o : Option Job) (q : Option Row) → ((r : Row) → q ≡ Some r → length r.result ≤ 65536) → IsShortEntry (entry_by s d o q)
short_by s d (Some j) (Some r) h = cond_both (is_latched d) _ _ IsShortEntry (λ _. outcome_short r (h r refl)) (λ _. tt)
short_by s d (Some j) None h = tt
short_by s d None (Some r) h = cond_both (valid (expiry_of d) s.now r || is_latched d) _ _ IsShortEntry (λ _. outcome_short r (h r refl)) (λ _. tt)
short_by s d None None h = tt

entry_short : (s : CoreState) (t : Triple) → AreRowsShort s.rows → IsShortEntry (entry_in s t)
entry_short s t h = short_by s (op_of s t.op) (job_of s.jobs t) (row_of s t) (λ r e. let f = row_found s t r (op_of s t.op) refl e in (h (row_key f.0.name t.key) r f.2).result)

all_short : (s : CoreState) (ts : List Triple) → AreRowsShort s.rows → AllByRecursion (λ (e : Triple × Entry). IsShortEntry e.1) (map (λ t. (t, entry_in s t)) ts)
all_short s [] h = tt
all_short s (t ∷ ts) h = (entry_short s t h, all_short s ts h)

pub world_short : (s : CoreState) → AreRowsShort s.rows → HasShortEntries (world s)
world_short s h = all_short s (known s) h

pub states_are_proper : (s : CoreState) (kinds : List Kind) → IsSound s.program → node_kinds s.program ≡ Some kinds → IsProperCore s → AreProperStates kinds (states s)
states_are_proper s kinds sound k h = states_have_their_kinds s.program kinds s.inputs (world s) sound k h.inputs (world_short s h.rows)

-- ---- inputs

set_proper : (ds : List InputDecl) (vs : List Value) (n : ℕ) (d : InputDecl) (v : Value) → AreProperInputs ds vs → slice_get ds n ≡ Some d → IsProper (literal_kind d.value) v → AreProperInputs ds (slice_set vs n v)
set_proper [] [] n d v h e p = let z : ⊥ = cc in absurd z
set_proper [] (w ∷ vs) n d v h e p = absurd h
set_proper (x ∷ ds) [] n d v h e p = absurd h
set_proper (x ∷ ds) (w ∷ vs) zero d v h e p = let same : x ≡ d = cc in (subst (λ (y : InputDecl). IsProper (literal_kind y.value) v) (sym same) p, h.1)
set_proper (x ∷ ds) (w ∷ vs) (suc n) d v h e p = (h.0, set_proper ds vs n d v h.1 e p)

taken_proper : (d : InputDecl) (v : Value) → takes d v ≡ true → IsLight v → IsProper (literal_kind d.value) v
taken_proper d v t l = record { of_kind = t; bounded = l.bounded; light = l.light }

set_input_proper : (s : CoreState) (name : List ℕ) (v : Value) (o : Option InputDecl) → slice_get s.program.inputs (input_index s name) ≡ o → input_test o v ≡ tested.Passes → IsLight v → AreProperInputs s.program.inputs s.inputs →
    AreProperInputs s.program.inputs (slice_set s.inputs (input_index s name) v)
set_input_proper s name v None is t l h = let z : ⊥ = cc in absurd z
set_input_proper s name v (Some d) is t l h = set_proper s.program.inputs s.inputs (input_index s name) d v h is (taken_proper d v (unless_passes refusal.WrongKind (takes d v) t) l)

inputs_proper : (s : CoreState) (w : What) → test_of s w ≡ tested.Passes → IsProperWhat w → AreProperInputs s.program.inputs s.inputs → AreProperInputs s.program.inputs (inputs_made (edit_of s w).input s.inputs)
inputs_proper s (what.SetInput name v) t p h = set_input_proper s name v (slice_get s.program.inputs (input_index s name)) refl t p h
inputs_proper s what.Tick t p h = h
inputs_proper s (what.SetLevel threshold) t p h = h
inputs_proper s (what.Confirm n) t p h = h
inputs_proper s (what.Cancel n) t p h = h
inputs_proper s (what.Rebuild op key) t p h = h
inputs_proper s (what.Pause k) t p h = h
inputs_proper s (what.Resume k) t p h = h
inputs_proper s (what.Rate pool client rate) t p h = h
inputs_proper s (what.Take k) t p h = h
inputs_proper s (what.Finish n x) t p h = h

-- ---- results

take_short : (n : ℕ) (xs : List ℕ) → length (take n xs) ≤ length xs
take_short zero xs = omega arith
take_short (suc n) [] = omega arith
take_short (suc n) (x ∷ xs) = let h = take_short n xs in omega (arith, h)

strip_short : (xs : List ℕ) → length (strip_last 10 xs) ≤ length xs
strip_short xs = cond_both (ends_with_byte 10 xs) (take (length xs - 1) xs) xs (λ ys. length ys ≤ length xs) (λ _. take_short (length xs - 1) xs) (λ _. omega arith)

-- a result or message within the limit
abbrev IsShortResult : Result (List ℕ) (List ℕ) → Type 0
IsShortResult (Ok t) = length t ≤ 65536
IsShortResult (Err m) = length m ≤ 65536

text_short : (output : List ℕ) → IsShortResult (text_outcome (text_read output))
text_short output = elim (nat_lt 65536 (length output)) as (λ b. nat_lt 65536 (length output) ≡ b →
    IsShortResult (text_outcome (if b then Err (fault.TooLarge (length output)) else (if is_utf8 output && no_nul output then Ok (strip_last 10 output) else Err fault.NotText)))) [
      | true ↦ λ e. omega arith
      | false ↦ λ e. cond_both (is_utf8 output && no_nul output) (Ok (strip_last 10 output)) (Err fault.NotText) (λ r. IsShortResult (text_outcome r))
          (λ _. let a = strip_short output in let b = ltb-false 65536 (length output) e in omega (arith, a, b)) (λ _. omega arith)
    ] refl

code_short : (code : Option ℕ) (output : List ℕ) → IsByteExit (exit.Ended code output) → IsShortResult (code_outcome code output)
code_short None output h = omega arith
code_short (Some n) output h = cond_both (n == 0) (text_outcome (text_read output)) (Err (codes "exit " ++ decimal n)) IsShortResult (λ _. text_short output)
    (λ _. let a = length-append (codes "exit ") (decimal n) in let b = length-decimal-le_succ n (omega (arith, h)) in omega (arith, a, b, h))

exit_short : (x : Exit) → IsByteExit x → IsShortResult (exit_outcome x)
exit_short exit.Fault h = omega arith
exit_short (exit.Ended code output) h = cond_both (nat_lt 65536 (length output)) (Err (codes "output too large")) (code_outcome code output) IsShortResult (λ _. omega arith) (λ _. code_short code output h)

text_of_short : (d : Option OpDecl) (o : Result (List ℕ) (List ℕ)) → IsShortResult o → length (result_text d o) ≤ 65536
text_of_short d (Ok t) h = cond_both (is_output d) [] t (λ x. length x ≤ 65536) (λ _. omega arith) (λ _. h)
text_of_short d (Err m) h = h

-- ---- rows

-- the key and the value of a triple have at most 65,536 bytes
record IsTripleShort (t : Triple) : Type 0 where
  key : length t.key ≤ 65536
  value : length t.value ≤ 65536

-- a job with such a triple, if there is one
abbrev IsJobShort : Option Job → Type 0
IsJobShort o = IfSome o (λ (j : Job). IsTripleShort j.triple)

job_short : (p : Program) (js : List Job) (n : ℕ) (o : Option Job) → AllByRecursion (λ (j : Job). IsTripleWithin p j.triple) js → job_numbered js n ≡ o → IsJobShort o
job_short p js n None h e = tt
job_short p [] n (Some j) h e = let z : ⊥ = cc in absurd z
job_short p (i ∷ js) n (Some j) h e = elim (cond_is {A = Option Job} (i.number == n) (Some i) (job_numbered js n) (Some j) e) [
  | inl f ↦ let same : i ≡ j = (let g = f.1 in cc) in subst (λ (x : Job). IsTripleShort x.triple) same (record { key = h.0.wantable.key; value = h.0.wantable.value })
  | inr f ↦ job_short p js n (Some j) h.1 f.1
]

-- a row that is put is short
abbrev PutShort : RowChange → Type 0
PutShort (row.Put r) = IsRowShort r
PutShort c = Unit {0}

-- a row of a job is as short as its result
by_short : (s : CoreState) (j : Job) (fine : Bool) (result : List ℕ) → IsTripleShort j.triple → length result ≤ 65536 → PutShort (row.Put (row_by s j fine result))
by_short s j fine result t h = record { key = t.key; value = t.value; result = h }

rows_short : (c : RowChange) (rows : Rows) → PutShort c → AreRowsShort rows → AreRowsShort (rows_made c rows)
rows_short row.None rows p h = h
rows_short (row.Put q) rows p h = λ k r e. elim (cond_is {A = Option Row} (eq_by_cmp row_key_cmp k (key_of q)) (Some q) (get rows k) (Some r) (sym (get-insert row_key_cmp_total rows (key_of q) q k) ∙ e)) [
  | inl i ↦ let same : q ≡ r = (let f = i.1 in cc) in subst IsRowShort same p
  | inr i ↦ h k r i.1
]
rows_short (row.Void op key) rows p h = λ k r e. elim (cond_is {A = Option Row} (eq_by_cmp row_key_cmp k (row_key op key)) None (get rows k) (Some r) (sym (get-remove row_key_cmp_total rows (row_key op key) k) ∙ e)) [
  | inl i ↦ let z : ⊥ = (let f = i.1 in cc) in absurd z
  | inr i ↦ h k r i.1
]
rows_short (row.Mark op key) rows p h = marked_short (row_key op key) (get rows (row_key op key)) refl
  where
    marked_row : (q : Row) → IsRowShort q → IsRowShort (marked q)
    marked_row q i = record { key = i.key; value = i.value; result = i.result }

    marked_short : (at : RowKey) (o : Option Row) → get rows at ≡ o → AreRowsShort (mark_found at o rows)
    marked_short at None is = h
    marked_short at (Some q) is = λ k r e. elim (cond_is {A = Option Row} (eq_by_cmp row_key_cmp k at) (Some (marked q)) (get rows k) (Some r) (sym (get-insert row_key_cmp_total rows at (marked q) k) ∙ e)) [
      | inl i ↦ let same : marked q ≡ r = (let f = i.1 in cc) in subst IsRowShort same (marked_row q (h at q is))
      | inr i ↦ h k r i.1
    ]

cancelled_short : (s : CoreState) (o : Option Job) → IsJobShort o → PutShort (cancelled_rows s o)
cancelled_short s None t = tt
cancelled_short s (Some j) t = cond_both (is_some j.worker) row.None (row.Put (cancelled_row s j)) PutShort (λ _. tt) (λ _. by_short s j false (codes "cancelled") t (omega arith))

taken_short : (s : CoreState) (o : Option Job) → PutShort (taken_rows s o)
taken_short s None = tt
taken_short s (Some j) = cond_both (is_output (op_of s j.triple.op)) _ _ PutShort (λ _. tt) (λ _. tt)

left_short : (s : CoreState) (j : Job) (x : Exit) (m : Mark) → IsTripleShort j.triple → IsByteExit x → PutShort (left_row m s j x)
left_short s j x Automatic t h = tt
left_short s j x User t h = by_short s j false (codes "cancelled") t (omega arith)
left_short s j x Unmarked t h = let o : Result (List ℕ) (List ℕ) = exit_outcome x in by_short s j (is_ok o) (result_text (op_of s j.triple.op) o) t (text_of_short (op_of s j.triple.op) o (exit_short x h))

ended_short : (s : CoreState) (o : Option Job) (x : Exit) → IsJobShort o → IsByteExit x → PutShort (left_rows s o x)
ended_short s None x t h = tt
ended_short s (Some j) x t h = left_short s j x j.mark t h

put_short : (p : Program) (s : CoreState) (w : What) → AllByRecursion (λ (j : Job). IsTripleWithin p j.triple) s.jobs → IsProperWhat w → PutShort (edit_of s w).row
put_short p s (what.SetInput name v) b h = tt
put_short p s what.Tick b h = tt
put_short p s (what.SetLevel threshold) b h = tt
put_short p s (what.Confirm n) b h = tt
put_short p s (what.Cancel n) b h = cancelled_short s (job_numbered s.jobs n) (job_short p s.jobs n (job_numbered s.jobs n) b refl)
put_short p s (what.Rebuild op key) b h = tt
put_short p s (what.Pause k) b h = tt
put_short p s (what.Resume k) b h = tt
put_short p s (what.Rate pool client rate) b h = tt
put_short p s (what.Take k) b h = taken_short s (pick_job s k)
put_short p s (what.Finish n x) b h = ended_short s (job_numbered s.jobs n) x (job_short p s.jobs n (job_numbered s.jobs n) b refl) h

-- ---- steps and openings

pub proper_through_steps : (s : CoreState) (e : Event) (s' : CoreState) (r : Done) → step s e ≡ Accepted s' r → AllByRecursion (λ (j : Job). IsTripleWithin s.program j.triple) s.jobs → IsProperWhat e.what → IsProperCore s → IsProperCore s'
proper_through_steps s e s' r h b p k =
    let a = accepts s e s' r h in
    let u : CoreState = at_time s e.at in
    let d = edit_of u e.what in
    let made = change_made u e.what a.own a.changed in
    let same = same_settled (wanted a.own.state) a.own.state a.after a.settled in
    let own : edited d u ≡ a.own.state = ap (λ c. c.state) made.1 in
    let program : s'.program ≡ s.program = ap (λ z. z.program) a.new ∙ same.program ∙ sym (ap (λ z. z.program) own) ∙ (own_untouched u d.own).program in
    let inputs : s'.inputs ≡ inputs_made d.input s.inputs = ap (λ z. z.inputs) a.new ∙ same.inputs ∙ sym (ap (λ z. z.inputs) own) in
    let rows : s'.rows ≡ rows_made d.row s.rows = ap (λ z. z.rows) a.new ∙ same.rows ∙ sym (ap (λ z. z.rows) own) in
    record {
      inputs = subst (λ (q : Program). AreProperInputs q.inputs s'.inputs) (sym program) (subst (AreProperInputs s.program.inputs) (sym inputs) (inputs_proper u e.what made.0 p k.inputs));
      rows = subst AreRowsShort (sym rows) (rows_short d.row s.rows (put_short s.program u e.what b p) k.rows);
    }

stored_light : (es : List (List ℕ × Value)) (name : List ℕ) (v : Value) → AllByRecursion (λ (e : List ℕ × Value). IsLight e.1) es → stored_at es name ≡ Some v → IsLight v
stored_light [] name v h e = let z : ⊥ = cc in absurd z
stored_light (x ∷ es) name v h e = elim (cond_is {A = Option Value} (bytes_eq x.0 name) (Some x.1) (stored_at es name) (Some v) e) [
  | inl i ↦ let same : x.1 ≡ v = (let f = i.1 in cc) in subst IsLight same h.0
  | inr i ↦ stored_light es name v h.1 i.1
]

opened_one : (es : List (List ℕ × Value)) (d : InputDecl) (o : Option Value) → AllByRecursion (λ (e : List ℕ × Value). IsLight e.1) es → stored_at es d.name ≡ o → IsInputWithin d → IsProper (literal_kind d.value) (or_declared d o)
opened_one es d None h is w = declared_proper d w
opened_one es d (Some v) h is w = elim (takes d v) as (λ b. takes d v ≡ b → IsProper (literal_kind d.value) (if b then v else d.value)) [
  | true ↦ λ t. taken_proper d v t (stored_light es d.name v h is)
  | false ↦ λ t. declared_proper d w
] refl

opened_inputs : (es : List (List ℕ × Value)) (ds : List InputDecl) → AllByRecursion (λ (e : List ℕ × Value). IsLight e.1) es → AllByRecursion IsInputWithin ds → AreProperInputs ds (map (λ d. or_declared d (stored_at es d.name)) ds)
opened_inputs es [] h w = tt
opened_inputs es (d ∷ ds) h w = (opened_one es d (stored_at es d.name) h refl w.0, opened_inputs es ds h w.1)

pub proper_at_opening : (program : Program) (durable : Durable) (threshold : Option Level) (reading : ℕ) (s : CoreState) → IsWithinLimits program → IsProperDurable durable →
    start program durable threshold reading ≡ Some s → IsProperCore s
unfolding start
proper_at_opening program durable threshold reading s limits d e =
    let o : CoreState = opened program durable threshold reading in
    let same = same_settled (wanted o) o s e in
    record {
      inputs = subst (λ (q : Program). AreProperInputs q.inputs s.inputs) (sym same.program) (subst (AreProperInputs program.inputs) (sym same.inputs) (opened_inputs durable.inputs program.inputs d.inputs limits.inputs));
      rows = subst AreRowsShort (sym same.rows) d.rows;
    }
