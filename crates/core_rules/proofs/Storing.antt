-- What a step stores makes the stored part of the new state.
use Rattle.std.proofs.Common.{◌≡◌, ℕ, zero, suc, ◌+◌, Bool, true, false, List, [], ◌∷◌, map, Option, Some, None, is_some, refl, ap, sym, ◌∙◌, arith}
use Rattle.std.specs.Prelude.{if◌then◌else◌, length, nat_lt, slice_get, slice_set}
use Rattle.std.specs.FinMap.{get, insert, remove}
use Rattle.std.specs.Str.{bytes_eq}
use Rattle.value_core.specs.declared.state.Stage.{Stage}
use Rattle.value_core.specs.declared.state.Stage.TheVariants.{Ready, Waiting, Running}
use Rattle.value_core.specs.declared.value.Value.{Value}
use Rattle.value_core.specs.Printed.{printed}
use Rattle.op_keys.specs.declared.order.Exit.{Exit}
use Rattle.op_keys.specs.Names.{index_named}
use Rattle.op_keys.proofs.Indices.{index_from}
use Rattle.term_core.specs.declared.program.InputDecl.{InputDecl}
use Rattle.fair_pool.specs.Sound.{is_rate}
use Rattle.sched_rows.specs.declared.row.Row.{Row}
use Rattle.sched_rows.specs.RowKeys.{RowKey, row_key}
use Rattle.sched_rows.specs.Rows.{marked}
use Rattle.core_rules.specs.declared.done.Done.{Done}
use Rattle.core_rules.specs.declared.events.Event.{Event}
use Rattle.core_rules.specs.declared.events.What.{What}
use Rattle.core_rules.specs.declared.events.What.TheVariants as what
use Rattle.core_rules.specs.declared.jobs.Job.{Job}
use Rattle.core_rules.specs.declared.jobs.Mark.{Mark}
use Rattle.core_rules.specs.declared.jobs.Mark.TheVariants.{Automatic, Unmarked, User}
use Rattle.core_rules.specs.declared.notes.Ending.{Ending}
use Rattle.core_rules.specs.Bounds.{AreRowsKeyed}
use Rattle.core_rules.specs.Changes.{Change, Tried, cancel, cancelled_row, confirm, confirm_at, input_index, pause, rebuild, rebuild_free, rebuild_row, set_input, set_rate, takes}
use Rattle.core_rules.specs.Core.{CoreState, is_output, job_numbered, op_of, op_name, stage}
use Rattle.core_rules.specs.Entries.{key_for}
use Rattle.core_rules.specs.Orders.{finish, finish_by, leave, picked, take_by, take_job, take_pick, void_of, voided}
use Rattle.core_rules.specs.Settling.{is_unmarked, live_on, wanted}
use Rattle.core_rules.specs.Steps.{Accepted, at_time, change, step}
use Rattle.core_rules.specs.Stored.{durable, named_values, printed_values, replaced, stored, with_delta, with_input, with_put, with_void}
use Rattle.core_rules.proofs.Moves.{accepts}
use Rattle.core_rules.proofs.Settling.{same_settled}
use Rattle.core_rules.proofs.Trying.{Holds, barred, either, idles, makes}
use Rattle.value_core.proofs.Basics.{bytes_same}

-- what an own change stores makes its inputs and rows
pub record OwnStores (s : CoreState) (c : Change) : Type 0 where
  pub inputs : with_input c.delta.input (printed_values (named_values s.program.inputs s.inputs)) ≡ printed_values (named_values c.state.program.inputs c.state.inputs)
  pub rows : with_put c.delta.put (with_void c.delta.void s.rows) ≡ c.state.rows

abbrev Stores : CoreState → Tried → Type 0
Stores s x = Holds (OwnStores s) x

-- no input, and these rows
stores_rows : (s : CoreState) (c : Change) (put : Option Row) (void : Option (List ℕ × List ℕ)) → c.delta.input ≡ None → c.delta.put ≡ put → c.delta.void ≡ void →
    c.state.program ≡ s.program → c.state.inputs ≡ s.inputs → c.state.rows ≡ with_put put (with_void void s.rows) → OwnStores s c
stores_rows s c put void i p v program inputs rows = record {
  inputs = (λ k. with_input (i k) (printed_values (named_values s.program.inputs s.inputs))) ∙ sym (λ k. printed_values (named_values (program k).inputs (inputs k)));
  rows = (λ k. with_put (p k) (with_void (v k) s.rows)) ∙ sym rows;
}

-- an input alone
stores_input : (s : CoreState) (c : Change) (e : List ℕ × List ℕ) → c.delta.input ≡ Some e → c.delta.put ≡ None → c.delta.void ≡ None → c.state.program ≡ s.program → c.state.rows ≡ s.rows →
    replaced e (printed_values (named_values s.program.inputs s.inputs)) ≡ printed_values (named_values s.program.inputs c.state.inputs) → OwnStores s c
stores_input s c e i p v program rows inputs = record {
  inputs = (λ k. with_input (i k) (printed_values (named_values s.program.inputs s.inputs))) ∙ inputs ∙ sym (λ k. printed_values (named_values (program k).inputs c.state.inputs));
  rows = (λ k. with_put (p k) (with_void (v k) s.rows)) ∙ sym rows;
}

alone : (s : CoreState) (c : Change) → c.delta.input ≡ None → c.delta.put ≡ None → c.delta.void ≡ None → c.state.program ≡ s.program → c.state.inputs ≡ s.inputs → c.state.rows ≡ s.rows → OwnStores s c
alone s c i p v program inputs rows = stores_rows s c None None i p v program inputs rows

-- ---- inputs

named_set : (at k : ℕ) (ds : List InputDecl) (vs : List Value) (name : List ℕ) (v : Value) → index_named at (map (λ d. d.name) ds) name ≡ at + k →
    replaced (name, printed v) (printed_values (named_values ds vs)) ≡ printed_values (named_values ds (slice_set vs k v))
named_set at k [] vs name v e = refl
named_set at k (d ∷ ds) [] name v e = refl
named_set at zero (d ∷ ds) (x ∷ vs) name v e = elim (bytes_eq d.name name) as (λ b. bytes_eq d.name name ≡ b → (if b then at else index_named (at + 1) (map (λ d. d.name) ds) name) ≡ at + 0 →
    (if b then ((name, printed v) ∷ printed_values (named_values ds vs)) else ((d.name, printed x) ∷ replaced (name, printed v) (printed_values (named_values ds vs)))) ≡ (d.name, printed v) ∷ printed_values (named_values ds vs)) [
      | true ↦ λ is _. ap (λ n. (n, printed v) ∷ printed_values (named_values ds vs)) (sym (bytes_same d.name name is))
      | false ↦ λ _ f. let h = index_from (at + 1) (map (λ d. d.name) ds) name in absurd (omega arith)
    ] refl e
named_set at (suc k) (d ∷ ds) (x ∷ vs) name v e = elim (bytes_eq d.name name) as (λ b. bytes_eq d.name name ≡ b → (if b then at else index_named (at + 1) (map (λ d. d.name) ds) name) ≡ at + suc k →
    (if b then ((name, printed v) ∷ printed_values (named_values ds vs)) else ((d.name, printed x) ∷ replaced (name, printed v) (printed_values (named_values ds vs)))) ≡ (d.name, printed x) ∷ printed_values (named_values ds (slice_set vs k v))) [
      | true ↦ λ _ f. absurd (omega arith)
      | false ↦ λ _ f. let g : index_named (at + 1) (map (λ d. d.name) ds) name ≡ (at + 1) + k = omega arith in ap (λ es. (d.name, printed x) ∷ es) (named_set (at + 1) k ds vs name v g)
    ] refl e

set_input_stores : (s : CoreState) (name : List ℕ) (v : Value) (o : Option InputDecl) → Stores s (set_input s name v (input_index s name) o)
set_input_stores s name v None = barred (OwnStores s) _
set_input_stores s name v (Some d) = either (OwnStores s) (takes d v) _ _
    (makes (OwnStores s) _ (stores_input s _ (name, printed v) refl refl refl refl refl (named_set 0 (input_index s name) s.program.inputs s.inputs name v (omega arith)))) (barred (OwnStores s) _)

-- ---- jobs that are confirmed or cancelled

confirm_at_stores : (s : CoreState) (j : Job) (g : Stage) → Stores s (confirm_at s j g)
confirm_at_stores s j Ready = barred (OwnStores s) _
confirm_at_stores s j Running = barred (OwnStores s) _
confirm_at_stores s j Waiting = makes (OwnStores s) _ (alone s _ refl refl refl refl refl refl)

confirm_stores : (s : CoreState) (o : Option Job) → Stores s (confirm s o)
confirm_stores s None = barred (OwnStores s) _
confirm_stores s (Some j) = confirm_at_stores s j (stage s j)

cancel_stores : (s : CoreState) (o : Option Job) → Stores s (cancel s o)
cancel_stores s None = barred (OwnStores s) _
cancel_stores s (Some j) = either (OwnStores s) (is_unmarked j.mark) _ _
    (either (OwnStores s) (is_some j.worker) _ _ (makes (OwnStores s) _ (alone s _ refl refl refl refl refl refl)) (makes (OwnStores s) _ (stores_rows s _ (Some (cancelled_row s j)) None refl refl refl refl refl refl))) (barred (OwnStores s) _)

-- ---- rows

rebuild_row_stores : (s : CoreState) (k : RowKey) (o : Option Row) → AreRowsKeyed s.rows → get s.rows k ≡ o → Stores s (rebuild_row s k o)
rebuild_row_stores s k None keyed is = barred (OwnStores s) _
rebuild_row_stores s k (Some r) keyed is = makes (OwnStores s) _ (stores_rows s _ (Some (marked r)) None refl refl refl refl refl (sym (ap (λ q. insert s.rows q (marked r)) (keyed k r is).0)))

rebuild_free_stores : (s : CoreState) (k : RowKey) (o : Option Job) → AreRowsKeyed s.rows → Stores s (rebuild_free s k o)
rebuild_free_stores s k (Some j) keyed = barred (OwnStores s) _
rebuild_free_stores s k None keyed = rebuild_row_stores s k (get s.rows k) keyed refl

rebuild_stores : (s : CoreState) (name key : List ℕ) (o : Option ℕ) → AreRowsKeyed s.rows → Stores s (rebuild s name key o)
rebuild_stores s name key None keyed = barred (OwnStores s) _
rebuild_stores s name key (Some op) keyed = rebuild_free_stores s (row_key name key) (live_on s.jobs op key) keyed

-- ---- workers and clients

pause_stores : (b : Bool) (s : CoreState) (o : Option ℕ) → Stores s (pause b s o)
pause_stores b s None = barred (OwnStores s) _
pause_stores b s (Some w) = makes (OwnStores s) _ (alone s _ refl refl refl refl refl refl)

set_rate_stores : (s : CoreState) (rate : ℕ) (o : Option ℕ) → Stores s (set_rate s rate o)
set_rate_stores s rate None = barred (OwnStores s) _
set_rate_stores s rate (Some c) = either (OwnStores s) (is_rate rate) _ _ (makes (OwnStores s) _ (alone s _ refl refl refl refl refl refl)) (barred (OwnStores s) _)

-- ---- taking

void_stores : (s : CoreState) (j : Job) → with_void (void_of s j.triple) s.rows ≡ voided s j.triple
void_stores s j = elim (is_output (op_of s j.triple.op)) as (λ b. with_void (if b then Some (op_name (op_of s j.triple.op), j.triple.key) else None) s.rows ≡ (if b then remove s.rows (key_for s j.triple) else s.rows)) [
  | true ↦ refl
  | false ↦ refl
]

take_job_stores : (s : CoreState) (w : ℕ) (o : Option Job) → Stores s (take_job s w o)
take_job_stores s w None = idles (OwnStores s) _
take_job_stores s w (Some j) = makes (OwnStores s) _ (stores_rows s _ None (void_of s j.triple) refl refl refl refl refl (sym (void_stores s j)))

take_pick_stores : (s : CoreState) (w : ℕ) (o : Option ℕ) → Stores s (take_pick s w o)
take_pick_stores s w None = idles (OwnStores s) _
take_pick_stores s w (Some n) = take_job_stores s w (job_numbered s.jobs n)

take_stores : (s : CoreState) (w : ℕ) → Stores s (take_by s w)
take_stores s w = either (OwnStores s) (nat_lt w (length s.program.workers)) _ _ (take_pick_stores s w (picked s w)) (barred (OwnStores s) _)

-- ---- the end of a job

leave_stores : (s : CoreState) (j : Job) (r : Row) (e : Ending) (log : List ℕ) → Stores s (leave s j r e log)
leave_stores s j r e log = makes (OwnStores s) _ (stores_rows s _ (Some r) None refl refl refl refl refl refl)

finish_by_stores : (m : Mark) (s : CoreState) (j : Job) (x : Exit) → Stores s (finish_by m s j x)
finish_by_stores Automatic s j x = makes (OwnStores s) _ (alone s _ refl refl refl refl refl refl)
finish_by_stores User s j x = leave_stores s j _ _ _
finish_by_stores Unmarked s j x = leave_stores s j _ _ _

finish_stores : (s : CoreState) (o : Option Job) (x : Exit) → Stores s (finish s o x)
finish_stores s None x = idles (OwnStores s) _
finish_stores s (Some j) x = either (OwnStores s) (is_some j.worker) _ _ (finish_by_stores j.mark s j x) (idles (OwnStores s) _)

-- ---- steps

pub change_stores : (s : CoreState) (w : What) → AreRowsKeyed s.rows → Stores s (change s w)
change_stores s (what.SetInput name v) keyed = set_input_stores s name v (slice_get s.program.inputs (input_index s name))
change_stores s what.Tick keyed = makes (OwnStores s) _ (alone s _ refl refl refl refl refl refl)
change_stores s (what.SetLevel threshold) keyed = makes (OwnStores s) _ (alone s _ refl refl refl refl refl refl)
change_stores s (what.Confirm n) keyed = confirm_stores s (job_numbered s.jobs n)
change_stores s (what.Cancel n) keyed = cancel_stores s (job_numbered s.jobs n)
change_stores s (what.Rebuild op key) keyed = rebuild_stores s op key _ keyed
change_stores s (what.Pause w) keyed = pause_stores true s _
change_stores s (what.Resume w) keyed = pause_stores false s _
change_stores s (what.Rate pool client rate) keyed = set_rate_stores s rate _
change_stores s (what.Take w) keyed = take_stores s w
change_stores s (what.Finish n x) keyed = finish_stores s (job_numbered s.jobs n) x

pub steps_store : (s : CoreState) (e : Event) (s' : CoreState) (r : Done) → AreRowsKeyed s.rows → step s e ≡ Accepted s' r → stored (durable s') ≡ with_delta r.delta (stored (durable s))
steps_store s e s' r keyed h =
    let a = accepts s e s' r h in
    let own = change_stores (at_time s e.at) e.what keyed a.own a.changed in
    let same = same_settled (wanted a.own.state) a.own.state a.after a.settled in
    let inputs = (λ i. printed_values (named_values (same.program i).inputs (same.inputs i))) ∙ sym own.inputs in
    let rows = same.rows ∙ sym own.rows in
    ap (λ z. stored (durable z)) a.new
    ∙ (λ i. record { inputs = inputs i; rows = rows i; next = a.after.next })
    ∙ sym (ap (λ (q : Done). with_delta q.delta (stored (durable s))) a.reply)
