-- No event's own change uses up numbers, and none but a set input changes the inputs.
use Rattle.std.proofs.Common.{◌≡◌, ℕ, zero, suc, Bool, true, false, List, [], ◌∷◌, refl}
use Rattle.std.specs.Prelude.{if◌then◌else◌, is_some, nat_lt, slice_set}
use Rattle.std.specs.FinMap.{get}
use Rattle.std.specs.List.{AllByRecursion}
use Rattle.std.specs.declared.option.Option.{Option}
use Rattle.std.specs.declared.option.Option.TheVariants.{None, Some}
use Rattle.value_core.specs.declared.state.Stage.{Stage}
use Rattle.value_core.specs.declared.state.Stage.TheVariants.{Ready, Waiting, Running}
use Rattle.value_core.specs.declared.value.Value.{Value}
use Rattle.op_keys.specs.declared.order.Exit.{Exit}
use Rattle.term_core.specs.declared.program.InputDecl.{InputDecl}
use Rattle.sched_rows.specs.declared.row.Row.{Row}
use Rattle.sched_rows.specs.RowKeys.{RowKey, row_key}
use Rattle.fair_pool.specs.Sound.{is_rate}
use Rattle.core_rules.specs.Changes.{Tried, Refuses, Idles, Makes, cancel, cancel_queued, cancel_running, client_named, confirm, confirm_at, input_index, op_named, pause, rebuild, rebuild_free, rebuild_row, set_input, set_rate, takes, worker_named}
use Rattle.core_rules.specs.Core.{CoreState, job_numbered, stage}
use Rattle.core_rules.specs.Orders.{finish, finish_by, picked, take_job, take_pick}
use Rattle.core_rules.specs.Settling.{is_unmarked, live_on}
use Rattle.core_rules.specs.Steps.{change}
use Rattle.core_rules.specs.declared.events.What.{What}
use Rattle.core_rules.specs.declared.events.What.TheVariants as what
use Rattle.core_rules.specs.declared.jobs.Job.{Job}
use Rattle.core_rules.specs.declared.jobs.Mark.{Mark}
use Rattle.core_rules.specs.declared.jobs.Mark.TheVariants.{Unmarked, Automatic, User}
use Rattle.report_text.specs.Lines.{refusal_words}
use Rattle.made_session.proofs.FewWants.{IsFew}

-- inputs with few items
abbrev pub AreFew : List Value → Type 0
AreFew = AllByRecursion IsFew

-- a refusal has words, and a change leaves inputs with few items
abbrev pub IsFewAfter : Tried → Type 0
IsFewAfter (Refuses r) = is_some (refusal_words r) ≡ true
IsFewAfter (Idles n) = Unit {0}
IsFewAfter (Makes c) = AreFew c.state.inputs

-- what sets no input to a value with more
abbrev pub SetsFew : What → Type 0
SetsFew (what.SetInput name v) = IsFew v
SetsFew w = Unit {0}

either : (b : Bool) (x y : Tried) → IsFewAfter x → IsFewAfter y → IsFewAfter (if b then x else y)
either true x y h k = h
either false x y h k = k

few_set : (vs : List Value) (i : ℕ) (v : Value) → AreFew vs → IsFew v → AreFew (slice_set vs i v)
few_set [] i v few one = tt
few_set (u ∷ vs) zero v few one = (one, few.1)
few_set (u ∷ vs) (suc i) v few one = (few.0, few_set vs i v few.1 one)

module _ (s : CoreState) (few : AreFew s.inputs) where
  set_few : (name : List ℕ) (v : Value) (place : ℕ) (o : Option InputDecl) → IsFew v → IsFewAfter (set_input s name v place o)
  set_few name v place None one = refl
  set_few name v place (Some d) one = either (takes d v) _ _ (few_set s.inputs place v few one) refl

  confirm_few_at : (j : Job) (g : Stage) → IsFewAfter (confirm_at s j g)
  confirm_few_at j Waiting = few
  confirm_few_at j Ready = refl
  confirm_few_at j Running = refl

  confirm_few : (o : Option Job) → IsFewAfter (confirm s o)
  confirm_few None = refl
  confirm_few (Some j) = confirm_few_at j (stage s j)

  cancel_few : (o : Option Job) → IsFewAfter (cancel s o)
  cancel_few None = refl
  cancel_few (Some j) = either (is_unmarked j.mark) _ _ (either (is_some j.worker) (cancel_running s j) (cancel_queued s j) few few) refl

  rebuild_row_few : (k : RowKey) (o : Option Row) → IsFewAfter (rebuild_row s k o)
  rebuild_row_few k None = refl
  rebuild_row_few k (Some r) = few

  rebuild_free_few : (k : RowKey) (o : Option Job) → IsFewAfter (rebuild_free s k o)
  rebuild_free_few k (Some j) = refl
  rebuild_free_few k None = rebuild_row_few k (get s.rows k)

  rebuild_few : (name key : List ℕ) (o : Option ℕ) → IsFewAfter (rebuild s name key o)
  rebuild_few name key None = refl
  rebuild_few name key (Some op) = rebuild_free_few (row_key name key) (live_on s.jobs op key)

  pause_few : (paused : Bool) (o : Option ℕ) → IsFewAfter (pause paused s o)
  pause_few paused None = refl
  pause_few paused (Some w) = few

  rate_few : (rate : ℕ) (o : Option ℕ) → IsFewAfter (set_rate s rate o)
  rate_few rate None = refl
  rate_few rate (Some c) = either (is_rate rate) _ _ few refl

  take_job_few : (w : ℕ) (o : Option Job) → IsFewAfter (take_job s w o)
  take_job_few w None = tt
  take_job_few w (Some j) = few

  take_pick_few : (w : ℕ) (o : Option ℕ) → IsFewAfter (take_pick s w o)
  take_pick_few w None = tt
  take_pick_few w (Some n) = take_job_few w (job_numbered s.jobs n)

  finish_by_few : (m : Mark) (j : Job) (x : Exit) → IsFewAfter (finish_by m s j x)
  finish_by_few Automatic j x = few
  finish_by_few User j x = few
  finish_by_few Unmarked j x = few

  finish_few : (o : Option Job) (x : Exit) → IsFewAfter (finish s o x)
  finish_few None x = tt
  finish_few (Some j) x = either (is_some j.worker) _ _ (finish_by_few j.mark j x) tt

  pub change_few : (w : What) → SetsFew w → IsFewAfter (change s w)
  change_few (what.SetInput name v) one = set_few name v (input_index s name) _ one
  change_few what.Tick one = few
  change_few (what.SetLevel threshold) one = few
  change_few (what.Confirm n) one = confirm_few (job_numbered s.jobs n)
  change_few (what.Cancel n) one = cancel_few (job_numbered s.jobs n)
  change_few (what.Rebuild op key) one = rebuild_few op key (op_named s op)
  change_few (what.Pause w) one = pause_few true (worker_named s w)
  change_few (what.Resume w) one = pause_few false (worker_named s w)
  change_few (what.Rate pool client rate) one = rate_few rate (client_named s pool client)
  change_few (what.Take w) one = either (nat_lt w _) _ _ (take_pick_few w (picked s w)) refl
  change_few (what.Finish n x) one = finish_few (job_numbered s.jobs n) x
