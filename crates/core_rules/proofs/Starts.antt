-- Each started job was ready and was the pick.
use Rattle.std.proofs.Common.{◌≡◌, ℕ, Bool, true, false, cond, ◌||◌, inl, inr, List, [], ◌∷◌, Option, Some, None, is_some, refl, ap, sym, ◌∙◌, subst}
use Rattle.std.proofs.lemmas.Bool.{cond_both, and_parts, eqb-true}
use Rattle.std.specs.Prelude.{filter, if◌then◌else◌, option_map, nat_lt, ◌==◌, length, slice_get}
use Rattle.std.specs.List.{AllByRecursion}
use Rattle.std.specs.FinMap.{get}
use Rattle.value_core.specs.declared.value.Value.{Value}
use Rattle.value_core.specs.declared.state.Stage.{Stage}
use Rattle.value_core.specs.declared.state.Stage.TheVariants.{Ready, Waiting, Running}
use Rattle.core_rules.proofs.Helpers.{filter_passes}
use Rattle.core_rules.proofs.Moves.{accepts}
use Rattle.core_rules.specs.Changes.{Change, Idles, Makes, Refuses, Tried, cancel, confirm, confirm_at, input_index, pause, rebuild, rebuild_free, rebuild_row, set_input, set_rate, takes}
use Rattle.core_rules.specs.Core.{CoreState, job_numbered, layout_of, may_start, op_of, stage, when_allowed}
use Rattle.core_rules.specs.Laws.{IsStart}
use Rattle.core_rules.specs.Orders.{finish, finish_by, is_ready, is_ready_job, load, order_for, picked, ready, take_job, take_pick}
use Rattle.core_rules.specs.declared.done.Done.{Done}
use Rattle.core_rules.specs.Settling.{is_unmarked, live_on}
use Rattle.core_rules.specs.Steps.{Accepted, at_time, change, step}
use Rattle.core_rules.specs.declared.events.Event.{Event}
use Rattle.core_rules.specs.declared.events.Refusal.{Refusal}
use Rattle.core_rules.specs.declared.events.What.{What}
use Rattle.core_rules.specs.declared.jobs.Job.{Job}
use Rattle.core_rules.specs.declared.jobs.Mark.{Mark}
use Rattle.core_rules.specs.declared.jobs.Mark.TheVariants.{Automatic, Unmarked, User}
use Rattle.core_rules.specs.declared.notes.Ending.{Ending}
use Rattle.core_rules.specs.declared.notes.Note.{Note}
use Rattle.fair_pool.specs.Fair.{comes_before, eligible, is_full, is_paused, is_standing, least, least_from}
use Rattle.fair_pool.specs.Layouts.{worker_pool}
use Rattle.fair_pool.specs.Sound.{is_rate}
use Rattle.fair_pool.specs.declared.ticket.Ticket.{Ticket}
use Rattle.op_keys.specs.declared.order.Exit.{Exit}
use Rattle.op_keys.specs.declared.order.Order.{Order}
use Rattle.sched_rows.specs.RowKeys.{RowKey, row_key}
use Rattle.sched_rows.specs.declared.row.Row.{Row}
use Rattle.term_core.specs.declared.program.InputDecl.{InputDecl}
use Rattle.core_rules.specs.declared.notes.Note.TheVariants as note
use Rattle.core_rules.specs.declared.events.What.TheVariants as what
use Rattle.value_core.proofs.Basics.{cond_is}

-- ---- the pick is one of the eligible tickets

least_from_one : (P : Ticket → Type 0) (k : Ticket) (ks : List Ticket) → P k → AllByRecursion P ks → P (least_from k ks)
least_from_one P k [] p h = p
least_from_one P k (l ∷ ls) p h = least_from_one P (if comes_before l k then l else k) ls (cond_both (comes_before l k) l k P (λ _. h.0) (λ _. p)) h.1

least_one : (P : Ticket → Type 0) (ks : List Ticket) (n : ℕ) → AllByRecursion P ks → option_map (λ k. k.job) (least ks) ≡ Some n → (k : Ticket) × P k × (k.job ≡ n)
least_one P [] n h e = let z : ⊥ = cc in absurd z
least_one P (k ∷ ks) n h e = (least_from k ks, least_from_one P k ks h.0 h.1, cc)

pub pick_ready : (s : CoreState) (w n : ℕ) → picked s w ≡ Some n → ready s n ≡ true
pick_ready s w n h =
    let test : Ticket → Bool = eligible (layout_of s.program) s.fair (ready s) (load s.jobs) s.now w in
    elim (cond_is {A = Option ℕ} (is_paused s.fair w || is_full (layout_of s.program) (load s.jobs) w) None (option_map (λ k. k.job) (least (filter test s.fair.tickets))) (Some n) h) [
      | inl i ↦ let z : ⊥ = (let f = i.1 in cc) in absurd z
      | inr i ↦
          let k = least_one (λ k. test k ≡ true) (filter test s.fair.tickets) n (filter_passes test s.fair.tickets) i.1 in
          subst (λ m. ready s m ≡ true) k.2 (and_parts (ready s k.0.job) _ (and_parts (is_standing (ready s) (worker_pool (layout_of s.program) (slice_get s.program.workers w)) k.0) _ k.1).0).0
    ]

-- ---- what a ready job is

pub stage_ready : (g : Stage) → is_ready g ≡ true → g ≡ Ready
stage_ready Ready e = refl
stage_ready Waiting e = let z : ⊥ = cc in absurd z
stage_ready Running e = let z : ⊥ = cc in absurd z

allowed_by : (w b : Bool) → (if w then Running else when_allowed b) ≡ Ready → (w ≡ false) × (b ≡ true)
allowed_by true b e = let z : ⊥ = cc in absurd z
allowed_by false true e = (refl, refl)
allowed_by false false e = let z : ⊥ = cc in absurd z

pub number_found : (js : List Job) (n : ℕ) (j : Job) → job_numbered js n ≡ Some j → j.number ≡ n
number_found [] n j e = let z : ⊥ = cc in absurd z
number_found (i ∷ js) n j e = elim (i.number == n) as (λ b. (i.number == n) ≡ b → cond b (Some i) (job_numbered js n) ≡ Some j → j.number ≡ n) [
  | true ↦ λ is k. let same : i ≡ j = cc in subst (λ x. x.number ≡ n) same (eqb-true i.number n is)
  | false ↦ λ is k. number_found js n j k
] refl e

abbrev Starts : CoreState → Tried → Type 0
Starts s x = (c : Change) (o : Order) → x ≡ Makes c → c.note ≡ note.Started o → IsStart s o

barred : (s : CoreState) (r : Refusal) → Starts s (Refuses r)
barred s r c o e k = let z : ⊥ = cc in absurd z

idles : (s : CoreState) (n : Note) → Starts s (Idles n)
idles s n c o e k = let z : ⊥ = cc in absurd z

-- a change with another note
silent : (s : CoreState) (x : Change) → ((o : Order) → x.note ≡ note.Started o → ⊥) → Starts s (Makes x)
silent s x h c o e k = let is : x ≡ c = cc in absurd (h o (ap (λ z. z.note) is ∙ k))

no_plain : (o : Order) → note.Plain ≡ note.Started o → ⊥
no_plain o e = cc

no_end : (n : ℕ) (d : Ending) (o : Order) → note.Ended n d ≡ note.Started o → ⊥
no_end n d o e = cc

if_starts : (s : CoreState) (b : Bool) (x y : Tried) → Starts s x → Starts s y → Starts s (if b then x else y)
if_starts s true x y p q = p
if_starts s false x y p q = q

set_input_starts : (s : CoreState) (name : List ℕ) (v : Value) (place : ℕ) (o : Option InputDecl) → Starts s (set_input s name v place o)
set_input_starts s name v place None = barred s _
set_input_starts s name v place (Some d) = if_starts s (takes d v) _ _ (silent s _ no_plain) (barred s _)

confirm_starts : (s : CoreState) (o : Option Job) → Starts s (confirm s o)
confirm_starts s None = barred s _
confirm_starts s (Some j) = elim (stage s j) as (λ g. Starts s (confirm_at s j g)) [ Ready ↦ barred s _ | Waiting ↦ silent s _ no_plain | Running ↦ barred s _ ]

cancel_starts : (s : CoreState) (o : Option Job) → Starts s (cancel s o)
cancel_starts s None = barred s _
cancel_starts s (Some j) = if_starts s (is_unmarked j.mark) _ _ (if_starts s (is_some j.worker) _ _ (silent s _ no_plain) (silent s _ no_plain)) (barred s _)

rebuild_row_starts : (s : CoreState) (k : RowKey) (o : Option Row) → Starts s (rebuild_row s k o)
rebuild_row_starts s k None = barred s _
rebuild_row_starts s k (Some r) = silent s _ no_plain

rebuild_free_starts : (s : CoreState) (k : RowKey) (o : Option Job) → Starts s (rebuild_free s k o)
rebuild_free_starts s k (Some j) = barred s _
rebuild_free_starts s k None = rebuild_row_starts s k (get s.rows k)

rebuild_starts : (s : CoreState) (name key : List ℕ) (o : Option ℕ) → Starts s (rebuild s name key o)
rebuild_starts s name key None = barred s _
rebuild_starts s name key (Some op) = rebuild_free_starts s (row_key name key) (live_on s.jobs op key)

pause_starts : (b : Bool) (s : CoreState) (o : Option ℕ) → Starts s (pause b s o)
pause_starts b s None = barred s _
pause_starts b s (Some w) = silent s _ no_plain

set_rate_starts : (s : CoreState) (rate : ℕ) (o : Option ℕ) → Starts s (set_rate s rate o)
set_rate_starts s rate None = barred s _
set_rate_starts s rate (Some c) = if_starts s (is_rate rate) _ _ (silent s _ no_plain) (barred s _)

finish_by_starts : (m : Mark) (s : CoreState) (j : Job) (x : Exit) → Starts s (finish_by m s j x)
finish_by_starts Automatic s j x = silent s _ (no_end j.number _)
finish_by_starts User s j x = silent s _ (no_end j.number _)
finish_by_starts Unmarked s j x = silent s _ (no_end j.number _)

finish_starts : (s : CoreState) (o : Option Job) (x : Exit) → Starts s (finish s o x)
finish_starts s None x = idles s _
finish_starts s (Some j) x = if_starts s (is_some j.worker) _ _ (finish_by_starts j.mark s j x) (idles s _)

order_same : (p o : Order) (x c : Change) → Makes x ≡ Makes c → c.note ≡ note.Started o → x.note ≡ note.Started p → p ≡ o
order_same p o x c e k n = let is : x ≡ c = cc in let notes : x.note ≡ c.note = ap (λ z. z.note) is in cc

take_job_starts : (s : CoreState) (w n : ℕ) (p : Option Job) → picked s w ≡ Some n → job_numbered s.jobs n ≡ p → Starts s (take_job s w p)
take_job_starts s w n None p is = idles s _
take_job_starts s w n (Some j) p is = λ c o e k.
    let number = number_found s.jobs n j is in
    let able : is_ready (stage s j) ≡ true = ap (is_ready_job s) (sym is) ∙ pick_ready s w n p in
    let good = stage_ready (stage s j) able in
    let allowed = allowed_by (is_some j.worker) (may_start s.threshold (op_of s j.triple.op) || j.confirmed) good in
    let same = order_same (order_for s w j) o _ c e k refl in
    subst (IsStart s) same (record {
      is_pick = subst (λ m. picked s w ≡ Some m) (sym number) p;
      job = j;
      found = subst (λ m. job_numbered s.jobs m ≡ Some j) (sym number) is;
      order = refl;
      was_ready = good;
      free = allowed.0;
      allowed = allowed.1;
    })

take_pick_starts : (s : CoreState) (w : ℕ) (o : Option ℕ) → picked s w ≡ o → Starts s (take_pick s w o)
take_pick_starts s w None p = idles s _
take_pick_starts s w (Some n) p = take_job_starts s w n (job_numbered s.jobs n) p refl

change_starts : (s : CoreState) (w : What) → Starts s (change s w)
change_starts s (what.SetInput name v) = set_input_starts s name v (input_index s name) _
change_starts s what.Tick = silent s _ no_plain
change_starts s (what.SetLevel threshold) = silent s _ no_plain
change_starts s (what.Confirm n) = confirm_starts s (job_numbered s.jobs n)
change_starts s (what.Cancel n) = cancel_starts s (job_numbered s.jobs n)
change_starts s (what.Rebuild op key) = rebuild_starts s op key _
change_starts s (what.Pause w) = pause_starts true s _
change_starts s (what.Resume w) = pause_starts false s _
change_starts s (what.Rate pool client rate) = set_rate_starts s rate _
change_starts s (what.Take w) = if_starts s (nat_lt w (length s.program.workers)) _ _ (take_pick_starts s w (picked s w) refl) (barred s _)
change_starts s (what.Finish n x) = finish_starts s (job_numbered s.jobs n) x

pub started : (s : CoreState) (e : Event) (s' : CoreState) (r : Done) (o : Order) → step s e ≡ Accepted s' r → r.note ≡ note.Started o → IsStart (at_time s e.at) o
started s e s' r o h k =
    let a = accepts s e s' r h in
    change_starts (at_time s e.at) e.what a.own o a.changed (sym (ap (λ z. z.note) a.reply) ∙ k)
