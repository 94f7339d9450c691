-- Replies by the state before it is settled, and the notes of steps.
use Rattle.std.proofs.Common.{◌≡◌, ℕ, ◌+◌, ◌-◌, ◌^◌, Bool, true, false, List, [], ◌∷◌, Option, Some, None, is_some, refl, ap, sym, ◌∙◌, subst}
use Rattle.std.specs.Prelude.{◌==◌, ◌||◌, if◌then◌else◌, slice_get, nat_lt, length}
use Rattle.std.specs.Option.{option_map}
use Rattle.value_core.specs.declared.state.Stage.{Stage}
use Rattle.value_core.specs.declared.state.Stage.TheVariants.{Ready, Waiting, Running}
use Rattle.value_core.specs.declared.state.Triple.{Triple}
use Rattle.value_core.specs.declared.value.Value.{Value}
use Rattle.op_keys.specs.declared.level.Level.{Level}
use Rattle.term_core.specs.Laws.{Agree}
use Rattle.term_core.specs.World.{World, entry_of}
use Rattle.value_core.specs.Orders.{same_triple}
use Rattle.term_core.specs.declared.program.InputDecl.{InputDecl}
use Rattle.term_core.specs.declared.program.Program.{Program}
use Rattle.fair_pool.specs.Sound.{is_rate}
use Rattle.core_rules.specs.declared.events.Event.{Event}
use Rattle.core_rules.specs.declared.events.Refusal.{Refusal}
use Rattle.core_rules.specs.declared.events.Refusal.TheVariants as refusal
use Rattle.core_rules.specs.declared.events.What.{What}
use Rattle.core_rules.specs.declared.events.What.TheVariants as what
use Rattle.core_rules.specs.declared.jobs.Job.{Job}
use Rattle.core_rules.specs.declared.jobs.Mark.{Mark}
use Rattle.core_rules.specs.declared.notes.Note.{Note}
use Rattle.core_rules.specs.declared.notes.Note.TheVariants as note
use Rattle.op_keys.specs.declared.order.Exit.{Exit}
use Rattle.core_rules.specs.Changes.{Change, client_named, input_index, op_named, takes, worker_named}
use Rattle.core_rules.specs.Core.{CoreState, job_numbered, stage}
use Rattle.core_rules.specs.Entries.{fresh_of, wants, world}
use Rattle.core_rules.specs.Openings.{Durable, opened, opening_reply, start}
use Rattle.core_rules.specs.Replies.{changed_from, new_conflicts, next_alone, with_numbers}
use Rattle.core_rules.specs.declared.done.Done.{Done}
use Rattle.core_rules.specs.Settling.{is_unmarked, newly_marked, settle, wanted}
use Rattle.term_core.specs.Counts.{is_wanted}
use Rattle.core_rules.specs.Steps.{Refused, Idle, Accepted, at_time, idle_reply, reply_of, settled_answer, step}
use Rattle.core_rules.proofs.Entries.{world_entry}
use Rattle.core_rules.proofs.Invariant.{version_rises}
use Rattle.core_rules.proofs.Moves.{accepts}
use Rattle.core_rules.proofs.Settling.{agree_on, settle_for_keeps, settled_fresh, wanted_same}
use Rattle.engine_rules.specs.declared.tests.Tested.{Tested}
use Rattle.engine_rules.specs.declared.tests.Tested.TheVariants as tested
use Rattle.engine_rules.specs.Answers.{IdlesBy, is_idle, opening_before, reply_before}
use Rattle.engine_rules.specs.Edits.{change_of, end_note, note_of, pick_job, start_note}
use Rattle.engine_rules.specs.Tests.{answered, cancel_test, confirm_test, finish_test, input_test, rate_test, rebuild_test, runs, take_test, test_of, unless}
use Rattle.engine_rules.proofs.Edited.{answers_by_tests, change_made, take_passes}
use Rattle.value_core.proofs.Basics.{triple_same}

-- ---- replies

pub replies_before : (s : CoreState) (c : Change) (after : CoreState) → settle c.state ≡ Some after → reply_of s c after ≡ reply_before s c after.next
replies_before s c after e =
    let f = settled_fresh c.state after e in
    λ i. record {
      note = c.note;
      version = s.version + 1;
      changed = changed_from 0 (fresh_of s).states (f i).states;
      conflicts = new_conflicts (fresh_of s).wants (f i).wants;
      signals = with_numbers c.marks (newly_marked (wanted c.state) c.state);
      delta = record c.delta { next = after.next };
    }

pub opening_replies_before : (program : Program) (durable : Durable) (threshold : Option Level) (reading : ℕ) (s : CoreState) →
    start program durable threshold reading ≡ Some s → opening_reply s ≡ opening_before (opened program durable threshold reading) s.next
unfolding start
opening_replies_before program durable threshold reading s e =
    let f = settled_fresh (opened program durable threshold reading) s e in
    λ i. record {
      note = note.Plain;
      version = 1;
      changed = changed_from 0 [] (f i).states;
      conflicts = new_conflicts [] (f i).wants;
      signals = [];
      delta = next_alone s.next;
    }

-- ---- worlds that agree

pub agree_at : (w v : World) (ts : List Triple) (t : Triple) → Agree w v ts → is_wanted ts t ≡ true → entry_of w t ≡ entry_of v t
agree_at w v [] t a h = let z : ⊥ = cc in absurd z
agree_at w v (u ∷ ts) t a h = elim (same_triple u t) as (λ b. same_triple u t ≡ b → (b || is_wanted ts t) ≡ true → entry_of w t ≡ entry_of v t) [
  | true ↦ λ is h. subst (λ x. entry_of w x ≡ entry_of v x) (triple_same u t is) a.0
  | false ↦ λ is h. agree_at w v ts t a.1 h
] refl h

settled_agrees : (w : World) (s s' : CoreState) → Agree (world s) w (wants s) → settle s ≡ Some s' → Agree (world s') w (wants s)
settled_agrees w s s' a e = agree_on (world s') w (wants s) (λ t h.
    world_entry s' t ∙ settle_for_keeps (wanted s) s s' t e (wanted_same (wants s) t ∙ h) ∙ sym (world_entry s t) ∙ agree_at (world s) w (wants s) t a h)

pub agreement_lasts : (w : World) (s s' : CoreState) (version : ℕ) → Agree (world s) w (wants s) → settle s ≡ Some s' → Agree (world (record s' { version = version })) w (wants (record s' { version = version }))
agreement_lasts w s s' version a e = subst (λ ts. Agree (world s') w ts) (sym (ap (λ f. f.wants) (settled_fresh s s' e))) (settled_agrees w s s' a e)

-- ---- notes of accepted events

start_news : (s : CoreState) (w : ℕ) (o : Option Job) → is_some o ≡ true → is_idle (start_note s w o) ≡ false
start_news s w None e = let z : ⊥ = cc in absurd z
start_news s w (Some j) e = refl

end_news : (n : ℕ) (o : Option Job) (x : Exit) → finish_test (runs o) ≡ tested.Passes → is_idle (end_note n o x) ≡ false
end_news n None x e = let z : ⊥ = cc in absurd z
end_news n (Some j) x e = refl

passed_news : (s : CoreState) (w : What) → test_of s w ≡ tested.Passes → is_idle (note_of s w) ≡ false
passed_news s (what.SetInput name v) e = refl
passed_news s what.Tick e = refl
passed_news s (what.SetLevel threshold) e = refl
passed_news s (what.Confirm n) e = refl
passed_news s (what.Cancel n) e = refl
passed_news s (what.Rebuild op key) e = refl
passed_news s (what.Pause w) e = refl
passed_news s (what.Resume w) e = refl
passed_news s (what.Rate pool client rate) e = refl
passed_news s (what.Take w) e = start_news s w (pick_job s w) ((take_passes (nat_lt w (length s.program.workers)) (is_some (pick_job s w)) e).1)
passed_news s (what.Finish n x) e = end_news n (job_numbered s.jobs n) x e

pub accepted_are_news : (s : CoreState) (e : Event) (s' : CoreState) (r : Done) → step s e ≡ Accepted s' r → (is_idle r.note ≡ false) × (r.version ≡ s.version + 1) × (s'.version ≡ s.version + 1)
accepted_are_news s e s' r h =
    let a = accepts s e s' r h in
    let made = change_made (at_time s e.at) e.what a.own a.changed in
    let note_is : r.note ≡ note_of (at_time s e.at) e.what = ap (λ q. q.note) a.reply ∙ sym (ap (λ c. c.note) made.1) in
    (ap is_idle note_is ∙ passed_news (at_time s e.at) e.what made.0, ap (λ q. q.version) a.reply, version_rises s e s' r h)

-- ---- notes of events that change nothing

unless_barred : (P : Type 0) (r : Refusal) (b : Bool) → (unless r b ≡ tested.Nothing → P) × (unless r b ≡ tested.Ignored → P)
unless_barred P r true = ((λ e. let z : ⊥ = cc in absurd z), (λ e. let z : ⊥ = cc in absurd z))
unless_barred P r false = ((λ e. let z : ⊥ = cc in absurd z), (λ e. let z : ⊥ = cc in absurd z))

-- a test that never says that nothing changes
abbrev Decides : Tested → Type 0
Decides t = (t ≡ tested.Nothing → ⊥) × (t ≡ tested.Ignored → ⊥)

decided : (t : Tested) (r : Refusal) → t ≡ tested.Refused r → Decides t
decided t r is = ((λ e. let z : tested.Refused r ≡ tested.Nothing = sym is ∙ e in let y : ⊥ = cc in y), (λ e. let z : tested.Refused r ≡ tested.Ignored = sym is ∙ e in let y : ⊥ = cc in y))

passes_decided : Decides tested.Passes
passes_decided = ((λ e. let z : ⊥ = cc in z), (λ e. let z : ⊥ = cc in z))

input_decided : (o : Option InputDecl) (v : Value) → Decides (input_test o v)
input_decided None v = decided (input_test None v) refusal.UnknownInput refl
input_decided (Some d) v = unless_barred ⊥ refusal.WrongKind (takes d v)

confirm_decided : (o : Option Stage) → Decides (confirm_test o)
confirm_decided None = decided (confirm_test None) refusal.UnknownJob refl
confirm_decided (Some Ready) = decided (confirm_test (Some Ready)) (refusal.NotWaiting Ready) refl
confirm_decided (Some Waiting) = passes_decided
confirm_decided (Some Running) = decided (confirm_test (Some Running)) (refusal.NotWaiting Running) refl

cancel_decided : (o : Option Mark) → Decides (cancel_test o)
cancel_decided None = decided (cancel_test None) refusal.UnknownJob refl
cancel_decided (Some m) = unless_barred ⊥ refusal.AlreadyCancelling (is_unmarked m)

rebuild_decided : (o job : Option ℕ) (b : Bool) → Decides (rebuild_test o job b)
rebuild_decided None job b = decided (rebuild_test None job b) refusal.UnknownOp refl
rebuild_decided (Some op) (Some n) b = decided (rebuild_test (Some op) (Some n) b) (refusal.Busy n) refl
rebuild_decided (Some op) None b = unless_barred ⊥ refusal.NoRow b

rate_decided : (o : Option ℕ) (rate : ℕ) → Decides (rate_test o rate)
rate_decided None rate = decided (rate_test None rate) refusal.UnknownClient refl
rate_decided (Some c) rate = unless_barred ⊥ (refusal.RateOutOfRange rate) (is_rate rate)

take_never_ignored : (b p : Bool) → take_test b p ≡ tested.Ignored → ⊥
take_never_ignored true true e = let z : ⊥ = cc in z
take_never_ignored true false e = let z : ⊥ = cc in z
take_never_ignored false p e = let z : ⊥ = cc in z

finish_never_nothing : (b : Bool) → finish_test b ≡ tested.Nothing → ⊥
finish_never_nothing true e = let z : ⊥ = cc in z
finish_never_nothing false e = let z : ⊥ = cc in z

nothing_idles : (s : CoreState) (w : What) → test_of s w ≡ tested.Nothing → IdlesBy w note.Nothing
nothing_idles s (what.SetInput name v) e = (input_decided (slice_get s.program.inputs (input_index s name)) v).0 e
nothing_idles s what.Tick e = passes_decided.0 e
nothing_idles s (what.SetLevel threshold) e = passes_decided.0 e
nothing_idles s (what.Confirm n) e = (confirm_decided (option_map (stage s) (job_numbered s.jobs n))).0 e
nothing_idles s (what.Cancel n) e = (cancel_decided (option_map (λ j. j.mark) (job_numbered s.jobs n))).0 e
nothing_idles s (what.Rebuild op key) e = (rebuild_decided (op_named s op) _ _).0 e
nothing_idles s (what.Pause w) e = (unless_barred ⊥ refusal.UnknownWorker (is_some (worker_named s w))).0 e
nothing_idles s (what.Resume w) e = (unless_barred ⊥ refusal.UnknownWorker (is_some (worker_named s w))).0 e
nothing_idles s (what.Rate pool client rate) e = (rate_decided (client_named s pool client) rate).0 e
nothing_idles s (what.Take w) e = refl
nothing_idles s (what.Finish n x) e = absurd (finish_never_nothing (runs (job_numbered s.jobs n)) e)

ignored_idles : (s : CoreState) (w : What) → test_of s w ≡ tested.Ignored → IdlesBy w note.Ignored
ignored_idles s (what.SetInput name v) e = (input_decided (slice_get s.program.inputs (input_index s name)) v).1 e
ignored_idles s what.Tick e = passes_decided.1 e
ignored_idles s (what.SetLevel threshold) e = passes_decided.1 e
ignored_idles s (what.Confirm n) e = (confirm_decided (option_map (stage s) (job_numbered s.jobs n))).1 e
ignored_idles s (what.Cancel n) e = (cancel_decided (option_map (λ j. j.mark) (job_numbered s.jobs n))).1 e
ignored_idles s (what.Rebuild op key) e = (rebuild_decided (op_named s op) _ _).1 e
ignored_idles s (what.Pause w) e = (unless_barred ⊥ refusal.UnknownWorker (is_some (worker_named s w))).1 e
ignored_idles s (what.Resume w) e = (unless_barred ⊥ refusal.UnknownWorker (is_some (worker_named s w))).1 e
ignored_idles s (what.Rate pool client rate) e = (rate_decided (client_named s pool client) rate).1 e
ignored_idles s (what.Take w) e = absurd (take_never_ignored (nat_lt w (length s.program.workers)) (is_some (pick_job s w)) e)
ignored_idles s (what.Finish n x) e = refl

settled_not_idle : (s : CoreState) (c : Change) (o : Option CoreState) (r : Done) → settled_answer s c o ≡ Idle r → ⊥
settled_not_idle s c None r h = let z : ⊥ = cc in z
settled_not_idle s c (Some t) r h = let z : ⊥ = cc in z

passed_not_idle : (s : CoreState) (c : Change) (r : Done) (b : Bool) → (if b then Refused refusal.NumbersUsed else settled_answer s c (settle c.state)) ≡ Idle r → ⊥
passed_not_idle s c r true h = let z : ⊥ = cc in z
passed_not_idle s c r false h = settled_not_idle s c (settle c.state) r h

-- what an idle answer is
abbrev IdleSo : CoreState → What → Done → Type 0
IdleSo s w r = (r ≡ idle_reply s r.note) × IdlesBy w r.note × (is_idle r.note ≡ true)

idle_so : (s : CoreState) (w : What) (r : Done) (n : Note) → Idle (idle_reply s n) ≡ Idle r → IdlesBy w n → is_idle n ≡ true → IdleSo s w r
idle_so s w r n h by idle =
    let same : idle_reply s n ≡ r = cc in
    subst (IdleSo s w) same (refl, by, idle)

answered_idle : (s : CoreState) (u : CoreState) (w : What) (c : Change) (r : Done) (t : Tested) → test_of u w ≡ t → answered s t c ≡ Idle r → IdleSo s w r
answered_idle s u w c r tested.Passes is h = absurd (passed_not_idle s c r (s.version == 2 ^ 64 - 1) h)
answered_idle s u w c r (tested.Refused f) is h = let z : ⊥ = cc in absurd z
answered_idle s u w c r tested.Nothing is h = idle_so s w r note.Nothing h (nothing_idles u w is) refl
answered_idle s u w c r tested.Ignored is h = idle_so s w r note.Ignored h (ignored_idles u w is) refl

pub idles_keep : (s : CoreState) (e : Event) (r : Done) → step s e ≡ Idle r → (r ≡ idle_reply s r.note) × IdlesBy e.what r.note × (is_idle r.note ≡ true)
idles_keep s e r h = answered_idle s (at_time s e.at) e.what (change_of (at_time s e.at) e.what) r (test_of (at_time s e.at) e.what) refl (sym (answers_by_tests s e) ∙ h)
