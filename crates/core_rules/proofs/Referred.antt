-- Each queued job has a reference, and each running one without one is marked or goes on.
use Rattle.std.proofs.Common.{◌≡◌, ℕ, ◌+◌, Bool, true, false, not, ◌&&◌, ◌||◌, List, [], ◌∷◌, map, Some, is_some, refl, ap, sym, ◌∙◌, subst}
use Rattle.std.proofs.lemmas.Bool.{cond_both, and_parts, ltb-true, or_left}
use Rattle.std.specs.Prelude.{filter, nat_lt}
use Rattle.std.specs.List.{AllByRecursion}
use Rattle.value_core.specs.declared.state.Triple.{Triple}
use Rattle.core_rules.proofs.Helpers.{all_filter, all_push, filter_passes}
use Rattle.core_rules.proofs.Moves.{accepts}
use Rattle.core_rules.proofs.Settling.{count_wanted, counted_first, counted_later, kept_by_creating_each, settled_fresh, wanted_same}
use Rattle.core_rules.specs.Core.{CoreState, goes_on, op_of}
use Rattle.core_rules.specs.Entries.{refs, wants}
use Rattle.core_rules.specs.Laws.{IsReferred, IsReferredBy}
use Rattle.core_rules.specs.declared.done.Done.{Done}
use Rattle.core_rules.specs.Settling.{dropped, is_lost, is_unmarked, is_value, lost_marked, mark_lost, new_job, settle, settle_for, stays, target, targets, wanted}
use Rattle.term_core.specs.Counts.{is_wanted}
use Rattle.core_rules.specs.Steps.{Accepted, step}
use Rattle.core_rules.specs.declared.events.Event.{Event}
use Rattle.core_rules.specs.declared.jobs.Job.{Job}

abbrev pub accounted : List Triple → CoreState → Job → Bool
accounted ws s j = is_wanted ws j.triple || (is_some j.worker && (not (is_unmarked j.mark) || goes_on (op_of s j.triple.op)))

abbrev pub AllAccounted : List Triple → CoreState → List Job → Type 0
AllAccounted ws s js = AllByRecursion (λ j. accounted ws s j ≡ true) js

-- ---- what stays and is marked

by_marks : (a w u r : Bool) → (w || a) ≡ true → (w && (not a && (u && not r))) ≡ false → (a || (w && (not u || r))) ≡ true
by_marks true w u r p q = refl
by_marks false false u r p q = let z : ⊥ = cc in absurd z
by_marks false true true true p q = refl
by_marks false true true false p q = let z : ⊥ = cc in absurd z
by_marks false true false r p q = refl

now_marked : (a w r : Bool) → w ≡ true → (a || (w && (true || r))) ≡ true
now_marked true w r e = refl
now_marked false w r e = ap (λ b. b && (true || r)) e

accounted_mark : (ws : List Triple) (s : CoreState) (j : Job) → stays ws j ≡ true → accounted ws s (mark_lost ws s j) ≡ true
accounted_mark ws s j k = cond_both {A = Job} (is_lost ws s j) _ _ (λ i. accounted ws s i ≡ true)
    (λ e. now_marked (is_wanted ws j.triple) (is_some j.worker) (goes_on (op_of s j.triple.op)) (and_parts (is_some j.worker) (not (is_wanted ws j.triple) && (is_unmarked j.mark && not (goes_on (op_of s j.triple.op)))) e).0)
    (λ e. by_marks (is_wanted ws j.triple) (is_some j.worker) (is_unmarked j.mark) (goes_on (op_of s j.triple.op)) k e)

accounted_marks : (ws : List Triple) (s : CoreState) (js : List Job) → AllByRecursion (λ j. stays ws j ≡ true) js → AllAccounted ws s (map (mark_lost ws s) js)
accounted_marks ws s [] h = tt
accounted_marks ws s (j ∷ js) h = (accounted_mark ws s j h.0, accounted_marks ws s js h.1)

-- ---- targets are wanted

abbrev AllWanted : List Triple → List Triple → Type 0
AllWanted ws ts = AllByRecursion (λ t. is_wanted ws t ≡ true) ts

wanted_later : (u : Triple) (ws ts : List Triple) → AllWanted ws ts → AllWanted (u ∷ ws) ts
wanted_later u ws [] h = tt
wanted_later u ws (t ∷ ts) h = (counted_later t u ws h.0, wanted_later u ws ts h.1)

wanted_itself : (ws : List Triple) → AllWanted ws ws
wanted_itself [] = tt
wanted_itself (t ∷ ts) = (counted_first t ts, wanted_later t ts ts (wanted_itself ts))

pub targets_wanted : (ws : List Triple) (js : List Job) → AllWanted ws (targets ws js)
targets_wanted ws js = all_filter (λ t. is_wanted ws t ≡ true) (λ t. is_value (target ws js t.op t.key) t.value) ws (wanted_itself ws)

-- ---- settling

pub accounted_settled : (ws : List Triple) (s s' : CoreState) → settle_for ws s ≡ Some s' → AllAccounted ws s' s'.jobs
accounted_settled ws s s' e = kept_by_creating_each (λ z. AllAccounted ws z z.jobs) (λ t. is_wanted ws t ≡ true)
    (λ z u _ _ w p. all_push (λ j. accounted ws z j ≡ true) z.jobs (new_job z.next u) p (or_left (is_wanted ws u) _ w))
    (lost_marked ws (dropped ws s)) s' (targets ws s.jobs) e (targets_wanted ws s.jobs) (accounted_marks ws (dropped ws s) (filter (stays ws) s.jobs) (filter_passes (stays ws) s.jobs))

-- ---- in words

queued_by : (a w u r : Bool) → (a || (w && (not u || r))) ≡ true → w ≡ false → a ≡ true
queued_by true w u r h e = refl
queued_by false true u r h e = let z : ⊥ = cc in absurd z
queued_by false false u r h e = h

running_by : (a w u r : Bool) → (a || (w && (not u || r))) ≡ true → a ≡ false → r ≡ false → u ≡ false
running_by true w u r h e k = let z : ⊥ = cc in absurd z
running_by false true true true h e k = let z : ⊥ = cc in absurd z
running_by false true true false h e k = let z : ⊥ = cc in absurd z
running_by false true false r h e k = refl
running_by false false u r h e k = let z : ⊥ = cc in absurd z

is_referred : (s : CoreState) (j : Job) → accounted (wants s) s j ≡ true → IsReferred s j
is_referred s j h = record {
  queued = λ e. ltb-true 0 (refs s j.triple) (count_wanted (wants s) j.triple ∙ queued_by (is_wanted (wants s) j.triple) (is_some j.worker) (is_unmarked j.mark) (goes_on (op_of s j.triple.op)) h e);
  running = λ w e k. running_by (is_wanted (wants s) j.triple) (is_some j.worker) (is_unmarked j.mark) (goes_on (op_of s j.triple.op)) h (sym (count_wanted (wants s) j.triple) ∙ ap (nat_lt 0) e) k;
}

referred_by : (ws : List Triple) (s : CoreState) (j : Job) → accounted ws s j ≡ true → IsReferredBy ws s.program j
referred_by ws s j h = record {
  queued = queued_by (is_wanted ws j.triple) (is_some j.worker) (is_unmarked j.mark) (goes_on (op_of s j.triple.op)) h;
  running = λ w e k. running_by (is_wanted ws j.triple) (is_some j.worker) (is_unmarked j.mark) (goes_on (op_of s j.triple.op)) h e k;
}

all_referred_by : (ws : List Triple) (s : CoreState) (js : List Job) → AllAccounted ws s js → AllByRecursion (IsReferredBy ws s.program) js
all_referred_by ws s [] h = tt
all_referred_by ws s (j ∷ js) h = (referred_by ws s j h.0, all_referred_by ws s js h.1)

-- what is handed in as wanted accounts for the jobs after settling
pub settling_refers : (ws : List Triple) (s s' : CoreState) → settle_for ws s ≡ Some s' → AllByRecursion (IsReferredBy ws s'.program) s'.jobs
settling_refers ws s s' e = all_referred_by ws s' s'.jobs (accounted_settled ws s s' e)

abbrev pub AllReferred : CoreState → List Job → Type 0
AllReferred s js = AllByRecursion (IsReferred s) js

all_referred : (s : CoreState) (js : List Job) → AllAccounted (wants s) s js → AllReferred s js
all_referred s [] h = tt
all_referred s (j ∷ js) h = (is_referred s j h.0, all_referred s js h.1)

all_like : (ws us : List Triple) (s : CoreState) (js : List Job) → ((t : Triple) → is_wanted us t ≡ is_wanted ws t) → AllAccounted ws s js → AllAccounted us s js
all_like ws us s [] e h = tt
all_like ws us s (j ∷ js) e h = (ap (λ b. b || (is_some j.worker && (not (is_unmarked j.mark) || goes_on (op_of s j.triple.op)))) (e j.triple) ∙ h.0, all_like ws us s js e h.1)

accounted_after : (s s' : CoreState) → settle s ≡ Some s' → AllAccounted (wants s') s' s'.jobs
accounted_after s s' e = subst (λ ws. AllAccounted ws s' s'.jobs) (sym (ap (λ f. f.wants) (settled_fresh s s' e)))
    (all_like (wanted s) (wants s) s' s'.jobs (λ t. sym (wanted_same (wants s) t)) (accounted_settled (wanted s) s s' e))

pub referred_settled : (s s' : CoreState) → settle s ≡ Some s' → AllReferred s' s'.jobs
referred_settled s s' e = all_referred s' s'.jobs (accounted_after s s' e)

-- the version plays no part in it
versioned : (s : CoreState) (v : ℕ) → AllAccounted (wants s) s s.jobs → AllReferred (record s { version = v }) s.jobs
versioned s v h = all_referred (record s { version = v }) s.jobs h

pub referred_step : (s : CoreState) (e : Event) (s' : CoreState) (r : Done) → step s e ≡ Accepted s' r → AllReferred s' s'.jobs
referred_step s e s' r h =
    let a = accepts s e s' r h in
    subst (λ z. AllReferred z z.jobs) (sym a.new) (versioned a.after (s.version + 1) (accounted_after a.own.state a.after a.settled))
