-- Settling changes no wanted triple's entry.
use Rattle.std.proofs.Common.{◌≡◌, ℕ, ◌+◌, ◌^◌, Bool, true, false, cond, ◌||◌, ◌⊎◌, inl, inr, List, [], ◌∷◌, ◌++◌, map, Option, Some, None, is_some, refl, ap, sym, ◌∙◌, subst, arith}
use Rattle.std.proofs.lemmas.Bool.{or_parts, cond_both, lt-ltb, or_left, or_right}
use Rattle.std.specs.List.{AllByRecursion}
use Rattle.std.specs.Prelude.{filter, option_map, if◌then◌else◌, nat_lt}
use Rattle.std.proofs.Common.{Less, Equal, Greater, zero-add}
use Rattle.std.specs.FinMap.Entries.{by_order}
use Rattle.value_core.specs.declared.state.Triple.{Triple}
use Rattle.core_rules.proofs.Entries.{world_entry}
use Rattle.core_rules.proofs.Helpers.{find-push, find-push_new, then_some, second_choice}
use Rattle.core_rules.specs.Core.{CoreState, is_latched, may_start, op_of, stage, unstarted, when_allowed}
use Rattle.core_rules.specs.Entries.{entry_by, entry_in, fresh_of, job_of, outcome, row_of, wants, world}
use Rattle.term_core.specs.Counts.{count_of}
use Rattle.core_rules.specs.Settling.{create, create_all, created, dropped, is_lost, is_served, is_valid, lost_marked, mark_lost, new_job, settle, settle_for, stays, targets, wanted}
use Rattle.term_core.specs.Counts.{in_order, is_wanted, with_triple}
use Rattle.value_core.specs.Orders.{triple_cmp}
use Rattle.core_rules.specs.declared.jobs.Job.{Job}
use Rattle.op_keys.specs.declared.declarations.OpDecl.{OpDecl}
use Rattle.sched_rows.specs.declared.row.Row.{Row}
use Rattle.term_core.proofs.Agreeing.{fresh_local}
use Rattle.term_core.specs.Fresh.{fresh}
use Rattle.term_core.specs.Laws.{Agree}
use Rattle.term_core.specs.World.{World, entry_of}
use Rattle.value_core.specs.Orders.{same_triple}
use Rattle.term_core.specs.declared.entries.Entry.TheVariants as entry
use Rattle.value_core.proofs.Basics.{triple_same, same_triples, triples_tie}

-- ---- 1. jobs that go

job_stays : (ws : List Triple) (js : List Job) (t : Triple) → is_wanted ws t ≡ true → job_of (filter (stays ws) js) t ≡ job_of js t
job_stays ws [] t w = refl
job_stays ws (j ∷ js) t w = elim (same_triple j.triple t) as (λ b. same_triple j.triple t ≡ b → job_of (cond (stays ws j) (j ∷ filter (stays ws) js) (filter (stays ws) js)) t ≡ cond b (Some j) (job_of js t)) [
  | true ↦ λ e.
      let s : stays ws j ≡ true = or_right (is_some j.worker) (is_wanted ws j.triple) (ap (is_wanted ws) (triple_same j.triple t e) ∙ w) in
      ap (λ b. job_of (cond b (j ∷ filter (stays ws) js) (filter (stays ws) js)) t) s ∙ ap (λ b. cond b (Some j) (job_of (filter (stays ws) js) t)) e
  | false ↦ λ e. cond_both (stays ws j) (j ∷ filter (stays ws) js) (filter (stays ws) js) (λ ks. job_of ks t ≡ job_of js t)
      (λ _. ap (λ b. cond b (Some j) (job_of (filter (stays ws) js) t)) e ∙ job_stays ws js t w) (λ _. job_stays ws js t w)
] refl

dropped_keeps : (ws : List Triple) (s : CoreState) (t : Triple) → is_wanted ws t ≡ true → entry_in (dropped ws s) t ≡ entry_in s t
dropped_keeps ws s t w = ap (λ o. entry_by s (op_of s t.op) o (row_of s t)) (job_stays ws s.jobs t w)

-- ---- 2. jobs that are marked

pub marked_triple : (ws : List Triple) (s : CoreState) (j : Job) → (mark_lost ws s j).triple ≡ j.triple
marked_triple ws s j = cond_both {A = Job} (is_lost ws s j) _ _ (λ k. k.triple ≡ j.triple) (λ _. refl) (λ _. refl)

pub marked_stage : (ws : List Triple) (s : CoreState) (j : Job) → stage s (mark_lost ws s j) ≡ stage s j
marked_stage ws s j = cond_both {A = Job} (is_lost ws s j) _ _ (λ k. stage s k ≡ stage s j) (λ _. refl) (λ _. refl)

job_marked : (ws : List Triple) (s : CoreState) (js : List Job) (t : Triple) → job_of (map (mark_lost ws s) js) t ≡ option_map (mark_lost ws s) (job_of js t)
job_marked ws s [] t = refl
job_marked ws s (j ∷ js) t = ap (λ u. cond (same_triple u t) (Some (mark_lost ws s j)) (job_of (map (mark_lost ws s) js) t)) (marked_triple ws s j)
    ∙ elim (same_triple j.triple t) as (λ b. cond b (Some (mark_lost ws s j)) (job_of (map (mark_lost ws s) js) t) ≡ option_map (mark_lost ws s) (cond b (Some j) (job_of js t))) [ true ↦ refl | false ↦ job_marked ws s js t ]

entry_marked : (ws : List Triple) (s : CoreState) (d : Option OpDecl) (o : Option Job) (r : Option Row) → entry_by s d (option_map (mark_lost ws s) o) r ≡ entry_by s d o r
entry_marked ws s d None r = refl
entry_marked ws s d (Some j) None = ap entry.Active (marked_stage ws s j)
entry_marked ws s d (Some j) (Some r) = ap (λ g. if is_latched d then outcome r else entry.Active g) (marked_stage ws s j)

marked_keeps : (ws : List Triple) (s : CoreState) (t : Triple) → entry_in (lost_marked ws s) t ≡ entry_in s t
marked_keeps ws s t = ap (λ o. entry_by s (op_of s t.op) o (row_of s t)) (job_marked ws s s.jobs t) ∙ entry_marked ws s (op_of s t.op) (job_of s.jobs t) (row_of s t)

-- ---- 3. jobs that are created

allowed_new : (b : Bool) → when_allowed (b || false) ≡ when_allowed b
allowed_new true = refl
allowed_new false = refl

-- a job that is new has the entry that its triple had without a valid row
entry_new : (s : CoreState) (n : ℕ) (t : Triple) (r : Option Row) → is_valid s (op_of s t.op) r ≡ false →
    entry_by s (op_of s t.op) (Some (new_job n t)) r ≡ entry_by s (op_of s t.op) None r
entry_new s n t None v = ap entry.Active (allowed_new (may_start s.threshold (op_of s t.op)))
entry_new s n t (Some r) v =
    ap (λ g. if is_latched (op_of s t.op) then outcome r else entry.Active g) (allowed_new (may_start s.threshold (op_of s t.op)))
    ∙ ap (λ b. if b || is_latched (op_of s t.op) then outcome r else entry.Active (unstarted s (op_of s t.op))) (sym v)

created_keeps : (s : CoreState) (u t : Triple) → is_served s u ≡ false → entry_in (created s u) t ≡ entry_in s t
created_keeps s u t unserved = elim (job_of s.jobs t) as (λ o. job_of s.jobs t ≡ o → entry_by s (op_of s t.op) (job_of (s.jobs ++ new_job s.next u ∷ []) t) (row_of s t) ≡ entry_by s (op_of s t.op) o (row_of s t)) [
  | Some j ↦ λ e. ap (λ o. entry_by s (op_of s t.op) o (row_of s t)) (find-push (λ j. same_triple j.triple t) s.jobs (new_job s.next u) j e)
  | None ↦ λ e. ap (λ o. entry_by s (op_of s t.op) o (row_of s t)) (find-push_new (λ j. same_triple j.triple t) s.jobs (new_job s.next u) e)
      ∙ elim (same_triple u t) as (λ b. same_triple u t ≡ b → entry_by s (op_of s t.op) (cond b (Some (new_job s.next u)) None) (row_of s t) ≡ entry_by s (op_of s t.op) None (row_of s t)) [
        | true ↦ λ is.
            let P : Triple → Type 0 = λ x. entry_by s (op_of s x.op) (Some (new_job s.next u)) (row_of s x) ≡ entry_by s (op_of s x.op) None (row_of s x) in
            subst P (triple_same u t is) (entry_new s s.next u (row_of s u) (or_parts _ _ unserved).0)
        | false ↦ λ is. refl
      ] refl
] refl

-- a target is served, or gets the new job
pub create_ways : (s s' : CoreState) (u : Triple) → create s u ≡ Some s' → (s ≡ s') ⊎ ((is_served s u ≡ false) × ((nat_lt s.next (2 ^ 62) ≡ true) × (created s u ≡ s')))
create_ways s s' u e = second_choice (is_served s u) (nat_lt s.next (2 ^ 62)) s (created s u) s' e

-- what each created job keeps, creating all keeps; each is for a target with a property
pub kept_by_creating_each : (P : CoreState → Type 0) (Q : Triple → Type 0) → ((s : CoreState) (u : Triple) → is_served s u ≡ false → nat_lt s.next (2 ^ 62) ≡ true → Q u → P s → P (created s u)) →
    (s s' : CoreState) (us : List Triple) → create_all s us ≡ Some s' → AllByRecursion Q us → P s → P s'
kept_by_creating_each P Q k s s' [] e q p = let is : s ≡ s' = cc in subst P is p
kept_by_creating_each P Q k s s' (u ∷ us) e q p =
    let h = then_some (λ z. create_all z us) (create s u) s' e in
    kept_by_creating_each P Q k h.0 s' us h.2 q.1 (elim (create_ways s h.0 u h.1) [
      | inl is ↦ subst P is p
      | inr w ↦ subst P w.1.1 (k s u w.0 w.1.0 q.0 p)
    ])

any_of : (us : List Triple) → AllByRecursion (λ (u : Triple). Unit {0}) us
any_of [] = tt
any_of (u ∷ us) = (tt, any_of us)

-- the same for any targets
pub kept_by_creating : (P : CoreState → Type 0) → ((s : CoreState) (u : Triple) → is_served s u ≡ false → nat_lt s.next (2 ^ 62) ≡ true → P s → P (created s u)) →
    (s s' : CoreState) (us : List Triple) → create_all s us ≡ Some s' → P s → P s'
kept_by_creating P k s s' us e p = kept_by_creating_each P (λ u. Unit {0}) (λ z u n l _ q. k z u n l q) s s' us e (any_of us) p

pub settle_for_keeps : (ws : List Triple) (s s' : CoreState) (t : Triple) → settle_for ws s ≡ Some s' → is_wanted ws t ≡ true → entry_in s' t ≡ entry_in s t
settle_for_keeps ws s s' t e w = kept_by_creating (λ z. entry_in z t ≡ entry_in (lost_marked ws (dropped ws s)) t) (λ z u n _ p. created_keeps z u t n ∙ p) (lost_marked ws (dropped ws s)) s' (targets ws s.jobs) e refl ∙ marked_keeps ws (dropped ws s) t ∙ dropped_keeps ws s t w

-- ---- what settling leaves alone

pub record Same (s s' : CoreState) : Type 0 where
  pub program : s'.program ≡ s.program
  pub threshold : s'.threshold ≡ s.threshold
  pub now : s'.now ≡ s.now
  pub version : s'.version ≡ s.version
  pub inputs : s'.inputs ≡ s.inputs
  pub rows : s'.rows ≡ s.rows

pub same_settled : (ws : List Triple) (s s' : CoreState) → settle_for ws s ≡ Some s' → Same s s'
same_settled ws s s' e = kept_by_creating (Same s) (λ z u _ _ p. record { program = p.program; threshold = p.threshold; now = p.now; version = p.version; inputs = p.inputs; rows = p.rows })
    (lost_marked ws (dropped ws s)) s' (targets ws s.jobs) e (record { program = refl; threshold = refl; now = refl; version = refl; inputs = refl; rows = refl })

-- ---- states and wants stay

pub counted_first : (t : Triple) (ts : List Triple) → is_wanted (t ∷ ts) t ≡ true
counted_first t ts = or_left (same_triple t t) (is_wanted ts t) (same_triples t t refl)

pub counted_later : (t u : Triple) (ts : List Triple) → is_wanted ts t ≡ true → is_wanted (u ∷ ts) t ≡ true
counted_later t u ts w = or_right (same_triple u t) (is_wanted ts t) w

counted : (b : Bool) (n : ℕ) → nat_lt 0 ((if b then 1 else 0) + n) ≡ (b || nat_lt 0 n)
counted true n = lt-ltb 0 (1 + n) (omega arith)
counted false n = ap (nat_lt 0) (zero-add n)

-- a triple is wanted where its count isn't zero
pub count_wanted : (ts : List Triple) (t : Triple) → nat_lt 0 (count_of ts t) ≡ is_wanted ts t
count_wanted [] t = refl
count_wanted (u ∷ ts) t = counted (same_triple u t) (count_of ts t) ∙ ap (λ b. same_triple u t || b) (count_wanted ts t)

-- worlds that agree on each wanted triple agree on the list of the wants
pub agree_on : (w v : World) (ts : List Triple) → ((t : Triple) → is_wanted ts t ≡ true → entry_of w t ≡ entry_of v t) → Agree w v ts
agree_on w v [] h = tt
agree_on w v (t ∷ ts) h = (h t (counted_first t ts), agree_on w v ts (λ u k. h u (counted_later u t ts k)))

-- ---- the wanted triples in order are the wanted ones

twice : (b r : Bool) → (b || r) ≡ (b || (b || r))
twice true r = refl
twice false r = refl

swapped : (b c r : Bool) → (c || (b || r)) ≡ (b || (c || r))
swapped true true r = refl
swapped true false r = refl
swapped false true r = refl
swapped false false r = refl

wanted-with : (t : Triple) (us : List Triple) (u : Triple) → is_wanted (with_triple t us) u ≡ (same_triple t u || is_wanted us u)
wanted-with t [] u = refl
wanted-with t (v ∷ us) u = elim (triple_cmp t v) as (λ o. triple_cmp t v ≡ o → is_wanted (by_order o (t ∷ v ∷ us) (v ∷ us) (v ∷ with_triple t us)) u ≡ (same_triple t u || is_wanted (v ∷ us) u)) [
  | Less ↦ λ e. refl
  | Equal ↦ λ e. twice (same_triple v u) (is_wanted us u) ∙ (λ i. same_triple (sym (triples_tie t v e) i) u || is_wanted (v ∷ us) u)
  | Greater ↦ λ e. ap (λ b. same_triple v u || b) (wanted-with t us u) ∙ swapped (same_triple t u) (same_triple v u) (is_wanted us u)
] refl

pub wanted_same : (ts : List Triple) (u : Triple) → is_wanted (in_order ts) u ≡ is_wanted ts u
wanted_same [] u = refl
wanted_same (t ∷ ts) u = wanted-with t (in_order ts) u ∙ ap (λ b. same_triple t u || b) (wanted_same ts u)

pub settled_fresh : (s s' : CoreState) → settle s ≡ Some s' → fresh_of s' ≡ fresh_of s
settled_fresh s s' e =
    let same = same_settled (wanted s) s s' e in
    let agree : Agree (world s) (world s') (wants s) = agree_on (world s) (world s') (wants s)
    (λ t w. world_entry s t ∙ sym (settle_for_keeps (wanted s) s s' t e (wanted_same (wants s) t ∙ w)) ∙ sym (world_entry s' t)) in
    (λ i. fresh (same.program i) (same.inputs i) (world s')) ∙ sym (fresh_local s.program s.inputs (world s) (world s') agree)
