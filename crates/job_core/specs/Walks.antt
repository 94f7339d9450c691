-- Walks over what is wanted and over the live jobs, both in order.
use Rattle.std.specs.Prelude.{◌≡◌, ℕ, ◌≤◌, Bool, false, List, [], ◌∷◌, ◌++◌, Option, Some, None, option_map, slice_get}
use Rattle.std.specs.Ordering.{is_lt}
use Rattle.value_core.specs.declared.state.Triple.{Triple}
use Rattle.value_core.specs.Orders.{triple_cmp}
use Rattle.fair_pool.specs.Order.{leading}
use Rattle.core_rules.specs.Settling.{is_value, least_value, values_on}
use Rattle.core_rules.specs.declared.jobs.Job.{Job}
use Rattle.op_keys.specs.declared.declarations.OpDecl.{OpDecl}
use Rattle.job_core.specs.Keys.{by_keys, is_key_before, key_rank}
use Rattle.job_core.specs.Wants.{drops_of, fresh_of, is_fresh, is_open, lost_of, triples_in}
use Rattle.job_core.specs.Plans.{triples_of}
use Rattle.job_core.specs.Rowing.{core_with}
use Rattle.job_core.specs.State.{JobsState}
use Rattle.job_core.specs.declared.row_look.RowsAfter.{RowsAfter}
use Rattle.job_core.specs.declared.plan.NewJob.{NewJob}
use Rattle.job_core.specs.declared.wants.WantsWalk.{WantsWalk}
use Rattle.job_core.specs.declared.wants.Unwanted.{Unwanted}

-- whether an item is there and passes a test
abbrev pub passes : {X : Type 0} → (X → Bool) → Option X → Bool
passes p (Some x) = p x
passes p None = false

-- whether a triple comes before another
abbrev pub is_before : Triple → Triple → Bool
is_before t u = is_lt (triple_cmp u t)

-- how many wanted triples come before one
abbrev pub wants_passed : Triple → List Triple → ℕ
wants_passed t ts = leading (is_before t) ts

-- whether a walk over wanted triples has one next that comes before another
abbrev pub is_want_past : Triple → WantsWalk → Bool
is_want_past t w = passes (is_before t) (slice_get (triples_in w.wants.now) w.passed)

-- whether the live job of a rank is there and has a lesser operation and key
abbrev pub is_job_past : ℕ → List ℕ → List Job → ℕ → Bool
is_job_past op key js rank = passes (is_key_before op key) (slice_get (by_keys js) rank)

-- a number isn't above the count of live jobs whose operations and keys are less than those of a triple that is there
abbrev pub IsWalked : List Job → ℕ → Option Triple → Type 0
IsWalked js passed (Some t) = passed ≤ key_rank t.op t.key js
IsWalked js passed None = Unit {0}

-- what is found to go, with a job to which nothing refers
abbrev pub with_drop : Job → Unwanted → List ℕ
with_drop j u = u.drops.items ++ drops_of [] (j ∷ [])

-- what is found to be marked, with such a job
abbrev pub with_loss : List OpDecl → Job → Unwanted → List ℕ
with_loss ops j u = u.lost.items ++ lost_of [] ops (j ∷ [])

-- the numbers of the jobs to which nothing refers: those that go, and those that get the automatic mark
pub record AreUnwanted (ws : List Triple) (ops : List OpDecl) (js : List Job) (u : Unwanted) : Type 0 where
  pub drops : u.drops.items ≡ drops_of ws js
  pub lost : u.lost.items ≡ lost_of ws ops js

-- whether a triple has the least wanted value of its operation and key
abbrev pub is_least : List Triple → Triple → Bool
is_least ws t = is_value (least_value (values_on ws t.op t.key)) t.value

-- ---- the wanted triple of an index

-- whether it has the least wanted value of its operation and key
abbrev pub IsLeastAt : List (Triple × ℕ) → ℕ → Bool → Type 0
IsLeastAt wants i b = option_map (is_least (triples_in wants)) (slice_get (triples_in wants) i) ≡ Some b

-- whether it is a target of which no live job stays
abbrev pub IsOpenAt : List (Triple × ℕ) → List Job → ℕ → Bool → Type 0
IsOpenAt wants js i b = option_map (is_open (triples_in wants) js) (slice_get (triples_in wants) i) ≡ Some b

-- whether it gets a job
abbrev pub IsFreshAt : List (Triple × ℕ) → JobsState → List Job → RowsAfter → ℕ → Bool → Type 0
IsFreshAt wants s js r i b = option_map (is_fresh (triples_in wants) (core_with s js r)) (slice_get (triples_in wants) i) ≡ Some b

-- so many live jobs at most have lesser operations and keys
abbrev pub IsNotPast : List (Triple × ℕ) → List Job → ℕ → ℕ → Type 0
IsNotPast wants js i passed = IsWalked js passed (slice_get (triples_in wants) i)

-- so many live jobs have lesser operations and keys
abbrev pub IsReached : List (Triple × ℕ) → List Job → ℕ → ℕ → Type 0
IsReached wants js i passed = option_map (λ t. key_rank t.op t.key js) (slice_get (triples_in wants) i) ≡ Some passed

-- new jobs are those that wanted triples get, in order
abbrev pub AreNews : List (Triple × ℕ) → JobsState → List Job → RowsAfter → List NewJob → Type 0
AreNews wants s js r ns = triples_of ns ≡ fresh_of (triples_in wants) (core_with s js r)
