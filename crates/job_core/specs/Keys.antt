-- Live jobs in order of their operations and keys.
use Rattle.std.specs.Prelude.{◌≡◌, ℕ, Bool, false, List, map, Option, Some, None}
use Rattle.std.specs.declared.cmp.Ordering.{Ordering}
use Rattle.std.specs.Ordering.{is_lt, nat_cmp, ordering_then}
use Rattle.value_core.specs.declared.state.Triple.{Triple}
use Rattle.value_core.specs.Orders.{bytes_cmp}
use Rattle.fair_pool.specs.Order.{in_order, leading}
use Rattle.core_rules.specs.Core.{job_numbered}
use Rattle.core_rules.specs.declared.jobs.Job.{Job}
use Rattle.job_core.specs.Live.{AreLiveKept}

-- how a triple's operation and key compare to these
abbrev pub key_cmp : Triple → ℕ → List ℕ → Ordering
key_cmp t op key = ordering_then (nat_cmp t.op op) (bytes_cmp t.key key)

-- whether a triple has a lesser operation and key
abbrev pub is_key_below : ℕ → List ℕ → Triple → Bool
is_key_below op key t = is_lt (key_cmp t op key)

-- whether a job has
abbrev pub is_key_before : ℕ → List ℕ → Job → Bool
is_key_before op key j = is_key_below op key j.triple

-- whether a job is there and has
abbrev pub is_found_before : ℕ → List ℕ → Option Job → Bool
is_found_before op key (Some j) = is_key_before op key j
is_found_before op key None = false

-- whether the job of a number is there and has
abbrev pub is_number_before : ℕ → List ℕ → List Job → ℕ → Bool
is_number_before op key js n = is_found_before op key (job_numbered js n)

-- whether a job's operation and key come before another's
abbrev pub key_before : Job → Job → Bool
key_before a b = is_key_before b.triple.op b.triple.key a

-- the jobs in order of operations and keys
abbrev pub by_keys : List Job → List Job
by_keys js = in_order key_before js

-- how many jobs have a lesser operation and key
abbrev pub key_rank : ℕ → List ℕ → List Job → ℕ
key_rank op key js = leading (is_key_before op key) (by_keys js)

-- how many jobs have one that is less than that of a job that is there
abbrev pub rank_found : List Job → Option Job → ℕ
rank_found js (Some j) = key_rank j.triple.op j.triple.key js
rank_found js None = 0

-- the jobs are kept in order of their numbers, and these are the numbers in order of operations and keys
pub record AreKeysKept (js : List Job) (spare : ℕ) (numbers : List ℕ) (fit : ℕ) : Type 0 where
  pub live : AreLiveKept js spare fit
  pub in_keys : numbers ≡ map (λ j. j.number) (by_keys js)
