-- What is wanted, and what follows for single jobs and triples.
use Rattle.std.specs.Prelude.{◌≡◌, ℕ, ◌<◌, ◌≤◌, Bool, false, not, ◌&&◌, List, [], ◌∷◌, map, filter, Option, Some, None, is_some, slice_get}
use Rattle.std.specs.List.{AllByRecursion}
use Rattle.std.specs.declared.cmp.Ordering.TheVariants.{Less}
use Rattle.value_core.specs.declared.state.Triple.{Triple}
use Rattle.op_keys.specs.declared.declarations.OpDecl.{OpDecl}
use Rattle.core_rules.specs.Core.{CoreState, goes_on, op_of}
use Rattle.core_rules.specs.Entries.{row_of}
use Rattle.core_rules.specs.Settling.{hint_for, is_unmarked, is_valid, is_value, live_on, stays, target}
use Rattle.term_core.specs.Counts.{is_wanted}
use Rattle.value_core.specs.Orders.{triple_cmp}
use Rattle.core_rules.specs.declared.jobs.Job.{Job}
use Rattle.job_core.specs.declared.plan.NewJob.{NewJob}

-- triples that rise, each once
abbrev pub TriplesRise : List Triple → Type 0
TriplesRise [] = Unit {0}
TriplesRise (t ∷ ts) = AllByRecursion (λ u. triple_cmp t u ≡ Less) ts × TriplesRise ts

-- the wanted triples
abbrev pub triples_in : List (Triple × ℕ) → List Triple
triples_in wants = map (λ p. p.0) wants

-- wanted triples with their counts: they rise, each is of one of so many operations, and is wanted once at least
pub record AreWants (ops : ℕ) (wants : List (Triple × ℕ)) : Type 0 where
  pub rising : TriplesRise (triples_in wants)
  pub declared : AllByRecursion (λ (p : Triple × ℕ). p.0.op < ops) wants
  pub counted : AllByRecursion (λ (p : Triple × ℕ). 1 ≤ p.1) wants

-- whether a job gets the automatic mark, by the declared operations
abbrev pub is_lost_by : List Triple → List OpDecl → Job → Bool
is_lost_by ws ops j = is_some j.worker && (not (is_wanted ws j.triple) && (is_unmarked j.mark && not (goes_on (slice_get ops j.triple.op))))

-- the numbers of the jobs that go
abbrev pub drops_of : List Triple → List Job → List ℕ
drops_of ws js = map (λ j. j.number) (filter (λ j. not (stays ws j)) js)

-- the numbers of the jobs that get the automatic mark
abbrev pub lost_of : List Triple → List OpDecl → List Job → List ℕ
lost_of ws ops js = map (λ j. j.number) (filter (is_lost_by ws ops) js)

-- whether a job is there and stays
abbrev pub stays_found : List Triple → Option Job → Bool
stays_found ws (Some j) = stays ws j
stays_found ws None = false

-- whether a triple is the target of its operation and key, and no live job there stays
abbrev pub is_open : List Triple → List Job → Triple → Bool
is_open ws js t = is_value (target ws js t.op t.key) t.value && not (stays_found ws (live_on js t.op t.key))

-- whether a triple has a valid row
abbrev pub has_valid : CoreState → Triple → Bool
has_valid s t = is_valid s (op_of s t.op) (row_of s t)

-- whether a wanted triple gets a job: it is such a target, and has no valid row
abbrev pub is_fresh : List Triple → CoreState → Triple → Bool
is_fresh ws s t = is_open ws s.jobs t && not (has_valid s t)

-- the triples that get jobs, in order
abbrev pub fresh_of : List Triple → CoreState → List Triple
fresh_of ws s = filter (is_fresh ws s) ws

-- a new job has the hint of its operation
abbrev pub HasHint : List OpDecl → NewJob → Type 0
HasHint ops n = (d : OpDecl) → slice_get ops n.triple.op ≡ Some d → n.hint ≡ hint_for d n.triple
