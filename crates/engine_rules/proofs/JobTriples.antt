-- What holds of all wanted triples holds of the triples of all live jobs.
use Rattle.std.proofs.Common.{◌≡◌, ℕ, true, false, List, [], ◌∷◌, map, Option, Some, None, is_some, refl, ap, sym, ◌∙◌, subst}
use Rattle.std.proofs.lemmas.Bool.{cond_both}
use Rattle.std.specs.Prelude.{◌==◌, filter, if◌then◌else◌, not}
use Rattle.std.specs.List.{AllByRecursion}
use Rattle.value_core.specs.declared.state.Triple.{Triple}
use Rattle.op_keys.specs.declared.level.Level.{Level}
use Rattle.term_core.specs.declared.program.Program.{Program}
use Rattle.core_rules.specs.declared.done.Done.{Done}
use Rattle.core_rules.specs.declared.events.Event.{Event}
use Rattle.core_rules.specs.declared.jobs.Job.{Job}
use Rattle.core_rules.specs.declared.own.Own.{Own}
use Rattle.core_rules.specs.declared.own.Own.TheVariants as own
use Rattle.core_rules.specs.Changes.{confirmed, marked_by_user, user_marked, without_queued}
use Rattle.core_rules.specs.Core.{CoreState, job_numbered, with_job, without_job}
use Rattle.core_rules.specs.Openings.{Durable, opened, start}
use Rattle.core_rules.specs.Orders.{picked, taken_by}
use Rattle.core_rules.specs.Own.{cancelled, own_made, took}
use Rattle.core_rules.specs.Settling.{dropped, is_value, lost_marked, mark_lost, new_job, settle_for, stays, target, targets, wanted}
use Rattle.core_rules.specs.Steps.{Accepted, at_time, step}
use Rattle.core_rules.proofs.Helpers.{all_filter, all_push}
use Rattle.core_rules.proofs.Moves.{accepts}
use Rattle.core_rules.proofs.Settling.{kept_by_creating_each, marked_triple}
use Rattle.engine_rules.specs.Edits.{edit_of}
use Rattle.engine_rules.proofs.Edited.{change_made}

module _ (P : Triple → Type 0) where
  -- it holds of each job's triple
  abbrev pub OfJobs : List Job → Type 0
  OfJobs js = AllByRecursion (λ (j : Job). P j.triple) js

  -- ---- settling

  of_mapped : (f : Job → Job) (js : List Job) → ((j : Job) → (f j).triple ≡ j.triple) → OfJobs js → OfJobs (map f js)
  of_mapped f [] k h = tt
  of_mapped f (j ∷ js) k h = (subst P (sym (k j)) h.0, of_mapped f js k h.1)

  of_settled : (ws : List Triple) (s s' : CoreState) → settle_for ws s ≡ Some s' → AllByRecursion P ws → OfJobs s.jobs → OfJobs s'.jobs
  of_settled ws s s' e w h = kept_by_creating_each (λ z. OfJobs z.jobs) P (λ z u _ _ q k. all_push (λ (j : Job). P j.triple) z.jobs (new_job z.next u) k q)
      (lost_marked ws (dropped ws s)) s' (targets ws s.jobs) e (all_filter P (λ t. is_value (target ws s.jobs t.op t.key) t.value) ws w)
      (of_mapped (mark_lost ws (dropped ws s)) (filter (stays ws) s.jobs) (marked_triple ws (dropped ws s)) (all_filter (λ (j : Job). P j.triple) (stays ws) s.jobs h))

  -- ---- own changes

  of_changed : (n : ℕ) (f : Job → Job) (js : List Job) → ((j : Job) → (f j).triple ≡ j.triple) → OfJobs js → OfJobs (with_job n f js)
  of_changed n f [] k h = tt
  of_changed n f (j ∷ js) k h = cond_both (j.number == n) (f j ∷ js) (j ∷ with_job n f js) OfJobs (λ _. (subst P (sym (k j)) h.0, h.1)) (λ _. (h.0, of_changed n f js k h.1))

  of_fewer : (n : ℕ) (js : List Job) → OfJobs js → OfJobs (without_job n js)
  of_fewer n js h = all_filter (λ (j : Job). P j.triple) (λ j. not (j.number == n)) js h

  of_cancelled : (s : CoreState) (o : Option Job) → OfJobs s.jobs → OfJobs (cancelled s o).jobs
  of_cancelled s None h = h
  of_cancelled s (Some j) h = elim (is_some j.worker) as (λ b. OfJobs (if b then marked_by_user j.number s else without_queued j.number s).jobs) [
    | true ↦ of_changed j.number user_marked s.jobs (λ _. refl) h
    | false ↦ of_fewer j.number s.jobs h
  ]

  of_took : (s : CoreState) (w : ℕ) (o : Option ℕ) → OfJobs s.jobs → OfJobs (took s w o).jobs
  of_took s w None h = h
  of_took s w (Some n) h = of_changed n (taken_by w) s.jobs (λ _. refl) h

  of_own : (s : CoreState) (o : Own) → OfJobs s.jobs → OfJobs (own_made o s).jobs
  of_own s own.None h = h
  of_own s (own.Level threshold) h = h
  of_own s (own.Confirm n) h = of_changed n confirmed s.jobs (λ _. refl) h
  of_own s (own.Cancel n) h = of_cancelled s (job_numbered s.jobs n) h
  of_own s (own.Take w) h = of_took s w (picked s w) h
  of_own s (own.Finish n) h = of_fewer n s.jobs h
  of_own s (own.Pause w) h = h
  of_own s (own.Resume w) h = h
  of_own s (own.Rate c rate) h = h

  -- ---- openings and steps

  pub of_jobs_at_opening : (program : Program) (durable : Durable) (threshold : Option Level) (reading : ℕ) (s : CoreState) → start program durable threshold reading ≡ Some s
      → AllByRecursion P (wanted (opened program durable threshold reading)) → OfJobs s.jobs
  unfolding start
  of_jobs_at_opening program durable threshold reading s e w = of_settled (wanted (opened program durable threshold reading)) (opened program durable threshold reading) s e w tt

  pub of_jobs_through_steps : (s : CoreState) (e : Event) (s' : CoreState) (r : Done) (h : step s e ≡ Accepted s' r) → AllByRecursion P (wanted (accepts s e s' r h).own.state) → OfJobs s.jobs → OfJobs s'.jobs
  of_jobs_through_steps s e s' r h w before =
      let a = accepts s e s' r h in
      let u : CoreState = at_time s e.at in
      let made = change_made u e.what a.own a.changed in
      let own : OfJobs a.own.state.jobs = subst OfJobs (ap (λ c. c.state.jobs) made.1) (of_own u (edit_of u e.what).own before) in
      subst OfJobs (sym (ap (λ z. z.jobs) a.new)) (of_settled (wanted a.own.state) a.own.state a.after a.settled w own)
