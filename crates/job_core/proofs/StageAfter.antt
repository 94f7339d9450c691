-- The job of a triple after the change of one job.
use Rattle.std.proofs.Common.{◌≡◌, ℕ, true, false, cond, not, List, [], ◌∷◌, Option, Some, None, refl, sym, ap, ◌∙◌, subst, arith}
use Rattle.std.proofs.lemmas.Bool.{eqb-true, ne_eqb}
use Rattle.std.specs.Prelude.{◌==◌, ◌&&◌, if◌then◌else◌, option_map}
use Rattle.std.specs.Option.{option_and_then}
use Rattle.std.specs.Str.{bytes_eq}
use Rattle.value_core.specs.declared.state.Triple.{Triple}
use Rattle.value_core.specs.Orders.{same_triple}
use Rattle.core_rules.specs.Core.{with_job, without_job}
use Rattle.core_rules.specs.Entries.{job_of}
use Rattle.core_rules.specs.Laws.{JobsAbove, OneEach, Rising}
use Rattle.core_rules.specs.Settling.{live_on, on_key}
use Rattle.core_rules.specs.declared.jobs.Job.{Job}
use Rattle.value_core.proofs.Basics.{triple_same}
use Rattle.core_rules.proofs.Rising.{none_numbered}

-- a job, or what it becomes where it has a number
abbrev pub changed : ℕ → (Job → Job) → Job → Job
changed n f j = if j.number == n then f j else j

-- a job, where it doesn't have a number
abbrev pub other : ℕ → Job → Option Job
other n j = if j.number == n then None else Some j

above_changed : (n : ℕ) (f : Job → Job) (js : List Job) (t : Triple) → JobsAbove n js → job_of js t ≡ option_map (changed n f) (job_of js t)
above_changed n f [] t a = refl
above_changed n f (j ∷ js) t a = elim (same_triple j.triple t) as (λ b. cond b (Some j) (job_of js t) ≡ option_map (changed n f) (cond b (Some j) (job_of js t))) [
  | true ↦ let l = a.0 in sym (ap (λ b. Some (if b then f j else j)) (ne_eqb j.number n (λ e. absurd (omega arith))))
  | false ↦ above_changed n f js t a.1
]

above_other : (n : ℕ) (js : List Job) (t : Triple) → JobsAbove n js → job_of js t ≡ option_and_then (other n) (job_of js t)
above_other n [] t a = refl
above_other n (j ∷ js) t a = elim (same_triple j.triple t) as (λ b. cond b (Some j) (job_of js t) ≡ option_and_then (other n) (cond b (Some j) (job_of js t))) [
  | true ↦ let l = a.0 in sym (ap (λ b. if b then None else Some j) (ne_eqb j.number n (λ e. absurd (omega arith))))
  | false ↦ above_other n js t a.1
]

pub job_with : (n : ℕ) (f : Job → Job) (js : List Job) (t : Triple) → ((j : Job) → (f j).triple ≡ j.triple) → Rising js → job_of (with_job n f js) t ≡ option_map (changed n f) (job_of js t)
job_with n f [] t k r = refl
job_with n f (j ∷ js) t k r = elim (j.number == n) as (λ b. (j.number == n) ≡ b → job_of (if b then f j ∷ js else (j ∷ with_job n f js)) t ≡ option_map (changed n f) (cond (same_triple j.triple t) (Some j) (job_of js t))) [
  | true ↦ λ e. ap (λ u. cond (same_triple u t) (Some (f j)) (job_of js t)) (k j)
      ∙ elim (same_triple j.triple t) as (λ b. cond b (Some (f j)) (job_of js t) ≡ option_map (changed n f) (cond b (Some j) (job_of js t))) [
        | true ↦ sym (ap (λ b. Some (if b then f j else j)) e)
        | false ↦ above_changed n f js t (subst (λ m. JobsAbove m js) (eqb-true j.number n e) r.0)
      ]
  | false ↦ λ e. elim (same_triple j.triple t) as (λ b. cond b (Some j) (job_of (with_job n f js) t) ≡ option_map (changed n f) (cond b (Some j) (job_of js t))) [
    | true ↦ sym (ap (λ b. Some (if b then f j else j)) e)
    | false ↦ job_with n f js t k r.1
  ]
] refl

-- no job of a key, no job of a triple of it
pub none_of : (js : List Job) (t : Triple) → live_on js t.op t.key ≡ None → job_of js t ≡ None
none_of [] t h = refl
none_of (j ∷ js) t h = elim (on_key t.op t.key j.triple) as (λ b. on_key t.op t.key j.triple ≡ b → cond b (Some j) (live_on js t.op t.key) ≡ None → cond (b && bytes_eq j.triple.value t.value) (Some j) (job_of js t) ≡ None) [
  | true ↦ λ e k. let z : ⊥ = cc in absurd z
  | false ↦ λ e k. none_of js t k
] refl h

pub job_without : (n : ℕ) (js : List Job) (t : Triple) → Rising js → OneEach js → job_of (without_job n js) t ≡ option_and_then (other n) (job_of js t)
job_without n [] t r o = refl
job_without n (j ∷ js) t r o = elim (j.number == n) as (λ b. (j.number == n) ≡ b → job_of (cond (not b) (j ∷ without_job n js) (without_job n js)) t ≡ option_and_then (other n) (cond (same_triple j.triple t) (Some j) (job_of js t))) [
  | true ↦ λ e.
      let above = subst (λ m. JobsAbove m js) (eqb-true j.number n e) r.0 in
      ap (λ ks. job_of ks t) (none_numbered n js above)
      ∙ elim (same_triple j.triple t) as (λ b. same_triple j.triple t ≡ b → job_of js t ≡ option_and_then (other n) (cond b (Some j) (job_of js t))) [
        | true ↦ λ s. ap (job_of js) (sym (triple_same j.triple t s)) ∙ none_of js j.triple o.0 ∙ sym (ap (λ b. if b then None else Some j) e)
        | false ↦ λ s. above_other n js t above
      ] refl
  | false ↦ λ e. elim (same_triple j.triple t) as (λ b. cond b (Some j) (job_of (without_job n js) t) ≡ option_and_then (other n) (cond b (Some j) (job_of js t))) [
    | true ↦ sym (ap (λ b. if b then None else Some j) e)
    | false ↦ job_without n js t r.1 o.1
  ]
] refl
