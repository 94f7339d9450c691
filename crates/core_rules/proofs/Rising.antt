-- Numbers of jobs below and above a number, and rising.
use Rattle.std.proofs.Common.{◌≡◌, ℕ, ◌<◌, ◌≤◌, Bool, true, false, cond, List, [], ◌∷◌, ◌++◌, map, Some, refl, ap, ◌∙◌, sym, subst, arith}
use Rattle.std.proofs.lemmas.Bool.{cond_both, ne_eqb}
use Rattle.std.specs.Prelude.{◌==◌, filter, not}
use Rattle.std.specs.List.{AllByRecursion}
use Rattle.core_rules.proofs.Helpers.{all_filter, all_push}
use Rattle.core_rules.specs.Core.{job_numbered, with_job, without_job}
use Rattle.core_rules.specs.Laws.{JobsAbove, JobsBelow, Rising}
use Rattle.core_rules.specs.declared.jobs.Job.{Job}

pub below_more : (n m : ℕ) (js : List Job) → n ≤ m → JobsBelow n js → JobsBelow m js
below_more n m [] le h = tt
below_more n m (j ∷ js) le h = (omega (arith, h.0), below_more n m js le h.1)

-- what holds of each number still does where a job changes but for its number
pub all_with : (P : ℕ → Type 0) (m : ℕ) (f : Job → Job) (js : List Job) → ((j : Job) → (f j).number ≡ j.number) → AllByRecursion (λ j. P j.number) js → AllByRecursion (λ j. P j.number) (with_job m f js)
all_with P m f [] k h = tt
all_with P m f (j ∷ js) k h = cond_both (j.number == m) (f j ∷ js) (j ∷ with_job m f js) (AllByRecursion (λ j. P j.number))
    (λ _. (subst P (sym (k j)) h.0, h.1)) (λ _. (h.0, all_with P m f js k h.1))

-- and where all do
pub all_map : (P : ℕ → Type 0) (f : Job → Job) (js : List Job) → ((j : Job) → (f j).number ≡ j.number) → AllByRecursion (λ j. P j.number) js → AllByRecursion (λ j. P j.number) (map f js)
all_map P f [] k h = tt
all_map P f (j ∷ js) k h = (subst P (sym (k j)) h.0, all_map P f js k h.1)

pub found_below : (n m : ℕ) (js : List Job) (j : Job) → JobsBelow n js → job_numbered js m ≡ Some j → j.number < n
found_below n m [] j h e = let z : ⊥ = cc in absurd z
found_below n m (i ∷ js) j h e = elim (i.number == m) as (λ b. cond b (Some i) (job_numbered js m) ≡ Some j → j.number < n) [
  | true ↦ λ k. let is : i ≡ j = cc in subst (λ x. x.number < n) is h.0
  | false ↦ λ k. found_below n m js j h.1 k
] e

-- what holds of each number holds of one that is found
pub found_in : (P : ℕ → Type 0) (m : ℕ) (js : List Job) (j : Job) → AllByRecursion (λ (j : Job). P j.number) js → job_numbered js m ≡ Some j → P j.number
found_in P m [] j h e = let z : ⊥ = cc in absurd z
found_in P m (i ∷ js) j h e = elim (i.number == m) as (λ b. cond b (Some i) (job_numbered js m) ≡ Some j → P j.number) [
  | true ↦ λ k. let is : i ≡ j = cc in subst (λ (x : Job). P x.number) is h.0
  | false ↦ λ k. found_in P m js j h.1 k
] e

pub rising_filter : (q : Job → Bool) (js : List Job) → Rising js → Rising (filter q js)
rising_filter q [] h = tt
rising_filter q (j ∷ js) h = cond_both (q j) (j ∷ filter q js) (filter q js) Rising (λ _. (all_filter (λ (i : Job). j.number < i.number) q js h.0, rising_filter q js h.1)) (λ _. rising_filter q js h.1)

pub rising_with : (m : ℕ) (f : Job → Job) (js : List Job) → ((j : Job) → (f j).number ≡ j.number) → Rising js → Rising (with_job m f js)
rising_with m f [] k h = tt
rising_with m f (j ∷ js) k h = cond_both (j.number == m) (f j ∷ js) (j ∷ with_job m f js) Rising
    (λ _. (subst (λ x. JobsAbove x js) (sym (k j)) h.0, h.1)) (λ _. (all_with (λ n. j.number < n) m f js k h.0, rising_with m f js k h.1))

pub rising_map : (f : Job → Job) (js : List Job) → ((j : Job) → (f j).number ≡ j.number) → Rising js → Rising (map f js)
rising_map f [] k h = tt
rising_map f (j ∷ js) k h = (subst (λ x. JobsAbove x (map f js)) (sym (k j)) (all_map (λ n. j.number < n) f js k h.0), rising_map f js k h.1)

pub rising_push : (js : List Job) (j : Job) → JobsBelow j.number js → Rising js → Rising (js ++ j ∷ [])
rising_push [] j b h = (tt, tt)
rising_push (i ∷ js) j b h = (all_push (λ (k : Job). i.number < k.number) js j h.0 b.0, rising_push js j b.1 h.1)

-- jobs above a number don't have it
pub none_numbered : (n : ℕ) (js : List Job) → JobsAbove n js → without_job n js ≡ js
none_numbered n [] h = refl
none_numbered n (j ∷ js) h =
    let other : (j.number == n) ≡ false = ne_eqb j.number n (λ e. absurd (omega (arith, h.0, e))) in
    ap (λ b. cond (not b) (j ∷ without_job n js) (without_job n js)) other ∙ ap (λ ks. j ∷ ks) (none_numbered n js h.1)
