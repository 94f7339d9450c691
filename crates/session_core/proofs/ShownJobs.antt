-- The live jobs of a state, one after the other.
use Rattle.std.proofs.Common.{◌≡◌, List, [], ◌∷◌, ◌++◌, map, sym, ap, ◌∙◌, append_assoc}
use Rattle.std.proofs.lemmas.List.{append-nil, map-append}
use Rattle.core_rules.specs.declared.jobs.Job.{Job}
use Rattle.core_rules.specs.Core.{CoreState}
use Rattle.report_text.specs.declared.live_jobs.LiveJob.{LiveJob}
use Rattle.report_text.specs.LiveJobs.{AreLive, live_in, shown}

module _ (s : CoreState) where
  -- those so far and these jobs are all of them
  abbrev pub AreBefore : List Job → List LiveJob → Type 0
  AreBefore js ls = map shown ls ++ map (live_in s) js ≡ map (live_in s) s.jobs

  -- none so far
  pub none_shown : (ls : List LiveJob) (js : List Job) → ls ≡ [] → js ≡ s.jobs → AreBefore js ls
  none_shown ls js none is = ap (λ (l : List LiveJob). map shown l ++ map (live_in s) js) none ∙ ap (map (live_in s)) is

  -- the next one
  pub next_shown : (ls : List LiveJob) (l : LiveJob) (j : Job) (js : List Job) → shown l ≡ live_in s j → AreBefore (j ∷ js) ls → AreBefore js (ls ++ l ∷ [])
  next_shown ls l j js is h =
      let apart : map shown (ls ++ l ∷ []) ++ map (live_in s) js ≡ (map shown ls ++ shown l ∷ []) ++ map (live_in s) js = ap (λ ms. ms ++ map (live_in s) js) (map-append shown ls (l ∷ [])) in
      let front : (map shown ls ++ shown l ∷ []) ++ map (live_in s) js ≡ map shown ls ++ (shown l ∷ map (live_in s) js) = append_assoc (map shown ls) (shown l ∷ []) (map (live_in s) js) in
      let same : map shown ls ++ (shown l ∷ map (live_in s) js) ≡ map shown ls ++ map (live_in s) (j ∷ js) = ap (λ x. map shown ls ++ x ∷ map (live_in s) js) is in
      apart ∙ front ∙ same ∙ h

  -- all
  pub all_shown : (ls : List LiveJob) (js : List Job) → js ≡ [] → AreBefore js ls → AreLive s ls
  all_shown ls js none h = sym (append-nil (map shown ls)) ∙ ap (λ (ks : List Job). map shown ls ++ map (live_in s) ks) (sym none) ∙ h
