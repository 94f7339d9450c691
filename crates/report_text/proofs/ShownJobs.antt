-- The lines of live jobs are those of their state.
use Rattle.std.proofs.Common.{◌≡◌, List, [], ◌∷◌, ◌++◌, map, refl}
use Rattle.std.specs.List.{flat_map}
use Rattle.core_rules.specs.declared.jobs.Job.{Job}
use Rattle.core_rules.specs.Core.{CoreState, stage}
use Rattle.core_rules.specs.Entries.{refs}
use Rattle.report_text.specs.declared.live_jobs.LiveJob.{LiveJob}
use Rattle.report_text.specs.Lines.{job_line, jobs_text}
use Rattle.report_text.specs.LiveJobs.{ShowsLiveJobs, live_in, shown}
use Rattle.report_text.specs.inside.Writers.{live_text}

lines_alike : (s : CoreState) (ls : List LiveJob) (js : List Job) → map shown ls ≡ map (live_in s) js
    → live_text s.program ls ≡ flat_map (λ j. job_line s.program j (stage s j) (refs s j.triple)) js
lines_alike s [] [] e = refl
lines_alike s [] (j ∷ js) e = absurd cc
lines_alike s (l ∷ ls) [] e = absurd cc
lines_alike s (l ∷ ls) (j ∷ js) e =
    let first : shown l ≡ live_in s j = cc in
    let later : map shown ls ≡ map (live_in s) js = cc in
    λ i. job_line s.program (first i).0 (first i).1.0 (first i).1.1 ++ lines_alike s ls js later i

pub shows_live_jobs : ShowsLiveJobs
unfolding jobs_text
shows_live_jobs s ls are = lines_alike s ls s.jobs are
