-- The live jobs of a state, as they are shown.
use Rattle.std.specs.Prelude.{◌≡◌, ℕ, List, map}
use Rattle.value_core.specs.declared.state.Stage.{Stage}
use Rattle.core_rules.specs.declared.jobs.Job.{Job}
use Rattle.core_rules.specs.Core.{CoreState, stage}
use Rattle.core_rules.specs.Entries.{refs}
use Rattle.report_text.specs.declared.live_jobs.LiveJob.{LiveJob}
use Rattle.report_text.specs.Lines.{jobs_text}
use Rattle.report_text.specs.inside.Writers.{live_text}

-- a job of a state, with its stage and the count of its references
abbrev pub live_in : CoreState → Job → Job × (Stage × ℕ)
live_in s j = (j, (stage s j, refs s j.triple))

-- the same of a live job that is to be shown
abbrev pub shown : LiveJob → Job × (Stage × ℕ)
shown l = (l.job.now, (l.stage, l.refs))

-- these are the live jobs of a state, each with its stage and the count of its references
abbrev pub AreLive : CoreState → List LiveJob → Type 0
AreLive s ls = map shown ls ≡ map (live_in s) s.jobs

-- the lines of a state's live jobs are the state's
abbrev pub ShowsLiveJobs : Type 0
ShowsLiveJobs = (s : CoreState) (ls : List LiveJob) → AreLive s ls → live_text s.program ls ≡ jobs_text s
