use Rattle.std.proofs.Common.{◌≡◌, ◌∷◌, ◌+◌, ◌∙◌, List, [], Bor, ap, arith, drop, map, subst, sym}
use Rattle.std.proofs.lemmas.Grind.{common_steps}
use Rattle.core_rules.specs.declared.jobs.Job.{Job}
use Rattle.job_core.specs.State.{JobsState}
use Rattle.report_text.specs.declared.live_jobs.LiveJob.{LiveJob}
use Rattle.session_core.proofs.ShownJobs.{AreBefore, all_shown, next_shown, none_shown}
use Rattle.session_core.proofs.jobs.live_jobs.Goals as goal

pub loop-job-init : goal.loop-job-init
loop-job-init c =
    let now : Bor Job → Job = (λ j. j.now) in
    let jobs = ap (map now) c.as_slice-job-items.ensures ∙ c.in_ok-jobs.ensures ∙ ap (λ (j : JobsState). j.work.jobs) c.jobs.ensures in
    none_shown c.args.engine.now.core c.new-live.result (map now c.as_slice-job-items.result.now) c.new-live.ensures jobs

pub loop-job-preserved : goal.loop-job-preserved
loop-job-preserved c =
    let s = c.args.engine.now.core in
    let now : Bor Job → Job = (λ j. j.now) in
    let items : List (Bor Job) = c.as_slice-job-items.result.now in
    let later : List (Bor Job) = drop (c.loop-job.job-index + 1) items in
    let cons : drop c.loop-job.job-index items ≡ c.job-item.result ∷ later = grind (arith, common_steps) in
    let before : AreBefore s (map now (c.job-item.result ∷ later)) c.loop-job.live = subst (λ (js : List (Bor Job)). AreBefore s (map now js) c.loop-job.live) cons c.loop-job.invariant in
    subst (λ (ls : List LiveJob). AreBefore s (map now later) ls) (sym c.in_ok-push.ensures.ok) (next_shown s c.loop-job.live c.live_job.result c.job-item.result.now (map now later) c.live_job.ensures before)

pub returns : goal.returns
returns c =
    let now : Bor Job → Job = (λ j. j.now) in
    let items : List (Bor Job) = c.as_slice-job-items.result.now in
    let none : drop c.loop-job.job-index items ≡ [] = grind (arith, common_steps) in
    all_shown c.args.engine.now.core c.loop-job.live (map now (drop c.loop-job.job-index items)) (ap (map now) none) c.loop-job.invariant
