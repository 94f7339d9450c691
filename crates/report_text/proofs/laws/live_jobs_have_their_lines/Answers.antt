use Rattle.report_text.proofs.ShownJobs.{shows_live_jobs}
use Rattle.report_text.proofs.laws.live_jobs_have_their_lines.Goals as goal

pub returns : goal.returns
returns c = shows_live_jobs
