use Rattle.std.proofs.Common.{◌≡◌, ◌∙◌, ◌+◌, add-one, arith, get_or, pos, true}
use Rattle.keeper_core.specs.WellFormed.{is_job}
use Rattle.keeper_core.proofs.RowLaws.{log_next}
use Rattle.keeper_core.proofs.reading.refused_log.Goals as goal

pub loop-job-preserved : goal.loop-job-preserved
loop-job-preserved c =
    let good : is_job c.args.meta.now.next_job (get_or c.args.jobs.now c.loop-job.job-index (pos 0)) ≡ true = cc in
    record {
      number = omega arith;
      refused = log_next c.args.meta.now.next_job c.loop-job.number c.loop-job.job-index (c.loop-job.job-index + 1) c.args.jobs.now (pos 0) (add-one c.loop-job.job-index) c.loop-job-test.true good ∙ c.loop-job.invariant.refused;
    }
