use Rattle.std.proofs.Common.{◌≡◌, ◌++◌, drop}
use Rattle.std.specs.String.{string_bytes}
use Rattle.report_text.specs.inside.Writers.{live_text}
use Rattle.report_text.proofs.live_jobs.job_lines.Given as goal

abbrev pub invariant-loop-live : goal.invariant-loop-live
invariant-loop-live l =
    string_bytes l.out ++ live_text l.program (drop l.live-index l.jobs)
    ≡ string_bytes l.initial.out ++ live_text l.program l.jobs
