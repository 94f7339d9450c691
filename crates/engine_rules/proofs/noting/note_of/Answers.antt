use Rattle.std.proofs.Common.{◌≡◌, IfSome, None, Some, sym}
use Rattle.std.specs.Option.{option_copied}
use Rattle.engine_rules.specs.Edits.{pick_job}
use Rattle.engine_rules.specs.Orders.{Fits}
use Rattle.engine_rules.proofs.FittingJobs.{fit_pick}
use Rattle.engine_rules.proofs.noting.note_of.Goals as goal

pub start_note-requires : goal.start_note-requires
start_note-requires g c =
    let s = g.P.Lookups.state c.args.parts.now in
    elim c.pick_job.result as (λ o. option_copied o ≡ pick_job s c.in-Take.worker → IfSome o (λ j. Fits s.program j.now.triple)) [
      | None ↦ λ e. tt
      | Some j ↦ λ e. fit_pick s c.in-Take.worker j.now c.requires.fit (sym e)
    ] c.pick_job.ensures
