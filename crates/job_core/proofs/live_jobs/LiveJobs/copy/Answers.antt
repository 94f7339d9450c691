use Rattle.std.proofs.Common.{◌≡◌, ◌++◌, ap, ◌∙◌, arith, length}
use Rattle.job_core.proofs.KeptKeys.{keys_length}
use Rattle.job_core.proofs.live_jobs.LiveJobs.copy.Goals as goal

pub invariant_of-result : goal.invariant_of-result
invariant_of-result c =
    let h = c.self.invariant in
    let items : c.from_vec.result.items ≡ c.self.inside.by_key.items =
    c.from_vec.ensures.items ∙ c.in_ok-extend_from_slice-2.ensures.items ∙ ap (λ ns. ns ++ c.as_slices.result.1.now) (c.in_ok-extend_from_slice.ensures.items ∙ ap (λ ns. ns ++ c.as_slices.result.0.now) c.in_ok-by_key.ensures.items) ∙ c.as_slices.ensures.items in
    let l = keys_length c.self.inside.numbered.jobs c.self.inside.numbered.spare c.self.inside.by_key.items c.self.inside.by_key.cap h in
    let k = ap length items in
    rw (c.in_ok-copy.ensures, items) (record { live = record { rising = h.live.rising; one_each = h.live.one_each; room = omega (arith, c.from_vec.result.ok.0, c.from_vec.result.ok.1) }; in_keys = h.in_keys })
