use Rattle.std.proofs.Common.{Some, sym, ap, ◌∙◌, subst}
use Rattle.std.specs.FinMap as map
use Rattle.fair_pool.specs.Hints.{HintKey}
use Rattle.fair_pool.specs.Kept.{IsKnownAt, IsMissingAt}
use Rattle.fair_pool.proofs.HintTable.{get_known, get_missing}
use Rattle.fair_pool.proofs.hints.Hints.worker_of.Goals as goal

pub returns-in-Ok : goal.returns-in-Ok
returns-in-Ok c =
    let hs = c.self.inside.known.items in
    let k : HintKey = record { pool = c.args.pool; hint = c.args.hint.now } in
    let e : IsKnownAt k hs c.in-Ok.at = subst (λ x. IsKnownAt k x c.in-Ok.at) c.as_slice.ensures.value c.in-Ok.ensures in
    ap (λ h. Some h.worker) c.index.ensures ∙ sym (get_known k hs c.in-Ok.at c.index.result.now c.self.invariant e) ∙ ap (λ h. map.get h.workers k) c.self.view_is

pub returns-in-Err : goal.returns-in-Err
returns-in-Err c =
    let hs = c.self.inside.known.items in
    let k : HintKey = record { pool = c.args.pool; hint = c.args.hint.now } in
    let e : IsMissingAt k hs c.in-Err.field-0 = subst (λ x. IsMissingAt k x c.in-Err.field-0) c.as_slice.ensures.value c.in-Err.ensures in
    sym (get_missing k hs c.in-Err.field-0 c.self.invariant e) ∙ ap (λ h. map.get h.workers k) c.self.view_is
