use Rattle.std.proofs.Common.{◌≡◌, ℕ, List, set, get_or, sym, ap, ◌∙◌, subst}
use Rattle.std.specs.FinMap as map
use Rattle.fair_pool.specs.Hints.{HintKey}
use Rattle.fair_pool.specs.Kept.{AreHintsKept, IsKnownAt, IsMissingAt, hint_table}
use Rattle.fair_pool.proofs.HintTable.{Notes, noted_known, noted_missing}
use Rattle.fair_pool.specs.declared.ticket.HintWorker.{HintWorker}
use Rattle.fair_pool.proofs.hints.Hints.note.Goals as goal
use Rattle.fair_pool.proofs.hints.Hints.note.Goals.{In-Ok, In-Err}

written : (k : HintKey) (v : ℕ) (hs : List HintWorker) (at : ℕ) (h : HintWorker) → AreHintsKept hs → IsKnownAt k hs at → h ≡ get_or hs at h → Notes k v hs (set hs at (record h { worker = v }))
written k v hs at h t e i = subst (λ (x : HintWorker). Notes k v hs (set hs at (record x { worker = v }))) (sym i) (noted_known k v hs at h t e)

pub invariant_of-self : goal.invariant_of-self
invariant_of-self c =
    let hs = c.self.inside.known.items in
    let k : HintKey = record { pool = c.args.pool; hint = c.args.hint } in
    let e : IsKnownAt k hs c.in-Ok.at = subst (λ x. IsKnownAt k x c.in-Ok.at) c.as_slice.ensures.value c.in-Ok.ensures in
    let n = written k c.args.worker hs c.in-Ok.at c.index_mut.result.now c.self.invariant e c.index_mut.ensures.value in
    n.kept

pub returns-in-Ok-clause-workers : goal.returns-in-Ok-clause-workers
returns-in-Ok-clause-workers c =
    let hs = c.self.inside.known.items in
    let k : HintKey = record { pool = c.args.pool; hint = c.args.hint } in
    let e : IsKnownAt k hs c.in-Ok.at = subst (λ x. IsKnownAt k x c.in-Ok.at) c.as_slice.ensures.value c.in-Ok.ensures in
    let n = written k c.args.worker hs c.in-Ok.at c.index_mut.result.now c.self.invariant e c.index_mut.ensures.value in
    n.table ∙ ap (λ h. map.insert h.workers k c.args.worker) c.self.view_is

pub invariant_of-self-in-Err : goal.invariant_of-self-in-Err
invariant_of-self-in-Err c =
    let hs = c.self.inside.known.items in
    let k : HintKey = record { pool = c.args.pool; hint = c.args.hint } in
    let e : IsMissingAt k hs c.in-Err.at = subst (λ x. IsMissingAt k x c.in-Err.at) c.as_slice.ensures.value c.in-Err.ensures in
    let n = noted_missing k c.args.worker hs c.in-Err.at c.self.invariant e in
    subst AreHintsKept (sym c.insert_within.ensures.items) n.kept

pub returns-in-Err-clause-workers : goal.returns-in-Err-clause-workers
returns-in-Err-clause-workers c =
    let hs = c.self.inside.known.items in
    let k : HintKey = record { pool = c.args.pool; hint = c.args.hint } in
    let e : IsMissingAt k hs c.in-Err.at = subst (λ x. IsMissingAt k x c.in-Err.at) c.as_slice.ensures.value c.in-Err.ensures in
    let n = noted_missing k c.args.worker hs c.in-Err.at c.self.invariant e in
    ap hint_table c.insert_within.ensures.items ∙ n.table ∙ ap (λ h. map.insert h.workers k c.args.worker) c.self.view_is
