use Rattle.std.proofs.Common.{◌≡◌, ℕ, ◌^◌, map, min, ap, ◌∙◌, subst, rules}
use Rattle.std.specs.FinMap.{entries}
use Rattle.sched_rows.specs.Holding.{row_entry}
use Rattle.sched_rows.specs.Rows.{Rows}
use Rattle.term_core.specs.declared.program.InputDecl.{InputDecl}
use Rattle.core_rules.specs.Openings.{Durable, latest, or_declared, stored_at}
use Rattle.engine_core.specs.inside.Opening.{AreNoJobs, AreRowsFor}
use Rattle.engine_core.proofs.StoredRows.{parts_opened_by, times_by}
use Rattle.engine_core.proofs.stored.opened_parts.Goals as goal

pub stored_rows-requires-clause-times : goal.stored_rows-requires-clause-times
stored_rows-requires-clause-times c = search (rules, times_by)

pub returns : goal.returns
returns c =
    let decls : c.as_slice.result.now ≡ c.args.program.now.inputs = search rules in
    let stored : c.as_slice-2.result.now ≡ c.args.durable.inputs = search rules in
    let low : c.min.result ≡ min c.args.reading (2 ^ 60) = search rules in
    let all : map row_entry c.as_slice-3.result.now ≡ entries c.in_ok-rows.rows.rows = search rules in
    parts_opened_by c.args.program.now c.args.durable c.args.threshold c.args.reading _
    (c.in_ok-inputs.ensures ∙ (λ i. map (λ (d : InputDecl). or_declared d (stored_at (stored i) d.name)) (decls i)))
    (subst (λ (m : Rows). AreRowsFor c.args.program.now m c.in_ok-rows.rows) (ap (λ (d : Durable). d.rows) c.durable.view_is) c.in_ok-rows.ensures)
    (subst (λ (n : ℕ). AreNoJobs c.args.program.now c.args.threshold n c.in_ok-jobs.jobs) (ap (λ (d : Durable). d.next) c.durable.view_is) c.in_ok-jobs.ensures)
    (c.latest-moment.ensures ∙ (λ i. latest (low i) (all i)))
