use Rattle.std.proofs.Common.{◌≡◌, List, [], ◌∷◌, sym, subst, rules, arith}
use Rattle.std.proofs.lemmas.List.{nil_from_length}
use Rattle.std.specs.Vec.Iter.{into_iter_items}
use Rattle.sched_rows.specs.declared.row.Row.{Row}
use Rattle.engine_core.proofs.StoredRows.{Loading, loading_begins, loading_ends, loading_next, loading_times}
use Rattle.engine_core.proofs.stored.stored_rows.Goals as goal

pub loop-row-init : goal.loop-row-init
loop-row-init c =
    let all = into_iter_items c.into_iter-row-iterator.result in
    subst (Loading c.args.program.now all all) (sym c.new-rows.ensures) (loading_begins c.args.program.now all)

pub take_over-requires-clause-time : goal.take_over-requires-clause-time
take_over-requires-clause-time c =
    let cons : into_iter_items c.loop-row.row-iterator ≡ c.in-Some.row ∷ into_iter_items c.next.new.self = search rules in
    let items : into_iter_items c.into_iter-row-iterator.result ≡ c.args.stored = search rules in
    let loading = subst (λ (all : List Row). Loading c.args.program.now all (into_iter_items c.loop-row.row-iterator) c.loop-row.rows) items c.loop-row.invariant in
    loading_times c.args.program.now c.args.stored c.in-Some.row (into_iter_items c.next.new.self) c.loop-row.rows c.requires.times
    (subst (λ (left : List Row). Loading c.args.program.now c.args.stored left c.loop-row.rows) cons loading)

pub loop-row-preserved : goal.loop-row-preserved
loop-row-preserved c =
    let all = into_iter_items c.into_iter-row-iterator.result in
    let cons : into_iter_items c.loop-row.row-iterator ≡ c.in-Some.row ∷ into_iter_items c.next.new.self = search rules in
    loading_next c.args.program.now all c.in-Some.row (into_iter_items c.next.new.self) c.loop-row.rows c.take_over.new.rows
    (subst (λ (left : List Row). Loading c.args.program.now all left c.loop-row.rows) cons c.loop-row.invariant) c.in_ok-take_over.ensures

pub returns : goal.returns
returns c =
    let none : into_iter_items c.loop-row.row-iterator ≡ [] = nil_from_length _ (omega (arith, c.in-None.ensures.steps.0, c.loop-row.row-iterator.rest.ok.0)) in
    let items : into_iter_items c.into_iter-row-iterator.result ≡ c.args.stored = search rules in
    let loading = subst (λ (all : List Row). Loading c.args.program.now all (into_iter_items c.loop-row.row-iterator) c.loop-row.rows) items c.loop-row.invariant in
    loading_ends c.args.program.now c.args.stored c.loop-row.rows (subst (λ (left : List Row). Loading c.args.program.now c.args.stored left c.loop-row.rows) none loading)
