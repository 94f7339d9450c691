use Rattle.std.proofs.Common.{get_or, pos, w64}
use Rattle.std.proofs.lemmas.Int.{to_z_pos}
use Rattle.sched_rows.proofs.Mapped.{mapped_all, mapped_more}
use Rattle.keeper_core.specs.Commits.{with_next}
use Rattle.keeper_core.specs.declared.tables.MetaRow.{MetaRow}
use Rattle.keeper_core.proofs.mem_tables.number.Goals as goal

abbrev zero : MetaRow
zero = record { id = pos 0; format = pos 0; next_job = pos 0 }

pub loop-row-preserved : goal.loop-row-preserved
loop-row-preserved c =
    let small = to_z_pos w64 c.args.next c.requires in
    mapped_more (with_next (pos c.args.next)) c.args.meta.now c.loop-row.meta c.loop-row.row-index zero _ c.loop-row-test.true c.loop-row.auto.meta c.loop-row.invariant
    (λ i. record { id = (get_or c.loop-row.meta c.loop-row.row-index zero).id; format = (get_or c.loop-row.meta c.loop-row.row-index zero).format; next_job = small i })

pub returns : goal.returns
returns c = mapped_all (with_next (pos c.args.next)) c.args.meta.now c.loop-row.meta c.loop-row.row-index c.loop-row-test.false c.loop-row.invariant
