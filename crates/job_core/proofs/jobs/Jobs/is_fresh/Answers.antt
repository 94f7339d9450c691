use Rattle.std.proofs.Common.{◌≡◌, ℕ, true, not, ◌&&◌, Some, sym, ap, ◌∙◌}
use Rattle.std.specs.Prelude.{option_map, slice_get}
use Rattle.value_core.specs.declared.state.Triple.{Triple}
use Rattle.value_core.proofs.Basics.{some_is}
use Rattle.core_rules.specs.Entries.{row_of}
use Rattle.core_rules.specs.Own.{rows_made}
use Rattle.core_rules.specs.Parts.{core_of}
use Rattle.core_rules.specs.Settling.{is_valid}
use Rattle.job_core.specs.Wants.{is_fresh, is_open, triples_in}
use Rattle.job_core.proofs.Walks.{first_get}
use Rattle.job_core.proofs.jobs.Jobs.is_fresh.Goals as goal

pub returns-then-is_open-clause-fresh : goal.returns-then-is_open-clause-fresh
returns-then-is_open-clause-fresh c =
    let ts = triples_in c.args.wants.now in
    let w = c.index-wants-index.result in
    let js = c.args.walk.now.live.now.jobs in
    let rows = rows_made c.args.rows.now.change.now c.args.rows.now.rows.now.rows in
    let here : slice_get ts c.args.index ≡ Some w.0 = first_get c.args.wants.now c.args.index w c.requires.within c.index-wants-index.is in
    let opened : is_open ts js w.0 ≡ true = some_is _ _ (sym (ap (option_map (is_open ts js)) here) ∙ c.is_open.ensures.opens) ∙ c.if-is_open.true in
    let valid = ap (λ (v : Triple × ℕ). is_valid (core_of c.args.self.now.work rows c.args.rows.now.moment) (slice_get c.args.self.now.work.program.ops v.0.op) (row_of (core_of c.args.self.now.work rows c.args.rows.now.moment) v.0)) c.index-wants-index.is
    ∙ sym c.has_valid.ensures in
    ap (option_map (is_fresh ts (core_of (record c.args.self.now.work { jobs = js }) rows c.args.rows.now.moment))) here
    ∙ ap Some (λ i. opened i && not (valid i))
