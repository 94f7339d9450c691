use Rattle.std.proofs.Common.{◌≡◌, ◌∙◌, Some, None, sym, ap, subst}
use Rattle.keeper_core.specs.WellFormed.{old_first_bad}
use Rattle.keeper_core.specs.declared.tables.OldTables.{OldTables}
use Rattle.keeper_core.specs.declared.stored.Stored.TheVariants.{Current}
use Rattle.keeper_core.proofs.stored.Stored.migrate.Goals as goal

pub returns-in_ok-moved-in-Old : goal.returns-in_ok-moved-in-Old
returns-in_ok-moved-in-Old c =
    record {
      old = c.in-Old.tables;
      was = ap Some c.in-Old.is;
      sound = subst (λ (t : OldTables). old_first_bad t ≡ None) c.in_ok-rows-in-Old.ensures (sym c.in_ok-table-in-Old.ensures ∙ c.in_default.is);
      moved = ap Current c.in_ok-moved-in-Old.ensures;
      results = c.results-results.ensures;
    }
