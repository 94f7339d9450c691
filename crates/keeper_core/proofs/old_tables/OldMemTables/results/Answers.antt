use Rattle.std.proofs.Common.{◌≡◌, ◌∙◌, ap, arith, length}
use Rattle.std.specs.FinMap.{entries}
use Rattle.keeper_core.specs.Contents.{OldContents, old_key_cmp}
use Rattle.keeper_core.proofs.EntryLaws.{length-map_of}
use Rattle.keeper_core.proofs.old_tables.OldMemTables.results.Goals as goal

pub returns : goal.returns
returns c =
    let long = c.self.inside.cache.ok in
    let counted : c.len.result ≡ length c.self.inside.cache.items = omega (arith, c.len.ensures) in
    counted ∙ length-map_of old_key_cmp c.self.inside.cache.items c.self.invariant.cache ∙ ap (λ (t : OldContents). length (entries t.cache)) c.self.view_is
