use Rattle.keeper_core.proofs.EntryLaws.{map_of-absent, map_of-remove, ordered_remove}
use Rattle.keeper_core.proofs.sorted.remove.Goals as goal

pub returns-in-Ok-clause-order : goal.returns-in-Ok-clause-order
returns-in-Ok-clause-order g c =
    ordered_remove g.K.Key.order g.met.K.Key.total c.args.key.now c.args.entries.now.items c.remove.new.self.items c.in-Ok.index c.remove.result c.requires (rw c.as_slice.ensures.value at c.in-Ok.ensures) c.remove.ensures.items

pub returns-in-Ok-clause-map : goal.returns-in-Ok-clause-map
returns-in-Ok-clause-map g c =
    map_of-remove g.K.Key.order g.met.K.Key.total g.met.K.Key.antisymmetric c.args.key.now c.args.entries.now.items c.remove.new.self.items c.in-Ok.index c.remove.result c.requires (rw c.as_slice.ensures.value at c.in-Ok.ensures) c.remove.ensures.items

pub returns-in_default-clause-map : goal.returns-in_default-clause-map
returns-in_default-clause-map g c =
    map_of-absent g.K.Key.order g.met.K.Key.total g.met.K.Key.antisymmetric c.args.key.now c.args.entries.now.items c.in_default.field-0 c.requires (rw c.as_slice.ensures.value at c.in_default.ensures)
