use Rattle.std.proofs.Common.{◌≡◌, ◌∙◌, ap, cond, true}
use Rattle.std.specs.List.{insert}
use Rattle.std.specs.Result.{is_ok}
use Rattle.keeper_core.proofs.EntryLaws.{map_of-insert, map_of-set, ordered_insert, ordered_set}
use Rattle.keeper_core.proofs.sorted.put.Goals as goal

pub returns-in-Ok-clause-order : goal.returns-in-Ok-clause-order
returns-in-Ok-clause-order g c =
    ordered_set g.K.Key.order g.met.K.Key.total c.args.entry c.args.entries.now.items c.in-Ok.index c.requires.order (rw c.as_slice.ensures.value at c.in-Ok.ensures)

pub returns-in-Ok-clause-map : goal.returns-in-Ok-clause-map
returns-in-Ok-clause-map g c =
    map_of-set g.K.Key.order g.met.K.Key.total c.args.entry c.args.entries.now.items c.in-Ok.index c.requires.order (rw c.as_slice.ensures.value at c.in-Ok.ensures)

pub returns-in-Err-clause-order : goal.returns-in-Err-clause-order
returns-in-Err-clause-order g c =
    let ok : is_ok c.insert.result ≡ true = c.insert.ensures.succeeds c.requires.room in
    let items : c.insert.new.self.items ≡ insert c.args.entries.now.items c.in-Err.index c.args.entry = c.insert.ensures.items ∙ ap (λ b. cond b (insert c.args.entries.now.items c.in-Err.index c.args.entry) c.args.entries.now.items) ok in
    ordered_insert g.K.Key.order g.met.K.Key.total c.args.entry c.args.entries.now.items c.insert.new.self.items c.in-Err.index c.requires.order (rw c.as_slice.ensures.value at c.in-Err.ensures) items

pub returns-in-Err-clause-map : goal.returns-in-Err-clause-map
returns-in-Err-clause-map g c =
    let ok : is_ok c.insert.result ≡ true = c.insert.ensures.succeeds c.requires.room in
    let items : c.insert.new.self.items ≡ insert c.args.entries.now.items c.in-Err.index c.args.entry = c.insert.ensures.items ∙ ap (λ b. cond b (insert c.args.entries.now.items c.in-Err.index c.args.entry) c.args.entries.now.items) ok in
    map_of-insert g.K.Key.order g.met.K.Key.total c.args.entry c.args.entries.now.items c.insert.new.self.items c.in-Err.index c.requires.order (rw c.as_slice.ensures.value at c.in-Err.ensures) items
