use Rattle.std.proofs.Common.{◌≡◌, ◌∙◌, true, cond, ap, arith}
use Rattle.std.specs.List.{insert}
use Rattle.std.specs.Result.{is_ok}
use Rattle.sched_rows.proofs.IndexLaws.{index_inserted, places_within_rows}
use Rattle.sched_rows.proofs.places.insert_at.Goals as goal

pub open_place-requires : goal.open_place-requires
open_place-requires c =
    let held = c.args.held.now in
    let long = held.ok in
    let small = held.small in
    let room = c.requires.room in
    places_within_rows c.args.held.now.items c.args.index.now.set _ c.requires.indexed (omega arith)

pub returns-clause-indexed : goal.returns-clause-indexed
returns-clause-indexed c =
    let ok : is_ok c.insert.result ≡ true = c.insert.ensures.succeeds c.requires.room in
    let items : c.insert.new.self.items ≡ insert c.args.held.now.items c.args.place c.args.one = c.insert.ensures.items ∙ ap (λ b. cond b (insert c.args.held.now.items c.args.place c.args.one) c.args.held.now.items) ok in
    let long = c.args.held.now.ok in
    let within = c.requires.within in
    index_inserted c.args.held.now.items c.insert.new.self.items c.args.index.now.set c.open_place.new.self.set c.add_end.new.index.set c.args.place c.args.one c.end_of-end.result
    c.requires.indexed (omega arith) c.open_place.ensures.items c.add_end.ensures.set c.end_of-end.ensures items
