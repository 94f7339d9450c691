use Rattle.std.proofs.Common.{◌≡◌, ◌∙◌, sym, true, false, refl}
use Rattle.visit_rules.proofs.Passing.{any_found, any_left, passes_is}
use Rattle.visit_rules.specs.KnownChanges.{known_in}
use Rattle.visit_rules.specs.Visits.{Test, bodies_of, parts_of, passes}
use Rattle.visit_rules.specs.declared.visit.Visit.TheViews.{out-Visit}
use Rattle.incr_eval.proofs.dirty.+telling.Goals as goal

pub has_dirty_part-returns-then-is_dirty : goal.has_dirty_part-returns-then-is_dirty
has_dirty_part-returns-then-is_dirty g t c =
    sym (sym c.loop-i.invariant ∙ any_found (passes (known_in c.args.setting.now)) (parts_of c.args.old.now) c.loop-i.i c.part.result c.part.ensures.part (sym c.if-is_dirty.ensures))

pub has_dirty_part-loop-i-preserved : goal.has_dirty_part-loop-i-preserved
has_dirty_part-loop-i-preserved g t c =
    sym (any_left (passes (known_in c.args.setting.now)) (parts_of c.args.old.now) c.loop-i.i c.part.result c.part.ensures.part (sym c.if-is_dirty.ensures)) ∙ c.loop-i.invariant

pub has_dirty_body-returns-then-is_dirty : goal.has_dirty_body-returns-then-is_dirty
has_dirty_body-returns-then-is_dirty g t c =
    sym (sym c.loop-i.invariant ∙ any_found (passes (known_in c.args.setting.now)) (bodies_of c.args.old.now) c.loop-i.i c.body.result c.body.ensures.body (sym c.if-is_dirty.ensures))

pub has_dirty_body-loop-i-preserved : goal.has_dirty_body-loop-i-preserved
has_dirty_body-loop-i-preserved g t c =
    sym (any_left (passes (known_in c.args.setting.now)) (bodies_of c.args.old.now) c.loop-i.i c.body.result c.body.ensures.body (sym c.if-is_dirty.ensures)) ∙ c.loop-i.invariant

pub is_dirty-returns-then-is_changed : goal.is_dirty-returns-then-is_changed
is_dirty-returns-then-is_changed g t c =
    let test : Test = known_in c.args.setting.now in
    let r : test (out-Visit c.args.old.now).read ≡ true = rw c.read.ensures at (sym c.if-is_changed.ensures) in
    sym (passes_is test c.args.old.now ∙ rw r refl)

pub is_dirty-returns-then-has_dirty_part : goal.is_dirty-returns-then-has_dirty_part
is_dirty-returns-then-has_dirty_part g t c =
    let test : Test = known_in c.args.setting.now in
    let r : test (out-Visit c.args.old.now).read ≡ false = rw c.read.ensures at (sym c.if-is_changed.ensures) in
    sym (passes_is test c.args.old.now ∙ rw (r, sym c.if-has_dirty_part.ensures) refl)

pub is_dirty-returns : goal.is_dirty-returns
is_dirty-returns g t c =
    let test : Test = known_in c.args.setting.now in
    let r : test (out-Visit c.args.old.now).read ≡ false = rw c.read.ensures at (sym c.if-is_changed.ensures) in
    c.has_dirty_body.ensures ∙ sym (passes_is test c.args.old.now ∙ rw (r, sym c.if-has_dirty_part.ensures) refl)
