use Rattle.std.proofs.Common.{subst, sym}
use Rattle.std.specs.Arc.{arc_value}
use Rattle.snap_read.specs.Lists.{IsLast}
use Rattle.snap_read.proofs.Fronts.{if_ok_at}
use Rattle.snap_read.proofs.Rising.{is_last}
use Rattle.snap_read.proofs.shown.Shown.last.Goals as goal

pub returns : goal.returns
returns g c =
    let b = c.self.inside in
    let test = g.J.SnapNaming.test in
    let last = is_last test b.front (arc_value b.last) c.facts.ensures.test c.facts.ensures.rising c.self.invariant in
    let read : IsLast test b.front c.deref-last.result.now = subst (IsLast test b.front) (sym c.deref-last.ensures) last in
    rw (← c.self.view_is) (if_ok_at (IsLast test b.front) c.copy_of.result c.deref-last.result.now c.copy_of.ensures read)
