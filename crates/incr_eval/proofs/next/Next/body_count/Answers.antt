use Rattle.std.proofs.Common.{refl}
use Rattle.incr_eval.proofs.Patched.{has_grown, has_stayed, length-bodies}
use Rattle.incr_eval.proofs.next.Next.body_count.Goals as goal

pub returns-in-Some : goal.returns-in-Some
returns-in-Some c =
    let g = has_grown c.in-Some.grown.instance.now c.in-Some.grown.parts.now c.in-Some.grown.from.now c.in-Some.grown.bodies.now c.self.inside.old c.args.self.now (rw c.in-Some.is at c.self.view_is) in
    rw (g.bodies_are, length-bodies) refl

pub returns-in-None : goal.returns-in-None
returns-in-None c = rw (has_stayed c.self.inside.old c.args.self.now (rw c.in-None.is at c.self.view_is)).bodies_are c.bodies_before.ensures
