use Rattle.std.proofs.Common.{◌≡◌, ◌+◌, [], ◌∷◌, length, length-append, ap, sym, subst, ◌∙◌, arith}
use Rattle.made_session.specs.inside.Echoes.{AreEchoed}
use Rattle.made_session.proofs.Echoing.{echoed_more}
use Rattle.made_session.proofs.echoes.CountedEchoesLauncher.run.Goals as goal

pub invariant_of-self-in-Ok : goal.invariant_of-self-in-Ok
invariant_of-self-in-Ok c =
    let grown = c.in-Ok.ensures.ran in
    let old = c.self.invariant in
    let echoes : length c.run.new.self ≡ length c.self.inside.echoes + 1 = ap length grown ∙ length-append c.self.inside.echoes ((c.args.order.now, c.in-Ok.exit) ∷ []) in
    let jobs : length c.push.new.self.items ≡ length c.self.inside.jobs.items + 1 = ap length c.in_ok-push.ensures.items ∙ length-append c.self.inside.jobs.items _ in
    let same = old.1 in
    (subst AreEchoed (sym grown) (echoed_more c.self.inside.echoes c.args.order.now c.in-Ok.exit old.0 c.in-Ok.ensures.echoes), omega (arith, echoes, jobs, same))
