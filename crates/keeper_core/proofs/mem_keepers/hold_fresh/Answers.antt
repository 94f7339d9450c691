use Rattle.keeper_core.proofs.HeldLaws.{held_pushed}
use Rattle.keeper_core.proofs.mem_keepers.hold_fresh.Goals as goal

pub returns-clause-ok : goal.returns-clause-ok
returns-clause-ok c = λ q. held_pushed c.args.held.now.items c.push.new.self.items _ q c.in_ok-push.ensures.items c.in_ok-stored.ensures
