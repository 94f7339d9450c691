use Rattle.std.proofs.Common.{inr}
use Rattle.keeper_core.specs.EitherSchema.{committed}
use Rattle.keeper_core.proofs.KeepLaws.{becomes, caused, leaves}
use Rattle.keeper_core.proofs.mem_keeper.MemKeeperKeeper.commit.Goals as goal

pub returns-then-eq-clause-cause : goal.returns-then-eq-clause-cause
returns-then-eq-clause-cause c = caused _ _ _ c.next-failure.ensures.same c.fail.ensures.later c.fail.ensures.rose

pub returns-in_err-done-clause-old : goal.returns-in_err-done-clause-old
returns-in_err-done-clause-old c = λ old. let not_old = c.in_err-done.ensures.refused in absurd (cc)

pub returns-then-not-done-clause-tables : goal.returns-then-not-done-clause-tables
returns-then-not-done-clause-tables c = inr (becomes (committed c.args.delta.now) c.args.self.now.stored c.commit.new.self c.in_ok-done.ensures.ok)

pub returns-then-not-done-clause-stop : goal.returns-then-not-done-clause-stop
returns-then-not-done-clause-stop c = leaves (committed c.args.delta.now) c.args.self.now.stored c.commit.new.self c.in_ok-done.ensures.ok

pub returns-then-not-done-clause-cause : goal.returns-then-not-done-clause-cause
returns-then-not-done-clause-cause c = caused _ _ _ c.next-failure.ensures.same c.fail-then-not-done.ensures.later c.fail-then-not-done.ensures.rose

pub returns-clause-stop : goal.returns-clause-stop
returns-clause-stop c = leaves (committed c.args.delta.now) c.args.self.now.stored c.commit.new.self c.in_ok-done.ensures.ok
