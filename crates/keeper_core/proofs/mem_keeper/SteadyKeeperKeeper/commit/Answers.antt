use Rattle.keeper_core.specs.declared.stored.Stored.TheVariants.{Current}
use Rattle.keeper_core.specs.EitherSchema.{committed}
use Rattle.keeper_core.proofs.KeepLaws.{becomes, committed_current, just, leaves}
use Rattle.keeper_core.proofs.mem_keeper.SteadyKeeperKeeper.commit.Goals as goal

pub returns-clause-tables : goal.returns-clause-tables
returns-clause-tables c =
    (becomes (committed c.args.delta.now) (Current c.args.self.now.tables) (Current c.commit.new.self) (committed_current c.args.delta.now c.args.self.now.tables c.commit.new.self c.in_ok-commit.ensures.ok), just (Current c.commit.new.self))

pub returns-clause-stop : goal.returns-clause-stop
returns-clause-stop c =
    leaves (committed c.args.delta.now) (Current c.args.self.now.tables) (Current c.commit.new.self) (committed_current c.args.delta.now c.args.self.now.tables c.commit.new.self c.in_ok-commit.ensures.ok)
