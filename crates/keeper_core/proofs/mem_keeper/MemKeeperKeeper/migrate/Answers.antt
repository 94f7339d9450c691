use Rattle.keeper_core.proofs.KeepLaws.{counted_fault, moves_fault, moves_stop}
use Rattle.keeper_core.proofs.mem_keeper.MemKeeperKeeper.migrate.Goals as goal

pub returns-then-eq-clause-cause : goal.returns-then-eq-clause-cause
returns-then-eq-clause-cause c = counted_fault _ _ _ c.next-failure.ensures.same c.fail.ensures.later c.fail.ensures.rose

pub returns-then-eq-2-clause-tables : goal.returns-then-eq-2-clause-tables
returns-then-eq-2-clause-tables c = moves_fault c.args.self.now.stored c.migrate.new.self c.in_ok-done.done c.in_ok-done.ensures

pub returns-then-eq-2-clause-stop : goal.returns-then-eq-2-clause-stop
returns-then-eq-2-clause-stop c = moves_stop c.args.self.now.stored c.migrate.new.self c.in_ok-done.done c.in_ok-done.ensures

pub returns-then-eq-2-clause-cause : goal.returns-then-eq-2-clause-cause
returns-then-eq-2-clause-cause c = counted_fault _ _ _ c.next-failure.ensures.same c.fail-then-eq-2.ensures.later c.fail-then-eq-2.ensures.rose

pub returns-clause-stop : goal.returns-clause-stop
returns-clause-stop c = moves_stop c.args.self.now.stored c.migrate.new.self c.in_ok-done.done c.in_ok-done.ensures
