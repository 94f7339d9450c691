use Rattle.store_keepers.proofs.Counts.{fault_counted}
use Rattle.store_keepers.proofs.store_keepers.StoreKeepersKeepers.open.Goals as goal

pub returns-in-Err-Fault-clause-cause : goal.returns-in-Err-Fault-clause-cause
returns-in-Err-Fault-clause-cause c = fault_counted _ _ c.count_fault.ensures.later c.count_fault.ensures.rose
