use Rattle.sched_rows.proofs.EndSets.{ends_of-nil}
use Rattle.sched_rows.proofs.expiry_index.ExpiryIndex.new.Goals as goal

pub returns : goal.returns
returns c = ends_of-nil c.new.result.items c.new.ensures.items
