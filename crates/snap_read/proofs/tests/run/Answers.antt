use denote.Param.Send.{sendable}
use Rattle.std.proofs.Crossing.{sync}
use Rattle.snap_read.proofs.Sent.{shown_send, shown_sync, writer_send}
use Rattle.snap_read.proofs.tests.run.Goals as goal

-- the writer may go to the thread that publishes
pub join-wrote-requires-send-F : goal.join-wrote-requires-send-F
join-wrote-requires-send-F g c κs within = search (sendable, sync, writer_send, shown_send, shown_sync) depth 30
