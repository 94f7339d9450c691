use denote.Param.Send.{sendable}
use Rattle.snap_read.proofs.Sent.{reader_send}
use Rattle.snap_read.proofs.tests.fn.run.join+arg3.Goals as goal

pub join-requires-send-F : goal.join-requires-send-F
join-requires-send-F g c κs within = search (sendable, reader_send) depth 30
