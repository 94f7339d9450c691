use Rattle.std.proofs.Common.{◌≡◌, drop}
use Rattle.op_keys.specs.Names.{client_index}
use Rattle.fair_pool.proofs.layout.index_of_client.Given as goal

abbrev pub invariant-loop-i : goal.invariant-loop-i
invariant-loop-i l = client_index 0 l.clients l.pool l.name ≡ client_index l.i (drop l.i l.clients) l.pool l.name
