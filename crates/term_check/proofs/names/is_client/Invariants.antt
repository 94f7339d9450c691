use Rattle.std.proofs.Common.{◌≡◌, drop}
use Rattle.std.specs.Prelude.{◌&&◌}
use Rattle.std.specs.List.{list_any}
use Rattle.std.specs.Str.{bytes_eq}
use Rattle.term_core.specs.Soundness.{is_client}
use Rattle.term_check.proofs.names.is_client.Given as goal

abbrev pub invariant-loop-client : goal.invariant-loop-client
invariant-loop-client l = list_any (λ d. bytes_eq d.name l.name && bytes_eq d.pool l.pool) (drop l.client-index l.client-items) ≡ is_client l.program l.name l.pool
