use Rattle.std.proofs.Common.{◌≡◌, drop}
use Rattle.std.specs.List.{list_any}
use Rattle.std.specs.Str.{bytes_eq}
use Rattle.term_core.specs.Soundness.{is_pool}
use Rattle.term_check.proofs.names.is_pool.Given as goal

abbrev pub invariant-loop-pool : goal.invariant-loop-pool
invariant-loop-pool l = list_any (λ d. bytes_eq d.name l.name) (drop l.pool-index l.pool-items) ≡ is_pool l.program l.name
