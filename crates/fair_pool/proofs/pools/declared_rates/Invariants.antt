use Rattle.std.proofs.Common.{◌≡◌, map, take}
use Rattle.fair_pool.proofs.pools.declared_rates.Given as goal

abbrev pub invariant-loop-client : goal.invariant-loop-client
invariant-loop-client l = l.rates.items ≡ map (λ d. d.rate) (take l.client-index l.clients)
