use Rattle.std.proofs.Common.{◌≡◌, drop, map}
use Rattle.std.specs.Option.{option_copied}
use Rattle.core_rules.specs.Settling.{least_from, least_value, values_on}
use Rattle.core_rules.proofs.lookups.least_on.Given as goal

abbrev pub invariant-loop-want : goal.invariant-loop-want
invariant-loop-want l = least_from (option_copied l.least) (values_on (map (λ w. w.0) (drop l.want-index l.wants)) l.op l.key) ≡ least_value (values_on (map (λ w. w.0) l.wants) l.op l.key)
