use Rattle.std.proofs.Common.{◌≡◌}
use Rattle.std.specs.String.{string_bytes}
use Rattle.op_keys.specs.Filling.{filled}
use Rattle.op_keys.proofs.Fillings.{filled-no_nul}
use Rattle.op_keys.proofs.order.hint_of.Goals as goal

pub from_string-requires : goal.from_string-requires
from_string-requires c =
    let is : string_bytes c.in_ok-hint-in-Some.hint ≡ filled c.as_str-in-Some.result.now c.as_str-in-Some-2.result.now c.as_str.result.now = c.in_ok-hint-in-Some.ensures in
    let key = rw (← c.as_str-in-Some.ensures.bytes) at c.as_str-in-Some.ensures.no_nul in
    let value = rw (← c.as_str-in-Some-2.ensures.bytes) at c.as_str-in-Some-2.ensures.no_nul in
    let template = rw (← c.as_str.ensures.bytes) at c.as_str.ensures.no_nul in
    rw is (filled-no_nul c.as_str-in-Some.result.now c.as_str-in-Some-2.result.now c.as_str.result.now key value template)
