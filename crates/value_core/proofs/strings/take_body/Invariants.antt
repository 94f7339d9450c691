use Rattle.std.proofs.Common.{◌≡◌, drop}
use Rattle.value_core.specs.declared.strings.Mode.TheVariants.{Plain}
use Rattle.value_core.specs.Strings.{body_at}
use Rattle.value_core.proofs.Scans.{prefixed}
use Rattle.value_core.proofs.strings.take_body.Given as goal

abbrev pub invariant-loop-b : goal.invariant-loop-b
invariant-loop-b l = (l.len ≡ l.b-index) × (prefixed l.text.items l.len (body_at l.mode (drop l.b-index l.bytes)) ≡ body_at Plain l.bytes)
