use Rattle.std.proofs.Common.{◌≡◌, ℕ, ◌-◌, ◌<◌, ◌≤◌, length}
use Rattle.value_core.specs.Lexing.{in_front, lexed, lexed_from}
use Rattle.value_core.proofs.lexing.tokens_of.Given as goal

abbrev pub invariant-tokens : goal.invariant-tokens
invariant-tokens l = record {
  within : l.from ≤ length l.bytes;
  so_far : (k : ℕ) × (length l.bytes - l.from < k) × (in_front l.tokens (lexed_from k l.bytes l.from) ≡ lexed l.bytes);
}

abbrev pub decreases-tokens : goal.decreases-tokens
decreases-tokens l = length l.bytes - l.from
