-- Counts of faults.
use Rattle.std.proofs.Common.{ℕ, ◌≤◌, Err}
use Rattle.io_ends.specs.Causes.{Rose}
use Rattle.keeper_core.specs.KeeperCalls.{HasCause}
use Rattle.keeper_core.specs.declared.keeper.KeepFault.TheVariants as keep

-- a fault that was counted
pub fault_counted : {T : Type 0} (before now : ℕ) → before ≤ now → Rose before now → HasCause {T = T} before now (Err keep.Fault)
fault_counted before now later rose = record { later = later; failed = λ _. rose; kept = tt; free = λ e. absurd cc }
