-- Calls that are to fail.
use Rattle.std.specs.Prelude.{ℕ, ◌==◌, if◌then◌else◌, List, [], ◌∷◌, Option, Some, None, Vec}
use Rattle.std.specs.declared.alloc.Global.{Global}
use Rattle.keeper_core.specs.declared.failing.Calls.{Calls}
use Rattle.keeper_core.specs.declared.failing.FailingCall.{FailingCall}
use Rattle.keeper_core.specs.declared.failing.Failure.{Failure}

-- how the call of a number is to fail: as the first of that number says
abbrev pub failure_at : List FailingCall → ℕ → Option Failure
failure_at [] n = None
failure_at (c ∷ cs) n = if c.number == n then Some c.failure else failure_at cs n

-- no call was made, and these are to fail
abbrev pub no_calls : Vec FailingCall Global → Calls
no_calls failing = record { failing = failing; made = 0; faults = 0 }
