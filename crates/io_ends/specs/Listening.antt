-- What a listener in memory holds.
use Rattle.std.specs.Prelude.{◌≡◌, ℕ, List, [], drop, map}
use Rattle.std.specs.declared.option.Option.{Option}
use Rattle.std.specs.declared.option.Option.TheVariants.{Some}
use Rattle.io_ends.specs.Connections.{Texts}
use Rattle.io_ends.specs.declared.memory.connection.ConnInMemory.{ConnInMemory}

-- the bytes that are left to read of a connection in memory
abbrev pub left_in : ConnInMemory → List ℕ
left_in conn = drop conn.source.source.at conn.source.source.bytes.items

-- what was written on a connection in memory
abbrev pub written_on : ConnInMemory → List ℕ
written_on conn = conn.sink.bytes.items

-- nothing was written on a connection yet
abbrev pub IsUnused : ConnInMemory → Type 0
IsUnused conn = written_on conn ≡ []

-- a listener in memory: what the connections to come hold, what was written on those that came
-- back while there was room for them, and the count of faults
pub record Heard : Type 0 where
  pub to_come : Texts
  pub given_back : Option Texts
  pub faults : ℕ

-- no connection was accepted, and none came back
abbrev pub heard_nothing : List ConnInMemory → Heard
heard_nothing conns = record { to_come = map left_in conns; given_back = Some []; faults = 0 }
