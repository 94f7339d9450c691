-- What an object that is a source and a sink has, and what is known of a listener's connections.
use Rattle.std.specs.Prelude.{◌≡◌, ℕ, List, [], ◌∷◌, ◌++◌, ⊤}
use Rattle.std.specs.declared.option.Option.{Option}
use Rattle.std.specs.declared.option.Option.TheVariants.{None, Some}
use Rattle.std.specs.declared.result.Result.{Result}
use Rattle.std.specs.declared.result.Result.TheVariants.{Ok, Err}
use Rattle.io_ends.specs.declared.connections.Accepted.{Accepted}
use Rattle.io_ends.specs.declared.connections.Accepted.TheVariants.{Conn, End}
use Rattle.io_ends.specs.declared.ends.Failed.{Failed}

-- the bytes that each connection of a list holds or had written on it, in order
abbrev pub Texts : Type 0
Texts = List (List ℕ)

-- the next connection to come is taken, and an end is answered exactly once none is to come;
-- connections that aren't known have no end
abbrev pub TakesNext : {C : Type 0} → Option Texts → Result (Accepted C) Failed → Option Texts → Type 0
TakesNext None (Ok (Conn conn)) new = ⊤
TakesNext None (Ok End) new = ⊥
TakesNext None (Err fault) new = ⊤
TakesNext (Some []) (Ok (Conn conn)) new = ⊥
TakesNext (Some []) (Ok End) new = new ≡ Some []
TakesNext (Some (bytes ∷ later)) (Ok (Conn conn)) new = new ≡ Some later
TakesNext (Some (bytes ∷ later)) (Ok End) new = ⊥
TakesNext (Some old) (Err fault) new = new ≡ Some old

-- a connection that was accepted holds the bytes that are known of it, and nothing was written on it
abbrev pub IsFresh :
    {C : Type 0} →
    (left written : C → Option (List ℕ)) → Option Texts → Result (Accepted C) Failed → Type 0
IsFresh left written (Some (bytes ∷ later)) (Ok (Conn conn)) =
    (left conn ≡ Some bytes) × (written conn ≡ Some [])
IsFresh left written to_come result = ⊤

-- known texts grow by that of a connection, if that is known
abbrev pub Grows : Option Texts → Option (List ℕ) → Option Texts → Type 0
Grows old written None = ⊤
Grows None written (Some new) = ⊥
Grows (Some old) None (Some new) = ⊥
Grows (Some old) (Some bytes) (Some new) = new ≡ old ++ bytes ∷ []
