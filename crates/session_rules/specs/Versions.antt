-- How far a script came, and the version of the core then.
use Rattle.std.specs.Prelude.{◌≡◌, ℕ, ◌+◌, length}
use Rattle.session_rules.specs.Outputs.{deltas}
use Rattle.session_rules.specs.Outside.{Outside}
use Rattle.session_rules.specs.Sessions.{Finishes, Reaches, Script}
use Rattle.session_rules.specs.Transcripts.{End}

-- The script was done to its end, and each of its commits raised the version by one.
pub record FinishesCounted (t : Script) (end : End) (was now : ℕ) (e e' : Outside) : Type 0 where
  pub finishes : Finishes t end e e'
  pub versions : now ≡ was + length (deltas finishes.outputs)

-- The same up to where another one goes on.
pub record ReachesCounted (t t' : Script) (was now : ℕ) (e e' : Outside) : Type 0 where
  pub reaches : Reaches t t' e e'
  pub versions : now ≡ was + length (deltas reaches.outputs)
