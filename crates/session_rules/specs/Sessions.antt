-- How far a session came in its transcript, and how it ended.
use Rattle.std.specs.Prelude.{◌≡◌, List, ◌++◌, Option, Some, None, IfSome}
use Rattle.op_keys.specs.declared.order.Exit.{Exit}
use Rattle.session_rules.specs.declared.ends.SessionEnd.{SessionEnd}
use Rattle.session_rules.specs.declared.ends.SessionEnd.TheVariants as stop
use Rattle.session_rules.specs.Outputs.{Output, exits}
use Rattle.session_rules.specs.Outside.{Outside, Did, Stopped}
use Rattle.session_rules.specs.Transcripts.{End, Quits, Limit, Bad, Transcript, before}

-- a transcript by the exits that come
abbrev pub Script : Type 0
Script = List Exit → Transcript

-- The script was done up to where another one goes on, whatever exits follow.
pub record Reaches (t t' : Script) (e e' : Outside) : Type 0 where
  pub outputs : List Output
  pub goes : (more : List Exit) → t (exits outputs ++ more) ≡ before outputs (t' more)
  pub did : Did outputs e e'

-- The script was begun and stopped: its first outputs were done, and perhaps a part of the next.
pub record Halts (t : Script) (e e' : Outside) : Type 0 where
  pub outputs : List Output
  pub stopped : Stopped outputs e e'
  pub goes : (t (exits stopped.done)).outputs ≡ outputs

-- The script was done to its end.
pub record Finishes (t : Script) (end : End) (e e' : Outside) : Type 0 where
  pub outputs : List Output
  pub goes : t (exits outputs) ≡ record { outputs = outputs; end = end }
  pub did : Did outputs e e'

-- the end of the script that an end of a session says was reached; faults say nothing
abbrev pub end_reached : SessionEnd → Option End
end_reached stop.Quit = Some Quits
end_reached stop.ReadFault = None
end_reached stop.WriteFault = None
end_reached stop.KeeperFault = None
end_reached stop.NoMemory = None
end_reached stop.LimitReached = Some Limit
end_reached (stop.BadRow table n) = Some (Bad table n)

-- a session: it came so far in its script, and to the script's end if it says so
abbrev pub IsSession : Script → SessionEnd → Outside → Outside → Type 0
IsSession t end e e' = Halts t e e' × IfSome (end_reached end) (λ reached. Finishes t reached e e')
