-- Parts of a session, done one after the other.
use Rattle.std.specs.Prelude.{◌≡◌, List, [], ◌++◌, Option, Some, None}
use Rattle.op_keys.specs.declared.order.Exit.{Exit}
use Rattle.session_rules.specs.Outputs.{Output, exits}
use Rattle.session_rules.specs.Outside.{Outside, Did, Stopped}
use Rattle.session_rules.specs.Scenes.{Scene, expecting}

-- the outputs of a part, in order, and the scene after it; none if the numbers of jobs or versions are used up
pub record Turn : Type 0 where
  pub outputs : List Output
  pub scene : Option Scene

-- a part of a session, by the scene that it begins with
abbrev pub Part : Type 0
Part = Scene → Turn

-- these outputs, and this scene after them
abbrev pub does : List Output → Scene → Turn
does outputs s = record { outputs = outputs; scene = Some s }

-- nothing
abbrev pub nothing : Part
nothing s = does [] s

-- nothing more: the numbers are used up
abbrev pub used_up : Turn
used_up = record { outputs = []; scene = None }

-- outputs before those of a turn
abbrev pub preceded : List Output → Turn → Turn
preceded outputs t = record { outputs = outputs ++ t.outputs; scene = t.scene }

-- what follows outputs, if there is a scene to go on from
abbrev pub go_on : List Output → Option Scene → Part → Turn
go_on outputs None next = record { outputs = outputs; scene = None }
go_on outputs (Some s) next = preceded outputs (next s)

-- what follows a turn
abbrev pub followed : Turn → Part → Turn
followed t next = go_on t.outputs t.scene next

-- one part and then another
abbrev pub then_do : Part → Part → Part
then_do first next s = followed (first s) next

-- ---- how a part is done outside: its exits are those of the orders that were run, so that the scenes name none

-- The part was done from a scene to another one, whatever exits follow.
pub record Does (part : Part) (s s' : Scene) (e e' : Outside) : Type 0 where
  pub outputs : List Output
  pub goes : (more : List Exit) → part (expecting (exits outputs ++ more) s) ≡ does outputs (expecting more s')
  pub did : Did outputs e e'

-- The part was begun from a scene, and stopped: its first outputs were done, and perhaps a part of the next.
pub record StopsIn (part : Part) (s : Scene) (e e' : Outside) : Type 0 where
  pub outputs : List Output
  pub stopped : Stopped outputs e e'
  pub goes : (part (expecting (exits stopped.done) s)).outputs ≡ outputs

-- The part was done, and the numbers are used up.
pub record UsesUp (part : Part) (s : Scene) (e e' : Outside) : Type 0 where
  pub outputs : List Output
  pub goes : part (expecting (exits outputs) s) ≡ record { outputs = outputs; scene = None }
  pub did : Did outputs e e'

-- The part was done up to where another one goes on, whatever exits follow.
pub record Leads (part next : Part) (s s' : Scene) (e e' : Outside) : Type 0 where
  pub outputs : List Output
  pub goes : (more : List Exit) → part (expecting (exits outputs ++ more) s) ≡ preceded outputs (next (expecting more s'))
  pub did : Did outputs e e'
