-- What the engine's fields are seen as, and what they keep.
use Rattle.std.specs.Prelude.{◌≡◌, List}
use Rattle.term_core.specs.declared.program.Program.{Program}
use Rattle.sched_rows.specs.Rows.{Kept}
use Rattle.core_rules.specs.Core.{CoreState}
use Rattle.core_rules.specs.Parts.{core_of, dressed}
use Rattle.engine_rules.specs.Touched.{KeptFor}
use Rattle.visit_rules.specs.declared.visit.Visit.{Visit}
use Rattle.engine_core.specs.Evaluated.{trees_of}
use Rattle.engine_core.specs.State.{EngineState, IsEngineLawful}
use Rattle.engine_core.specs.declared.engine.Engine.TheInside.{Inside}

-- the core's state of the fields
abbrev pub core_in : Inside → CoreState
core_in i = dressed i.inputs.items i.version (core_of i.jobs.work i.rows.rows i.moment)

-- what the fields are seen as
abbrev pub shown : Inside → EngineState
shown i = record { core = core_in i; job_room = i.jobs.spare; row_room = i.rows.spare }

-- a program, a state, its rows as they are kept, and its evaluation go together
pub record AreKept (p : Program) (s : CoreState) (k : Kept) (vs : List Visit) : Type 0 where
  pub program : p ≡ s.program
  pub lawful : IsEngineLawful s
  pub expiries : KeptFor p k
  pub trees : vs ≡ trees_of s

-- the fields do
abbrev pub IsKept : Inside → Type 0
IsKept i = AreKept i.checked (core_in i) i.rows i.evaluation
