-- One input whose file is watched.
use Rattle.std.specs.Prelude.{◌≡◌, ℕ, List, Option, Some, None, slice_get}
use Rattle.term_core.specs.declared.program.InputDecl.{InputDecl}
use Rattle.io_ends.specs.Known.{content_now}
use Rattle.session_rules.specs.Parts.{Part, nothing}
use Rattle.session_rules.specs.Scenes.{at_content}
use Rattle.session_rules.specs.Steps.{Counting}
use Rattle.session_rules.specs.Watching.{content_found, watch_one}
use Rattle.session_core.specs.declared.session.Session.{Session}

-- the declared inputs of a session's program
abbrev pub inputs_of : {K G N : Type 0} → Session K G N → List InputDecl
inputs_of s = s.desk.engine.core.program.inputs

-- a call left the program
abbrev pub KeepsProgram : {K G N : Type 0} → Session K G N → Session K G N → Type 0
KeepsProgram old new = new.desk.engine.core.program ≡ old.desk.engine.core.program

-- the file of an input is read, and the input set
abbrev pub watch_file : Counting → ℕ → List ℕ → List ℕ → Part
watch_file counting index name path s =
    content_found counting index name (content_now (s.contents path)) (at_content path s)

-- the file of this input, if it is one and has one
abbrev pub watch_found : Counting → ℕ → Option InputDecl → Part
watch_found counting index None = nothing
watch_found counting index (Some d) = watch_one counting index d.name d.watch

-- the file of the input at an index
abbrev pub watch_nth : Counting → ℕ → List InputDecl → Part
watch_nth counting index inputs = watch_found counting index (slice_get inputs index)
