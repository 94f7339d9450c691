-- What the entries are, as plain data.
use Rattle.std.specs.Prelude.{if◌then◌else◌, List, [], ◌∷◌, Option, Some, None, slice_get}
use Rattle.value_core.specs.Orders.{same_triple}
use Rattle.value_core.specs.declared.state.Stage.{Stage}
use Rattle.value_core.specs.declared.state.Stage.TheVariants.{Ready}
use Rattle.value_core.specs.declared.state.Triple.{Triple}
use Rattle.term_core.specs.declared.entries.Entry.{Entry}
use Rattle.term_core.specs.declared.entries.Entry.TheVariants.{Active}

-- a finite map from triples, and for each operation the stage of every other triple
pub record World : Type 0 where
  pub entries : List (Triple × Entry)
  pub unstarted : List Stage

-- a stage that is there, or ready
abbrev pub stage_or_ready : Option Stage → Stage
stage_or_ready (Some s) = s
stage_or_ready None = Ready

-- the first entry of a triple, or another one
abbrev pub found_in : List (Triple × Entry) → Entry → Triple → Entry
found_in [] other t = other
found_in (e ∷ es) other t = if same_triple e.0 t then e.1 else found_in es other t

-- the entry of a triple
abbrev pub entry_of : World → Triple → Entry
entry_of w t = found_in w.entries (Active (stage_or_ready (slice_get w.unstarted t.op))) t
