-- What an event changes by itself, what is answered, and what is stored, before it is settled.
use Rattle.std.specs.Prelude.{◌≡◌}
use Rattle.core_rules.specs.Core.{CoreState}
use Rattle.core_rules.specs.declared.events.What.{What}
use Rattle.engine_rules.specs.Edits.{delta_of, edit_of, note_of}
use Rattle.engine_core.specs.declared.storing.Draft.{Draft}

-- a draft is that of an event
pub record IsDraftOf (s : CoreState) (w : What) (d : Draft) : Type 0 where
  pub edit : d.edit ≡ edit_of s w
  pub note : d.note ≡ note_of s w
  pub delta : d.delta ≡ delta_of s w
