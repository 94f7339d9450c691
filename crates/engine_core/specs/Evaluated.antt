-- How many terms are evaluated.
use Rattle.std.specs.Prelude.{ℕ, List}
use Rattle.core_rules.specs.Changes.{Tried, Refuses, Idles, Makes}
use Rattle.core_rules.specs.Core.{CoreState}
use Rattle.core_rules.specs.Entries.{world}
use Rattle.core_rules.specs.Steps.{at_time, change}
use Rattle.core_rules.specs.declared.events.Event.{Event}
use Rattle.visit_rules.specs.Traces.{all_dirty, traces}
use Rattle.visit_rules.specs.declared.visit.Visit.{Visit}

-- the trees of the visits of all nodes in a state
abbrev pub trees_of : CoreState → List Visit
trees_of s = traces s.program s.inputs (world s)

-- how many terms a state has dirty over the trees of another
abbrev pub dirty_in : CoreState → CoreState → ℕ
dirty_in s t = all_dirty s.program (trees_of s) t.inputs (world t)

-- those that an event's own change makes dirty; none where the event changes nothing
abbrev pub dirty_after : CoreState → Tried → ℕ
dirty_after s (Makes c) = dirty_in s c.state
dirty_after s (Refuses r) = 0
dirty_after s (Idles n) = 0

-- those of an event
abbrev pub evaluated : CoreState → Event → ℕ
evaluated s e = dirty_after s (change (at_time s e.at) e.what)
