-- What a plan knows of the sources that may have changed.
use Rattle.std.specs.Prelude.{ℕ, ◌+◌, Bool, true, false, not, ◌&&◌, ◌==◌, if◌then◌else◌, List, [], ◌∷◌, ◌++◌, Option, Some, None, slice_get}
use Rattle.std.specs.List.{list_any, list_all}
use Rattle.value_core.specs.Codes.{state_code, value_code}
use Rattle.value_core.specs.Same.{same}
use Rattle.value_core.specs.declared.state.State.{State}
use Rattle.value_core.specs.declared.state.Triple.{Triple}
use Rattle.value_core.specs.declared.value.Value.{Value}
use Rattle.term_core.specs.Evaluation.{context_of, value_or_unit}
use Rattle.term_core.specs.World.{World, entry_of}
use Rattle.value_core.specs.Orders.{same_triple}
use Rattle.term_core.specs.declared.entries.Entry.{Entry}
use Rattle.term_core.specs.declared.program.NodeDecl.{NodeDecl}
use Rattle.term_core.specs.declared.program.Program.{Program}
use Rattle.term_core.specs.Codes.{entry_code}
use Rattle.visit_rules.specs.Again.{Again, again_by}
use Rattle.visit_rules.specs.Traces.{AgainAll, first_trace, later_traces}
use Rattle.visit_rules.specs.Visits.{Test, state_of}
use Rattle.visit_rules.specs.declared.changes.Looked.{Looked}
use Rattle.visit_rules.specs.declared.setting.Pass.{Pass}
use Rattle.visit_rules.specs.declared.setting.Setting.{Setting}
use Rattle.visit_rules.specs.declared.visit.Read.{Read}
use Rattle.visit_rules.specs.declared.visit.Read.TheVariants as read
use Rattle.visit_rules.specs.declared.visit.Visit.{Visit}
use Rattle.visit_rules.specs.declared.visit.Visit.TheOpen.{Visit-F}
use Rattle.visit_rules.specs.declared.visit.Visit.TheFolds.{fold-Visit}

-- whether a number is in the list
abbrev pub is_named : List ℕ → ℕ → Bool
is_named ns n = list_any (λ m. m == n) ns

-- the entry that was looked up for a triple
abbrev pub found_entry : List Looked → Triple → Option Entry
found_entry [] t = None
found_entry (l ∷ ls) t = if same_triple l.triple t then Some l.entry else found_entry ls t

-- whether an entry that was looked up is another one
abbrev pub is_other : Option Entry → Entry → Bool
is_other None e = false
is_other (Some f) e = not (same entry_code f e)

-- whether a node has moved; one of which nothing is known has not
abbrev pub has_moved : Option Bool → Bool
has_moved None = false
has_moved (Some b) = b

-- whether what was read is known to differ: by the inputs and the entries that may have changed, the nodes that have moved, and the values of the inputs
abbrev pub known_to_differ : List ℕ → List Looked → List Bool → List Value → Test
known_to_differ named looked moved inputs read.Nothing = false
known_to_differ named looked moved inputs (read.Input place v) = is_named named place && not (same value_code (value_or_unit (slice_get inputs place)) v)
known_to_differ named looked moved inputs (read.Node place s) = has_moved (slice_get moved place)
known_to_differ named looked moved inputs (read.Lookup t e) = is_other (found_entry looked t) e

-- what is known of the context to have changed
abbrev pub known_in : {E : Type 0} → Setting E → Test
known_in s = known_to_differ s.changed.inputs.now s.changed.looked.now s.changed.moved.now s.context.inputs.now

-- whether two tests agree on what was read
abbrev pub agree_on : Test → Test → Read → Bool
agree_on p q r = if p r then q r else not (q r)

-- whether a test holds of what was read in one visit and below it, by whether it does in those below
abbrev pub all_read_step : Test → Visit-F Bool → Bool
all_read_step test x = test x.read && (list_all (λ b. b) x.parts && list_all (λ b. b) x.bodies)

-- whether a test holds of all that was read in the tree
abbrev pub all_read : Test → Visit → Bool
all_read test = fold-Visit Bool (all_read_step test)

-- whether two tests agree on all that was read in the tree
abbrev pub agrees : Test → Test → Visit → Bool
agrees p q = all_read (agree_on p q)

-- whether a triple is in the list
abbrev pub is_among : List Triple → Triple → Bool
is_among ts t = list_any (λ u. same_triple u t) ts

-- the entries of the named triples that are wanted
abbrev pub looked_at : World → List Triple → List Triple → List Looked
looked_at world ws [] = []
looked_at world ws (t ∷ ts) = if is_among ws t then record { triple = t; entry = entry_of world t } ∷ looked_at world ws ts else looked_at world ws ts

-- whether a node's state is another than that of the tree that there was
abbrev pub is_moved : Option Visit → State → Bool
is_moved None s = true
is_moved (Some v) s = not (same state_code s (state_of v))

-- the nodes in file order from a number on, each over the tree that there was, with what is known to differ visited again
abbrev pub renewed_from : Program → List ℕ → List Looked → List Value → World → ℕ → List Bool → List State → List NodeDecl → List Visit → AgainAll
renewed_from program named looked inputs world at moved earlier [] olds = record { traces = []; ticks = 0 }
renewed_from program named looked inputs world at moved earlier (d ∷ ds) olds =
    let r : Again = again_by (known_to_differ named looked moved inputs) (context_of program at inputs earlier world) d.term (first_trace olds) [] in
    let s : State = state_of r.visit in
    let rest : AgainAll = renewed_from program named looked inputs world (at + 1) (moved ++ is_moved (first_trace olds) s ∷ []) (earlier ++ s ∷ []) ds (later_traces olds) in
    record { traces = r.visit ∷ rest.traces; ticks = r.ticks + rest.ticks }

-- of each node whether its state is another than that of the tree that there was
abbrev pub moved_between : List Visit → List State → List Bool
moved_between olds [] = []
moved_between olds (s ∷ ss) = is_moved (first_trace olds) s ∷ moved_between (later_traces olds) ss

-- all nodes, each over the tree that there was, with what is known to differ visited again
abbrev pub renewed_all : {E : Type 0} → (E → World) → Pass E → List Visit → AgainAll
renewed_all world s olds = renewed_from s.program.now s.named.now s.looked.now s.inputs.now (world s.entries.now) 0 [] [] s.program.now.nodes olds
