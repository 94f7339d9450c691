-- Results of exits, rows that a change may mark, and what calls return.
use Rattle.std.specs.Prelude.{◌≡◌, ℕ, Bool, if◌then◌else◌, List, Option, Result, Ok, Err, IfOk}
use Rattle.std.specs.Option.{option_map}
use Rattle.value_core.specs.declared.state.Stage.{Stage}
use Rattle.op_keys.specs.declared.declarations.OpDecl.{OpDecl}
use Rattle.term_core.specs.declared.entries.Entry.{Entry}
use Rattle.sched_rows.specs.declared.row.Row.{Row}
use Rattle.sched_rows.specs.Rows.{marked}
use Rattle.engine_rules.specs.declared.exits.ExitResult.{ExitResult}
use Rattle.engine_rules.specs.declared.exits.ExitResult.TheVariants.{Fine, Failed}
use Rattle.engine_rules.specs.declared.finding.MarkedRow.{MarkedRow}
use Rattle.engine_rules.specs.declared.finding.Moment.{Moment}
use Rattle.engine_rules.specs.Found.{found_entry}

-- Ok has this
abbrev pub Returns : {A E : Type 0} → A → Result A E → Type 0
Returns x result = IfOk result (λ y. y ≡ x)

-- a result, or the message why there is none
abbrev pub result_of : ExitResult → Result (List ℕ) (List ℕ)
result_of (Fine t) = Ok t
result_of (Failed m) = Err m

-- a row, or the same with the rebuild mark
abbrev pub as_marked : Bool → Row → Row
as_marked b r = if b then marked r else r

-- a row, with the mark that a change gives it
abbrev pub row_seen : MarkedRow → Row
row_seen m = as_marked m.marked m.row.now

-- the same of a row that may be there
abbrev pub row_if_seen : Option MarkedRow → Option Row
row_if_seen = option_map row_seen

-- the row without the mark
abbrev pub bare_row : Option MarkedRow → Option Row
bare_row = option_map (λ m. m.row.now)

-- Ok has what a triple of an operation is found to be
abbrev pub Finds : {E : Type 0} → Moment → Option OpDecl → Option Stage → Option Row → Result Entry E → Type 0
Finds m d stage row result = Returns (found_entry m.threshold m.at d stage row) result
