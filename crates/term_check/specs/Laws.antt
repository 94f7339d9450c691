-- What holds of sound programs.
use Rattle.std.specs.Prelude.{◌≡◌, ◌↔◌, ℕ, ◌≤◌, ◌==◌, true, List, length, Option, Some, None, is_some, slice_get}
use Rattle.std.specs.List.{AllByRecursion, list_any}
use Rattle.value_core.specs.FunctionKinds.{kind_given}
use Rattle.value_core.specs.declared.function.Fun.{Fun}
use Rattle.value_core.specs.declared.state.Triple.{Triple}
use Rattle.value_core.specs.declared.value.Kind.{Kind}
use Rattle.value_core.specs.declared.value.Value.{Value}
use Rattle.op_keys.specs.Levels.{rank}
use Rattle.op_keys.specs.declared.declarations.OpDecl.{OpDecl}
use Rattle.op_keys.specs.declared.level.Level.{Level}
use Rattle.term_core.specs.Evaluation.{fits}
use Rattle.term_core.specs.Fresh.{fresh}
use Rattle.term_core.specs.Limits.{IsWithinLimits}
use Rattle.term_core.specs.Soundness.{IsSound, node_kinds}
use Rattle.term_core.specs.World.{World, entry_of}
use Rattle.term_core.specs.declared.program.Program.{Program}
use Rattle.term_check.specs.Bounds.{AreProperInputs, AreProperStates, HasShortEntries}
use Rattle.term_check.specs.Faults.{check_fault}
use Rattle.term_check.specs.Functions.{fun_wanted, suits}
use Rattle.term_check.specs.Reports.{report_of}

-- a program within the limits is sound exactly where the check finds no fault
abbrev pub SoundWithoutFault : Type 0
SoundWithoutFault = (p : Program) → IsWithinLimits p → (check_fault p ≡ None) ↔ IsSound p

-- a function takes exactly the kinds that it is told to want
abbrev pub FunctionsTakeWhatTheyWant : Type 0
FunctionsTakeWhatTheyWant = (f : Fun) (k : Kind) → is_some (kind_given f k) ≡ suits (fun_wanted f) k

-- over inputs of their kinds and entries with short texts, each node of a sound program that is fine has a value of its kind
abbrev pub SoundStatesHaveTheirKinds : Type 0
SoundStatesHaveTheirKinds = (p : Program) (kinds : List Kind) (inputs : List Value) (w : World) →
    IsSound p → node_kinds p ≡ Some kinds → AreProperInputs p.inputs inputs → HasShortEntries w →
    AreProperStates kinds (fresh p inputs w).states

-- a number stands in a list
abbrev pub Lists : List ℕ → ℕ → Type 0
Lists ns n = list_any (λ m. m == n) ns ≡ true

-- the same values of the inputs that a program's report lists
abbrev pub SameInputs : Program → List Value → List Value → Type 0
SameInputs p inputs others = (i : ℕ) → Lists (report_of p).inputs i → slice_get inputs i ≡ slice_get others i

-- the same entries of the operations that a program's report lists
abbrev pub SameEntries : Program → World → World → Type 0
SameEntries p w v = (t : Triple) → Lists (report_of p).ops t.op → entry_of w t ≡ entry_of v t

-- a sound program reads only the inputs and the operations that its report lists
abbrev pub ReadsOnlyReported : Type 0
ReadsOnlyReported = (p : Program) (inputs others : List Value) (w v : World) →
    IsSound p → SameInputs p inputs others → SameEntries p w v → fresh p inputs w ≡ fresh p others v

-- a level is at most another one, which is there
abbrev pub IsAtMost : Option Level → Level → Type 0
IsAtMost None l = ⊥
IsAtMost (Some g) l = rank l ≤ rank g

-- a triple of an operation that the report lists, whose level is at most the one reported
pub record IsReported (p : Program) (t : Triple) : Type 0 where
  pub listed : Lists (report_of p).ops t.op
  pub level : (d : OpDecl) → slice_get p.ops t.op ≡ Some d → IsAtMost (report_of p).level d.level

-- a sound program wants only such triples
abbrev pub WantsOnlyReported : Type 0
WantsOnlyReported = (p : Program) (inputs : List Value) (w : World) → IsSound p → AllByRecursion (IsReported p) (fresh p inputs w).wants

-- a triple whose key and value are within the limit of texts, and whose order has words that are short enough
pub record IsWantable (p : Program) (t : Triple) : Type 0 where
  pub key : length t.key ≤ 65536
  pub value : length t.value ≤ 65536
  pub order : fits (slice_get p.ops t.op) t ≡ true

-- over inputs of their kinds and entries with short texts, a sound program wants only such triples
abbrev pub WantsOnlyWantable : Type 0
WantsOnlyWantable = (p : Program) (inputs : List Value) (w : World) →
    IsSound p → AreProperInputs p.inputs inputs → HasShortEntries w → AllByRecursion (IsWantable p) (fresh p inputs w).wants
