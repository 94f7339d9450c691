-- What a program reads.
use Rattle.std.specs.Prelude.{ℕ, ◌+◌, nat_lt, Bool, true, false, ◌&&◌, ◌||◌, if◌then◌else◌, List, [], ◌∷◌, map, Option, Some, None}
use Rattle.std.specs.List.{filter, list_any}
use Rattle.std.specs.Str.{bytes_eq}
use Rattle.op_keys.specs.Levels.{rank}
use Rattle.op_keys.specs.declared.declarations.OpDecl.{OpDecl}
use Rattle.op_keys.specs.declared.level.Level.{Level}
use Rattle.term_core.specs.Limits.{parts_of}
use Rattle.term_core.specs.declared.program.InputDecl.{InputDecl}
use Rattle.term_core.specs.declared.program.Program.{Program}
use Rattle.term_core.specs.declared.program.Term.{Term, Term-F, fold-Term}
use Rattle.term_check.specs.declared.report.Report.{Report}
use Rattle.term_check.specs.declared.report.Role.{Role}
use Rattle.term_check.specs.declared.report.Role.TheVariants as role

-- whether inputs are meant
abbrev pub is_input : Role → Bool
is_input role.Input = true
is_input role.Op = false

-- whether operations are meant
abbrev pub is_op : Role → Bool
is_op role.Input = false
is_op role.Op = true

-- whether a layer of a term names this input, or looks up this operation
abbrev pub names_here : {A : Type 0} → Role → List ℕ → Term-F A → Bool
names_here r n (Term-F.Input m) = is_input r && bytes_eq m n
names_here r n (Term-F.Build op k) = is_op r && bytes_eq op n
names_here r n (Term-F.Output op k v) = is_op r && bytes_eq op n
names_here r n x = false

-- whether a layer of a term has a body, which is evaluated for a value or for each of a list
abbrev pub has_body : Term-F Bool → Bool
has_body (Term-F.Bind n t u) = true
has_body (Term-F.ListMap n t u) = true
has_body (Term-F.ListIter n t u) = true
has_body x = false

-- whether a term, or a term in it, passes a test of its outermost layer
abbrev pub some_term : (Term-F Bool → Bool) → Term → Bool
some_term test = fold-Term Bool (λ x. test x || list_any (λ b. b) (parts_of x))

-- whether some term of a program does
abbrev pub in_some_node : (Term-F Bool → Bool) → Program → Bool
in_some_node test p = list_any (λ d. some_term test d.term) p.nodes

-- whether some term names a declaration
abbrev pub is_used : {D : Type 0} → Program → Role → (D → List ℕ) → D → Bool
is_used p r named d = in_some_node (names_here r (named d)) p

-- whether some term names an input
abbrev pub is_used_input : Program → InputDecl → Bool
is_used_input p = is_used p role.Input (λ d. d.name)

-- whether some term looks up an operation
abbrev pub is_used_op : Program → OpDecl → Bool
is_used_op p = is_used p role.Op (λ d. d.name)

-- the numbers of the declarations that pass a test, counted from a number on
abbrev pub numbers_where : {D : Type 0} → (D → Bool) → ℕ → List D → List ℕ
numbers_where test at [] = []
numbers_where test at (d ∷ ds) = if test d then at ∷ numbers_where test (at + 1) ds else numbers_where test (at + 1) ds

-- the higher of two levels, the first of which may be missing
abbrev pub higher : Option Level → Level → Level
higher None l = l
higher (Some g) l = if nat_lt (rank l) (rank g) then g else l

-- the greatest of a level that may be missing and of more levels
abbrev pub greatest_level : Option Level → List Level → Option Level
greatest_level found [] = found
greatest_level found (l ∷ ls) = greatest_level (Some (higher found l)) ls

-- the inputs and operations that some term names, by their numbers; the greatest level of these operations; and whether a term has a body
unfoldable pub report_of : Program → Report
report_of p = record {
  inputs = numbers_where (is_used_input p) 0 p.inputs;
  ops = numbers_where (is_used_op p) 0 p.ops;
  level = greatest_level None (map (λ d. d.level) (filter (is_used_op p) p.ops));
  dynamic = in_some_node has_body p;
}
