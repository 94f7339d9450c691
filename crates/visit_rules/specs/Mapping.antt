-- Terms that apply a function.
use Rattle.std.specs.Prelude.{Bool, true, false}
use Rattle.term_core.specs.declared.program.Term.{Term-F}

-- whether a term applies a function
abbrev pub is_map : {R : Type 0} → Term-F R → Bool
is_map (Term-F.Map f t) = true
is_map t = false
