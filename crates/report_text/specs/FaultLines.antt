-- Why a file is refused, in words.
use Rattle.std.specs.Prelude.{ℕ, List, [], ◌++◌, codes, decimal}
use Rattle.pipe_text.specs.LimitTable.{limit_letters}
use Rattle.pipe_text.specs.declared.fault.ReadFault.{ReadFault}
use Rattle.pipe_text.specs.declared.fault.ReadFault.TheVariants as read
use Rattle.term_check.specs.Printed.{kind_text, wanted_text}
use Rattle.value_core.specs.declared.value.Kind.{Kind}
use Rattle.term_check.specs.declared.wanted.Wanted.{Wanted}
use Rattle.term_check.specs.declared.fault.CheckFault.{CheckFault}
use Rattle.term_check.specs.declared.fault.CheckWhat.{CheckWhat}
use Rattle.term_check.specs.declared.fault.CheckWhat.TheVariants as what
use Rattle.term_check.specs.declared.fault.FaultPlace.{FaultPlace}
use Rattle.term_check.specs.declared.fault.FaultPlace.TheVariants as place
use Rattle.term_core.specs.declared.program.Program.{Program}
use Rattle.report_text.specs.Reports.{name_at}

-- the line of a refusal
abbrev pub error_line : List ℕ → List ℕ
error_line why = codes "error: " ++ (why ++ codes "\n")

-- what is wrong with the bytes of a file
unfoldable pub read_text : ReadFault → List ℕ
read_text (read.Lex p) = codes "lex at " ++ decimal p
read_text (read.Syntax p) = codes "syntax at " ++ decimal p
read_text (read.Limit name n p) = codes "limit " ++ (limit_letters name ++ (codes " " ++ (decimal n ++ (codes " at " ++ decimal p))))
read_text (read.Duplicate name p) = codes "duplicate " ++ (name ++ (codes " at " ++ decimal p))
read_text read.NoMemory = []

-- the declaration in which a fault is
unfoldable pub place_text : Program → FaultPlace → List ℕ
place_text p (place.Client n) = codes "client " ++ name_at (λ d. d.name) p.clients n
place_text p (place.Worker n) = codes "worker " ++ name_at (λ d. d.name) p.workers n
place_text p (place.Op n) = codes "op " ++ name_at (λ d. d.name) p.ops n
place_text p (place.Node n term) = codes "node " ++ name_at (λ d. d.name) p.nodes n

-- the kind that was found
unfoldable pub found_text : Kind → List ℕ
found_text found = codes ": found " ++ kind_text found

-- the kind that was wanted
unfoldable pub other_text : Wanted → List ℕ
other_text wanted = codes ", wanted " ++ wanted_text wanted

-- what is wrong there
unfoldable pub what_text : CheckWhat → List ℕ
what_text (what.UnknownName n) = codes "unknown " ++ n
what_text (what.ForwardName n) = codes "forward " ++ n
what_text (what.KindMismatch found wanted) = codes "kind mismatch" ++ (found_text found ++ other_text wanted)
what_text what.ListNesting = codes "list nesting"
what_text (what.KindTooLarge n) = codes "kind too large " ++ decimal n
what_text what.NoMemory = []

-- what is wrong with a program
abbrev pub check_text : Program → CheckFault → List ℕ
check_text p f = place_text p f.place ++ (codes ": " ++ what_text f.what)

-- ---- faults of a session

-- the session took all that it may take
abbrev pub limit_line : List ℕ
limit_line = error_line (codes "limit")

-- a stored row isn't well formed: the name of its table, and its number
unfoldable pub row_line : List ℕ → ℕ → List ℕ
row_line table number = codes "error: row " ++ (table ++ (codes " " ++ (decimal number ++ codes "\n")))
