-- The code of programs: a `Model` whose value is one asks for it.
use Rattle.std.specs.Coded.{Coded}
use Rattle.term_core.specs.declared.program.Program.{Program}
use Rattle.term_core.specs.contracts.program.Program as program

-- the code of programs
abbrev pub program_code : Coded Program
program_code = program.the_row.coded
