-- The code of entries.
use Rattle.std.specs.Coded.{Coded}
use Rattle.term_core.specs.contracts.entries.Entry as entry
use Rattle.term_core.specs.declared.entries.Entry.{Entry}

-- the code of entries
abbrev pub entry_code : Coded Entry
entry_code = entry.the_row.coded
