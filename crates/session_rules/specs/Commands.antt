-- What each command does, as outputs and a status: over the file, the store and the ends that it is given.
use Rattle.std.specs.Prelude.{ℕ, ◌-◌, min, Bool, true, false, List, [], ◌∷◌, ◌++◌, map, length, Option, Some, None, codes, decimal}
use Rattle.std.specs.FinMap.{entries}
use Rattle.std.specs.List.{flat_map, range_with_len}
use Rattle.value_core.specs.declared.value.Value.TheVariants as value
use Rattle.value_core.specs.declared.function.Fun.TheVariants as fun
use Rattle.value_core.specs.Parts.{text_values}
use Rattle.value_core.specs.Printed.{printed}
use Rattle.op_keys.specs.declared.declarations.Expiry.TheVariants.{Never}
use Rattle.op_keys.specs.declared.level.Level.{Level}
use Rattle.op_keys.specs.declared.level.Level.TheVariants.{Average}
use Rattle.term_core.specs.declared.program.NodeDecl.{NodeDecl}
use Rattle.term_core.specs.declared.program.Program.{Program}
use Rattle.term_core.specs.declared.program.Term.TheVariants as term
use Rattle.keeper_core.specs.declared.stored.Stored.{Stored}
use Rattle.keeper_core.specs.declared.stored.Stored.TheVariants.{Current, Old}
use Rattle.keeper_core.specs.declared.tables.Table.{Table}
use Rattle.keeper_core.specs.declared.tables.Tables.{Tables}
use Rattle.keeper_core.specs.EitherSchema.{first_unmovable, loaded_of, log_of}
use Rattle.keeper_core.specs.WellFormed.{first_bad}
use Rattle.report_text.specs.FaultLines.{error_line, limit_line}
use Rattle.session_rules.specs.Outputs.{Output, Print, deltas, runs}
use Rattle.session_rules.specs.Scenes.{Ends}
use Rattle.session_rules.specs.Steps.{Counting}
use Rattle.session_rules.specs.StoreTexts.{bad_row_line, count_line, results_text, stats_text}
use Rattle.session_rules.specs.Transcripts.{End, Quits, Limit, Bad, Transcript, transcript}

-- ---- plans

-- what is done if nothing fails, in order, the status then, and whether a store is opened and loaded first
pub record Plan : Type 0 where
  pub outputs : List Output
  pub status : ℕ
  pub opens : Bool

-- one text
abbrev pub telling : List ℕ → ℕ → Plan
telling text status = record { outputs = Print text ∷ []; status = status; opens = false }

-- the words ask for nothing
abbrev pub usage : Plan
usage = telling (error_line (codes "usage")) 2

-- ---- files

-- what a pipeline file is found to be: missing, refused with a line, or the file of a sound program
pub data File : Type 0 where
  Missing : File
  Refused : List ℕ → File
  Sound : Program → File

-- what is done with the program of a file, if it has one
abbrev pub with_program : File → (Program → Plan) → Plan
with_program Missing plan = telling (error_line (codes "no file")) 2
with_program (Refused line) plan = telling line 3
with_program (Sound p) plan = plan p

-- ---- stores

-- a plan after a store was opened and loaded
abbrev pub after_opening : Plan → Plan
after_opening plan = record plan { opens = true }

-- what is done with the tables of a store; those that can't be loaded are a fault of the keeper
abbrev pub with_tables : Option Tables → (Tables → Plan) → Plan
with_tables None plan = record { outputs = []; status = 6; opens = false }
with_tables (Some tables) plan = after_opening (plan tables)

-- what is done with well-formed tables
abbrev pub by_row : Option (Table × ℕ) → Plan → Plan
by_row (Some bad) plan = telling (bad_row_line bad) 9
by_row None plan = plan

-- what is done with the tables of a store if they are well formed
abbrev pub on_store : Stored → (Tables → Plan) → Plan
on_store store plan = with_tables (loaded_of store) (λ tables. by_row (first_bad tables) (plan tables))

-- ---- `run`

-- the line of an end
abbrev pub end_outputs : End → List Output
end_outputs Quits = []
end_outputs Limit = Print limit_line ∷ []
end_outputs (Bad table n) = Print (bad_row_line (table, n)) ∷ []

-- the status of an end
abbrev pub end_status : End → ℕ
end_status Quits = 0
end_status Limit = 8
end_status (Bad table n) = 9

-- a session, and the line of its end
abbrev pub session_plan : Transcript → Plan
session_plan t = record { outputs = t.outputs ++ end_outputs t.end; status = end_status t.end; opens = true }

-- `run`: a session on the program over the store
abbrev pub run_plan : File → Stored → Option Level → Counting → Ends → Plan
run_plan file store threshold counting ends =
    with_program file (λ p. with_tables (loaded_of store) (λ tables. session_plan (transcript p tables threshold counting ends)))

-- ---- `check`, `jobs`, `stats` and `log`

-- `check`: the report of the program
abbrev pub check_plan : File → (Program → List ℕ) → Plan
check_plan file report = with_program file (λ p. telling (report p) 0)

-- `jobs`: a line for each result
abbrev pub jobs_plan : Stored → Plan
jobs_plan store = on_store store (λ tables. telling (results_text tables) 0)

-- `stats`: how much is stored
abbrev pub stats_plan : Stored → Plan
stats_plan store = on_store store (λ tables. telling (stats_text tables) 0)

-- the bytes of a log, if there is one
abbrev pub log_text : Option (List ℕ) → Plan
log_text None = telling (error_line (codes "no log")) 2
log_text (Some bytes) = telling bytes 0

-- `log`: the output of a job
abbrev pub log_plan : Stored → ℕ → Plan
log_plan store job = on_store store (λ tables. log_text (log_of store job))

-- ---- `migrate`

-- how many results were moved
abbrev pub moved_line : ℕ → List ℕ
moved_line n = codes "migrated " ++ (decimal n ++ codes " rows\n")

-- what `migrate` prints of movable tables
abbrev pub moved_plan : Stored → Plan
moved_plan (Current t) = telling (codes "already schema 2\n") 0
moved_plan (Old t) = telling (moved_line (length (entries t.cache))) 0

-- what `migrate` prints
abbrev pub migrate_plan : Stored → Plan
migrate_plan store = by_row (first_unmovable store) (moved_plan store)

-- ---- `make`

-- the digits of so many numbers from one on
abbrev pub digits_from : ℕ → ℕ → List (List ℕ)
digits_from first count = map decimal (range_with_len first count)

-- the list of the input has at most 256 items
abbrev pub made_items : ℕ → ℕ
made_items n = min n 256

-- the nodes after the first, which count its items
abbrev pub counting_node : ℕ → NodeDecl
counting_node i = record { name = codes "n" ++ decimal i; term = term.Map fun.Count (term.Node (codes "n0")) }

-- the first node, which builds each item
abbrev pub building_node : NodeDecl
building_node = record {
  name = codes "n0";
  term = term.ListMap (codes "x") (term.Input (codes "xs")) (term.Build (codes "f") (term.Var (codes "x")));
}

-- the made pipeline of n nodes
abbrev pub made_program : ℕ → Program
made_program n = record {
  version = 1;
  inputs = record { name = codes "xs"; value = value.List (text_values (digits_from 0 (made_items n))); watch = None } ∷ [];
  pools = record { name = codes "p"; hold = 0 } ∷ [];
  clients = record { name = codes "c"; pool = codes "p"; rate = 1 } ∷ [];
  workers = record { name = codes "w"; pool = codes "p"; capacity = 1 } ∷ [];
  ops = record {
    name = codes "f";
    output = false;
    pool = codes "p";
    client = codes "c";
    full = 1;
    cached = 0;
    hint = None;
    urgent = false;
    level = Average;
    expiry = Never;
    latched = false;
    no_cancel = false;
    words = codes "f" ∷ codes "{key}" ∷ [];
  } ∷ [];
  nodes = building_node ∷ map counting_node (range_with_len 1 (n - 1));
}

-- a line of the made script, which sets the list to the digits from a number on
abbrev pub made_line : ℕ → ℕ → List ℕ
made_line n first = codes "set xs " ++ (printed (value.List (text_values (digits_from first (made_items n)))) ++ codes "\n")

-- the made script: ten lines
abbrev pub made_script : ℕ → List ℕ
made_script n = flat_map (made_line n) (range_with_len 1 10)

-- the summary of a session on n nodes: its versions are its commits, its orders those that were run
abbrev pub summary : ℕ → List Output → List ℕ
summary n outputs =
    count_line (codes "nodes") n
    ++ (count_line (codes "versions") (length (deltas outputs)) ++ count_line (codes "orders") (length (runs outputs)))
