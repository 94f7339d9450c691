-- Which words are which command.
use Rattle.std.specs.Prelude.{ℕ, ◌≤◌, nat_le, Bool, ◌&&◌, List, [], ◌∷◌, Option, Some, None, codes, if◌then◌else◌, option_map, option_and_then}
use Rattle.std.specs.Str.{bytes_eq}
use Rattle.clap.specs.Words.{Text}
use Rattle.value_core.specs.Tokens.{number_of}
use Rattle.op_keys.specs.declared.level.Level.{Level}
use Rattle.pipe_text.specs.Words.{level_word}
use Rattle.command_words.specs.Options.{Options, log_app, make_app, options_of, check_app, run_app, store_app}
use Rattle.command_words.specs.declared.command.Command.{Command}
use Rattle.command_words.specs.declared.command.Command.TheVariants.{Run, Check, Jobs, Stats, Log, Make, Migrate}

-- ---- the options of each command

-- the level of `--confirm`, if that is left out or names one
abbrev pub threshold_of : Option Text → Option (Option Level)
threshold_of None = Some None
threshold_of (Some word) = option_map Some (level_word word)

-- `run`, with a file and a threshold
abbrev pub run_with : Options → Option Text → Option (Option Level) → Option Command
run_with o (Some file) (Some threshold) = Some (Run file o.store threshold o.count)
run_with o file threshold = None

-- `run`
abbrev pub run_of : Options → Option Command
run_of o = run_with o o.plain (threshold_of o.confirm)

-- `check`
abbrev pub check_of : Options → Option Command
check_of o = option_map Check o.plain

-- `jobs`
abbrev pub jobs_of : Options → Option Command
jobs_of o = option_map Jobs o.store

-- `stats`
abbrev pub stats_of : Options → Option Command
stats_of o = option_map Stats o.store

-- `migrate`
abbrev pub migrate_of : Options → Option Command
migrate_of o = option_map Migrate o.store

-- the number that the plain word spells
abbrev pub number_in : Options → Option ℕ
number_in o = option_and_then number_of o.plain

-- `log`
abbrev pub log_of : Options → Option Command
log_of o = option_and_then (λ job. option_map (Log job) o.store) (number_in o)

-- how many nodes `make` may be asked for
abbrev pub is_made_count : ℕ → Bool
is_made_count n = nat_le 1 n && nat_le n 1000

-- `make`, with a number of nodes in that range
abbrev pub make_with : ℕ → Option Command
make_with n = if is_made_count n then Some (Make n) else None

-- a command whose number of nodes, if it has one, is in that range
abbrev pub IsInRange : Command → Type 0
IsInRange (Make n) = (1 ≤ n) × (n ≤ 1000)
IsInRange command = Unit {0}

-- `make`
abbrev pub make_of : Options → Option Command
make_of o = option_and_then make_with (number_in o)

-- ---- the words

-- the command of its first word and the words after it
abbrev pub command_named : Text → List Text → Option Command
command_named name words =
    if bytes_eq name (codes "run") then option_and_then run_of (options_of run_app words)
    else (if bytes_eq name (codes "check") then option_and_then check_of (options_of check_app words)
    else (if bytes_eq name (codes "jobs") then option_and_then jobs_of (options_of store_app words)
    else (if bytes_eq name (codes "stats") then option_and_then stats_of (options_of store_app words)
    else (if bytes_eq name (codes "log") then option_and_then log_of (options_of log_app words)
    else (if bytes_eq name (codes "make") then option_and_then make_of (options_of make_app words)
    else (if bytes_eq name (codes "migrate") then option_and_then migrate_of (options_of store_app words)
    else None))))))

-- the command of the words of a command line, without the program's name
unfoldable pub command_of : List Text → Option Command
command_of [] = None
command_of (name ∷ words) = command_named name words
