-- Words that are commands, and words that are none.
use Rattle.std.proofs.Common.{◌≡◌, refl, codes, true, false, List, [], ◌∷◌, Some, None}
use Rattle.clap.proofs.OnLiterals.{clap_on_literals}
use Rattle.op_keys.specs.declared.level.Level.TheVariants.{Average}
use Rattle.pipe_text.specs.Words.{level_word}
use Rattle.command_words.specs.Commands.{command_of}
use Rattle.command_words.specs.declared.command.Command.TheVariants.{Run, Check, Jobs, Stats, Log, Make, Migrate}

-- ---- commands

plain_run : command_of (codes "run" ∷ codes "f" ∷ []) ≡ Some (Run (codes "f") None None false)
unfolding command_of clap_on_literals
plain_run = refl

any_order : command_of (codes "run" ∷ codes "--count" ∷ codes "--store=s" ∷ codes "f" ∷ codes "--confirm" ∷ codes "average" ∷ []) ≡ Some (Run (codes "f") (Some (codes "s")) (Some Average) true)
unfolding command_of level_word clap_on_literals
any_order = refl

checked : command_of (codes "check" ∷ codes "f" ∷ []) ≡ Some (Check (codes "f"))
unfolding command_of clap_on_literals
checked = refl

results : command_of (codes "jobs" ∷ codes "--store" ∷ codes "s" ∷ []) ≡ Some (Jobs (codes "s"))
unfolding command_of clap_on_literals
results = refl

log : command_of (codes "log" ∷ codes "--store" ∷ codes "s" ∷ codes "7" ∷ []) ≡ Some (Log 7 (codes "s"))
unfolding command_of clap_on_literals
log = refl

most_nodes : command_of (codes "make" ∷ codes "1000" ∷ []) ≡ Some (Make 1000)
unfolding command_of clap_on_literals
most_nodes = refl

-- `--x=v` is `--x v`, for a value that begins with `-` too
hyphen_value : command_of (codes "stats" ∷ codes "--store=-x" ∷ []) ≡ Some (Stats (codes "-x"))
unfolding command_of clap_on_literals
hyphen_value = refl

equals_kept : command_of (codes "migrate" ∷ codes "--store=a=b" ∷ []) ≡ Some (Migrate (codes "a=b"))
unfolding command_of clap_on_literals
equals_kept = refl

-- after `--` every word is a plain one
after_separator : command_of (codes "run" ∷ codes "--" ∷ codes "-" ∷ []) ≡ Some (Run (codes "-") None None false)
unfolding command_of clap_on_literals
after_separator = refl

option_as_file : command_of (codes "check" ∷ codes "--" ∷ codes "--count" ∷ []) ≡ Some (Check (codes "--count"))
unfolding command_of clap_on_literals
option_as_file = refl

-- ---- no commands

no_words : command_of [] ≡ None
unfolding command_of clap_on_literals
no_words = refl

no_such : command_of (codes "serve" ∷ codes "f" ∷ []) ≡ None
unfolding command_of clap_on_literals
no_such = refl

no_file : command_of (codes "run" ∷ []) ≡ None
unfolding command_of clap_on_literals
no_file = refl

empty_file : command_of (codes "run" ∷ codes "" ∷ []) ≡ None
unfolding command_of clap_on_literals
empty_file = refl

two_files : command_of (codes "check" ∷ codes "f" ∷ codes "g" ∷ []) ≡ None
unfolding command_of clap_on_literals
two_files = refl

twice : command_of (codes "run" ∷ codes "f" ∷ codes "--count" ∷ codes "--count" ∷ []) ≡ None
unfolding command_of clap_on_literals
twice = refl

no_level : command_of (codes "run" ∷ codes "f" ∷ codes "--confirm=none" ∷ []) ≡ None
unfolding command_of level_word clap_on_literals
no_level = refl

hyphen_apart : command_of (codes "stats" ∷ codes "--store" ∷ codes "-x" ∷ []) ≡ None
unfolding command_of clap_on_literals
hyphen_apart = refl

empty_path : command_of (codes "jobs" ∷ codes "--store=" ∷ []) ≡ None
unfolding command_of clap_on_literals
empty_path = refl

lone_hyphen : command_of (codes "check" ∷ codes "-" ∷ []) ≡ None
unfolding command_of clap_on_literals
lone_hyphen = refl

leading_zero : command_of (codes "log" ∷ codes "07" ∷ codes "--store=s" ∷ []) ≡ None
unfolding command_of clap_on_literals
leading_zero = refl

no_nodes : command_of (codes "make" ∷ codes "0" ∷ []) ≡ None
unfolding command_of clap_on_literals
no_nodes = refl

too_many_nodes : command_of (codes "make" ∷ codes "1001" ∷ []) ≡ None
unfolding command_of clap_on_literals
too_many_nodes = refl

signed : command_of (codes "log" ∷ codes "+7" ∷ codes "--store=s" ∷ []) ≡ None
unfolding command_of clap_on_literals
signed = refl

no_help : command_of (codes "run" ∷ codes "f" ∷ codes "--help" ∷ []) ≡ None
unfolding command_of clap_on_literals
no_help = refl

no_prefix : command_of (codes "run" ∷ codes "f" ∷ codes "--cou" ∷ []) ≡ None
unfolding command_of clap_on_literals
no_prefix = refl
