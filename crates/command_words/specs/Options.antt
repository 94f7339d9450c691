-- The words after a command, by clap's reading of one simple command for each.
use Rattle.std.specs.Prelude.{◌||◌, List, [], ◌∷◌, Option, Some, None, Bool, true, false, codes, if◌then◌else◌}
use Rattle.std.specs.Option.{option_map_or}
use Rattle.std.specs.Str.{bytes_eq}
use Rattle.clap.specs.Walk.{is_empty}
use Rattle.clap.specs.Simple.{on_top}
use Rattle.clap.specs.Words.{App, Rule, Text, new_app, new_rule, with_rule, matches_of, fault_of, first_of}
use Rattle.clap.specs.declared.builder.action.ArgAction.TheVariants.{SetTrue}
use Rattle.clap.specs.declared.builder.value_parser.ValueParser.TheVariants.{NonEmptyString}

-- ---- options

-- the word that is no option: FILE, JOB or N; it isn't empty
abbrev pub plain_rule : Rule
plain_rule = record (new_rule (codes "plain")) { required = true; parser = Some NonEmptyString }

-- `--store PATH`
abbrev pub store_rule : Rule
store_rule = record (new_rule (codes "store")) { long = Some (codes "store"); parser = Some NonEmptyString }

-- the same where it can't be left out
abbrev pub needed_store_rule : Rule
needed_store_rule = record store_rule { required = true }

-- `--confirm LEVEL`
abbrev pub confirm_rule : Rule
confirm_rule = record (new_rule (codes "confirm")) { long = Some (codes "confirm") }

-- `--count`
abbrev pub count_rule : Rule
count_rule = record (new_rule (codes "count")) { long = Some (codes "count"); action = Some SetTrue }

-- ---- commands

-- a command without help words
abbrev pub without_help : Text → App
without_help name = on_top (λ s. record s { no_binary_name = true; disable_help_flag = true }) (new_app name)

-- `run FILE [--store PATH] [--confirm LEVEL] [--count]`
abbrev pub run_app : App
run_app = with_rule (with_rule (with_rule (with_rule (without_help (codes "run")) plain_rule) store_rule) confirm_rule) count_rule

-- `check FILE`
abbrev pub check_app : App
check_app = with_rule (without_help (codes "check")) plain_rule

-- `make N`
abbrev pub make_app : App
make_app = with_rule (without_help (codes "make")) plain_rule

-- `jobs --store PATH`, `stats --store PATH` and `migrate --store PATH`
abbrev pub store_app : App
store_app = with_rule (without_help (codes "jobs")) needed_store_rule

-- `log JOB --store PATH`
abbrev pub log_app : App
log_app = with_rule (with_rule (without_help (codes "log")) plain_rule) needed_store_rule

-- ---- what is found

-- the word that is no option, the values of options, and whether the flag was given
pub record Options : Type 0 where
  pub plain : Option Text
  pub store : Option Text
  pub confirm : Option Text
  pub count : Bool

-- whether a flag was given
abbrev pub is_true : Option Text → Bool
is_true text = option_map_or (λ t. bytes_eq t (codes "true")) text false

-- what clap matches in the words
abbrev pub found_in : App → List Text → Options
found_in app words = record {
  plain = first_of (codes "plain") (matches_of app words);
  store = first_of (codes "store") (matches_of app words);
  confirm = first_of (codes "confirm") (matches_of app words);
  count = is_true (first_of (codes "count") (matches_of app words));
}

-- the same unless clap refuses the words
abbrev pub parsed : App → List Text → Option Options
parsed app words = if is_empty (fault_of app words) then Some (found_in app words) else None

-- whether some word before the first `--` is `-`
abbrev pub has_lone_hyphen : List Text → Bool
has_lone_hyphen [] = false
has_lone_hyphen (word ∷ words) =
    if bytes_eq word (codes "--") then false
    else (bytes_eq word (codes "-") || has_lone_hyphen words)

-- what is found in the words after a command, unless they are refused; clap alone would take `-` as a plain word
abbrev pub options_of : App → List Text → Option Options
options_of app words = if has_lone_hyphen words then None else parsed app words
