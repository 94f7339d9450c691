-- How a command is built.
use Rattle.std.proofs.Common.{true}
use Rattle.clap.specs.Words.{App}
use Rattle.clap.specs.Simple.{on_top}
use Rattle.clap.specs.declared.builder.command.Command.{Command}
use Rattle.clap.specs.declared.builder.command.Command.TheOpen.{Command-F}

-- the settings of each command, on what is seen of it and on its fields
abbrev pub started : App → App
started = on_top (λ s. record s { no_binary_name = true; disable_help_flag = true })

abbrev pub unhelpful : Command-F Command → Command-F Command
unhelpful f = record f { disable_help_flag = true }
