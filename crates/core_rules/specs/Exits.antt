-- What the end of an order comes to.
use Rattle.std.specs.Prelude.{ℕ, ◌==◌, nat_lt, if◌then◌else◌, List, [], ◌++◌, length, take, codes, Option, Some, None, Result, Ok, Err}
use Rattle.std.specs.Fmt.{decimal}
use Rattle.op_keys.specs.declared.order.Exit.{Exit}
use Rattle.op_keys.specs.declared.order.Exit.TheVariants as exit
use Rattle.value_core.specs.declared.text.TextFault.{TextFault}
use Rattle.value_core.specs.Reading.{text_read}

-- the text that was read, or that there is none
abbrev pub text_outcome : Result (List ℕ) TextFault → Result (List ℕ) (List ℕ)
text_outcome (Ok t) = Ok t
text_outcome (Err fault) = Err (codes "output not text")

-- by the code: none is an end by signal, and any but 0 is a failure
abbrev pub code_outcome : Option ℕ → List ℕ → Result (List ℕ) (List ℕ)
code_outcome None output = Err (codes "exit by signal")
code_outcome (Some n) output = if n == 0 then text_outcome (text_read output) else Err (codes "exit " ++ decimal n)

-- the output as a text without one final newline, or the message of the first failure
abbrev pub exit_outcome : Exit → Result (List ℕ) (List ℕ)
exit_outcome exit.Fault = Err (codes "cannot run")
exit_outcome (exit.Ended code output) = if nat_lt 65536 (length output) then Err (codes "output too large") else code_outcome code output

-- what is kept of the output: the first 65,536 bytes, and none where the order could not be run
abbrev pub exit_log : Exit → List ℕ
exit_log exit.Fault = []
exit_log (exit.Ended code output) = take 65536 output
