-- What is seen of keepers and a sink, and how often they failed.
use Rattle.std.specs.Prelude.{ℕ, Bool, List, Option}
use Rattle.io_ends.specs.Causes.{SinkSide}
use Rattle.op_keys.specs.declared.order.Exit.{Exit}
use Rattle.op_keys.specs.declared.order.Order.{Order}
use Rattle.keeper_core.specs.declared.stored.Stored.{Stored}
use Rattle.session_rules.specs.Runs.{Seen}
use Rattle.store_reports.specs.Causes.{Counts}

-- what is seen, where these orders were run
abbrev pub seen_with :
    {M O : Type 0} → (M → Bool) → (M → Stored → Type 0) → (O → Option (List ℕ)) → Option (List (Order × Exit)) → M → O → Seen
seen_with knows left written ran m o = record { written = written o; ran = ran; knows_left = knows m; left = left m }

-- how often calls failed, where those of the input and the files did so often
abbrev pub counts_with : {M O : Type 0} → (M → ℕ) → (O → ℕ) → ℕ → ℕ → M → O → Counts
counts_with keepers sink source files m o = record { source = source; sink = sink o; files = files; keepers = keepers m }

-- what was written to a sink, and how often it failed
abbrev pub side_of : {O : Type 0} → (O → Option (List ℕ)) → (O → ℕ) → O → SinkSide
side_of written faults o = record { written = written o; faults = faults o }
