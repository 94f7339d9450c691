-- What the made session promises.
use Rattle.std.specs.Prelude.{◌≡◌, ◌⊎◌, ℕ, List, length}
use Rattle.io_ends.specs.Causes.{SinkSide}
use Rattle.op_keys.specs.declared.order.Exit.{Exit}
use Rattle.session_rules.specs.Commands.{telling}
use Rattle.session_rules.specs.Outputs.{deltas, runs}
use Rattle.session_rules.specs.Runs.{AreEchoes, Follows, IsSummary, Seen, made_transcript}
use Rattle.session_rules.specs.Transcripts.{Quits}
use Rattle.store_reports.specs.Causes.{Tells}

-- The session on the made pipeline came to the end of its script, with so many versions and orders.
pub record Summed (nodes versions orders : ℕ) : Type 0 where
  pub exits : List Exit
  pub echoes : AreEchoes (made_transcript nodes exits).outputs
  pub end : (made_transcript nodes exits).end ≡ Quits
  pub versions_are : versions ≡ length (deltas (made_transcript nodes exits).outputs)
  pub orders_are : orders ≡ length (runs (made_transcript nodes exits).outputs)

-- the summary of that session was printed, or a front of it; if memory ran out, nothing was
abbrev pub TellsSummary : ℕ → ℕ → SinkSide → SinkSide → Type 0
TellsSummary nodes status old new =
    ((text : List ℕ) × IsSummary nodes text × Tells text 0 status old new)
    ⊎ ((status ≡ 7) × (new ≡ old))

-- the same as a plan that was followed so far
abbrev pub IsMade : ℕ → ℕ → Seen → Seen → Type 0
IsMade nodes status e e' =
    ((text : List ℕ) × IsSummary nodes text × Follows (λ xs. telling text 0) status e e')
    ⊎ ((status ≡ 7) × (e'.written ≡ e.written) × (e'.ran ≡ e.ran))
