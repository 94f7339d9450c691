-- What answers promise, part by part.
use Rattle.std.specs.Prelude.{◌≡◌, IfOk, IfSome, Result}
use Rattle.keeper_core.specs.declared.keeper.KeepFault.{KeepFault}
use Rattle.keeper_core.specs.declared.stored.Stored.{Stored}
use Rattle.keeper_core.specs.declared.tables.Tables.{Tables}
use Rattle.keeper_core.specs.EitherSchema.{log_of}
use Rattle.keeper_core.specs.KeeperCalls.{Known, LeavesNoMore, Stays}
use Rattle.session_rules.specs.Commands.{Plan, log_text, telling}
use Rattle.session_rules.specs.StoreTexts.{results_text, stats_text}
use Rattle.store_reports.specs.declared.answers.Answer.{Answer}
use Rattle.store_reports.specs.declared.answers.Question.{Question}
use Rattle.store_reports.specs.declared.answers.Question.TheVariants.{Jobs, Stats, Log}

-- the tables are the same, and a stop leaves nothing more
pub record OnlyReads (before now : Known) : Type 0 where
  pub same : Stays before now
  pub no_more : LeavesNoMore before now

-- what is printed for a question, over a store and what was loaded of it
abbrev pub answer_plan : Question → Stored → Tables → Plan
answer_plan Jobs store tables = telling (results_text tables) 0
answer_plan Stats store tables = telling (stats_text tables) 0
answer_plan (Log job) store tables = log_text (log_of store job)

-- an answer is what is printed for a question over these tables, if those of the keeper are known
abbrev pub IsAnswerFrom : Question → Tables → Known → Result Answer KeepFault → Type 0
IsAnswerFrom question tables known result =
    IfOk result (λ answer. IfSome known.tables (λ store. answer_plan question store tables ≡ telling answer.text answer.status))
