-- What is asked of a store, and what the answer promises.
use Rattle.std.specs.Prelude.{◌≡◌, ◌⊎◌, ℕ, Bool, List, Option, None, IfOk, IfSome, IsTrue, Result}
use Rattle.keeper_core.specs.declared.keeper.KeepFault.{KeepFault}
use Rattle.keeper_core.specs.declared.stored.Stored.{Stored}
use Rattle.keeper_core.specs.EitherSchema.{log_of}
use Rattle.keeper_core.specs.KeeperCalls.{Known}
use Rattle.session_rules.specs.Commands.{Plan, after_opening, jobs_plan, log_plan, stats_plan, telling}
use Rattle.store_reports.specs.declared.answers.Answer.{Answer}
use Rattle.store_reports.specs.declared.answers.Question.{Question}
use Rattle.store_reports.specs.declared.answers.Question.TheVariants.{Jobs, Stats, Log}

-- what is done for a question, over a store
abbrev pub question_plan : Question → Stored → Plan
question_plan Jobs store = jobs_plan store
question_plan Stats store = stats_plan store
question_plan (Log job) store = log_plan store job

-- an answer is what the plan prints, with its status, if the tables are known
abbrev pub IsAnswer : Question → Known → Result Answer KeepFault → Type 0
IsAnswer question known result =
    IfOk result (λ answer. IfSome known.tables (λ store. question_plan question store ≡ after_opening (telling answer.text answer.status)))

-- the question is for a log that the tables, if there are any, don't have
abbrev pub LacksLog : Question → Option Stored → Type 0
LacksLog Jobs tables = ⊥
LacksLog Stats tables = ⊥
LacksLog (Log job) tables = IfSome tables (λ store. log_of store job ≡ None)

-- the status of an answer: 9 if a row isn't well formed, 2 if there is no log, else 0
abbrev pub HasStatus : Question → Option Stored → ℕ → Type 0
HasStatus question tables status = (status ≡ 0) ⊎ ((status ≡ 9) ⊎ ((status ≡ 2) × LacksLog question tables))

-- the question is for a log that the tables held for a path don't have, if these are known, and known to the end
abbrev pub LacksLogAt : Question → List ℕ → Option (List ℕ → Stored) → Bool → Type 0
LacksLogAt Jobs path held knows = ⊥
LacksLogAt Stats path held knows = ⊥
LacksLogAt (Log job) path held knows = IsTrue knows → IfSome held (λ stores. log_of (stores path) job ≡ None)
