-- A call whose words weren't read, since memory ran out: whatever they ask for, nothing was done.
use Rattle.std.proofs.Common.{ℕ, List, refl, inr}
use Rattle.std.specs.Prelude.{IfSome, Option, Some, None}
use Rattle.io_ends.specs.Causes.{SinkSide}
use Rattle.io_ends.specs.Known.{Contents, content_now}
use Rattle.session_rules.specs.Commands.{File, Missing, Refused, Sound}
use Rattle.session_rules.specs.Runs.{Given, IsReport, Seen}
use Rattle.session_core.specs.Numbers.{counting as counting_of}
use Rattle.store_reports.specs.Questions.{question_plan}
use Rattle.store_reports.specs.declared.answers.Question.{Question}
use Rattle.store_reports.specs.declared.answers.Question.TheVariants as question
use Rattle.store_reports.proofs.Moving.{unopened}
use Rattle.store_reports.proofs.Reported.{if_held, lost_follows}
use Rattle.store_reports.proofs.Told.{side}
use Rattle.command_words.specs.declared.command.Command.{Command}
use Rattle.command_words.specs.declared.command.Command.TheVariants.{Run, Check, Jobs, Stats, Log, Make, Migrate}
use Rattle.current_cli.specs.Calls.{IsCall}
use Rattle.current_cli.specs.inside.FileFound.{Refuses, file_found}
use Rattle.current_cli.specs.inside.Parts.{IsCheckOf}
use Rattle.current_cli.proofs.Found.{is_check, is_refused, usage_lost}

if_contents : (o : Option Contents) (P : Contents → Type 0) → ((contents : Contents) → P contents) → IfSome o P
if_contents None P f = tt
if_contents (Some contents) P f = f contents

refuses : (f : File) (s : SinkSide) → Refuses f 7 s s
refuses Missing s = inr (inr refl, refl)
refuses (Refused line) s = inr (inr refl, refl)
refuses (Sound p) s = (inr refl, refl)

checks : (f : File) (s : SinkSide) → IsCheckOf f 7 s s
checks Missing s = inr (inr refl, refl)
checks (Refused line) s = inr (inr refl, refl)
checks (Sound p) s = inr (inr refl, refl)

reports : (q : Question) (store : List ℕ) (given : Given) (e : Seen) → IsReport (question_plan q) store given 7 e e
reports q store given e knows = if_held given.held _ (λ held at. lost_follows q (held store) 7 e e (inr refl) refl refl (inr (λ known x left. left)))

pub unread_call : (command : Option Command) (given : Given) (e : Seen) → IsCall command given 7 e e
unread_call None given e = usage_lost 7 e refl
unread_call (Some (Run file store threshold count)) given e =
    is_refused file store threshold (counting_of count) given 7 0 0 e e
    (if_contents given.contents _ (λ contents. refuses (file_found (content_now (contents file))) (side e 0))) refl (λ known x left. left)
unread_call (Some (Check file)) given e =
    is_check given file 7 0 0 e e (if_contents given.contents _ (λ contents. checks (file_found (content_now (contents file))) (side e 0))) refl
unread_call (Some (Jobs store)) given e = reports question.Jobs store given e
unread_call (Some (Stats store)) given e = reports question.Stats store given e
unread_call (Some (Log job store)) given e = reports (question.Log job) store given e
unread_call (Some (Make n)) given e = inr (refl, refl, refl)
unread_call (Some (Migrate store)) given e = λ knows. if_held given.held _ (λ held at. unopened (held store) 7 e e (inr refl) refl refl (λ known x left. left))
