-- The notes of answers.
use Rattle.std.proofs.Common.{◌≡◌, ℕ, true, false, [], refl}
use Rattle.std.specs.Prelude.{Option, Some, None}
use Rattle.core_rules.specs.declared.done.Done.{Done}
use Rattle.core_rules.specs.declared.events.Event.{Event}
use Rattle.core_rules.specs.declared.notes.Note.{Note}
use Rattle.core_rules.specs.declared.notes.Note.TheVariants as note
use Rattle.core_rules.specs.Core.{CoreState}
use Rattle.core_rules.specs.Steps.{Idle, Accepted, step}
use Rattle.engine_rules.specs.Answers.{is_idle}
use Rattle.engine_rules.proofs.RepliedBefore.{accepted_are_news, idles_keep}
use Rattle.report_text.specs.Lines.{reply_text}
use Rattle.report_text.specs.Lines.{is_idle as is_silent}
use Rattle.term_core.specs.declared.program.Program.{Program}
use Rattle.session_core.specs.Answers.{news}

news_if : (n : Note) → is_idle n ≡ false → news n ≡ Some n
news_if note.Plain e = refl
news_if (note.Started o) e = refl
news_if (note.Ended job x) e = refl
news_if note.Nothing e = cc
news_if note.Ignored e = cc

no_news_if : (n : Note) → is_idle n ≡ true → news n ≡ None
no_news_if note.Plain e = cc
no_news_if (note.Started o) e = cc
no_news_if (note.Ended job x) e = cc
no_news_if note.Nothing e = refl
no_news_if note.Ignored e = refl

silent_if : (n : Note) → is_idle n ≡ true → is_silent n ≡ true
silent_if note.Plain e = cc
silent_if (note.Started o) e = cc
silent_if (note.Ended job x) e = cc
silent_if note.Nothing e = refl
silent_if note.Ignored e = refl

module _ (s : CoreState) (e : Event) where
  -- an accepted event has news
  pub accepted_news : (t : CoreState) (r : Done) → step s e ≡ Accepted t r → news r.note ≡ Some r.note
  accepted_news t r is = news_if r.note (accepted_are_news s e t r is).0

  -- one that changed nothing has none
  pub idle_news : (r : Done) → step s e ≡ Idle r → news r.note ≡ None
  idle_news r is = no_news_if r.note (idles_keep s e r is).2

  -- and no lines
  pub idle_text : (p : Program) (r : Done) (n : Option ℕ) → step s e ≡ Idle r → reply_text p r n ≡ []
  unfolding reply_text
  idle_text p r n is = rw (silent_if r.note (idles_keep s e r is).2) refl
