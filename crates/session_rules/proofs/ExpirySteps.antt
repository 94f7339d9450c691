-- The first two steps of a worked run whose rows run out: the order is taken at the reading of the opening.
use Rattle.std.proofs.Common.{◌≡◌, [], ◌∷◌, Some, refl}
use Rattle.std.specs.Prelude.{codes}
use Rattle.std.specs.Char.{encode_utf8}
use Rattle.std.specs.Str.{chars, is_utf8}
use Rattle.value_core.specs.declared.value.Value.TheVariants as value
use Rattle.value_core.specs.declared.state.State.TheVariants.{Fine, Active}
use Rattle.value_core.specs.declared.state.Stage.TheVariants.{Running}
use Rattle.core_rules.specs.declared.events.What.TheVariants as what
use Rattle.core_rules.specs.declared.notes.Ending.TheVariants as ending
use Rattle.core_rules.specs.declared.notes.Note.TheVariants as note
use Rattle.core_rules.specs.Core.{CoreState}
use Rattle.core_rules.specs.declared.done.Done.{Done}
use Rattle.core_rules.specs.Replies.{next_alone}
use Rattle.core_rules.specs.Steps.{Accepted, step}
use Rattle.core_rules.proofs.ExpiryRun.{one, opened, third, x}
use Rattle.core_rules.proofs.OneBuild.{order, running, tickets}
use Rattle.core_rules.proofs.WorkedRuns.{answered, at, ends, keyed, quiet}

abbrev pub second : CoreState
second = record opened { version = 2; jobs = running 1 (codes "x") ∷ []; fair = tickets [] 6000 }

abbrev pub taking : Done
taking = record (quiet 2 2) { note = note.Started (order 1 (codes "x")); changed = (0, Active 0 Running) ∷ [] }

pub takes : step opened (at 5000 (what.Take 0)) ≡ Accepted second taking
takes = answered x [] opened x [] _ refl refl refl refl refl refl

abbrev pub ending_one : Done
ending_one = record (quiet 3 2) {
  note = note.Ended 1 ending.Fine;
  changed = (0, Fine (value.Words (codes "one"))) ∷ [];
  delta = record (next_alone 2) { put = Some one; log = Some (1, codes "one\n") };
}

pub ends_one : step second (at 6000 (ends 1 (codes "one\n"))) ≡ Accepted third ending_one
unfolding is_utf8 chars encode_utf8
ends_one = answered x [] second x (keyed one ∷ []) _ refl refl refl refl refl refl
