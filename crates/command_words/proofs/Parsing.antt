-- What clap's contract says of the words.
use Rattle.std.proofs.Common.{◌≡◌, ◌∙◌, ap, sym, refl, List, [], Bool, true, Option, Some, None}
use Rattle.std.specs.Prelude.{if◌then◌else◌}
use Rattle.clap.specs.Kinds.{Kinds}
use Rattle.clap.specs.Walk.{is_empty}
use Rattle.clap.specs.Words.{App, Text, fault_of, first_of, first_value, is_simple, is_simple_and_free, matches_of, rows_of}
use Rattle.clap.specs.declared.parser.matches.Found.{Found}
use Rattle.clap.proofs.WalkLemmas.{first_value-rows}
use Rattle.value_core.proofs.Basics.{and_parts}
use Rattle.command_words.specs.Options.{Options, found_in, parsed}

pub simple_is : (a : App) → is_simple_and_free a ≡ true → is_simple a ≡ true
simple_is a is = (and_parts _ _ is).0

-- the first value of an option
pub value_is : (a : App) (words : List Text) (f : Found) (id : Text) → rows_of f ≡ matches_of a words → first_value f id ≡ first_of id (matches_of a words)
value_is a words f id rows = first_value-rows f id ∙ ap (first_of id) rows

-- all that is found
abbrev pub made : Option Text → Option Text → Option Text → Bool → Options
made plain store confirm count = record { plain = plain; store = store; confirm = confirm; count = count }

pub made_is : (p s c p' s' c' : Option Text) (n n' : Bool) → p ≡ p' → s ≡ s' → c ≡ c' → n ≡ n' → made p s c n ≡ made p' s' c' n'
made_is p s c p' s' c' n n' plain store confirm count = rw (plain, store, confirm, count) refl

-- words without a fault
pub parsed_is : (a : App) (words : List Text) (o : Options) → fault_of a words ≡ [] → o ≡ found_in a words → Some o ≡ parsed a words
parsed_is a words o none is = ap Some is ∙ sym (ap (λ (kinds : Kinds). if is_empty kinds then Some (found_in a words) else None) none)
