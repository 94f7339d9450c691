-- Reading terms within the room that is left in a file.
use Rattle.std.specs.Prelude.{◌≡◌, ℕ, List, Result, Option}
use Rattle.std.specs.Borrow.{Bor}
use Rattle.value_core.specs.declared.lexing.TokenAt.{TokenAt}
use Rattle.term_core.specs.declared.program.Term.{Term}
use Rattle.pipe_text.specs.declared.fault.Fault.{Fault}
use Rattle.pipe_text.specs.declared.fault.TakeError.{TakeError}
use Rattle.pipe_text.specs.declared.terms.Room.{Room}
use Rattle.pipe_text.specs.declared.terms.TermPair.{TermPair}
use Rattle.pipe_text.specs.declared.words.BodyWord.{BodyWord}
use Rattle.pipe_text.specs.Files.{file_limits}
use Rattle.pipe_text.specs.inside.Readers.{Reader, Returns}
use Rattle.pipe_text.specs.inside.TermReading.{Counted, two_at, part_at, parts_at, body_at, term_at}

-- a term
abbrev pub term_in : Room → Reader Counted
term_in room = term_at file_limits room.depth room.left

-- two terms
abbrev pub two_in : Room → Reader ((Term × Term) × ℕ)
two_in room = two_at (term_at file_limits room.depth) room.left

-- one more term, if an opening bracket is next
abbrev pub part_in : Room → Reader (Option Counted)
part_in room = part_at (term_at file_limits room.depth) room.left

-- terms as long as there are some
abbrev pub parts_in : Room → Reader (List Term × ℕ)
parts_in room = parts_at (term_at file_limits room.depth) room.left room.left

-- the part of a term after its word
abbrev pub body_in : Room → BodyWord → Reader Counted
body_in room = body_at file_limits (term_at file_limits room.depth) room.left

-- the two terms that a function returned, how many terms they are made of, and the tokens left are those that reading returns
abbrev pub TakesTwo : Result (TermPair × ℕ × Bor (List TokenAt)) TakeError → Result (((Term × Term) × ℕ) × List TokenAt) Fault → Type 0
TakesTwo = Returns (λ x. (((x.0.first, x.0.second), x.1), x.2.now))
