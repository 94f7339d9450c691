use Rattle.std.proofs.Common.{◌≡◌, List, [], length}
use Rattle.pipe_text.specs.declared.declaration.Declaration.{Declaration}
use Rattle.pipe_text.specs.inside.Known.{Knows}
use Rattle.pipe_text.specs.inside.FileReading.{file_bounds, all_at}
use Rattle.pipe_text.proofs.declarations.take_all.Given as goal

abbrev pub invariant-declarations : goal.invariant-declarations
invariant-declarations l = record {
  before : List Declaration;
  knows : Knows l.version before l.so_far;
  same : all_at file_bounds l.version before l.stop l.tokens ≡ all_at file_bounds l.version [] l.stop l.fn.tokens;
}

abbrev pub decreases-declarations : goal.decreases-declarations
decreases-declarations l = length l.tokens
