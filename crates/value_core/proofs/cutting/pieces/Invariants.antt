use Rattle.std.proofs.Common.{◌≡◌, ◌++◌, length}
use denote.Text.{Utf8}
use denote.Shadow.{shadow}
use Rattle.std.specs.List.{filter, slice_split}
use Rattle.value_core.specs.Cuts.{separates, is_piece, pieces_of}
use Rattle.value_core.specs.Parts.{text_values}
use Rattle.value_core.specs.Texts.{HasNoNul}
use Rattle.value_core.proofs.cutting.pieces.Given as goal

abbrev pub invariant-pieces : goal.invariant-pieces
invariant-pieces l = record {
  utf8 : shadow (Utf8 l.rest);
  no_nul : HasNoNul l.rest;
  so_far : l.pieces ++ text_values (filter is_piece (slice_split (separates l.separator) l.rest)) ≡ text_values (pieces_of l.separator l.text);
}

abbrev pub decreases-pieces : goal.decreases-pieces
decreases-pieces l = length l.rest
