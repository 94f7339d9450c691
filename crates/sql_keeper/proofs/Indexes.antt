-- The indexes that the engine makes, written out.
use Rattle.std.proofs.Common.{◌≡◌, ◌∷◌, [], codes, refl}
use Rattle.sqlite.specs.Listing.{understood}
use Rattle.sqlite_catalog.specs.Listing.{automatic}
use Rattle.sqlite_tied.specs.Compute.{everything}
use Rattle.sql_keeper.specs.inside.Schemas.{the_cache, the_inputs, the_old_cache}
use Rattle.sql_keeper.specs.inside.Indexes.{index_of}

pub input_index_is : index_of (codes "sqlite_autoindex_inputs_1") 1 2 (1 ∷ []) ≡ automatic the_inputs 0 (1 ∷ []) 2
unfolding understood everything
input_index_is = refl

pub cache_index_is : index_of (codes "sqlite_autoindex_cache2_1") 3 4 (1 ∷ 2 ∷ 3 ∷ []) ≡ automatic the_cache 0 (1 ∷ 2 ∷ 3 ∷ []) 4
unfolding understood everything
cache_index_is = refl

pub old_index_is : index_of (codes "sqlite_autoindex_cache_1") 3 4 (1 ∷ 2 ∷ []) ≡ automatic the_old_cache 0 (1 ∷ 2 ∷ []) 4
unfolding understood everything
old_index_is = refl
