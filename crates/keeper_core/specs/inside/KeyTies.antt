-- Keys that tie are equal.
use Rattle.std.specs.Prelude.{◌≡◌, refl}
use Rattle.std.specs.declared.cmp.Ordering.{Ordering}
use Rattle.std.specs.declared.cmp.Ordering.TheVariants.{Less, Equal, Greater}
use Rattle.std.specs.FinMap.{IsAntisymmetric, nat_cmp-IsAntisymmetric, slice_cmp-IsAntisymmetric}
use Rattle.std.specs.Ordering.{ordering_then}
use Rattle.keeper_core.specs.Contents.{key_cmp, old_key_cmp}

both_equal : (r s : Ordering) → ordering_then r s ≡ Equal → (r ≡ Equal) × (s ≡ Equal)
both_equal Less s e = cc
both_equal Equal s e = (refl, e)
both_equal Greater s e = cc

-- keys that tie are equal
pub key_cmp_antisymmetric : IsAntisymmetric key_cmp
key_cmp_antisymmetric x y e =
    let b = both_equal _ _ e in
    let d = both_equal _ _ b.1 in
    let op : x.op ≡ y.op = slice_cmp-IsAntisymmetric nat_cmp-IsAntisymmetric x.op y.op b.0 in
    let ckey : x.ckey ≡ y.ckey = slice_cmp-IsAntisymmetric nat_cmp-IsAntisymmetric x.ckey y.ckey d.0 in
    let khash : x.khash ≡ y.khash = slice_cmp-IsAntisymmetric nat_cmp-IsAntisymmetric x.khash y.khash d.1 in
    λ i. record { op = op i; khash = khash i; ckey = ckey i }

-- keys of the first schema that tie are equal
pub old_key_cmp_antisymmetric : IsAntisymmetric old_key_cmp
old_key_cmp_antisymmetric x y e =
    let b = both_equal _ _ e in
    let op : x.op ≡ y.op = slice_cmp-IsAntisymmetric nat_cmp-IsAntisymmetric x.op y.op b.0 in
    let ckey : x.ckey ≡ y.ckey = slice_cmp-IsAntisymmetric nat_cmp-IsAntisymmetric x.ckey y.ckey b.1 in
    λ i. record { op = op i; ckey = ckey i }
