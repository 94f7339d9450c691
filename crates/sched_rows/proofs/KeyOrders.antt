-- The orders of keys and of ends: total, and only equal ones tie.
use Rattle.std.proofs.Common.{◌≡◌, true}
use Rattle.std.specs.Cmp.{Equal-is, IsTotalOrder, nat_cmp_total, on_total, then_total}
use Rattle.std.specs.FinMap.{IsAntisymmetric, nat_cmp-IsAntisymmetric}
use Rattle.std.specs.Ordering.{eq_by_cmp}
use Rattle.value_core.proofs.Basics.{both_equal, bytes_tie}
use Rattle.sched_rows.specs.Ends.{end_cmp}
use Rattle.sched_rows.specs.RowKeys.{RowKey, row_key_cmp}

-- keys that tie are equal
pub row_key_cmp_tells : IsAntisymmetric row_key_cmp
row_key_cmp_tells x y e =
    let b = both_equal _ _ e in
    let op : x.op ≡ y.op = bytes_tie x.op y.op b.0 in
    let key : x.key ≡ y.key = bytes_tie x.key y.key b.1 in
    λ i. record { op = op i; key = key i }

-- the same by the test
pub row_keys_tie : (x y : RowKey) → eq_by_cmp row_key_cmp x y ≡ true → x ≡ y
row_keys_tie x y e = row_key_cmp_tells x y ((Equal-is (row_key_cmp x y)).0 e)

pub end_cmp_total : IsTotalOrder end_cmp
end_cmp_total = then_total (on_total (λ e. e.time) nat_cmp_total) (on_total (λ e. e.place) nat_cmp_total)

-- ends that tie are equal
pub end_cmp_tells : IsAntisymmetric end_cmp
end_cmp_tells x y e =
    let b = both_equal _ _ e in
    let time : x.time ≡ y.time = nat_cmp-IsAntisymmetric x.time y.time b.0 in
    let place : x.place ≡ y.place = nat_cmp-IsAntisymmetric x.place y.place b.1 in
    λ i. record { time = time i; place = place i }
