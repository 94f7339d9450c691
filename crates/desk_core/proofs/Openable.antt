-- What a session can open with is what the engine asks of it.
use Rattle.std.proofs.Common.{◌≡◌, ℕ, true, List, [], ◌∷◌}
use Rattle.std.specs.List.{AllByRecursion}
use Rattle.value_core.specs.declared.value.Outcome.{Outcome}
use Rattle.value_core.specs.declared.value.Value.{Value, Value-F, out-Value}
use Rattle.value_core.specs.Values.{weight_of}
use Rattle.value_core.proofs.Basics.{and_both, is_nat_le}
use Rattle.term_core.specs.Limits.{is_input_layer, is_literal_layer}
use Rattle.term_core.specs.States.{weight_limit}
use Rattle.term_check.proofs.Proper.{literal_proper}
use Rattle.sched_rows.specs.RowKeys.{row_key_cmp, row_key_cmp_total}
use Rattle.sched_rows.proofs.KeyOrders.{row_key_cmp_tells}
use Rattle.core_rules.specs.Openings.{Durable}
use Rattle.engine_rules.specs.Proper.{AreRowsShort, IsLight, IsProperDurable}
use Rattle.keeper_core.specs.Openings.{IsLiteralValue, IsOpenableWithin, IsRowShort}
use Rattle.keeper_core.proofs.EveryEntry.{every_of_all}

-- ---- values

literal_layer : (l : Value-F Outcome Value) → is_input_layer l ≡ true → is_literal_layer l ≡ true
literal_layer (Value-F.Words t) h = h
literal_layer (Value-F.Num n) h = h
literal_layer Value-F.Unit h = absurd cc
literal_layer (Value-F.Pair a b) h = absurd cc
literal_layer (Value-F.List xs) h = h
literal_layer (Value-F.Out o) h = absurd cc

pub is_light : (v : Value) → IsLiteralValue v → IsLight v
is_light v h =
    let proper = literal_proper v (and_both (is_literal_layer (out-Value v)) _ (literal_layer (out-Value v) h.within) (is_nat_le (weight_of v) weight_limit h.light)) in
    record { bounded = proper.bounded; light = proper.light }

all_light : (es : List (List ℕ × Value)) → AllByRecursion (λ e. IsLiteralValue e.1) es → AllByRecursion (λ e. IsLight e.1) es
all_light [] h = tt
all_light (e ∷ es) h = (is_light e.1 h.0, all_light es h.1)

-- ---- rows

rows_short : (d : Durable) → IsOpenableWithin d → AreRowsShort d.rows
rows_short d h k r found =
    let short = every_of_all row_key_cmp row_key_cmp_total row_key_cmp_tells IsRowShort d.rows h.rows k r found in
    record { key = short.key; value = short.value; result = short.result }

-- ---- the whole

pub durable_proper : (d : Durable) → IsOpenableWithin d → IsProperDurable d
durable_proper d h = record { inputs = all_light d.inputs h.values; rows = rows_short d h }
