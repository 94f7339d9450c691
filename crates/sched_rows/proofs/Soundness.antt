-- What the maps of held rows keep.
use Rattle.std.proofs.Common.{◌≡◌, true, false, cond, List, [], ◌∷◌, map, Some, is_some, refl, sym, ap, subst, ◌∙◌, inl, inr}
use Rattle.std.proofs.lemmas.Bool.{cases_Bool}
use Rattle.std.proofs.lemmas.List.Elements.{All-head, All-tail}
use Rattle.std.proofs.lemmas.Option.{none-some, same_Some}
use Rattle.std.specs.Cmp.{Equal-is}
use Rattle.std.specs.FinMap.{FinMap, get, get-from_sorted}
use Rattle.std.specs.FinMap.Entries.{find}
use Rattle.std.specs.List.{All}
use Rattle.std.specs.Ordering.{eq_by_cmp}
use Rattle.op_keys.specs.declared.declarations.Expiry.{Expiry}
use Rattle.sched_rows.specs.declared.holding.Held.{Held}
use Rattle.sched_rows.specs.declared.row.Row.{Row}
use Rattle.sched_rows.specs.Ends.{end_cmp}
use Rattle.sched_rows.specs.Holding.{IsHeldInRange, IsOrderly, expiries_of, expiry_entry, held_key, row_entry, rows_of}
use Rattle.sched_rows.specs.RowKeys.{RowKey, key_of, row_key_cmp}
use Rattle.sched_rows.specs.Rows.{IsSound, Kept}
use Rattle.sched_rows.specs.Validity.{IsInRange, IsTime}
use Rattle.sched_rows.proofs.KeptLaws.{expiries_ordered}
use Rattle.sched_rows.proofs.KeyOrders.{row_key_cmp_tells}

-- the item that a look-up finds
found : {X : Type 0} (P : Held → Type 0) (val : Held → X) (key : RowKey) (hs : List Held) (v : X) → All P hs → find row_key_cmp key (map (λ h. (held_key h, val h)) hs) ≡ Some v → (h : Held) × P h × (held_key h ≡ key) × (val h ≡ v)
found P val key [] v all is = absurd (none-some v is)
found P val key (h ∷ hs) v all is =
    let rest = find row_key_cmp key (map (λ h. (held_key h, val h)) hs) in
    elim (cases_Bool (eq_by_cmp row_key_cmp key (held_key h))) [
      | inl tied ↦ (h, All-head P h hs all, sym (row_key_cmp_tells key (held_key h) ((Equal-is (row_key_cmp key (held_key h))).0 tied)), same_Some (val h) v (sym (ap (λ b. cond b (Some (val h)) rest) tied) ∙ is))
      | inr other ↦ found P val key hs v (All-tail P h hs all) (sym (ap (λ b. cond b (Some (val h)) rest) other) ∙ is)
    ]

both_or_none : {X Y : Type 0} (f : Held → X) (g : Held → Y) (key : RowKey) (hs : List Held) → is_some (find row_key_cmp key (map (λ h. (held_key h, f h)) hs)) ≡ is_some (find row_key_cmp key (map (λ h. (held_key h, g h)) hs))
both_or_none f g key [] = refl
both_or_none f g key (h ∷ hs) = elim (eq_by_cmp row_key_cmp key (held_key h)) as (λ b. is_some (cond b (Some (f h)) (find row_key_cmp key (map (λ h. (held_key h, f h)) hs))) ≡ is_some (cond b (Some (g h)) (find row_key_cmp key (map (λ h. (held_key h, g h)) hs)))) [
  | true ↦ refl
  | false ↦ both_or_none f g key hs
]

pub sound : (hs : List Held) (ends : FinMap end_cmp (Unit {0})) (k : Kept) → rows_of hs ≡ k.rows → expiries_of hs ≡ k.expiries → IsOrderly hs ends → IsSound k
sound hs ends k rows expiries o =
    let row_find : (key : RowKey) → get k.rows key ≡ find row_key_cmp key (map row_entry hs) = λ key. ap (λ (m : FinMap row_key_cmp Row). get m key) (sym rows) ∙ get-from_sorted row_key_cmp (map row_entry hs) key o.ordered in
    let expiry_find : (key : RowKey) → get k.expiries key ≡ find row_key_cmp key (map expiry_entry hs) = λ key. ap (λ (m : FinMap row_key_cmp Expiry). get m key) (sym expiries) ∙ get-from_sorted row_key_cmp (map expiry_entry hs) key (expiries_ordered hs o.ordered) in
    record {
      keys = λ key. ap is_some (expiry_find key) ∙ both_or_none (λ h. h.expiry) (λ h. h.row) key hs ∙ sym (ap is_some (row_find key));
      rows = λ key row is.
          let f = found IsHeldInRange (λ h. h.row) key hs row o.in_range (sym (row_find key) ∙ is) in
          (ap key_of (sym f.3) ∙ f.2, subst (λ (r : Row). IsTime r.finished) f.3 f.1.0);
      expiries = λ key expiry is.
          let f = found IsHeldInRange (λ h. h.expiry) key hs expiry o.in_range (sym (expiry_find key) ∙ is) in
          subst IsInRange f.3 f.1.1;
    }
