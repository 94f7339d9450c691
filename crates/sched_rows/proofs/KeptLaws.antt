-- What edits of the list of held rows come to for the maps that it stands for.
use Rattle.std.proofs.Common.{◌≡◌, ℕ, suc, ◌<◌, T, List, [], ◌∷◌, map, get_or, set, take, drop, length, nat_eq, Some, None, is_some, sym, ap, subst, ◌∙◌, arith}
use Rattle.std.proofs.lemmas.List.Elements.{All-append, All-cons, All-drop, All-get_or, All-nil, All-set, All-take}
use Rattle.std.specs.FinMap.{FinMap, empty, empty_of_len, entries, entries-from_sorted, get, get-empty, is_sorted, len-entries}
use Rattle.std.specs.FinMap as map_of
use Rattle.std.specs.List.{All, insert, remove}
use Rattle.std.specs.Option.{option_eq}
use Rattle.op_keys.specs.declared.declarations.Expiry.{Expiry}
use Rattle.sched_rows.specs.declared.holding.Held.{Held}
use Rattle.sched_rows.specs.declared.row.Row.{Row}
use Rattle.sched_rows.specs.Ends.{end_cmp}
use Rattle.sched_rows.specs.Holding.{IsHeldInRange, IsIndexOf, IsOrdered, IsOrderly, end_at, expiries_of, expiry_entry, held_key, marked_held, row_entry, rows_of}
use Rattle.sched_rows.specs.Ordered.{IsGapFor, IsPlaceOf}
use Rattle.sched_rows.specs.RowKeys.{RowKey, row_key_cmp, row_key_cmp_total}
use Rattle.sched_rows.specs.Rows.{Expiries, Rows, mark_found, marked}
use Rattle.sched_rows.proofs.KeyOrders.{row_key_cmp_tells}
use Rattle.sched_rows.proofs.SortedEntries.{get-gap, get-place, insert_same, is_sorted-val, map_insert, map_remove, map_set, remove_none, sorted_insert, sorted_remove, sorted_set}

abbrev row_in : Held → Row
row_in h = h.row

abbrev expiry_in : Held → Expiry
expiry_in h = h.expiry

pub expiries_ordered : (hs : List Held) → IsOrdered hs → T (is_sorted row_key_cmp (map expiry_entry hs))
expiries_ordered hs h = subst T (is_sorted-val row_key_cmp held_key row_in expiry_in hs) h

-- the maps as lists
pub entries_rows : (hs : List Held) (rows : Rows) → rows_of hs ≡ rows → IsOrdered hs → entries rows ≡ map row_entry hs
entries_rows hs rows was h = ap entries (sym was) ∙ entries-from_sorted row_key_cmp (map row_entry hs) h

pub entries_expiries : (hs : List Held) (expiries : Expiries) → expiries_of hs ≡ expiries → IsOrdered hs → entries expiries ≡ map expiry_entry hs
entries_expiries hs expiries was h = ap entries (sym was) ∙ entries-from_sorted row_key_cmp (map expiry_entry hs) (expiries_ordered hs h)

-- no rows
pub rows_of-nil : rows_of [] ≡ empty
rows_of-nil = empty_of_len (rows_of []) (len-entries (rows_of []) ∙ ap length (entries-from_sorted row_key_cmp [] tt))

pub expiries_of-nil : expiries_of [] ≡ empty
expiries_of-nil = empty_of_len (expiries_of []) (len-entries (expiries_of []) ∙ ap length (entries-from_sorted row_key_cmp [] tt))

-- what stands under a key
pub row_at : (hs : List Held) (rows : Rows) (key : RowKey) (i : ℕ) (d : Held) → rows_of hs ≡ rows → IsOrdered hs → IsPlaceOf held_key key hs i → get rows key ≡ Some (get_or hs i d).row
row_at hs rows key i d was h at = ap (λ (m : Rows). get m key) (sym was) ∙ get-place row_key_cmp row_key_cmp_total held_key row_in key hs i d h at

pub no_row : (hs : List Held) (rows : Rows) (key : RowKey) (i : ℕ) → rows_of hs ≡ rows → IsOrdered hs → IsGapFor row_key_cmp held_key key hs i → get rows key ≡ None
no_row hs rows key i was h gap = ap (λ (m : Rows). get m key) (sym was) ∙ get-gap row_key_cmp row_key_cmp_total held_key row_in key hs i h gap

pub expiry_at : (hs : List Held) (expiries : Expiries) (key : RowKey) (i : ℕ) (d : Held) → expiries_of hs ≡ expiries → IsOrdered hs → IsPlaceOf held_key key hs i → get expiries key ≡ Some (get_or hs i d).expiry
expiry_at hs expiries key i d was h at = ap (λ (m : Expiries). get m key) (sym was) ∙ get-place row_key_cmp row_key_cmp_total held_key expiry_in key hs i d (expiries_ordered hs h) at

pub no_expiry : (hs : List Held) (expiries : Expiries) (key : RowKey) (i : ℕ) → expiries_of hs ≡ expiries → IsOrdered hs → IsGapFor row_key_cmp held_key key hs i → get expiries key ≡ None
no_expiry hs expiries key i was h gap = ap (λ (m : Expiries). get m key) (sym was) ∙ get-gap row_key_cmp row_key_cmp_total held_key expiry_in key hs i (expiries_ordered hs h) gap

-- a row put in
pub rows_insert : (hs after : List Held) (rows : Rows) (i : ℕ) (h : Held) → rows_of hs ≡ rows → IsOrdered hs → IsGapFor row_key_cmp held_key (held_key h) hs i → after ≡ insert hs i h → rows_of after ≡ map_of.insert rows (held_key h) h.row
rows_insert hs after rows i h was o gap is =
    ap rows_of is ∙ map_insert row_key_cmp row_key_cmp_total held_key row_in h hs i o gap ∙ ap (λ (m : Rows). map_of.insert m (held_key h) h.row) was

pub expiries_insert : (hs after : List Held) (expiries : Expiries) (i : ℕ) (h : Held) → expiries_of hs ≡ expiries → IsOrdered hs → IsGapFor row_key_cmp held_key (held_key h) hs i → after ≡ insert hs i h → expiries_of after ≡ map_of.insert expiries (held_key h) h.expiry
expiries_insert hs after expiries i h was o gap is =
    ap expiries_of is ∙ map_insert row_key_cmp row_key_cmp_total held_key expiry_in h hs i (expiries_ordered hs o) gap ∙ ap (λ (m : Expiries). map_of.insert m (held_key h) h.expiry) was

-- a row in the stead of another
pub rows_set : (hs after : List Held) (rows : Rows) (i : ℕ) (h : Held) → rows_of hs ≡ rows → IsOrdered hs → IsPlaceOf held_key (held_key h) hs i → after ≡ set hs i h → rows_of after ≡ map_of.insert rows (held_key h) h.row
rows_set hs after rows i h was o at is =
    ap rows_of is ∙ map_set row_key_cmp row_key_cmp_total held_key row_in h hs i o at ∙ ap (λ (m : Rows). map_of.insert m (held_key h) h.row) was

pub expiries_set : (hs after : List Held) (expiries : Expiries) (i : ℕ) (h : Held) → expiries_of hs ≡ expiries → IsOrdered hs → IsPlaceOf held_key (held_key h) hs i → after ≡ set hs i h → expiries_of after ≡ map_of.insert expiries (held_key h) h.expiry
expiries_set hs after expiries i h was o at is =
    ap expiries_of is ∙ map_set row_key_cmp row_key_cmp_total held_key expiry_in h hs i (expiries_ordered hs o) at ∙ ap (λ (m : Expiries). map_of.insert m (held_key h) h.expiry) was

-- a row taken out
pub rows_remove : (hs after : List Held) (rows : Rows) (key : RowKey) (i : ℕ) (d : Held) → rows_of hs ≡ rows → IsOrdered hs → IsPlaceOf held_key key hs i → after ≡ remove hs i → rows_of after ≡ map_of.remove rows key
rows_remove hs after rows key i d was o at is =
    ap rows_of is ∙ map_remove row_key_cmp row_key_cmp_total held_key row_in row_key_cmp_tells key hs i d o at ∙ ap (λ (m : Rows). map_of.remove m key) was

pub expiries_remove : (hs after : List Held) (expiries : Expiries) (key : RowKey) (i : ℕ) (d : Held) → expiries_of hs ≡ expiries → IsOrdered hs → IsPlaceOf held_key key hs i → after ≡ remove hs i → expiries_of after ≡ map_of.remove expiries key
expiries_remove hs after expiries key i d was o at is =
    ap expiries_of is ∙ map_remove row_key_cmp row_key_cmp_total held_key expiry_in row_key_cmp_tells key hs i d (expiries_ordered hs o) at ∙ ap (λ (m : Expiries). map_of.remove m key) was

-- a key without row, taken out
pub rows_absent : (rows : Rows) (key : RowKey) → get rows key ≡ None → rows ≡ map_of.remove rows key
rows_absent rows key lacks = remove_none row_key_cmp row_key_cmp_total held_key row_in row_key_cmp_tells rows key lacks

pub expiries_absent : (expiries : Expiries) (key : RowKey) → get expiries key ≡ None → expiries ≡ map_of.remove expiries key
expiries_absent expiries key lacks = remove_none row_key_cmp row_key_cmp_total held_key expiry_in row_key_cmp_tells expiries key lacks

-- an expiry put in anew
pub expiries_same : (expiries : Expiries) (key : RowKey) (expiry : Expiry) → get expiries key ≡ Some expiry → expiries ≡ map_of.insert expiries key expiry
expiries_same expiries key expiry has = insert_same row_key_cmp row_key_cmp_total held_key expiry_in row_key_cmp_tells expiries key expiry has

-- the list stays in order and in range
pub orderly_insert : (hs after : List Held) (ends new : FinMap end_cmp (Unit {0})) (i : ℕ) (h : Held) → IsOrderly hs ends → IsGapFor row_key_cmp held_key (held_key h) hs i → IsHeldInRange h → after ≡ insert hs i h → IsIndexOf after new → IsOrderly after new
orderly_insert hs after ends new i h o gap range is index = record {
  ordered = subst IsOrdered (sym is) (sorted_insert row_key_cmp row_key_cmp_total held_key row_in h hs i o.ordered gap);
  in_range = subst (All IsHeldInRange) (sym is) (All-append IsHeldInRange (take i hs) (h ∷ drop i hs) (All-take IsHeldInRange i hs o.in_range) (All-cons IsHeldInRange h (drop i hs) range (All-drop IsHeldInRange i hs o.in_range)));
  indexed = index;
}

pub orderly_set : (hs after : List Held) (ends new : FinMap end_cmp (Unit {0})) (i : ℕ) (h : Held) → IsOrderly hs ends → IsPlaceOf held_key (held_key h) hs i → IsHeldInRange h → after ≡ set hs i h → IsIndexOf after new → IsOrderly after new
orderly_set hs after ends new i h o at range is index = record {
  ordered = subst IsOrdered (sym is) (sorted_set row_key_cmp row_key_cmp_total held_key row_in h hs i o.ordered at);
  in_range = subst (All IsHeldInRange) (sym is) (All-set IsHeldInRange hs i h range o.in_range);
  indexed = index;
}

pub orderly_remove : (hs after : List Held) (ends new : FinMap end_cmp (Unit {0})) (key : RowKey) (i : ℕ) (d : Held) → IsOrderly hs ends → IsPlaceOf held_key key hs i → after ≡ remove hs i → IsIndexOf after new → IsOrderly after new
orderly_remove hs after ends new key i d o at is index = record {
  ordered = subst IsOrdered (sym is) (sorted_remove row_key_cmp row_key_cmp_total held_key row_in key hs i d o.ordered at);
  in_range = subst (All IsHeldInRange) (sym is) (All-append IsHeldInRange (take i hs) (drop (suc i) hs) (All-take IsHeldInRange i hs o.in_range) (All-drop IsHeldInRange (suc i) hs o.in_range));
  indexed = index;
}

-- a row where there is one
pub an_item : (hs : List Held) (i : ℕ) → i < length hs → Held
an_item [] i within = absurd (omega arith)
an_item (h ∷ hs) i within = h

-- a row marked
marked_place : (hs : List Held) (key : RowKey) (i : ℕ) (d : Held) → IsPlaceOf held_key key hs i → IsPlaceOf held_key (held_key (marked_held (get_or hs i d))) hs i
marked_place hs key i d at = record { within = at.within; is = λ e. at.is e ∙ sym (at.is d) }

pub rows_mark : (hs after : List Held) (rows : Rows) (key : RowKey) (i : ℕ) (d : Held) → rows_of hs ≡ rows → IsOrdered hs → IsPlaceOf held_key key hs i → after ≡ set hs i (marked_held (get_or hs i d)) → rows_of after ≡ mark_found key (get rows key) rows
rows_mark hs after rows key i d was o at is =
    rows_set hs after rows i (marked_held (get_or hs i d)) was o (marked_place hs key i d at) is
    ∙ ap (λ (k : RowKey). map_of.insert rows k (marked (get_or hs i d).row)) (at.is d)
    ∙ sym (ap (λ o. mark_found key o rows) (row_at hs rows key i d was o at))

pub expiries_mark : (hs after : List Held) (expiries : Expiries) (key : RowKey) (i : ℕ) (d : Held) → expiries_of hs ≡ expiries → IsOrdered hs → IsPlaceOf held_key key hs i → after ≡ set hs i (marked_held (get_or hs i d)) → expiries_of after ≡ expiries
expiries_mark hs after expiries key i d was o at is =
    expiries_set hs after expiries i (marked_held (get_or hs i d)) was o (marked_place hs key i d at) is
    ∙ sym (expiries_same expiries (held_key (get_or hs i d)) (get_or hs i d).expiry (ap (get expiries) (at.is d) ∙ expiry_at hs expiries key i d was o at))

pub orderly_mark : (hs after : List Held) (ends new : FinMap end_cmp (Unit {0})) (key : RowKey) (i : ℕ) (d : Held) → IsOrderly hs ends → IsPlaceOf held_key key hs i → after ≡ set hs i (marked_held (get_or hs i d)) → IsIndexOf after new → IsOrderly after new
orderly_mark hs after ends new key i d o at is index =
    orderly_set hs after ends new i (marked_held (get_or hs i d)) o (marked_place hs key i d at) (All-get_or IsHeldInRange hs i d at.within o.in_range) is index

-- nothing is held
pub orderly_nil : (hs : List Held) (ends : FinMap end_cmp (Unit {0})) → hs ≡ [] → ends ≡ empty → IsOrderly hs ends
orderly_nil hs ends is none = record {
  ordered = subst IsOrdered (sym is) tt;
  in_range = subst (All IsHeldInRange) (sym is) (All-nil IsHeldInRange);
  indexed = λ time place.
      ap (λ (m : FinMap end_cmp (Unit {0})). is_some (get m (record { time = time; place = place }))) none ∙ ap is_some (get-empty end_cmp (record { time = time; place = place }))
      ∙ ap (λ (hs : List Held). option_eq nat_eq (end_at hs place) (Some time)) (sym is);
}
