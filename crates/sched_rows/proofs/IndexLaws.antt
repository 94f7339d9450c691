-- How the ends follow the rows that are held.
use Rattle.std.proofs.Common.{◌≡◌, ◌≢◌, ℕ, suc, ◌+◌, ◌-◌, ◌<◌, ◌≤◌, true, false, cond, nat_le, nat_lt, nat_eq, List, [], ◌∷◌, map, get_or, set, length, Option, Some, None, refl, sym, ap, subst, ◌∙◌, inl, inr, arith}
use Rattle.std.proofs.lemmas.Bool.{cases_Bool, cases_lt, cases_eq, cases_order, false≢true, eq-eqb, eqb-true, le-leb, lt-leb, lt-ltb, le-ltb}
use Rattle.std.proofs.lemmas.List.Elements.{All-cons, All-nil}
use Rattle.std.proofs.lemmas.Option.{none-some, same_Some, slice_get-get_or, slice_get_past}
use Rattle.std.specs.Cmp.{Equal-is, tied_itself}
use Rattle.std.specs.FinMap.{FinMap, contains_key, contains_key-keys, get, get-insert, get-remove, keys}
use Rattle.std.specs.FinMap as map_of
use Rattle.std.specs.List.{All, insert, remove}
use Rattle.std.specs.Option.{is_some, option_and_then, option_eq}
use Rattle.std.specs.Ordering.{eq_by_cmp, is_eq}
use Rattle.sched_rows.specs.declared.expiry_index.End.{End}
use Rattle.sched_rows.specs.declared.holding.Held.{Held}
use Rattle.sched_rows.specs.Ends.{end_cmp, moved_down, moved_up, with_end, without_end}
use Rattle.sched_rows.specs.Holding.{IsIndexOf, end_at, end_of}
use Rattle.sched_rows.proofs.KeyOrders.{end_cmp_tells, end_cmp_total}
use Rattle.sched_rows.proofs.Lookups.{slice_get-insert_above, slice_get-insert_at, slice_get-insert_below, slice_get-remove_above, slice_get-remove_below, slice_get-set_other, slice_get-set_same}
use Rattle.sched_rows.proofs.Members.{IsIn, any_found, any_in, map_found, map_in}
use Rattle.value_core.proofs.Basics.{same_test}

abbrev pub EndSet : Type 0
EndSet = FinMap end_cmp (Unit {0})

abbrev pub Has : EndSet → End → Type 0
Has ends e = contains_key ends e ≡ true

pub in_keys : (ends : EndSet) (e : End) → Has ends e → IsIn e (keys ends)
in_keys ends e has =
    let f = any_found (eq_by_cmp end_cmp e) (keys ends) (sym (contains_key-keys ends e) ∙ has) in
    let same : e ≡ f.0 = end_cmp_tells e f.0 ((Equal-is (end_cmp e f.0)).0 f.2) in
    subst (λ (x : End). IsIn x (keys ends)) (sym same) f.1

pub from_keys : (ends : EndSet) (e : End) → IsIn e (keys ends) → Has ends e
from_keys ends e h = contains_key-keys ends e ∙ any_in (eq_by_cmp end_cmp e) (keys ends) e h (ap is_eq (tied_itself end_cmp_total e))

pub all_in : {X : Type 0} (P : X → Type 0) (xs : List X) → ((x : X) → IsIn x xs → P x) → All P xs
all_in P [] each = All-nil P
all_in P (x ∷ xs) each = All-cons P x xs (each x (inl refl)) (all_in P xs (λ y h. each y (inr h)))

-- where an end stands among the rows
is_end : (o : Option ℕ) (t : ℕ) → option_eq nat_eq o (Some t) ≡ true → o ≡ Some t
is_end None t e = absurd (false≢true e)
is_end (Some s) t e = ap Some (eqb-true s t e)

from_end : (o : Option ℕ) (t : ℕ) → o ≡ Some t → option_eq nat_eq o (Some t) ≡ true
from_end o t e = ap (λ x. option_eq nat_eq x (Some t)) e ∙ eq-eqb t t refl

pub told : (hs : List Held) (ends : EndSet) (e : End) → IsIndexOf hs ends → Has ends e → end_at hs e.place ≡ Some e.time
told hs ends e index has = is_end (end_at hs e.place) e.time (sym (index e.time e.place) ∙ has)

pub tells : (hs : List Held) (ends : EndSet) (e : End) → IsIndexOf hs ends → end_at hs e.place ≡ Some e.time → Has ends e
tells hs ends e index is = index e.time e.place ∙ from_end (end_at hs e.place) e.time is

index_from : (hs : List Held) (ends : EndSet) → ((e : End) → Has ends e → end_at hs e.place ≡ Some e.time) → ((e : End) → end_at hs e.place ≡ Some e.time → Has ends e) → IsIndexOf hs ends
index_from hs ends f g = λ time place.
    let e : End = record { time = time; place = place } in
    same_test (contains_key ends e) (option_eq nat_eq (end_at hs place) (Some time)) (λ has. from_end (end_at hs place) time (f e has)) (λ is. g e (is_end (end_at hs place) time is))

-- an end's place is a row's
within_rows : (hs : List Held) (place t : ℕ) → end_at hs place ≡ Some t → place < length hs
within_rows hs place t is = elim (cases_lt place (length hs)) [
  | inl less ↦ less
  | inr past ↦ absurd (none-some t (sym (ap (option_and_then end_of) (slice_get_past hs place past)) ∙ is))
]

pub places_within_rows : (hs : List Held) (ends : EndSet) (n : ℕ) → IsIndexOf hs ends → length hs ≤ n → All (λ e. e.place < n) (keys ends)
places_within_rows hs ends n index long =
    all_in (λ (e : End). e.place < n) (keys ends) (λ e h. let r = within_rows hs e.place e.time (told hs ends e index (from_keys ends e h)) in omega arith)

-- a place moved up, or down
up_apart : (p n : ℕ) → cond (nat_le p n) (n + 1) n ≡ p → ⊥
up_apart p n e = elim (cases_lt n p) [
  | inl less ↦ let b : cond (nat_le p n) (n + 1) n ≡ n = ap (λ b. cond b (n + 1) n) (lt-leb p n less) in omega arith
  | inr more ↦ let b : cond (nat_le p n) (n + 1) n ≡ n + 1 = ap (λ b. cond b (n + 1) n) (le-leb p n more) in omega arith
]

up_below : (p n : ℕ) → n < p → cond (nat_le p n) (n + 1) n ≡ n
up_below p n less = ap (λ b. cond b (n + 1) n) (lt-leb p n less)

up_above : (p n : ℕ) → p ≤ n → cond (nat_le p n) (n + 1) n ≡ suc n
up_above p n more = ap (λ b. cond b (n + 1) n) (le-leb p n more) ∙ omega arith

down_below : (p n : ℕ) → n ≤ p → cond (nat_lt p n) (n - 1) n ≡ n
down_below p n less = ap (λ b. cond b (n - 1) n) (le-ltb p n less)

down_above : (p n : ℕ) → p < n → cond (nat_lt p n) (n - 1) n ≡ n - 1
down_above p n more = ap (λ b. cond b (n - 1) n) (lt-ltb p n more)

-- the ends are those of the rows at their places but one, which has none
pub record IsIndexBut (place : ℕ) (hs : List Held) (ends : FinMap end_cmp (Unit {0})) : Type 0 where
  pub apart : (e : End) → contains_key ends e ≡ true → e.place ≢ place
  pub tells : (e : End) → contains_key ends e ≡ true → end_at hs e.place ≡ Some e.time
  pub has : (e : End) → e.place ≢ place → end_at hs e.place ≡ Some e.time → contains_key ends e ≡ true

-- the place that has none, filled
pub filled : (hs : List Held) (ends : EndSet) (place : ℕ) (end : Option ℕ) → IsIndexBut place hs ends → end_at hs place ≡ end → IsIndexOf hs (with_end end place ends)
filled hs ends place None but is =
    index_from hs ends but.tells (λ e at. elim (cases_eq e.place place) [
      | inl same ↦ absurd (none-some e.time (sym is ∙ ap (end_at hs) (sym same) ∙ at))
      | inr apart ↦ but.has e apart at
    ])
filled hs ends place (Some time) but is =
    let new : End = record { time = time; place = place } in
    let found : (e : End) → contains_key (map_of.insert ends new tt) e ≡ is_some (cond (eq_by_cmp end_cmp e new) (Some tt) (get ends e)) = λ e. ap is_some (get-insert end_cmp_total ends new tt e) in
    index_from hs (map_of.insert ends new tt)
    (λ e has. elim (cases_Bool (eq_by_cmp end_cmp e new)) [
      | inl tied ↦ let same : e ≡ new = end_cmp_tells e new ((Equal-is (end_cmp e new)).0 tied) in subst (λ (x : End). end_at hs x.place ≡ Some x.time) (sym same) is
      | inr other ↦ but.tells e (sym (found e ∙ ap (λ b. is_some (cond b (Some tt) (get ends e))) other) ∙ has)
    ])
    (λ e at. elim (cases_Bool (eq_by_cmp end_cmp e new)) [
      | inl tied ↦ found e ∙ ap (λ b. is_some (cond b (Some tt) (get ends e))) tied
      | inr other ↦ found e ∙ ap (λ b. is_some (cond b (Some tt) (get ends e))) other ∙ but.has e
          (λ same. let time_is : e.time ≡ time = same_Some e.time time (sym at ∙ ap (end_at hs) same ∙ is) in
          let whole : e ≡ new = λ i. record { time = time_is i; place = same i } in
          false≢true (sym other ∙ ap (λ (x : End). eq_by_cmp end_cmp x new) whole ∙ ap is_eq (tied_itself end_cmp_total new)))
          at
    ])

-- a place emptied
pub emptied : (hs : List Held) (ends : EndSet) (place : ℕ) (end : Option ℕ) → IsIndexOf hs ends → end_at hs place ≡ end → IsIndexBut place hs (without_end end place ends)
emptied hs ends place None index is = record {
  apart = λ e has same. none-some e.time (sym is ∙ ap (end_at hs) (sym same) ∙ told hs ends e index has);
  tells = λ e has. told hs ends e index has;
  has = λ e apart at. tells hs ends e index at;
}
emptied hs ends place (Some time) index is =
    let old : End = record { time = time; place = place } in
    let found : (e : End) → contains_key (map_of.remove ends old) e ≡ is_some (cond (eq_by_cmp end_cmp e old) None (get ends e)) = λ e. ap is_some (get-remove end_cmp_total ends old e) in
    let kept : (e : End) → contains_key (map_of.remove ends old) e ≡ true → (eq_by_cmp end_cmp e old ≡ false) × Has ends e = λ e has. elim (cases_Bool (eq_by_cmp end_cmp e old)) [
      | inl tied ↦ absurd (false≢true (sym (found e ∙ ap (λ b. is_some (cond b None (get ends e))) tied) ∙ has))
      | inr other ↦ (other, sym (found e ∙ ap (λ b. is_some (cond b None (get ends e))) other) ∙ has)
    ] in
    record {
      apart = λ e has same.
          let k = kept e has in
          let time_is : e.time ≡ time = same_Some e.time time (sym (told hs ends e index k.1) ∙ ap (end_at hs) same ∙ is) in
          let whole : e ≡ old = λ i. record { time = time_is i; place = same i } in
          false≢true (sym k.0 ∙ ap (λ (x : End). eq_by_cmp end_cmp x old) whole ∙ ap is_eq (tied_itself end_cmp_total old));
      tells = λ e has. told hs ends e index (kept e has).1;
      has = λ e apart at. elim (cases_Bool (eq_by_cmp end_cmp e old)) [
        | inl tied ↦ absurd (apart (ap (λ (x : End). x.place) (end_cmp_tells e old ((Equal-is (end_cmp e old)).0 tied))))
        | inr other ↦ found e ∙ ap (λ b. is_some (cond b None (get ends e))) other ∙ tells hs ends e index at
      ];
    }

-- another row at the place that has none
pub replaced : (hs : List Held) (ends : EndSet) (place : ℕ) (h : Held) → IsIndexBut place hs ends → IsIndexBut place (set hs place h) ends
replaced hs ends place h but = record {
  apart = but.apart;
  tells = λ e has. ap (option_and_then end_of) (slice_get-set_other hs place h e.place (but.apart e has)) ∙ but.tells e has;
  has = λ e apart at. but.has e apart (sym (ap (option_and_then end_of) (slice_get-set_other hs place h e.place apart)) ∙ at);
}

-- a row put in at a place
pub opened : (hs : List Held) (ends new : EndSet) (place : ℕ) (h : Held) → IsIndexOf hs ends → place ≤ length hs → keys new ≡ map (moved_up place) (keys ends) → IsIndexBut place (insert hs place h) new
opened hs ends new place h index within are =
    let from : (e : End) → Has new e → (x : End) × Has ends x × (e ≡ moved_up place x) = λ e has.
    let f = map_found (moved_up place) (keys ends) e (subst (IsIn e) are (in_keys new e has)) in (f.0, from_keys ends f.0 f.1, f.2) in
    let onto : (x : End) → Has ends x → Has new (moved_up place x) = λ x has. from_keys new (moved_up place x) (subst (IsIn (moved_up place x)) (sym are) (map_in (moved_up place) (keys ends) x (in_keys ends x has))) in
    record {
      apart = λ e has same. let f = from e has in
          let p : e.place ≡ cond (nat_le place f.0.place) (f.0.place + 1) f.0.place = ap (λ (x : End). x.place) f.2 in
          up_apart place f.0.place (sym p ∙ same);
      tells = λ e has. let f = from e has in
          let at = told hs ends f.0 index f.1 in
          subst (λ (x : End). end_at (insert hs place h) x.place ≡ Some x.time) (sym f.2) (elim (cases_lt f.0.place place) [
            | inl less ↦ ap (λ n. end_at (insert hs place h) n) (up_below place f.0.place less) ∙ ap (option_and_then end_of) (slice_get-insert_below hs place h f.0.place less within) ∙ at
            | inr more ↦ ap (λ n. end_at (insert hs place h) n) (up_above place f.0.place more) ∙ ap (option_and_then end_of) (slice_get-insert_above hs place h f.0.place more within) ∙ at
          ]);
      has = λ e apart at. elim (cases_order e.place place) [
        | inl same ↦ absurd (apart same)
        | inr (inl less) ↦
            let kept : moved_up place e ≡ e = λ i. record { time = e.time; place = up_below place e.place less i } in
            subst (Has new) kept (onto e (tells hs ends e index (sym (ap (option_and_then end_of) (slice_get-insert_below hs place h e.place less within)) ∙ at)))
        | inr (inr more) ↦
            let x : End = record { time = e.time; place = e.place - 1 } in
            let next : suc (e.place - 1) ≡ e.place = omega arith in
            let moved : moved_up place x ≡ e = λ i. record { time = e.time; place = (up_above place (e.place - 1) (omega arith) ∙ next) i } in
            let was : end_at hs x.place ≡ Some x.time = sym (ap (λ n. end_at (insert hs place h) n) (sym next) ∙ ap (option_and_then end_of) (slice_get-insert_above hs place h (e.place - 1) (omega arith) within)) ∙ at in
            subst (Has new) moved (onto x (tells hs ends x index was))
      ];
    }

-- the row at a place without end taken out
pub closed : (hs : List Held) (ends new : EndSet) (place : ℕ) → IsIndexBut place hs ends → keys new ≡ map (moved_down place) (keys ends) → IsIndexOf (remove hs place) new
closed hs ends new place but are =
    let from : (e : End) → Has new e → (x : End) × Has ends x × (e ≡ moved_down place x) = λ e has.
    let f = map_found (moved_down place) (keys ends) e (subst (IsIn e) are (in_keys new e has)) in (f.0, from_keys ends f.0 f.1, f.2) in
    let onto : (x : End) → Has ends x → Has new (moved_down place x) = λ x has. from_keys new (moved_down place x) (subst (IsIn (moved_down place x)) (sym are) (map_in (moved_down place) (keys ends) x (in_keys ends x has))) in
    index_from (remove hs place) new
    (λ e has. let f = from e has in
    let at = but.tells f.0 f.1 in
    subst (λ (x : End). end_at (remove hs place) x.place ≡ Some x.time) (sym f.2) (elim (cases_order f.0.place place) [
      | inl same ↦ absurd (but.apart f.0 f.1 same)
      | inr (inl less) ↦ ap (λ n. end_at (remove hs place) n) (down_below place f.0.place (omega arith)) ∙ ap (option_and_then end_of) (slice_get-remove_below hs place f.0.place less) ∙ at
      | inr (inr more) ↦
          let next : suc (f.0.place - 1) ≡ f.0.place = omega arith in
          ap (λ n. end_at (remove hs place) n) (down_above place f.0.place more) ∙ ap (option_and_then end_of) (slice_get-remove_above hs place (f.0.place - 1) (omega arith)) ∙ ap (end_at hs) next ∙ at
    ]))
    (λ e at. elim (cases_lt e.place place) [
      | inl less ↦
          let kept : moved_down place e ≡ e = λ i. record { time = e.time; place = down_below place e.place (omega arith) i } in
          subst (Has new) kept (onto e (but.has e (λ same. absurd (omega arith)) (sym (ap (option_and_then end_of) (slice_get-remove_below hs place e.place less)) ∙ at)))
      | inr more ↦
          let x : End = record { time = e.time; place = suc e.place } in
          let back : suc e.place - 1 ≡ e.place = omega arith in
          let moved : moved_down place x ≡ e = λ i. record { time = e.time; place = (down_above place (suc e.place) (omega arith) ∙ back) i } in
          subst (Has new) moved (onto x (but.has x (λ same. absurd (omega arith)) (sym (ap (option_and_then end_of) (slice_get-remove_above hs place e.place more)) ∙ at)))
    ])

pub end_at-insert_at : (hs : List Held) (place : ℕ) (h : Held) → place ≤ length hs → end_at (insert hs place h) place ≡ end_of h
end_at-insert_at hs place h within = ap (option_and_then end_of) (slice_get-insert_at hs place h within)

pub end_at-set_same : (hs : List Held) (place : ℕ) (h : Held) → place < length hs → end_at (set hs place h) place ≡ end_of h
end_at-set_same hs place h within = ap (option_and_then end_of) (slice_get-set_same hs place h within)

pub end_at-within : (hs : List Held) (place : ℕ) (d : Held) → place < length hs → end_at hs place ≡ end_of (get_or hs place d)
end_at-within hs place d within = ap (option_and_then end_of) (slice_get-get_or hs place d within)

-- a row put in at a place, with its end
pub index_inserted : (hs after : List Held) (ends between new : EndSet) (place : ℕ) (h : Held) (end : Option ℕ) → IsIndexOf hs ends → place ≤ length hs → keys between ≡ map (moved_up place) (keys ends)
    → new ≡ with_end end place between → end ≡ end_of h → after ≡ insert hs place h → IsIndexOf after new
index_inserted hs after ends between new place h end index within are is end_is after_is =
    subst (λ (ends : EndSet). IsIndexOf after ends) (sym is) (subst (λ (hs : List Held). IsIndexOf hs (with_end end place between)) (sym after_is)
    (filled (insert hs place h) between place end (opened hs ends between place h index within are) (end_at-insert_at hs place h within ∙ sym end_is)))

-- a row in the stead of another, with their ends
pub index_replaced : (hs after : List Held) (ends between new : EndSet) (place : ℕ) (d h : Held) (old end : Option ℕ) → IsIndexOf hs ends → place < length hs → between ≡ without_end old place ends → new ≡ with_end end place between
    → old ≡ end_of (get_or hs place d) → end ≡ end_of h → after ≡ set hs place h → IsIndexOf after new
index_replaced hs after ends between new place d h old end index within empty is old_is end_is after_is =
    let but : IsIndexBut place hs between = subst (λ (ends : EndSet). IsIndexBut place hs ends) (sym empty) (emptied hs ends place old index (end_at-within hs place d within ∙ sym old_is)) in
    subst (λ (ends : EndSet). IsIndexOf after ends) (sym is) (subst (λ (hs : List Held). IsIndexOf hs (with_end end place between)) (sym after_is)
    (filled (set hs place h) between place end (replaced hs between place h but) (end_at-set_same hs place h within ∙ sym end_is)))

-- a row taken out, with its end
pub index_emptied : (hs : List Held) (ends between : EndSet) (place : ℕ) (d : Held) (old : Option ℕ) → IsIndexOf hs ends → place < length hs → between ≡ without_end old place ends → old ≡ end_of (get_or hs place d) → IsIndexBut place hs between
index_emptied hs ends between place d old index within empty old_is =
    subst (λ (ends : EndSet). IsIndexBut place hs ends) (sym empty) (emptied hs ends place old index (end_at-within hs place d within ∙ sym old_is))

pub none_at : (hs : List Held) (ends : EndSet) (place : ℕ) → IsIndexBut place hs ends → All (λ e. e.place ≢ place) (keys ends)
none_at hs ends place but = all_in (λ (e : End). e.place ≢ place) (keys ends) (λ e h. but.apart e (from_keys ends e h))

pub index_removed : (hs after : List Held) (between new : EndSet) (place : ℕ) → IsIndexBut place hs between → keys new ≡ map (moved_down place) (keys between) → after ≡ remove hs place → IsIndexOf after new
index_removed hs after between new place but are after_is = subst (λ (hs : List Held). IsIndexOf hs new) (sym after_is) (closed hs between new place but are)
