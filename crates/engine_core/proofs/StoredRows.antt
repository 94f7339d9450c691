-- Stored rows, taken over one after the other.
use Rattle.std.proofs.Common.{◌≡◌, ℕ, ◌^◌, min, Bool, true, false, cond, List, [], ◌∷◌, map, Option, Some, None, is_some, refl, ap, sym, ◌∙◌, subst}
use Rattle.std.specs.FinMap.{entries, get, get-empty, insert, same_map}
use Rattle.std.specs.Cmp.{tied_itself}
use Rattle.std.specs.Ordering.{eq_by_cmp, is_eq}
use Rattle.sched_rows.proofs.KeyOrders.{row_key_cmp_tells, row_keys_tie}
use Rattle.sched_rows.specs.RowKeys.{RowKey, key_of, row_key_cmp, row_key_cmp_total}
use Rattle.sched_rows.specs.Rows.{Kept, Rows, nothing_kept, with_row}
use Rattle.sched_rows.specs.Validity.{IsTime}
use Rattle.sched_rows.specs.declared.row.Row.{Row}
use Rattle.term_core.specs.declared.program.Program.{Program}
use Rattle.op_keys.specs.declared.level.Level.{Level}
use Rattle.core_rules.specs.Openings.{Durable, IsOpenable, latest, or_declared, rows_in, stored_at}
use Rattle.core_rules.specs.declared.own.RowChange.TheVariants as row
use Rattle.engine_rules.specs.Touched.{KeptFor, expiry_named}
use Rattle.engine_rules.proofs.KeptRows.{kept_through_changes}
use Rattle.engine_rules.proofs.RowsAfter.{after_put}
use Rattle.core_rules.proofs.Bounded.{found_openable}
use Rattle.engine_core.specs.inside.Opening.{AreNoJobs, AreOpened, AreRowsFor, IsInTime, with_first}
use Rattle.engine_core.specs.declared.stored.OpenedParts.{OpenedParts}

-- the first of two rows that may be there
abbrev pub first_row : Option Row → Option Row → Option Row
first_row (Some r) o = Some r
first_row None o = o

-- these rows are those taken over so far, and for other keys the ones that are left
pub record Loading (program : Program) (all left : List Row) (k : Kept) : Type 0 where
  pub found : (q : RowKey) → get (rows_in all) q ≡ first_row (get k.rows q) (get (rows_in left) q)
  pub expiries : KeptFor program k

-- the row that is next, by the key
next_is : (r : Row) (left : List Row) (q : RowKey) → get (rows_in (r ∷ left)) q ≡ cond (eq_by_cmp row_key_cmp q (key_of r)) (Some r) (get (rows_in left) q)
next_is r left q = after_put (rows_in left) (key_of r) q r

none_kept : (program : Program) → KeptFor program nothing_kept
none_kept program key r e = let none : get nothing_kept.rows key ≡ None = get-empty row_key_cmp key in let z : ⊥ = cc in absurd z

pub loading_begins : (program : Program) (all : List Row) → Loading program all all nothing_kept
loading_begins program all = record { found = λ q. sym (ap (λ o. first_row o (get (rows_in all) q)) (get-empty row_key_cmp q)); expiries = none_kept program }

put_found : (rows : Rows) (r : Row) (left : List Row) (q : RowKey) → get rows (key_of r) ≡ None →
    first_row (get rows q) (get (rows_in (r ∷ left)) q) ≡ first_row (get (insert rows (key_of r) r) q) (get (rows_in left) q)
put_found rows r left q none =
    ap (first_row (get rows q)) (next_is r left q)
    ∙ elim (eq_by_cmp row_key_cmp q (key_of r)) as (λ b. eq_by_cmp row_key_cmp q (key_of r) ≡ b → first_row (get rows q) (cond b (Some r) (get (rows_in left) q)) ≡ first_row (cond b (Some r) (get rows q)) (get (rows_in left) q)) [
      | true ↦ λ tie. ap (λ o. first_row o (Some r)) (ap (get rows) (row_keys_tie q (key_of r) tie) ∙ none)
      | false ↦ λ tie. refl
    ] refl
    ∙ sym (ap (λ o. first_row o (get (rows_in left) q)) (after_put rows (key_of r) q r))

pub loading_puts : (program : Program) (all : List Row) (r : Row) (left : List Row) (k k' : Kept) → Loading program all (r ∷ left) k → get k.rows (key_of r) ≡ None → k' ≡ with_row r (expiry_named program r.op) k → Loading program all left k'
loading_puts program all r left k k' l none is = subst (Loading program all left) (sym is) (record {
  found = λ q. l.found q ∙ put_found k.rows r left q none;
  expiries = (kept_through_changes program (row.Put r) k l.expiries).0;
})

skip_found : (o : Option Row) (b : Bool) (r : Row) (rest : Option Row) → (b ≡ true → is_some o ≡ true) → first_row o (cond b (Some r) rest) ≡ first_row o rest
skip_found (Some x) b r rest h = refl
skip_found None true r rest h = let there = h refl in let z : ⊥ = cc in absurd z
skip_found None false r rest h = refl

pub loading_skips : (program : Program) (all : List Row) (r : Row) (left : List Row) (k : Kept) → Loading program all (r ∷ left) k → is_some (get k.rows (key_of r)) ≡ true → Loading program all left k
loading_skips program all r left k l some = record {
  found = λ q. l.found q ∙ ap (first_row (get k.rows q)) (next_is r left q)
      ∙ skip_found (get k.rows q) (eq_by_cmp row_key_cmp q (key_of r)) r (get (rows_in left) q) (λ tie. ap (λ x. is_some (get k.rows x)) (row_keys_tie q (key_of r) tie) ∙ some);
  expiries = l.expiries;
}

pub itself_tied : (k : RowKey) → eq_by_cmp row_key_cmp k k ≡ true
itself_tied k = ap is_eq (tied_itself row_key_cmp_total k)

-- a row that is taken over is among all
pub loading_finds : (program : Program) (all : List Row) (r : Row) (left : List Row) (k : Kept) → Loading program all (r ∷ left) k → get k.rows (key_of r) ≡ None → get (rows_in all) (key_of r) ≡ Some r
loading_finds program all r left k l none =
    l.found (key_of r) ∙ ap (λ o. first_row o (get (rows_in (r ∷ left)) (key_of r))) none ∙ next_is r left (key_of r)
    ∙ ap (λ b. cond b (Some r) (get (rows_in left) (key_of r))) (itself_tied (key_of r))

first_left : (o : Option Row) → first_row o None ≡ o
first_left None = refl
first_left (Some r) = refl

pub loading_ends : (program : Program) (all : List Row) (k : Kept) → Loading program all [] k → AreRowsFor program (rows_in all) k
loading_ends program all k l = record {
  rows = same_map row_key_cmp_total row_key_cmp_tells _ _ (λ q. sym (l.found q ∙ ap (first_row (get k.rows q)) (get-empty row_key_cmp q) ∙ first_left (get k.rows q)));
  expiries = l.expiries;
}

next_by : (program : Program) (all : List Row) (r : Row) (left : List Row) (k : Kept) (o : Option Row) → get k.rows (key_of r) ≡ o → Loading program all (r ∷ left) k →
    Loading program all left (cond (is_some o) k (with_row r (expiry_named program r.op) k))
next_by program all r left k None is l = loading_puts program all r left k (with_row r (expiry_named program r.op) k) l is refl
next_by program all r left k (Some x) is l = loading_skips program all r left k l (ap is_some is)

-- a row is taken over, unless one with its key was
pub loading_next : (program : Program) (all : List Row) (r : Row) (left : List Row) (k k' : Kept) → Loading program all (r ∷ left) k → k' ≡ with_first program r k → Loading program all left k'
loading_next program all r left k k' l is = subst (Loading program all left) (sym is) (next_by program all r left k (get k.rows (key_of r)) refl l)

-- a row that is taken over finished at a time
pub loading_times : (program : Program) (all : List Row) (r : Row) (left : List Row) (k : Kept) → IsInTime (rows_in all) → Loading program all (r ∷ left) k → get k.rows (key_of r) ≡ None → IsTime r.finished
loading_times program all r left k times l none = times (key_of r) r (loading_finds program all r left k l none)

pub rows_in_time : (d : Durable) → IsOpenable d → IsInTime d.rows
rows_in_time d h k r e = (found_openable d k r h e).finished

pub times_by : (d : Durable) (rows : Rows) → IsOpenable d → d.rows ≡ rows → IsInTime rows
times_by d rows h e = subst IsInTime e (rows_in_time d h)

-- the parts of an opening, by what is stored
pub parts_opened_by : (program : Program) (d : Durable) (threshold : Option Level) (reading : ℕ) (o : OpenedParts) → o.inputs.items ≡ map (λ i. or_declared i (stored_at d.inputs i.name)) program.inputs → AreRowsFor program d.rows o.rows →
    AreNoJobs program threshold d.next o.jobs → o.moment ≡ latest (min reading (2 ^ 60)) (entries o.rows.rows) → AreOpened program d threshold reading o
parts_opened_by program d threshold reading o inputs rows jobs moment = record {
  inputs = inputs;
  rows = rows;
  jobs = jobs;
  moment = moment ∙ ap (λ (m : Rows). latest (min reading (2 ^ 60)) (entries m)) rows.rows;
}
