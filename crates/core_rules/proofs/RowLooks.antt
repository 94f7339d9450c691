-- What is found of rows that are written out: a look-up that computes stands for that of the rows.
use Rattle.std.proofs.Common.{◌≡◌, Bool, true, false, List, [], ◌∷◌, Option, Some, None, refl, ap, ◌∙◌}
use Rattle.std.specs.Prelude.{◌^◌, if◌then◌else◌, nat_lt}
use Rattle.std.specs.FinMap.{from_entries, get, get-from_entries}
use Rattle.std.specs.FinMap.Entries.{find as find_entry}
use Rattle.std.specs.Option.{option_and_then}
use Rattle.value_core.specs.declared.state.Triple.{Triple}
use Rattle.op_keys.specs.declared.declarations.OpDecl.{OpDecl}
use Rattle.term_core.specs.declared.entries.Entry.{Entry}
use Rattle.sched_rows.specs.declared.row.Row.{Row}
use Rattle.sched_rows.specs.RowKeys.{RowKey, row_key, row_key_cmp, row_key_cmp_total}
use Rattle.sched_rows.specs.Rows.{Rows}
use Rattle.core_rules.specs.Core.{CoreState, op_of}
use Rattle.core_rules.specs.Entries.{entry_by, entry_in, job_of, row_at, with_value}
use Rattle.core_rules.specs.Settling.{create_all, created, dropped, lost_marked, served_by, settle_for, targets}

abbrev pub Look : Type 0
Look = RowKey → Option Row

-- what is found in some rows
abbrev pub listed : List (RowKey × Row) → Look
listed es k = find_entry row_key_cmp k es

pub listed_is : (es : List (RowKey × Row)) → get (from_entries {R = row_key_cmp} es) ≡ listed es
listed_is es = λ i k. get-from_entries row_key_cmp_total es k i

-- the row of a triple
abbrev pub row_found : Look → Option OpDecl → Triple → Option Row
row_found look (Some d) t = option_and_then (with_value t.value) (look (row_key d.name t.key))
row_found look None t = None

row_is : (rows : Rows) (d : Option OpDecl) (t : Triple) → option_and_then (with_value t.value) (row_at rows d t.key) ≡ row_found (get rows) d t
row_is rows (Some d) t = refl
row_is rows None t = refl

-- its entry
abbrev pub entry_found : Look → CoreState → Triple → Entry
entry_found look s t = entry_by s (op_of s t.op) (job_of s.jobs t) (row_found look (op_of s t.op) t)

pub entry_is : (look : Look) (s : CoreState) (t : Triple) → get s.rows ≡ look → entry_in s t ≡ entry_found look s t
entry_is look s t h = ap (entry_by s (op_of s t.op) (job_of s.jobs t)) (row_is s.rows (op_of s t.op) t) ∙ ap (λ f. entry_found f s t) h

-- with a new job for it, unless it is served
abbrev pub created_unless : CoreState → Triple → Bool → Option CoreState
created_unless s t b = if b then Some s else (if nat_lt s.next (2 ^ 62) then Some (created s t) else None)

-- jobs for some targets
abbrev pub create_found : Look → CoreState → List Triple → Option CoreState
create_found look s [] = Some s
create_found look s (t ∷ ts) = option_and_then (λ z. create_found look z ts) (created_unless s t (served_by s t (row_found look (op_of s t.op) t)))

each_created : (s : CoreState) (t : Triple) (ts : List Triple) → ((z : CoreState) → create_all z ts ≡ create_found (get z.rows) z ts) → (b : Bool) →
    option_and_then (λ z. create_all z ts) (created_unless s t b) ≡ option_and_then (λ z. create_found (get s.rows) z ts) (created_unless s t b)
each_created s t ts h true = h s
each_created s t ts h false = elim (nat_lt s.next (2 ^ 62)) as (λ c. option_and_then (λ z. create_all z ts) (if c then Some (created s t) else None) ≡ option_and_then (λ z. create_found (get s.rows) z ts) (if c then Some (created s t) else None)) [
  | true ↦ h (created s t)
  | false ↦ refl
]

create_is : (ts : List Triple) (s : CoreState) → create_all s ts ≡ create_found (get s.rows) s ts
create_is [] s = refl
create_is (t ∷ ts) s = ap (λ r. option_and_then (λ z. create_all z ts) (created_unless s t (served_by s t r))) (row_is s.rows (op_of s t.op) t)
    ∙ each_created s t ts (create_is ts) (served_by s t (row_found (get s.rows) (op_of s t.op) t))

-- settled for some wanted triples
abbrev pub settle_found : Look → List Triple → CoreState → Option CoreState
settle_found look ws s = create_found look (lost_marked ws (dropped ws s)) (targets ws s.jobs)

pub settle_is : (look : Look) (ws : List Triple) (s : CoreState) → get s.rows ≡ look → settle_for ws s ≡ settle_found look ws s
settle_is look ws s h = create_is (targets ws s.jobs) (lost_marked ws (dropped ws s)) ∙ ap (λ f. settle_found f ws s) h
