-- The world of a state has the state's entry for each triple.
use Rattle.std.proofs.Common.{◌≡◌, ℕ, ◌+◌, zero, suc, Bool, true, false, cond, ◌&&◌, ◌||◌, List, [], ◌∷◌, map, Some, None, refl, ap, sym, ◌∙◌, subst, arith}
use Rattle.std.proofs.lemmas.Bool.{and_from, eq-eqb, or_parts, both_ways}
use Rattle.std.specs.Prelude.{◌==◌, filter, option_and_then, slice_get, if◌then◌else◌}
use Rattle.std.specs.List.{list_any}
use Rattle.std.specs.Str.{bytes_eq}
use Rattle.std.specs.Ordering.{eq_by_cmp}
use Rattle.std.specs.FinMap.{entries, get-entries}
use Rattle.std.specs.FinMap.Entries.{find as find_entry}
use Rattle.value_core.specs.declared.state.Triple.{Triple}
use Rattle.core_rules.proofs.Helpers.{any-append}
use Rattle.core_rules.specs.Core.{CoreState, op_of, unstarted}
use Rattle.core_rules.specs.Entries.{entry_by, entry_in, job_of, known, row_at, row_triple, row_triples, with_value, world}
use Rattle.core_rules.specs.declared.jobs.Job.{Job}
use Rattle.op_keys.specs.declared.declarations.OpDecl.{OpDecl}
use Rattle.sched_rows.specs.RowKeys.{RowKey, row_key, row_key_cmp}
use Rattle.sched_rows.proofs.KeyOrders.{row_keys_tie}
use Rattle.sched_rows.specs.Rows.{Rows}
use Rattle.sched_rows.specs.declared.row.Row.{Row}
use Rattle.term_core.specs.World.{entry_of, found_in, stage_or_ready}
use Rattle.value_core.specs.Orders.{same_triple}
use Rattle.term_core.specs.declared.entries.Entry.{Entry}
use Rattle.term_core.specs.declared.entries.Entry.TheVariants as entry
use Rattle.value_core.proofs.Basics.{same_bytes, triple_same}

-- a list of triples with their own entries gives each its own, if that is the entry of all others
found_own : (f : Triple → Entry) (us : List Triple) (other : Entry) (t : Triple) → (list_any (λ u. same_triple u t) us ≡ false → other ≡ f t) → found_in (map (λ u. (u, f u)) us) other t ≡ f t
found_own f [] other t h = h refl
found_own f (u ∷ us) other t h = elim (same_triple u t) as (λ b. same_triple u t ≡ b → ((b || list_any (λ u. same_triple u t) us) ≡ false → other ≡ f t) → (if b then f u else found_in (map (λ u. (u, f u)) us) other t) ≡ f t) [
  | true ↦ λ e k. ap f (triple_same u t e)
  | false ↦ λ e k. found_own f us other t k
] refl h

no_job : (js : List Job) (t : Triple) → list_any (λ u. same_triple u t) (map (λ j. j.triple) js) ≡ false → job_of js t ≡ None
no_job [] t e = refl
no_job (j ∷ js) t e = elim (same_triple j.triple t) as (λ b. (b || list_any (λ u. same_triple u t) (map (λ j. j.triple) js)) ≡ false → cond b (Some j) (job_of js t) ≡ None) [
  | true ↦ λ k. let h : ⊥ = cc in absurd h
  | false ↦ no_job js t
] e

keys_same : (a b : RowKey) → eq_by_cmp row_key_cmp a b ≡ true → (a.op ≡ b.op) × (a.key ≡ b.key)
keys_same a b e = let p = row_keys_tie a b e in (ap (λ k. k.op) p, ap (λ k. k.key) p)

any_tail : {X : Type 0} (p : X → Bool) (b : Bool) (x : X) (xs : List X) → list_any p (cond b (x ∷ xs) xs) ≡ false → list_any p xs ≡ false
any_tail p true x xs e = (or_parts (p x) (list_any p xs) e).1
any_tail p false x xs e = e

map-cond : {X Y : Type 0} (f : X → Y) (b : Bool) (x : X) (xs : List X) → map f (cond b (x ∷ xs) xs) ≡ cond b (f x ∷ map f xs) (map f xs)
map-cond f true x xs = refl
map-cond f false x xs = refl

-- where a triple is none of an operation's rows, its row isn't found
no_row_of : (name : List ℕ) (t : Triple) (es : List (RowKey × Row)) → list_any (λ u. same_triple u t) (map (row_triple t.op) (filter (λ e. bytes_eq e.0.op name) es)) ≡ false →
    option_and_then (with_value t.value) (find_entry row_key_cmp (row_key name t.key) es) ≡ None
no_row_of name t [] h = refl
no_row_of name t (e ∷ es) h =
    let q : RowKey = row_key name t.key in
    let g = h in
    let all : list_any (λ u. same_triple u t) (cond (bytes_eq e.0.op name) (row_triple t.op e ∷ map (row_triple t.op) (filter (λ e. bytes_eq e.0.op name) es)) (map (row_triple t.op) (filter (λ e. bytes_eq e.0.op name) es))) ≡ false =
    subst (λ us. list_any (λ u. same_triple u t) us ≡ false) (map-cond (row_triple t.op) (bytes_eq e.0.op name) e (filter (λ e. bytes_eq e.0.op name) es)) g in
    elim (eq_by_cmp row_key_cmp q e.0) as (λ b. eq_by_cmp row_key_cmp q e.0 ≡ b → option_and_then (with_value t.value) (cond b (Some e.1) (find_entry row_key_cmp q es)) ≡ None) [
      | true ↦ λ is.
          let n = keys_same q e.0 is in
          let same : bytes_eq e.0.op name ≡ true = same_bytes e.0.op name (sym n.0) in
          let none : list_any (λ u. same_triple u t) (row_triple t.op e ∷ map (row_triple t.op) (filter (λ e. bytes_eq e.0.op name) es)) ≡ false =
          subst (λ c. list_any (λ u. same_triple u t) (cond c (row_triple t.op e ∷ map (row_triple t.op) (filter (λ e. bytes_eq e.0.op name) es)) (map (row_triple t.op) (filter (λ e. bytes_eq e.0.op name) es))) ≡ false) same all in
          let other = (or_parts (same_triple (row_triple t.op e) t) _ none).0 in
          elim (bytes_eq e.1.value t.value) as (λ b. bytes_eq e.1.value t.value ≡ b → (if b then Some e.1 else None) ≡ None) [
            | true ↦ λ v. absurd (both_ways _ other (and_from (t.op == t.op && bytes_eq e.0.key t.key) (bytes_eq e.1.value t.value)
                (and_from (t.op == t.op) (bytes_eq e.0.key t.key) (eq-eqb t.op t.op refl) (same_bytes e.0.key t.key (sym n.1))) v))
            | false ↦ λ v. refl
          ] refl
      | false ↦ λ is. no_row_of name t es (any_tail (λ u. same_triple u t) (bytes_eq e.0.op name) (row_triple t.op e) _ all)
    ] refl

no_row : (rows : Rows) (ds : List OpDecl) (at k : ℕ) (t : Triple) → t.op ≡ at + k → list_any (λ u. same_triple u t) (row_triples at ds (entries rows)) ≡ false →
    option_and_then (with_value t.value) (row_at rows (slice_get ds k) t.key) ≡ None
no_row rows [] at k t is h = refl
no_row rows (d ∷ ds) at zero t is h =
    let e : at ≡ t.op = omega arith in
    let parts = or_parts (list_any (λ u. same_triple u t) (map (row_triple at) (filter (λ e. bytes_eq e.0.op d.name) (entries rows)))) (list_any (λ u. same_triple u t) (row_triples (at + 1) ds (entries rows))) (sym (any-append (λ u. same_triple u t) (map (row_triple at) (filter (λ e. bytes_eq e.0.op d.name) (entries rows))) (row_triples (at + 1) ds (entries rows))) ∙ h) in
    let first : list_any (λ u. same_triple u t) (map (row_triple t.op) (filter (λ e. bytes_eq e.0.op d.name) (entries rows))) ≡ false =
    subst (λ n. list_any (λ u. same_triple u t) (map (row_triple n) (filter (λ e. bytes_eq e.0.op d.name) (entries rows))) ≡ false) e parts.0 in
    ap (option_and_then (with_value t.value)) (get-entries rows _) ∙ no_row_of d.name t (entries rows) first
no_row rows (d ∷ ds) at (suc k) t is h =
    let parts = or_parts (list_any (λ u. same_triple u t) (map (row_triple at) (filter (λ e. bytes_eq e.0.op d.name) (entries rows)))) (list_any (λ u. same_triple u t) (row_triples (at + 1) ds (entries rows))) (sym (any-append (λ u. same_triple u t) (map (row_triple at) (filter (λ e. bytes_eq e.0.op d.name) (entries rows))) (row_triples (at + 1) ds (entries rows))) ∙ h) in
    no_row rows ds (at + 1) k t (omega arith) parts.1

unstarted_at : (s : CoreState) (ds : List OpDecl) (k : ℕ) → stage_or_ready (slice_get (map (λ d. unstarted s (Some d)) ds) k) ≡ unstarted s (slice_get ds k)
unstarted_at s [] k = refl
unstarted_at s (d ∷ ds) zero = refl
unstarted_at s (d ∷ ds) (suc k) = unstarted_at s ds k

pub world_entry : (s : CoreState) (t : Triple) → entry_of (world s) t ≡ entry_in s t
world_entry s t = found_own (entry_in s) (known s) _ t (λ h.
    let parts = or_parts _ _ (sym (any-append (λ u. same_triple u t) (map (λ j. j.triple) s.jobs) (row_triples 0 s.program.ops (entries s.rows))) ∙ h) in
    let job = no_job s.jobs t parts.0 in
    let row = no_row s.rows s.program.ops 0 t.op t (omega arith) parts.1 in
    ap entry.Active (unstarted_at s s.program.ops t.op) ∙ sym (λ i. entry_by s (op_of s t.op) (job i) (row i)))
