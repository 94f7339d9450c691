-- The operations of a sound program are served by its pools.
use Rattle.std.proofs.Common.{◌≡◌, ℕ, zero, suc, ◌+◌, ◌<◌, Bool, true, false, ◌&&◌, ◌||◌, List, [], ◌∷◌, map, length, get_or, Some, refl, ap, sym, ◌∙◌, subst, arith}
use Rattle.std.proofs.lemmas.Bool.{and_parts, false≢true}
use Rattle.std.specs.Prelude.{slice_get, if◌then◌else◌}
use Rattle.std.specs.List.{AllByRecursion, list_all, list_any}
use Rattle.std.specs.Str.{bytes_eq}
use Rattle.op_keys.specs.Names.{client_index, index_named}
use Rattle.op_keys.specs.declared.declarations.ClientDecl.{ClientDecl}
use Rattle.op_keys.specs.declared.declarations.OpDecl.{OpDecl}
use Rattle.op_keys.specs.declared.declarations.PoolDecl.{PoolDecl}
use Rattle.term_core.specs.Limits.{IsOpWithin}
use Rattle.term_core.specs.Soundness.{IsSound, is_client, is_pool}
use Rattle.term_core.specs.declared.program.Program.{Program}
use Rattle.fair_pool.specs.Sound.{IsOpServed}
use Rattle.core_rules.specs.Core.{layout_of}

-- a pool that is declared is found by its name
pub pool_found : (at : ℕ) (ds : List PoolDecl) (n : List ℕ) → list_any (λ (d : PoolDecl). bytes_eq d.name n) ds ≡ true → index_named at (map (λ (d : PoolDecl). d.name) ds) n < at + length ds
pool_found at [] n e = absurd (false≢true e)
pool_found at (d ∷ ds) n e = elim (bytes_eq d.name n) as (λ b. (b || list_any (λ (d : PoolDecl). bytes_eq d.name n) ds) ≡ true → (if b then at else index_named (at + 1) (map (λ (d : PoolDecl). d.name) ds) n) < at + suc (length ds)) [
  | true ↦ λ k. omega arith
  | false ↦ λ k. let h = pool_found (at + 1) ds n k in omega arith
] e

swapped : (a b : Bool) → (a && b) ≡ (b && a)
swapped true true = refl
swapped true false = refl
swapped false true = refl
swapped false false = refl

client_found : (at : ℕ) (ds : List ClientDecl) (n pool : List ℕ) → list_any (λ (d : ClientDecl). bytes_eq d.name n && bytes_eq d.pool pool) ds ≡ true → client_index at ds pool n < at + length ds
client_found at [] n pool e = absurd (false≢true e)
client_found at (d ∷ ds) n pool e =
    subst (λ b. (if b then at else client_index (at + 1) ds pool n) < at + suc (length ds)) (swapped (bytes_eq d.name n) (bytes_eq d.pool pool))
    (elim (bytes_eq d.name n && bytes_eq d.pool pool) as (λ b. (b || list_any (λ (d : ClientDecl). bytes_eq d.name n && bytes_eq d.pool pool) ds) ≡ true → (if b then at else client_index (at + 1) ds pool n) < at + suc (length ds)) [
      | true ↦ λ k. omega arith
      | false ↦ λ k. let h = client_found (at + 1) ds n pool k in omega arith
    ] e)

passes_at : (q : OpDecl → Bool) (ds : List OpDecl) (i : ℕ) (d : OpDecl) → list_all q ds ≡ true → slice_get ds i ≡ Some d → q d ≡ true
passes_at q [] i d a e = let z : ⊥ = cc in absurd z
passes_at q (x ∷ ds) zero d a e = let is : x ≡ d = cc in ap q (sym is) ∙ (and_parts (q x) (list_all q ds) a).0
passes_at q (x ∷ ds) (suc i) d a e = passes_at q ds i d (and_parts (q x) (list_all q ds) a).1 e

holds_at : (ds : List OpDecl) (i : ℕ) (d : OpDecl) → AllByRecursion IsOpWithin ds → slice_get ds i ≡ Some d → IsOpWithin d
holds_at [] i d a e = let z : ⊥ = cc in absurd z
holds_at (x ∷ ds) zero d a e = let is : x ≡ d = cc in subst IsOpWithin is a.0
holds_at (x ∷ ds) (suc i) d a e = holds_at ds i d a.1 e

pub op_served : (p : Program) (i : ℕ) (d : OpDecl) → IsSound p → slice_get p.ops i ≡ Some d → IsOpServed (layout_of p) d
op_served p i d h e =
    let named = and_parts (is_pool p d.pool) (is_client p d.client d.pool) (passes_at (λ d. is_pool p d.pool && is_client p d.client d.pool) p.ops i d h.ops e) in
    let within = holds_at p.ops i d h.within.ops e in
    record {
      pool = let l = pool_found 0 p.pools d.pool named.0 in omega arith;
      client = let l = client_found 0 p.clients d.client d.pool named.1 in omega arith;
      full = within.full;
      cached = within.cached;
    }

pub get_within : (ds : List OpDecl) (i : ℕ) (d : OpDecl) → slice_get ds i ≡ Some d → i < length ds
get_within [] i d e = let z : ⊥ = cc in absurd z
get_within (x ∷ ds) zero d e = omega arith
get_within (x ∷ ds) (suc i) d e = let h = get_within ds i d e in omega arith

-- what stands at a place is got there
pub got_at : (ds : List OpDecl) (i : ℕ) (d : OpDecl) → i < length ds → d ≡ get_or ds i d → slice_get ds i ≡ Some d
got_at [] i d l e = absurd (omega arith)
got_at (x ∷ ds) zero d l e = ap Some (sym e)
got_at (x ∷ ds) (suc i) d l e = got_at ds i d (omega arith) e
