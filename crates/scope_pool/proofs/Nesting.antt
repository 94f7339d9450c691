-- A scope is within another one by its parents.
use Rattle.std.proofs.Common.{◌≡◌, ℕ, zero, suc, ◌<◌, true, false, ◌==◌, ◌||◌, List, [], ◌∷◌, length, get_or, Option, Some, None, cond, refl, ap, sym, ◌∙◌, arith}
use Rattle.scope_pool.specs.Region.{AreSound, IsOpenOrTop, OpenScope, is_open, is_within}
use Rattle.scope_pool.specs.Laws.{AreNestedByParents}
use Rattle.scope_pool.proofs.ScopeLaws.{or_first, or_later, same_name, skips}

named : (ss : List OpenScope) (i : ℕ) (d : OpenScope) → i < length ss → is_open ss (get_or ss i d).name ≡ true
named [] i d h = absurd (omega arith)
named (s ∷ older) zero d h = or_first (s.name == s.name) (is_open older s.name) (same_name s.name)
named (s ∷ older) (suc i) d h = or_later (s.name == (get_or older i d).name) (is_open older (get_or older i d).name) (named older i d (omega arith))

later : (s : OpenScope) (older : List OpenScope) (o : Option ℕ) → IsOpenOrTop older o → IsOpenOrTop (s ∷ older) o
later s older None h = tt
later s older (Some p) h = or_later (s.name == p) (is_open older p) h

with_parent : (ss : List OpenScope) → AreSound ss → (i : ℕ) (d : OpenScope) → i < length ss → IsOpenOrTop ss (get_or ss i d).parent
with_parent [] sound i d h = absurd (omega arith)
with_parent (s ∷ older) sound zero d h = later s older s.parent sound.1.0
with_parent (s ∷ older) sound (suc i) d h = later s older (get_or older i d).parent (with_parent older sound.1.1 i d (omega arith))

passes : (outer : ℕ) (s : OpenScope) (older : List OpenScope) (o : Option ℕ) → is_open older s.name ≡ false → IsOpenOrTop older o → is_within outer o (s ∷ older) ≡ is_within outer o older
passes outer s older None new h = refl
passes outer s older (Some p) new h = skips outer s older p new h

nested_at : (outer : ℕ) (ss : List OpenScope) → AreSound ss → (i : ℕ) (d : OpenScope) → i < length ss →
    is_within outer (Some (get_or ss i d).name) ss ≡ ((get_or ss i d).name == outer || is_within outer (get_or ss i d).parent ss)
nested_at outer [] sound i d h = absurd (omega arith)
nested_at outer (s ∷ older) sound zero d h =
    ap (λ b. cond b (s.name == outer || is_within outer s.parent older) (is_within outer (Some s.name) older)) (same_name s.name)
    ∙ ap (λ b. s.name == outer || b) (sym (passes outer s older s.parent sound.0 sound.1.0))
nested_at outer (s ∷ older) sound (suc i) d h =
    let t = get_or older i d in
    skips outer s older t.name sound.0 (named older i d (omega arith))
    ∙ nested_at outer older sound.1.1 i d (omega arith)
    ∙ ap (λ b. t.name == outer || b) (sym (passes outer s older t.parent sound.0 (with_parent older sound.1.1 i d (omega arith))))

-- in sound scopes a scope is within the outer one where it is that one or its parent is within it
pub nested_by_parents : (ss : List OpenScope) → AreSound ss → AreNestedByParents ss
nested_by_parents ss sound = λ outer i d h. nested_at outer ss sound i d h
