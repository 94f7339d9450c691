-- What holds of the open scopes of every pool.
use Rattle.std.specs.Prelude.{◌≡◌, ℕ, ◌==◌, ◌||◌, List, All, Some}
use Rattle.scope_pool.specs.Region.{OpenScope, is_within}

-- a scope is within an outer one exactly where it is that one or its parent is within that one
abbrev pub AreNestedByParents : List OpenScope → Type 0
AreNestedByParents scopes =
    (outer : ℕ) →
    All (λ s. is_within outer (Some s.name) scopes ≡ (s.name == outer || is_within outer s.parent scopes))
    scopes
