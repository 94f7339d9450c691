-- What is left of a pool when a scope is given up.
use Rattle.std.proofs.Common.{◌≡◌, ℕ, Bool, List, [], map, filter, not, Some, ap, sym, ◌∙◌}
use Rattle.std.specs.FinMap.{get, retain_keys}
use Rattle.std.specs.Option.{option_map}
use Rattle.scope_pool.specs.Layout.{IsVacated, among, found_from, held_in, left_by, newest_first, standing}
use Rattle.scope_pool.specs.Region.{AreSound, OpenScope, is_within, scopes_outside}
use Rattle.scope_pool.specs.declared.scopes.Scope.{Scope}
use Rattle.scope_pool.specs.declared.slots.Slot.{Slot}
use Rattle.scope_pool.proofs.ScopeLaws.{found_is, newest_left}
use Rattle.scope_pool.proofs.StandingLaws.{left_at, standing_left, standing_same}

-- the names that are found are those of the scopes within the outer one
gone_is : (outer : ℕ) (old : List Scope) (closing : List ℕ) → AreSound (newest_first old) → closing ≡ found_from outer [] old →
    ◌≡◌ {A = ℕ → Bool} (λ n. among closing n) (λ n. is_within outer (Some n) (newest_first old))
gone_is outer old closing sound found = λ i n. (ap (λ ms. among ms n) found ∙ found_is outer old sound n) i

pub scopes_closed : (outer : ℕ) (old kept new : List Scope) (closing : List ℕ) → AreSound (newest_first old) → closing ≡ found_from outer [] old →
    newest_first kept ≡ newest_first old → new ≡ filter (λ s. not (among closing s.name)) kept → newest_first new ≡ scopes_outside outer (newest_first old)
scopes_closed outer old kept new closing sound found same left =
    ap newest_first left ∙ newest_left (λ n. among closing n) kept
    ∙ ap (filter (λ (s : OpenScope). not (among closing s.name))) same
    ∙ ap (λ (gone : ℕ → Bool). filter (λ (s : OpenScope). not (gone s.name)) (newest_first old)) (gone_is outer old closing sound found)

module _ {T : Type 0} where
  pub items_closed : (outer : ℕ) (scopes : List Scope) (old new : List (Slot T)) (closing : List ℕ) → AreSound (newest_first scopes) → closing ≡ found_from outer [] scopes →
      IsVacated closing old new →
      standing (map (held_in {T = T}) new) ≡ retain_keys (standing (map (held_in {T = T}) old)) (λ place. not (is_within outer (option_map (λ x. x.scope) (get (standing (map (held_in {T = T}) old)) place)) (newest_first scopes)))
  items_closed outer scopes old new closing sound found left =
      standing_same (map (held_in {T = T}) new) (map (left_by (among closing)) (map (held_in {T = T}) old)) (λ q. left q ∙ sym (left_at (among closing) (map (held_in {T = T}) old) q))
      ∙ ap (λ (gone : ℕ → Bool). standing (map (left_by gone) (map (held_in {T = T}) old))) (gone_is outer scopes closing sound found)
      ∙ standing_left outer (newest_first scopes) (map (held_in {T = T}) old)
