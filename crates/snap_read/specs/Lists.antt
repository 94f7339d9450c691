-- Lists of published states.
use Rattle.std.specs.Prelude.{◌≡◌, ℕ, ◌+◌, ◌<◌, length, List, [], ◌∷◌, ◌++◌, Option, Some, None, Result, Ok, Err}
use Rattle.std.specs.List.{All}
use Rattle.logbook.specs.Pages.{Book}
use Rattle.value_core.specs.declared.state.Published.{Published}

-- each version of the list is below this one
abbrev pub AreBelow : ℕ → List Published → Type 0
AreBelow version [] = Unit {0}
AreBelow version (p ∷ ps) = (p.version < version) × AreBelow version ps

-- each version of the list is above this one
abbrev pub AreAbove : ℕ → List Published → Type 0
AreAbove version [] = Unit {0}
AreAbove version (p ∷ ps) = (version < p.version) × AreAbove version ps

-- the versions rise
abbrev pub AreRising : List Published → Type 0
AreRising [] = Unit {0}
AreRising (p ∷ ps) = AreAbove p.version ps × AreRising ps

-- each version of a list is below this one, if the list is known
abbrev pub IsBelow : Option (List Published) → ℕ → Type 0
IsBelow None version = Unit {0}
IsBelow (Some ps) version = AreBelow version ps

-- the list with one more at its end
abbrev pub with_next : Option (List Published) → Published → Option (List Published)
with_next None p = None
with_next (Some ps) p = Some (ps ++ p ∷ [])

-- the state was published, and the note names the list that ends with it; or nothing was published
abbrev pub Adds :
    {N E : Type 0} →
    (N → Option (List Published)) →
    Option (List Published) → Published → Result N E → Option (List Published) → Type 0
Adds names before p (Ok note) now = (now ≡ with_next before p) × (names note ≡ now)
Adds names before p (Err e) now = now ≡ before

-- the list ends with this state
abbrev pub EndsWith : List Published → Published → Type 0
EndsWith ps p = (rest : List Published) × (ps ≡ rest ++ p ∷ [])

-- the state is the last of the list, with the greatest version, and passes the test
pub record IsLast (test : Published → Type 0) (ps : List Published) (p : Published) : Type 0 where
  pub ends : EndsWith ps p
  pub newest : AreBelow (p.version + 1) ps
  pub passes : test p

-- a history that was opened: which one it is, its first state, and for how many readers
pub record Opened : Type 0 where
  pub history : Book
  pub first : Published
  pub readers : ℕ

-- so many readers, each of which saw this list
abbrev pub AreNew : List Published → ℕ → List (List Published) → Type 0
AreNew ps count readers = (length readers ≡ count) × All (λ reader. reader ≡ ps) readers
