-- What is known of files, a clock and a listener.
use Rattle.std.specs.Prelude.{◌≡◌, ℕ, ◌+◌, ◌≤◌, List, [], ◌∷◌, take, length, if◌then◌else◌, IfOk, IfSome, ⊤}
use Rattle.std.specs.Str.{bytes_eq}
use Rattle.std.specs.declared.option.Option.{Option}
use Rattle.std.specs.declared.option.Option.TheVariants.{None, Some}
use Rattle.std.specs.declared.result.Result.{Result}
use Rattle.std.specs.declared.result.Result.TheVariants.{Ok, Err}
use Rattle.io_ends.specs.Causes.{Rose, HasCauseOf}
use Rattle.io_ends.specs.declared.ends.FileRead.{FileRead}
use Rattle.io_ends.specs.declared.ends.FileRead.TheVariants.{Found, Missing}
use Rattle.io_ends.specs.declared.ends.FileFault.{FileFault}
use Rattle.io_ends.specs.declared.ends.FileFault.TheVariants.{Failed, NoMemory}

-- ---- files

-- the contents that the reads of each path will find, in order
abbrev pub Contents : Type 0
Contents = List ℕ → List (List ℕ)

-- of the contents that the reads of a path will find, the one that the next read finds
abbrev pub content_now : List (List ℕ) → Option (List ℕ)
content_now [] = None
content_now (content ∷ later) = Some content

-- the contents that are left after that read: the first is taken, but the last one stays
abbrev pub contents_later : List (List ℕ) → List (List ℕ)
contents_later [] = []
contents_later (content ∷ []) = content ∷ []
contents_later (content ∷ next ∷ later) = next ∷ later

-- a read found this content, and returned its first bytes, one more than the limit at most
abbrev pub IsReadOf : Option (List ℕ) → ℕ → FileRead → Type 0
IsReadOf None limit Missing = ⊤
IsReadOf None limit (Found v) = ⊥
IsReadOf (Some content) limit Missing = ⊥
IsReadOf (Some content) limit (Found v) = v.items ≡ take (limit + 1) content

-- an answer to a read of the path is of the content that it finds, if that is known
abbrev pub ReadsContent : Option Contents → List ℕ → ℕ → Result FileRead FileFault → Type 0
ReadsContent held path limit result =
    IfSome held (λ contents. IfOk result (IsReadOf (content_now (contents path)) limit))

-- a read of the path took its content, and left the contents of the other paths as they were
abbrev pub TakesContent : Option Contents → List ℕ → Option Contents → Type 0
TakesContent None path new = ⊤
TakesContent (Some old) path None = ⊥
TakesContent (Some old) path (Some new) =
    (q : List ℕ) → new q ≡ (if bytes_eq q path then contents_later (old q) else old q)

-- a read that found a content returned at most so many bytes
abbrev pub HasAtMost : ℕ → FileRead → Type 0
HasAtMost most Missing = ⊤
HasAtMost most (Found v) = length v.items ≤ most

-- the count of faults rises at a failed read, and stays at every other answer
abbrev pub HasFileCause : ℕ → ℕ → Result FileRead FileFault → Type 0
HasFileCause = HasCauseOf Failed NoMemory

-- the count of misses rises at a missing file, and stays at every other answer
abbrev pub CountsMiss : ℕ → ℕ → Result FileRead FileFault → Type 0
CountsMiss before now (Ok Missing) = (before ≤ now) × Rose before now
CountsMiss before now (Ok (Found v)) = now ≡ before
CountsMiss before now (Err fault) = now ≡ before

-- ---- a clock

-- the first reading is taken, but the last one stays; a clock without readings reads 0
abbrev pub TakesReading : Option (List ℕ) → ℕ → Option (List ℕ) → Type 0
TakesReading None now new = ⊤
TakesReading (Some old) now None = ⊥
TakesReading (Some []) now (Some new) = (now ≡ 0) × (new ≡ [])
TakesReading (Some (t ∷ [])) now (Some new) = (now ≡ t) × (new ≡ t ∷ [])
TakesReading (Some (t ∷ u ∷ ts)) now (Some new) = (now ≡ t) × (new ≡ u ∷ ts)
