-- A read of files in memory finds the first file of its path, and takes that file's first content.
use Rattle.std.proofs.Common.{◌≡◌, ℕ, zero, suc, ◌+◌, true, false, cond, List, [], ◌∷◌, get_or, refl, sym, ap, subst, ◌∙◌, arith, inl, inr}
use Rattle.std.specs.Prelude.{string_bytes, slice_set, slice_get, map}
use Rattle.std.specs.Global.{Vec}
use Rattle.std.specs.Str.{bytes_eq}
use Rattle.std.specs.List.{position, position_from}
use Rattle.std.specs.declared.option.Option.TheVariants.{None, Some}
use Rattle.std.proofs.lemmas.Bool.{cases_Bool, false≢true}
use Rattle.std.proofs.lemmas.Slice.Eq.{bytes_eq-Decides}
use Rattle.std.proofs.lemmas.Iterator.Adapters.{position_from-zero}
use Rattle.io_ends.specs.declared.memory.held.HeldFile.{HeldFile}
use Rattle.io_ends.specs.Memory.{contents_of, contents_at, has_path}
use Rattle.io_ends.specs.Known.{content_now, contents_later}

-- the first file of the path stands there
abbrev pub StandsAt : List HeldFile → List ℕ → ℕ → Type 0
StandsAt [] path at = ⊥
StandsAt (file ∷ files) path zero = has_path path file ≡ true
StandsAt (file ∷ files) path (suc at) = (has_path path file ≡ false) × StandsAt files path at

stands_from : (path : List ℕ) (files : List HeldFile) (n at : ℕ) → position_from (has_path path) n files ≡ Some at → (j : ℕ) × (at ≡ n + j) × StandsAt files path j
stands_from path [] n at e = absurd (cc)
stands_from path (file ∷ files) n at e =
    elim (cases_Bool (has_path path file)) [
      | inl has ↦ let here : Some n ≡ Some at = rw has at e in let same : n ≡ at = (cc) in (0, omega (arith, same), has)
      | inr lacks ↦ let rest = stands_from path files (n + 1) at (rw lacks at e) in (suc rest.0, omega (arith, rest.1), (lacks, rest.2))
    ]

pub stands_at : (path : List ℕ) (files : List HeldFile) (at : ℕ) → position (has_path path) files ≡ Some at → StandsAt files path at
stands_at path files at e =
    let found = stands_from path files 0 at (sym (position_from-zero (has_path path) files) ∙ e) in
    let same : found.0 ≡ at = omega (arith, found.1) in
    subst (λ (i : ℕ). StandsAt files path i) same found.2

none_from : (path : List ℕ) (files : List HeldFile) (n : ℕ) → position_from (has_path path) n files ≡ None → contents_at files path ≡ []
none_from path [] n e = refl
none_from path (file ∷ files) n e =
    elim (cases_Bool (has_path path file)) [
      | inl has ↦ let here : Some n ≡ None = rw has at e in absurd (cc)
      | inr lacks ↦ rw lacks (none_from path files (n + 1) (rw lacks at e))
    ]

-- where no file has the path, no content stands there
pub contents_at-none : (path : List ℕ) (files : List HeldFile) → position (has_path path) files ≡ None → contents_at files path ≡ []
contents_at-none path files e = none_from path files 0 (sym (position_from-zero (has_path path) files) ∙ e)

-- what stands at the path is what its first file has
pub contents_at-first : (path : List ℕ) (files : List HeldFile) (at : ℕ) (file : HeldFile) → StandsAt files path at → file ≡ get_or files at file → contents_at files path ≡ contents_of file
contents_at-first path [] at file h e = absurd h
contents_at-first path (f ∷ files) zero file h e = rw h (ap contents_of (sym e))
contents_at-first path (f ∷ files) (suc at) file h e = rw (h.0) (contents_at-first path files at file h.1 e)

same_path : (a b : List ℕ) → bytes_eq a b ≡ true → a ≡ b
same_path a b e = (bytes_eq-Decides a b).0 e

-- a path that is one of two different paths is not the other
not_both : (q path other : List ℕ) → bytes_eq path other ≡ false → bytes_eq q other ≡ true → bytes_eq q path ≡ false
not_both q path other differs is =
    elim (cases_Bool (bytes_eq q path)) [
      | inl same ↦ absurd (false≢true (sym differs ∙ rw (← same_path q path same) is))
      | inr not ↦ not
    ]

-- the first file of the path lost its first content
pub contents_at-set : (path : List ℕ) (files : List HeldFile) (at : ℕ) (file new : HeldFile) → StandsAt files path at → file ≡ get_or files at file → new.path ≡ file.path → contents_of new ≡ contents_later (contents_of file)
    → (q : List ℕ) → contents_at (slice_set files at new) q ≡ cond (bytes_eq q path) (contents_later (contents_at files q)) (contents_at files q)
contents_at-set path [] at file new h e same later q = absurd h
contents_at-set path (f ∷ files) zero file new h e same later q =
    let is : path ≡ string_bytes f.path = same_path path (string_bytes f.path) h in
    let its : string_bytes new.path ≡ path = ap string_bytes same ∙ ap (λ (x : HeldFile). string_bytes x.path) e ∙ sym is in
    let lost : contents_of new ≡ contents_later (contents_of f) = later ∙ ap (λ (x : HeldFile). contents_later (contents_of x)) e in
    elim (cases_Bool (bytes_eq q path)) [
      | inl at_it ↦ rw (its, ← is, at_it, lost) refl
      | inr beside ↦ rw (its, ← is, beside) refl
    ]
contents_at-set path (f ∷ files) (suc at) file new h e same later q =
    let rest = contents_at-set path files at file new h.1 e same later q in
    elim (cases_Bool (has_path q f)) [
      | inl at_it ↦ rw (at_it, not_both q path (string_bytes f.path) h.0 at_it) refl
      | inr beside ↦ rw beside rest
    ]

-- a path with no content stays so
pub contents_at-kept : (path : List ℕ) (files : List HeldFile) → contents_at files path ≡ [] → (q : List ℕ) → contents_at files q ≡ cond (bytes_eq q path) (contents_later (contents_at files q)) (contents_at files q)
contents_at-kept path files none q =
    elim (cases_Bool (bytes_eq q path)) [
      | inl at_it ↦ rw (at_it, same_path q path at_it, none) refl
      | inr beside ↦ rw beside refl
    ]

-- a file with no content gives none
pub contents_of-none : (file : HeldFile) → slice_get file.contents.items 0 ≡ None → contents_of file ≡ []
contents_of-none file e = no_first file.contents.items e where
  no_first : (xs : List (Vec ℕ)) → slice_get xs 0 ≡ None → map (λ (v : Vec ℕ). v.items) xs ≡ []
  no_first [] e = refl
  no_first (x ∷ xs) e = absurd (cc)

-- the first content of a file is the one that a read finds
pub content_now-first : (file : HeldFile) (content : Vec ℕ) → slice_get file.contents.items 0 ≡ Some content → content_now (contents_of file) ≡ Some content.items
content_now-first file content e = its_first file.contents.items content e where
  its_first : (xs : List (Vec ℕ)) (x : Vec ℕ) → slice_get xs 0 ≡ Some x → content_now (map (λ (v : Vec ℕ). v.items) xs) ≡ Some x.items
  its_first [] x e = absurd (cc)
  its_first (y ∷ xs) x e = let same : y ≡ x = (cc) in ap (λ (v : Vec ℕ). Some v.items) same
