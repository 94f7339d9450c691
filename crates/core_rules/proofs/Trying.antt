-- What holds of each change that is made.
use Rattle.std.proofs.Common.{◌≡◌, Bool, true, false, refl, subst}
use Rattle.std.specs.Prelude.{if◌then◌else◌}
use Rattle.core_rules.specs.Changes.{Change, Idles, Makes, Refuses, Tried}
use Rattle.core_rules.specs.declared.events.Refusal.{Refusal}
use Rattle.core_rules.specs.declared.notes.Note.{Note}

abbrev pub Holds : (Change → Type 0) → Tried → Type 0
Holds P x = (c : Change) → x ≡ Makes c → P c

pub barred : (P : Change → Type 0) (r : Refusal) → Holds P (Refuses r)
barred P r c e = let z : ⊥ = cc in absurd z

pub idles : (P : Change → Type 0) (n : Note) → Holds P (Idles n)
idles P n c e = let z : ⊥ = cc in absurd z

pub made : (x c : Change) → Makes x ≡ Makes c → x ≡ c
made x c e = cc

pub makes : (P : Change → Type 0) (x : Change) → P x → Holds P (Makes x)
makes P x p c e = subst P (made x c e) p

pub by_test : (P : Change → Type 0) (b : Bool) (x y : Tried) → (b ≡ true → Holds P x) → (b ≡ false → Holds P y) → Holds P (if b then x else y)
by_test P true x y p q = p refl
by_test P false x y p q = q refl

pub either : (P : Change → Type 0) (b : Bool) (x y : Tried) → Holds P x → Holds P y → Holds P (if b then x else y)
either P true x y p q = p
either P false x y p q = q
