-- Parts from a moment to another one, by what is known of the ends.
use Rattle.std.proofs.Common.{◌≡◌, ℕ, List, [], refl}
use Rattle.std.specs.Prelude.{IfSome}
use Rattle.std.specs.declared.option.Option.{Option}
use Rattle.std.specs.declared.option.Option.TheVariants.{None, Some}
use Rattle.io_ends.specs.Known.{Contents}
use Rattle.core_rules.specs.Core.{CoreState}
use Rattle.session_rules.specs.Outside.{Outside}
use Rattle.session_rules.specs.Parts.{Part, Does}
use Rattle.session_rules.specs.Scenes.{Scene}
use Rattle.session_core.specs.declared.stop.Stop.{Stop}
use Rattle.session_core.specs.Doing.{DoesFrom, Stops, scene_of}

-- a scene of these
abbrev pub at : CoreState → ℕ → List ℕ → Contents → Scene
at core last readings contents = record { core = core; last = last; readings = readings; contents = contents; exits = [] }

module _ (part : Part) (c c' : CoreState) (last : ℕ) (e e' : Outside) where
  -- a part that takes no reading and reads no file
  pub does_from : (rs : Option (List ℕ)) (f : Option Contents) → ((r : List ℕ) (g : Contents) → Does part (at c last r g) (at c' last r g) e e') →
      DoesFrom part (scene_of c last rs f) (scene_of c' last rs f) e e'
  does_from None f does = tt
  does_from (Some r) None does = tt
  does_from (Some r) (Some g) does = does r g

module _ (part : Part) (z : Stop) (c : CoreState) (last : ℕ) (e e' : Outside) where
  pub stops_from : (rs : Option (List ℕ)) (f : Option Contents) → ((r : List ℕ) (g : Contents) → Stops z part (at c last r g) e e') →
      IfSome (scene_of c last rs f) (λ s. Stops z part s e e')
  stops_from None f stops = tt
  stops_from (Some r) None stops = tt
  stops_from (Some r) (Some g) stops = stops r g

-- the version of a scene is that of its core
pub scene_version : (c : CoreState) (last : ℕ) (rs : Option (List ℕ)) (f : Option Contents) → IfSome (scene_of c last rs f) (λ s. s.core.version ≡ c.version)
scene_version c last None f = tt
scene_version c last (Some r) None = tt
scene_version c last (Some r) (Some g) = refl
