-- What becomes of the tree that there was.
use Rattle.std.specs.Prelude.{ℕ, List, [], ◌∷◌, map, Option, Some, None, slice_get}
use Rattle.value_core.specs.declared.state.State.TheVariants.{Fine}
use Rattle.value_core.specs.declared.value.Value.TheVariants as value
use Rattle.visit_rules.specs.Again.{old_bodies, old_parts}
use Rattle.visit_rules.specs.declared.instance.Instance.{Instance}
use Rattle.incr_eval.specs.declared.patch.Patch.{Patch, Patch-F, fold-Patch}
use Rattle.visit_rules.specs.declared.visit.Read.TheVariants as read
use Rattle.visit_rules.specs.declared.visit.Visit.{Visit}
use Rattle.visit_rules.specs.declared.visit.Visit.TheViews.{roll-Visit}

-- a visit with what an instance has
abbrev pub visit_of : Instance → List Visit → List Visit → Visit
visit_of i parts bodies = roll-Visit (record { state = i.state; read = i.read; items = i.items; parts = parts; bodies = bodies })

-- a visit without parts that read nothing
abbrev pub no_visit : Visit
no_visit = roll-Visit (record { state = Fine value.Unit; read = read.Nothing; items = []; parts = []; bodies = [] })

-- a visit that is there, or one without parts
abbrev pub visit_or_none : Option Visit → Visit
visit_or_none (Some v) = v
visit_or_none None = no_visit

-- the tree that a patch makes of the one that there was
abbrev pub Patching : Type 0
Patching = Option Visit → Visit

-- each part over the one at its place
abbrev pub patched_parts : List Patching → List Visit → List Visit
patched_parts [] olds = []
patched_parts (f ∷ fs) [] = f None ∷ patched_parts fs []
patched_parts (f ∷ fs) (v ∷ vs) = f (Some v) ∷ patched_parts fs vs

-- the body of a number, if there is one
abbrev pub body_at : List Visit → Option ℕ → Option Visit
body_at olds None = None
body_at olds (Some k) = slice_get olds k

-- each body over the one from which it comes
abbrev pub patched_bodies : List Patching → List (Option ℕ) → List Visit → List Visit
patched_bodies [] from olds = []
patched_bodies (f ∷ fs) [] olds = f None ∷ patched_bodies fs [] olds
patched_bodies (f ∷ fs) (o ∷ os) olds = f (body_at olds o) ∷ patched_bodies fs os olds

-- one layer of a patch, over what the patches below it make
abbrev pub patched_step : Patch-F Patching → Patching
patched_step Patch-F.Kept old = visit_or_none old
patched_step (Patch-F.Grown i parts from bodies) old = visit_of i (patched_parts parts (old_parts old)) (patched_bodies bodies from (old_bodies old))

-- the tree that a patch makes
abbrev pub patched : Patch → Patching
patched = fold-Patch Patching patched_step

-- the trees that the patches of all nodes make
abbrev pub patched_trees : List Patch → List Visit → List Visit
patched_trees ps olds = patched_parts (map patched ps) olds
