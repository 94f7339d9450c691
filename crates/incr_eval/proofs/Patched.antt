-- What a patch makes, told by its kind.
use Rattle.std.proofs.Common.{◌≡◌, ℕ, zero, suc, ◌<◌, arith, List, [], ◌∷◌, length, map, get_or, Option, Some, None, slice_get, refl, ap, sym, ◌∙◌}
use Rattle.std.proofs.lemmas.List.{length-map}
use Rattle.incr_eval.proofs.PooledTrees.{map_at, seen_again}
use Rattle.visit_rules.specs.Again.{old_bodies, old_parts}
use Rattle.incr_eval.specs.PatchedTrees.{Patching, body_at, no_visit, patched, patched_bodies, patched_parts, patched_step, visit_of, visit_or_none}
use Rattle.visit_rules.specs.declared.instance.Instance.{Instance}
use Rattle.incr_eval.specs.declared.patch.Patch.{Patch, Patch-F, fold-roll-Patch}
use Rattle.incr_eval.specs.declared.patch.Patch.TheVariants as patch
use Rattle.visit_rules.specs.declared.visit.Visit.{Visit}
use Rattle.visit_rules.specs.declared.visit.Visit.TheOpen.{Visit-F}
use Rattle.visit_rules.specs.declared.visit.Visit.TheViews.{out-Visit, out-roll-Visit, roll-Visit}

pub stays_is : (old : Option Visit) → patched patch.Kept old ≡ visit_or_none old
stays_is old = ap (λ (p : Patch). patched p old) (sym patch.rolls-Kept) ∙ ap (λ (f : Patching). f old) (fold-roll-Patch Patching patched_step Patch-F.Kept)

pub kept_is : (v : Visit) → patched patch.Kept (Some v) ≡ v
kept_is v = stays_is (Some v)

pub grown_is : (i : Instance) (parts : List Patch) (from : List (Option ℕ)) (bodies : List Patch) (old : Option Visit) →
    patched (patch.Grown i parts from bodies) old ≡ visit_of i (patched_parts (map patched parts) (old_parts old)) (patched_bodies (map patched bodies) from (old_bodies old))
grown_is i parts from bodies old =
    ap (λ (p : Patch). patched p old) (sym (patch.rolls-Grown i parts from bodies))
    ∙ ap (λ (f : Patching). f old) (fold-roll-Patch Patching patched_step (Patch-F.Grown i parts from bodies))

-- a visit that a patch grows, by what it keeps and by what its parts and bodies become
pub grown_visit : (i : Instance) (parts : List Patch) (from : List (Option ℕ)) (bodies : List Patch) (old : Option Visit) (x : Visit-F Visit) →
    i.state ≡ x.state → i.read ≡ x.read → i.items ≡ x.items → patched_parts (map patched parts) (old_parts old) ≡ x.parts → patched_bodies (map patched bodies) from (old_bodies old) ≡ x.bodies →
    patched (patch.Grown i parts from bodies) old ≡ roll-Visit x
grown_visit i parts from bodies old x s r t p b = grown_is i parts from bodies old ∙ ap roll-Visit (λ k. record { state = s k; read = r k; items = t k; parts = p k; bodies = b k })

-- a visit that a patch has grown
pub record HasGrown (i : Instance) (parts : List Patch) (from : List (Option ℕ)) (bodies : List Patch) (old : Option Visit) (v : Visit) : Type 0 where
  pub parts_are : (out-Visit v).parts ≡ patched_parts (map patched parts) (old_parts old)
  pub bodies_are : (out-Visit v).bodies ≡ patched_bodies (map patched bodies) from (old_bodies old)
  pub whole : visit_of i (out-Visit v).parts (out-Visit v).bodies ≡ v

pub has_grown : (i : Instance) (parts : List Patch) (from : List (Option ℕ)) (bodies : List Patch) (old : Option Visit) (v : Visit) →
    visit_of i (patched_parts (map patched parts) (old_parts old)) (patched_bodies (map patched bodies) from (old_bodies old)) ≡ v → HasGrown i parts from bodies old v
has_grown i parts from bodies old v e =
    let opened : out-Visit v ≡ record {
      state = i.state;
      read = i.read;
      items = i.items;
      parts = patched_parts (map patched parts) (old_parts old);
      bodies = patched_bodies (map patched bodies) from (old_bodies old);
    } = ap out-Visit (sym e) ∙ out-roll-Visit _ in
    record {
      parts_are = ap (λ (x : Visit-F Visit). x.parts) opened;
      bodies_are = ap (λ (x : Visit-F Visit). x.bodies) opened;
      whole = seen_again v i (ap (λ (x : Visit-F Visit). x.state) opened) (ap (λ (x : Visit-F Visit). x.read) opened) (ap (λ (x : Visit-F Visit). x.items) opened);
    }

-- a visit that stays as it was, if there was one
pub record HasStayed (old : Option Visit) (v : Visit) : Type 0 where
  pub parts_are : (out-Visit v).parts ≡ old_parts old
  pub bodies_are : (out-Visit v).bodies ≡ old_bodies old
  pub whole : (i : Instance) → visit_of i (old_parts old) (old_bodies old) ≡ visit_or_none old → visit_of i (out-Visit v).parts (out-Visit v).bodies ≡ v

pub has_stayed : (old : Option Visit) (v : Visit) → visit_or_none old ≡ v → HasStayed old v
has_stayed None v e =
    let opened : out-Visit v ≡ out-Visit no_visit = ap out-Visit (sym e) in
    let parts : (out-Visit v).parts ≡ [] = ap (λ (x : Visit-F Visit). x.parts) (opened ∙ out-roll-Visit _) in
    let bodies : (out-Visit v).bodies ≡ [] = ap (λ (x : Visit-F Visit). x.bodies) (opened ∙ out-roll-Visit _) in
    record { parts_are = parts; bodies_are = bodies; whole = λ i h. rw (parts, bodies) (h ∙ e) }
has_stayed (Some w) v e =
    let parts : (out-Visit v).parts ≡ (out-Visit w).parts = ap (λ (x : Visit). (out-Visit x).parts) (sym e) in
    let bodies : (out-Visit v).bodies ≡ (out-Visit w).bodies = ap (λ (x : Visit). (out-Visit x).bodies) (sym e) in
    record { parts_are = parts; bodies_are = bodies; whole = λ i h. rw (parts, bodies) (h ∙ e) }

-- ---- parts and bodies by their numbers

length-made : (fs : List Patching) (olds : List Visit) → length (patched_parts fs olds) ≡ length fs
length-made [] olds = refl
length-made (f ∷ fs) [] = ap suc (length-made fs [])
length-made (f ∷ fs) (v ∷ vs) = ap suc (length-made fs vs)

pub length-parts : (ps : List Patch) (olds : List Visit) → length (patched_parts (map patched ps) olds) ≡ length ps
length-parts ps olds = length-made (map patched ps) olds ∙ length-map ps patched

length-made_bodies : (fs : List Patching) (from : List (Option ℕ)) (olds : List Visit) → length (patched_bodies fs from olds) ≡ length fs
length-made_bodies [] from olds = refl
length-made_bodies (f ∷ fs) [] olds = ap suc (length-made_bodies fs [] olds)
length-made_bodies (f ∷ fs) (o ∷ os) olds = ap suc (length-made_bodies fs os olds)

pub length-bodies : (ps : List Patch) (from : List (Option ℕ)) (olds : List Visit) → length (patched_bodies (map patched ps) from olds) ≡ length ps
length-bodies ps from olds = length-made_bodies (map patched ps) from olds ∙ length-map ps patched

made_at : (fs : List Patching) (olds : List Visit) (i : ℕ) (f : Patching) → slice_get fs i ≡ Some f → slice_get (patched_parts fs olds) i ≡ Some (f (slice_get olds i))
made_at [] olds i f e = absurd cc
made_at (g ∷ fs) [] zero f e = let h : g ≡ f = cc in ap (λ (k : Patching). Some (k None)) h
made_at (g ∷ fs) (v ∷ vs) zero f e = let h : g ≡ f = cc in ap (λ (k : Patching). Some (k (Some v))) h
made_at (g ∷ fs) [] (suc i) f e = made_at fs [] i f e
made_at (g ∷ fs) (v ∷ vs) (suc i) f e = made_at fs vs i f e

-- the part that a patch makes
pub part_made : (ps : List Patch) (olds : List Visit) (i : ℕ) (p : Patch) → slice_get ps i ≡ Some p →
    slice_get (patched_parts (map patched ps) olds) i ≡ Some (patched p (slice_get olds i))
part_made ps olds i p e = made_at (map patched ps) olds i (patched p) (map_at patched ps i p e)

made_bodies_at : (fs : List Patching) (from : List (Option ℕ)) (olds : List Visit) (i : ℕ) (f : Patching) → slice_get fs i ≡ Some f →
    slice_get (patched_bodies fs from olds) i ≡ Some (f (body_at olds (get_or from i None)))
made_bodies_at [] from olds i f e = absurd cc
made_bodies_at (g ∷ fs) [] olds zero f e = let h : g ≡ f = cc in ap (λ (k : Patching). Some (k None)) h
made_bodies_at (g ∷ fs) (o ∷ os) olds zero f e = let h : g ≡ f = cc in ap (λ (k : Patching). Some (k (body_at olds o))) h
made_bodies_at (g ∷ fs) [] olds (suc i) f e = made_bodies_at fs [] olds i f e
made_bodies_at (g ∷ fs) (o ∷ os) olds (suc i) f e = made_bodies_at fs os olds i f e

-- the body that a patch makes
pub body_made : (ps : List Patch) (from : List (Option ℕ)) (olds : List Visit) (i : ℕ) (p : Patch) → slice_get ps i ≡ Some p →
    slice_get (patched_bodies (map patched ps) from olds) i ≡ Some (patched p (body_at olds (get_or from i None)))
body_made ps from olds i p e = made_bodies_at (map patched ps) from olds i (patched p) (map_at patched ps i p e)

pub kept_at : (vs : List Visit) (i : ℕ) → i < length vs → slice_get vs i ≡ Some (visit_or_none (slice_get vs i))
kept_at [] i h = absurd (omega arith)
kept_at (v ∷ vs) zero h = refl
kept_at (v ∷ vs) (suc i) h = kept_at vs i (omega arith)
