-- Known lists grow, and tables change, once and again.
use Rattle.std.proofs.Common.{◌≡◌, ℕ, List, [], ◌∷◌, ◌++◌, refl, sym, ap, subst, ◌∙◌, append_assoc, inl, inr}
use Rattle.std.specs.Prelude.{◌↔◌, IfSome}
use Rattle.std.specs.declared.option.Option.{Option}
use Rattle.std.specs.declared.option.Option.TheVariants.{None, Some}
use Rattle.std.specs.Io.KnownBytes.{Appends}
use Rattle.std.proofs.lemmas.List.{append-nil}
use Rattle.value_core.proofs.Basics.{some_is}
use Rattle.op_keys.specs.declared.order.Exit.{Exit}
use Rattle.op_keys.specs.declared.order.Order.{Order}
use Rattle.core_rules.specs.declared.done.Delta.{Delta}
use Rattle.keeper_core.specs.declared.stored.Stored.{Stored}
use Rattle.keeper_core.specs.EitherSchema.{committed}
use Rattle.keeper_core.specs.KeeperCalls.{IsSure, Known}
use Rattle.session_rules.specs.Outputs.{Output, Commit, Print, Run, deltas, exits, runs, texts}
use Rattle.session_rules.specs.Outside.{Grows, Keeps, Leaves, LeavesTables, WereKnown, with_deltas}

-- ---- lists of outputs

pub texts_append : (xs ys : List Output) → texts (xs ++ ys) ≡ texts xs ++ texts ys
texts_append [] ys = refl
texts_append (Commit d ∷ xs) ys = texts_append xs ys
texts_append (Print t ∷ xs) ys = ap (λ (r : List ℕ). t ++ r) (texts_append xs ys) ∙ sym (append_assoc t (texts xs) (texts ys))
texts_append (Run o x ∷ xs) ys = texts_append xs ys

pub runs_append : (xs ys : List Output) → runs (xs ++ ys) ≡ runs xs ++ runs ys
runs_append [] ys = refl
runs_append (Commit d ∷ xs) ys = runs_append xs ys
runs_append (Print t ∷ xs) ys = runs_append xs ys
runs_append (Run o x ∷ xs) ys = ap (λ (r : List (Order × Exit)). (o, x) ∷ r) (runs_append xs ys)

pub exits_append : (xs ys : List Output) → exits (xs ++ ys) ≡ exits xs ++ exits ys
exits_append [] ys = refl
exits_append (Commit d ∷ xs) ys = exits_append xs ys
exits_append (Print t ∷ xs) ys = exits_append xs ys
exits_append (Run o x ∷ xs) ys = ap (λ (r : List Exit). x ∷ r) (exits_append xs ys)

-- the exits of two runs of outputs, and more
pub exits_more : (xs ys : List Output) (more : List Exit) → exits (xs ++ ys) ++ more ≡ exits xs ++ (exits ys ++ more)
exits_more xs ys more = ap (λ (l : List Exit). l ++ more) (exits_append xs ys) ∙ append_assoc (exits xs) (exits ys) more

pub deltas_append : (xs ys : List Output) → deltas (xs ++ ys) ≡ deltas xs ++ deltas ys
deltas_append [] ys = refl
deltas_append (Commit d ∷ xs) ys = ap (λ (r : List Delta). d ∷ r) (deltas_append xs ys)
deltas_append (Print t ∷ xs) ys = deltas_append xs ys
deltas_append (Run o x ∷ xs) ys = deltas_append xs ys

pub with_deltas_append : (s : Stored) (ds es : List Delta) → with_deltas (ds ++ es) s ≡ with_deltas es (with_deltas ds s)
with_deltas_append s [] es = refl
with_deltas_append s (d ∷ ds) es = with_deltas_append (committed d s) ds es

-- ---- known bytes and lists

pub appends_none : (a : Option (List ℕ)) → Appends a a []
appends_none None = tt
appends_none (Some a) = sym (append-nil a)

pub appends_same : (a b : Option (List ℕ)) (x y : List ℕ) → Appends a b x → x ≡ y → Appends a b y
appends_same a b x y p e = subst (λ (t : List ℕ). Appends a b t) e p

pub grows_more : {A : Type 0} (a b c : Option (List A)) (x y z : List A) → Grows a b x → Grows b c y → x ++ y ≡ z → Grows a c z
grows_more None b c x y z p q e = tt
grows_more (Some a) None c x y z p q e = absurd p
grows_more (Some a) (Some b) None x y z p q e = absurd q
grows_more {A} (Some a) (Some b) (Some c) x y z p q e = q ∙ ap (λ (t : List A). t ++ y) p ∙ append_assoc a x y ∙ ap (λ (t : List A). a ++ t) e

pub grows_none : {A : Type 0} (a : Option (List A)) → Grows a a []
grows_none None = tt
grows_none (Some a) = sym (append-nil a)

-- ---- what is kept

none_is : {A : Type 0} (x : A) → None ≡ Some x → ⊥
none_is x e = cc

pub kept_at : (old new : Option Stored) (ds : List Delta) (s : Stored) → Keeps old new ds → new ≡ Some s → (was : Stored) × (old ≡ Some was) × (s ≡ with_deltas ds was)
kept_at old None ds s k e = absurd (none_is s e)
kept_at old (Some u) ds s k e = (k.0, k.1, sym (some_is u s e) ∙ k.2)

pub keeps_none : (k : Option Stored) → Keeps k k []
keeps_none None = tt
keeps_none (Some s) = (s, refl, refl)

pub keeps_more : (a b c : Option Stored) (ds es : List Delta) → Keeps a b ds → Keeps b c es → Keeps a c (ds ++ es)
keeps_more a b None ds es p q = tt
keeps_more a b (Some s) ds es p q =
    let was = kept_at a b ds q.0 p q.1 in
    (was.0, was.1, q.2 ∙ ap (with_deltas es) was.2 ∙ sym (with_deltas_append was.0 ds es))

-- a claim about known tables
pub if_some_at : (o : Option Stored) (P : Stored → Type 0) (s : Stored) → IfSome o P → o ≡ Some s → P s
if_some_at None P s p e = absurd (none_is s e)
if_some_at (Some u) P s p e = subst P (some_is u s e) p

pub if_some : (o : Option Stored) (P : Stored → Type 0) → ((s : Stored) → o ≡ Some s → P s) → IfSome o P
if_some None P f = tt
if_some (Some s) P f = f s refl

-- a stop after commits that were all kept
pub leaves_kept : (a b : Known) (ds : List Delta) → Keeps a.tables b.tables ds → LeavesTables b → Leaves a b ds []
leaves_kept a b ds kept sure =
    if_some b.tables _ (λ (s : Stored) (e : b.tables ≡ Some s) (x : Stored) (left : b.after_stop x).
    let was = kept_at a.tables b.tables ds s kept e in
    let just = if_some_at b.tables (λ (t : Stored). (y : Stored) → b.after_stop y → y ≡ t) s sure e in
    (was.0, was.1, inl (just x left ∙ was.2)))

-- a stop after further ones
pub leaves_after : (a b c : Known) (ds es more : List Delta) → Keeps a.tables b.tables ds → Leaves b c es more → Leaves a c (ds ++ es) more
leaves_after a b c ds es more kept leaves =
    if_some c.tables _ (λ (s : Stored) (e : c.tables ≡ Some s) (x : Stored) (left : c.after_stop x).
    let at = if_some_at c.tables _ s leaves e x left in
    let was = kept_at a.tables b.tables ds at.0 kept at.1 in
    let moved : (fs : List Delta) → with_deltas fs at.0 ≡ with_deltas (ds ++ fs) was.0 = λ fs. ap (with_deltas fs) was.2 ∙ sym (with_deltas_append was.0 ds fs) in (
      was.0,
      was.1,
      elim at.2 [
        | inl p ↦ inl (p ∙ moved es)
        | inr p ↦ inr (p ∙ moved (es ++ more) ∙ ap (λ (fs : List Delta). with_deltas fs was.0) (sym (append_assoc ds es more)))
      ],
    ))

-- ---- tables that are known

-- kept tables that are known were known
pub kept_known : (a b : Known) (ds : List Delta) → Keeps a.tables b.tables ds → WereKnown a b
kept_known a b ds kept = if_some b.tables _ (λ (s : Stored) (e : b.tables ≡ Some s). let was = kept_at a.tables b.tables ds s kept e in (was.0, was.1))

-- and were before that
pub known_then : (a b c : Known) → WereKnown a b → WereKnown b c → WereKnown a c
known_then a b c p q = if_some c.tables _ (λ (s : Stored) (e : c.tables ≡ Some s).
    let mid = if_some_at c.tables (λ (t : Stored). (was : Stored) × (b.tables ≡ Some was)) s q e in
    if_some_at b.tables (λ (t : Stored). (was : Stored) × (a.tables ≡ Some was)) mid.0 p mid.1)

pub known_same : (a : Known) → WereKnown a a
known_same a = if_some a.tables _ (λ (s : Stored) (e : a.tables ≡ Some s). (s, e))

-- what a stop leaves
pub sure_leaves : (k : Known) → IsSure k → LeavesTables k
sure_leaves k sure = if_some k.tables _ (λ (s : Stored) (is : k.tables ≡ Some s) (x : Stored) (left : k.after_stop x).
    (if_some_at k.tables (λ (t : Stored). (y : Stored) → k.after_stop y ↔ (y ≡ t)) s sure is x).0 left)
