-- Where two tests agree on all that was read, they say the same of what is to be visited again.
use Rattle.std.proofs.Common.{◌≡◌, Bool, true, false, not, List, [], ◌∷◌, map, zip, cond, Option, Some, None, refl, ap, sym, ◌∙◌, subst}
use Rattle.std.specs.List.{list_all}
use Rattle.value_core.specs.Codes.{value_code}
use Rattle.value_core.specs.Same.{same}
use Rattle.value_core.specs.declared.value.Value.{Value}
use Rattle.value_core.specs.declared.state.State.{State}
use Rattle.term_core.specs.Evaluation.{Bound, Context, bind}
use Rattle.term_core.specs.declared.program.Term.{Term, Term-F, roll-Term, map-Term, fold-roll-Term}
use Rattle.value_core.proofs.Basics.{and_parts}
use Rattle.visit_rules.proofs.Unchanged.{by_layer, plain}
use Rattle.visit_rules.specs.Again.{Again, Redo, again_by, again_step, assembled, bodies_again, first_for, items_again, kept_or, old_parts, over_parts, parts_again, renewed, spare_bodies, visits, without_first}
use Rattle.visit_rules.specs.KnownChanges.{agree_on, agrees, all_read_step}
use Rattle.visit_rules.specs.Tables.{body_of, direct_parts, items_for, reading}
use Rattle.visit_rules.specs.Visits.{Test, passes, passes_step, states}
use Rattle.visit_rules.specs.declared.visit.Visit.{Visit}
use Rattle.visit_rules.specs.declared.visit.Visit.TheOpen.{Visit-F}
use Rattle.visit_rules.specs.declared.visit.Visit.TheViews.{out-Visit, roll-Visit}
use Rattle.visit_rules.specs.declared.visit.Visit.TheFolds.{fold_out-Visit, fold-roll-Visit, ind-Visit, map-Visit}

agreeing : (a b : Bool) → cond a b (not b) ≡ true → a ≡ b
agreeing true true h = refl
agreeing true false h = cc
agreeing false true h = cc
agreeing false false h = refl

module _ (p q : Test) where
  -- each of the trees agrees
  abbrev pub AllAgree : List Visit → Type 0
  AllAgree vs = list_all (λ b. b) (map (agrees p q) vs) ≡ true

  pub record Agreed (v : Visit) : Type 0 where
    pub read : p (out-Visit v).read ≡ q (out-Visit v).read
    pub parts : AllAgree (out-Visit v).parts
    pub bodies : AllAgree (out-Visit v).bodies

  pub agreed : (v : Visit) → agrees p q v ≡ true → Agreed v
  agreed v h =
      let a = and_parts _ _ (sym (fold_out-Visit Bool (all_read_step (agree_on p q)) v) ∙ h) in
      let b = and_parts _ _ a.1 in
      record { read = agreeing _ _ a.0; parts = b.0; bodies = b.1 }

  abbrev Same : Visit → Type 0
  Same v = agrees p q v ≡ true → passes p v ≡ passes q v

  same_all : (es : List ((v : Visit) × Same v)) → AllAgree (map (λ e. e.0) es) → map (passes p) (map (λ e. e.0) es) ≡ map (passes q) (map (λ e. e.0) es)
  same_all [] h = refl
  same_all (e ∷ es) h =
      let a = and_parts _ _ h in
      let here = e.1 a.0 in
      let rest = same_all es a.1 in
      cc

  same_layer : (y : Visit-F ((v : Visit) × Same v)) → Same (roll-Visit (map-Visit ((v : Visit) × Same v) Visit (λ e. e.0) y))
  same_layer y h =
      let x : Visit-F Visit = map-Visit ((v : Visit) × Same v) Visit (λ e. e.0) y in
      let a = and_parts _ _ (sym (fold-roll-Visit Bool (all_read_step (agree_on p q)) x) ∙ h) in
      let b = and_parts _ _ a.1 in
      let read : p x.read ≡ q x.read = agreeing _ _ a.0 in
      let parts : map (passes p) x.parts ≡ map (passes q) x.parts = same_all y.parts b.0 in
      let bodies : map (passes p) x.bodies ≡ map (passes q) x.bodies = same_all y.bodies b.1 in
      fold-roll-Visit Bool (passes_step p) x
      ∙ rw (read, parts, bodies) refl
      ∙ sym (fold-roll-Visit Bool (passes_step q) x)

  -- the two say the same of a tree
  pub passes_same : (v : Visit) → Same v
  passes_same = ind-Visit Same (λ x y is. subst (λ (z : Visit-F Visit). Same (roll-Visit z)) is (same_layer y))

  -- all reads of what there was agree
  abbrev pub AgreedOld : Option Visit → Type 0
  AgreedOld None = Unit {0}
  AgreedOld (Some v) = agrees p q v ≡ true

  -- each unused body agrees
  abbrev AgreedSpare : List (Value × Visit) → Type 0
  AgreedSpare [] = Unit {0}
  AgreedSpare (s ∷ ss) = (agrees p q s.1 ≡ true) × AgreedSpare ss

  spare_agrees : (vs : List Value) (bs : List Visit) → AllAgree bs → AgreedSpare (zip vs bs)
  spare_agrees [] bs h = tt
  spare_agrees (v ∷ vs) [] h = tt
  spare_agrees (v ∷ vs) (b ∷ bs) h = let a = and_parts _ _ h in (a.0, spare_agrees vs bs a.1)

  first_agrees : (v : Value) (ss : List (Value × Visit)) → AgreedSpare ss → AgreedOld (first_for v ss)
  first_agrees v [] h = tt
  first_agrees v (s ∷ ss) h = elim (same value_code v s.0) as (λ b. AgreedOld (cond b (Some s.1) (first_for v ss))) [ true ↦ h.0 | false ↦ first_agrees v ss h.1 ]

  rest_agrees : (v : Value) (ss : List (Value × Visit)) → AgreedSpare ss → AgreedSpare (without_first v ss)
  rest_agrees v [] h = tt
  rest_agrees v (s ∷ ss) h = elim (same value_code v s.0) as (λ b. AgreedSpare (cond b ss (s ∷ without_first v ss))) [ true ↦ h.1 | false ↦ (h.0, rest_agrees v ss h.1) ]

  module _ (given : Context) where
    abbrev pub AlikeAt : Term → Type 0
    AlikeAt t = (old : Option Visit) (bound : Bound) → AgreedOld old → again_by p given t old bound ≡ again_by q given t old bound

    -- the layer visited again, as a test says
    abbrev redone_by : Test → Term-F ((t : Term) × AlikeAt t) → Term-F Redo
    redone_by test y = map-Term Term Redo (again_by test given) (plain y)

    parts_alike : (es : List ((t : Term) × AlikeAt t)) (olds : List Visit) (bound : Bound) → AllAgree olds →
        parts_again (map (λ e. again_by p given e.0) es) olds bound ≡ parts_again (map (λ e. again_by q given e.0) es) olds bound
    parts_alike [] olds bound h = refl
    parts_alike (e ∷ es) [] bound h =
        let here = e.1 None bound tt in
        let rest = parts_alike es [] bound refl in
        cc
    parts_alike (e ∷ es) (v ∷ vs) bound h =
        let a = and_parts _ _ h in
        let here = e.1 (Some v) bound a.0 in
        let rest = parts_alike es vs bound a.1 in
        cc

    items_alike : (f g : Option Visit → Value → Again) → ((old : Option Visit) (v : Value) → AgreedOld old → f old v ≡ g old v) →
        (vs : List Value) (ss : List (Value × Visit)) → AgreedSpare ss → items_again f vs ss ≡ items_again g vs ss
    items_alike f g is [] ss h = refl
    items_alike f g is (v ∷ vs) ss h =
        let here = is (first_for v ss) v (first_agrees v ss h) in
        let rest = items_alike f g is vs (without_first v ss) (rest_agrees v ss h) in
        cc

    bodies_alike : (y : Term-F ((t : Term) × AlikeAt t)) (vs : List Value) (ss : List (Value × Visit)) (bound : Bound) → AgreedSpare ss →
        bodies_again (body_of (redone_by p y)) vs ss bound ≡ bodies_again (body_of (redone_by q y)) vs ss bound
    bodies_alike (Term-F.Return v) vs ss bound h = refl
    bodies_alike (Term-F.Fail kind m) vs ss bound h = refl
    bodies_alike (Term-F.Input n) vs ss bound h = refl
    bodies_alike (Term-F.Node n) vs ss bound h = refl
    bodies_alike (Term-F.Var n) vs ss bound h = refl
    bodies_alike (Term-F.Map f t) vs ss bound h = refl
    bodies_alike (Term-F.Pair a b) vs ss bound h = refl
    bodies_alike (Term-F.Bind n t u) vs ss bound h = items_alike (λ was v. again_by p given u.0 was (bind bound n v)) (λ was v. again_by q given u.0 was (bind bound n v)) (λ was v a. u.1 was (bind bound n v) a) vs ss h
    bodies_alike (Term-F.ListMap n t u) vs ss bound h = items_alike (λ was v. again_by p given u.0 was (bind bound n v)) (λ was v. again_by q given u.0 was (bind bound n v)) (λ was v a. u.1 was (bind bound n v) a) vs ss h
    bodies_alike (Term-F.ListIter n t u) vs ss bound h = items_alike (λ was v. again_by p given u.0 was (bind bound n v)) (λ was v. again_by q given u.0 was (bind bound n v)) (λ was v a. u.1 was (bind bound n v) a) vs ss h
    bodies_alike (Term-F.Catch t) vs ss bound h = refl
    bodies_alike (Term-F.State t) vs ss bound h = refl
    bodies_alike (Term-F.Gate on t) vs ss bound h = refl
    bodies_alike (Term-F.All ts) vs ss bound h = refl
    bodies_alike (Term-F.Build op k) vs ss bound h = refl
    bodies_alike (Term-F.Output op k v) vs ss bound h = refl

    map_twice_by : (test : Test) (ts : List ((t : Term) × AlikeAt t)) → map (again_by test given) (map (λ e. e.0) ts) ≡ map (λ e. again_by test given e.0) ts
    map_twice_by test [] = refl
    map_twice_by test (t ∷ ts) = ap (λ rs. again_by test given t.0 ∷ rs) (map_twice_by test ts)

    parts_redone_by : (test : Test) (y : Term-F ((t : Term) × AlikeAt t)) → direct_parts (redone_by test y) ≡ map (λ e. again_by test given e.0) (direct_parts y)
    parts_redone_by test (Term-F.Return v) = refl
    parts_redone_by test (Term-F.Fail kind m) = refl
    parts_redone_by test (Term-F.Input n) = refl
    parts_redone_by test (Term-F.Node n) = refl
    parts_redone_by test (Term-F.Var n) = refl
    parts_redone_by test (Term-F.Map f t) = refl
    parts_redone_by test (Term-F.Pair a b) = refl
    parts_redone_by test (Term-F.Bind n t u) = refl
    parts_redone_by test (Term-F.ListMap n t u) = refl
    parts_redone_by test (Term-F.ListIter n t u) = refl
    parts_redone_by test (Term-F.Catch t) = refl
    parts_redone_by test (Term-F.State t) = refl
    parts_redone_by test (Term-F.Gate on t) = refl
    parts_redone_by test (Term-F.All ts) = map_twice_by test ts
    parts_redone_by test (Term-F.Build op k) = refl
    parts_redone_by test (Term-F.Output op k v) = refl

    -- the kind of term alone says what is read, what the bodies are for and how a visit is assembled
    assembled_by : (y : Term-F ((t : Term) × AlikeAt t)) (bound : Bound) (parts : List Again) (bodies : List Value → List Again) →
        assembled given.node (redone_by p y) bound (reading given (redone_by p y) (states (visits parts))) (items_for (redone_by p y) (states (visits parts))) parts (bodies (items_for (redone_by p y) (states (visits parts))))
        ≡ assembled given.node (redone_by q y) bound (reading given (redone_by q y) (states (visits parts))) (items_for (redone_by q y) (states (visits parts))) parts (bodies (items_for (redone_by q y) (states (visits parts))))
    assembled_by (Term-F.Return v) bound parts bodies = refl
    assembled_by (Term-F.Fail kind m) bound parts bodies = refl
    assembled_by (Term-F.Input n) bound parts bodies = refl
    assembled_by (Term-F.Node n) bound parts bodies = refl
    assembled_by (Term-F.Var n) bound parts bodies = refl
    assembled_by (Term-F.Map f t) bound parts bodies = refl
    assembled_by (Term-F.Pair a b) bound parts bodies = refl
    assembled_by (Term-F.Bind n t u) bound parts bodies = refl
    assembled_by (Term-F.ListMap n t u) bound parts bodies = refl
    assembled_by (Term-F.ListIter n t u) bound parts bodies = refl
    assembled_by (Term-F.Catch t) bound parts bodies = refl
    assembled_by (Term-F.State t) bound parts bodies = refl
    assembled_by (Term-F.Gate on t) bound parts bodies = refl
    assembled_by (Term-F.All ts) bound parts bodies = refl
    assembled_by (Term-F.Build op k) bound parts bodies = refl
    assembled_by (Term-F.Output op k v) bound parts bodies = refl

    items_by : (y : Term-F ((t : Term) × AlikeAt t)) (ss : List State) → items_for (redone_by p y) ss ≡ items_for (redone_by q y) ss
    items_by (Term-F.Return v) ss = refl
    items_by (Term-F.Fail kind m) ss = refl
    items_by (Term-F.Input n) ss = refl
    items_by (Term-F.Node n) ss = refl
    items_by (Term-F.Var n) ss = refl
    items_by (Term-F.Map f t) ss = refl
    items_by (Term-F.Pair a b) ss = refl
    items_by (Term-F.Bind n t u) ss = refl
    items_by (Term-F.ListMap n t u) ss = refl
    items_by (Term-F.ListIter n t u) ss = refl
    items_by (Term-F.Catch t) ss = refl
    items_by (Term-F.State t) ss = refl
    items_by (Term-F.Gate on t) ss = refl
    items_by (Term-F.All ts) ss = refl
    items_by (Term-F.Build op k) ss = refl
    items_by (Term-F.Output op k v) ss = refl

    old_parts_agree : (old : Option Visit) → AgreedOld old → AllAgree (old_parts old)
    old_parts_agree None h = refl
    old_parts_agree (Some v) h = (agreed v h).parts

    old_bodies_agree : (old : Option Visit) → AgreedOld old → AgreedSpare (spare_bodies old)
    old_bodies_agree None h = tt
    old_bodies_agree (Some v) h = spare_agrees (out-Visit v).items (out-Visit v).bodies (agreed v h).bodies

    renewed_alike : (y : Term-F ((t : Term) × AlikeAt t)) (old : Option Visit) (bound : Bound) → AgreedOld old →
        renewed given (redone_by p y) old bound ≡ renewed given (redone_by q y) old bound
    renewed_alike y old bound h =
        let parts : parts_again (direct_parts (redone_by p y)) (old_parts old) bound ≡ parts_again (direct_parts (redone_by q y)) (old_parts old) bound =
        rw (parts_redone_by p y, parts_redone_by q y) (parts_alike (direct_parts y) (old_parts old) bound (old_parts_agree old h))
        in
        let made : List Again = parts_again (direct_parts (redone_by q y)) (old_parts old) bound in
        let bodies : (vs : List Value) → bodies_again (body_of (redone_by p y)) vs (spare_bodies old) bound ≡ bodies_again (body_of (redone_by q y)) vs (spare_bodies old) bound =
        λ vs. bodies_alike y vs (spare_bodies old) bound (old_bodies_agree old h)
        in
        ap (λ (ps : List Again). over_parts given (redone_by p y) old bound ps) parts
        ∙ (ap (λ (bs : List Again). assembled given.node (redone_by p y) bound (reading given (redone_by p y) (states (visits made))) (items_for (redone_by p y) (states (visits made))) made bs) (bodies (items_for (redone_by p y) (states (visits made))))
        ∙ assembled_by y bound made (λ vs. bodies_again (body_of (redone_by q y)) vs (spare_bodies old) bound))

    kept_alike : (old : Option Visit) (a b : Again) → AgreedOld old → a ≡ b → kept_or p old a ≡ kept_or q old b
    kept_alike None a b h e = e
    kept_alike (Some v) a b h e = ap (λ (x : Bool). cond x a (record { visit = v; ticks = 0 })) (passes_same v h) ∙ ap (λ (x : Again). cond (passes q v) x (record { visit = v; ticks = 0 })) e

    alike_layer : (y : Term-F ((t : Term) × AlikeAt t)) → AlikeAt (roll-Term (plain y))
    alike_layer y old bound h =
        ap (λ (f : Redo). f old bound) (fold-roll-Term Redo (again_step p given) (plain y))
        ∙ (kept_alike old _ _ h (renewed_alike y old bound h)
        ∙ sym (ap (λ (f : Redo). f old bound) (fold-roll-Term Redo (again_step q given) (plain y))))

    -- the same comes of a term
    pub alike : (t : Term) → AlikeAt t
    alike = by_layer AlikeAt alike_layer
