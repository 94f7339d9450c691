-- A term that is visited over its tree in another world comes to its tree in the new world.
use Rattle.std.proofs.Common.{◌≡◌, ℕ, Bool, true, false, List, [], ◌∷◌, map, zip, cond, Option, Some, None, refl, ap, sym, ◌∙◌, subst}
use Rattle.value_core.proofs.Sames.{same_true}
use Rattle.value_core.specs.Codes.{value_code}
use Rattle.value_core.specs.Same.{same}
use Rattle.value_core.specs.declared.value.Value.{Value}
use Rattle.value_core.specs.declared.state.State.{State}
use Rattle.term_core.specs.Evaluation.{Bound, Context, bind, context_of}
use Rattle.term_core.specs.World.{World}
use Rattle.term_core.specs.declared.program.Program.{Program}
use Rattle.term_core.specs.declared.program.Term.{Term, Term-F, roll-Term}
use Rattle.visit_rules.proofs.Unchanged.{again_roll, by_layer, parts_redone, plain, redone, stays}
use Rattle.visit_rules.specs.Again.{Again, Redo, again, assembled, bodies_again, first_for, items_again, old_parts, parts_again, renewed, spare_bodies, trace, visits, without_first}
use Rattle.visit_rules.specs.Tables.{body_of, direct_parts, items_for, reading, state_by}
use Rattle.visit_rules.specs.Visits.{differs, states}
use Rattle.visit_rules.specs.declared.visit.Read.{Read}
use Rattle.visit_rules.specs.declared.visit.Visit.{Visit}
use Rattle.visit_rules.specs.declared.visit.Visit.TheOpen.{Visit-F}
use Rattle.visit_rules.specs.declared.visit.Visit.TheViews.{out-roll-Visit, roll-Visit}

-- each tree is that of its item
abbrev Told : (Value → Visit) → List (Value × Visit) → Type 0
Told f [] = Unit {0}
Told f (p ∷ ps) = (p.1 ≡ f p.0) × Told f ps

told_without : (f : Value → Visit) (v : Value) (ps : List (Value × Visit)) → Told f ps → Told f (without_first v ps)
told_without f v [] t = tt
told_without f v (p ∷ ps) t = elim (same value_code v p.0) as (λ b. Told f (cond b ps (p ∷ without_first v ps))) [ true ↦ t.1 | false ↦ (t.0, told_without f v ps t.1) ]

told_zip : (f : Value → Visit) (body : Option Visit → Value → Again) → ((v : Value) → (body None v).visit ≡ f v) → (vs : List Value) →
    Told f (zip vs (visits (items_again body vs [])))
told_zip f body is [] = tt
told_zip f body is (v ∷ vs) = (is v, told_zip f body is vs)

module _ (f : Value → Visit) (body : Option Visit → Value → Again) (renews : (v : Value) → (body (Some (f v)) v).visit ≡ (body None v).visit) where
  first_renews : (v : Value) (ps : List (Value × Visit)) → Told f ps → (body (first_for v ps) v).visit ≡ (body None v).visit
  first_renews v [] t = refl
  first_renews v (p ∷ ps) t =
      let found : same value_code v p.0 ≡ true → (body (Some p.1) v).visit ≡ (body None v).visit =
      λ h. let e = same_true value_code v p.0 h in
      let w : p.1 ≡ f v = t.0 ∙ ap f (sym e) in
      subst (λ (x : Visit). (body (Some x) v).visit ≡ (body None v).visit) (sym w) (renews v)
      in
      let both : (b : Bool) → same value_code v p.0 ≡ b → (body (cond b (Some p.1) (first_for v ps)) v).visit ≡ (body None v).visit =
      λ b. elim b as (λ b. same value_code v p.0 ≡ b → (body (cond b (Some p.1) (first_for v ps)) v).visit ≡ (body None v).visit)
      [ true ↦ found | false ↦ λ h. first_renews v ps t.1 ]
      in both (same value_code v p.0) refl

  items_renew : (vs : List Value) (ps : List (Value × Visit)) → Told f ps → visits (items_again body vs ps) ≡ visits (items_again body vs [])
  items_renew [] ps t = refl
  items_renew (v ∷ vs) ps t =
      let here = first_renews v ps t in
      let rest = items_renew vs (without_first v ps) (told_without f v ps t) in
      cc

-- a visit shows its parts and bodies by their trees alone
assembled_seen : (node : ℕ) (x : Term-F Redo) (bound : Bound) (r : Read) (items : List Value) (parts parts' bodies bodies' : List Again) →
    visits parts ≡ visits parts' → visits bodies ≡ visits bodies' →
    (assembled node x bound r items parts bodies).visit ≡ (assembled node x bound r items parts' bodies').visit
assembled_seen node x bound r items parts parts' bodies bodies' e f =
    let made : List Visit → List Visit → Visit =
    λ ps bs. roll-Visit (record { state = state_by node x bound r (states ps) (states bs); read = r; items = items; parts = ps; bodies = bs })
    in ap (λ ps. made ps (visits bodies)) e ∙ ap (λ bs. made (visits parts') bs) f

module _ (program : Program) (node : ℕ) (inputs inputs0 : List Value) (earlier earlier0 : List State) (world world0 : World) where
  abbrev H : Context
  H = context_of program node inputs earlier world

  abbrev H0 : Context
  H0 = context_of program node inputs0 earlier0 world0

  abbrev pub Renews : Term → Type 0
  Renews t = (bound : Bound) → (again H t (Some (trace H0 t bound)) bound).visit ≡ trace H t bound

  parts_renew : (es : List ((t : Term) × Renews t)) (bound : Bound) →
      visits (parts_again (map (λ e. again H e.0) es) (visits (parts_again (map (λ e. again H0 e.0) es) [] bound)) bound)
      ≡ visits (parts_again (map (λ e. again H e.0) es) [] bound)
  parts_renew [] bound = refl
  parts_renew (e ∷ es) bound =
      let here = e.1 bound in
      let rest = parts_renew es bound in
      cc

  bodies_renew : (y : Term-F ((t : Term) × Renews t)) (vs vs0 : List Value) (bound : Bound) →
      visits (bodies_again (body_of (redone H y)) vs (zip vs0 (visits (bodies_again (body_of (redone H0 y)) vs0 [] bound))) bound)
      ≡ visits (bodies_again (body_of (redone H y)) vs [] bound)
  bodies_renew (Term-F.Return v) vs vs0 bound = refl
  bodies_renew (Term-F.Fail kind m) vs vs0 bound = refl
  bodies_renew (Term-F.Input n) vs vs0 bound = refl
  bodies_renew (Term-F.Node n) vs vs0 bound = refl
  bodies_renew (Term-F.Var n) vs vs0 bound = refl
  bodies_renew (Term-F.Map f t) vs vs0 bound = refl
  bodies_renew (Term-F.Pair a b) vs vs0 bound = refl
  bodies_renew (Term-F.Bind n t u) vs vs0 bound =
      let f : Value → Visit = λ v. trace H0 u.0 (bind bound n v) in
      items_renew f (λ was v. again H u.0 was (bind bound n v)) (λ v. u.1 (bind bound n v)) vs _
      (told_zip f (λ was v. again H0 u.0 was (bind bound n v)) (λ v. refl) vs0)
  bodies_renew (Term-F.ListMap n t u) vs vs0 bound =
      let f : Value → Visit = λ v. trace H0 u.0 (bind bound n v) in
      items_renew f (λ was v. again H u.0 was (bind bound n v)) (λ v. u.1 (bind bound n v)) vs _
      (told_zip f (λ was v. again H0 u.0 was (bind bound n v)) (λ v. refl) vs0)
  bodies_renew (Term-F.ListIter n t u) vs vs0 bound =
      let f : Value → Visit = λ v. trace H0 u.0 (bind bound n v) in
      items_renew f (λ was v. again H u.0 was (bind bound n v)) (λ v. u.1 (bind bound n v)) vs _
      (told_zip f (λ was v. again H0 u.0 was (bind bound n v)) (λ v. refl) vs0)
  bodies_renew (Term-F.Catch t) vs vs0 bound = refl
  bodies_renew (Term-F.State t) vs vs0 bound = refl
  bodies_renew (Term-F.Gate on t) vs vs0 bound = refl
  bodies_renew (Term-F.All ts) vs vs0 bound = refl
  bodies_renew (Term-F.Build op k) vs vs0 bound = refl
  bodies_renew (Term-F.Output op k v) vs vs0 bound = refl

  -- the tree of the old world
  abbrev was : Term-F ((t : Term) × Renews t) → Bound → Visit
  was y bound = (renewed H0 (redone H0 y) None bound).visit

  renewed_is : (y : Term-F ((t : Term) × Renews t)) (bound : Bound) →
      (renewed H (redone H y) (Some (was y bound)) bound).visit ≡ (renewed H (redone H y) None bound).visit
  renewed_is y bound =
      let x : Term-F Redo = redone H y in
      let x0 : Term-F Redo = redone H0 y in
      let old : Option Visit = Some (was y bound) in
      let parts0 : List Again = parts_again (direct_parts x0) [] bound in
      let items0 : List Value = items_for x0 (states (visits parts0)) in
      let opened_parts : old_parts old ≡ visits parts0 = ap (λ (v : Visit-F Visit). v.parts) (out-roll-Visit _) in
      let opened_bodies : spare_bodies old ≡ zip items0 (visits (bodies_again (body_of x0) items0 [] bound)) = ap (λ (v : Visit-F Visit). zip v.items v.bodies) (out-roll-Visit _) in
      let parts : List Again = parts_again (direct_parts x) (old_parts old) bound in
      let parts1 : List Again = parts_again (direct_parts x) [] bound in
      let same_parts : visits parts ≡ visits parts1 = rw (opened_parts, parts_redone H y, parts_redone H0 y) (parts_renew (direct_parts y) bound) in
      let items : List Value = items_for x (states (visits parts1)) in
      let same_bodies : visits (bodies_again (body_of x) items (spare_bodies old) bound) ≡ visits (bodies_again (body_of x) items [] bound) =
      rw opened_bodies (bodies_renew y items items0 bound)
      in
      let made : List Visit → Visit = λ vs. roll-Visit (record {
        state = state_by node x bound (reading H x (states vs)) (states vs) (states (visits (bodies_again (body_of x) (items_for x (states vs)) (spare_bodies old) bound)));
        read = reading H x (states vs);
        items = items_for x (states vs);
        parts = vs;
        bodies = visits (bodies_again (body_of x) (items_for x (states vs)) (spare_bodies old) bound);
      }) in
      ap made same_parts ∙ assembled_seen node x bound (reading H x (states (visits parts1))) items parts1 parts1 _ _ refl same_bodies

  renews_layer : (y : Term-F ((t : Term) × Renews t)) → Renews (roll-Term (plain y))
  renews_layer y bound =
      let tree : trace H0 (roll-Term (plain y)) bound ≡ was y bound = ap (λ (a : Again). a.visit) (again_roll H0 y None bound) in
      let new : trace H (roll-Term (plain y)) bound ≡ (renewed H (redone H y) None bound).visit = ap (λ (a : Again). a.visit) (again_roll H y None bound) in
      let kept : differs H (was y bound) ≡ false → was y bound ≡ trace H (roll-Term (plain y)) bound =
      λ h. sym tree ∙ sym (ap (λ (a : Again). a.visit) (stays program node inputs inputs0 earlier earlier0 world world0 (roll-Term (plain y)) bound (subst (λ (v : Visit). differs H v ≡ false) (sym tree) h)))
      in
      let cases : (b : Bool) → differs H (was y bound) ≡ b →
      (cond b (renewed H (redone H y) (Some (was y bound)) bound) (record { visit = was y bound; ticks = 0 })).visit ≡ trace H (roll-Term (plain y)) bound =
      λ b. elim b as (λ b. differs H (was y bound) ≡ b → (cond b (renewed H (redone H y) (Some (was y bound)) bound) (record { visit = was y bound; ticks = 0 })).visit ≡ trace H (roll-Term (plain y)) bound)
      [ true ↦ λ h. renewed_is y bound ∙ sym new | false ↦ kept ]
      in
      ap (λ (v : Visit). (again H (roll-Term (plain y)) (Some v) bound).visit) tree
      ∙ ap (λ (a : Again). a.visit) (again_roll H y (Some (was y bound)) bound)
      ∙ cases (differs H (was y bound)) refl

  -- the same tree as a visit afresh
  pub renews : (t : Term) → Renews t
  renews = by_layer Renews renews_layer
