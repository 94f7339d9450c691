-- Where nothing that was read differs, a term is visited as before.
use Rattle.std.proofs.Common.{◌≡◌, ℕ, Bool, true, false, not, ◌||◌, List, [], ◌∷◌, map, cond, slice_get, Option, None, refl, ap, sym, ◌∙◌, subst}
use Rattle.std.specs.List.{list_any}
use Rattle.value_core.proofs.Basics.{or_parts}
use Rattle.value_core.proofs.Sames.{same_true}
use Rattle.value_core.specs.Codes.{value_code, state_code}
use Rattle.value_core.specs.declared.value.Value.{Value}
use Rattle.value_core.specs.declared.state.State.{State}
use Rattle.value_core.specs.declared.state.State.TheVariants.{Fine, Failed, Active}
use Rattle.value_core.specs.declared.state.Triple.{Triple}
use Rattle.term_core.specs.Evaluation.{Bound, Context, bind, fits, context_of, state_or_unit, value_or_unit}
use Rattle.term_core.specs.World.{World, entry_of}
use Rattle.term_core.specs.declared.program.Program.{Program}
use Rattle.term_core.specs.declared.program.Term.{Term, Term-F, roll-Term, map-Term, fold-roll-Term, ind-Term}
use Rattle.visit_rules.specs.Again.{Again, Redo, again, again_step, assembled, bodies_again, items_again, kept_or, over_parts, parts_again, renewed, trace, visits}
use Rattle.visit_rules.specs.Tables.{body_of, build_read, direct_parts, input_index, items_for, lookup_read, node_place, output_read, reading}
use Rattle.term_core.specs.Codes.{entry_code}
use Rattle.visit_rules.specs.Visits.{differs, passes_step, read_differs, states}
use Rattle.visit_rules.specs.declared.visit.Read.{Read}
use Rattle.visit_rules.specs.declared.visit.Read.TheVariants as read
use Rattle.visit_rules.specs.declared.visit.Visit.{Visit}
use Rattle.visit_rules.specs.declared.visit.Visit.TheFolds.{fold-roll-Visit}

-- ---- the layers of a term, each part with a fact of it

module _ {P : Term → Type 0} where
  -- the layer of terms
  abbrev pub plain : Term-F ((t : Term) × P t) → Term-F Term
  plain = map-Term ((t : Term) × P t) Term (λ e. e.0)

  -- the layer visited again
  abbrev pub redone : Context → Term-F ((t : Term) × P t) → Term-F Redo
  redone given y = map-Term Term Redo (again given) (plain y)

  map_twice : (f : Term → Redo) (ts : List ((t : Term) × P t)) → map f (map (λ e. e.0) ts) ≡ map (λ e. f e.0) ts
  map_twice f [] = refl
  map_twice f (t ∷ ts) = ap (λ rs. f t.0 ∷ rs) (map_twice f ts)

  pub parts_redone : (given : Context) (y : Term-F ((t : Term) × P t)) → direct_parts (redone given y) ≡ map (λ e. again given e.0) (direct_parts y)
  parts_redone given (Term-F.Return v) = refl
  parts_redone given (Term-F.Fail kind m) = refl
  parts_redone given (Term-F.Input n) = refl
  parts_redone given (Term-F.Node n) = refl
  parts_redone given (Term-F.Var n) = refl
  parts_redone given (Term-F.Map f t) = refl
  parts_redone given (Term-F.Pair a b) = refl
  parts_redone given (Term-F.Bind n t u) = refl
  parts_redone given (Term-F.ListMap n t u) = refl
  parts_redone given (Term-F.ListIter n t u) = refl
  parts_redone given (Term-F.Catch t) = refl
  parts_redone given (Term-F.State t) = refl
  parts_redone given (Term-F.Gate on t) = refl
  parts_redone given (Term-F.All ts) = map_twice (again given) ts
  parts_redone given (Term-F.Build op k) = refl
  parts_redone given (Term-F.Output op k v) = refl

-- an induction over terms, by one layer
pub by_layer : (P : Term → Type 0) → ((y : Term-F ((t : Term) × P t)) → P (roll-Term (map-Term ((t : Term) × P t) Term (λ e. e.0) y))) → (t : Term) → P t
by_layer P step = ind-Term P (λ x y is. subst (λ z. P (roll-Term z)) is (step y))

not-false : (b : Bool) → not b ≡ false → b ≡ true
not-false true h = refl
not-false false h = cc

pub again_roll : {P : Term → Type 0} (given : Context) (y : Term-F ((t : Term) × P t)) (old : Option Visit) (bound : Bound) →
    again given (roll-Term (plain y)) old bound ≡ kept_or (read_differs given) old (renewed given (redone given y) old bound)
again_roll given y old bound = ap (λ (f : Redo). f old bound) (fold-roll-Term Redo (again_step (read_differs given) given) (plain y))

module _ (program : Program) (node : ℕ) (inputs inputs0 : List Value) (earlier earlier0 : List State) (world world0 : World) where
  abbrev G : Context
  G = context_of program node inputs earlier world

  abbrev G0 : Context
  G0 = context_of program node inputs0 earlier0 world0

  abbrev none_differ : List Again → Type 0
  none_differ rs = list_any (λ b. b) (map (differs G) (visits rs)) ≡ false

  abbrev pub Stays : Term → Type 0
  Stays t = (bound : Bound) → differs G (trace G0 t bound) ≡ false → again G t None bound ≡ again G0 t None bound

  parts_stay : (es : List ((t : Term) × Stays t)) (bound : Bound) →
      none_differ (parts_again (map (λ e. again G0 e.0) es) [] bound) →
      parts_again (map (λ e. again G e.0) es) [] bound ≡ parts_again (map (λ e. again G0 e.0) es) [] bound
  parts_stay [] bound h = refl
  parts_stay (e ∷ es) bound h =
      let s = or_parts _ _ h in
      let here = e.1 bound s.0 in
      let rest = parts_stay es bound s.1 in
      cc

  items_stay : (f f0 : Option Visit → Value → Again) → ((v : Value) → differs G (f0 None v).visit ≡ false → f None v ≡ f0 None v) →
      (vs : List Value) → none_differ (items_again f0 vs []) → items_again f vs [] ≡ items_again f0 vs []
  items_stay f f0 stays [] h = refl
  items_stay f f0 stays (v ∷ vs) h =
      let s = or_parts _ _ h in
      let here = stays v s.0 in
      let rest = items_stay f f0 stays vs s.1 in
      cc

  bodies_stay : (y : Term-F ((t : Term) × Stays t)) (vs : List Value) (bound : Bound) →
      none_differ (bodies_again (body_of (redone G0 y)) vs [] bound) →
      bodies_again (body_of (redone G y)) vs [] bound ≡ bodies_again (body_of (redone G0 y)) vs [] bound
  bodies_stay (Term-F.Return v) vs bound h = refl
  bodies_stay (Term-F.Fail kind m) vs bound h = refl
  bodies_stay (Term-F.Input n) vs bound h = refl
  bodies_stay (Term-F.Node n) vs bound h = refl
  bodies_stay (Term-F.Var n) vs bound h = refl
  bodies_stay (Term-F.Map f t) vs bound h = refl
  bodies_stay (Term-F.Pair a b) vs bound h = refl
  bodies_stay (Term-F.Bind n t u) vs bound h = items_stay (λ was v. again G u.0 was (bind bound n v)) (λ was v. again G0 u.0 was (bind bound n v)) (λ v. u.1 (bind bound n v)) vs h
  bodies_stay (Term-F.ListMap n t u) vs bound h = items_stay (λ was v. again G u.0 was (bind bound n v)) (λ was v. again G0 u.0 was (bind bound n v)) (λ v. u.1 (bind bound n v)) vs h
  bodies_stay (Term-F.ListIter n t u) vs bound h = items_stay (λ was v. again G u.0 was (bind bound n v)) (λ was v. again G0 u.0 was (bind bound n v)) (λ v. u.1 (bind bound n v)) vs h
  bodies_stay (Term-F.Catch t) vs bound h = refl
  bodies_stay (Term-F.State t) vs bound h = refl
  bodies_stay (Term-F.Gate on t) vs bound h = refl
  bodies_stay (Term-F.All ts) vs bound h = refl
  bodies_stay (Term-F.Build op k) vs bound h = refl
  bodies_stay (Term-F.Output op k v) vs bound h = refl

  lookup_stays : (t : Triple) → read_differs G (lookup_read G0 t) ≡ false → lookup_read G t ≡ lookup_read G0 t
  lookup_stays t = elim (fits (slice_get program.ops t.op) t) as (λ b. read_differs G (cond b (read.Lookup t (entry_of world0 t)) read.Nothing) ≡ false → cond b (read.Lookup t (entry_of world t)) read.Nothing ≡ cond b (read.Lookup t (entry_of world0 t)) read.Nothing)
      [ true ↦ λ h. ap (read.Lookup t) (same_true entry_code _ _ (not-false _ h)) | false ↦ λ h. refl ]

  build_stays : (op : List ℕ) (s : State) → read_differs G (build_read G0 op s) ≡ false → build_read G op s ≡ build_read G0 op s
  build_stays op (Fine v) h = lookup_stays _ h
  build_stays op (Failed o m) h = refl
  build_stays op (Active o g) h = refl

  output_stays : (op : List ℕ) (s t : State) → read_differs G (output_read G0 op s t) ≡ false → output_read G op s t ≡ output_read G0 op s t
  output_stays op (Fine k) (Fine x) h = lookup_stays _ h
  output_stays op (Fine k) (Failed o m) h = refl
  output_stays op (Fine k) (Active o g) h = refl
  output_stays op (Failed o m) t h = refl
  output_stays op (Active o g) t h = refl

  reading_stays : {P : Term → Type 0} (y : Term-F ((t : Term) × P t)) (ss : List State) → read_differs G (reading G0 (redone G0 y) ss) ≡ false →
      reading G (redone G y) ss ≡ reading G0 (redone G0 y) ss
  reading_stays (Term-F.Return v) ss h = refl
  reading_stays (Term-F.Fail kind m) ss h = refl
  reading_stays (Term-F.Input n) ss h =
      let at : ℕ = input_index G n in
      let e : value_or_unit (slice_get inputs at) ≡ value_or_unit (slice_get inputs0 at) = same_true value_code _ _ (not-false _ h) in
      ap (λ v. read.Input at v) e
  reading_stays (Term-F.Node n) ss h =
      let at : ℕ = node_place G n in
      let e : state_or_unit (slice_get earlier at) ≡ state_or_unit (slice_get earlier0 at) = same_true state_code _ _ (not-false _ h) in
      ap (λ s. read.Node at s) e
  reading_stays (Term-F.Var n) ss h = refl
  reading_stays (Term-F.Map f t) ss h = refl
  reading_stays (Term-F.Pair a b) ss h = refl
  reading_stays (Term-F.Bind n t u) ss h = refl
  reading_stays (Term-F.ListMap n t u) ss h = refl
  reading_stays (Term-F.ListIter n t u) ss h = refl
  reading_stays (Term-F.Catch t) ss h = refl
  reading_stays (Term-F.State t) ss h = refl
  reading_stays (Term-F.Gate on t) ss h = refl
  reading_stays (Term-F.All ts) ss h = refl
  reading_stays (Term-F.Build op k) ss h = build_stays op _ h
  reading_stays (Term-F.Output op k v) ss h = output_stays op _ _ h

  -- the kind of term alone says what the bodies are for and how a visit is assembled
  items_alike : {P : Term → Type 0} (g h : Context) (y : Term-F ((t : Term) × P t)) (ss : List State) → items_for (redone g y) ss ≡ items_for (redone h y) ss
  items_alike g h (Term-F.Return v) ss = refl
  items_alike g h (Term-F.Fail kind m) ss = refl
  items_alike g h (Term-F.Input n) ss = refl
  items_alike g h (Term-F.Node n) ss = refl
  items_alike g h (Term-F.Var n) ss = refl
  items_alike g h (Term-F.Map f t) ss = refl
  items_alike g h (Term-F.Pair a b) ss = refl
  items_alike g h (Term-F.Bind n t u) ss = refl
  items_alike g h (Term-F.ListMap n t u) ss = refl
  items_alike g h (Term-F.ListIter n t u) ss = refl
  items_alike g h (Term-F.Catch t) ss = refl
  items_alike g h (Term-F.State t) ss = refl
  items_alike g h (Term-F.Gate on t) ss = refl
  items_alike g h (Term-F.All ts) ss = refl
  items_alike g h (Term-F.Build op k) ss = refl
  items_alike g h (Term-F.Output op k v) ss = refl

  assembled_alike : {P : Term → Type 0} (g h : Context) (y : Term-F ((t : Term) × P t)) (bound : Bound) (r : Read) (items : List Value) (parts bodies : List Again) →
      assembled node (redone g y) bound r items parts bodies ≡ assembled node (redone h y) bound r items parts bodies
  assembled_alike g h (Term-F.Return v) bound r items parts bodies = refl
  assembled_alike g h (Term-F.Fail kind m) bound r items parts bodies = refl
  assembled_alike g h (Term-F.Input n) bound r items parts bodies = refl
  assembled_alike g h (Term-F.Node n) bound r items parts bodies = refl
  assembled_alike g h (Term-F.Var n) bound r items parts bodies = refl
  assembled_alike g h (Term-F.Map f t) bound r items parts bodies = refl
  assembled_alike g h (Term-F.Pair a b) bound r items parts bodies = refl
  assembled_alike g h (Term-F.Bind n t u) bound r items parts bodies = refl
  assembled_alike g h (Term-F.ListMap n t u) bound r items parts bodies = refl
  assembled_alike g h (Term-F.ListIter n t u) bound r items parts bodies = refl
  assembled_alike g h (Term-F.Catch t) bound r items parts bodies = refl
  assembled_alike g h (Term-F.State t) bound r items parts bodies = refl
  assembled_alike g h (Term-F.Gate on t) bound r items parts bodies = refl
  assembled_alike g h (Term-F.All ts) bound r items parts bodies = refl
  assembled_alike g h (Term-F.Build op k) bound r items parts bodies = refl
  assembled_alike g h (Term-F.Output op k v) bound r items parts bodies = refl

  parts_same : (y : Term-F ((t : Term) × Stays t)) (bound : Bound) → none_differ (parts_again (direct_parts (redone G0 y)) [] bound) →
      parts_again (direct_parts (redone G y)) [] bound ≡ parts_again (direct_parts (redone G0 y)) [] bound
  parts_same y bound h = rw (parts_redone G y, parts_redone G0 y) (parts_stay (direct_parts y) bound (rw (parts_redone G0 y) at h))

  over_parts_stay : (y : Term-F ((t : Term) × Stays t)) (bound : Bound) (parts : List Again) →
      let x0 : Term-F Redo = redone G0 y in
      let ps : List State = states (visits parts) in
      read_differs G (reading G0 x0 ps) ≡ false →
      none_differ (bodies_again (body_of x0) (items_for x0 ps) [] bound) →
      over_parts G (redone G y) None bound parts ≡ over_parts G0 x0 None bound parts
  over_parts_stay y bound parts h k =
      let ps : List State = states (visits parts) in
      rw (items_alike G G0 y ps, reading_stays y ps h, bodies_stay y (items_for (redone G0 y) ps) bound k)
      (assembled_alike G G0 y bound (reading G0 (redone G0 y) ps) (items_for (redone G0 y) ps) parts (bodies_again (body_of (redone G0 y)) (items_for (redone G0 y) ps) [] bound))

  -- what differs in a visit that was just made
  differs_parts : (y : Term-F ((t : Term) × Stays t)) (bound : Bound) (parts : List Again) →
      let x0 : Term-F Redo = redone G0 y in
      let ps : List State = states (visits parts) in
      differs G (over_parts G0 x0 None bound parts).visit
      ≡ (read_differs G (reading G0 x0 ps) || (list_any (λ b. b) (map (differs G) (visits parts))
      || list_any (λ b. b) (map (differs G) (visits (bodies_again (body_of x0) (items_for x0 ps) [] bound)))))
  differs_parts y bound parts = fold-roll-Visit Bool (passes_step (read_differs G)) _

  stays_layer : (y : Term-F ((t : Term) × Stays t)) → Stays (roll-Term (plain y))
  stays_layer y bound h =
      let parts0 : List Again = parts_again (direct_parts (redone G0 y)) [] bound in
      let told : differs G (over_parts G0 (redone G0 y) None bound parts0).visit ≡ false = subst (λ (a : Again). differs G a.visit ≡ false) (again_roll G0 y None bound) h in
      let s = or_parts _ _ (sym (differs_parts y bound parts0) ∙ told) in
      let s2 = or_parts _ _ s.1 in
      again_roll G y None bound
      ∙ ap (λ parts. over_parts G (redone G y) None bound parts) (parts_same y bound s2.0)
      ∙ over_parts_stay y bound parts0 s.0 s2.1
      ∙ sym (again_roll G0 y None bound)

  -- the same tree, and as many terms
  pub stays : (t : Term) → Stays t
  stays = by_layer Stays stays_layer
