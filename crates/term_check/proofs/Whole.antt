-- A program within the limits is sound exactly where the check finds no fault.
use Rattle.std.proofs.Common.{◌≡◌, ℕ, ◌+◌, ◌≤◌, List, [], ◌∷◌, ◌++◌, map, sum, Bool, true, false, cond, Option, Some, None, refl, ap, sym, subst, ◌∙◌, arith}
use Rattle.std.specs.Prelude.{◌&&◌, is_some}
use Rattle.std.specs.List.{list_all}
use Rattle.std.specs.Option.{option_and_then}
use Rattle.std.proofs.lemmas.Bool.{and_parts, and_from}
use Rattle.std.proofs.lemmas.List.Sums.{sum_by-cons}
use Rattle.value_core.specs.declared.value.Kind.{Kind}
use Rattle.term_core.specs.Limits.{IsWithinLimits}
use Rattle.term_core.specs.Soundness.{IsSound, is_client, is_pool, kinds_from, nesting_of, node_kinds, term_kind}
use Rattle.term_core.specs.declared.program.NodeDecl.{NodeDecl}
use Rattle.term_core.specs.declared.program.Program.{Program}
use Rattle.term_check.specs.Faults.{check_fault, client_fault, first_fault, node_fault, op_fault, or_later, outermost, then_node, unknown, worker_fault}
use Rattle.term_check.specs.Typing.{verdict_of}
use Rattle.term_check.specs.declared.fault.CheckFault.{CheckFault}
use Rattle.term_check.specs.declared.fault.FaultPlace.TheVariants as place
use Rattle.term_check.specs.declared.verdict.Verdict.{Verdict}
use Rattle.term_check.specs.declared.verdict.Verdict.TheVariants.{Typed, Faulty}
use Rattle.term_check.proofs.Sounds.{Tells, answered}

-- ---- declarations

both_none : (f g : Option CheckFault) → or_later f g ≡ None → (f ≡ None) × (g ≡ None)
both_none None g e = (refl, e)
both_none (Some f) g e = absurd cc

none_both : (f g : Option CheckFault) → f ≡ None → g ≡ None → or_later f g ≡ None
none_both f g e h = ap (λ (x : Option CheckFault). or_later x g) e ∙ h

declared_from : {D : Type 0} (fault : ℕ → D → Option CheckFault) (test : D → Bool) → ((at : ℕ) (d : D) → fault at d ≡ None → test d ≡ true) →
    (at : ℕ) (ds : List D) → first_fault fault at ds ≡ None → list_all test ds ≡ true
declared_from fault test one at [] e = refl
declared_from fault test one at (d ∷ ds) e =
    let b = both_none (fault at d) (first_fault fault (at + 1) ds) e in
    and_from (test d) (list_all test ds) (one at d b.0) (declared_from fault test one (at + 1) ds b.1)

faultless_from : {D : Type 0} (fault : ℕ → D → Option CheckFault) (test : D → Bool) → ((at : ℕ) (d : D) → test d ≡ true → fault at d ≡ None) →
    (at : ℕ) (ds : List D) → list_all test ds ≡ true → first_fault fault at ds ≡ None
faultless_from fault test one at [] e = refl
faultless_from fault test one at (d ∷ ds) e =
    let b = and_parts (test d) (list_all test ds) e in
    none_both (fault at d) (first_fault fault (at + 1) ds) (one at d b.0) (faultless_from fault test one (at + 1) ds b.1)

cond_none : (b : Bool) (f : CheckFault) → cond b None (Some f) ≡ None → b ≡ true
cond_none true f e = refl
cond_none false f e = absurd cc

none_cond : (b : Bool) (f : CheckFault) → b ≡ true → cond b None (Some f) ≡ None
none_cond b f e = ap (λ (x : Bool). cond x None (Some f)) e

two_none : (a b : Bool) (f g : CheckFault) → cond a (cond b None (Some f)) (Some g) ≡ None → (a && b) ≡ true
two_none true b f g e = cond_none b f e
two_none false b f g e = absurd cc

none_two : (a b : Bool) (f g : CheckFault) → (a && b) ≡ true → cond a (cond b None (Some f)) (Some g) ≡ None
none_two true b f g e = none_cond b f e
none_two false b f g e = absurd cc

-- ---- nodes

pub record IsGone (o : Option Kind) (fits : Bool) (more deep : ℕ) (go : Kind → ℕ → Option CheckFault) : Type 0 where
  pub kind : Kind
  pub kind_is : o ≡ Some kind
  pub fits_is : fits ≡ true
  pub few : deep + more ≤ 64
  pub rest : go kind (deep + more) ≡ None

gone : (v : Verdict) (at deep next more : ℕ) (o : Option Kind) (fits : Bool) (go : Kind → ℕ → Option CheckFault) → Tells v o fits more deep next → deep ≤ 64 → then_node at v go ≡ None → IsGone o fits more deep go
gone (Typed k d n) at deep next more o fits go h few e =
    record { kind = k; kind_is = h.kind_is; fits_is = h.fits_is; few = omega (arith, h.few few, h.deep_is); rest = subst (λ (x : ℕ). go k x ≡ None) h.deep_is e }
gone (Faulty t w) at deep next more o fits go h few e = absurd cc

goes : (v : Verdict) (at deep next more : ℕ) (o : Option Kind) (fits : Bool) (go : Kind → ℕ → Option CheckFault) → Tells v o fits more deep next → (k : Kind) → o ≡ Some k → fits ≡ true → deep + more ≤ 64 → go k (deep + more) ≡ None → then_node at v go ≡ None
goes (Typed k' d n) at deep next more o fits go h k is fit few rest =
    let same : k' ≡ k = let e : Some k' ≡ Some k = sym h.kind_is ∙ is in cc in
    ap (λ (x : Kind). go x d) same ∙ ap (λ (x : ℕ). go k x) h.deep_is ∙ rest
goes (Faulty t w) at deep next more o fits go h k is fit few rest =
    absurd (h.amiss (omega arith) (ap is_some is) fit few)

pub record AreNodesSound (p : Program) (earlier : List Kind) (deep : ℕ) (ds : List NodeDecl) : Type 0 where
  pub kinds : is_some (kinds_from p earlier ds) ≡ true
  pub fits : list_all (λ d. (nesting_of d.term 0).fits) ds ≡ true
  pub few : deep + sum (map (λ d. (nesting_of d.term 0).deep) ds) ≤ 64

deep_cons : (d : NodeDecl) (ds : List NodeDecl) → sum (map (λ d. (nesting_of d.term 0).deep) (d ∷ ds)) ≡ (nesting_of d.term 0).deep + sum (map (λ d. (nesting_of d.term 0).deep) ds)
deep_cons d ds = sum_by-cons (λ (x : ℕ). x) (nesting_of d.term 0).deep (map (λ d. (nesting_of d.term 0).deep) ds)

nodes_sound : (p : Program) (ds : List NodeDecl) (at : ℕ) (earlier : List Kind) (deep : ℕ) → deep ≤ 64 → node_fault p at earlier deep ds ≡ None → AreNodesSound p earlier deep ds
nodes_sound p [] at earlier deep few e = record { kinds = refl; fits = refl; few = omega arith }
nodes_sound p (d ∷ ds) at earlier deep few e =
    let told = (answered p earlier d.term [] (outermost deep)).tells in
    let g = gone (verdict_of p earlier d.term [] (outermost deep)) at deep _ (nesting_of d.term 0).deep (term_kind p earlier d.term []) (nesting_of d.term 0).fits (λ k deep'. node_fault p (at + 1) (earlier ++ k ∷ []) deep' ds) told few e in
    let rest = nodes_sound p ds (at + 1) (earlier ++ g.kind ∷ []) (deep + (nesting_of d.term 0).deep) g.few g.rest in
    record {
      kinds = ap (λ (o : Option Kind). is_some (option_and_then (λ k. kinds_from p (earlier ++ k ∷ []) ds) o)) g.kind_is ∙ rest.kinds;
      fits = and_from (nesting_of d.term 0).fits (list_all (λ d. (nesting_of d.term 0).fits) ds) g.fits_is rest.fits;
      few = omega (arith, deep_cons d ds, rest.few);
    }

there : (o : Option Kind) (f : Kind → Option (List Kind)) → is_some (option_and_then f o) ≡ true → (k : Kind) × (o ≡ Some k) × (is_some (f k) ≡ true)
there (Some k) f e = (k, refl, e)
there None f e = absurd cc

nodes_faultless : (p : Program) (ds : List NodeDecl) (at : ℕ) (earlier : List Kind) (deep : ℕ) → AreNodesSound p earlier deep ds → node_fault p at earlier deep ds ≡ None
nodes_faultless p [] at earlier deep h = refl
nodes_faultless p (d ∷ ds) at earlier deep h =
    let told = (answered p earlier d.term [] (outermost deep)).tells in
    let k = there (term_kind p earlier d.term []) (λ k. kinds_from p (earlier ++ k ∷ []) ds) h.kinds in
    let fit = and_parts (nesting_of d.term 0).fits (list_all (λ d. (nesting_of d.term 0).fits) ds) h.fits in
    let few : (deep + (nesting_of d.term 0).deep) + sum (map (λ d. (nesting_of d.term 0).deep) ds) ≤ 64 = omega (arith, deep_cons d ds, h.few) in
    let rest = nodes_faultless p ds (at + 1) (earlier ++ k.0 ∷ []) (deep + (nesting_of d.term 0).deep) (record { kinds = k.2; fits = fit.1; few = few }) in
    goes (verdict_of p earlier d.term [] (outermost deep)) at deep _ (nesting_of d.term 0).deep (term_kind p earlier d.term []) (nesting_of d.term 0).fits (λ k deep'. node_fault p (at + 1) (earlier ++ k ∷ []) deep' ds) told k.0 k.1 fit.0 (omega (arith, few)) rest

-- ---- programs

pub sound_from : (p : Program) → IsWithinLimits p → check_fault p ≡ None → IsSound p
unfolding check_fault node_kinds
sound_from p within e =
    let a = both_none (first_fault (client_fault p) 0 p.clients) _ e in
    let b = both_none (first_fault (worker_fault p) 0 p.workers) _ a.1 in
    let c = both_none (first_fault (op_fault p) 0 p.ops) (node_fault p 0 [] 0 p.nodes) b.1 in
    let nodes = nodes_sound p p.nodes 0 [] 0 (omega arith) c.1 in
    record {
      within = within;
      clients = declared_from (client_fault p) (λ d. is_pool p d.pool) (λ at d. cond_none (is_pool p d.pool) (unknown (place.Client at) d.pool)) 0 p.clients a.0;
      workers = declared_from (worker_fault p) (λ d. is_pool p d.pool) (λ at d. cond_none (is_pool p d.pool) (unknown (place.Worker at) d.pool)) 0 p.workers b.0;
      ops = declared_from (op_fault p) (λ d. is_pool p d.pool && is_client p d.client d.pool) (λ at d. two_none (is_pool p d.pool) (is_client p d.client d.pool) (unknown (place.Op at) d.client) (unknown (place.Op at) d.pool)) 0 p.ops c.0;
      nesting = nodes.fits;
      few_deep = omega (arith, nodes.few);
      kinds = nodes.kinds;
    }

pub faultless : (p : Program) → IsSound p → check_fault p ≡ None
unfolding check_fault node_kinds
faultless p sound =
    none_both (first_fault (client_fault p) 0 p.clients) _
    (faultless_from (client_fault p) (λ d. is_pool p d.pool) (λ at d. none_cond (is_pool p d.pool) (unknown (place.Client at) d.pool)) 0 p.clients sound.clients)
    (none_both (first_fault (worker_fault p) 0 p.workers) _
    (faultless_from (worker_fault p) (λ d. is_pool p d.pool) (λ at d. none_cond (is_pool p d.pool) (unknown (place.Worker at) d.pool)) 0 p.workers sound.workers)
    (none_both (first_fault (op_fault p) 0 p.ops) (node_fault p 0 [] 0 p.nodes)
    (faultless_from (op_fault p) (λ d. is_pool p d.pool && is_client p d.client d.pool) (λ at d. none_two (is_pool p d.pool) (is_client p d.client d.pool) (unknown (place.Op at) d.client) (unknown (place.Op at) d.pool)) 0 p.ops sound.ops)
    (nodes_faultless p p.nodes 0 [] 0 (record { kinds = sound.kinds; fits = sound.nesting; few = omega (arith, sound.few_deep) }))))
