-- An order, from its run to its end.
use Rattle.std.proofs.Common.{◌≡◌, ℕ, List, [], ◌∷◌, refl, sym, ap, subst, ◌∙◌}
use Rattle.std.specs.declared.option.Option.{Option}
use Rattle.std.specs.declared.option.Option.TheVariants.{None, Some}
use Rattle.std.specs.declared.result.Result.{Result}
use Rattle.std.specs.declared.result.Result.TheVariants.{Ok, Err}
use Rattle.io_ends.specs.Known.{Contents}
use Rattle.launch_core.specs.Launching.{AddsRun}
use Rattle.op_keys.specs.declared.order.Exit.{Exit}
use Rattle.op_keys.specs.declared.order.Order.{Order}
use Rattle.core_rules.specs.declared.events.What.TheVariants as what
use Rattle.core_rules.specs.declared.notes.Note.{Note}
use Rattle.core_rules.specs.declared.notes.Note.TheVariants as note
use Rattle.core_rules.specs.Core.{CoreState}
use Rattle.core_rules.specs.Steps.{Answer, Refused, Idle, Accepted, step}
use Rattle.session_rules.specs.Outputs.{Output, Run}
use Rattle.session_rules.specs.Outside.{Grows, Outside}
use Rattle.session_rules.specs.Parts.{Part, Does, preceded, followed, nothing, then_do}
use Rattle.session_rules.specs.Scenes.{Scene}
use Rattle.session_rules.specs.Steps.{Counting, answer_to, end_of, event, one_order, run_after, run_of}
use Rattle.session_rules.proofs.Doing.{did_more, order_ran, then_stopped}
use Rattle.session_core.specs.declared.stop.Stop.{Stop}
use Rattle.session_core.specs.declared.stop.Stop.TheVariants as stop
use Rattle.session_core.specs.Answers.{accepted_note}
use Rattle.session_core.specs.Doing.{DoesFrom, DoesPart, Moment, Plays, Stops, StopsPart, scene_of}
use Rattle.session_core.specs.Orders.{run_noted}
use Rattle.session_core.proofs.Playing.{StopsFrom, plays_nothing, plays_same, plays_then, stops_first, unbegun}

-- a run is one more of those that are known
adds_grows : (o : Order) (x : Exit) (r r' : Option (List (Order × Exit))) (E : Type 0) → AddsRun {E = E} r o (Ok x) r' → Grows r r' ((o, x) ∷ [])
adds_grows o x None r' E adds = tt
adds_grows o x (Some r) None E adds = absurd adds
adds_grows o x (Some r) (Some r') E adds = adds

module _ (counting : Counting) (o : Order) (x : Exit) (a : Outside) (r : Option (List (Order × Exit))) (grows : Grows a.ran r ((o, x) ∷ [])) where
  -- outside after the run
  abbrev b : Outside
  b = record a { ran = r }

  run_does : (s t : Scene) (c : Outside) → Does (end_of counting o.job x) s t b c → Does (run_of counting (note.Started o)) s t a c
  run_does s t c y = record {
    outputs = Run o x ∷ y.outputs;
    goes = λ more. ap (preceded (Run o x ∷ [])) (y.goes more);
    did = did_more (Run o x ∷ []) y.outputs a b c (order_ran o x a r grows) y.did;
  }

  run_stops : (z : Stop) (s : Scene) (c : Outside) → Stops z (end_of counting o.job x) s b c → Stops z (run_of counting (note.Started o)) s a c
  unfolding then_stopped
  run_stops z s c y = record {
    stops = record {
      outputs = Run o x ∷ y.stops.outputs;
      stopped = then_stopped (Run o x ∷ []) y.stops.outputs a b c (order_ran o x a r grows) y.stops.stopped;
      goes = ap (λ (ms : List Output). Run o x ∷ ms) y.stops.goes;
    };
    limit = λ is. let u = y.limit is in record {
      outputs = Run o x ∷ u.outputs;
      goes = ap (preceded (Run o x ∷ [])) u.goes;
      did = did_more (Run o x ∷ []) u.outputs a b c (order_ran o x a r grows) u.did;
    };
  }

  run_from : (s t : Option Scene) (c : Outside) → DoesFrom (end_of counting o.job x) s t b c → DoesFrom (run_of counting (note.Started o)) s t a c
  run_from None t c y = tt
  run_from (Some s) None c y = absurd y
  run_from (Some s) (Some t) c y = run_does s t c y

  run_from_stops : (z : Stop) (s : Option Scene) (c : Outside) → StopsFrom z (end_of counting o.job x) s b c → StopsFrom z (run_of counting (note.Started o)) s a c
  run_from_stops z None c y = tt
  run_from_stops z (Some s) c y = run_stops z s c y

-- an order was run, and then its end
pub run_plays : {T E : Type 0} (ran : Result Exit E) (counting : Counting) (o : Order) (x : Exit) (s : Option Scene) (a : Outside) (r : Option (List (Order × Exit))) (n : Moment) (result : Result T Stop) →
    ran ≡ Ok x → AddsRun a.ran o ran r → Plays (end_of counting o.job x) (record { scene = s; outside = record a { ran = r } }) n result →
    Plays (run_of counting (note.Started o)) (record { scene = s; outside = a }) n result
run_plays {E = E} ran counting o x s a r n (Ok u) is adds y =
    run_from counting o x a r (adds_grows o x a.ran r E (subst (λ (q : Result Exit E). AddsRun a.ran o q r) is adds)) s n.scene n.outside y
run_plays {E = E} ran counting o x s a r n (Err z) is adds y =
    run_from_stops counting o x a r (adds_grows o x a.ran r E (subst (λ (q : Result Exit E). AddsRun a.ran o q r) is adds)) z s n.outside y

-- memory was out before it was run
pub not_run : (p : Part) (s : Option Scene) (a : Outside) (r : Option (List (Order × Exit))) → r ≡ a.ran →
    StopsPart stop.NoMemory p (record { scene = s; outside = a }) (record { scene = s; outside = record a { ran = r } })
not_run p s a r same = subst (λ (v : Option (List (Order × Exit))). StopsPart stop.NoMemory p (record { scene = s; outside = a }) (record { scene = s; outside = record a { ran = v } })) (sym same)
    (unbegun p stop.NoMemory (record { scene = s; outside = a }) (λ is. let no : ⊥ = cc in no))

-- a note without an order
pub nothing_plays : (p : Part) (m : Moment) → ((s : Scene) → p s ≡ nothing s) → DoesPart p m m
nothing_plays p m same =
    let is : nothing ≡ p = (λ i. λ s. sym (same s) i) in
    subst (λ (q : Part). DoesPart q m m) is (plays_nothing m)

-- ---- a taking and what follows

-- what follows an answer is told by its note
noted_after : (counting : Counting) (a : Answer) (t : Scene) → run_noted counting (accepted_note a) t ≡ run_after counting a t
noted_after counting (Refused r) t = refl
noted_after counting (Idle r) t = refl
noted_after counting (Accepted c r) t = refl

module _ (counting : Counting) (w : ℕ) (c : CoreState) (last : ℕ) (n : Option Note) (noted : n ≡ accepted_note (step c (record { at = last; what = what.Take w }))) where
  -- the taking, and then what its note says
  abbrev both : Part
  both = then_do (event counting (what.Take w)) (run_noted counting n)

  both_is : (s : Scene) → s.core ≡ c → s.last ≡ last → both s ≡ one_order counting w s
  both_is s core at =
      let is : n ≡ accepted_note (answer_to (what.Take w) s) = noted ∙ (λ i. accepted_note (step (sym core i) (record { at = sym at i; what = what.Take w }))) in
      let after : (t : Scene) → run_noted counting n t ≡ run_after counting (answer_to (what.Take w) s) t =
      (λ t. ap (λ (m : Option Note). run_noted counting m t) is ∙ noted_after counting (answer_to (what.Take w) s) t) in
      λ i. followed (event counting (what.Take w) s) (λ t. after t i)

  -- one order
  pub one_plays : {T : Type 0} (rs : Option (List ℕ)) (f : Option Contents) (e : Outside) (m o : Moment) (result : Result T Stop) →
      DoesPart (event counting (what.Take w)) (record { scene = scene_of c last rs f; outside = e }) m → Plays (run_noted counting n) m o result →
      Plays (one_order counting w) (record { scene = scene_of c last rs f; outside = e }) o result
  one_plays rs f e m o result did then = plays_same both (one_order counting w) c last rs f both_is e o result
      (plays_then (event counting (what.Take w)) (run_noted counting n) (record { scene = scene_of c last rs f; outside = e }) m o result did then)

-- the taking stopped
pub take_stops : (counting : Counting) (w : ℕ) (c : CoreState) (last : ℕ) (rs : Option (List ℕ)) (f : Option Contents) (e : Outside) (z : Stop) (o : Moment) →
    StopsPart z (event counting (what.Take w)) (record { scene = scene_of c last rs f; outside = e }) o → StopsPart z (one_order counting w) (record { scene = scene_of c last rs f; outside = e }) o
take_stops counting w c last rs f e z o x =
    let n : Option Note = accepted_note (step c (record { at = last; what = what.Take w })) in
    let stopped : Result (Unit {0}) Stop = Err z in
    plays_same (both counting w c last n refl) (one_order counting w) c last rs f (both_is counting w c last n refl) e o stopped
    (stops_first (event counting (what.Take w)) (run_noted counting n) z (record { scene = scene_of c last rs f; outside = e }) o x)
