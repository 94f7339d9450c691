-- Parts that are played one after the other.
use Rattle.std.proofs.Common.{◌≡◌, ◌≢◌, ℕ, List, [], ◌∷◌, ◌++◌, refl, sym, ap, subst, ◌∙◌}
use Rattle.std.specs.Prelude.{IfSome, IsErrAnd}
use Rattle.std.specs.declared.option.Option.{Option}
use Rattle.std.specs.declared.option.Option.TheVariants.{None, Some}
use Rattle.std.specs.declared.result.Result.{Result}
use Rattle.std.specs.declared.result.Result.TheVariants.{Ok, Err}
use Rattle.io_ends.specs.Known.{Contents, TakesReading}
use Rattle.op_keys.specs.declared.order.Exit.{Exit}
use Rattle.core_rules.specs.Core.{CoreState}
use Rattle.session_rules.specs.Outputs.{exits}
use Rattle.session_rules.specs.Outside.{Outside}
use Rattle.session_rules.specs.Parts.{Turn, Part, Does, nothing, then_do}
use Rattle.session_rules.specs.Scenes.{Scene, at_reading, expecting, reading_now, readings_later}
use Rattle.session_rules.proofs.Composing.{does_nothing, does_stops, does_then, does_uses_up, not_begun, stops_longer, uses_up_longer}
use Rattle.session_core.specs.declared.stop.Stop.{Stop}
use Rattle.session_core.specs.declared.stop.Stop.TheVariants as stop
use Rattle.session_core.specs.Doing.{DoesFrom, DoesPart, Moment, Plays, Stops, StopsPart, scene_of}
use Rattle.session_core.proofs.Played.{at}

-- a part stopped from a scene, if it is known
abbrev pub StopsFrom : Stop → Part → Option Scene → Outside → Outside → Type 0
StopsFrom z part o e e' = IfSome o (λ s. Stops z part s e e')

-- a stop that is passed on
pub passed_on : {T : Type 0} (P : Result T Stop → Type 0) (result : Result T Stop) (z : Stop) → IsErrAnd result (λ e. e ≡ z) → P (Err z) → P result
passed_on P (Ok x) z is p = absurd is
passed_on P (Err y) z is p = subst (λ (s : Stop). P (Err s)) (sym is) p

-- ---- one part and then another

module _ (p q : Part) where
  from_then : (s t u : Option Scene) (a b c : Outside) → DoesFrom p s t a b → DoesFrom q t u b c → DoesFrom (then_do p q) s u a c
  from_then None t u a b c x y = tt
  from_then (Some s) None u a b c x y = absurd x
  from_then (Some s) (Some t) None a b c x y = absurd y
  from_then (Some s) (Some t) (Some u) a b c x y = does_then p q s t u a b c x y

  from_then_stops : (z : Stop) (s t : Option Scene) (a b c : Outside) → DoesFrom p s t a b → StopsFrom z q t b c → StopsFrom z (then_do p q) s a c
  from_then_stops z None t a b c x y = tt
  from_then_stops z (Some s) None a b c x y = absurd x
  from_then_stops z (Some s) (Some t) a b c x y = record {
    stops = does_stops p q s t a b c x y.stops;
    limit = λ is. does_uses_up p q s t a b c x (y.limit is);
  }

  from_first_stops : (z : Stop) (s : Option Scene) (a b : Outside) → StopsFrom z p s a b → StopsFrom z (then_do p q) s a b
  from_first_stops z None a b x = tt
  from_first_stops z (Some s) a b x = record { stops = stops_longer p q s a b x.stops; limit = λ is. uses_up_longer p q s a b (x.limit is) }

  -- the second part follows the first
  pub plays_then : {T : Type 0} (m n o : Moment) (result : Result T Stop) → DoesPart p m n → Plays q n o result → Plays (then_do p q) m o result
  plays_then m n o (Ok x) did then = from_then m.scene n.scene o.scene m.outside n.outside o.outside did then
  plays_then m n o (Err z) did then = from_then_stops z m.scene n.scene m.outside n.outside o.outside did then

  -- the first part stopped
  pub stops_first : (z : Stop) (m n : Moment) → StopsPart z p m n → StopsPart z (then_do p q) m n
  stops_first z m n x = from_first_stops z m.scene m.outside n.outside x

-- ---- nothing

nothing_from : (s : Option Scene) (e : Outside) → DoesFrom nothing s s e e
nothing_from None e = tt
nothing_from (Some s) e = does_nothing s e

pub plays_nothing : (m : Moment) → DoesPart nothing m m
plays_nothing m = nothing_from m.scene m.outside

unbegun_from : (p : Part) (z : Stop) → z ≢ stop.LimitReached → (s : Option Scene) (e : Outside) → StopsFrom z p s e e
unbegun_from p z other None e = tt
unbegun_from p z other (Some s) e = record { stops = not_begun p s e; limit = λ is. absurd (other is) }

-- a part that was not begun
pub unbegun : (p : Part) (z : Stop) (m : Moment) → z ≢ stop.LimitReached → StopsPart z p m m
unbegun p z m other = unbegun_from p z other m.scene m.outside

-- ---- the same part by another name

module _ (p q : Part) (s : Scene) (e e' : Outside) (same : (xs : List Exit) → p (expecting xs s) ≡ q (expecting xs s)) where
  pub does_same : (t : Scene) → Does p s t e e' → Does q s t e e'
  does_same t x = record { outputs = x.outputs; goes = λ more. sym (same (exits x.outputs ++ more)) ∙ x.goes more; did = x.did }

  pub stops_same : (z : Stop) → Stops z p s e e' → Stops z q s e e'
  stops_same z x = record {
    stops = record { outputs = x.stops.outputs; stopped = x.stops.stopped; goes = ap (λ (w : Turn). w.outputs) (sym (same (exits x.stops.stopped.done))) ∙ x.stops.goes };
    limit = λ is. let u = x.limit is in record { outputs = u.outputs; goes = sym (same (exits u.outputs)) ∙ u.goes; did = u.did };
  }

module _ (p q : Part) (c : CoreState) (last : ℕ) (rs : Option (List ℕ)) (f : Option Contents) (same : (s : Scene) → s.core ≡ c → s.last ≡ last → p s ≡ q s) where
  from_same : (r : Option (List ℕ)) (g : Option Contents) (u : Option Scene) (a b : Outside) → DoesFrom p (scene_of c last r g) u a b → DoesFrom q (scene_of c last r g) u a b
  from_same None g u a b x = tt
  from_same (Some r) None u a b x = tt
  from_same (Some r) (Some g) None a b x = absurd x
  from_same (Some r) (Some g) (Some u) a b x = does_same p q (at c last r g) a b (λ xs. same (expecting xs (at c last r g)) refl refl) u x

  from_same_stops : (z : Stop) (r : Option (List ℕ)) (g : Option Contents) (a b : Outside) → StopsFrom z p (scene_of c last r g) a b → StopsFrom z q (scene_of c last r g) a b
  from_same_stops z None g a b x = tt
  from_same_stops z (Some r) None a b x = tt
  from_same_stops z (Some r) (Some g) a b x = stops_same p q (at c last r g) a b (λ xs. same (expecting xs (at c last r g)) refl refl) z x

  -- parts that are the same for this core and this reading
  pub plays_same : {T : Type 0} (e : Outside) (n : Moment) (result : Result T Stop) →
      Plays p (record { scene = scene_of c last rs f; outside = e }) n result → Plays q (record { scene = scene_of c last rs f; outside = e }) n result
  plays_same e n (Ok x) y = from_same rs f n.scene e n.outside y
  plays_same e n (Err z) y = from_same_stops z rs f e n.outside y

-- ---- after a reading

module _ (p : Part) (c : CoreState) (last now : ℕ) where
  -- the same after the reading that a clock takes
  read_scene : (ts us : List ℕ) (g : Contents) → now ≡ reading_now ts → us ≡ readings_later ts → at c now us g ≡ at_reading (at c last ts g)
  read_scene ts us g taken left = λ i. at c (taken i) (left i) g

  abbrev p_read : Part
  p_read s = p (at_reading s)

  read_does : (ts us : List ℕ) (g : Contents) (u : Scene) (a b : Outside) → now ≡ reading_now ts → us ≡ readings_later ts → Does p (at c now us g) u a b → Does p_read (at c last ts g) u a b
  read_does ts us g u a b taken left x =
      let y : Does p (at_reading (at c last ts g)) u a b = subst (λ (s : Scene). Does p s u a b) (read_scene ts us g taken left) x in
      record { outputs = y.outputs; goes = y.goes; did = y.did }

  read_stops : (z : Stop) (ts us : List ℕ) (g : Contents) (a b : Outside) → now ≡ reading_now ts → us ≡ readings_later ts → Stops z p (at c now us g) a b → Stops z p_read (at c last ts g) a b
  read_stops z ts us g a b taken left x =
      let y : Stops z p (at_reading (at c last ts g)) a b = subst (λ (s : Scene). Stops z p s a b) (read_scene ts us g taken left) x in
      record {
        stops = record { outputs = y.stops.outputs; stopped = y.stops.stopped; goes = y.stops.goes };
        limit = λ is. let u = y.limit is in record { outputs = u.outputs; goes = u.goes; did = u.did };
      }

  -- what a reading is
  taken_is : (ts us : List ℕ) → TakesReading (Some ts) now (Some us) → (now ≡ reading_now ts) × (us ≡ readings_later ts)
  taken_is [] us r = r
  taken_is (t ∷ []) us r = r
  taken_is (t ∷ v ∷ ts) us r = r

  from_reading : (rs rs' : Option (List ℕ)) (f : Option Contents) (u : Option Scene) (a b : Outside) → TakesReading rs now rs' → DoesFrom p (scene_of c now rs' f) u a b → DoesFrom p_read (scene_of c last rs f) u a b
  from_reading None rs' f u a b r x = tt
  from_reading (Some ts) None f u a b r x = absurd r
  from_reading (Some ts) (Some us) None u a b r x = tt
  from_reading (Some ts) (Some us) (Some g) None a b r x = absurd x
  from_reading (Some ts) (Some us) (Some g) (Some u) a b r x = let is = taken_is ts us r in read_does ts us g u a b is.0 is.1 x

  from_reading_stops : (z : Stop) (rs rs' : Option (List ℕ)) (f : Option Contents) (a b : Outside) → TakesReading rs now rs' → StopsFrom z p (scene_of c now rs' f) a b → StopsFrom z p_read (scene_of c last rs f) a b
  from_reading_stops z None rs' f a b r x = tt
  from_reading_stops z (Some ts) None f a b r x = absurd r
  from_reading_stops z (Some ts) (Some us) None a b r x = tt
  from_reading_stops z (Some ts) (Some us) (Some g) a b r x = let is = taken_is ts us r in read_stops z ts us g a b is.0 is.1 x

  pub plays_reading : {T : Type 0} (rs rs' : Option (List ℕ)) (f : Option Contents) (e : Outside) (n : Moment) (result : Result T Stop) → TakesReading rs now rs' →
      Plays p (record { scene = scene_of c now rs' f; outside = e }) n result → Plays p_read (record { scene = scene_of c last rs f; outside = e }) n result
  plays_reading rs rs' f e n (Ok x) r y = from_reading rs rs' f n.scene e n.outside r y
  plays_reading rs rs' f e n (Err z) r y = from_reading_stops z rs rs' f e n.outside r y
