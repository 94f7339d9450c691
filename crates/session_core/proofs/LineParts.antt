-- What is done for one line.
use Rattle.std.proofs.Common.{◌≡◌, ◌≢◌, ℕ, List, [], ◌∷◌, refl, sym, ap, subst, ◌∙◌}
use Rattle.std.specs.declared.option.Option.{Option}
use Rattle.std.specs.declared.option.Option.TheVariants.{None, Some}
use Rattle.std.specs.declared.result.Result.{Result}
use Rattle.std.specs.declared.result.Result.TheVariants.{Ok, Err}
use Rattle.std.specs.Io.KnownBytes.{Appends}
use Rattle.io_ends.specs.Causes.{AppendsFront}
use Rattle.io_ends.specs.Known.{Contents}
use Rattle.core_rules.specs.declared.events.What.{What}
use Rattle.core_rules.specs.declared.notes.Note.{Note}
use Rattle.core_rules.specs.Core.{CoreState}
use Rattle.core_rules.specs.Steps.{Answer, Refused, Idle, Accepted, step}
use Rattle.session_rules.specs.Outputs.{Print, exits}
use Rattle.session_rules.specs.Outside.{Outside}
use Rattle.session_rules.specs.Parts.{Turn, Part, does, followed, then_do}
use Rattle.session_rules.specs.Scenes.{Scene, expecting}
use Rattle.session_rules.specs.Steps.{Counting, all_orders, answer_to, event}
use Rattle.session_rules.specs.Transcripts.{event_now, orders_after}
use Rattle.session_rules.proofs.Composing.{does_known}
use Rattle.session_rules.proofs.Doing.{print_failed, printed}
use Rattle.session_core.specs.declared.stop.Stop.{Stop}
use Rattle.session_core.specs.declared.stop.Stop.TheVariants as stop
use Rattle.session_core.specs.Answers.{accepted_note}
use Rattle.session_core.specs.Doing.{DoesFrom, DoesPart, Moment, Plays, StopsPart, scene_of}
use Rattle.session_core.specs.Printing.{Writes}
use Rattle.session_core.specs.inside.ReadLines.{noted_orders}
use Rattle.session_core.proofs.Played.{at}
use Rattle.session_core.proofs.Playing.{StopsFrom, plays_nothing, plays_same, plays_then, stops_first}

-- ---- a part that only writes a text

module _ (c : CoreState) (last : ℕ) (rs : Option (List ℕ)) (f : Option Contents) (e : Outside) (text : List ℕ) (wr : Option (List ℕ)) (p : Part) (same : (s : Scene) → s.core ≡ c → p s ≡ does (Print text ∷ []) s) where
  abbrev after : Outside
  after = record e { written = wr }

  says : Appends e.written wr text → (r : Option (List ℕ)) (g : Option Contents) → DoesFrom p (scene_of c last r g) (scene_of c last r g) e after
  says wrote None g = tt
  says wrote (Some r) None = tt
  says wrote (Some r) (Some g) = does_known (Print text ∷ []) (at c last r g) (at c last r g) e after p refl (λ more. same (expecting more (at c last r g)) refl) (printed text e wr wrote)

  not_said : (z : Stop) → AppendsFront e.written wr text × (z ≢ stop.LimitReached) → (r : Option (List ℕ)) (g : Option Contents) → StopsFrom z p (scene_of c last r g) e after
  not_said z wrote None g = tt
  not_said z wrote (Some r) None = tt
  not_said z wrote (Some r) (Some g) =
      let stopped = print_failed text [] e wr wrote.0 in
      record {
        stops = record { outputs = Print text ∷ []; stopped = stopped; goes = ap (λ (w : Turn). w.outputs) (same (expecting (exits stopped.done) (at c last r g)) refl) };
        limit = λ is. absurd (wrote.1 is);
      }

  pub print_plays : {T : Type 0} (result : Result T Stop) → Writes text e.written wr result → Plays p (record { scene = scene_of c last rs f; outside = e }) (record { scene = scene_of c last rs f; outside = after }) result
  print_plays (Ok x) wrote = says wrote rs f
  print_plays (Err z) wrote = not_said z wrote rs f

-- ---- an event and the orders after it

-- what follows an answer is known by its note
noted_after : (counting : Counting) (a : Answer) (t : Scene) → noted_orders counting (accepted_note a) t ≡ orders_after counting a t
noted_after counting (Refused r) t = refl
noted_after counting (Idle r) t = refl
noted_after counting (Accepted c r) t = refl

module _ (counting : Counting) (w : What) (c : CoreState) (last : ℕ) (n : Option Note) (noted : n ≡ accepted_note (step c (record { at = last; what = w }))) where
  -- the event, and then what its note says
  abbrev both : Part
  both = then_do (event counting w) (noted_orders counting n)

  both_is : (s : Scene) → s.core ≡ c → s.last ≡ last → both s ≡ event_now counting w s
  both_is s core at =
      let is : n ≡ accepted_note (answer_to w s) = noted ∙ (λ i. accepted_note (step (sym core i) (record { at = sym at i; what = w }))) in
      let after : (t : Scene) → noted_orders counting n t ≡ orders_after counting (answer_to w s) t =
      (λ t. ap (λ (m : Option Note). noted_orders counting m t) is ∙ noted_after counting (answer_to w s) t) in
      λ i. followed (event counting w s) (λ t. after t i)

  pub event_plays : {T : Type 0} (rs : Option (List ℕ)) (f : Option Contents) (e : Outside) (m o : Moment) (result : Result T Stop) →
      DoesPart (event counting w) (record { scene = scene_of c last rs f; outside = e }) m → Plays (noted_orders counting n) m o result →
      Plays (event_now counting w) (record { scene = scene_of c last rs f; outside = e }) o result
  event_plays rs f e m o result did then = plays_same both (event_now counting w) c last rs f both_is e o result
      (plays_then (event counting w) (noted_orders counting n) (record { scene = scene_of c last rs f; outside = e }) m o result did then)

  -- it was accepted
  pub orders_follow : {T : Type 0} (x : Note) (m o : Moment) (result : Result T Stop) → n ≡ Some x → Plays (all_orders counting) m o result → Plays (noted_orders counting n) m o result
  orders_follow x m o result is y = subst (λ (k : Option Note). Plays (noted_orders counting k) m o result) (sym is) y

  -- it wasn't
  pub none_follow : (m : Moment) → n ≡ None → DoesPart (noted_orders counting n) m m
  none_follow m is = subst (λ (k : Option Note). DoesPart (noted_orders counting k) m m) (sym is) (plays_nothing m)

-- the event stopped
pub event_stops : (counting : Counting) (w : What) (c : CoreState) (last : ℕ) (rs : Option (List ℕ)) (f : Option Contents) (e : Outside) (z : Stop) (o : Moment) →
    StopsPart z (event counting w) (record { scene = scene_of c last rs f; outside = e }) o → StopsPart z (event_now counting w) (record { scene = scene_of c last rs f; outside = e }) o
event_stops counting w c last rs f e z o x =
    let n : Option Note = accepted_note (step c (record { at = last; what = w })) in
    let stopped : Result (Unit {0}) Stop = Err z in
    plays_same (both counting w c last n refl) (event_now counting w) c last rs f (both_is counting w c last n refl) e o stopped
    (stops_first (event counting w) (noted_orders counting n) z (record { scene = scene_of c last rs f; outside = e }) o x)
