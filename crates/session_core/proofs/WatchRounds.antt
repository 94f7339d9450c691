-- The loop over watched inputs.
use Rattle.std.proofs.Common.{◌≡◌, ◌<◌, ◌≤◌, ◌+◌, ℕ, zero, suc, List, [], ◌∷◌, drop, length, refl, sym, ap, subst, ◌∙◌, arith}
use Rattle.std.specs.Prelude.{slice_get}
use Rattle.std.specs.declared.option.Option.{Option}
use Rattle.std.specs.declared.option.Option.TheVariants.{None, Some}
use Rattle.std.specs.declared.result.Result.{Result}
use Rattle.std.specs.declared.result.Result.TheVariants.{Ok, Err}
use Rattle.io_ends.specs.Known.{Contents}
use Rattle.term_core.specs.declared.program.InputDecl.{InputDecl}
use Rattle.core_rules.specs.Core.{CoreState}
use Rattle.session_rules.specs.Outside.{Outside}
use Rattle.session_rules.specs.Parts.{Turn, Part, Does, Leads, followed, nothing, then_do}
use Rattle.session_rules.specs.Scenes.{Scene}
use Rattle.session_rules.specs.Steps.{Counting}
use Rattle.session_rules.specs.Watching.{watch_all, watch_from}
use Rattle.session_rules.proofs.Composing.{does_nothing, stops_longer, uses_up_longer}
use Rattle.session_rules.proofs.OrderLoop.{leads_does, leads_start, leads_stops, leads_then, leads_uses_up}
use Rattle.session_core.specs.declared.stop.Stop.{Stop}
use Rattle.session_core.specs.Doing.{DoesFrom, DoesPart, Moment, StopsPart, scene_of}
use Rattle.session_core.specs.Watched.{watch_found, watch_nth}
use Rattle.session_core.specs.inside.Rounds.{Watched, WatchedFrom}
use Rattle.session_core.proofs.Playing.{StopsFrom, plays_same}

-- up to where a part was done that another one begins with
leads_past : (p q : Part) (s t : Scene) (a b : Outside) → Does p s t a b → Leads (then_do p q) q s t a b
leads_past p q s t a b x = record { outputs = x.outputs; goes = λ more. ap (λ (w : Turn). followed w q) (x.goes more); did = x.did }

-- from an index on: its input, and then the others
from_is : (counting : Counting) (k n : ℕ) (ds : List InputDecl) → n < length ds →
    watch_from counting k (drop n ds) ≡ then_do (watch_found counting k (slice_get ds n)) (watch_from counting (k + 1) (drop (suc n) ds))
from_is counting k n [] less = absurd (omega (arith, less))
from_is counting k zero (d ∷ ds) less = refl
from_is counting k (suc n) (d ∷ ds) less = from_is counting k n ds (omega (arith, less))

none_left : (n : ℕ) (ds : List InputDecl) → length ds ≤ n → drop n ds ≡ []
none_left zero [] all = refl
none_left (suc n) [] all = refl
none_left zero (d ∷ ds) all = absurd (omega (arith, all))
none_left (suc n) (d ∷ ds) all = none_left n ds (omega (arith, all))

module _ (counting : Counting) (ds : List InputDecl) where
  abbrev all : Part
  all = watch_from counting 0 ds

  begun : (s : Option Scene) (e : Outside) → WatchedFrom counting ds 0 s s e e
  begun None e = tt
  begun (Some s) e = leads_start all s e

  -- the beginning
  pub watched_start : (m : Moment) → Watched counting ds 0 m m
  watched_start m = begun m.scene m.outside

  -- from an input on
  abbrev after : ℕ → Part
  after n = watch_from counting (n + 1) (drop (n + 1) ds)

  module _ (n : ℕ) (less : n < length ds) where
    here : watch_from counting n (drop n ds) ≡ then_do (watch_nth counting n ds) (after n)
    here =
        let e : suc n ≡ n + 1 = omega arith in
        from_is counting n n ds less ∙ ap (λ (k : ℕ). then_do (watch_nth counting n ds) (watch_from counting (n + 1) (drop k ds))) e

    past : (s0 t u : Option Scene) (e0 e e' : Outside) → WatchedFrom counting ds n s0 t e0 e → DoesFrom (watch_nth counting n ds) t u e e' → WatchedFrom counting ds (n + 1) s0 u e0 e'
    past None t u e0 e e' led did = tt
    past (Some s0) None u e0 e e' led did = absurd led
    past (Some s0) (Some t) None e0 e e' led did = absurd did
    past (Some s0) (Some t) (Some u) e0 e e' led did =
        let led2 : Leads all (then_do (watch_nth counting n ds) (after n)) s0 t e0 e = subst (λ (q : Part). Leads all q s0 t e0 e) here led in
        leads_then all (then_do (watch_nth counting n ds) (after n)) (after n) s0 t u e0 e e' led2 (leads_past (watch_nth counting n ds) (after n) t u e e' did)

    -- the next input was done
    pub watched_next : (m0 m m' : Moment) → Watched counting ds n m0 m → DoesPart (watch_nth counting n ds) m m' → Watched counting ds (n + 1) m0 m'
    watched_next m0 m m' led did = past m0.scene m.scene m'.scene m0.outside m.outside m'.outside led did

    halts : (z : Stop) (s0 t : Option Scene) (e0 e e' : Outside) → WatchedFrom counting ds n s0 t e0 e → StopsFrom z (watch_nth counting n ds) t e e' → StopsFrom z all s0 e0 e'
    halts z None t e0 e e' led x = tt
    halts z (Some s0) None e0 e e' led x = absurd led
    halts z (Some s0) (Some t) e0 e e' led x =
        let one : Part = watch_nth counting n ds in
        let led2 : Leads all (then_do one (after n)) s0 t e0 e = subst (λ (q : Part). Leads all q s0 t e0 e) here led in record {
          stops = leads_stops all (then_do one (after n)) s0 t e0 e e' led2 (stops_longer one (after n) t e e' x.stops);
          limit = λ is. leads_uses_up all (then_do one (after n)) s0 t e0 e e' led2 (uses_up_longer one (after n) t e e' (x.limit is));
        }

  ends : (n : ℕ) → length ds ≤ n → (s0 t : Option Scene) (e0 e : Outside) → WatchedFrom counting ds n s0 t e0 e → DoesFrom all s0 t e0 e
  ends n least None t e0 e led = tt
  ends n least (Some s0) None e0 e led = absurd led
  ends n least (Some s0) (Some t) e0 e led =
      let led2 : Leads all nothing s0 t e0 e = subst (λ (l : List InputDecl). Leads all (watch_from counting n l) s0 t e0 e) (none_left n ds least) led in
      leads_does all nothing s0 t t e0 e e led2 (does_nothing t e)

-- ---- all inputs of a core's program

module _ (counting : Counting) (c : CoreState) (last : ℕ) (rs : Option (List ℕ)) (f : Option Contents) (e : Outside) where
  abbrev first : Moment
  first = record { scene = scene_of c last rs f; outside = e }

  all_is : (s : Scene) → s.core ≡ c → s.last ≡ last → watch_from counting 0 c.program.inputs s ≡ watch_all counting s
  unfolding watch_all
  all_is s core at = ap (λ (d : CoreState). watch_from counting 0 d.program.inputs s) (sym core)

  -- one stopped
  pub watched_halts : (n : ℕ) → n < length c.program.inputs → (z : Stop) (m m' : Moment) → Watched counting c.program.inputs n first m → StopsPart z (watch_nth counting n c.program.inputs) m m' → StopsPart z (watch_all counting) first m'
  watched_halts n less z m m' led x =
      let r : Result (Unit {0}) Stop = Err z in
      plays_same (watch_from counting 0 c.program.inputs) (watch_all counting) c last rs f all_is e m' r
      (halts counting c.program.inputs n less z first.scene m.scene e m.outside m'.outside led x)

  -- all were done
  pub watched_ends : (n : ℕ) → length c.program.inputs ≤ n → (m : Moment) → Watched counting c.program.inputs n first m → DoesPart (watch_all counting) first m
  watched_ends n least m led =
      let r : Result (Unit {0}) Stop = Ok tt in
      plays_same (watch_from counting 0 c.program.inputs) (watch_all counting) c last rs f all_is e m r
      (ends counting c.program.inputs n least first.scene m.scene e m.outside led)
