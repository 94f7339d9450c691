-- The loop over orders.
use Rattle.std.proofs.Common.{◌≡◌, ◌≢◌, ℕ, suc, ◌-◌, ◌<◌, ◌≤◌, List, [], ◌∷◌, sym, ap, subst, arith}
use Rattle.std.specs.declared.option.Option.{Option}
use Rattle.std.specs.declared.option.Option.TheVariants.{None, Some}
use Rattle.std.specs.declared.result.Result.{Result}
use Rattle.std.specs.declared.result.Result.TheVariants.{Ok, Err}
use Rattle.std.specs.Io.KnownBytes.{Appends}
use Rattle.io_ends.specs.Causes.{AppendsFront}
use Rattle.io_ends.specs.Known.{Contents}
use Rattle.core_rules.specs.Core.{CoreState}
use Rattle.report_text.specs.Lines.{paused_line}
use Rattle.session_rules.specs.Outputs.{Print}
use Rattle.session_rules.specs.Outside.{Did, Outside}
use Rattle.session_rules.specs.Scenes.{Scene}
use Rattle.session_rules.specs.Steps.{Counting, all_orders, one_order, orders, pause_outputs}
use Rattle.session_rules.proofs.Doing.{did_none, print_failed, printed}
use Rattle.session_rules.proofs.OrderLoop.{leads_does, leads_start, leads_stops, leads_then, leads_uses_up, order_leads, order_stops, order_uses_up, orders_done, orders_paused}
use Rattle.session_core.specs.declared.stop.Stop.{Stop}
use Rattle.session_core.specs.declared.stop.Stop.TheVariants as stop
use Rattle.session_core.specs.Doing.{DoesFrom, DoesPart, Moment, Plays, StopsPart, scene_of}
use Rattle.session_core.specs.Orders.{free_worker_of}
use Rattle.session_core.specs.Printing.{Writes}
use Rattle.session_core.specs.inside.Rounds.{Led, LedFrom}
use Rattle.session_core.proofs.Played.{at}
use Rattle.session_core.proofs.Playing.{StopsFrom}

start : (counting : Counting) (s : Option Scene) (e : Outside) → LedFrom counting 1000 s s e e
start counting None e = tt
start counting (Some s) e = leads_start (orders counting 1000) s e

-- the beginning
pub led_start : (counting : Counting) (m : Moment) → Led counting 1000 m m
led_start counting m = start counting m.scene m.outside

-- ---- one order, where so many more may follow

module _ (counting : Counting) (n w : ℕ) (c : CoreState) (last : ℕ) (free : free_worker_of c last ≡ Some w) where
  led_more : (rs : Option (List ℕ)) (f : Option Contents) (s0 t : Option Scene) (e0 e e' : Outside) → LedFrom counting (suc n) s0 (scene_of c last rs f) e0 e → DoesFrom (one_order counting w) (scene_of c last rs f) t e e' → LedFrom counting n s0 t e0 e'
  led_more rs f None t e0 e e' led did = tt
  led_more None f (Some s0) t e0 e e' led did = absurd led
  led_more (Some r) None (Some s0) t e0 e e' led did = absurd led
  led_more (Some r) (Some g) (Some s0) None e0 e e' led did = absurd did
  led_more (Some r) (Some g) (Some s0) (Some t) e0 e e' led did =
      leads_then (orders counting 1000) (orders counting (suc n)) (orders counting n) s0 (at c last r g) t e0 e e' led (order_leads counting n (at c last r g) w t e e' free did)

  -- an order stopped
  order_from_stops : (z : Stop) (rs : Option (List ℕ)) (f : Option Contents) (e e' : Outside) → StopsFrom z (one_order counting w) (scene_of c last rs f) e e' → StopsFrom z (orders counting (suc n)) (scene_of c last rs f) e e'
  order_from_stops z None f e e' x = tt
  order_from_stops z (Some r) None e e' x = tt
  order_from_stops z (Some r) (Some g) e e' x = record {
    stops = order_stops counting n (at c last r g) w e e' free x.stops;
    limit = λ is. order_uses_up counting n (at c last r g) w e e' free (x.limit is);
  }

-- no worker has a pick
none_from : (counting : Counting) (n : ℕ) (c : CoreState) (last : ℕ) → free_worker_of c last ≡ None → (rs : Option (List ℕ)) (f : Option Contents) (e : Outside) → DoesFrom (orders counting (suc n)) (scene_of c last rs f) (scene_of c last rs f) e e
none_from counting n c last free None f e = tt
none_from counting n c last free (Some r) None e = tt
none_from counting n c last free (Some r) (Some g) e = orders_done counting n (at c last r g) e free

-- what is done of the orders that are left is done of all
led_does : (counting : Counting) (n : ℕ) (s0 s t : Option Scene) (e0 e e' : Outside) → LedFrom counting n s0 s e0 e → DoesFrom (orders counting n) s t e e' → DoesFrom (orders counting 1000) s0 t e0 e'
led_does counting n None s t e0 e e' led did = tt
led_does counting n (Some s0) None t e0 e e' led did = absurd led
led_does counting n (Some s0) (Some s) None e0 e e' led did = absurd did
led_does counting n (Some s0) (Some s) (Some t) e0 e e' led did = leads_does (orders counting 1000) (orders counting n) s0 s t e0 e e' led did

led_stops : (counting : Counting) (z : Stop) (n : ℕ) (s0 s : Option Scene) (e0 e e' : Outside) → LedFrom counting n s0 s e0 e → StopsFrom z (orders counting n) s e e' → StopsFrom z (orders counting 1000) s0 e0 e'
led_stops counting z n None s e0 e e' led x = tt
led_stops counting z n (Some s0) None e0 e e' led x = absurd led
led_stops counting z n (Some s0) (Some s) e0 e e' led x = record {
  stops = leads_stops (orders counting 1000) (orders counting n) s0 s e0 e e' led x.stops;
  limit = λ is. leads_uses_up (orders counting 1000) (orders counting n) s0 s e0 e e' led (x.limit is);
}

-- a number above 0
above : (n : ℕ) → 0 < n → n ≡ suc (n - 1)
above n h = omega (arith, h)

-- a number that isn't
pub lowest : (n : ℕ) → n ≤ 0 → n ≡ 0
lowest n h = omega (arith, h)

module _ (counting : Counting) (n : ℕ) (m0 : Moment) (c : CoreState) (last : ℕ) (rs : Option (List ℕ)) (f : Option Contents) (e : Outside) where
  -- a moment in the loop
  abbrev pub m : Moment
  m = record { scene = scene_of c last rs f; outside = e }

  led_suc : 0 < n → Led counting n m0 m → Led counting (suc (n - 1)) m0 m
  led_suc more led = subst (λ (k : ℕ). Led counting k m0 m) (above n more) led

  -- the next order was run
  pub led_next : (w : ℕ) (m' : Moment) → 0 < n → Led counting n m0 m → free_worker_of c last ≡ Some w → DoesPart (one_order counting w) m m' → Led counting (n - 1) m0 m'
  led_next w m' more led free did = led_more counting (n - 1) w c last free rs f m0.scene m'.scene m0.outside e m'.outside (led_suc more led) did

  -- it stopped
  pub led_halts : (z : Stop) (w : ℕ) (m' : Moment) → 0 < n → Led counting n m0 m → free_worker_of c last ≡ Some w → StopsPart z (one_order counting w) m m' → StopsPart z (all_orders counting) m0 m'
  unfolding all_orders
  led_halts z w m' more led free x = led_stops counting z (suc (n - 1)) m0.scene m.scene m0.outside e m'.outside (led_suc more led) (order_from_stops counting (n - 1) w c last free z rs f e m'.outside x)

  -- no worker has a pick
  pub led_ends : 0 < n → Led counting n m0 m → free_worker_of c last ≡ None → DoesPart (all_orders counting) m0 m
  unfolding all_orders
  led_ends more led free = led_does counting (suc (n - 1)) m0.scene m.scene m.scene m0.outside e e (led_suc more led) (none_from counting (n - 1) c last free rs f e)

  -- after the last one
  pub led_pauses : {T : Type 0} (m' : Moment) (result : Result T Stop) → n ≤ 0 → Led counting n m0 m → Plays (orders counting 0) m m' result → Plays (all_orders counting) m0 m' result
  unfolding all_orders
  led_pauses m' (Ok x) least led y = led_does counting 0 m0.scene m.scene m'.scene m0.outside e m'.outside (subst (λ (k : ℕ). Led counting k m0 m) (lowest n least) led) y
  led_pauses m' (Err z) least led y = led_stops counting z 0 m0.scene m.scene m0.outside e m'.outside (subst (λ (k : ℕ). Led counting k m0 m) (lowest n least) led) y

-- ---- whether a worker still has a pick

module _ (counting : Counting) (c : CoreState) (last : ℕ) (rs : Option (List ℕ)) (f : Option Contents) (e : Outside) where
  abbrev now : Moment
  now = record { scene = scene_of c last rs f; outside = e }

  no_pause : free_worker_of c last ≡ None → (r : Option (List ℕ)) (g : Option Contents) → DoesFrom (orders counting 0) (scene_of c last r g) (scene_of c last r g) e e
  no_pause free None g = tt
  no_pause free (Some r) None = tt
  no_pause free (Some r) (Some g) = orders_paused counting (at c last r g) e e (subst (λ (o : Option ℕ). Did (pause_outputs o) e e) (sym free) (did_none e))

  -- none has
  pub pause_none : free_worker_of c last ≡ None → DoesPart (orders counting 0) now now
  pause_none free = no_pause free rs f

  module _ (w : ℕ) (wr : Option (List ℕ)) (free : free_worker_of c last ≡ Some w) where
    said : Appends e.written wr paused_line → (r : Option (List ℕ)) (g : Option Contents) → DoesFrom (orders counting 0) (scene_of c last r g) (scene_of c last r g) e (record e { written = wr })
    said wrote None g = tt
    said wrote (Some r) None = tt
    said wrote (Some r) (Some g) = orders_paused counting (at c last r g) e (record e { written = wr })
        (subst (λ (o : Option ℕ). Did (pause_outputs o) e (record e { written = wr })) (sym free) (printed paused_line e wr wrote))

    not_said : (z : Stop) → AppendsFront e.written wr paused_line × (z ≢ stop.LimitReached) → (r : Option (List ℕ)) (g : Option Contents) → StopsFrom z (orders counting 0) (scene_of c last r g) e (record e { written = wr })
    not_said z wrote None g = tt
    not_said z wrote (Some r) None = tt
    not_said z wrote (Some r) (Some g) = record {
      stops = record { outputs = Print paused_line ∷ []; stopped = print_failed paused_line [] e wr wrote.0; goes = ap pause_outputs free };
      limit = λ is. absurd (wrote.1 is);
    }

    -- one has, and it was said or not
    pub pause_some : {T : Type 0} (result : Result T Stop) → Writes paused_line e.written wr result →
        Plays (orders counting 0) now (record { scene = scene_of c last rs f; outside = record e { written = wr } }) result
    pause_some (Ok x) wrote = said wrote rs f
    pause_some (Err z) wrote = not_said z wrote rs f
