-- The loop over orders: how far its part is done.
use Rattle.std.proofs.Common.{◌≡◌, ℕ, zero, suc, List, [], ◌++◌, refl, sym, ap, ◌∙◌, append_assoc}
use Rattle.std.specs.Prelude.{Option, Some, None}
use Rattle.op_keys.specs.declared.order.Exit.{Exit}
use Rattle.session_rules.specs.Outputs.{Output, exits}
use Rattle.session_rules.specs.Outside.{Outside, Did}
use Rattle.session_rules.specs.Parts.{Turn, Part, Does, Leads, StopsIn, UsesUp, preceded, followed}
use Rattle.session_rules.specs.Scenes.{Scene, expecting}
use Rattle.session_rules.specs.Steps.{Counting, free_worker, next_order, one_order, orders, pause_outputs}
use Rattle.session_rules.proofs.Composing.{does_known, stops_longer, uses_up_longer}
use Rattle.session_rules.proofs.Doing.{did_more, did_none, then_stopped}
use Rattle.session_rules.proofs.Growing.{exits_append, exits_more}

preceded_twice : (xs ys : List Output) (w : Turn) → preceded xs (preceded ys w) ≡ preceded (xs ++ ys) w
preceded_twice xs ys w = ap (λ (l : List Output). record { outputs = l; scene = w.scene }) (sym (append_assoc xs ys w.outputs))

-- the beginning
pub leads_start : (p : Part) (s : Scene) (e : Outside) → Leads p p s s e e
leads_start p s e = record { outputs = []; goes = λ more. refl; did = did_none e }

-- up to a second part, and from there up to a third
pub leads_then : (p q r : Part) (s t u : Scene) (a b c : Outside) → Leads p q s t a b → Leads q r t u b c → Leads p r s u a c
leads_then p q r s t u a b c x y = record {
  outputs = x.outputs ++ y.outputs;
  goes = λ more.
      ap (λ (l : List Exit). p (expecting l s)) (exits_more x.outputs y.outputs more) ∙ x.goes (exits y.outputs ++ more) ∙ ap (preceded x.outputs) (y.goes more)
      ∙ preceded_twice x.outputs y.outputs (r (expecting more u));
  did = did_more x.outputs y.outputs a b c x.did y.did;
}

-- up to a part that was done
pub leads_does : (p q : Part) (s t u : Scene) (a b c : Outside) → Leads p q s t a b → Does q t u b c → Does p s u a c
leads_does p q s t u a b c x y = record {
  outputs = x.outputs ++ y.outputs;
  goes = λ more. ap (λ (l : List Exit). p (expecting l s)) (exits_more x.outputs y.outputs more) ∙ x.goes (exits y.outputs ++ more) ∙ ap (preceded x.outputs) (y.goes more);
  did = did_more x.outputs y.outputs a b c x.did y.did;
}

-- up to a part that stopped
pub leads_stops : (p q : Part) (s t : Scene) (a b c : Outside) → Leads p q s t a b → StopsIn q t b c → StopsIn p s a c
unfolding then_stopped
leads_stops p q s t a b c x y = record {
  outputs = x.outputs ++ y.outputs;
  stopped = then_stopped x.outputs y.outputs a b c x.did y.stopped;
  goes = ap (λ (l : List Exit). (p (expecting l s)).outputs) (exits_append x.outputs y.stopped.done) ∙ ap (λ (w : Turn). w.outputs) (x.goes (exits y.stopped.done)) ∙ ap (λ (l : List Output). x.outputs ++ l) y.goes;
}

-- up to a part that used up the numbers
pub leads_uses_up : (p q : Part) (s t : Scene) (a b c : Outside) → Leads p q s t a b → UsesUp q t b c → UsesUp p s a c
leads_uses_up p q s t a b c x y = record {
  outputs = x.outputs ++ y.outputs;
  goes = ap (λ (l : List Exit). p (expecting l s)) (exits_append x.outputs y.outputs) ∙ x.goes (exits y.outputs) ∙ ap (preceded x.outputs) y.goes;
  did = did_more x.outputs y.outputs a b c x.did y.did;
}

-- ---- orders

module _ (counting : Counting) (n : ℕ) (s : Scene) where
  -- the next order, if a worker has a pick
  next_is : (w : ℕ) (xs : List Exit) → free_worker s ≡ Some w → orders counting (suc n) (expecting xs s) ≡ followed (one_order counting w (expecting xs s)) (orders counting n)
  next_is w xs free = ap (next_order counting (orders counting n) (expecting xs s)) free

  -- it was run
  pub order_leads : (w : ℕ) (t : Scene) (a b : Outside) → free_worker s ≡ Some w → Does (one_order counting w) s t a b → Leads (orders counting (suc n)) (orders counting n) s t a b
  order_leads w t a b free x = record {
    outputs = x.outputs;
    goes = λ more. next_is w (exits x.outputs ++ more) free ∙ ap (λ (v : Turn). followed v (orders counting n)) (x.goes more);
    did = x.did;
  }

  -- it stopped
  pub order_stops : (w : ℕ) (a b : Outside) → free_worker s ≡ Some w → StopsIn (one_order counting w) s a b → StopsIn (orders counting (suc n)) s a b
  order_stops w a b free x =
      let y = stops_longer (one_order counting w) (orders counting n) s a b x in
      record { outputs = y.outputs; stopped = y.stopped; goes = ap (λ (v : Turn). v.outputs) (next_is w (exits y.stopped.done) free) ∙ y.goes }

  -- it used up the numbers
  pub order_uses_up : (w : ℕ) (a b : Outside) → free_worker s ≡ Some w → UsesUp (one_order counting w) s a b → UsesUp (orders counting (suc n)) s a b
  order_uses_up w a b free x =
      let y = uses_up_longer (one_order counting w) (orders counting n) s a b x in
      record { outputs = y.outputs; goes = next_is w (exits y.outputs) free ∙ y.goes; did = y.did }

  -- no worker has a pick
  pub orders_done : (e : Outside) → free_worker s ≡ None → Does (orders counting (suc n)) s s e e
  orders_done e free = record { outputs = []; goes = λ more. ap (next_order counting (orders counting n) (expecting more s)) free; did = did_none e }

no_exits : (o : Option ℕ) → exits (pause_outputs o) ≡ []
no_exits None = refl
no_exits (Some w) = refl

-- after the last order that is run: `paused`, if a worker still has a pick
pub orders_paused : (counting : Counting) (s : Scene) (e e' : Outside) → Did (pause_outputs (free_worker s)) e e' → Does (orders counting zero) s s e e'
orders_paused counting s e e' did = does_known (pause_outputs (free_worker s)) s s e e' (orders counting zero) (no_exits (free_worker s)) (λ more. refl) did
