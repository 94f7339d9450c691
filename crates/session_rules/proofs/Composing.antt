-- Parts of a session that are done one after the other.
use Rattle.std.proofs.Common.{◌≡◌, List, [], ◌++◌, refl, sym, ap, ◌∙◌}
use Rattle.std.specs.Prelude.{Option, Some, None}
use Rattle.std.proofs.lemmas.List.{append-nil}
use Rattle.op_keys.specs.declared.order.Exit.{Exit}
use Rattle.session_rules.specs.Outputs.{Output, exits}
use Rattle.session_rules.specs.Outside.{Outside, Did}
use Rattle.session_rules.specs.Parts.{Turn, Part, Does, StopsIn, UsesUp, does, nothing, preceded, go_on, followed, then_do}
use Rattle.session_rules.specs.Scenes.{Scene, expecting}
use Rattle.session_rules.proofs.Doing.{did_more, did_none, did_stops, nothing_done, stopped_longer, then_stopped}
use Rattle.session_rules.proofs.Growing.{exits_append, exits_more}

-- nothing is done
pub does_nothing : (s : Scene) (e : Outside) → Does nothing s s e e
does_nothing s e = record { outputs = []; goes = λ more. refl; did = did_none e }

-- a part was done, and then another
pub does_then : (p q : Part) (s t u : Scene) (a b c : Outside) → Does p s t a b → Does q t u b c → Does (then_do p q) s u a c
does_then p q s t u a b c x y = record {
  outputs = x.outputs ++ y.outputs;
  goes = λ more.
      ap (λ (l : List Exit). then_do p q (expecting l s)) (exits_more x.outputs y.outputs more)
      ∙ ap (λ (w : Turn). followed w q) (x.goes (exits y.outputs ++ more))
      ∙ ap (preceded x.outputs) (y.goes more);
  did = did_more x.outputs y.outputs a b c x.did y.did;
}

-- a part was done, and then another stopped
pub does_stops : (p q : Part) (s t : Scene) (a b c : Outside) → Does p s t a b → StopsIn q t b c → StopsIn (then_do p q) s a c
unfolding then_stopped
does_stops p q s t a b c x y =
    let stop = then_stopped x.outputs y.outputs a b c x.did y.stopped in
    record {
      outputs = x.outputs ++ y.outputs;
      stopped = stop;
      goes = ap (λ (l : List Exit). (then_do p q (expecting l s)).outputs) (exits_append x.outputs y.stopped.done)
          ∙ ap (λ (w : Turn). (followed w q).outputs) (x.goes (exits y.stopped.done))
          ∙ ap (λ (l : List Output). x.outputs ++ l) y.goes;
    }

-- what is left after a part that stopped
abbrev rest_of : Option Scene → Part → List Output
rest_of None q = []
rest_of (Some s) q = (q s).outputs

followed_outputs : (outputs : List Output) (s : Option Scene) (q : Part) → (go_on outputs s q).outputs ≡ outputs ++ rest_of s q
followed_outputs outputs None q = sym (append-nil outputs)
followed_outputs outputs (Some s) q = refl

-- a part stopped before another
pub stops_longer : (p q : Part) (s : Scene) (a b : Outside) → StopsIn p s a b → StopsIn (then_do p q) s a b
unfolding stopped_longer
stops_longer p q s a b x =
    let w = p (expecting (exits x.stopped.done) s) in
    let rest = rest_of w.scene q in
    record {
      outputs = x.outputs ++ rest;
      stopped = stopped_longer x.outputs rest a b x.stopped;
      goes = followed_outputs w.outputs w.scene q ∙ ap (λ (l : List Output). l ++ rest) x.goes;
    }

-- a part was done, whatever is still to come
pub done_stops : (p : Part) (s t : Scene) (a b : Outside) → Does p s t a b → StopsIn p s a b
unfolding did_stops
done_stops p s t a b x = record {
  outputs = x.outputs ++ [];
  stopped = did_stops x.outputs [] a b x.did;
  goes = ap (λ (l : List Exit). (p (expecting l s)).outputs) (sym (append-nil (exits x.outputs))) ∙ ap (λ (w : Turn). w.outputs) (x.goes []) ∙ sym (append-nil x.outputs);
}

-- a part was not begun
pub not_begun : (p : Part) (s : Scene) (e : Outside) → StopsIn p s e e
unfolding nothing_done did_stops
not_begun p s e = record { outputs = (p (expecting [] s)).outputs; stopped = nothing_done (p (expecting [] s)).outputs e; goes = refl }

-- ---- parts of known outputs

-- outputs that don't order anything
pub does_known : (outputs : List Output) (s t : Scene) (e e' : Outside) (p : Part) → exits outputs ≡ [] → ((more : List Exit) → p (expecting more s) ≡ does outputs (expecting more t)) → Did outputs e e' → Does p s t e e'
does_known outputs s t e e' p none goes did = record {
  outputs = outputs;
  goes = λ more. ap (λ (l : List Exit). p (expecting (l ++ more) s)) none ∙ goes more;
  did = did;
}

-- the numbers are used up by the second of two parts
pub does_uses_up : (p q : Part) (s t : Scene) (a b c : Outside) → Does p s t a b → UsesUp q t b c → UsesUp (then_do p q) s a c
does_uses_up p q s t a b c x y = record {
  outputs = x.outputs ++ y.outputs;
  goes =
      ap (λ (l : List Exit). then_do p q (expecting l s)) (exits_append x.outputs y.outputs)
      ∙ ap (λ (w : Turn). followed w q) (x.goes (exits y.outputs))
      ∙ ap (preceded x.outputs) y.goes;
  did = did_more x.outputs y.outputs a b c x.did y.did;
}

-- the numbers are used up by the first
pub uses_up_longer : (p q : Part) (s : Scene) (a b : Outside) → UsesUp p s a b → UsesUp (then_do p q) s a b
uses_up_longer p q s a b x = record { outputs = x.outputs; goes = ap (λ (w : Turn). followed w q) x.goes; did = x.did }
