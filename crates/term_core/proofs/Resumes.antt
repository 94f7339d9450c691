-- How runs follow one another in an evaluator.
use Rattle.std.proofs.Common.{◌≡◌, ℕ, ◌+◌, List, [], ◌∷◌, ◌++◌, map, sum, refl, ap, sym, ◌∙◌, subst, append_assoc, append-nil, arith}
use Rattle.std.proofs.lemmas.List.Sums.{sum_by-cons}
use Rattle.std.specs.Prelude.{Result, Ok, Err, IfOk}
use Rattle.std.specs.List.{flat_map}
use Rattle.value_core.specs.declared.value.Value.{Value}
use Rattle.value_core.specs.declared.state.State.{State}
use Rattle.value_core.specs.declared.state.Triple.{Triple}
use Rattle.term_core.specs.declared.evaluation.Evaluator.{Evaluator}
use Rattle.term_core.specs.declared.gathering.StateFold.{StateFold}
use Rattle.term_core.specs.Evaluation.{Context, Meaning}
use Rattle.term_core.specs.Evaluators.{Runs, within, with_wants}
use Rattle.term_core.specs.Gathering.{added, finished, start}
use Rattle.term_core.specs.Runs.{Run, stated, visited, turned, after, follow, follow_both, then_do, then_both, together}
use Rattle.term_core.specs.States.{both, gated}
use Rattle.term_core.specs.World.{World}
use Rattle.term_core.proofs.Gathered.{resumed, gathered_from}

pub if_ok : {A B : Type 0} {P Q : A → Type 0} (r : Result A B) → ((x : A) → P x → Q x) → IfOk r P → IfOk r Q
if_ok (Ok x) f p = f x p
if_ok (Err e) f p = tt

pub no_more : {E : Type 0} (e : Evaluator E) → e ≡ with_wants [] e
no_more e = ap (λ (ws : List Triple). record e { wants = ws }) (sym (append-nil e.wants))

pub twice_more : {E : Type 0} (e : Evaluator E) (xs ys : List Triple) → with_wants ys (with_wants xs e) ≡ with_wants (xs ++ ys) e
twice_more e xs ys = ap (λ (ws : List Triple). record e { wants = ws }) (append_assoc e.wants xs ys)

-- more wants change no meaning
pub same_within : {E : Type 0} (world : E → World) (meaning : Context → Meaning) (e e1 : Evaluator E) (ws : List Triple) → e1 ≡ with_wants ws e →
    within world e1 meaning ≡ within world e meaning
same_within world meaning e e1 ws is = ap (λ x. within world x meaning) is

-- a state alone
pub stated_runs : {E : Type 0} (e : Evaluator E) (k : ℕ) (s : State) → Runs (stated s) e e k k s
stated_runs e k s = record { returned = refl; wanted = no_more e; counted = omega arith }

-- a run that is equal
pub runs_as : {E : Type 0} {r r' : Run} {e e1 : Evaluator E} {k k1 : ℕ} {s : State} → r ≡ r' → Runs r e e1 k k1 s → Runs r' e e1 k k1 s
runs_as {E} {r} {r'} {e} {e1} {k} {k1} {s} is f = subst (λ x. Runs x e e1 k k1 s) is f

-- the visit itself
pub visited_runs : {E : Type 0} {r : Run} {e e1 : Evaluator E} {k k0 k1 : ℕ} {s : State} → k0 ≡ k + 1 → Runs r e e1 k0 k1 s → Runs (visited r) e e1 k k1 s
visited_runs is f = record { returned = f.returned; wanted = f.wanted; counted = omega (arith, is, f.counted) }

-- another state of the same run
pub turned_runs : {E : Type 0} {r : Run} {e e1 : Evaluator E} {k k1 : ℕ} {s s' : State} (turn : State → State) → s' ≡ turn s → Runs r e e1 k k1 s → Runs (turned turn r) e e1 k k1 s'
turned_runs turn is f = record { returned = is ∙ ap turn f.returned; wanted = f.wanted; counted = f.counted }

-- a run after another
pub after_runs : {E : Type 0} {r r' : Run} {e e1 e2 : Evaluator E} {k k1 k2 : ℕ} {s t u : State} (made : State → State) → u ≡ made t →
    Runs r e e1 k k1 s → Runs r' e1 e2 k1 k2 t → Runs (after r made r') e e2 k k2 u
after_runs {E} {r} {r'} {e} made is f g = record {
  returned = is ∙ ap made g.returned;
  wanted = g.wanted ∙ (ap (with_wants r'.wants) f.wanted ∙ twice_more e r.wants r'.wants);
  counted = omega (arith, f.counted, g.counted);
}

-- what takes no tick, after so many
pub untimed : {E : Type 0} {r : Run} {e e1 : Evaluator E} {s : State} (k : ℕ) → Runs r e e1 0 0 s → Runs r e e1 k k s
untimed k f = record { returned = f.returned; wanted = f.wanted; counted = omega (arith, f.counted) }

-- what follows a state
pub then_runs : {E : Type 0} {r : Run} {e e1 e2 : Evaluator E} {k k1 k2 : ℕ} {s u : State} (next : Value → Run) →
    Runs r e e1 k k1 s → Runs (follow s next) e1 e2 k1 k2 u → Runs (then_do r next) e e2 k k2 u
then_runs {E} {r} {e} {e1} {e2} {k} {k1} {k2} {s} {u} next f g =
    after_runs (λ x. x) refl f (subst (λ x. Runs (follow x next) e1 e2 k1 k2 u) f.returned g)

-- what follows two states
pub then_both_runs : {E : Type 0} {r r' : Run} {e e1 e2 e3 : Evaluator E} {k k1 k2 k3 : ℕ} {s t u : State} (next : Value → Value → Run) →
    Runs r e e1 k k1 s → Runs r' e1 e2 k1 k2 t → Runs (follow_both s t next) e2 e3 k2 k3 u → Runs (then_both r r' next) e e3 k k3 u
then_both_runs {E} {r} {r'} {e} {e1} {e2} {e3} {k} {k1} {k2} {k3} {s} {t} {u} next f g h =
    after_runs (λ x. x) refl f (after_runs (λ x. x) refl g
    (subst (λ x. Runs (follow_both x r'.state next) e2 e3 k2 k3 u) f.returned (subst (λ x. Runs (follow_both s x next) e2 e3 k2 k3 u) g.returned h)))

-- two runs, and a state of both
pub pair_runs : {E : Type 0} {r r' : Run} {e e1 e2 : Evaluator E} {k k1 k2 : ℕ} {s t u : State} (made : List Value → State) →
    Runs r e e1 k k1 s → Runs r' e1 e2 k1 k2 t → u ≡ both (s ∷ t ∷ []) made → Runs (together (r ∷ r' ∷ []) made) e e2 k k2 u
pair_runs {E} {r} {r'} {e} {s = s} {t = t} made f g is = record {
  returned = is ∙ (ap (λ x. both (x ∷ t ∷ []) made) f.returned ∙ ap (λ x. both (r.state ∷ x ∷ []) made) g.returned);
  wanted = g.wanted ∙ (ap (with_wants r'.wants) f.wanted ∙ (twice_more e r.wants r'.wants ∙ ap (λ (ws : List Triple). with_wants (r.wants ++ ws) e) (sym (append-nil r'.wants))));
  counted = omega (arith, f.counted, g.counted);
}

-- a term without parts
pub leaf_runs : {E : Type 0} (e : Evaluator E) {k k' : ℕ} {s s' : State} → k' ≡ k + 1 → s' ≡ s → Runs (visited (stated s)) e e k k' s'
leaf_runs e is same = record { returned = same; wanted = no_more e; counted = omega (arith, is) }

-- a function of the value, whose application is the visit
pub mapped_runs : {E : Type 0} {r : Run} {e e1 : Evaluator E} {k k1 k2 : ℕ} {s u : State} (turn : State → State) → k2 ≡ k1 + 1 → u ≡ turn s → Runs r e e1 k k1 s →
    Runs (visited (turned turn r)) e e1 k k2 u
mapped_runs turn is same f = record { returned = same ∙ ap turn f.returned; wanted = f.wanted; counted = omega (arith, is, f.counted) }

-- the second of two states, if the first is fine
pub gate_runs : {E : Type 0} {r r' : Run} {e e1 e2 : Evaluator E} {k k1 k2 : ℕ} {s t u : State} → u ≡ gated s t →
    Runs r e e1 k k1 s → Runs r' e1 e2 k1 k2 t → Runs (after r (gated r.state) r') e e2 k k2 u
gate_runs {E} {r} {t = t} is f g = after_runs (gated r.state) (is ∙ ap (λ x. gated x t) f.returned) f g

-- what a loop has so far, with the runs that are left, is all runs
pub record Resumes {E : Type 0} (fold : StateFold) (now : Evaluator E) (at : ℕ) (left : List Run) (e : Evaluator E) (k : ℕ) (runs : List Run) : Type 0 where
  pub states : resumed fold (map (λ r. r.state) left) ≡ resumed start (map (λ r. r.state) runs)
  pub wants : with_wants (flat_map (λ r. r.wants) left) now ≡ with_wants (flat_map (λ r. r.wants) runs) e
  pub ticks : at + sum (map (λ r. r.ticks) left) ≡ k + sum (map (λ r. r.ticks) runs)

pub resumes_first : {E : Type 0} (e : Evaluator E) (k : ℕ) (runs : List Run) → Resumes start e k runs e k runs
resumes_first e k runs = record { states = refl; wants = refl; ticks = refl }

pub resumes_step : {E : Type 0} {fold : StateFold} {now now' e : Evaluator E} {at at' k : ℕ} {r : Run} {left runs : List Run} {s : State} →
    Resumes fold now at (r ∷ left) e k runs → Runs r now now' at at' s → Resumes (added fold s) now' at' left e k runs
resumes_step {E} {fold} {now} {now'} {e} {at} {at'} {k} {r} {left} {runs} {s} h f = record {
  states = ap (λ x. resumed (added fold x) (map (λ q. q.state) left)) f.returned ∙ h.states;
  wants = ap (with_wants (flat_map (λ q. q.wants) left)) f.wanted ∙ (twice_more now r.wants (flat_map (λ q. q.wants) left) ∙ h.wants);
  ticks = let more = sum_by-cons (λ (x : ℕ). x) r.ticks (map (λ (q : Run). q.ticks) left) in omega (arith, f.counted, h.ticks, more);
}

-- the bound values and the context stay
pub resumes_same : {E : Type 0} {fold : StateFold} {now e : Evaluator E} {at k : ℕ} {left runs : List Run} (world : E → World) (meaning : Context → Meaning) →
    Resumes fold now at left e k runs → within world now meaning ≡ within world e meaning
resumes_same world meaning h = ap (λ x. within world x meaning) h.wants

pub resumes_last : {E : Type 0} {fold : StateFold} {now e : Evaluator E} {at k : ℕ} {runs : List Run} {s : State} (made : List Value → State) →
    Resumes fold now at [] e k runs → s ≡ finished fold made → Runs (together runs made) e now k at s
resumes_last {E} {fold} {now} {e} {at} {k} {runs} made h is = record {
  returned = is ∙ gathered_from (map (λ r. r.state) runs) made refl h.states;
  wanted = no_more now ∙ h.wants;
  counted = omega (arith, h.ticks);
}
