-- The equations of `eval`, a kind of term at a time.
use Rattle.std.proofs.Common.{◌≡◌, ℕ, List, [], ◌∷◌, map, refl, ap, sym, ◌∙◌}
use Rattle.value_core.specs.declared.function.Fun.{Fun}
use Rattle.term_core.specs.declared.gathering.Collected.TheVariants as collected
use Rattle.term_core.specs.declared.program.Term.{Term, Term-F, roll-Term, map-Term, fold-roll-Term}
use Rattle.term_core.specs.declared.program.Term.TheVariants as term
use Rattle.term_core.specs.declared.context.Binding.{Binding}
use Rattle.term_core.specs.Evaluation.{Context, Meaning, innermost, input_named, node_named, map_run, pair_run, bind_run, list_run, outcome_run, gate_run, all_run, build_run, output_run, term_step, eval}
use Rattle.term_core.specs.Gathering.{made_by}
use Rattle.term_core.specs.Runs.{stated, visited}
use Rattle.term_core.specs.declared.program.FailKind.{FailKind}
use Rattle.value_core.specs.declared.state.State.TheVariants.{Fine, Failed}
use Rattle.value_core.specs.declared.value.Value.{Value}
use Rattle.value_core.specs.declared.value.Value.TheVariants as value
use Rattle.term_core.specs.States.{caught, observed}

layer : (context : Context) (x : Term-F Term) (t : Term) → roll-Term x ≡ t → (bound : List Binding) → eval context t bound ≡ term_step context (map-Term Term Meaning (eval context) x) bound
layer context x t e bound = ap (λ u. eval context u bound) (sym e) ∙ ap (λ f. f bound) (fold-roll-Term Meaning (term_step context) x)

pub eval_return_is : (context : Context) (v : Value) (bound : List Binding) → eval context (term.Return v) bound ≡ visited (stated (Fine v))
eval_return_is context v bound = layer context (Term-F.Return v) (term.Return v) (term.rolls-Return v) bound

pub eval_fail_is : (context : Context) (k : FailKind) (m : List ℕ) (bound : List Binding) → eval context (term.Fail k m) bound ≡ visited (stated (Failed context.node m))
eval_fail_is context k m bound = layer context (Term-F.Fail k m) (term.Fail k m) (term.rolls-Fail k m) bound

pub eval_input_is : (context : Context) (n : List ℕ) (bound : List Binding) → eval context (term.Input n) bound ≡ visited (stated (Fine (input_named context.program.inputs context.inputs n)))
eval_input_is context n bound = layer context (Term-F.Input n) (term.Input n) (term.rolls-Input n) bound

pub eval_node_is : (context : Context) (n : List ℕ) (bound : List Binding) → eval context (term.Node n) bound ≡ visited (stated (node_named context.program.nodes context.earlier n))
eval_node_is context n bound = layer context (Term-F.Node n) (term.Node n) (term.rolls-Node n) bound

pub eval_var_is : (context : Context) (n : List ℕ) (bound : List Binding) → eval context (term.Var n) bound ≡ visited (stated (Fine (innermost value.Unit bound n)))
eval_var_is context n bound = layer context (Term-F.Var n) (term.Var n) (term.rolls-Var n) bound

pub eval_map_is : (context : Context) (f : Fun) (t : Term) (bound : List Binding) → eval context (term.Map f t) bound ≡ map_run context f (eval context t) bound
eval_map_is context f t bound = layer context (Term-F.Map f t) (term.Map f t) (term.rolls-Map f t) bound

pub eval_pair_is : (context : Context) (a b : Term) (bound : List Binding) → eval context (term.Pair a b) bound ≡ pair_run context (eval context a) (eval context b) bound
eval_pair_is context a b bound = layer context (Term-F.Pair a b) (term.Pair a b) (term.rolls-Pair a b) bound

pub eval_bind_is : (context : Context) (n : List ℕ) (t u : Term) (bound : List Binding) → eval context (term.Bind n t u) bound ≡ bind_run n (eval context t) (eval context u) bound
eval_bind_is context n t u bound = layer context (Term-F.Bind n t u) (term.Bind n t u) (term.rolls-Bind n t u) bound

pub eval_list_map_is : (context : Context) (n : List ℕ) (t u : Term) (bound : List Binding) → eval context (term.ListMap n t u) bound ≡ list_run (made_by collected.List context.node) n (eval context t) (eval context u) bound
eval_list_map_is context n t u bound = layer context (Term-F.ListMap n t u) (term.ListMap n t u) (term.rolls-ListMap n t u) bound

pub eval_list_iter_is : (context : Context) (n : List ℕ) (t u : Term) (bound : List Binding) → eval context (term.ListIter n t u) bound ≡ list_run (made_by collected.Unit context.node) n (eval context t) (eval context u) bound
eval_list_iter_is context n t u bound = layer context (Term-F.ListIter n t u) (term.ListIter n t u) (term.rolls-ListIter n t u) bound

pub eval_catch_is : (context : Context) (t : Term) (bound : List Binding) → eval context (term.Catch t) bound ≡ outcome_run caught (eval context t) bound
eval_catch_is context t bound = layer context (Term-F.Catch t) (term.Catch t) (term.rolls-Catch t) bound

pub eval_state_is : (context : Context) (t : Term) (bound : List Binding) → eval context (term.State t) bound ≡ outcome_run observed (eval context t) bound
eval_state_is context t bound = layer context (Term-F.State t) (term.State t) (term.rolls-State t) bound

pub eval_gate_is : (context : Context) (on t : Term) (bound : List Binding) → eval context (term.Gate on t) bound ≡ gate_run (eval context on) (eval context t) bound
eval_gate_is context on t bound = layer context (Term-F.Gate on t) (term.Gate on t) (term.rolls-Gate on t) bound

pub eval_build_is : (context : Context) (op : List ℕ) (k : Term) (bound : List Binding) → eval context (term.Build op k) bound ≡ build_run context op (eval context k) bound
eval_build_is context op k bound = layer context (Term-F.Build op k) (term.Build op k) (term.rolls-Build op k) bound

pub eval_output_is : (context : Context) (op : List ℕ) (k v : Term) (bound : List Binding) → eval context (term.Output op k v) bound ≡ output_run context op (eval context k) (eval context v) bound
eval_output_is context op k v bound = layer context (Term-F.Output op k v) (term.Output op k v) (term.rolls-Output op k v) bound

pub map_apply : {X : Type 0} (f : X → Meaning) (xs : List X) (bound : List Binding) → map (λ m. m bound) (map f xs) ≡ map (λ x. f x bound) xs
map_apply f [] bound = refl
map_apply f (x ∷ xs) bound = ap (λ rs. f x bound ∷ rs) (map_apply f xs bound)

pub eval_all_is : (context : Context) (ts : List Term) (bound : List Binding) → eval context (term.All ts) bound ≡ all_run (map (λ t. eval context t bound) ts)
eval_all_is context ts bound = layer context (Term-F.All ts) (term.All ts) (term.rolls-All ts) bound ∙ ap (λ rs. all_run rs) (map_apply (eval context) ts bound)
