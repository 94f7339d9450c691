-- A sound program reads and wants only what its report lists.
use Rattle.std.proofs.Common.{◌≡◌, ℕ, ◌+◌, List, [], ◌∷◌, ◌++◌, map, true, Some, refl, ap, ◌∙◌}
use Rattle.std.specs.Prelude.{slice_get}
use Rattle.std.specs.List.{AllByRecursion, list_any}
use Rattle.std.proofs.lemmas.Bool.{or_left, or_right}
use Rattle.value_core.specs.declared.state.State.{State}
use Rattle.value_core.specs.declared.state.Triple.{Triple}
use Rattle.value_core.specs.declared.value.Value.{Value}
use Rattle.op_keys.specs.declared.declarations.OpDecl.{OpDecl}
use Rattle.term_core.specs.Evaluation.{context_of, input_named, eval, Meaning, value_or_unit}
use Rattle.term_core.specs.Fresh.{FreshRun, run_before, fresh_from, fresh}
use Rattle.op_keys.specs.Names.{index_named}
use Rattle.term_core.specs.Runs.{Run}
use Rattle.term_core.specs.World.{World, entry_of}
use Rattle.term_core.specs.declared.program.NodeDecl.{NodeDecl}
use Rattle.term_core.specs.declared.program.Program.{Program}
use Rattle.term_core.proofs.Agreeing.{fresh_local}
use Rattle.term_check.specs.Laws.{IsAtMost, IsReported, Lists, ReadsOnlyReported, WantsOnlyReported}
use Rattle.term_check.specs.Reports.{report_of}
use Rattle.term_check.specs.declared.report.Role.TheVariants as role
use Rattle.term_check.proofs.Inputs.{same_inputs}
use Rattle.term_check.proofs.Named.{input_listed, level_reported, names_in, op_listed}
use Rattle.term_check.proofs.Wants.{all_both, wants_of}

all_turned : {X : Type 0} (P R : X → Type 0) (xs : List X) → ((x : X) → P x → R x) → AllByRecursion P xs → AllByRecursion R xs
all_turned P R [] f h = tt
all_turned P R (x ∷ xs) f h = (f x h.0, all_turned P R xs f h.1)

fresh_inputs : (p : Program) (inputs others : List Value) (w : World) (at : ℕ) (earlier : List State) (ds : List NodeDecl) →
    ((n : List ℕ) → list_any (λ d. names_in role.Input n d.term) ds ≡ true → input_named p.inputs inputs n ≡ input_named p.inputs others n) →
    fresh_from p inputs w at earlier ds ≡ fresh_from p others w at earlier ds
fresh_inputs p inputs others w at earlier [] q = refl
fresh_inputs p inputs others w at earlier (d ∷ ds) q =
    let r : Run = eval (context_of p at inputs earlier w) d.term [] in
    let s : Run = eval (context_of p at others earlier w) d.term [] in
    let e : r ≡ s = ap (λ (m : Meaning). m []) (same_inputs p at inputs others earlier w d.term (λ n u. q n (or_left (names_in role.Input n d.term) (list_any (λ d. names_in role.Input n d.term) ds) u))) in
    let f = fresh_inputs p inputs others w (at + 1) (earlier ++ r.state ∷ []) ds (λ n u. q n (or_right (names_in role.Input n d.term) (list_any (λ d. names_in role.Input n d.term) ds) u)) in
    ap (λ (z : FreshRun). run_before r z) f
    ∙ ap (λ (x : Run). run_before x (fresh_from p others w (at + 1) (earlier ++ x.state ∷ []) ds)) e

fresh_wants : (p : Program) (inputs : List Value) (w : World) (Q : ℕ → Type 0) (at : ℕ) (earlier : List State) (ds : List NodeDecl) →
    ((n : List ℕ) → list_any (λ d. names_in role.Op n d.term) ds ≡ true → Q (index_named 0 (map (λ d. d.name) p.ops) n)) →
    AllByRecursion (λ (t : Triple). Q t.op) (fresh_from p inputs w at earlier ds).wants
fresh_wants p inputs w Q at earlier [] q = tt
fresh_wants p inputs w Q at earlier (d ∷ ds) q =
    let r : Run = eval (context_of p at inputs earlier w) d.term [] in
    all_both (λ (t : Triple). Q t.op) r.wants (fresh_from p inputs w (at + 1) (earlier ++ r.state ∷ []) ds).wants
    (wants_of (context_of p at inputs earlier w) Q d.term (λ n u. q n (or_left (names_in role.Op n d.term) (list_any (λ d. names_in role.Op n d.term) ds) u)) [])
    (fresh_wants p inputs w Q (at + 1) (earlier ++ r.state ∷ []) ds (λ n u. q n (or_right (names_in role.Op n d.term) (list_any (λ d. names_in role.Op n d.term) ds) u)))

pub reads_only_reported : ReadsOnlyReported
unfolding fresh
reads_only_reported p inputs others w v sound same entries =
    fresh_inputs p inputs others w 0 [] p.nodes (λ n u. ap value_or_unit (same (index_named 0 (map (λ d. d.name) p.inputs) n) (input_listed p sound n u)))
    ∙ fresh_local p others w v (all_turned (λ (t : Triple). Lists (report_of p).ops t.op) (λ t. entry_of w t ≡ entry_of v t) (fresh_from p others w 0 [] p.nodes).wants entries
    (fresh_wants p others w (Lists (report_of p).ops) 0 [] p.nodes (λ n u. op_listed p sound n u)))

abbrev IsReportedOp : Program → ℕ → Type 0
IsReportedOp p i = Lists (report_of p).ops i × ((d : OpDecl) → slice_get p.ops i ≡ Some d → IsAtMost (report_of p).level d.level)

pub wants_only_reported : WantsOnlyReported
unfolding fresh
wants_only_reported p inputs w sound =
    all_turned (λ (t : Triple). IsReportedOp p t.op) (IsReported p) (fresh_from p inputs w 0 [] p.nodes).wants (λ t h. record { listed = h.0; level = h.1 })
    (fresh_wants p inputs w (IsReportedOp p) 0 [] p.nodes (λ n u. (op_listed p sound n u, λ d e. level_reported p n d u e)))
