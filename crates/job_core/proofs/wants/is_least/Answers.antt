use Rattle.std.proofs.Common.{◌≡◌, ℕ, suc, ◌-◌, not, Some, sym, ap, ◌∙◌, arith}
use Rattle.std.proofs.lemmas.Bool.{eq-eqb}
use Rattle.std.specs.Prelude.{option_map, slice_get}
use Rattle.value_core.specs.declared.state.Triple.{Triple}
use Rattle.core_rules.specs.Settling.{on_key}
use Rattle.job_core.specs.Walks.{is_least}
use Rattle.job_core.specs.Wants.{triples_in}
use Rattle.job_core.proofs.Walks.{first_get, least_at, least_at_first}
use Rattle.job_core.proofs.wants.is_least.Goals as goal

pub returns-then-index-eq0 : goal.returns-then-index-eq0
returns-then-index-eq0 c =
    let ts = triples_in c.args.wants.now in
    let w = c.index-wants-index.result in
    let here : slice_get ts c.args.index ≡ Some w.0 = first_get c.args.wants.now c.args.index w c.requires.within c.index-wants-index.is in
    ap (option_map (is_least ts)) here
    ∙ ap Some (least_at_first ts w.0 c.requires.rising (ap (slice_get ts) (sym c.if-index-eq0.true) ∙ here) ∙ sym (eq-eqb c.args.index 0 c.if-index-eq0.true))

pub returns-else-index-eq0 : goal.returns-else-index-eq0
returns-else-index-eq0 c =
    let ts = triples_in c.args.wants.now in
    let w = c.index-wants-index.result in
    let p = c.index-wants-index-else-index-eq0.result in
    let within = c.requires.within in
    let here : slice_get ts c.args.index ≡ Some w.0 = first_get c.args.wants.now c.args.index w within c.index-wants-index.is in
    let before : slice_get ts (c.args.index - 1) ≡ Some p.0 = first_get c.args.wants.now (c.args.index - 1) p (omega arith) c.index-wants-index-else-index-eq0.is in
    let next : suc (c.args.index - 1) ≡ c.args.index = omega (arith, c.if-index-eq0.false) in
    let on : c.is_on.result ≡ on_key w.0.op w.0.key p.0 = c.is_on.ensures
    ∙ (λ i. let v : Triple × ℕ = sym c.index-wants-index.is i in let q : Triple × ℕ = sym c.index-wants-index-else-index-eq0.is i in on_key v.0.op v.0.key q.0) in
    ap (option_map (is_least ts)) here
    ∙ ap Some (least_at ts (c.args.index - 1) p.0 w.0 c.requires.rising before (ap (slice_get ts) next ∙ here) ∙ ap not (sym on))
