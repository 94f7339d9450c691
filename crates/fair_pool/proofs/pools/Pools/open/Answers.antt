use Rattle.std.proofs.Common.{◌≡◌, ◌<◌, ◌∙◌, map, length, ap, subst, sym, arith}
use Rattle.std.proofs.lemmas.List.{length-map}
use Rattle.std.specs.List.{AllByRecursion}
use Rattle.op_keys.specs.declared.declarations.ClientDecl.{ClientDecl}
use Rattle.fair_pool.specs.Layouts.{Layout}
use Rattle.fair_pool.specs.Sound.{IsLayoutSound}
use Rattle.fair_pool.proofs.Keeps.{rates_positive}
use Rattle.fair_pool.proofs.pools.Pools.open.Goals as goal

pub invariant_of-result : goal.invariant_of-result
invariant_of-result c =
    let l : Layout = record { pools = c.args.pools.now; clients = c.args.clients.now; workers = c.args.workers.now } in
    let e : c.in_ok-declared.declared ≡ l = c.in_ok-declared.ensures ∙ (λ i. record { pools = c.as_slice.ensures i; clients = c.as_slice-2.ensures i; workers = c.as_slice-3.ensures i }) in
    let clients = ap (λ x. length x.clients) e in
    let workers = ap (λ x. length x.workers) e in
    let k = c.in_ok-waiting.ensures in
    let n = ap (λ w. length w.tickets) k in
    let m = ap (λ w. w.spare) k in
    let rates : c.in_ok-rates.rates.items ≡ map (λ d. d.rate) c.args.clients.now = c.in_ok-rates.ensures ∙ ap (map (λ (d : ClientDecl). d.rate)) c.as_slice-4.ensures in
    record {
      layout = subst IsLayoutSound (sym e) c.requires;
      next = omega (arith, c.in_ok-next.next.ok.0, c.in_ok-next.ensures.len, c.len-2.ensures);
      rates = ap length rates ∙ length-map c.args.clients.now (λ d. d.rate) ∙ sym clients;
      paused = omega (arith, c.in_ok-paused.paused.ok.0, c.in_ok-paused.ensures.len, c.len-3.ensures);
      loads = omega (arith, c.in_ok-loads.loads.ok.0, c.in_ok-loads.ensures.len, c.len-4.ensures);
      positive = subst (AllByRecursion (λ r. 0 < r)) (sym rates) (rates_positive c.args.pools.now c.args.clients.now c.requires.clients);
      pools = ap (λ w. w.pools) k ∙ c.len.ensures ∙ sym (ap (λ x. length x.pools) e);
      hints = omega arith;
    }
