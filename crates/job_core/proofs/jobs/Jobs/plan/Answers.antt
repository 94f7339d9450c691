use Rattle.std.proofs.Common.{◌≡◌, ◌+◌, ◌^◌, ◌<◌, ◌≤◌, length, sym, ap, ◌∙◌, subst, arith}
use Rattle.core_rules.proofs.Referred.{settling_refers}
use Rattle.core_rules.specs.Laws.{Rising, Ticketed}
use Rattle.core_rules.specs.Parts.{core_of}
use Rattle.job_core.specs.Own.{own_work}
use Rattle.core_rules.specs.Replies.{with_numbers}
use Rattle.job_core.specs.Plans.{IsPlanFor}
use Rattle.core_rules.specs.Own.{rows_made}
use Rattle.job_core.specs.State.{bare}
use Rattle.job_core.specs.Wants.{lost_of, triples_in}
use Rattle.job_core.proofs.PlanMade.{Found, declared_in, found_drops, found_lost, found_news, found_next, found_none, found_settled, lost_after}
use Rattle.job_core.proofs.jobs.Jobs.plan.Goals as goal
use Rattle.job_core.proofs.jobs.Jobs.plan.Goals.{After-len}

-- what is found for the plan
found : (c : After-len) → Found (triples_in c.args.wants.now) c.args.own.now c.args.self.now.work (rows_made c.args.change.now c.args.rows.now.rows) c.args.now c.in_ok-live.live.jobs c.in_ok-drops.field-0.drops.items c.in_ok-drops.field-0.lost.items c.in_ok-news.news
found c =
    let w = c.args.self.now.work in
    let ws = triples_in c.args.wants.now in
    let js = c.in_ok-live.live.jobs in
    let ops : c.as_slice.result.now ≡ w.program.ops = c.as_slice.ensures ∙ ap (λ s. s.work.program.ops) c.self.view_is in
    record {
      made = c.requires.own;
      before = subst (λ s. Rising s.work.jobs) c.self.view_is c.all-before.ensures.rising;
      tickets = subst (λ s. Ticketed (bare s.work)) c.self.view_is c.self.invariant.ticketed;
      few = subst (λ s. s.work.next ≤ 2 ^ 62) c.self.view_is c.self.invariant.next;
      jobs = c.in_ok-live.ensures;
      rising = c.all-jobs.ensures.rising;
      one_each = c.all-jobs.ensures.one_each;
      rises = c.requires.wants.rising;
      declared = declared_in (length w.program.ops) c.args.wants.now c.requires.wants.declared;
      drops_is = c.in_ok-drops.ensures.drops;
      lost_is = c.in_ok-drops.ensures.lost ∙ ap (λ os. lost_of ws os js) ops;
      news_is = c.in_ok-news.ensures.triples;
      hints = c.in_ok-news.ensures.hints;
    }

pub returns-then-self-len-clause-used : goal.returns-then-self-len-clause-used
returns-then-self-len-clause-used c = λ _.
    let w = c.args.self.now.work in
    let ws = triples_in c.args.wants.now in
    let rows = rows_made c.args.change.now c.args.rows.now.rows in
    let js = c.in_ok-live.live.jobs in
    let f = found (goal.at.returns-then-self-len-clause-used c).After-len in
    let number : c.self.inside.next ≡ w.next = ap (λ s. s.work.next) c.self.view_is in
    let most = f.few in
    let l : 2 ^ 62 < w.next + length c.in_ok-news.news = omega (arith, c.len.ensures, c.if-self-len.true) in
    found_none ws c.args.own.now w rows c.args.now js c.in_ok-drops.field-0.drops.items c.in_ok-drops.field-0.lost.items c.in_ok-news.news f l

pub returns-clause-plan : goal.returns-clause-plan
returns-clause-plan c =
    let w = c.args.self.now.work in
    let ws = triples_in c.args.wants.now in
    let rows = rows_made c.args.change.now c.args.rows.now.rows in
    let js = c.in_ok-live.live.jobs in
    let drops = c.in_ok-drops.field-0.drops.items in
    let lost = c.in_ok-drops.field-0.lost.items in
    let news = c.in_ok-news.news in
    let f = found (goal.at.returns-clause-plan c).After-len in
    let number : c.self.inside.next ≡ w.next = ap (λ s. s.work.next) c.self.view_is in
    let most = f.few in
    let l : w.next + length news ≤ 2 ^ 62 = omega (arith, c.len.ensures, c.if-self-len.false) in
    let settled = found_settled ws c.args.own.now w rows c.args.now js drops lost news f l in
    let n = found_next ws c.args.own.now w rows c.args.now js drops lost news f in
    rw (c.from_vec.ensures, c.from_vec-2.ensures) (record {
      settled = settled;
      referred = settling_refers ws (core_of (own_work c.args.own.now c.args.now w) rows c.args.now) _ settled;
      signals = c.in_ok-signals.ensures ∙ (λ i. with_numbers (c.own_mark.ensures c.args.now i) ((c.as_slice-2.ensures.value ∙ lost_after ws c.args.own.now w rows c.args.now js drops lost news f) i));
      next = omega (arith, c.len-2.ensures);
    })

pub returns-clause-fits : goal.returns-clause-fits
returns-clause-fits c =
    let w = c.args.self.now.work in
    let ws = triples_in c.args.wants.now in
    let rows = rows_made c.args.change.now c.args.rows.now.rows in
    let js = c.in_ok-live.live.jobs in
    let f = found (goal.at.returns-clause-fits c).After-len in
    let number : c.self.inside.next ≡ w.next = ap (λ s. s.work.next) c.self.view_is in
    let most = f.few in
    let l : w.next + length c.in_ok-news.news ≤ 2 ^ 62 = omega (arith, c.len.ensures, c.if-self-len.false) in
    rw (c.from_vec.ensures, c.from_vec-2.ensures) (subst (IsPlanFor _) (sym c.in_ok-reserve.ensures.ok) (record {
      own = c.requires.own;
      time = c.requires.time;
      drops = found_drops ws c.args.own.now w rows c.args.now js c.in_ok-drops.field-0.drops.items c.in_ok-drops.field-0.lost.items c.in_ok-news.news f;
      lost = found_lost ws c.args.own.now w rows c.args.now js c.in_ok-drops.field-0.drops.items c.in_ok-drops.field-0.lost.items c.in_ok-news.news f;
      news = found_news ws c.args.own.now w rows c.args.now js c.in_ok-drops.field-0.drops.items c.in_ok-drops.field-0.lost.items c.in_ok-news.news f l;
      fits = omega (arith, c.len-3.ensures);
    }))
