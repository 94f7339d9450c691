-- What a plan holds makes of the jobs what settling makes of them.
use Rattle.std.proofs.Common.{◌≡◌, ℕ, ◌+◌, ◌^◌, ◌<◌, ◌≤◌, List, [], ◌∷◌, length, Some, None, refl, sym, ap, ◌∙◌, subst, arith, suc}
use Rattle.std.specs.List.{AllByRecursion}
use Rattle.value_core.specs.declared.state.Triple.{Triple}
use Rattle.sched_rows.specs.Rows.{Rows}
use Rattle.core_rules.specs.Laws.{OneEach, Rising, Ticketed}
use Rattle.core_rules.specs.Parts.{Work, core_of}
use Rattle.core_rules.specs.Settling.{settle_for}
use Rattle.core_rules.specs.declared.jobs.Job.{Job}
use Rattle.core_rules.specs.Own.{IsMade, own_change}
use Rattle.job_core.specs.Own.{own_work}
use Rattle.job_core.specs.Plans.{CanCreate, CanLose, CanWithdraw, created_all, lost_all, triples_of, withdrawn_all}
use Rattle.job_core.specs.State.{bare, core_at}
use Rattle.job_core.specs.Wants.{HasHint, TriplesRise, drops_of, fresh_of, lost_of, triples_in}
use Rattle.core_rules.specs.declared.own.Own.{Own}
use Rattle.job_core.specs.declared.plan.NewJob.{NewJob}
use Rattle.job_core.proofs.OwnMade.{OwnKept, own_kept}
use Rattle.job_core.proofs.Planned.{can_create, can_drop, can_lose, created_next}
use Rattle.job_core.proofs.Settled.{marked_work, next_same, settled_none, settled_some}

length-triples : (ns : List NewJob) → length (triples_of ns) ≡ length ns
length-triples [] = refl
length-triples (n ∷ ns) = ap suc (length-triples ns)

pub declared_in : (n : ℕ) (ps : List (Triple × ℕ)) → AllByRecursion (λ (p : Triple × ℕ). p.0.op < n) ps → AllByRecursion (λ (t : Triple). t.op < n) (triples_in ps)
declared_in n [] h = tt
declared_in n (p ∷ ps) h = (h.0, declared_in n ps h.1)

-- what is found of the jobs after an own change, where these are their list
pub record Found (ws : List Triple) (o : Own) (w : Work) (rows : Rows) (now : ℕ) (js : List Job) (drops lost : List ℕ) (news : List NewJob) : Type 0 where
  pub made : IsMade (own_change (core_at w now) o)
  pub before : Rising w.jobs
  pub tickets : Ticketed (bare w)
  pub few : w.next ≤ 2 ^ 62
  pub jobs : js ≡ (own_work o now w).jobs
  pub rising : Rising js
  pub one_each : OneEach js
  pub rises : TriplesRise ws
  pub declared : AllByRecursion (λ (t : Triple). t.op < length w.program.ops) ws
  pub drops_is : drops ≡ drops_of ws js
  pub lost_is : lost ≡ lost_of ws w.program.ops js
  pub news_is : triples_of news ≡ fresh_of ws (core_of (record w { jobs = js }) rows now)
  pub hints : AllByRecursion (HasHint w.program.ops) news

module _ (ws : List Triple) (o : Own) (w : Work) (rows : Rows) (now : ℕ) (js : List Job) (drops lost : List ℕ) (news : List NewJob) (f : Found ws o w rows now js drops lost news) where
  abbrev pub after : Work
  after = own_work o now w

  kept : OwnKept w after
  kept = own_kept o w now f.before f.tickets f.made

  rising : Rising after.jobs
  rising = subst Rising f.jobs f.rising

  one_each : OneEach after.jobs
  one_each = subst OneEach f.jobs f.one_each

  news_after : triples_of news ≡ fresh_of ws (core_of after rows now)
  news_after = f.news_is ∙ (λ i. fresh_of ws (core_of (record w { program = sym kept.program i; jobs = f.jobs i }) rows now))

  drops_after : drops ≡ drops_of ws after.jobs
  drops_after = f.drops_is ∙ ap (drops_of ws) f.jobs

  pub lost_after : lost ≡ lost_of ws after.program.ops after.jobs
  lost_after = f.lost_is ∙ (λ i. lost_of ws (let p = sym kept.program i in p.ops) (f.jobs i))

  marked_after : lost_all lost (withdrawn_all drops after) ≡ marked_work ws after rows now
  marked_after = λ i. lost_all (lost_after i) (withdrawn_all (drops_after i) after)

  count : length (fresh_of ws (core_of after rows now)) ≡ length news
  count = sym (ap length news_after) ∙ length-triples news

  pub found_settled : w.next + length news ≤ 2 ^ 62 → settle_for ws (core_of after rows now) ≡ Some (core_of (created_all now (triples_of news) (lost_all lost (withdrawn_all drops after))) rows now)
  found_settled l =
      let k = kept in
      let n = k.next in
      let c = count in
      settled_some ws after rows now rising k.ticketed one_each f.rises (omega arith)
      ∙ sym (λ i. Some (core_of (created_all now (news_after i) (marked_after i)) rows now))

  pub found_none : 2 ^ 62 < w.next + length news → settle_for ws (core_of after rows now) ≡ None
  found_none l =
      let k = kept in
      let n = k.next in
      let c = count in
      let few = f.few in
      settled_none ws after rows now rising k.ticketed one_each f.rises (omega arith) (omega arith)

  pub found_next : (created_all now (triples_of news) (lost_all lost (withdrawn_all drops after))).next ≡ w.next + length news
  found_next =
      let k = kept in
      let n = k.next in
      let a = created_next now (triples_of news) (lost_all lost (withdrawn_all drops after)) in
      let b = ap (λ v. v.next) marked_after in
      let d = next_same ws after rows now rising k.ticketed in
      let e = length-triples news in
      omega arith

  pub found_drops : CanWithdraw drops after
  found_drops = subst (λ ns. CanWithdraw ns after) (sym drops_after) (can_drop ws after rising)

  pub found_lost : CanLose lost (withdrawn_all drops after)
  found_lost =
      let k = kept in
      subst (λ ns. CanLose ns (withdrawn_all drops after)) (sym lost_after)
      (subst (λ ns. CanLose (lost_of ws after.program.ops after.jobs) (withdrawn_all ns after)) (sym drops_after) (can_lose ws after rows now rising k.ticketed))

  pub found_news : w.next + length news ≤ 2 ^ 62 → CanCreate now news (lost_all lost (withdrawn_all drops after))
  found_news l =
      let k = kept in
      let n = k.next in
      subst (CanCreate now news) (sym marked_after)
      (can_create ws after rows now news rising k.ticketed one_each f.rises
      (subst (λ p. AllByRecursion (λ (t : Triple). t.op < length p.ops) ws) (sym k.program) f.declared) news_after
      (subst (λ p. AllByRecursion (HasHint p.ops) news) (sym k.program) f.hints) (omega arith))
