use Rattle.std.proofs.Common.{◌≡◌, ℕ, ◌+◌, ◌++◌, suc, drop, filter, Bool, sym, subst, ap, ◌∙◌, arith}
use Rattle.std.specs.Prelude.{option_map}
use Rattle.std.specs.List.{AllByRecursion}
use Rattle.value_core.specs.declared.state.Triple.{Triple}
use Rattle.value_core.proofs.Basics.{some_is}
use Rattle.core_rules.proofs.Helpers.{all_push}
use Rattle.core_rules.specs.Own.{rows_made}
use Rattle.core_rules.specs.Parts.{core_of}
use Rattle.job_core.specs.Keys.{key_rank}
use Rattle.job_core.specs.Plans.{triples_of}
use Rattle.job_core.specs.Wants.{HasHint, is_fresh, triples_in}
use Rattle.job_core.proofs.Keys.{map_length}
use Rattle.job_core.proofs.Merging.{get_some, news_over, news_step, walked_next}
use Rattle.job_core.proofs.Walks.{first_get}
use Rattle.job_core.proofs.jobs.Jobs.news.Goals as goal
use Rattle.job_core.proofs.jobs.Jobs.news.Goals.{else-is_fresh, then-is_fresh+in_ok-new_job+in_ok-push}

pub loop-index-preserved : goal.loop-index-preserved
loop-index-preserved c =
    let ts = triples_in c.args.wants.now in
    let i = c.loop-index.index in
    let next : i + 1 ≡ suc i = omega arith in
    let inv = c.loop-index.invariant in
    let js = c.args.live.now.jobs in
    let w = c.args.self.now.work in
    let rows = rows_made c.args.rows.now.change.now c.args.rows.now.rows.now.rows in
    let p : Triple → Bool = is_fresh ts (core_of (record w { jobs = js }) rows c.args.rows.now.moment) in
    let h = get_some ts i (omega (arith, c.loop-index-test.true, map_length (λ (q : Triple × ℕ). q.0) c.args.wants.now)) in
    let t = h.0 in
    let fresh : p t ≡ c.is_fresh.result =
    ap (λ l. is_fresh ts (core_of (record w { jobs = l.jobs }) rows c.args.rows.now.moment) t) (sym inv.live)
    ∙ some_is _ _ (sym (ap (option_map (is_fresh ts (core_of (record w { jobs = c.loop-index.walk.live.now.jobs }) rows c.args.rows.now.moment))) h.1) ∙ c.is_fresh.ensures.fresh) in
    let passed : c.is_fresh.new.walk.passed ≡ key_rank t.op t.key js =
    sym (some_is _ _ (sym (ap (option_map (λ u. key_rank u.op u.key c.loop-index.walk.live.now.jobs)) h.1) ∙ c.is_fresh.ensures.walked))
    ∙ ap (λ l. key_rank t.op t.key l.jobs) inv.live in
    let live = ap (λ l. l.now) c.is_fresh.ensures.live ∙ inv.live in
    let walked = walked_next ts js i (i + 1) t c.is_fresh.new.walk.passed next c.requires.wants.rising h.1 passed in
    elim c.if-is_fresh.branch [
      | then-is_fresh+in_ok-new_job+in_ok-push b ↦
          let is : b.index-wants-index.result.0 ≡ t = some_is _ _ (sym (first_get c.args.wants.now i b.index-wants-index.result c.loop-index-test.true b.index-wants-index.is) ∙ h.1) in
          record {
            live = live;
            walked = walked;
            triples = ap (λ ns. triples_of ns ++ filter p (drop (i + 1) ts)) (b.news-is ∙ b.in_ok-push.ensures.ok)
                ∙ news_step p ts i (i + 1) t next h.1 c.loop-index.news inv.triples b.in_ok-new_job.field-0 (b.in_ok-new_job.ensures.triple ∙ ap (λ (q : Triple × ℕ). q.0) (sym b.index-wants-index.is) ∙ is) (fresh ∙ b.if-is_fresh.true);
            hints = subst (AllByRecursion (HasHint w.program.ops)) (sym (b.news-is ∙ b.in_ok-push.ensures.ok)) (all_push (HasHint w.program.ops) c.loop-index.news b.in_ok-new_job.field-0 inv.hints b.in_ok-new_job.ensures.hint);
          }
      | else-is_fresh b ↦ record {
        live = live;
        walked = walked;
        triples = ap (λ ns. triples_of ns ++ filter p (drop (i + 1) ts)) b.news-is ∙ news_over p ts i (i + 1) t next h.1 c.loop-index.news inv.triples (fresh ∙ b.if-is_fresh.false);
        hints = subst (AllByRecursion (HasHint w.program.ops)) (sym b.news-is) inv.hints;
      }
    ]
