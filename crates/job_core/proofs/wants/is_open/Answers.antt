use Rattle.std.proofs.Common.{◌≡◌, ℕ, Bool, true, not, ◌&&◌, ◌||◌, Option, Some, None, sym, ap, ◌∙◌}
use Rattle.std.specs.Prelude.{option_map, slice_get}
use Rattle.value_core.specs.declared.state.Triple.{Triple}
use Rattle.value_core.proofs.Basics.{some_is}
use Rattle.core_rules.specs.Settling.{live_on}
use Rattle.core_rules.specs.declared.jobs.Job.{Job}
use Rattle.term_core.specs.Counts.{is_wanted}
use Rattle.job_core.specs.Keys.{key_rank}
use Rattle.job_core.specs.Walks.{is_least}
use Rattle.job_core.specs.Wants.{is_open, stays_found, triples_in}
use Rattle.job_core.proofs.Merging.{live_is_on, open_least}
use Rattle.job_core.proofs.Walks.{first_get, least_passed}
use Rattle.job_core.proofs.wants.is_open.Goals as goal
use Rattle.job_core.proofs.wants.is_open.Goals.{After-is_least}

-- the triple of the index, and its live job
here : (c : After-is_least) → slice_get (triples_in c.args.wants.now) c.args.index ≡ Some c.index-wants-index.result.0
here c = first_get c.args.wants.now c.args.index c.index-wants-index.result c.requires.within c.index-wants-index.is

least : (c : After-is_least) (b : Bool) → c.is_least.result ≡ b → is_least (triples_in c.args.wants.now) c.index-wants-index.result.0 ≡ b
least c b e = some_is _ _ (sym (ap (option_map (is_least (triples_in c.args.wants.now))) (here c)) ∙ c.is_least.ensures) ∙ e

on : (c : After-is_least) (o : Option Job) → o ≡ live_on c.args.walk.now.live.now.jobs c.index-wants-index.result.0.op c.index-wants-index.result.0.key → c.is_least.result ≡ true →
    option_map (is_open (triples_in c.args.wants.now) c.args.walk.now.live.now.jobs) (slice_get (triples_in c.args.wants.now) c.args.index) ≡ Some (not (stays_found (triples_in c.args.wants.now) o))
on c o e l =
    let ws = triples_in c.args.wants.now in
    ap (option_map (is_open ws c.args.walk.now.live.now.jobs)) (here c)
    ∙ ap Some (open_least ws c.args.walk.now.live.now.jobs c.index-wants-index.result.0 ∙ (λ i. least c true l i && not (stays_found ws (sym e i))))

pub has-requires-clause-later : goal.has-requires-clause-later
has-requires-clause-later c =
    let a = (goal.at.has-requires-clause-later c).After-is_least in
    let w = c.index-wants-index.result in
    let k = ap (λ (v : Triple × ℕ). live_on c.args.walk.now.live.now.jobs v.0.op v.0.key) c.index-wants-index.is ∙ sym c.in-Some.ensures.job in
    least_passed (triples_in c.args.wants.now) c.args.index w.0 c.in-Some.job.now.triple c.requires.rising (here a) (least a true c.if-not-is_least.false)
    (live_is_on c.args.walk.now.live.now.jobs w.0.op w.0.key c.in-Some.job.now k)

pub returns-then-is_none-clause-opens : goal.returns-then-is_none-clause-opens
returns-then-is_none-clause-opens c =
    let k = c.in-Some.ensures.job ∙ sym (ap (λ (v : Triple × ℕ). live_on c.args.walk.now.live.now.jobs v.0.op v.0.key) c.index-wants-index.is) in
    on (goal.at.returns-then-is_none-clause-opens c).After-is_least (Some c.in-Some.job.now) k c.if-not-is_least.false
    ∙ ap (λ b. Some (not (b || is_wanted (triples_in c.args.wants.now) c.in-Some.job.now.triple))) (c.is_none.ensures ∙ ap not c.if-is_none.true)
    ∙ ap (λ b. Some (not b)) (sym c.has.ensures.wanted)

pub returns-else-is_none-clause-opens : goal.returns-else-is_none-clause-opens
returns-else-is_none-clause-opens c =
    let k = c.in-Some.ensures.job ∙ sym (ap (λ (v : Triple × ℕ). live_on c.args.walk.now.live.now.jobs v.0.op v.0.key) c.index-wants-index.is) in
    on (goal.at.returns-else-is_none-clause-opens c).After-is_least (Some c.in-Some.job.now) k c.if-not-is_least.false
    ∙ ap (λ b. Some (not (b || is_wanted (triples_in c.args.wants.now) c.in-Some.job.now.triple))) (c.is_none.ensures ∙ ap not c.if-is_none.false)
    ∙ ap Some (sym c.if-is_none.false)

pub returns-in-None-clause-opens : goal.returns-in-None-clause-opens
returns-in-None-clause-opens c =
    let k = c.in-None.ensures.job ∙ sym (ap (λ (v : Triple × ℕ). live_on c.args.walk.now.live.now.jobs v.0.op v.0.key) c.index-wants-index.is) in
    on (goal.at.returns-in-None-clause-opens c).After-is_least None k c.if-not-is_least.false

-- where the walk over the live jobs stands
walked : (c : After-is_least) → option_map (λ t. key_rank t.op t.key c.args.walk.now.live.now.jobs) (slice_get (triples_in c.args.wants.now) c.args.index) ≡ Some c.on-job.new.self.passed
walked c =
    ap (option_map (λ t. key_rank t.op t.key c.args.walk.now.live.now.jobs)) (here c)
    ∙ ap Some (ap (λ (v : Triple × ℕ). key_rank v.0.op v.0.key c.args.walk.now.live.now.jobs) c.index-wants-index.is ∙ sym c.on-job.ensures.passed)

pub returns-then-is_none-clause-walked : goal.returns-then-is_none-clause-walked
returns-then-is_none-clause-walked c = walked (goal.at.returns-then-is_none-clause-walked c).After-is_least

pub returns-else-is_none-clause-walked : goal.returns-else-is_none-clause-walked
returns-else-is_none-clause-walked c = walked (goal.at.returns-else-is_none-clause-walked c).After-is_least

pub returns-in-None-clause-walked : goal.returns-in-None-clause-walked
returns-in-None-clause-walked c = walked (goal.at.returns-in-None-clause-walked c).After-is_least
