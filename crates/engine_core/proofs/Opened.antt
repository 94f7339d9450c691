-- An opening, put together of the opened parts, their evaluation and the settled jobs.
use Rattle.std.proofs.Common.{◌≡◌, ◌⊎◌, inl, inr, Err, ℕ, ◌^◌, min, ◌+◌, ◌<◌, ◌≤◌, true, List, [], ◌∷◌, length, Option, Some, refl, ap, sym, ◌∙◌, subst, arith}
use Rattle.std.proofs.lemmas.Bool.{and_parts}
use Rattle.std.specs.List.{AllByRecursion, list_all}
use Rattle.std.specs.FinMap.{entries}
use Rattle.op_keys.specs.declared.declarations.ClientDecl.{ClientDecl}
use Rattle.op_keys.specs.declared.declarations.PoolDecl.{PoolDecl}
use Rattle.op_keys.specs.declared.declarations.WorkerDecl.{WorkerDecl}
use Rattle.op_keys.specs.declared.level.Level.{Level}
use Rattle.term_core.specs.Limits.{IsClientWithin, IsPoolWithin, IsWorkerWithin}
use Rattle.term_core.specs.Soundness.{IsSound, is_pool}
use Rattle.term_core.specs.declared.program.Program.{Program}
use Rattle.fair_pool.specs.Layouts.{pool_number}
use Rattle.fair_pool.specs.Sound.{IsClientSound, IsLayoutSound, IsWorkerSound}
use Rattle.core_rules.specs.Core.{CoreState, layout_of}
use Rattle.core_rules.specs.Entries.{world}
use Rattle.core_rules.specs.Openings.{Durable, opened}
use Rattle.engine_rules.specs.Openings.{first_work}
use Rattle.core_rules.specs.Parts.{Work, core_of}
use Rattle.sched_rows.specs.Rows.{Kept}
use Rattle.term_core.specs.Counts.{in_order}
use Rattle.value_core.specs.declared.state.Triple.{Triple}
use Rattle.core_rules.specs.Entries.{fresh_of, states as states_in, wants}
use Rattle.term_core.specs.Fresh.{fresh}
use Rattle.core_rules.specs.Laws.{Ticketed, WithinCapacity}
use Rattle.core_rules.specs.Openings.{IsOpenable, opening_reply, start}
use Rattle.core_rules.proofs.Bounded.{latest_within}
use Rattle.core_rules.specs.declared.events.Refusal.{Refusal}
use Rattle.core_rules.specs.declared.events.Refusal.TheVariants as refusal
use Rattle.job_core.specs.Answers.{IsUsed}
use Rattle.job_core.specs.State.{JobsState}
use Rattle.job_core.specs.declared.answers.SettleFault.{SettleFault}
use Rattle.job_core.specs.declared.answers.SettleFault.TheVariants as fault
use Rattle.engine_rules.proofs.KeptRows.{wants_are_declared}
use Rattle.engine_core.specs.inside.Bare.{AreParts}
use Rattle.engine_core.specs.inside.Planning.{reason}
use Rattle.core_rules.specs.Parts.{dressed}
use Rattle.core_rules.specs.Replies.{changed_from, new_conflicts, next_alone}
use Rattle.core_rules.specs.Settling.{settle_for, wanted}
use Rattle.core_rules.specs.declared.done.Done.{Done}
use Rattle.core_rules.specs.declared.notes.Note.TheVariants as note
use Rattle.core_rules.proofs.Invariant.{invariant_at_opening}
use Rattle.core_rules.proofs.Programs.{opened_program}
use Rattle.core_rules.proofs.Settling.{same_settled}
use Rattle.engine_rules.specs.Openings.{opened_parts}
use Rattle.engine_rules.specs.Proper.{IsProperDurable}
use Rattle.engine_rules.proofs.BoundedStates.{bounds_at_opening}
use Rattle.engine_rules.proofs.RepliedBefore.{agreement_lasts, opening_replies_before}
use Rattle.engine_rules.proofs.StepParts.{opened_by_parts, unopened_by_parts}
use Rattle.visit_rules.specs.Traces.{traces}
use Rattle.visit_rules.specs.Visits.{all_wants, states}
use Rattle.visit_rules.specs.declared.visit.Visit.{Visit}
use Rattle.engine_core.specs.Evaluated.{trees_of}
use Rattle.engine_core.specs.inside.Keeping.{AreKept}
use Rattle.engine_core.specs.declared.engine.opening.FirstReply.{FirstReply}
use Rattle.engine_core.proofs.Drafted.{agree_self}
use Rattle.visit_rules.proofs.AllNodes.{each_node}
use Rattle.job_core.proofs.Served.{pool_found}
use Rattle.engine_core.proofs.SameTrees.{same_trees}
use Rattle.engine_core.proofs.Trees.{states_of, wants_of}
use Rattle.engine_core.specs.Answers.{IsOpening, IsUnopened}
use Rattle.engine_core.specs.inside.Opening.{AreOpened, CanSettleFirst, IsFirst, IsFirstReply, IsFirstSettled, IsFirstUnsettled, bare_of, first_done, state_of_parts}
use Rattle.engine_core.specs.declared.stored.OpenedParts.{OpenedParts}

-- the opened parts have the world of the opened state
pub world_opened : (program : Program) (durable : Durable) (threshold : Option Level) (reading : ℕ) (o : OpenedParts) → AreOpened program durable threshold reading o →
    world (bare_of o) ≡ world (opened program durable threshold reading)
world_opened program durable threshold reading o h = λ i. world (core_of (h.jobs i).work (h.rows.rows i) (h.moment i))

pub fresh_opened : (program : Program) (durable : Durable) (threshold : Option Level) (reading : ℕ) (o : OpenedParts) → AreOpened program durable threshold reading o →
    fresh program o.inputs.items (world (bare_of o)) ≡ fresh_of (opened program durable threshold reading)
fresh_opened program durable threshold reading o h = λ i. fresh program (h.inputs i) (world_opened program durable threshold reading o h i)

-- the terms that were evaluated are those of the opened state
pub ticks_opened : (p q : Program) (durable : Durable) (threshold : Option Level) (reading : ℕ) (o : OpenedParts) (before after : ℕ) → p ≡ q → AreOpened p durable threshold reading o →
    after ≡ before + (fresh p o.inputs.items (world (bare_of o))).ticks → after ≡ before + (fresh_of (opened q durable threshold reading)).ticks
ticks_opened p q durable threshold reading o before after e h t =
    t ∙ (λ i. before + (fresh_opened p durable threshold reading o h i).ticks) ∙ (λ i. before + (fresh_of (opened (e i) durable threshold reading)).ticks)

-- ---- pools of a sound program

pool_there : (p : Program) (n : List ℕ) → is_pool p n ≡ true → pool_number p.pools n < length p.pools
pool_there p n e = let l = pool_found 0 p.pools n e in omega arith

holds_so : (ds : List PoolDecl) → AllByRecursion IsPoolWithin ds → AllByRecursion (λ (d : PoolDecl). d.hold ≤ 86400000) ds
holds_so [] a = tt
holds_so (d ∷ ds) a = (a.0.hold, holds_so ds a.1)

clients_so : (p : Program) (ds : List ClientDecl) → AllByRecursion IsClientWithin ds → list_all (λ (d : ClientDecl). is_pool p d.pool) ds ≡ true → AllByRecursion (IsClientSound p.pools) ds
clients_so p [] a e = tt
clients_so p (d ∷ ds) a e =
    let parts = and_parts (is_pool p d.pool) (list_all (λ (x : ClientDecl). is_pool p x.pool) ds) e in
    (record { pool = pool_there p d.pool parts.0; some_rate = a.0.some_rate; rate = a.0.rate }, clients_so p ds a.1 parts.1)

workers_so : (p : Program) (ds : List WorkerDecl) → AllByRecursion IsWorkerWithin ds → list_all (λ (d : WorkerDecl). is_pool p d.pool) ds ≡ true → AllByRecursion (IsWorkerSound p.pools) ds
workers_so p [] a e = tt
workers_so p (d ∷ ds) a e =
    let parts = and_parts (is_pool p d.pool) (list_all (λ (x : WorkerDecl). is_pool p x.pool) ds) e in
    (record { pool = pool_there p d.pool parts.0; some_capacity = a.0.some_capacity; capacity = a.0.capacity }, workers_so p ds a.1 parts.1)

pub layout_sound : (p : Program) → IsSound p → IsLayoutSound (layout_of p)
layout_sound p h = record {
  few_pools = h.within.few_pools;
  few_clients = h.within.few_clients;
  few_workers = h.within.few_workers;
  pools_apart = h.within.pools_apart;
  clients_apart = h.within.clients_apart;
  workers_apart = h.within.workers_apart;
  pools = holds_so p.pools h.within.pools;
  clients = clients_so p p.clients h.within.clients h.clients;
  workers = workers_so p p.workers h.within.workers h.workers;
}

-- ---- the parts before they are settled

module _ (program : Program) (durable : Durable) (threshold : Option Level) (reading : ℕ) (o : OpenedParts) (is : AreOpened program durable threshold reading o) where
  pub moment_opened : IsOpenable durable → o.moment ≤ 2 ^ 60
  moment_opened h = subst (λ n. n ≤ 2 ^ 60) (sym is.moment) (latest_within (min reading (2 ^ 60)) durable.next (entries durable.rows) (omega arith) h.rows)

  pub parts_opened : IsSound program → AreParts program (bare_of o)
  parts_opened sound =
      let none : WithinCapacity program [] = λ w. omega arith in
      let queued : Ticketed (core_of (first_work program durable threshold) o.rows.rows o.moment) = refl in
      record {
        program = sym (ap (λ (j : JobsState). j.work.program) is.jobs);
        limits = sound.within;
        within = subst (λ (j : JobsState). WithinCapacity j.work.program j.work.jobs) (sym is.jobs) none;
        ticketed = subst (λ (j : JobsState). Ticketed (core_of j.work o.rows.rows o.moment)) (sym is.jobs) queued;
      }

-- ---- what isn't opened

pub unopened_by : (f : SettleFault) (r : Refusal) (N : Type 0) → r ≡ reason f → (IsUsed {T = List ℕ} (Err f) → N) → (r ≡ refusal.NoMemory) ⊎ ((r ≡ refusal.NumbersUsed) × N)
unopened_by fault.NumbersUsed r N e u = inr (e, u tt)
unopened_by fault.NoMemory r N e u = inl e

-- memory is out
pub unopened_memory : (start : Option CoreState) (r : Refusal) → r ≡ refusal.NoMemory → IsUnopened start r
unopened_memory start r is = inl is

-- ---- the trees of an opening

-- what was evaluated before settling is the evaluation of the state
trees_opened : (program : Program) (durable : Durable) (threshold : Option Level) (reading : ℕ) (s : CoreState) → start program durable threshold reading ≡ Some s → trees_of (opened program durable threshold reading) ≡ trees_of s
unfolding start
trees_opened program durable threshold reading s e =
    let o : CoreState = opened program durable threshold reading in
    let same = same_settled (wanted o) o s e in
    (λ i. traces (sym same.program i) (sym same.inputs i) (world o))
    ∙ sym (same_trees s.program s.inputs (world s) (world o) (agreement_lasts (world o) o s s.version (agree_self (world o) (wants o)) e))

-- ---- the opening

-- what an opening is made of
pub record OpenedPieces (program : Program) (durable : Durable) (threshold : Option Level) (reading : ℕ) (o : OpenedParts) (vs : List Visit) : Type 0 where
  pub sound : IsSound program
  pub openable : IsOpenable durable
  pub proper : IsProperDurable durable
  pub parts : AreOpened program durable threshold reading o
  pub trees : vs ≡ traces program o.inputs.items (world (bare_of o))

pub pieces_of : (p q : Program) (durable : Durable) (threshold : Option Level) (reading : ℕ) (o : OpenedParts) (vs : List Visit) → p ≡ q → IsSound p → IsOpenable durable → IsProperDurable durable → AreOpened p durable threshold reading o →
    vs ≡ traces p o.inputs.items (world (bare_of o)) → OpenedPieces q durable threshold reading o vs
pieces_of p q durable threshold reading o vs e sound openable proper parts trees = record {
  sound = subst IsSound e sound;
  openable = openable;
  proper = proper;
  parts = subst (λ (x : Program). AreOpened x durable threshold reading o) e parts;
  trees = trees ∙ (λ i. traces (e i) o.inputs.items (world (bare_of o)));
}

module _ (program : Program) (durable : Durable) (threshold : Option Level) (reading : ℕ) (o : OpenedParts) (trees : List Visit) (is : OpenedPieces program durable threshold reading o trees) where
  abbrev first : CoreState
  first = opened program durable threshold reading

  trees_first : trees ≡ trees_of first
  trees_first = is.trees ∙ (λ i. traces program (is.parts.inputs i) (world_opened program durable threshold reading o is.parts i))

  wants_first : in_order (all_wants trees) ≡ wanted first
  wants_first = ap in_order (ap all_wants trees_first ∙ wants_of first)

  pub nodes_opened : length trees ≡ length program.nodes
  nodes_opened = ap (λ (vs : List Visit). length vs) is.trees ∙ each_node program o.inputs.items (world (bare_of o))

  pub can_settle_first : CanSettleFirst trees o
  can_settle_first =
      let ops : length program.ops ≡ length o.jobs.work.program.ops = sym (ap (λ (j : JobsState). length j.work.program.ops) is.parts.jobs) in
      let declared = wants_are_declared first is.sound in
      record {
        time = moment_opened program durable threshold reading o is.parts is.openable;
        declared = subst (λ n. AllByRecursion (λ (t : Triple). t.op < n) (in_order (all_wants trees))) ops
            (subst (λ (ts : List Triple). AllByRecursion (λ (t : Triple). t.op < length program.ops) ts) (sym wants_first) declared);
      }

  parts_first : settle_for (in_order (all_wants trees)) (bare_of o) ≡ opened_parts program durable threshold reading
  parts_first = λ i. settle_for (wants_first i) (core_of (is.parts.jobs i).work (is.parts.rows.rows i) (is.parts.moment i))

  -- the state of the opening, with these jobs
  abbrev state_with : Work → CoreState
  state_with w = dressed o.inputs.items 1 (core_of w o.rows.rows o.moment)

  pub unopened_so : (r : Refusal) → IsFirstUnsettled trees o r → IsUnopened (start program durable threshold reading) r
  unopened_so r (inl memory) = inl memory
  unopened_so r (inr used) = inr (used.0, unopened_by_parts program durable threshold reading (sym parts_first ∙ used.1))

  module _ (w : Work) (h : settle_for (in_order (all_wants trees)) (bare_of o) ≡ Some (core_of w o.rows.rows o.moment)) where
    opened_so : start program durable threshold reading ≡ Some (state_with w)
    opened_so =
        opened_by_parts program durable threshold reading w (sym parts_first ∙ h ∙ (λ i. Some (core_of w (is.parts.rows.rows i) (is.parts.moment i))))
        ∙ sym (λ i. Some (dressed (is.parts.inputs i) 1 (core_of w (is.parts.rows.rows i) (is.parts.moment i))))

    reply_so : (f : FirstReply) → IsFirstReply trees f → first_done f w.next ≡ opening_reply (state_with w)
    reply_so f r =
        (λ i. record { version = 1; note = note.Plain; changed = changed_so i; conflicts = conflicts_so i; signals = []; delta = next_alone w.next })
        ∙ sym (opening_replies_before program durable threshold reading (state_with w) opened_so)
      where
        changed_so : f.changed ≡ changed_from 0 [] (states_in first)
        changed_so = r.changed ∙ ap (changed_from 0 []) (ap states trees_first ∙ states_of first)

        conflicts_so : f.conflicts ≡ new_conflicts [] (wants first)
        conflicts_so = r.conflicts ∙ ap (new_conflicts []) (ap all_wants trees_first ∙ wants_of first)

    kept_so : AreKept program (state_with w) o.rows trees
    kept_so = record {
      program = sym (opened_program program durable threshold reading (state_with w) opened_so);
      lawful = record {
        invariant = invariant_at_opening program durable threshold reading (state_with w) is.sound.within is.openable opened_so;
        bounds = bounds_at_opening program durable threshold reading (state_with w) is.sound is.sound.within is.proper opened_so;
      };
      expiries = is.parts.rows.expiries;
      trees = trees_first ∙ trees_opened program durable threshold reading (state_with w) opened_so;
    }

  module _ (r : OpenedParts) (h : IsFirstSettled trees o r) where
    same_state : state_of_parts r ≡ state_with r.jobs.work
    same_state = λ i. dressed (h.inputs i) 1 (core_of r.jobs.work (h.rows i).rows (h.moment i))

    pub first_kept : AreKept program (state_of_parts r) r.rows trees
    first_kept =
        subst (λ (s : CoreState). AreKept program s r.rows trees) (sym same_state)
        (subst (λ (k : Kept). AreKept program (state_with r.jobs.work) k trees) (sym h.rows) (kept_so r.jobs.work h.settled))

    pub first_opening : (f : FirstReply) (s : CoreState) (d : Done) → IsFirstReply trees f → IsFirst r f s d → IsOpening (start program durable threshold reading) s d
    first_opening f s d reply i =
        let is_state : s ≡ state_with r.jobs.work = i.core ∙ same_state in
        record {
          state = opened_so r.jobs.work h.settled ∙ ap Some (sym is_state);
          reply = i.done ∙ reply_so r.jobs.work h.settled f reply ∙ ap opening_reply (sym is_state);
        }
