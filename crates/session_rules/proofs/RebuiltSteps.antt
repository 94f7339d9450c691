-- A worked run: a row is to be made anew, and is kept in view meanwhile where its operation is latched. States are named by their versions.
use Rattle.std.proofs.Common.{◌≡◌, ℕ, true, false, List, [], ◌∷◌, Some, None, refl, ap, ◌∙◌, arith}
use Rattle.std.specs.Prelude.{codes, slice_get, slice_index}
use Rattle.std.specs.Char.{encode_utf8}
use Rattle.std.specs.Str.{chars, is_utf8}
use Rattle.std.specs.FinMap.{empty, from_entries, get-from_entries}
use Rattle.value_core.specs.declared.value.Value.TheVariants as value
use Rattle.value_core.specs.declared.state.State.TheVariants.{Fine, Active}
use Rattle.value_core.specs.declared.state.Stage.TheVariants.{Ready, Running}
use Rattle.op_keys.specs.Orders.{order_fits}
use Rattle.term_core.specs.declared.program.Program.{Program}
use Rattle.term_core.specs.Fresh as nodes
use Rattle.term_core.specs.Evaluation.{fits, context_of, triple_of}
use Rattle.value_core.specs.declared.state.State.{State}
use Rattle.term_core.specs.World.{World, entry_of}
use Rattle.sched_rows.specs.declared.row.Row.{Row}
use Rattle.sched_rows.specs.RowKeys.{row_key, row_key_cmp_total}
use Rattle.core_rules.specs.declared.events.What.TheVariants as what
use Rattle.core_rules.specs.declared.events.Refusal.TheVariants as refusal
use Rattle.core_rules.specs.declared.notes.Ending.TheVariants as ending
use Rattle.core_rules.specs.declared.notes.Note.TheVariants as note
use Rattle.core_rules.specs.Changes.{rebuild_row}
use Rattle.core_rules.specs.Core.{CoreState}
use Rattle.core_rules.specs.Openings.{start}
use Rattle.core_rules.specs.declared.done.Done.{Done}
use Rattle.core_rules.specs.Replies.{next_alone}
use Rattle.core_rules.specs.Steps.{Accepted, Refused, answer, step}
use Rattle.core_rules.proofs.WorkedRuns.{Evaluated, answered, at, ends, keyed, nothing_stored, opens, quiet}
use Rattle.session_rules.proofs.Builds.{Built, build_is, build_of, builds_are, changed_other, changed_same, runs_from, texts_differ}
use Rattle.session_rules.proofs.BuiltParts.{built_job, built_op, built_order, built_ticket}

-- ---- the pipeline

abbrev pub pipeline : Program
pipeline = record {
  version = 1;
  inputs = [];
  pools = record { name = codes "p"; hold = 0 } ∷ [];
  clients = record { name = codes "c"; pool = codes "p"; rate = 1 } ∷ [];
  workers = record { name = codes "w"; pool = codes "p"; capacity = 1 } ∷ [];
  ops = built_op (codes "plain") (codes "c") false false 1 0 ∷ built_op (codes "latch") (codes "c") false true 1 0 ∷ [];
  nodes = record { name = codes "a"; term = build_of (codes "plain") (codes "k") } ∷ record { name = codes "b"; term = build_of (codes "latch") (codes "k") } ∷ [];
}

pub short_0 : (at : ℕ) (earlier : List State) (w : World) → fits (slice_get pipeline.ops (triple_of (context_of pipeline at [] earlier w) (codes "plain") (codes "k") []).op) (triple_of (context_of pipeline at [] earlier w) (codes "plain") (codes "k") []) ≡ true
unfolding order_fits
short_0 at earlier w = refl

pub short_1 : (at : ℕ) (earlier : List State) (w : World) → fits (slice_get pipeline.ops (triple_of (context_of pipeline at [] earlier w) (codes "latch") (codes "k") []).op) (triple_of (context_of pipeline at [] earlier w) (codes "latch") (codes "k") []) ≡ true
unfolding order_fits
short_1 at earlier w = refl

abbrev node_0 : Built pipeline []
node_0 = record { decl = record { name = codes "a"; term = build_of (codes "plain") (codes "k") }; triple = record { op = 0; key = codes "k"; value = [] }; is = λ at earlier w. build_is (context_of pipeline at [] earlier w) (codes "plain") (codes "k") (short_0 at earlier w) }

abbrev node_1 : Built pipeline []
node_1 = record { decl = record { name = codes "b"; term = build_of (codes "latch") (codes "k") }; triple = record { op = 1; key = codes "k"; value = [] }; is = λ at earlier w. build_is (context_of pipeline at [] earlier w) (codes "latch") (codes "k") (short_1 at earlier w) }

abbrev all_nodes : List (Built pipeline [])
all_nodes = node_0 ∷ node_1 ∷ []

pub fresh_is : (w : World) → nodes.fresh pipeline [] w ≡ runs_from pipeline [] 0 all_nodes (entry_of w)
unfolding nodes.fresh
fresh_is w = builds_are pipeline [] w 0 [] all_nodes

abbrev pub all : Evaluated
all = record { program = pipeline; inputs = []; run = runs_from pipeline [] 0 all_nodes; is = fresh_is }

-- ---- rows

abbrev pub row_1 : Row
row_1 = record { op = codes "plain"; key = codes "k"; value = []; fine = true; result = codes "one"; finished = 0; job = 1; rebuild = false }

abbrev pub row_2 : Row
row_2 = record { op = codes "latch"; key = codes "k"; value = []; fine = true; result = codes "two"; finished = 0; job = 2; rebuild = false }

abbrev pub row_3 : Row
row_3 = record { op = codes "plain"; key = codes "k"; value = []; fine = true; result = codes "one"; finished = 0; job = 1; rebuild = true }

abbrev pub row_4 : Row
row_4 = record { op = codes "plain"; key = codes "k"; value = []; fine = true; result = codes "three"; finished = 0; job = 3; rebuild = false }

abbrev pub row_5 : Row
row_5 = record { op = codes "latch"; key = codes "k"; value = []; fine = true; result = codes "two"; finished = 0; job = 2; rebuild = true }

abbrev pub row_6 : Row
row_6 = record { op = codes "latch"; key = codes "k"; value = []; fine = true; result = codes "four"; finished = 0; job = 4; rebuild = false }

abbrev pub row_7 : Row
row_7 = record { op = codes "plain"; key = codes "k"; value = []; fine = true; result = codes "three"; finished = 0; job = 3; rebuild = true }

-- ---- versions

abbrev pub core_1 : CoreState
core_1 = record {
  program = pipeline;
  threshold = None;
  now = 0;
  version = 1;
  inputs = [];
  rows = from_entries ([]);
  next = 3;
  jobs = built_job 1 0 (codes "k") None ∷ built_job 2 1 (codes "k") None ∷ [];
  fair = record { tickets = built_ticket 1 false 0 ∷ built_ticket 2 false 1000 ∷ []; next = 2000 ∷ []; rates = 1 ∷ []; paused = false ∷ []; hints = empty };
}

pub opening : start pipeline nothing_stored None 0 ≡ Some core_1
opening = opens all None 0 refl refl

abbrev pub core_2 : CoreState
core_2 = record {
  program = pipeline;
  threshold = None;
  now = 0;
  version = 2;
  inputs = [];
  rows = from_entries ([]);
  next = 3;
  jobs = built_job 1 0 (codes "k") (Some 0) ∷ built_job 2 1 (codes "k") None ∷ [];
  fair = record { tickets = built_ticket 2 false 1000 ∷ []; next = 2000 ∷ []; rates = 1 ∷ []; paused = false ∷ []; hints = empty };
}

abbrev pub reply_2 : Done
reply_2 = record (quiet 2 3) { note = note.Started (built_order 1 0 (codes "k")); changed = (0, Active 0 Running) ∷ [] }

pub step_2 : step core_1 (at 0 (what.Take 0)) ≡ Accepted core_2 reply_2
step_2 = answered all ([]) core_1 all ([]) _ (refl) refl refl refl refl (ap (λ later. (0, Active 0 Running) ∷ later) (changed_same 1 (Active 1 Ready) ([]) ([])))

abbrev pub core_3 : CoreState
core_3 = record {
  program = pipeline;
  threshold = None;
  now = 0;
  version = 3;
  inputs = [];
  rows = from_entries (keyed row_1 ∷ []);
  next = 3;
  jobs = built_job 2 1 (codes "k") None ∷ [];
  fair = record { tickets = built_ticket 2 false 1000 ∷ []; next = 2000 ∷ []; rates = 1 ∷ []; paused = false ∷ []; hints = empty };
}

abbrev pub reply_3 : Done
reply_3 = record (quiet 3 3) { note = note.Ended 1 ending.Fine; changed = (0, Fine (value.Words (codes "one"))) ∷ []; delta = record (next_alone 3) { put = Some row_1; log = Some (1, codes "one\n") } }

pub step_3 : step core_2 (at 0 (ends 1 (codes "one\n"))) ≡ Accepted core_3 reply_3
unfolding is_utf8 chars encode_utf8
step_3 = answered all ([]) core_2 all (keyed row_1 ∷ []) _ (refl) refl refl refl refl (ap (λ later. (0, Fine (value.Words (codes "one"))) ∷ later) (changed_same 1 (Active 1 Ready) ([]) ([])))

abbrev pub core_4 : CoreState
core_4 = record {
  program = pipeline;
  threshold = None;
  now = 0;
  version = 4;
  inputs = [];
  rows = from_entries (keyed row_1 ∷ []);
  next = 3;
  jobs = built_job 2 1 (codes "k") (Some 0) ∷ [];
  fair = record { tickets = []; next = 2000 ∷ []; rates = 1 ∷ []; paused = false ∷ []; hints = empty };
}

abbrev pub reply_4 : Done
reply_4 = record (quiet 4 3) { note = note.Started (built_order 2 1 (codes "k")); changed = (1, Active 1 Running) ∷ [] }

pub step_4 : step core_3 (at 0 (what.Take 0)) ≡ Accepted core_4 reply_4
step_4 = answered all (keyed row_1 ∷ []) core_3 all (keyed row_1 ∷ []) _ (refl) refl refl refl refl (changed_same 0 (Fine (value.Words (codes "one"))) (Active 1 Ready ∷ []) (Active 1 Running ∷ []))

abbrev pub core_5 : CoreState
core_5 = record {
  program = pipeline;
  threshold = None;
  now = 0;
  version = 5;
  inputs = [];
  rows = from_entries (keyed row_2 ∷ keyed row_1 ∷ []);
  next = 3;
  jobs = [];
  fair = record { tickets = []; next = 2000 ∷ []; rates = 1 ∷ []; paused = false ∷ []; hints = empty };
}

abbrev pub reply_5 : Done
reply_5 = record (quiet 5 3) { note = note.Ended 2 ending.Fine; changed = (1, Fine (value.Words (codes "two"))) ∷ []; delta = record (next_alone 3) { put = Some row_2; log = Some (2, codes "two\n") } }

pub step_5 : step core_4 (at 0 (ends 2 (codes "two\n"))) ≡ Accepted core_5 reply_5
unfolding is_utf8 chars encode_utf8
step_5 = answered all (keyed row_1 ∷ []) core_4 all (keyed row_2 ∷ keyed row_1 ∷ []) _ (refl) refl refl refl refl (changed_same 0 (Fine (value.Words (codes "one"))) (Active 1 Running ∷ []) (Fine (value.Words (codes "two")) ∷ []))

abbrev pub core_6 : CoreState
core_6 = record {
  program = pipeline;
  threshold = None;
  now = 0;
  version = 6;
  inputs = [];
  rows = from_entries (keyed row_3 ∷ keyed row_2 ∷ keyed row_1 ∷ []);
  next = 4;
  jobs = built_job 3 0 (codes "k") None ∷ [];
  fair = record { tickets = built_ticket 3 false 2000 ∷ []; next = 3000 ∷ []; rates = 1 ∷ []; paused = false ∷ []; hints = empty };
}

abbrev pub reply_6 : Done
reply_6 = record (quiet 6 4) { changed = (0, Active 0 Ready) ∷ []; delta = record (next_alone 4) { put = Some row_3 } }

pub step_6 : step core_5 (at 0 (what.Rebuild (codes "plain") (codes "k"))) ≡ Accepted core_6 reply_6
step_6 = answered all (keyed row_2 ∷ keyed row_1 ∷ []) core_5 all (keyed row_3 ∷ keyed row_2 ∷ keyed row_1 ∷ []) _ (ap (rebuild_row core_5 (row_key (codes "plain") (codes "k"))) (get-from_entries row_key_cmp_total (keyed row_2 ∷ keyed row_1 ∷ []) (row_key (codes "plain") (codes "k")))) refl refl refl refl (ap (λ later. (0, Active 0 Ready) ∷ later) (changed_same 1 (Fine (value.Words (codes "two"))) ([]) ([])))

abbrev pub core_7 : CoreState
core_7 = record {
  program = pipeline;
  threshold = None;
  now = 0;
  version = 7;
  inputs = [];
  rows = from_entries (keyed row_3 ∷ keyed row_2 ∷ keyed row_1 ∷ []);
  next = 4;
  jobs = built_job 3 0 (codes "k") (Some 0) ∷ [];
  fair = record { tickets = []; next = 3000 ∷ []; rates = 1 ∷ []; paused = false ∷ []; hints = empty };
}

abbrev pub reply_7 : Done
reply_7 = record (quiet 7 4) { note = note.Started (built_order 3 0 (codes "k")); changed = (0, Active 0 Running) ∷ [] }

pub step_7 : step core_6 (at 0 (what.Take 0)) ≡ Accepted core_7 reply_7
step_7 = answered all (keyed row_3 ∷ keyed row_2 ∷ keyed row_1 ∷ []) core_6 all (keyed row_3 ∷ keyed row_2 ∷ keyed row_1 ∷ []) _ (refl) refl refl refl refl (ap (λ later. (0, Active 0 Running) ∷ later) (changed_same 1 (Fine (value.Words (codes "two"))) ([]) ([])))

abbrev pub core_8 : CoreState
core_8 = record {
  program = pipeline;
  threshold = None;
  now = 0;
  version = 8;
  inputs = [];
  rows = from_entries (keyed row_4 ∷ keyed row_3 ∷ keyed row_2 ∷ keyed row_1 ∷ []);
  next = 4;
  jobs = [];
  fair = record { tickets = []; next = 3000 ∷ []; rates = 1 ∷ []; paused = false ∷ []; hints = empty };
}

abbrev pub reply_8 : Done
reply_8 = record (quiet 8 4) { note = note.Ended 3 ending.Fine; changed = (0, Fine (value.Words (codes "three"))) ∷ []; delta = record (next_alone 4) { put = Some row_4; log = Some (3, codes "three\n") } }

pub step_8 : step core_7 (at 0 (ends 3 (codes "three\n"))) ≡ Accepted core_8 reply_8
unfolding is_utf8 chars encode_utf8
step_8 = answered all (keyed row_3 ∷ keyed row_2 ∷ keyed row_1 ∷ []) core_7 all (keyed row_4 ∷ keyed row_3 ∷ keyed row_2 ∷ keyed row_1 ∷ []) _ (refl) refl refl refl refl (ap (λ later. (0, Fine (value.Words (codes "three"))) ∷ later) (changed_same 1 (Fine (value.Words (codes "two"))) ([]) ([])))

abbrev pub core_9 : CoreState
core_9 = record {
  program = pipeline;
  threshold = None;
  now = 0;
  version = 9;
  inputs = [];
  rows = from_entries (keyed row_5 ∷ keyed row_4 ∷ keyed row_3 ∷ keyed row_2 ∷ keyed row_1 ∷ []);
  next = 5;
  jobs = built_job 4 1 (codes "k") None ∷ [];
  fair = record { tickets = built_ticket 4 false 3000 ∷ []; next = 4000 ∷ []; rates = 1 ∷ []; paused = false ∷ []; hints = empty };
}

abbrev pub reply_9 : Done
reply_9 = record (quiet 9 5) { delta = record (next_alone 5) { put = Some row_5 } }

pub step_9 : step core_8 (at 0 (what.Rebuild (codes "latch") (codes "k"))) ≡ Accepted core_9 reply_9
step_9 = answered all (keyed row_4 ∷ keyed row_3 ∷ keyed row_2 ∷ keyed row_1 ∷ []) core_8 all (keyed row_5 ∷ keyed row_4 ∷ keyed row_3 ∷ keyed row_2 ∷ keyed row_1 ∷ []) _ (ap (rebuild_row core_8 (row_key (codes "latch") (codes "k"))) (get-from_entries row_key_cmp_total (keyed row_4 ∷ keyed row_3 ∷ keyed row_2 ∷ keyed row_1 ∷ []) (row_key (codes "latch") (codes "k")))) refl refl refl refl (changed_same 0 (Fine (value.Words (codes "three"))) (Fine (value.Words (codes "two")) ∷ []) (Fine (value.Words (codes "two")) ∷ []) ∙ (changed_same 1 (Fine (value.Words (codes "two"))) ([]) ([])))

abbrev pub core_10 : CoreState
core_10 = record {
  program = pipeline;
  threshold = None;
  now = 0;
  version = 10;
  inputs = [];
  rows = from_entries (keyed row_5 ∷ keyed row_4 ∷ keyed row_3 ∷ keyed row_2 ∷ keyed row_1 ∷ []);
  next = 5;
  jobs = built_job 4 1 (codes "k") (Some 0) ∷ [];
  fair = record { tickets = []; next = 4000 ∷ []; rates = 1 ∷ []; paused = false ∷ []; hints = empty };
}

abbrev pub reply_10 : Done
reply_10 = record (quiet 10 5) { note = note.Started (built_order 4 1 (codes "k")) }

pub step_10 : step core_9 (at 0 (what.Take 0)) ≡ Accepted core_10 reply_10
step_10 = answered all (keyed row_5 ∷ keyed row_4 ∷ keyed row_3 ∷ keyed row_2 ∷ keyed row_1 ∷ []) core_9 all (keyed row_5 ∷ keyed row_4 ∷ keyed row_3 ∷ keyed row_2 ∷ keyed row_1 ∷ []) _ (refl) refl refl refl refl (changed_same 0 (Fine (value.Words (codes "three"))) (Fine (value.Words (codes "two")) ∷ []) (Fine (value.Words (codes "two")) ∷ []) ∙ (changed_same 1 (Fine (value.Words (codes "two"))) ([]) ([])))

abbrev pub core_11 : CoreState
core_11 = record {
  program = pipeline;
  threshold = None;
  now = 0;
  version = 11;
  inputs = [];
  rows = from_entries (keyed row_6 ∷ keyed row_5 ∷ keyed row_4 ∷ keyed row_3 ∷ keyed row_2 ∷ keyed row_1 ∷ []);
  next = 5;
  jobs = [];
  fair = record { tickets = []; next = 4000 ∷ []; rates = 1 ∷ []; paused = false ∷ []; hints = empty };
}

abbrev pub reply_11 : Done
reply_11 = record (quiet 11 5) { note = note.Ended 4 ending.Fine; changed = (1, Fine (value.Words (codes "four"))) ∷ []; delta = record (next_alone 5) { put = Some row_6; log = Some (4, codes "four\n") } }

pub step_11 : step core_10 (at 0 (ends 4 (codes "four\n"))) ≡ Accepted core_11 reply_11
unfolding is_utf8 chars encode_utf8
step_11 = answered all (keyed row_5 ∷ keyed row_4 ∷ keyed row_3 ∷ keyed row_2 ∷ keyed row_1 ∷ []) core_10 all (keyed row_6 ∷ keyed row_5 ∷ keyed row_4 ∷ keyed row_3 ∷ keyed row_2 ∷ keyed row_1 ∷ []) _ (refl) refl refl refl refl (changed_same 0 (Fine (value.Words (codes "three"))) (Fine (value.Words (codes "two")) ∷ []) (Fine (value.Words (codes "four")) ∷ []) ∙ (changed_other 1 (Fine (value.Words (codes "two"))) (Fine (value.Words (codes "four"))) ([]) ([]) (texts_differ (codes "two") (codes "four") (λ e. omega (arith, ap (λ t. slice_index t 0) e)))))

pub no_row : step core_11 (at 0 (what.Rebuild (codes "plain") (codes "z"))) ≡ Refused refusal.NoRow
unfolding step
no_row = ap (λ r. answer core_11 (rebuild_row core_11 (row_key (codes "plain") (codes "z")) r)) (get-from_entries row_key_cmp_total (keyed row_6 ∷ keyed row_5 ∷ keyed row_4 ∷ keyed row_3 ∷ keyed row_2 ∷ keyed row_1 ∷ []) (row_key (codes "plain") (codes "z")))

abbrev pub core_12 : CoreState
core_12 = record {
  program = pipeline;
  threshold = None;
  now = 0;
  version = 12;
  inputs = [];
  rows = from_entries (keyed row_6 ∷ keyed row_5 ∷ keyed row_4 ∷ keyed row_3 ∷ keyed row_2 ∷ keyed row_1 ∷ []);
  next = 5;
  jobs = [];
  fair = record { tickets = []; next = 4000 ∷ []; rates = 1 ∷ []; paused = true ∷ []; hints = empty };
}

abbrev pub reply_12 : Done
reply_12 = quiet 12 5

pub step_12 : step core_11 (at 0 (what.Pause (codes "w"))) ≡ Accepted core_12 reply_12
step_12 = answered all (keyed row_6 ∷ keyed row_5 ∷ keyed row_4 ∷ keyed row_3 ∷ keyed row_2 ∷ keyed row_1 ∷ []) core_11 all (keyed row_6 ∷ keyed row_5 ∷ keyed row_4 ∷ keyed row_3 ∷ keyed row_2 ∷ keyed row_1 ∷ []) _ (refl) refl refl refl refl (changed_same 0 (Fine (value.Words (codes "three"))) (Fine (value.Words (codes "four")) ∷ []) (Fine (value.Words (codes "four")) ∷ []) ∙ (changed_same 1 (Fine (value.Words (codes "four"))) ([]) ([])))

abbrev pub core_13 : CoreState
core_13 = record {
  program = pipeline;
  threshold = None;
  now = 0;
  version = 13;
  inputs = [];
  rows = from_entries (keyed row_7 ∷ keyed row_6 ∷ keyed row_5 ∷ keyed row_4 ∷ keyed row_3 ∷ keyed row_2 ∷ keyed row_1 ∷ []);
  next = 6;
  jobs = built_job 5 0 (codes "k") None ∷ [];
  fair = record { tickets = built_ticket 5 false 4000 ∷ []; next = 5000 ∷ []; rates = 1 ∷ []; paused = true ∷ []; hints = empty };
}

abbrev pub reply_13 : Done
reply_13 = record (quiet 13 6) { changed = (0, Active 0 Ready) ∷ []; delta = record (next_alone 6) { put = Some row_7 } }

pub step_13 : step core_12 (at 0 (what.Rebuild (codes "plain") (codes "k"))) ≡ Accepted core_13 reply_13
step_13 = answered all (keyed row_6 ∷ keyed row_5 ∷ keyed row_4 ∷ keyed row_3 ∷ keyed row_2 ∷ keyed row_1 ∷ []) core_12 all (keyed row_7 ∷ keyed row_6 ∷ keyed row_5 ∷ keyed row_4 ∷ keyed row_3 ∷ keyed row_2 ∷ keyed row_1 ∷ []) _ (ap (rebuild_row core_12 (row_key (codes "plain") (codes "k"))) (get-from_entries row_key_cmp_total (keyed row_6 ∷ keyed row_5 ∷ keyed row_4 ∷ keyed row_3 ∷ keyed row_2 ∷ keyed row_1 ∷ []) (row_key (codes "plain") (codes "k")))) refl refl refl refl (ap (λ later. (0, Active 0 Ready) ∷ later) (changed_same 1 (Fine (value.Words (codes "four"))) ([]) ([])))

pub busy : step core_13 (at 0 (what.Rebuild (codes "plain") (codes "k"))) ≡ Refused (refusal.Busy 5)
unfolding step
busy = refl
