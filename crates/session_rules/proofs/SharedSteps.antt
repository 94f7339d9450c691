-- A worked run: seven builds of three clients share one worker. States are named by their versions.
use Rattle.std.proofs.Common.{◌≡◌, ℕ, true, false, List, [], ◌∷◌, Some, None, refl, ap, ◌∙◌}
use Rattle.std.specs.Prelude.{codes, slice_get}
use Rattle.std.specs.Char.{encode_utf8}
use Rattle.std.specs.Str.{chars, is_utf8}
use Rattle.std.specs.FinMap.{empty, from_entries}
use Rattle.value_core.specs.declared.value.Value.TheVariants as value
use Rattle.value_core.specs.declared.state.State.TheVariants.{Fine, Active}
use Rattle.value_core.specs.declared.state.Stage.TheVariants.{Ready, Running}
use Rattle.op_keys.specs.Orders.{order_fits}
use Rattle.term_core.specs.declared.program.Program.{Program}
use Rattle.term_core.specs.Fresh as nodes
use Rattle.term_core.specs.Evaluation.{fits, context_of, triple_of}
use Rattle.value_core.specs.declared.state.State.{State}
use Rattle.term_core.specs.World.{World, entry_of}
use Rattle.sched_rows.specs.declared.row.Row.{Row}
use Rattle.core_rules.specs.declared.events.What.TheVariants as what
use Rattle.core_rules.specs.declared.notes.Ending.TheVariants as ending
use Rattle.core_rules.specs.declared.notes.Note.TheVariants as note
use Rattle.core_rules.specs.Core.{CoreState}
use Rattle.core_rules.specs.Openings.{start}
use Rattle.core_rules.specs.declared.done.Done.{Done}
use Rattle.core_rules.specs.Replies.{next_alone}
use Rattle.core_rules.specs.Steps.{Accepted, step}
use Rattle.core_rules.proofs.WorkedRuns.{Evaluated, answered, at, ends, keyed, nothing_stored, opens, quiet}
use Rattle.session_rules.proofs.Builds.{Built, build_is, build_of, builds_are, changed_same, runs_from}
use Rattle.session_rules.proofs.BuiltParts.{built_job, built_op, built_order, built_ticket}

-- ---- the pipeline

abbrev pub pipeline : Program
pipeline = record {
  version = 1;
  inputs = [];
  pools = record { name = codes "p"; hold = 0 } ∷ [];
  clients = record { name = codes "c1"; pool = codes "p"; rate = 1 } ∷ record { name = codes "c2"; pool = codes "p"; rate = 2 } ∷ record { name = codes "c3"; pool = codes "p"; rate = 1000 } ∷ [];
  workers = record { name = codes "w"; pool = codes "p"; capacity = 1 } ∷ [];
  ops = built_op (codes "a") (codes "c1") false false 10 10 ∷ built_op (codes "b") (codes "c2") false false 10 10 ∷ built_op (codes "d") (codes "c3") false false 10 10 ∷ built_op (codes "u") (codes "c1") true false 10 10 ∷ [];
  nodes = record { name = codes "n0"; term = build_of (codes "a") (codes "1") } ∷ record { name = codes "n1"; term = build_of (codes "a") (codes "2") } ∷ record { name = codes "n2"; term = build_of (codes "b") (codes "1") } ∷ record { name = codes "n3"; term = build_of (codes "b") (codes "2") } ∷ record { name = codes "n4"; term = build_of (codes "d") (codes "1") } ∷ record { name = codes "n5"; term = build_of (codes "d") (codes "2") } ∷ record { name = codes "n6"; term = build_of (codes "u") (codes "1") } ∷ [];
}

pub short_0 : (at : ℕ) (earlier : List State) (w : World) → fits (slice_get pipeline.ops (triple_of (context_of pipeline at [] earlier w) (codes "a") (codes "1") []).op) (triple_of (context_of pipeline at [] earlier w) (codes "a") (codes "1") []) ≡ true
unfolding order_fits
short_0 at earlier w = refl

pub short_1 : (at : ℕ) (earlier : List State) (w : World) → fits (slice_get pipeline.ops (triple_of (context_of pipeline at [] earlier w) (codes "a") (codes "2") []).op) (triple_of (context_of pipeline at [] earlier w) (codes "a") (codes "2") []) ≡ true
unfolding order_fits
short_1 at earlier w = refl

pub short_2 : (at : ℕ) (earlier : List State) (w : World) → fits (slice_get pipeline.ops (triple_of (context_of pipeline at [] earlier w) (codes "b") (codes "1") []).op) (triple_of (context_of pipeline at [] earlier w) (codes "b") (codes "1") []) ≡ true
unfolding order_fits
short_2 at earlier w = refl

pub short_3 : (at : ℕ) (earlier : List State) (w : World) → fits (slice_get pipeline.ops (triple_of (context_of pipeline at [] earlier w) (codes "b") (codes "2") []).op) (triple_of (context_of pipeline at [] earlier w) (codes "b") (codes "2") []) ≡ true
unfolding order_fits
short_3 at earlier w = refl

pub short_4 : (at : ℕ) (earlier : List State) (w : World) → fits (slice_get pipeline.ops (triple_of (context_of pipeline at [] earlier w) (codes "d") (codes "1") []).op) (triple_of (context_of pipeline at [] earlier w) (codes "d") (codes "1") []) ≡ true
unfolding order_fits
short_4 at earlier w = refl

pub short_5 : (at : ℕ) (earlier : List State) (w : World) → fits (slice_get pipeline.ops (triple_of (context_of pipeline at [] earlier w) (codes "d") (codes "2") []).op) (triple_of (context_of pipeline at [] earlier w) (codes "d") (codes "2") []) ≡ true
unfolding order_fits
short_5 at earlier w = refl

pub short_6 : (at : ℕ) (earlier : List State) (w : World) → fits (slice_get pipeline.ops (triple_of (context_of pipeline at [] earlier w) (codes "u") (codes "1") []).op) (triple_of (context_of pipeline at [] earlier w) (codes "u") (codes "1") []) ≡ true
unfolding order_fits
short_6 at earlier w = refl

abbrev node_0 : Built pipeline []
node_0 = record { decl = record { name = codes "n0"; term = build_of (codes "a") (codes "1") }; triple = record { op = 0; key = codes "1"; value = [] }; is = λ at earlier w. build_is (context_of pipeline at [] earlier w) (codes "a") (codes "1") (short_0 at earlier w) }

abbrev node_1 : Built pipeline []
node_1 = record { decl = record { name = codes "n1"; term = build_of (codes "a") (codes "2") }; triple = record { op = 0; key = codes "2"; value = [] }; is = λ at earlier w. build_is (context_of pipeline at [] earlier w) (codes "a") (codes "2") (short_1 at earlier w) }

abbrev node_2 : Built pipeline []
node_2 = record { decl = record { name = codes "n2"; term = build_of (codes "b") (codes "1") }; triple = record { op = 1; key = codes "1"; value = [] }; is = λ at earlier w. build_is (context_of pipeline at [] earlier w) (codes "b") (codes "1") (short_2 at earlier w) }

abbrev node_3 : Built pipeline []
node_3 = record { decl = record { name = codes "n3"; term = build_of (codes "b") (codes "2") }; triple = record { op = 1; key = codes "2"; value = [] }; is = λ at earlier w. build_is (context_of pipeline at [] earlier w) (codes "b") (codes "2") (short_3 at earlier w) }

abbrev node_4 : Built pipeline []
node_4 = record { decl = record { name = codes "n4"; term = build_of (codes "d") (codes "1") }; triple = record { op = 2; key = codes "1"; value = [] }; is = λ at earlier w. build_is (context_of pipeline at [] earlier w) (codes "d") (codes "1") (short_4 at earlier w) }

abbrev node_5 : Built pipeline []
node_5 = record { decl = record { name = codes "n5"; term = build_of (codes "d") (codes "2") }; triple = record { op = 2; key = codes "2"; value = [] }; is = λ at earlier w. build_is (context_of pipeline at [] earlier w) (codes "d") (codes "2") (short_5 at earlier w) }

abbrev node_6 : Built pipeline []
node_6 = record { decl = record { name = codes "n6"; term = build_of (codes "u") (codes "1") }; triple = record { op = 3; key = codes "1"; value = [] }; is = λ at earlier w. build_is (context_of pipeline at [] earlier w) (codes "u") (codes "1") (short_6 at earlier w) }

abbrev all_nodes : List (Built pipeline [])
all_nodes = node_0 ∷ node_1 ∷ node_2 ∷ node_3 ∷ node_4 ∷ node_5 ∷ node_6 ∷ []

pub fresh_is : (w : World) → nodes.fresh pipeline [] w ≡ runs_from pipeline [] 0 all_nodes (entry_of w)
unfolding nodes.fresh
fresh_is w = builds_are pipeline [] w 0 [] all_nodes

abbrev pub all : Evaluated
all = record { program = pipeline; inputs = []; run = runs_from pipeline [] 0 all_nodes; is = fresh_is }

-- ---- rows

abbrev pub row_1 : Row
row_1 = record { op = codes "u"; key = codes "1"; value = []; fine = true; result = codes "one"; finished = 0; job = 7; rebuild = false }

abbrev pub row_2 : Row
row_2 = record { op = codes "a"; key = codes "1"; value = []; fine = true; result = codes "two"; finished = 0; job = 1; rebuild = false }

abbrev pub row_3 : Row
row_3 = record { op = codes "b"; key = codes "1"; value = []; fine = true; result = codes "three"; finished = 0; job = 3; rebuild = false }

abbrev pub row_4 : Row
row_4 = record { op = codes "d"; key = codes "1"; value = []; fine = true; result = codes "four"; finished = 0; job = 5; rebuild = false }

abbrev pub row_5 : Row
row_5 = record { op = codes "d"; key = codes "2"; value = []; fine = true; result = codes "five"; finished = 0; job = 6; rebuild = false }

abbrev pub row_6 : Row
row_6 = record { op = codes "b"; key = codes "2"; value = []; fine = true; result = codes "six"; finished = 0; job = 4; rebuild = false }

abbrev pub row_7 : Row
row_7 = record { op = codes "a"; key = codes "2"; value = []; fine = true; result = codes "seven"; finished = 0; job = 2; rebuild = false }

-- ---- versions

abbrev pub core_1 : CoreState
core_1 = record {
  program = pipeline;
  threshold = None;
  now = 0;
  version = 1;
  inputs = [];
  rows = from_entries ([]);
  next = 8;
  jobs = built_job 1 0 (codes "1") None ∷ built_job 2 0 (codes "2") None ∷ built_job 3 1 (codes "1") None ∷ built_job 4 1 (codes "2") None ∷ built_job 5 2 (codes "1") None ∷ built_job 6 2 (codes "2") None ∷ built_job 7 3 (codes "1") None ∷ [];
  fair = record { tickets = built_ticket 1 false 0 ∷ built_ticket 2 false 10000 ∷ built_ticket 3 false 0 ∷ built_ticket 4 false 5000 ∷ built_ticket 5 false 0 ∷ built_ticket 6 false 10 ∷ built_ticket 7 true 20000 ∷ []; next = 30000 ∷ 10000 ∷ 20 ∷ []; rates = 1 ∷ 2 ∷ 1000 ∷ []; paused = false ∷ []; hints = empty };
}

pub opening : start pipeline nothing_stored None 0 ≡ Some core_1
opening = opens all None 0 refl refl

abbrev pub core_2 : CoreState
core_2 = record {
  program = pipeline;
  threshold = None;
  now = 0;
  version = 2;
  inputs = [];
  rows = from_entries ([]);
  next = 8;
  jobs = built_job 1 0 (codes "1") None ∷ built_job 2 0 (codes "2") None ∷ built_job 3 1 (codes "1") None ∷ built_job 4 1 (codes "2") None ∷ built_job 5 2 (codes "1") None ∷ built_job 6 2 (codes "2") None ∷ built_job 7 3 (codes "1") (Some 0) ∷ [];
  fair = record { tickets = built_ticket 1 false 0 ∷ built_ticket 2 false 10000 ∷ built_ticket 3 false 0 ∷ built_ticket 4 false 5000 ∷ built_ticket 5 false 0 ∷ built_ticket 6 false 10 ∷ []; next = 30000 ∷ 10000 ∷ 20 ∷ []; rates = 1 ∷ 2 ∷ 1000 ∷ []; paused = false ∷ []; hints = empty };
}

abbrev pub reply_2 : Done
reply_2 = record (quiet 2 8) { note = note.Started (built_order 7 3 (codes "1")); changed = (6, Active 6 Running) ∷ [] }

pub step_2 : step core_1 (at 0 (what.Take 0)) ≡ Accepted core_2 reply_2
step_2 = answered all ([]) core_1 all ([]) _ (refl) refl refl refl refl (changed_same 0 (Active 0 Ready) (Active 1 Ready ∷ Active 2 Ready ∷ Active 3 Ready ∷ Active 4 Ready ∷ Active 5 Ready ∷ Active 6 Ready ∷ []) (Active 1 Ready ∷ Active 2 Ready ∷ Active 3 Ready ∷ Active 4 Ready ∷ Active 5 Ready ∷ Active 6 Running ∷ []) ∙ (changed_same 1 (Active 1 Ready) (Active 2 Ready ∷ Active 3 Ready ∷ Active 4 Ready ∷ Active 5 Ready ∷ Active 6 Ready ∷ []) (Active 2 Ready ∷ Active 3 Ready ∷ Active 4 Ready ∷ Active 5 Ready ∷ Active 6 Running ∷ []) ∙ (changed_same 2 (Active 2 Ready) (Active 3 Ready ∷ Active 4 Ready ∷ Active 5 Ready ∷ Active 6 Ready ∷ []) (Active 3 Ready ∷ Active 4 Ready ∷ Active 5 Ready ∷ Active 6 Running ∷ []) ∙ (changed_same 3 (Active 3 Ready) (Active 4 Ready ∷ Active 5 Ready ∷ Active 6 Ready ∷ []) (Active 4 Ready ∷ Active 5 Ready ∷ Active 6 Running ∷ []) ∙ (changed_same 4 (Active 4 Ready) (Active 5 Ready ∷ Active 6 Ready ∷ []) (Active 5 Ready ∷ Active 6 Running ∷ []) ∙ (changed_same 5 (Active 5 Ready) (Active 6 Ready ∷ []) (Active 6 Running ∷ [])))))))

abbrev pub core_3 : CoreState
core_3 = record {
  program = pipeline;
  threshold = None;
  now = 0;
  version = 3;
  inputs = [];
  rows = from_entries (keyed row_1 ∷ []);
  next = 8;
  jobs = built_job 1 0 (codes "1") None ∷ built_job 2 0 (codes "2") None ∷ built_job 3 1 (codes "1") None ∷ built_job 4 1 (codes "2") None ∷ built_job 5 2 (codes "1") None ∷ built_job 6 2 (codes "2") None ∷ [];
  fair = record { tickets = built_ticket 1 false 0 ∷ built_ticket 2 false 10000 ∷ built_ticket 3 false 0 ∷ built_ticket 4 false 5000 ∷ built_ticket 5 false 0 ∷ built_ticket 6 false 10 ∷ []; next = 30000 ∷ 10000 ∷ 20 ∷ []; rates = 1 ∷ 2 ∷ 1000 ∷ []; paused = false ∷ []; hints = empty };
}

abbrev pub reply_3 : Done
reply_3 = record (quiet 3 8) { note = note.Ended 7 ending.Fine; changed = (6, Fine (value.Words (codes "one"))) ∷ []; delta = record (next_alone 8) { put = Some row_1; log = Some (7, codes "one\n") } }

pub step_3 : step core_2 (at 0 (ends 7 (codes "one\n"))) ≡ Accepted core_3 reply_3
unfolding is_utf8 chars encode_utf8
step_3 = answered all ([]) core_2 all (keyed row_1 ∷ []) _ (refl) refl refl refl refl (changed_same 0 (Active 0 Ready) (Active 1 Ready ∷ Active 2 Ready ∷ Active 3 Ready ∷ Active 4 Ready ∷ Active 5 Ready ∷ Active 6 Running ∷ []) (Active 1 Ready ∷ Active 2 Ready ∷ Active 3 Ready ∷ Active 4 Ready ∷ Active 5 Ready ∷ Fine (value.Words (codes "one")) ∷ []) ∙ (changed_same 1 (Active 1 Ready) (Active 2 Ready ∷ Active 3 Ready ∷ Active 4 Ready ∷ Active 5 Ready ∷ Active 6 Running ∷ []) (Active 2 Ready ∷ Active 3 Ready ∷ Active 4 Ready ∷ Active 5 Ready ∷ Fine (value.Words (codes "one")) ∷ []) ∙ (changed_same 2 (Active 2 Ready) (Active 3 Ready ∷ Active 4 Ready ∷ Active 5 Ready ∷ Active 6 Running ∷ []) (Active 3 Ready ∷ Active 4 Ready ∷ Active 5 Ready ∷ Fine (value.Words (codes "one")) ∷ []) ∙ (changed_same 3 (Active 3 Ready) (Active 4 Ready ∷ Active 5 Ready ∷ Active 6 Running ∷ []) (Active 4 Ready ∷ Active 5 Ready ∷ Fine (value.Words (codes "one")) ∷ []) ∙ (changed_same 4 (Active 4 Ready) (Active 5 Ready ∷ Active 6 Running ∷ []) (Active 5 Ready ∷ Fine (value.Words (codes "one")) ∷ []) ∙ (changed_same 5 (Active 5 Ready) (Active 6 Running ∷ []) (Fine (value.Words (codes "one")) ∷ [])))))))

abbrev pub core_4 : CoreState
core_4 = record {
  program = pipeline;
  threshold = None;
  now = 0;
  version = 4;
  inputs = [];
  rows = from_entries (keyed row_1 ∷ []);
  next = 8;
  jobs = built_job 1 0 (codes "1") (Some 0) ∷ built_job 2 0 (codes "2") None ∷ built_job 3 1 (codes "1") None ∷ built_job 4 1 (codes "2") None ∷ built_job 5 2 (codes "1") None ∷ built_job 6 2 (codes "2") None ∷ [];
  fair = record { tickets = built_ticket 2 false 10000 ∷ built_ticket 3 false 0 ∷ built_ticket 4 false 5000 ∷ built_ticket 5 false 0 ∷ built_ticket 6 false 10 ∷ []; next = 30000 ∷ 10000 ∷ 20 ∷ []; rates = 1 ∷ 2 ∷ 1000 ∷ []; paused = false ∷ []; hints = empty };
}

abbrev pub reply_4 : Done
reply_4 = record (quiet 4 8) { note = note.Started (built_order 1 0 (codes "1")); changed = (0, Active 0 Running) ∷ [] }

pub step_4 : step core_3 (at 0 (what.Take 0)) ≡ Accepted core_4 reply_4
step_4 = answered all (keyed row_1 ∷ []) core_3 all (keyed row_1 ∷ []) _ (refl) refl refl refl refl (ap (λ later. (0, Active 0 Running) ∷ later) (changed_same 1 (Active 1 Ready) (Active 2 Ready ∷ Active 3 Ready ∷ Active 4 Ready ∷ Active 5 Ready ∷ Fine (value.Words (codes "one")) ∷ []) (Active 2 Ready ∷ Active 3 Ready ∷ Active 4 Ready ∷ Active 5 Ready ∷ Fine (value.Words (codes "one")) ∷ []) ∙ (changed_same 2 (Active 2 Ready) (Active 3 Ready ∷ Active 4 Ready ∷ Active 5 Ready ∷ Fine (value.Words (codes "one")) ∷ []) (Active 3 Ready ∷ Active 4 Ready ∷ Active 5 Ready ∷ Fine (value.Words (codes "one")) ∷ []) ∙ (changed_same 3 (Active 3 Ready) (Active 4 Ready ∷ Active 5 Ready ∷ Fine (value.Words (codes "one")) ∷ []) (Active 4 Ready ∷ Active 5 Ready ∷ Fine (value.Words (codes "one")) ∷ []) ∙ (changed_same 4 (Active 4 Ready) (Active 5 Ready ∷ Fine (value.Words (codes "one")) ∷ []) (Active 5 Ready ∷ Fine (value.Words (codes "one")) ∷ []) ∙ (changed_same 5 (Active 5 Ready) (Fine (value.Words (codes "one")) ∷ []) (Fine (value.Words (codes "one")) ∷ []) ∙ (changed_same 6 (Fine (value.Words (codes "one"))) ([]) ([]))))))))

abbrev pub core_5 : CoreState
core_5 = record {
  program = pipeline;
  threshold = None;
  now = 0;
  version = 5;
  inputs = [];
  rows = from_entries (keyed row_2 ∷ keyed row_1 ∷ []);
  next = 8;
  jobs = built_job 2 0 (codes "2") None ∷ built_job 3 1 (codes "1") None ∷ built_job 4 1 (codes "2") None ∷ built_job 5 2 (codes "1") None ∷ built_job 6 2 (codes "2") None ∷ [];
  fair = record { tickets = built_ticket 2 false 10000 ∷ built_ticket 3 false 0 ∷ built_ticket 4 false 5000 ∷ built_ticket 5 false 0 ∷ built_ticket 6 false 10 ∷ []; next = 30000 ∷ 10000 ∷ 20 ∷ []; rates = 1 ∷ 2 ∷ 1000 ∷ []; paused = false ∷ []; hints = empty };
}

abbrev pub reply_5 : Done
reply_5 = record (quiet 5 8) { note = note.Ended 1 ending.Fine; changed = (0, Fine (value.Words (codes "two"))) ∷ []; delta = record (next_alone 8) { put = Some row_2; log = Some (1, codes "two\n") } }

pub step_5 : step core_4 (at 0 (ends 1 (codes "two\n"))) ≡ Accepted core_5 reply_5
unfolding is_utf8 chars encode_utf8
step_5 = answered all (keyed row_1 ∷ []) core_4 all (keyed row_2 ∷ keyed row_1 ∷ []) _ (refl) refl refl refl refl (ap (λ later. (0, Fine (value.Words (codes "two"))) ∷ later) (changed_same 1 (Active 1 Ready) (Active 2 Ready ∷ Active 3 Ready ∷ Active 4 Ready ∷ Active 5 Ready ∷ Fine (value.Words (codes "one")) ∷ []) (Active 2 Ready ∷ Active 3 Ready ∷ Active 4 Ready ∷ Active 5 Ready ∷ Fine (value.Words (codes "one")) ∷ []) ∙ (changed_same 2 (Active 2 Ready) (Active 3 Ready ∷ Active 4 Ready ∷ Active 5 Ready ∷ Fine (value.Words (codes "one")) ∷ []) (Active 3 Ready ∷ Active 4 Ready ∷ Active 5 Ready ∷ Fine (value.Words (codes "one")) ∷ []) ∙ (changed_same 3 (Active 3 Ready) (Active 4 Ready ∷ Active 5 Ready ∷ Fine (value.Words (codes "one")) ∷ []) (Active 4 Ready ∷ Active 5 Ready ∷ Fine (value.Words (codes "one")) ∷ []) ∙ (changed_same 4 (Active 4 Ready) (Active 5 Ready ∷ Fine (value.Words (codes "one")) ∷ []) (Active 5 Ready ∷ Fine (value.Words (codes "one")) ∷ []) ∙ (changed_same 5 (Active 5 Ready) (Fine (value.Words (codes "one")) ∷ []) (Fine (value.Words (codes "one")) ∷ []) ∙ (changed_same 6 (Fine (value.Words (codes "one"))) ([]) ([]))))))))

abbrev pub core_6 : CoreState
core_6 = record {
  program = pipeline;
  threshold = None;
  now = 0;
  version = 6;
  inputs = [];
  rows = from_entries (keyed row_2 ∷ keyed row_1 ∷ []);
  next = 8;
  jobs = built_job 2 0 (codes "2") None ∷ built_job 3 1 (codes "1") (Some 0) ∷ built_job 4 1 (codes "2") None ∷ built_job 5 2 (codes "1") None ∷ built_job 6 2 (codes "2") None ∷ [];
  fair = record { tickets = built_ticket 2 false 10000 ∷ built_ticket 4 false 5000 ∷ built_ticket 5 false 0 ∷ built_ticket 6 false 10 ∷ []; next = 30000 ∷ 10000 ∷ 20 ∷ []; rates = 1 ∷ 2 ∷ 1000 ∷ []; paused = false ∷ []; hints = empty };
}

abbrev pub reply_6 : Done
reply_6 = record (quiet 6 8) { note = note.Started (built_order 3 1 (codes "1")); changed = (2, Active 2 Running) ∷ [] }

pub step_6 : step core_5 (at 0 (what.Take 0)) ≡ Accepted core_6 reply_6
step_6 = answered all (keyed row_2 ∷ keyed row_1 ∷ []) core_5 all (keyed row_2 ∷ keyed row_1 ∷ []) _ (refl) refl refl refl refl (changed_same 0 (Fine (value.Words (codes "two"))) (Active 1 Ready ∷ Active 2 Ready ∷ Active 3 Ready ∷ Active 4 Ready ∷ Active 5 Ready ∷ Fine (value.Words (codes "one")) ∷ []) (Active 1 Ready ∷ Active 2 Running ∷ Active 3 Ready ∷ Active 4 Ready ∷ Active 5 Ready ∷ Fine (value.Words (codes "one")) ∷ []) ∙ (changed_same 1 (Active 1 Ready) (Active 2 Ready ∷ Active 3 Ready ∷ Active 4 Ready ∷ Active 5 Ready ∷ Fine (value.Words (codes "one")) ∷ []) (Active 2 Running ∷ Active 3 Ready ∷ Active 4 Ready ∷ Active 5 Ready ∷ Fine (value.Words (codes "one")) ∷ []) ∙ (ap (λ later. (2, Active 2 Running) ∷ later) (changed_same 3 (Active 3 Ready) (Active 4 Ready ∷ Active 5 Ready ∷ Fine (value.Words (codes "one")) ∷ []) (Active 4 Ready ∷ Active 5 Ready ∷ Fine (value.Words (codes "one")) ∷ []) ∙ (changed_same 4 (Active 4 Ready) (Active 5 Ready ∷ Fine (value.Words (codes "one")) ∷ []) (Active 5 Ready ∷ Fine (value.Words (codes "one")) ∷ []) ∙ (changed_same 5 (Active 5 Ready) (Fine (value.Words (codes "one")) ∷ []) (Fine (value.Words (codes "one")) ∷ []) ∙ (changed_same 6 (Fine (value.Words (codes "one"))) ([]) ([]))))))))

abbrev pub core_7 : CoreState
core_7 = record {
  program = pipeline;
  threshold = None;
  now = 0;
  version = 7;
  inputs = [];
  rows = from_entries (keyed row_3 ∷ keyed row_2 ∷ keyed row_1 ∷ []);
  next = 8;
  jobs = built_job 2 0 (codes "2") None ∷ built_job 4 1 (codes "2") None ∷ built_job 5 2 (codes "1") None ∷ built_job 6 2 (codes "2") None ∷ [];
  fair = record { tickets = built_ticket 2 false 10000 ∷ built_ticket 4 false 5000 ∷ built_ticket 5 false 0 ∷ built_ticket 6 false 10 ∷ []; next = 30000 ∷ 10000 ∷ 20 ∷ []; rates = 1 ∷ 2 ∷ 1000 ∷ []; paused = false ∷ []; hints = empty };
}

abbrev pub reply_7 : Done
reply_7 = record (quiet 7 8) { note = note.Ended 3 ending.Fine; changed = (2, Fine (value.Words (codes "three"))) ∷ []; delta = record (next_alone 8) { put = Some row_3; log = Some (3, codes "three\n") } }

pub step_7 : step core_6 (at 0 (ends 3 (codes "three\n"))) ≡ Accepted core_7 reply_7
unfolding is_utf8 chars encode_utf8
step_7 = answered all (keyed row_2 ∷ keyed row_1 ∷ []) core_6 all (keyed row_3 ∷ keyed row_2 ∷ keyed row_1 ∷ []) _ (refl) refl refl refl refl (changed_same 0 (Fine (value.Words (codes "two"))) (Active 1 Ready ∷ Active 2 Running ∷ Active 3 Ready ∷ Active 4 Ready ∷ Active 5 Ready ∷ Fine (value.Words (codes "one")) ∷ []) (Active 1 Ready ∷ Fine (value.Words (codes "three")) ∷ Active 3 Ready ∷ Active 4 Ready ∷ Active 5 Ready ∷ Fine (value.Words (codes "one")) ∷ []) ∙ (changed_same 1 (Active 1 Ready) (Active 2 Running ∷ Active 3 Ready ∷ Active 4 Ready ∷ Active 5 Ready ∷ Fine (value.Words (codes "one")) ∷ []) (Fine (value.Words (codes "three")) ∷ Active 3 Ready ∷ Active 4 Ready ∷ Active 5 Ready ∷ Fine (value.Words (codes "one")) ∷ []) ∙ (ap (λ later. (2, Fine (value.Words (codes "three"))) ∷ later) (changed_same 3 (Active 3 Ready) (Active 4 Ready ∷ Active 5 Ready ∷ Fine (value.Words (codes "one")) ∷ []) (Active 4 Ready ∷ Active 5 Ready ∷ Fine (value.Words (codes "one")) ∷ []) ∙ (changed_same 4 (Active 4 Ready) (Active 5 Ready ∷ Fine (value.Words (codes "one")) ∷ []) (Active 5 Ready ∷ Fine (value.Words (codes "one")) ∷ []) ∙ (changed_same 5 (Active 5 Ready) (Fine (value.Words (codes "one")) ∷ []) (Fine (value.Words (codes "one")) ∷ []) ∙ (changed_same 6 (Fine (value.Words (codes "one"))) ([]) ([]))))))))

abbrev pub core_8 : CoreState
core_8 = record {
  program = pipeline;
  threshold = None;
  now = 0;
  version = 8;
  inputs = [];
  rows = from_entries (keyed row_3 ∷ keyed row_2 ∷ keyed row_1 ∷ []);
  next = 8;
  jobs = built_job 2 0 (codes "2") None ∷ built_job 4 1 (codes "2") None ∷ built_job 5 2 (codes "1") (Some 0) ∷ built_job 6 2 (codes "2") None ∷ [];
  fair = record { tickets = built_ticket 2 false 10000 ∷ built_ticket 4 false 5000 ∷ built_ticket 6 false 10 ∷ []; next = 30000 ∷ 10000 ∷ 20 ∷ []; rates = 1 ∷ 2 ∷ 1000 ∷ []; paused = false ∷ []; hints = empty };
}

abbrev pub reply_8 : Done
reply_8 = record (quiet 8 8) { note = note.Started (built_order 5 2 (codes "1")); changed = (4, Active 4 Running) ∷ [] }

pub step_8 : step core_7 (at 0 (what.Take 0)) ≡ Accepted core_8 reply_8
step_8 = answered all (keyed row_3 ∷ keyed row_2 ∷ keyed row_1 ∷ []) core_7 all (keyed row_3 ∷ keyed row_2 ∷ keyed row_1 ∷ []) _ (refl) refl refl refl refl (changed_same 0 (Fine (value.Words (codes "two"))) (Active 1 Ready ∷ Fine (value.Words (codes "three")) ∷ Active 3 Ready ∷ Active 4 Ready ∷ Active 5 Ready ∷ Fine (value.Words (codes "one")) ∷ []) (Active 1 Ready ∷ Fine (value.Words (codes "three")) ∷ Active 3 Ready ∷ Active 4 Running ∷ Active 5 Ready ∷ Fine (value.Words (codes "one")) ∷ []) ∙ (changed_same 1 (Active 1 Ready) (Fine (value.Words (codes "three")) ∷ Active 3 Ready ∷ Active 4 Ready ∷ Active 5 Ready ∷ Fine (value.Words (codes "one")) ∷ []) (Fine (value.Words (codes "three")) ∷ Active 3 Ready ∷ Active 4 Running ∷ Active 5 Ready ∷ Fine (value.Words (codes "one")) ∷ []) ∙ (changed_same 2 (Fine (value.Words (codes "three"))) (Active 3 Ready ∷ Active 4 Ready ∷ Active 5 Ready ∷ Fine (value.Words (codes "one")) ∷ []) (Active 3 Ready ∷ Active 4 Running ∷ Active 5 Ready ∷ Fine (value.Words (codes "one")) ∷ []) ∙ (changed_same 3 (Active 3 Ready) (Active 4 Ready ∷ Active 5 Ready ∷ Fine (value.Words (codes "one")) ∷ []) (Active 4 Running ∷ Active 5 Ready ∷ Fine (value.Words (codes "one")) ∷ []) ∙ (ap (λ later. (4, Active 4 Running) ∷ later) (changed_same 5 (Active 5 Ready) (Fine (value.Words (codes "one")) ∷ []) (Fine (value.Words (codes "one")) ∷ []) ∙ (changed_same 6 (Fine (value.Words (codes "one"))) ([]) ([]))))))))

abbrev pub core_9 : CoreState
core_9 = record {
  program = pipeline;
  threshold = None;
  now = 0;
  version = 9;
  inputs = [];
  rows = from_entries (keyed row_4 ∷ keyed row_3 ∷ keyed row_2 ∷ keyed row_1 ∷ []);
  next = 8;
  jobs = built_job 2 0 (codes "2") None ∷ built_job 4 1 (codes "2") None ∷ built_job 6 2 (codes "2") None ∷ [];
  fair = record { tickets = built_ticket 2 false 10000 ∷ built_ticket 4 false 5000 ∷ built_ticket 6 false 10 ∷ []; next = 30000 ∷ 10000 ∷ 20 ∷ []; rates = 1 ∷ 2 ∷ 1000 ∷ []; paused = false ∷ []; hints = empty };
}

abbrev pub reply_9 : Done
reply_9 = record (quiet 9 8) { note = note.Ended 5 ending.Fine; changed = (4, Fine (value.Words (codes "four"))) ∷ []; delta = record (next_alone 8) { put = Some row_4; log = Some (5, codes "four\n") } }

pub step_9 : step core_8 (at 0 (ends 5 (codes "four\n"))) ≡ Accepted core_9 reply_9
unfolding is_utf8 chars encode_utf8
step_9 = answered all (keyed row_3 ∷ keyed row_2 ∷ keyed row_1 ∷ []) core_8 all (keyed row_4 ∷ keyed row_3 ∷ keyed row_2 ∷ keyed row_1 ∷ []) _ (refl) refl refl refl refl (changed_same 0 (Fine (value.Words (codes "two"))) (Active 1 Ready ∷ Fine (value.Words (codes "three")) ∷ Active 3 Ready ∷ Active 4 Running ∷ Active 5 Ready ∷ Fine (value.Words (codes "one")) ∷ []) (Active 1 Ready ∷ Fine (value.Words (codes "three")) ∷ Active 3 Ready ∷ Fine (value.Words (codes "four")) ∷ Active 5 Ready ∷ Fine (value.Words (codes "one")) ∷ []) ∙ (changed_same 1 (Active 1 Ready) (Fine (value.Words (codes "three")) ∷ Active 3 Ready ∷ Active 4 Running ∷ Active 5 Ready ∷ Fine (value.Words (codes "one")) ∷ []) (Fine (value.Words (codes "three")) ∷ Active 3 Ready ∷ Fine (value.Words (codes "four")) ∷ Active 5 Ready ∷ Fine (value.Words (codes "one")) ∷ []) ∙ (changed_same 2 (Fine (value.Words (codes "three"))) (Active 3 Ready ∷ Active 4 Running ∷ Active 5 Ready ∷ Fine (value.Words (codes "one")) ∷ []) (Active 3 Ready ∷ Fine (value.Words (codes "four")) ∷ Active 5 Ready ∷ Fine (value.Words (codes "one")) ∷ []) ∙ (changed_same 3 (Active 3 Ready) (Active 4 Running ∷ Active 5 Ready ∷ Fine (value.Words (codes "one")) ∷ []) (Fine (value.Words (codes "four")) ∷ Active 5 Ready ∷ Fine (value.Words (codes "one")) ∷ []) ∙ (ap (λ later. (4, Fine (value.Words (codes "four"))) ∷ later) (changed_same 5 (Active 5 Ready) (Fine (value.Words (codes "one")) ∷ []) (Fine (value.Words (codes "one")) ∷ []) ∙ (changed_same 6 (Fine (value.Words (codes "one"))) ([]) ([]))))))))

abbrev pub core_10 : CoreState
core_10 = record {
  program = pipeline;
  threshold = None;
  now = 0;
  version = 10;
  inputs = [];
  rows = from_entries (keyed row_4 ∷ keyed row_3 ∷ keyed row_2 ∷ keyed row_1 ∷ []);
  next = 8;
  jobs = built_job 2 0 (codes "2") None ∷ built_job 4 1 (codes "2") None ∷ built_job 6 2 (codes "2") (Some 0) ∷ [];
  fair = record { tickets = built_ticket 2 false 10000 ∷ built_ticket 4 false 5000 ∷ []; next = 30000 ∷ 10000 ∷ 20 ∷ []; rates = 1 ∷ 2 ∷ 1000 ∷ []; paused = false ∷ []; hints = empty };
}

abbrev pub reply_10 : Done
reply_10 = record (quiet 10 8) { note = note.Started (built_order 6 2 (codes "2")); changed = (5, Active 5 Running) ∷ [] }

pub step_10 : step core_9 (at 0 (what.Take 0)) ≡ Accepted core_10 reply_10
step_10 = answered all (keyed row_4 ∷ keyed row_3 ∷ keyed row_2 ∷ keyed row_1 ∷ []) core_9 all (keyed row_4 ∷ keyed row_3 ∷ keyed row_2 ∷ keyed row_1 ∷ []) _ (refl) refl refl refl refl (changed_same 0 (Fine (value.Words (codes "two"))) (Active 1 Ready ∷ Fine (value.Words (codes "three")) ∷ Active 3 Ready ∷ Fine (value.Words (codes "four")) ∷ Active 5 Ready ∷ Fine (value.Words (codes "one")) ∷ []) (Active 1 Ready ∷ Fine (value.Words (codes "three")) ∷ Active 3 Ready ∷ Fine (value.Words (codes "four")) ∷ Active 5 Running ∷ Fine (value.Words (codes "one")) ∷ []) ∙ (changed_same 1 (Active 1 Ready) (Fine (value.Words (codes "three")) ∷ Active 3 Ready ∷ Fine (value.Words (codes "four")) ∷ Active 5 Ready ∷ Fine (value.Words (codes "one")) ∷ []) (Fine (value.Words (codes "three")) ∷ Active 3 Ready ∷ Fine (value.Words (codes "four")) ∷ Active 5 Running ∷ Fine (value.Words (codes "one")) ∷ []) ∙ (changed_same 2 (Fine (value.Words (codes "three"))) (Active 3 Ready ∷ Fine (value.Words (codes "four")) ∷ Active 5 Ready ∷ Fine (value.Words (codes "one")) ∷ []) (Active 3 Ready ∷ Fine (value.Words (codes "four")) ∷ Active 5 Running ∷ Fine (value.Words (codes "one")) ∷ []) ∙ (changed_same 3 (Active 3 Ready) (Fine (value.Words (codes "four")) ∷ Active 5 Ready ∷ Fine (value.Words (codes "one")) ∷ []) (Fine (value.Words (codes "four")) ∷ Active 5 Running ∷ Fine (value.Words (codes "one")) ∷ []) ∙ (changed_same 4 (Fine (value.Words (codes "four"))) (Active 5 Ready ∷ Fine (value.Words (codes "one")) ∷ []) (Active 5 Running ∷ Fine (value.Words (codes "one")) ∷ []) ∙ (ap (λ later. (5, Active 5 Running) ∷ later) (changed_same 6 (Fine (value.Words (codes "one"))) ([]) ([]))))))))

abbrev pub core_11 : CoreState
core_11 = record {
  program = pipeline;
  threshold = None;
  now = 0;
  version = 11;
  inputs = [];
  rows = from_entries (keyed row_5 ∷ keyed row_4 ∷ keyed row_3 ∷ keyed row_2 ∷ keyed row_1 ∷ []);
  next = 8;
  jobs = built_job 2 0 (codes "2") None ∷ built_job 4 1 (codes "2") None ∷ [];
  fair = record { tickets = built_ticket 2 false 10000 ∷ built_ticket 4 false 5000 ∷ []; next = 30000 ∷ 10000 ∷ 20 ∷ []; rates = 1 ∷ 2 ∷ 1000 ∷ []; paused = false ∷ []; hints = empty };
}

abbrev pub reply_11 : Done
reply_11 = record (quiet 11 8) { note = note.Ended 6 ending.Fine; changed = (5, Fine (value.Words (codes "five"))) ∷ []; delta = record (next_alone 8) { put = Some row_5; log = Some (6, codes "five\n") } }

pub step_11 : step core_10 (at 0 (ends 6 (codes "five\n"))) ≡ Accepted core_11 reply_11
unfolding is_utf8 chars encode_utf8
step_11 = answered all (keyed row_4 ∷ keyed row_3 ∷ keyed row_2 ∷ keyed row_1 ∷ []) core_10 all (keyed row_5 ∷ keyed row_4 ∷ keyed row_3 ∷ keyed row_2 ∷ keyed row_1 ∷ []) _ (refl) refl refl refl refl (changed_same 0 (Fine (value.Words (codes "two"))) (Active 1 Ready ∷ Fine (value.Words (codes "three")) ∷ Active 3 Ready ∷ Fine (value.Words (codes "four")) ∷ Active 5 Running ∷ Fine (value.Words (codes "one")) ∷ []) (Active 1 Ready ∷ Fine (value.Words (codes "three")) ∷ Active 3 Ready ∷ Fine (value.Words (codes "four")) ∷ Fine (value.Words (codes "five")) ∷ Fine (value.Words (codes "one")) ∷ []) ∙ (changed_same 1 (Active 1 Ready) (Fine (value.Words (codes "three")) ∷ Active 3 Ready ∷ Fine (value.Words (codes "four")) ∷ Active 5 Running ∷ Fine (value.Words (codes "one")) ∷ []) (Fine (value.Words (codes "three")) ∷ Active 3 Ready ∷ Fine (value.Words (codes "four")) ∷ Fine (value.Words (codes "five")) ∷ Fine (value.Words (codes "one")) ∷ []) ∙ (changed_same 2 (Fine (value.Words (codes "three"))) (Active 3 Ready ∷ Fine (value.Words (codes "four")) ∷ Active 5 Running ∷ Fine (value.Words (codes "one")) ∷ []) (Active 3 Ready ∷ Fine (value.Words (codes "four")) ∷ Fine (value.Words (codes "five")) ∷ Fine (value.Words (codes "one")) ∷ []) ∙ (changed_same 3 (Active 3 Ready) (Fine (value.Words (codes "four")) ∷ Active 5 Running ∷ Fine (value.Words (codes "one")) ∷ []) (Fine (value.Words (codes "four")) ∷ Fine (value.Words (codes "five")) ∷ Fine (value.Words (codes "one")) ∷ []) ∙ (changed_same 4 (Fine (value.Words (codes "four"))) (Active 5 Running ∷ Fine (value.Words (codes "one")) ∷ []) (Fine (value.Words (codes "five")) ∷ Fine (value.Words (codes "one")) ∷ []) ∙ (ap (λ later. (5, Fine (value.Words (codes "five"))) ∷ later) (changed_same 6 (Fine (value.Words (codes "one"))) ([]) ([]))))))))

abbrev pub core_12 : CoreState
core_12 = record {
  program = pipeline;
  threshold = None;
  now = 0;
  version = 12;
  inputs = [];
  rows = from_entries (keyed row_5 ∷ keyed row_4 ∷ keyed row_3 ∷ keyed row_2 ∷ keyed row_1 ∷ []);
  next = 8;
  jobs = built_job 2 0 (codes "2") None ∷ built_job 4 1 (codes "2") (Some 0) ∷ [];
  fair = record { tickets = built_ticket 2 false 10000 ∷ []; next = 30000 ∷ 10000 ∷ 20 ∷ []; rates = 1 ∷ 2 ∷ 1000 ∷ []; paused = false ∷ []; hints = empty };
}

abbrev pub reply_12 : Done
reply_12 = record (quiet 12 8) { note = note.Started (built_order 4 1 (codes "2")); changed = (3, Active 3 Running) ∷ [] }

pub step_12 : step core_11 (at 0 (what.Take 0)) ≡ Accepted core_12 reply_12
step_12 = answered all (keyed row_5 ∷ keyed row_4 ∷ keyed row_3 ∷ keyed row_2 ∷ keyed row_1 ∷ []) core_11 all (keyed row_5 ∷ keyed row_4 ∷ keyed row_3 ∷ keyed row_2 ∷ keyed row_1 ∷ []) _ (refl) refl refl refl refl (changed_same 0 (Fine (value.Words (codes "two"))) (Active 1 Ready ∷ Fine (value.Words (codes "three")) ∷ Active 3 Ready ∷ Fine (value.Words (codes "four")) ∷ Fine (value.Words (codes "five")) ∷ Fine (value.Words (codes "one")) ∷ []) (Active 1 Ready ∷ Fine (value.Words (codes "three")) ∷ Active 3 Running ∷ Fine (value.Words (codes "four")) ∷ Fine (value.Words (codes "five")) ∷ Fine (value.Words (codes "one")) ∷ []) ∙ (changed_same 1 (Active 1 Ready) (Fine (value.Words (codes "three")) ∷ Active 3 Ready ∷ Fine (value.Words (codes "four")) ∷ Fine (value.Words (codes "five")) ∷ Fine (value.Words (codes "one")) ∷ []) (Fine (value.Words (codes "three")) ∷ Active 3 Running ∷ Fine (value.Words (codes "four")) ∷ Fine (value.Words (codes "five")) ∷ Fine (value.Words (codes "one")) ∷ []) ∙ (changed_same 2 (Fine (value.Words (codes "three"))) (Active 3 Ready ∷ Fine (value.Words (codes "four")) ∷ Fine (value.Words (codes "five")) ∷ Fine (value.Words (codes "one")) ∷ []) (Active 3 Running ∷ Fine (value.Words (codes "four")) ∷ Fine (value.Words (codes "five")) ∷ Fine (value.Words (codes "one")) ∷ []) ∙ (ap (λ later. (3, Active 3 Running) ∷ later) (changed_same 4 (Fine (value.Words (codes "four"))) (Fine (value.Words (codes "five")) ∷ Fine (value.Words (codes "one")) ∷ []) (Fine (value.Words (codes "five")) ∷ Fine (value.Words (codes "one")) ∷ []) ∙ (changed_same 5 (Fine (value.Words (codes "five"))) (Fine (value.Words (codes "one")) ∷ []) (Fine (value.Words (codes "one")) ∷ []) ∙ (changed_same 6 (Fine (value.Words (codes "one"))) ([]) ([]))))))))

abbrev pub core_13 : CoreState
core_13 = record {
  program = pipeline;
  threshold = None;
  now = 0;
  version = 13;
  inputs = [];
  rows = from_entries (keyed row_6 ∷ keyed row_5 ∷ keyed row_4 ∷ keyed row_3 ∷ keyed row_2 ∷ keyed row_1 ∷ []);
  next = 8;
  jobs = built_job 2 0 (codes "2") None ∷ [];
  fair = record { tickets = built_ticket 2 false 10000 ∷ []; next = 30000 ∷ 10000 ∷ 20 ∷ []; rates = 1 ∷ 2 ∷ 1000 ∷ []; paused = false ∷ []; hints = empty };
}

abbrev pub reply_13 : Done
reply_13 = record (quiet 13 8) { note = note.Ended 4 ending.Fine; changed = (3, Fine (value.Words (codes "six"))) ∷ []; delta = record (next_alone 8) { put = Some row_6; log = Some (4, codes "six\n") } }

pub step_13 : step core_12 (at 0 (ends 4 (codes "six\n"))) ≡ Accepted core_13 reply_13
unfolding is_utf8 chars encode_utf8
step_13 = answered all (keyed row_5 ∷ keyed row_4 ∷ keyed row_3 ∷ keyed row_2 ∷ keyed row_1 ∷ []) core_12 all (keyed row_6 ∷ keyed row_5 ∷ keyed row_4 ∷ keyed row_3 ∷ keyed row_2 ∷ keyed row_1 ∷ []) _ (refl) refl refl refl refl (changed_same 0 (Fine (value.Words (codes "two"))) (Active 1 Ready ∷ Fine (value.Words (codes "three")) ∷ Active 3 Running ∷ Fine (value.Words (codes "four")) ∷ Fine (value.Words (codes "five")) ∷ Fine (value.Words (codes "one")) ∷ []) (Active 1 Ready ∷ Fine (value.Words (codes "three")) ∷ Fine (value.Words (codes "six")) ∷ Fine (value.Words (codes "four")) ∷ Fine (value.Words (codes "five")) ∷ Fine (value.Words (codes "one")) ∷ []) ∙ (changed_same 1 (Active 1 Ready) (Fine (value.Words (codes "three")) ∷ Active 3 Running ∷ Fine (value.Words (codes "four")) ∷ Fine (value.Words (codes "five")) ∷ Fine (value.Words (codes "one")) ∷ []) (Fine (value.Words (codes "three")) ∷ Fine (value.Words (codes "six")) ∷ Fine (value.Words (codes "four")) ∷ Fine (value.Words (codes "five")) ∷ Fine (value.Words (codes "one")) ∷ []) ∙ (changed_same 2 (Fine (value.Words (codes "three"))) (Active 3 Running ∷ Fine (value.Words (codes "four")) ∷ Fine (value.Words (codes "five")) ∷ Fine (value.Words (codes "one")) ∷ []) (Fine (value.Words (codes "six")) ∷ Fine (value.Words (codes "four")) ∷ Fine (value.Words (codes "five")) ∷ Fine (value.Words (codes "one")) ∷ []) ∙ (ap (λ later. (3, Fine (value.Words (codes "six"))) ∷ later) (changed_same 4 (Fine (value.Words (codes "four"))) (Fine (value.Words (codes "five")) ∷ Fine (value.Words (codes "one")) ∷ []) (Fine (value.Words (codes "five")) ∷ Fine (value.Words (codes "one")) ∷ []) ∙ (changed_same 5 (Fine (value.Words (codes "five"))) (Fine (value.Words (codes "one")) ∷ []) (Fine (value.Words (codes "one")) ∷ []) ∙ (changed_same 6 (Fine (value.Words (codes "one"))) ([]) ([]))))))))

abbrev pub core_14 : CoreState
core_14 = record {
  program = pipeline;
  threshold = None;
  now = 0;
  version = 14;
  inputs = [];
  rows = from_entries (keyed row_6 ∷ keyed row_5 ∷ keyed row_4 ∷ keyed row_3 ∷ keyed row_2 ∷ keyed row_1 ∷ []);
  next = 8;
  jobs = built_job 2 0 (codes "2") (Some 0) ∷ [];
  fair = record { tickets = []; next = 30000 ∷ 10000 ∷ 20 ∷ []; rates = 1 ∷ 2 ∷ 1000 ∷ []; paused = false ∷ []; hints = empty };
}

abbrev pub reply_14 : Done
reply_14 = record (quiet 14 8) { note = note.Started (built_order 2 0 (codes "2")); changed = (1, Active 1 Running) ∷ [] }

pub step_14 : step core_13 (at 0 (what.Take 0)) ≡ Accepted core_14 reply_14
step_14 = answered all (keyed row_6 ∷ keyed row_5 ∷ keyed row_4 ∷ keyed row_3 ∷ keyed row_2 ∷ keyed row_1 ∷ []) core_13 all (keyed row_6 ∷ keyed row_5 ∷ keyed row_4 ∷ keyed row_3 ∷ keyed row_2 ∷ keyed row_1 ∷ []) _ (refl) refl refl refl refl (changed_same 0 (Fine (value.Words (codes "two"))) (Active 1 Ready ∷ Fine (value.Words (codes "three")) ∷ Fine (value.Words (codes "six")) ∷ Fine (value.Words (codes "four")) ∷ Fine (value.Words (codes "five")) ∷ Fine (value.Words (codes "one")) ∷ []) (Active 1 Running ∷ Fine (value.Words (codes "three")) ∷ Fine (value.Words (codes "six")) ∷ Fine (value.Words (codes "four")) ∷ Fine (value.Words (codes "five")) ∷ Fine (value.Words (codes "one")) ∷ []) ∙ (ap (λ later. (1, Active 1 Running) ∷ later) (changed_same 2 (Fine (value.Words (codes "three"))) (Fine (value.Words (codes "six")) ∷ Fine (value.Words (codes "four")) ∷ Fine (value.Words (codes "five")) ∷ Fine (value.Words (codes "one")) ∷ []) (Fine (value.Words (codes "six")) ∷ Fine (value.Words (codes "four")) ∷ Fine (value.Words (codes "five")) ∷ Fine (value.Words (codes "one")) ∷ []) ∙ (changed_same 3 (Fine (value.Words (codes "six"))) (Fine (value.Words (codes "four")) ∷ Fine (value.Words (codes "five")) ∷ Fine (value.Words (codes "one")) ∷ []) (Fine (value.Words (codes "four")) ∷ Fine (value.Words (codes "five")) ∷ Fine (value.Words (codes "one")) ∷ []) ∙ (changed_same 4 (Fine (value.Words (codes "four"))) (Fine (value.Words (codes "five")) ∷ Fine (value.Words (codes "one")) ∷ []) (Fine (value.Words (codes "five")) ∷ Fine (value.Words (codes "one")) ∷ []) ∙ (changed_same 5 (Fine (value.Words (codes "five"))) (Fine (value.Words (codes "one")) ∷ []) (Fine (value.Words (codes "one")) ∷ []) ∙ (changed_same 6 (Fine (value.Words (codes "one"))) ([]) ([]))))))))

abbrev pub core_15 : CoreState
core_15 = record {
  program = pipeline;
  threshold = None;
  now = 0;
  version = 15;
  inputs = [];
  rows = from_entries (keyed row_7 ∷ keyed row_6 ∷ keyed row_5 ∷ keyed row_4 ∷ keyed row_3 ∷ keyed row_2 ∷ keyed row_1 ∷ []);
  next = 8;
  jobs = [];
  fair = record { tickets = []; next = 30000 ∷ 10000 ∷ 20 ∷ []; rates = 1 ∷ 2 ∷ 1000 ∷ []; paused = false ∷ []; hints = empty };
}

abbrev pub reply_15 : Done
reply_15 = record (quiet 15 8) { note = note.Ended 2 ending.Fine; changed = (1, Fine (value.Words (codes "seven"))) ∷ []; delta = record (next_alone 8) { put = Some row_7; log = Some (2, codes "seven\n") } }

pub step_15 : step core_14 (at 0 (ends 2 (codes "seven\n"))) ≡ Accepted core_15 reply_15
unfolding is_utf8 chars encode_utf8
step_15 = answered all (keyed row_6 ∷ keyed row_5 ∷ keyed row_4 ∷ keyed row_3 ∷ keyed row_2 ∷ keyed row_1 ∷ []) core_14 all (keyed row_7 ∷ keyed row_6 ∷ keyed row_5 ∷ keyed row_4 ∷ keyed row_3 ∷ keyed row_2 ∷ keyed row_1 ∷ []) _ (refl) refl refl refl refl (changed_same 0 (Fine (value.Words (codes "two"))) (Active 1 Running ∷ Fine (value.Words (codes "three")) ∷ Fine (value.Words (codes "six")) ∷ Fine (value.Words (codes "four")) ∷ Fine (value.Words (codes "five")) ∷ Fine (value.Words (codes "one")) ∷ []) (Fine (value.Words (codes "seven")) ∷ Fine (value.Words (codes "three")) ∷ Fine (value.Words (codes "six")) ∷ Fine (value.Words (codes "four")) ∷ Fine (value.Words (codes "five")) ∷ Fine (value.Words (codes "one")) ∷ []) ∙ (ap (λ later. (1, Fine (value.Words (codes "seven"))) ∷ later) (changed_same 2 (Fine (value.Words (codes "three"))) (Fine (value.Words (codes "six")) ∷ Fine (value.Words (codes "four")) ∷ Fine (value.Words (codes "five")) ∷ Fine (value.Words (codes "one")) ∷ []) (Fine (value.Words (codes "six")) ∷ Fine (value.Words (codes "four")) ∷ Fine (value.Words (codes "five")) ∷ Fine (value.Words (codes "one")) ∷ []) ∙ (changed_same 3 (Fine (value.Words (codes "six"))) (Fine (value.Words (codes "four")) ∷ Fine (value.Words (codes "five")) ∷ Fine (value.Words (codes "one")) ∷ []) (Fine (value.Words (codes "four")) ∷ Fine (value.Words (codes "five")) ∷ Fine (value.Words (codes "one")) ∷ []) ∙ (changed_same 4 (Fine (value.Words (codes "four"))) (Fine (value.Words (codes "five")) ∷ Fine (value.Words (codes "one")) ∷ []) (Fine (value.Words (codes "five")) ∷ Fine (value.Words (codes "one")) ∷ []) ∙ (changed_same 5 (Fine (value.Words (codes "five"))) (Fine (value.Words (codes "one")) ∷ []) (Fine (value.Words (codes "one")) ∷ []) ∙ (changed_same 6 (Fine (value.Words (codes "one"))) ([]) ([]))))))))

abbrev pub core_16 : CoreState
core_16 = record {
  program = pipeline;
  threshold = None;
  now = 0;
  version = 16;
  inputs = [];
  rows = from_entries (keyed row_7 ∷ keyed row_6 ∷ keyed row_5 ∷ keyed row_4 ∷ keyed row_3 ∷ keyed row_2 ∷ keyed row_1 ∷ []);
  next = 8;
  jobs = [];
  fair = record { tickets = []; next = 30000 ∷ 10000 ∷ 20 ∷ []; rates = 1 ∷ 2 ∷ 1000 ∷ []; paused = true ∷ []; hints = empty };
}

abbrev pub reply_16 : Done
reply_16 = quiet 16 8

pub step_16 : step core_15 (at 0 (what.Pause (codes "w"))) ≡ Accepted core_16 reply_16
step_16 = answered all (keyed row_7 ∷ keyed row_6 ∷ keyed row_5 ∷ keyed row_4 ∷ keyed row_3 ∷ keyed row_2 ∷ keyed row_1 ∷ []) core_15 all (keyed row_7 ∷ keyed row_6 ∷ keyed row_5 ∷ keyed row_4 ∷ keyed row_3 ∷ keyed row_2 ∷ keyed row_1 ∷ []) _ (refl) refl refl refl refl (changed_same 0 (Fine (value.Words (codes "two"))) (Fine (value.Words (codes "seven")) ∷ Fine (value.Words (codes "three")) ∷ Fine (value.Words (codes "six")) ∷ Fine (value.Words (codes "four")) ∷ Fine (value.Words (codes "five")) ∷ Fine (value.Words (codes "one")) ∷ []) (Fine (value.Words (codes "seven")) ∷ Fine (value.Words (codes "three")) ∷ Fine (value.Words (codes "six")) ∷ Fine (value.Words (codes "four")) ∷ Fine (value.Words (codes "five")) ∷ Fine (value.Words (codes "one")) ∷ []) ∙ (changed_same 1 (Fine (value.Words (codes "seven"))) (Fine (value.Words (codes "three")) ∷ Fine (value.Words (codes "six")) ∷ Fine (value.Words (codes "four")) ∷ Fine (value.Words (codes "five")) ∷ Fine (value.Words (codes "one")) ∷ []) (Fine (value.Words (codes "three")) ∷ Fine (value.Words (codes "six")) ∷ Fine (value.Words (codes "four")) ∷ Fine (value.Words (codes "five")) ∷ Fine (value.Words (codes "one")) ∷ []) ∙ (changed_same 2 (Fine (value.Words (codes "three"))) (Fine (value.Words (codes "six")) ∷ Fine (value.Words (codes "four")) ∷ Fine (value.Words (codes "five")) ∷ Fine (value.Words (codes "one")) ∷ []) (Fine (value.Words (codes "six")) ∷ Fine (value.Words (codes "four")) ∷ Fine (value.Words (codes "five")) ∷ Fine (value.Words (codes "one")) ∷ []) ∙ (changed_same 3 (Fine (value.Words (codes "six"))) (Fine (value.Words (codes "four")) ∷ Fine (value.Words (codes "five")) ∷ Fine (value.Words (codes "one")) ∷ []) (Fine (value.Words (codes "four")) ∷ Fine (value.Words (codes "five")) ∷ Fine (value.Words (codes "one")) ∷ []) ∙ (changed_same 4 (Fine (value.Words (codes "four"))) (Fine (value.Words (codes "five")) ∷ Fine (value.Words (codes "one")) ∷ []) (Fine (value.Words (codes "five")) ∷ Fine (value.Words (codes "one")) ∷ []) ∙ (changed_same 5 (Fine (value.Words (codes "five"))) (Fine (value.Words (codes "one")) ∷ []) (Fine (value.Words (codes "one")) ∷ []) ∙ (changed_same 6 (Fine (value.Words (codes "one"))) ([]) ([]))))))))

abbrev pub core_17 : CoreState
core_17 = record {
  program = pipeline;
  threshold = None;
  now = 0;
  version = 17;
  inputs = [];
  rows = from_entries (keyed row_7 ∷ keyed row_6 ∷ keyed row_5 ∷ keyed row_4 ∷ keyed row_3 ∷ keyed row_2 ∷ keyed row_1 ∷ []);
  next = 8;
  jobs = [];
  fair = record { tickets = []; next = 30000 ∷ 10000 ∷ 20 ∷ []; rates = 1 ∷ 2 ∷ 1000 ∷ []; paused = true ∷ []; hints = empty };
}

abbrev pub reply_17 : Done
reply_17 = quiet 17 8

pub step_17 : step core_16 (at 0 (what.Tick)) ≡ Accepted core_17 reply_17
step_17 = answered all (keyed row_7 ∷ keyed row_6 ∷ keyed row_5 ∷ keyed row_4 ∷ keyed row_3 ∷ keyed row_2 ∷ keyed row_1 ∷ []) core_16 all (keyed row_7 ∷ keyed row_6 ∷ keyed row_5 ∷ keyed row_4 ∷ keyed row_3 ∷ keyed row_2 ∷ keyed row_1 ∷ []) _ (refl) refl refl refl refl (changed_same 0 (Fine (value.Words (codes "two"))) (Fine (value.Words (codes "seven")) ∷ Fine (value.Words (codes "three")) ∷ Fine (value.Words (codes "six")) ∷ Fine (value.Words (codes "four")) ∷ Fine (value.Words (codes "five")) ∷ Fine (value.Words (codes "one")) ∷ []) (Fine (value.Words (codes "seven")) ∷ Fine (value.Words (codes "three")) ∷ Fine (value.Words (codes "six")) ∷ Fine (value.Words (codes "four")) ∷ Fine (value.Words (codes "five")) ∷ Fine (value.Words (codes "one")) ∷ []) ∙ (changed_same 1 (Fine (value.Words (codes "seven"))) (Fine (value.Words (codes "three")) ∷ Fine (value.Words (codes "six")) ∷ Fine (value.Words (codes "four")) ∷ Fine (value.Words (codes "five")) ∷ Fine (value.Words (codes "one")) ∷ []) (Fine (value.Words (codes "three")) ∷ Fine (value.Words (codes "six")) ∷ Fine (value.Words (codes "four")) ∷ Fine (value.Words (codes "five")) ∷ Fine (value.Words (codes "one")) ∷ []) ∙ (changed_same 2 (Fine (value.Words (codes "three"))) (Fine (value.Words (codes "six")) ∷ Fine (value.Words (codes "four")) ∷ Fine (value.Words (codes "five")) ∷ Fine (value.Words (codes "one")) ∷ []) (Fine (value.Words (codes "six")) ∷ Fine (value.Words (codes "four")) ∷ Fine (value.Words (codes "five")) ∷ Fine (value.Words (codes "one")) ∷ []) ∙ (changed_same 3 (Fine (value.Words (codes "six"))) (Fine (value.Words (codes "four")) ∷ Fine (value.Words (codes "five")) ∷ Fine (value.Words (codes "one")) ∷ []) (Fine (value.Words (codes "four")) ∷ Fine (value.Words (codes "five")) ∷ Fine (value.Words (codes "one")) ∷ []) ∙ (changed_same 4 (Fine (value.Words (codes "four"))) (Fine (value.Words (codes "five")) ∷ Fine (value.Words (codes "one")) ∷ []) (Fine (value.Words (codes "five")) ∷ Fine (value.Words (codes "one")) ∷ []) ∙ (changed_same 5 (Fine (value.Words (codes "five"))) (Fine (value.Words (codes "one")) ∷ []) (Fine (value.Words (codes "one")) ∷ []) ∙ (changed_same 6 (Fine (value.Words (codes "one"))) ([]) ([]))))))))
