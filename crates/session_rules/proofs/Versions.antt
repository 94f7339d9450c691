-- The version rises by one at each commit: in a part, and from the opening on.
use Rattle.std.proofs.Common.{◌≡◌, ℕ, zero, suc, ◌+◌, List, [], ◌∷◌, ◌++◌, length, refl, subst, arith, ◌-◌, sym}
use Rattle.std.specs.Prelude.{IfSome, true, false, if◌then◌else◌, take, nat_lt}
use Rattle.std.specs.declared.option.Option.{Option}
use Rattle.std.specs.declared.option.Option.TheVariants.{None, Some}
use Rattle.std.specs.declared.result.Result.{Result}
use Rattle.std.specs.declared.result.Result.TheVariants.{Ok, Err}
use Rattle.io_ends.specs.Lines.{TextLine, Bytes, Long}
use Rattle.io_ends.specs.Known.{content_now}
use Rattle.value_core.specs.declared.text.TextFault.{TextFault}
use Rattle.value_core.specs.declared.value.Value.TheVariants as value
use Rattle.value_core.specs.Reading.{text_read}
use Rattle.term_core.specs.declared.program.InputDecl.{InputDecl}
use Rattle.term_core.specs.declared.program.Program.{Program}
use Rattle.op_keys.specs.declared.level.Level.{Level}
use Rattle.core_rules.specs.declared.done.Done.{Done}
use Rattle.core_rules.specs.declared.events.What.{What}
use Rattle.core_rules.specs.declared.events.What.TheVariants as what
use Rattle.core_rules.specs.declared.notes.Note.{Note}
use Rattle.core_rules.specs.declared.notes.Note.TheVariants as note
use Rattle.core_rules.specs.Core.{CoreState}
use Rattle.core_rules.specs.Openings.{Durable, opened, start}
use Rattle.core_rules.specs.Settling.{wanted}
use Rattle.core_rules.specs.Steps.{Answer, Refused, Idle, Accepted}
use Rattle.core_rules.proofs.Invariant.{version_rises}
use Rattle.core_rules.proofs.Settling.{same_settled}
use Rattle.report_text.specs.declared.controls.Control.{Control}
use Rattle.report_text.specs.declared.controls.Control.TheVariants.{Empty, Event, Poll, Jobs, Quit}
use Rattle.report_text.specs.declared.watched.WatchFault.{WatchFault}
use Rattle.report_text.specs.Controls.{control_read}
use Rattle.report_text.specs.Lines.{refusal_words}
use Rattle.session_rules.specs.Outputs.{Output, Commit, Print, Run, deltas, exits}
use Rattle.session_rules.specs.Outside.{Outside}
use Rattle.session_rules.specs.Parts.{Turn, Part, Does, does, nothing, go_on, followed, then_do}
use Rattle.session_rules.specs.Scenes.{Scene, at_content, at_reading, exit_now, exits_later, expecting}
use Rattle.session_rules.specs.Steps.{Counting, all_orders, answer_to, answered, counted, end_of, event, event_at, free_worker, next_order, one_order, order_limit, orders, pause_outputs, refused, run_after, run_of}
use Rattle.session_rules.specs.Watching.{content_found, faulty, has_text, set_text, text_found, watch_all, watch_fault, watch_from, watch_limit, watch_one}
use Rattle.session_rules.specs.Sessions.{Script}
use Rattle.session_rules.specs.Versions.{FinishesCounted, ReachesCounted}
use Rattle.session_rules.specs.Transcripts.{End, Transcript, asked_part, event_now, is_quit, line_part, lines_from, next_line, orders_after}
use Rattle.session_rules.proofs.Scripts.{line_script, next_is, part_reaches, reaches_finishes, reaches_start, reaches_then, script_for, script_from, script_of}

-- a turn leaves the version that it found, and one more for each commit
abbrev pub Counts : Scene → Turn → Type 0
Counts s w = IfSome w.scene (λ t. t.core.version ≡ s.core.version + length (deltas w.outputs))

-- so does each turn of a part
abbrev pub CountsIn : Part → Type 0
CountsIn p = (s : Scene) → Counts s (p s)

-- ---- outputs, one after the other

deltas_append : (xs ys : List Output) → length (deltas (xs ++ ys)) ≡ length (deltas xs) + length (deltas ys)
deltas_append [] ys = omega arith
deltas_append (Commit d ∷ xs) ys = let rest = deltas_append xs ys in omega (arith, rest)
deltas_append (Print t ∷ xs) ys = deltas_append xs ys
deltas_append (Run o x ∷ xs) ys = deltas_append xs ys

-- the commits of outputs after others
pub more_deltas : (xs ys : List Output) (was now last : ℕ) → now ≡ was + length (deltas xs) → last ≡ now + length (deltas ys) → last ≡ was + length (deltas (xs ++ ys))
more_deltas xs ys was now last first second = let both = deltas_append xs ys in omega (arith, first, second, both)

plain : (v : ℕ) → v ≡ v + 0
plain v = omega arith

-- ---- one turn after another

preceding : (s t : Scene) (outputs more : List Output) (o : Option Scene) → t.core.version ≡ s.core.version + length (deltas outputs) → Counts t (record { outputs = more; scene = o }) →
    Counts s (record { outputs = outputs ++ more; scene = o })
preceding s t outputs more None first second = tt
preceding s t outputs more (Some u) first second = more_deltas outputs more s.core.version t.core.version u.core.version first second

going : (s : Scene) (outputs : List Output) (o : Option Scene) (q : Part) → Counts s (record { outputs = outputs; scene = o }) → CountsIn q → Counts s (go_on outputs o q)
going s outputs None q first next = tt
going s outputs (Some t) q first next = preceding s t outputs (q t).outputs (q t).scene first (next t)

-- a turn, and the part that follows it
pub counts_followed : (s : Scene) (w : Turn) (q : Part) → Counts s w → CountsIn q → Counts s (followed w q)
counts_followed s w q first next = going s w.outputs w.scene q first next

pub counts_then : (p q : Part) → CountsIn p → CountsIn q → CountsIn (then_do p q)
counts_then p q first next s = counts_followed s (p s) q (first s) next

-- ---- events

line_counts : (s : Scene) (o : Option (List ℕ)) → Counts s (refused s o)
line_counts s None = tt
line_counts s (Some why) = plain s.core.version

answer_counts : (n : Option ℕ) (s : Scene) (a : Answer) → ((c : CoreState) (r : Done) → a ≡ Accepted c r → c.version ≡ s.core.version + 1) → Counts s (answered n s a)
answer_counts n s (Refused r) rises = line_counts s (refusal_words r)
answer_counts n s (Idle r) rises = plain s.core.version
answer_counts n s (Accepted c r) rises = rises c r refl

pub event_counts : (counting : Counting) (w : What) → CountsIn (event counting w)
event_counts counting w s =
    answer_counts (counted counting s.core (event_at w s)) s (answer_to w s) (λ c r is. version_rises s.core (event_at w s) c r is)

-- ---- orders

noted_counts : (counting : Counting) (n : Note) → CountsIn (run_of counting n)
noted_counts counting (note.Started o) s =
    counts_followed s (does (Run o (exit_now s.exits) ∷ []) (expecting (exits_later s.exits) s)) (end_of counting o.job (exit_now s.exits)) (plain s.core.version)
    (λ t. event_counts counting (what.Finish o.job (exit_now s.exits)) (at_reading t))
noted_counts counting note.Plain s = plain s.core.version
noted_counts counting (note.Ended job e) s = plain s.core.version
noted_counts counting note.Nothing s = plain s.core.version
noted_counts counting note.Ignored s = plain s.core.version

taken_counts : (counting : Counting) (a : Answer) → CountsIn (run_after counting a)
taken_counts counting (Accepted c r) s = noted_counts counting r.note s
taken_counts counting (Idle r) s = plain s.core.version
taken_counts counting (Refused r) s = plain s.core.version

order_counts : (counting : Counting) (w : ℕ) → CountsIn (one_order counting w)
order_counts counting w s =
    counts_followed s (event counting (what.Take w) s) (run_after counting (answer_to (what.Take w) s)) (event_counts counting (what.Take w) s)
    (taken_counts counting (answer_to (what.Take w) s))

pause_counts : (s : Scene) (o : Option ℕ) → Counts s (does (pause_outputs o) s)
pause_counts s None = plain s.core.version
pause_counts s (Some w) = plain s.core.version

next_counts : (counting : Counting) (more : Part) → CountsIn more → (s : Scene) (o : Option ℕ) → Counts s (next_order counting more s o)
next_counts counting more rest s None = plain s.core.version
next_counts counting more rest s (Some w) = counts_followed s (one_order counting w s) more (order_counts counting w s) rest

some_orders_count : (counting : Counting) (n : ℕ) → CountsIn (orders counting n)
some_orders_count counting zero s = pause_counts s (free_worker s)
some_orders_count counting (suc n) s = next_counts counting (orders counting n) (some_orders_count counting n) s (free_worker s)

pub orders_count : (counting : Counting) → CountsIn (all_orders counting)
unfolding all_orders
orders_count counting s = some_orders_count counting order_limit s

-- ---- watched files

faulty_counts : (name : List ℕ) (o : Option WatchFault) → CountsIn (faulty name o)
faulty_counts name None s = plain s.core.version
faulty_counts name (Some f) s = plain s.core.version

set_counts : (counting : Counting) (index : ℕ) (name t : List ℕ) → CountsIn (set_text counting index name t)
set_counts counting index name t s = elim (has_text s.core index t)
    as (λ b. Counts s (if b then nothing s else event counting (what.SetInput name (value.Words t)) s)) [
      | true ↦ plain s.core.version
      | false ↦ event_counts counting (what.SetInput name (value.Words t)) s
    ]

found_counts : (counting : Counting) (index : ℕ) (name : List ℕ) (r : Result (List ℕ) TextFault) → CountsIn (text_found counting index name r)
found_counts counting index name (Ok t) s = set_counts counting index name t s
found_counts counting index name (Err f) s = faulty_counts name (watch_fault f) s

content_counts : (counting : Counting) (index : ℕ) (name : List ℕ) (o : Option (List ℕ)) → CountsIn (content_found counting index name o)
content_counts counting index name None s = plain s.core.version
content_counts counting index name (Some content) s = found_counts counting index name (text_read (take (watch_limit + 1) content)) s

file_counts : (counting : Counting) (index : ℕ) (name : List ℕ) (path : Option (List ℕ)) → CountsIn (watch_one counting index name path)
file_counts counting index name None s = plain s.core.version
file_counts counting index name (Some path) s = content_counts counting index name (content_now (s.contents path)) (at_content path s)

files_count : (counting : Counting) (index : ℕ) (ds : List InputDecl) → CountsIn (watch_from counting index ds)
files_count counting index [] s = plain s.core.version
files_count counting index (d ∷ ds) s =
    counts_then (watch_one counting index d.name d.watch) (watch_from counting (index + 1) ds) (file_counts counting index d.name d.watch) (files_count counting (index + 1) ds) s

pub watch_counts : (counting : Counting) → CountsIn (watch_all counting)
unfolding watch_all
watch_counts counting s = files_count counting 0 s.core.program.inputs s

-- ---- lines

after_counts : (counting : Counting) (a : Answer) → CountsIn (orders_after counting a)
after_counts counting (Accepted c r) s = orders_count counting s
after_counts counting (Idle r) s = plain s.core.version
after_counts counting (Refused r) s = plain s.core.version

now_counts : (counting : Counting) (w : What) → CountsIn (event_now counting w)
now_counts counting w s =
    counts_followed s (event counting w s) (orders_after counting (answer_to w s)) (event_counts counting w s) (after_counts counting (answer_to w s))

asked_counts : (counting : Counting) (o : Option Control) → CountsIn (asked_part counting o)
asked_counts counting None s = plain s.core.version
asked_counts counting (Some Empty) s = plain s.core.version
asked_counts counting (Some (Event w)) s = now_counts counting w (at_reading s)
asked_counts counting (Some Poll) s = counts_then (watch_all counting) (all_orders counting) (watch_counts counting) (orders_count counting) (at_reading s)
asked_counts counting (Some Jobs) s = plain s.core.version
asked_counts counting (Some Quit) s = plain s.core.version

pub line_counts_in : (counting : Counting) (line : TextLine) → CountsIn (line_part counting line)
line_counts_in counting (Bytes line) s = asked_counts counting (control_read line) s
line_counts_in counting Long s = plain s.core.version

-- ---- a part that was done

-- the version rose by the number of its commits
pub does_counts : (p : Part) (s t : Scene) (e e' : Outside) → CountsIn p → (x : Does p s t e e') → t.core.version ≡ s.core.version + length (deltas x.outputs)
does_counts p s t e e' counts x = subst (λ (w : Turn). Counts s w) (x.goes []) (counts (expecting (exits x.outputs ++ []) s))

-- ---- the opening

-- a session begins with version 1
pub start_version : (program : Program) (durable : Durable) (threshold : Option Level) (reading : ℕ) (s : CoreState) → start program durable threshold reading ≡ Some s → s.version ≡ 1
unfolding start
start_version program durable threshold reading s is =
    let o : CoreState = opened program durable threshold reading in
    (same_settled (wanted o) o s is).version

-- ---- a script that was done

pub rises_start : (t : Script) (v : ℕ) (e : Outside) → ReachesCounted t t v v e e
unfolding reaches_start
rises_start t v e = record { reaches = reaches_start t e; versions = plain v }

pub rises_then : (t u v : Script) (was now last : ℕ) (a b c : Outside) → ReachesCounted t u was now a b → ReachesCounted u v now last b c → ReachesCounted t v was last a c
unfolding reaches_then
rises_then t u v was now last a b c x y = record {
  reaches = reaches_then t u v a b c x.reaches y.reaches;
  versions = more_deltas x.reaches.outputs y.reaches.outputs was now last x.versions y.versions;
}

-- and then to its end
pub rises_finishes : (t u : Script) (end : End) (was now last : ℕ) (a b c : Outside) → ReachesCounted t u was now a b → FinishesCounted u end now last b c → FinishesCounted t end was last a c
unfolding reaches_finishes
rises_finishes t u end was now last a b c x y = record {
  finishes = reaches_finishes t u end a b c x.reaches y.finishes;
  versions = more_deltas x.reaches.outputs y.finishes.outputs was now last x.versions y.versions;
}

-- a part was done
pub part_rises : (p : Part) (s t : Scene) (next : Scene → Transcript) (a b : Outside) → CountsIn p → Does p s t a b → ReachesCounted (script_of p s next) (script_from next t) s.core.version t.core.version a b
unfolding part_reaches
part_rises p s t next a b counts x = record { reaches = part_reaches p s t next a b x; versions = does_counts p s t a b counts x }

-- a line was done, and others may follow
pub line_rises : (counting : Counting) (line : TextLine) (lines : List TextLine) (n : ℕ) (s t : Scene) (a b : Outside) → is_quit line ≡ false → nat_lt 1 n ≡ true → Does (line_part counting line) s t a b →
    ReachesCounted (script_for counting (line ∷ lines) n s) (script_for counting lines (n - 1) t) s.core.version t.core.version a b
line_rises counting line lines n s t a b goes more x =
    rw (line_script counting line lines n s goes, sym (next_is counting line lines n t more))
    (part_rises (line_part counting line) s t (next_line n (lines_from counting lines)) a b (line_counts_in counting line) x)
