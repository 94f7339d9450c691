-- How a session goes on by the answers of its steps.
use Rattle.std.proofs.Common.{◌≡◌, ℕ, suc, List, [], ◌∷◌, ◌++◌, map, length, refl, sym, ap, ◌∙◌, arith}
use Rattle.std.specs.FinMap.{empty, entries, len-empty, len-entries}
use Rattle.std.specs.declared.cmp.Ordering.{Ordering}
use Rattle.std.specs.Prelude.{Bool, true, false, Option, Some, None, nat_lt, ◌-◌, if◌then◌else◌}
use Rattle.io_ends.specs.Lines.{TextLine, Bytes, lines_of}
use Rattle.term_core.specs.Fresh.{FreshRun}
use Rattle.op_keys.specs.declared.order.Order.{Order}
use Rattle.core_rules.specs.declared.events.What.{What}
use Rattle.core_rules.specs.declared.events.What.TheVariants as what
use Rattle.core_rules.specs.declared.events.Refusal.{Refusal}
use Rattle.core_rules.specs.declared.notes.Note.{Note}
use Rattle.core_rules.specs.declared.notes.Note.TheVariants as note
use Rattle.core_rules.specs.Core.{CoreState}
use Rattle.core_rules.specs.Entries.{fresh_of}
use Rattle.core_rules.specs.Openings.{Durable, opening_reply, rows_in, start}
use Rattle.core_rules.proofs.WorkedRuns.{nothing_stored}
use Rattle.op_keys.specs.declared.level.Level.{Level}
use Rattle.term_core.specs.declared.program.Program.{Program}
use Rattle.value_core.specs.Orders.{bytes_cmp}
use Rattle.keeper_core.specs.declared.tables.CacheValue.{CacheValue}
use Rattle.keeper_core.specs.Contents.{cache_row, fresh, input_row, key_cmp, loaded}
use Rattle.keeper_core.specs.Durables.{durable_of, row_of, values_of}
use Rattle.keeper_core.proofs.TablesKept.{fresh_well_formed}
use Rattle.core_rules.specs.declared.done.Done.{Done}
use Rattle.core_rules.specs.Replies.{changed_from, new_conflicts, next_alone}
use Rattle.core_rules.specs.Steps.{Answer, Refused, Accepted, step}
use Rattle.report_text.specs.declared.controls.Control.{Control}
use Rattle.report_text.specs.Controls.{control_read}
use Rattle.report_text.specs.Lines.{refusal_words, refused_line}
use Rattle.session_rules.specs.Outputs.{Output, Print, Run}
use Rattle.session_rules.specs.Parts.{Turn, does, nothing, preceded, followed, then_do}
use Rattle.session_rules.specs.Scenes.{Ends, Scene, exit_now, exits_later, reading_now, readings_later}
use Rattle.session_rules.specs.Steps.{Counting, answer_to, answered, all_orders, counted, event_at, free_worker, next_order, one_order, orders, refused, run_after, run_of, step_outputs}
use Rattle.session_rules.specs.Transcripts.{Quits, Limit, asked_part, before, before_lines, continued, ended, event_now, first_scene, is_end, line_count, lines_from, next_line, opening_part, orders_after, session_of, session_on, transcript}
use Rattle.session_rules.specs.Watching.{watch_all}

module _ (counting : Counting) (s : Scene) where
  -- ---- orders

  -- the scene after an order
  abbrev pub after_order : CoreState → Scene
  after_order c = record s { core = c; last = reading_now s.readings; readings = readings_later s.readings; exits = exits_later s.exits }

  -- all that an order does
  abbrev pub order_outputs : ℕ → Order → CoreState → Done → CoreState → Done → List Output
  order_outputs w o c1 r1 c2 r2 =
      step_outputs (counted counting s.core (event_at (what.Take w) s)) c1 r1
      ++ Run o (exit_now s.exits) ∷ step_outputs (counted counting c1 (record { at = reading_now s.readings; what = what.Finish o.job (exit_now s.exits) })) c2 r2

  pub order_is : (w : ℕ) (o : Order) {c1 c2 : CoreState} {r1 r2 : Done} → answer_to (what.Take w) s ≡ Accepted c1 r1 → r1.note ≡ note.Started o →
      step c1 (record { at = reading_now s.readings; what = what.Finish o.job (exit_now s.exits) }) ≡ Accepted c2 r2 →
      one_order counting w s ≡ does (order_outputs w o c1 r1 c2 r2) (after_order c2)
  order_is w o {c1} {c2} {r1} {r2} takes starts ends =
      let s1 : Scene = record s { core = c1 } in
      let s3 : Scene = record s { core = c1; last = reading_now s.readings; readings = readings_later s.readings; exits = exits_later s.exits } in
      let first = counted counting s.core (event_at (what.Take w) s) in
      let last = counted counting c1 (event_at (what.Finish o.job (exit_now s.exits)) s3) in
      ap (λ (a : Answer). followed (answered first s a) (run_after counting a)) takes
      ∙ ap (λ (n : Note). preceded (step_outputs first c1 r1) (run_of counting n s1)) starts
      ∙ ap (λ (a : Answer). preceded (step_outputs first c1 r1) (preceded (Run o (exit_now s.exits) ∷ []) (answered last s3 a))) ends

  -- an order of the first worker that has a pick, and those after it
  pub orders_go : (n w : ℕ) {outputs : List Output} {t : Scene} → free_worker s ≡ Some w → one_order counting w s ≡ does outputs t →
      orders counting (suc n) s ≡ preceded outputs (orders counting n t)
  orders_go n w free is = ap (next_order counting (orders counting n) s) free ∙ ap (λ (v : Turn). followed v (orders counting n)) is

  -- no worker has a pick
  pub orders_end : (n : ℕ) → free_worker s ≡ None → orders counting (suc n) s ≡ does [] s
  orders_end n free = ap (next_order counting (orders counting n) s) free

  -- ---- events

  pub event_goes : (w : What) {c : CoreState} {r : Done} → answer_to w s ≡ Accepted c r → event_now counting w s ≡ preceded (step_outputs (counted counting s.core (event_at w s)) c r) (all_orders counting (record s { core = c }))
  event_goes w takes = ap (λ (a : Answer). followed (answered (counted counting s.core (event_at w s)) s a) (orders_after counting a)) takes

  pub event_refused : (w : What) {r : Refusal} {why : List ℕ} → answer_to w s ≡ Refused r → refusal_words r ≡ Some why → event_now counting w s ≡ does (Print (refused_line why) ∷ []) s
  event_refused w {r} {why} refuses words = ap (λ (a : Answer). followed (answered (counted counting s.core (event_at w s)) s a) (orders_after counting a)) refuses ∙ ap (λ (o : Option (List ℕ)). followed (refused s o) nothing) words

  -- ---- lines

  -- a line that asks for something, and those after it
  pub line_goes : (line : List ℕ) (lines : List TextLine) (n : ℕ) {asked : Option Control} {outputs : List Output} {t : Scene} → control_read line ≡ asked → is_end asked ≡ false →
      asked_part counting asked s ≡ does outputs t → nat_lt 1 n ≡ true →
      lines_from counting (Bytes line ∷ lines) n s ≡ before outputs (lines_from counting lines (n - 1) t)
  line_goes line lines n {asked} {outputs} {t} asks goes is more =
      ap (λ (c : Option Control). if is_end c then ended Quits else continued (asked_part counting c s) (next_line n (lines_from counting lines))) asks
      ∙ ap (λ (b : Bool). if b then ended Quits else continued (asked_part counting asked s) (next_line n (lines_from counting lines))) goes
      ∙ ap (λ (v : Turn). continued v (next_line n (lines_from counting lines))) is
      ∙ ap (λ (b : Bool). before outputs (if b then lines_from counting lines (n - 1) t else ended Limit)) more

-- ---- the opening

-- the reply of an opening, by what the nodes come to
abbrev pub opening_by : CoreState → FreshRun → Done
opening_by s f = record { note = note.Plain; version = 1; changed = changed_from 0 [] f.states; conflicts = new_conflicts [] f.wants; signals = []; delta = next_alone s.next }

pub opening_shown : (s : CoreState) (f : FreshRun) → fresh_of s ≡ f → opening_reply s ≡ opening_by s f
opening_shown s f is = ap (opening_by s) is

-- the session of a core that was opened, up to its first line
pub session_goes : (counting : Counting) (ends : Ends) (core : CoreState) {outputs : List Output} {t : Scene} → before_lines counting (first_scene ends core) ≡ does outputs t →
    session_of counting ends (Some core) ≡ before outputs (lines_from counting (lines_of ends.bytes) line_count t)
session_goes counting ends core is = ap (λ (w : Turn). continued w (lines_from counting (lines_of ends.bytes) line_count)) is

-- version 1, the files that are watched, and the orders before the first line
pub before_lines_are : (counting : Counting) (s : Scene) {first found outputs : List Output} {t u : Scene} → opening_part counting s ≡ does first s → watch_all counting s ≡ does found t → all_orders counting t ≡ does outputs u →
    before_lines counting s ≡ does (first ++ (found ++ outputs)) u
before_lines_are counting s {first} {found} {outputs} {t} {u} opens watched ordered =
    ap (λ (w : Turn). followed w (then_do (watch_all counting) (all_orders counting))) opens
    ∙ ap (λ (w : Turn). preceded first (followed w (all_orders counting))) watched
    ∙ ap (λ (w : Turn). preceded first (preceded found w)) ordered

-- ---- fresh tables

no_length : {A : Type 0} (xs : List A) → length xs ≡ 0 → xs ≡ []
no_length [] h = refl
no_length (x ∷ xs) h = absurd (omega (arith, h))

pub nothing_in : {K X : Type 0} (R : K → K → Ordering) → entries (empty {X = X} {R = R}) ≡ []
nothing_in {K} {X} R = no_length (entries (empty {X = X} {R = R})) (sym (len-entries (empty {X = X} {R = R})) ∙ len-empty R X)

-- a core opens on them with nothing stored
fresh_durable : durable_of (loaded fresh) ≡ nothing_stored
fresh_durable = λ i. record {
  inputs = values_of (map input_row (nothing_in {X = List ℕ} bytes_cmp i));
  rows = rows_in (map row_of (map cache_row (nothing_in {X = CacheValue} key_cmp i)));
  next = 1;
}

-- the session on fresh tables
pub fresh_goes : (p : Program) (threshold : Option Level) (counting : Counting) (ends : Ends) →
    transcript p (loaded fresh) threshold counting ends ≡ session_of counting ends (start p nothing_stored threshold (reading_now ends.readings))
fresh_goes p threshold counting ends =
    ap (session_on p (loaded fresh) threshold counting ends) fresh_well_formed
    ∙ ap (λ (d : Durable). session_of counting ends (start p d threshold (reading_now ends.readings))) fresh_durable
