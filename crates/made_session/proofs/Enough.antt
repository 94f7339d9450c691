-- The numbers of a session on the made pipeline are never used up.
use Rattle.std.proofs.Common.{◌≡◌, ℕ, zero, suc, ◌+◌, ◌-◌, ◌*◌, ◌^◌, ◌<◌, ◌≤◌, Bool, true, false, List, [], ◌∷◌, length, map, refl, sym, ap, subst, ◌∙◌, arith}
use Rattle.std.specs.Prelude.{◌==◌, if◌then◌else◌, is_some}
use Rattle.std.specs.List.{AllByRecursion}
use Rattle.std.specs.declared.option.Option.{Option}
use Rattle.std.specs.declared.option.Option.TheVariants.{None, Some}
use Rattle.std.proofs.lemmas.Bool.{lt-ltb}
use Rattle.io_ends.specs.Lines.{TextLine, Bytes, Long, lines_of}
use Rattle.value_core.specs.Parts.{items_in, items_layer, text_values}
use Rattle.value_core.specs.declared.value.Value.{Value, Value-F}
use Rattle.value_core.specs.declared.value.Value.TheVariants as value
use Rattle.value_core.proofs.Layers.{out_at}
use Rattle.op_keys.specs.declared.level.Level.{Level}
use Rattle.op_keys.specs.declared.order.Exit.{Exit}
use Rattle.term_core.specs.declared.program.InputDecl.{InputDecl}
use Rattle.term_core.specs.declared.program.Program.{Program}
use Rattle.core_rules.specs.Changes.{Change, Tried, Refuses, Idles, Makes}
use Rattle.core_rules.specs.Core.{CoreState}
use Rattle.core_rules.specs.Openings.{Durable, opened, or_declared, start, stored_at}
use Rattle.core_rules.specs.Settling as settling
use Rattle.core_rules.specs.Settling.{settle}
use Rattle.core_rules.specs.Steps.{Answer, Refused, Idle, Accepted, answer, at_time, change, settled_answer, step}
use Rattle.core_rules.specs.declared.events.Event.{Event}
use Rattle.core_rules.specs.declared.events.Refusal.TheVariants as refusal
use Rattle.core_rules.specs.declared.events.What.{What}
use Rattle.core_rules.specs.declared.events.What.TheVariants as what
use Rattle.core_rules.specs.declared.notes.Note.{Note}
use Rattle.core_rules.specs.declared.notes.Note.TheVariants as note
use Rattle.core_rules.proofs.Moves.{change_moves}
use Rattle.core_rules.proofs.Numbers.{frame_of}
use Rattle.core_rules.proofs.Settling.{same_settled}
use Rattle.report_text.specs.Lines.{refusal_words}
use Rattle.report_text.specs.declared.controls.Control.{Control}
use Rattle.report_text.specs.declared.controls.Control.TheVariants as control
use Rattle.report_text.specs.Controls.{control_read}
use Rattle.session_rules.specs.Commands.{digits_from, made_items, made_program}
use Rattle.session_rules.specs.Outputs.{Output, Run}
use Rattle.session_rules.specs.Parts.{Part, Turn, does, followed, go_on, then_do}
use Rattle.session_rules.specs.Scenes.{Ends, Scene, at_reading, exit_now, exits_later, expecting, reading_now}
use Rattle.session_rules.specs.Steps.{Counting, all_orders, answer_to, answered, counted, end_of, event, event_at, free_worker, next_order, one_order, orders, refused, run_after, run_of}
use Rattle.session_rules.specs.Transcripts.{Limit, Quits, Transcript, asked_part, before_lines, continued, ended, first_scene, goes_on, is_quit, line_count, line_part, lines_from, next_line, opening_part, orders_after, session_of}
use Rattle.session_rules.specs.Watching.{watch_all, watch_from}
use Rattle.made_session.proofs.Within.{values_length}
use Rattle.made_session.proofs.FewWants.{IsFew, Settles, few_wants, settles}
use Rattle.made_session.proofs.FewChanges.{AreFew, IsFewAfter, SetsFew, change_few}

-- ---- a step

module _ (n : ℕ) where
  -- an answer that uses up no numbers, and leaves the made pipeline with few items in its inputs
  abbrev IsFineStep : CoreState → Answer → Type 0
  IsFineStep s (Refused r) = is_some (refusal_words r) ≡ true
  IsFineStep s (Idle r) = Unit {0}
  IsFineStep s (Accepted t r) = (t.program ≡ made_program n) × AreFew t.inputs × (t.version ≡ s.version + 1) × (t.next ≤ s.next + 256)

  settled_fine : (s : CoreState) (c : Change) (x : Settles c.state) → c.state.program ≡ made_program n → AreFew c.state.inputs → c.state.next ≡ s.next → IsFineStep s (settled_answer s c (settle c.state))
  settled_fine s c x made few same =
      let kept = same_settled (settling.wanted c.state) c.state x.after x.is in
      let next = x.next in
      subst (λ (o : Option CoreState). IsFineStep s (settled_answer s c o)) (sym x.is)
      (kept.program ∙ made, subst AreFew (sym kept.inputs) few, refl, omega (arith, next, same))

  not_last : (version : ℕ) → version + 1 ≤ 2 ^ 64 - 1 → (version == 2 ^ 64 - 1) ≡ false
  not_last version room = grind (arith, room)

  module _ (s : CoreState) (e : Event) (made : s.program ≡ made_program n) (few : AreFew s.inputs) (set : SetsFew e.what) (version : s.version + 1 ≤ 2 ^ 64 - 1) (next : s.next + 256 ≤ 2 ^ 62) where
    tried_fine : (x : Tried) → change (at_time s e.at) e.what ≡ x → IsFewAfter x → IsFineStep s (answer s x)
    tried_fine (Refuses r) is h = h
    tried_fine (Idles m) is h = tt
    tried_fine (Makes c) is h =
        let frame = frame_of (at_time s e.at) c.state (change_moves (at_time s e.at) e.what c is) in
        let same = frame.next in
        let program : c.state.program ≡ made_program n = frame.program ∙ made in
        let x = settles c.state (few_wants n c.state program h) (omega (arith, same, next)) in
        subst (λ (b : Bool). IsFineStep s (if b then Refused refusal.NumbersUsed else settled_answer s c (settle c.state))) (sym (not_last s.version version))
        (settled_fine s c x program h same)

    step_fine : IsFineStep s (step s e)
    unfolding step
    step_fine = tried_fine (change (at_time s e.at) e.what) refl (change_few (at_time s e.at) few e.what set)

  -- ---- parts

  -- a scene of the made pipeline with numbers for so many events
  pub record Room (j : ℕ) (s : Scene) : Type 0 where
    pub program : s.core.program ≡ made_program n
    pub few : AreFew s.core.inputs
    pub version : s.core.version + j ≤ 2 ^ 64 - 1
    pub next : s.core.next + 256 * j ≤ 2 ^ 62

  -- a turn that leaves such a scene
  pub record Goes (j : ℕ) (t : Turn) : Type 0 where
    pub scene : Scene
    pub is : t.scene ≡ Some scene
    pub room : Room j scene

  -- a part of so many events at most
  abbrev Keeps : ℕ → Part → Type 0
  Keeps k part = (j : ℕ) (s : Scene) → Room (k + j) s → Goes j (part s)

  less : (i j : ℕ) (s : Scene) → j ≤ i → Room i s → Room j s
  less i j s fewer r =
      let version = r.version in
      let next = r.next in
      record { program = r.program; few = r.few; version = omega (arith, version, fewer); next = omega (arith, next, fewer) }

  -- the same scene but for its ends
  elsewhere : (j : ℕ) (s t : Scene) → t.core ≡ s.core → Room j s → Room j t
  elsewhere j s t same r = record {
    program = ap (λ (c : CoreState). c.program) same ∙ r.program;
    few = subst (λ (c : CoreState). AreFew c.inputs) (sym same) r.few;
    version = subst (λ (c : CoreState). c.version + j ≤ 2 ^ 64 - 1) (sym same) r.version;
    next = subst (λ (c : CoreState). c.next + 256 * j ≤ 2 ^ 62) (sym same) r.next;
  }

  stays : (k j : ℕ) (outputs : List Output) (s : Scene) → Room (k + j) s → Goes j (record { outputs = outputs; scene = Some s })
  stays k j outputs s r = record { scene = s; is = refl; room = less (k + j) j s (omega arith) r }

  after : (k j : ℕ) (t : Turn) (part : Part) → Goes (k + j) t → Keeps k part → Goes j (followed t part)
  after k j t part g keeps =
      let rest = keeps j g.scene g.room in
      record { scene = rest.scene; is = ap (λ (o : Option Scene). (go_on t.outputs o part).scene) g.is ∙ rest.is; room = rest.room }

  both : (k l : ℕ) (p q : Part) → Keeps k p → Keeps l q → Keeps (k + l) (then_do p q)
  both k l p q x y j s r = after l j (p s) q (x (l + j) s (less (k + l + j) (k + (l + j)) s (omega arith) r)) y

  -- ---- events

  refused_goes : (j : ℕ) (s : Scene) (o : Option (List ℕ)) → is_some o ≡ true → Room (1 + j) s → Goes j (refused s o)
  refused_goes j s None some r = absurd (let no : ⊥ = cc in no)
  refused_goes j s (Some why) some r = stays 1 j _ s r

  answered_goes : (j : ℕ) (m : Option ℕ) (s : Scene) (a : Answer) → IsFineStep s.core a → Room (1 + j) s → Goes j (answered m s a)
  answered_goes j m s (Refused why) fine r = refused_goes j s (refusal_words why) fine r
  answered_goes j m s (Idle done) fine r = stays 1 j _ s r
  answered_goes j m s (Accepted core done) fine r =
      let raised = fine.2 in
      let risen = fine.3 in
      let version = r.version in
      let next = r.next in
      record {
        scene = record s { core = core };
        is = refl;
        room = record { program = fine.0; few = fine.1; version = omega (arith, raised, version); next = omega (arith, risen, next) };
      }

  event_keeps : (counting : Counting) (w : What) → SetsFew w → Keeps 1 (event counting w)
  event_keeps counting w set j s r =
      let version = r.version in
      let next = r.next in
      answered_goes j (counted counting s.core (event_at w s)) s (answer_to w s)
      (step_fine s.core (event_at w s) r.program r.few set (omega (arith, version)) (omega (arith, next))) r

  -- ---- orders

  end_keeps : (counting : Counting) (job : ℕ) (x : Exit) → Keeps 1 (end_of counting job x)
  end_keeps counting job x j s r = event_keeps counting (what.Finish job x) tt j (at_reading s) (elsewhere (1 + j) s (at_reading s) refl r)

  run_keeps : (counting : Counting) (m : Note) → Keeps 1 (run_of counting m)
  run_keeps counting (note.Started o) j s r =
      let later : Scene = expecting (exits_later s.exits) s in
      after 1 j (does (Run o (exit_now s.exits) ∷ []) later) (end_of counting o.job (exit_now s.exits)) (record { scene = later; is = refl; room = elsewhere (1 + j) s later refl r }) (end_keeps counting o.job (exit_now s.exits))
  run_keeps counting note.Plain j s r = stays 1 j _ s r
  run_keeps counting (note.Ended job e) j s r = stays 1 j _ s r
  run_keeps counting note.Nothing j s r = stays 1 j _ s r
  run_keeps counting note.Ignored j s r = stays 1 j _ s r

  run_after_keeps : (counting : Counting) (a : Answer) → Keeps 1 (run_after counting a)
  run_after_keeps counting (Accepted core done) j s r = run_keeps counting done.note j s r
  run_after_keeps counting (Idle done) j s r = stays 1 j _ s r
  run_after_keeps counting (Refused why) j s r = stays 1 j _ s r

  one_keeps : (counting : Counting) (w : ℕ) → Keeps 2 (one_order counting w)
  one_keeps counting w j s r =
      after 1 j (event counting (what.Take w) s) (run_after counting (answer_to (what.Take w) s))
      (event_keeps counting (what.Take w) tt (1 + j) s (less (2 + j) (1 + (1 + j)) s (omega arith) r))
      (run_after_keeps counting (answer_to (what.Take w) s))

  next_keep : (counting : Counting) (k j : ℕ) (s : Scene) (o : Option ℕ) → Keeps (2 * k) (orders counting k) → Room (2 * suc k + j) s → Goes j (next_order counting (orders counting k) s o)
  next_keep counting k j s None more r = stays (2 * suc k) j _ s r
  next_keep counting k j s (Some w) more r =
      after (2 * k) j (one_order counting w s) (orders counting k)
      (one_keeps counting w (2 * k + j) s (less (2 * suc k + j) (2 + (2 * k + j)) s (omega arith) r)) more

  orders_keep : (counting : Counting) (k : ℕ) → Keeps (2 * k) (orders counting k)
  orders_keep counting zero j s r = stays 0 j _ s r
  orders_keep counting (suc k) j s r = next_keep counting k j s (free_worker s) (orders_keep counting k) r

  all_keep : (counting : Counting) → Keeps 2000 (all_orders counting)
  unfolding all_orders
  all_keep counting j s r = orders_keep counting 1000 j s (less (2000 + j) (2 * 1000 + j) s (omega arith) r)

  -- ---- lines

  watch_keep : (counting : Counting) → Keeps 0 (watch_all counting)
  unfolding watch_all
  watch_keep counting j s r =
      let none : Goes j (watch_from counting 0 (made_program n).inputs s) = record { scene = s; is = refl; room = less (0 + j) j s (omega arith) r } in
      subst (λ (p : Program). Goes j (watch_from counting 0 p.inputs s)) (sym r.program) none

  -- what a line asks for sets no input to a value with more items
  abbrev pub IsFewControl : Option Control → Type 0
  IsFewControl None = Unit {0}
  IsFewControl (Some (control.Event w)) = SetsFew w
  IsFewControl (Some c) = Unit {0}

  abbrev pub IsFewLine : TextLine → Type 0
  IsFewLine (Bytes line) = IsFewControl (control_read line)
  IsFewLine Long = Unit {0}

  after_keep : (counting : Counting) (a : Answer) → Keeps 2000 (orders_after counting a)
  after_keep counting (Accepted core done) j s r = all_keep counting j s r
  after_keep counting (Idle done) j s r = stays 2000 j _ s r
  after_keep counting (Refused why) j s r = stays 2000 j _ s r

  asked_keeps : (counting : Counting) (o : Option Control) → IsFewControl o → Keeps 2001 (asked_part counting o)
  asked_keeps counting None few j s r = stays 2001 j _ s r
  asked_keeps counting (Some control.Empty) few j s r = stays 2001 j _ s r
  asked_keeps counting (Some (control.Event w)) few j s r =
      let t : Scene = at_reading s in
      after 2000 j (event counting w t) (orders_after counting (answer_to w t))
      (event_keeps counting w few (2000 + j) t (elsewhere (1 + (2000 + j)) s t refl (less (2001 + j) (1 + (2000 + j)) s (omega arith) r)))
      (after_keep counting (answer_to w t))
  asked_keeps counting (Some control.Poll) few j s r =
      both 0 2000 (watch_all counting) (all_orders counting) (watch_keep counting) (all_keep counting) j (at_reading s)
      (elsewhere (0 + 2000 + j) s (at_reading s) refl (less (2001 + j) (0 + 2000 + j) s (omega arith) r))
  asked_keeps counting (Some control.Jobs) few j s r = stays 2001 j _ s r
  asked_keeps counting (Some control.Quit) few j s r = stays 2001 j _ s r

  line_keeps : (counting : Counting) (line : TextLine) → IsFewLine line → Keeps 2001 (line_part counting line)
  line_keeps counting (Bytes line) few j s r = asked_keeps counting (control_read line) few j s r
  line_keeps counting Long few j s r = stays 2001 j _ s r

  if_quits : (b : Bool) (t u : Transcript) → t.end ≡ Quits → u.end ≡ Quits → (if b then t else u).end ≡ Quits
  if_quits true t u h k = h
  if_quits false t u h k = k

  lines_quit : (counting : Counting) (lines : List TextLine) (c : ℕ) (s : Scene) → AllByRecursion IsFewLine lines → length lines < c → Room (2001 * length lines) s → (lines_from counting lines c s).end ≡ Quits
  lines_quit counting [] c s few left r = refl
  lines_quit counting (line ∷ lines) c s few left r =
      let g = line_keeps counting line few.0 (2001 * length lines) s (less (2001 * suc (length lines)) (2001 + 2001 * length lines) s (omega arith) r) in
      let rest = lines_quit counting lines (c - 1) g.scene few.1 (omega (arith, left)) g.room in
      let more : (next_line c (lines_from counting lines) g.scene).end ≡ Quits =
      ap (λ (b : Bool). (if b then lines_from counting lines (c - 1) g.scene else ended Limit).end) (lt-ltb 1 c (omega (arith, left))) ∙ rest in
      if_quits (is_quit line) (ended Quits) (continued (line_part counting line s) (next_line c (lines_from counting lines))) refl
      (ap (λ (o : Option Scene). (goes_on o (next_line c (lines_from counting lines))).end) g.is ∙ more)

  -- ---- the session

  before_keep : (counting : Counting) → Keeps 2000 (before_lines counting)
  before_keep counting j s r =
      after 2000 j (opening_part counting s) (then_do (watch_all counting) (all_orders counting)) (stays 0 (2000 + j) _ s (less (2000 + j) (0 + (2000 + j)) s (omega arith) r))
      (both 0 2000 (watch_all counting) (all_orders counting) (watch_keep counting) (all_keep counting))

  pub scene_quits : (counting : Counting) (ends : Ends) (core : CoreState) → AllByRecursion IsFewLine (lines_of ends.bytes) → length (lines_of ends.bytes) < line_count
      → Room (2000 + 2001 * length (lines_of ends.bytes)) (first_scene ends core) → (session_of counting ends (Some core)).end ≡ Quits
  scene_quits counting ends core few left r =
      let ls = lines_of ends.bytes in
      let g = before_keep counting (2001 * length ls) (first_scene ends core) r in
      ap (λ (o : Option Scene). (goes_on o (lines_from counting ls line_count)).end) g.is ∙ lines_quit counting ls line_count g.scene few left g.room

  -- ---- the opening

  -- the declared input
  list_few : IsFew (value.List (text_values (digits_from 0 (made_items n))))
  list_few =
      let vs : List Value = text_values (digits_from 0 (made_items n)) in
      let items : items_in (value.List vs) ≡ vs = ap items_layer (out_at (Value-F.List vs) (value.List vs) (value.rolls-List vs)) in
      let many = values_length 0 (made_items n) in
      subst (λ (us : List Value). length us ≤ 256) (sym items) (omega (arith, many))

  -- of nothing that is stored
  opened_few : (d : Durable) (threshold : Option Level) (reading : ℕ) → d.inputs ≡ [] → AreFew (opened (made_program n) d threshold reading).inputs
  opened_few d threshold reading none = subst (λ (es : List (List ℕ × Value)). AreFew (map (λ (i : InputDecl). or_declared i (stored_at es i.name)) (made_program n).inputs)) (sym none) (list_few, tt)

  pub opening_quits : (counting : Counting) (ends : Ends) (d : Durable) (threshold : Option Level) → d.inputs ≡ [] → d.next ≡ 1
      → AllByRecursion IsFewLine (lines_of ends.bytes) → length (lines_of ends.bytes) ≤ 52000
      → (session_of counting ends (start (made_program n) d threshold (reading_now ends.readings))).end ≡ Quits
  unfolding start
  opening_quits counting ends d threshold none first few lines =
      let core : CoreState = opened (made_program n) d threshold (reading_now ends.readings) in
      let inputs = opened_few d threshold (reading_now ends.readings) none in
      let x = settles core (few_wants n core refl inputs) (omega (arith, first)) in
      let kept = same_settled (settling.wanted core) core x.after x.is in
      let version = kept.version in
      let next = x.next in
      ap (λ (o : Option CoreState). (session_of counting ends o).end) x.is
      ∙ scene_quits counting ends x.after few (omega (arith, lines)) (record {
        program = kept.program;
        few = subst AreFew (sym kept.inputs) inputs;
        version = omega (arith, version, lines);
        next = omega (arith, next, first, lines);
      })
