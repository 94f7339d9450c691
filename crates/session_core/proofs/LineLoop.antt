-- The loop over lines.
use Rattle.std.proofs.Common.{◌≡◌, ◌≢◌, ℕ, ◌-◌, ◌<◌, ◌≤◌, Bool, true, false, List, [], ◌∷◌, ◌++◌, length, map, refl, sym, ap, subst, ◌∙◌, inl, inr, arith}
use Rattle.std.specs.Prelude.{IfSome, if◌then◌else◌, nat_lt, not}
use Rattle.std.specs.declared.option.Option.{Option}
use Rattle.std.specs.declared.option.Option.TheVariants.{None, Some}
use Rattle.std.specs.declared.result.Result.{Result}
use Rattle.std.specs.declared.result.Result.TheVariants.{Ok, Err}
use Rattle.std.specs.Io.KnownBytes.{prepend_known}
use Rattle.value_core.proofs.Basics.{cond_is, is_nat_lt, not_nat_lt, some_is}
use Rattle.io_ends.specs.declared.lines.Line.{Line}
use Rattle.io_ends.specs.declared.lines.Line.TheVariants.{Whole, TooLong, End as NoLine}
use Rattle.io_ends.specs.declared.lines.LineFault.{LineFault}
use Rattle.io_ends.specs.declared.lines.LineFault.TheVariants as fault
use Rattle.io_ends.specs.Lines.{TextLine, Bytes, Long, NextLine, cut_lines, line_limit, lines_of, text_line}
use Rattle.report_text.specs.declared.controls.Control.{Control}
use Rattle.report_text.specs.declared.controls.Control.TheVariants.{Empty, Event, Poll, Jobs, Quit}
use Rattle.report_text.specs.Controls.{control_read}
use Rattle.op_keys.specs.declared.order.Exit.{Exit}
use Rattle.session_rules.specs.Outputs.{Output, exits}
use Rattle.session_rules.specs.Outside.{Did, Outside}
use Rattle.session_rules.specs.Parts.{Turn, Part, Does, StopsIn, UsesUp, nothing}
use Rattle.session_rules.specs.Scenes.{Scene, expecting}
use Rattle.session_rules.specs.Sessions.{Finishes, Halts, Script}
use Rattle.session_rules.specs.Versions.{FinishesCounted, ReachesCounted}
use Rattle.session_rules.specs.Steps.{Counting}
use Rattle.session_rules.specs.Transcripts.{Limit, Quits, Transcript, asked_part, continued, ended, is_end, is_quit, line_part, lines_from, next_line}
use Rattle.session_rules.proofs.Scripts.{finishes_halts, last_finishes, line_halts, line_uses_up, not_begun, reaches_finishes, reaches_halts, script_for}
use Rattle.session_rules.proofs.Versions.{line_rises, rises_finishes, rises_start, rises_then}
use Rattle.session_core.specs.declared.stop.Stop.{Stop}
use Rattle.session_core.specs.declared.stop.Stop.TheVariants as stop
use Rattle.session_core.specs.Doing.{DoesFrom, DoesPart, Moment, Stops, StopsPart}
use Rattle.session_core.specs.Lines.{CountsLines, DoesLines, EndsScript, lines_script}
use Rattle.session_core.specs.inside.ReadLines.{HasRead, ReadFrom, ahead_script, goes_on, line_stop, read_part}
use Rattle.session_core.proofs.Playing.{StopsFrom}

-- ---- a part that does nothing, before a script that is at its end

-- one scene has one version
if_same : (s t : Scene) → Some s ≡ Some t → s.core.version ≡ t.core.version
if_same s t is = ap (λ (u : Scene). u.core.version) (some_is s t is)

module _ (p : Part) (u : Script) (s : Scene) (a b : Outside) (idle : (t : Scene) → p t ≡ nothing t) (over : (xs : List Exit) → u xs ≡ ended Quits) where
  idle_finishes : (t : Scene) → Does p s t a b → Finishes u Quits a b
  idle_finishes t x =
      let none : [] ≡ x.outputs = ap (λ (w : Turn). w.outputs) (sym (idle (expecting (exits x.outputs ++ []) s)) ∙ x.goes []) in
      record { outputs = []; goes = over []; did = subst (λ (l : List Output). Did l a b) (sym none) x.did }

  -- and the version stays
  idle_rests : (t : Scene) → Does p s t a b → FinishesCounted u Quits s.core.version t.core.version a b
  idle_rests t x =
      let none : [] ≡ x.outputs = ap (λ (w : Turn). w.outputs) (sym (idle (expecting (exits x.outputs ++ []) s)) ∙ x.goes []) in
      let same : Some (expecting (exits x.outputs ++ []) s) ≡ Some (expecting [] t) = ap (λ (w : Turn). w.scene) (sym (idle (expecting (exits x.outputs ++ []) s)) ∙ x.goes []) in
      let core : s.core.version ≡ t.core.version = if_same (expecting (exits x.outputs ++ []) s) (expecting [] t) same in
      record {
        finishes = record { outputs = []; goes = over []; did = subst (λ (l : List Output). Did l a b) (sym none) x.did };
        versions = omega (arith, core);
      }

  idle_halts : StopsIn p s a b → Halts u a b
  idle_halts x =
      let none : [] ≡ x.outputs = ap (λ (w : Turn). w.outputs) (sym (idle (expecting (exits x.stopped.done) s))) ∙ x.goes in
      record { outputs = x.outputs; stopped = x.stopped; goes = ap (λ (r : Transcript). r.outputs) (over (exits x.stopped.done)) ∙ none }

  idle_unlimited : {P : Type 0} → UsesUp p s a b → P
  idle_unlimited x =
      let two : Some (expecting (exits x.outputs) s) ≡ None = ap (λ (w : Turn). w.scene) (sym (idle (expecting (exits x.outputs) s)) ∙ x.goes) in
      let no : ⊥ = cc in
      absurd no

  idle_stops : (z : Stop) → Stops z p s a b → Halts u a b × (z ≡ stop.LimitReached → Finishes u Limit a b)
  idle_stops z x = (idle_halts x.stops, λ is. idle_unlimited (x.limit is))

-- ---- one line

not_not : (b : Bool) → not b ≡ false → b ≡ true
not_not true e = refl
not_not false e = absurd (cc)

is_not : (b : Bool) → not b ≡ true → b ≡ false
is_not true e = absurd (cc)
is_not false e = refl

-- the control that ends the session does nothing
end_idle : (counting : Counting) (o : Option Control) (t : Scene) → is_end o ≡ true → asked_part counting o t ≡ nothing t
end_idle counting None t e = absurd (cc)
end_idle counting (Some Empty) t e = absurd (cc)
end_idle counting (Some (Event w)) t e = absurd (cc)
end_idle counting (Some Poll) t e = absurd (cc)
end_idle counting (Some Jobs) t e = absurd (cc)
end_idle counting (Some Quit) t e = refl

quit_idle : (counting : Counting) (line : TextLine) (t : Scene) → is_quit line ≡ true → line_part counting line t ≡ nothing t
quit_idle counting (Bytes line) t e = end_idle counting (control_read line) t e
quit_idle counting Long t e = absurd (cc)

-- a line of a text is one that isn't too long, or it is known to be
line_fits : (b l : List ℕ) → text_line l ≡ Bytes b → text_line b ≡ Bytes b
line_fits b l e = elim (cond_is (nat_lt line_limit (length l)) Long (Bytes l) (Bytes b) e) [
  | inl (long, is) ↦ absurd (cc)
  | inr (fits, is) ↦
      let same : l ≡ b = cc in
      subst (λ (x : List ℕ). text_line x ≡ Bytes x) same (ap (λ (q : Bool). if q then Long else Bytes l) fits)
]

first_fits : (b : List ℕ) (ls : List (List ℕ)) (rest : List TextLine) → map text_line ls ≡ Bytes b ∷ rest → text_line b ≡ Bytes b
first_fits b [] rest e = absurd (cc)
first_fits b (l ∷ ls) rest e = line_fits b l (let first : text_line l ≡ Bytes b = cc in first)

module _ (counting : Counting) where
  -- a line that ends the session
  quits : (line : TextLine) (lines : List TextLine) (n : ℕ) (s : Scene) → is_quit line ≡ true → lines_from counting (line ∷ lines) n s ≡ ended Quits
  quits line lines n s e = ap (λ (b : Bool). if b then ended Quits else continued (line_part counting line s) (next_line n (lines_from counting lines))) e

  -- a text line that was read stopped
  abbrev Halted : Script → Stop → Outside → Outside → Type 0
  Halted t z a b = Halts t a b × (z ≡ stop.LimitReached → Finishes t Limit a b)

  text_stops : (line : TextLine) (lines : List TextLine) (n : ℕ) (z : Stop) (s : Scene) (a b : Outside) (q : Bool) → is_quit line ≡ q → Stops z (line_part counting line) s a b → Halted (script_for counting (line ∷ lines) n s) z a b
  text_stops line lines n z s a b true e x =
      idle_stops (line_part counting line) (script_for counting (line ∷ lines) n s) s a b (λ t. quit_idle counting line t e) (λ xs. quits line lines n (expecting xs s) e) z x
  text_stops line lines n z s a b false e x = (line_halts counting line lines n s a b e x.stops, λ is. line_uses_up counting line lines n s a b e (x.limit is))

  -- the lines that are read, as those of a text
  whole_is : (old new : List ℕ) (b : List ℕ) → lines_of old ≡ Bytes b ∷ lines_of new → lines_of old ≡ text_line b ∷ lines_of new
  whole_is old new b e = e ∙ ap (λ (l : TextLine). l ∷ lines_of new) (sym (first_fits b (cut_lines old) (lines_of new) e))

  line_stops : (old new : List ℕ) (line : Line) (n : ℕ) (z : Stop) (s : Scene) (a b : Outside) → NextLine (Some old) line (Some new) → Stops z (read_part counting line) s a b → Halted (ahead_script counting old n s) z a b
  line_stops old new (Whole v) n z s a b next x =
      subst (λ (ls : List TextLine). Halted (script_for counting ls n s) z a b) (sym (whole_is old new v.items next.0)) (text_stops (text_line v.items) (lines_of new) n z s a b (is_quit (text_line v.items)) refl x)
  line_stops old new TooLong n z s a b next x =
      subst (λ (ls : List TextLine). Halted (script_for counting ls n s) z a b) (sym next.0) (text_stops Long (lines_of new) n z s a b false refl x)
  line_stops old new NoLine n z s a b next x =
      idle_stops nothing (ahead_script counting old n s) s a b (λ t. refl) (λ xs. ap (λ (l : List ℕ). lines_from counting (lines_of l) n (expecting xs s)) next.0) z x

  -- it ended the session, or there was none
  line_ends : (old new : List ℕ) (line : Line) (n : ℕ) (s t : Scene) (a b : Outside) → NextLine (Some old) line (Some new) → goes_on line ≡ false → Does (read_part counting line) s t a b → Finishes (ahead_script counting old n s) Quits a b
  line_ends old new (Whole v) n s t a b next last x =
      let line = text_line v.items in
      let e : is_quit line ≡ true = not_not (is_quit line) last in
      idle_finishes (line_part counting line) (ahead_script counting old n s) s a b (λ u. quit_idle counting line u e)
      (λ xs. ap (λ (ls : List TextLine). lines_from counting ls n (expecting xs s)) (whole_is old new v.items next.0) ∙ quits line (lines_of new) n (expecting xs s) e) t x
  line_ends old new TooLong n s t a b next last x = absurd (cc)
  line_ends old new NoLine n s t a b next last x =
      idle_finishes nothing (ahead_script counting old n s) s a b (λ u. refl) (λ xs. ap (λ (l : List ℕ). lines_from counting (lines_of l) n (expecting xs s)) next.0) t x

  -- and the version stays
  line_rests : (old new : List ℕ) (line : Line) (n : ℕ) (s t : Scene) (a b : Outside) → NextLine (Some old) line (Some new) → goes_on line ≡ false → Does (read_part counting line) s t a b →
      FinishesCounted (ahead_script counting old n s) Quits s.core.version t.core.version a b
  line_rests old new (Whole v) n s t a b next last x =
      let line = text_line v.items in
      let e : is_quit line ≡ true = not_not (is_quit line) last in
      idle_rests (line_part counting line) (ahead_script counting old n s) s a b (λ u. quit_idle counting line u e)
      (λ xs. ap (λ (ls : List TextLine). lines_from counting ls n (expecting xs s)) (whole_is old new v.items next.0) ∙ quits line (lines_of new) n (expecting xs s) e) t x
  line_rests old new TooLong n s t a b next last x = absurd (cc)
  line_rests old new NoLine n s t a b next last x =
      idle_rests nothing (ahead_script counting old n s) s a b (λ u. refl) (λ xs. ap (λ (l : List ℕ). lines_from counting (lines_of l) n (expecting xs s)) next.0) t x

  -- it was done, and others may follow
  text_goes : (line : TextLine) (lines : List TextLine) (n : ℕ) (s t : Scene) (a b : Outside) → is_quit line ≡ false → 1 < n → Does (line_part counting line) s t a b → ReachesCounted (script_for counting (line ∷ lines) n s) (script_for counting lines (n - 1) t) s.core.version t.core.version a b
  text_goes line lines n s t a b e more x = line_rises counting line lines n s t a b e (is_nat_lt 1 n more) x

  line_goes : (old new : List ℕ) (line : Line) (n : ℕ) (s t : Scene) (a b : Outside) → NextLine (Some old) line (Some new) → goes_on line ≡ true → 1 < n → Does (read_part counting line) s t a b →
      ReachesCounted (ahead_script counting old n s) (ahead_script counting new (n - 1) t) s.core.version t.core.version a b
  line_goes old new (Whole v) n s t a b next goes more x =
      subst (λ (ls : List TextLine). ReachesCounted (script_for counting ls n s) (script_for counting (lines_of new) (n - 1) t) s.core.version t.core.version a b) (sym (whole_is old new v.items next.0))
      (text_goes (text_line v.items) (lines_of new) n s t a b (is_not (is_quit (text_line v.items)) goes) more x)
  line_goes old new TooLong n s t a b next goes more x =
      subst (λ (ls : List TextLine). ReachesCounted (script_for counting ls n s) (script_for counting (lines_of new) (n - 1) t) s.core.version t.core.version a b) (sym next.0) (text_goes Long (lines_of new) n s t a b refl more x)
  line_goes old new NoLine n s t a b next goes more x = absurd (cc)

  -- it was the last one that is taken
  text_last : (line : TextLine) (lines : List TextLine) (n : ℕ) (s t : Scene) (a b : Outside) → is_quit line ≡ false → n ≤ 1 → Does (line_part counting line) s t a b → Finishes (script_for counting (line ∷ lines) n s) Limit a b
  text_last line lines n s t a b e last x = last_finishes counting line lines n s t a b e (not_nat_lt 1 n last) x

  line_last : (old new : List ℕ) (line : Line) (n : ℕ) (s t : Scene) (a b : Outside) → NextLine (Some old) line (Some new) → goes_on line ≡ true → n ≤ 1 → Does (read_part counting line) s t a b → Finishes (ahead_script counting old n s) Limit a b
  line_last old new (Whole v) n s t a b next goes last x =
      subst (λ (ls : List TextLine). Finishes (script_for counting ls n s) Limit a b) (sym (whole_is old new v.items next.0))
      (text_last (text_line v.items) (lines_of new) n s t a b (is_not (is_quit (text_line v.items)) goes) last x)
  line_last old new TooLong n s t a b next goes last x =
      subst (λ (ls : List TextLine). Finishes (script_for counting ls n s) Limit a b) (sym next.0) (text_last Long (lines_of new) n s t a b refl last x)
  line_last old new NoLine n s t a b next goes last x = absurd (cc)

  -- ---- all lines

  start : (a : Option (List ℕ)) (held : List ℕ) (s : Option Scene) (e : Outside) → held ≡ [] → ReadFrom counting a (prepend_known held a) 1000000 s s e e
  start None held s e none = tt
  start (Some bytes) held None e none = tt
  start (Some bytes) held (Some s) e none = subst (λ (h : List ℕ). ReadFrom counting (Some bytes) (prepend_known h (Some bytes)) 1000000 (Some s) (Some s) e e) (sym none) (rises_start (lines_script counting bytes s) s.core.version e)

  -- nothing was read
  pub read_starts : (a : Option (List ℕ)) (held : List ℕ) (m : Moment) → held ≡ [] → HasRead counting a (prepend_known held a) 1000000 m m
  read_starts a held m none = start a held m.scene m.outside none

  module _ (n : ℕ) where
    from_goes : (given ahead later : Option (List ℕ)) (line : Line) (s0 s t : Option Scene) (e a b : Outside) → ReadFrom counting given ahead n s0 s e a → NextLine ahead line later → goes_on line ≡ true → 1 < n → DoesFrom (read_part counting line) s t a b →
        ReadFrom counting given later (n - 1) s0 t e b
    from_goes None ahead later line s0 s t e a b read next goes more x = tt
    from_goes (Some bytes) ahead later line None s t e a b read next goes more x = tt
    from_goes (Some bytes) None later line (Some s0) s t e a b read next goes more x = absurd read
    from_goes (Some bytes) (Some old) later line (Some s0) None t e a b read next goes more x = absurd read
    from_goes (Some bytes) (Some old) None line (Some s0) (Some s) t e a b read next goes more x = absurd next
    from_goes (Some bytes) (Some old) (Some new) line (Some s0) (Some s) None e a b read next goes more x = absurd x
    from_goes (Some bytes) (Some old) (Some new) line (Some s0) (Some s) (Some t) e a b read next goes more x =
        rises_then (lines_script counting bytes s0) (ahead_script counting old n s) (ahead_script counting new (n - 1) t) s0.core.version s.core.version t.core.version e a b read (line_goes old new line n s t a b next goes more x)

    -- a line was done, and others may follow
    pub read_goes : (given ahead later : Option (List ℕ)) (line : Line) (m0 m m' : Moment) → HasRead counting given ahead n m0 m → NextLine ahead line later → goes_on line ≡ true → 1 < n → DoesPart (read_part counting line) m m' →
        HasRead counting given later (n - 1) m0 m'
    read_goes given ahead later line m0 m m' read next goes more x = from_goes given ahead later line m0.scene m.scene m'.scene m0.outside m.outside m'.outside read next goes more x

    -- what all lines do, from a scene on, if it is known
    abbrev Ends : {T : Type 0} → Option (List ℕ) → Option Scene → Outside → Outside → Result T Stop → Type 0
    Ends given s0 e b result = IfSome given (λ text. IfSome s0 (λ s. EndsScript (lines_script counting text s) e b result))

    limited : (bytes old : List ℕ) (s0 s : Scene) (e a b : Outside) → ReachesCounted (lines_script counting bytes s0) (ahead_script counting old n s) s0.core.version s.core.version e a → Finishes (ahead_script counting old n s) Limit a b → Halted (lines_script counting bytes s0) stop.LimitReached e b
    limited bytes old s0 s e a b read x =
        let all = reaches_finishes (lines_script counting bytes s0) (ahead_script counting old n s) Limit e a b read.reaches x in
        (finishes_halts (lines_script counting bytes s0) Limit e b all, λ is. all)

    from_last : (T : Type 0) (given ahead later : Option (List ℕ)) (line : Line) (s0 s t : Option Scene) (e a b : Outside) → ReadFrom counting given ahead n s0 s e a → NextLine ahead line later → goes_on line ≡ true → n ≤ 1 → DoesFrom (read_part counting line) s t a b →
        Ends {T = T} given s0 e b (Err stop.LimitReached)
    from_last T None ahead later line s0 s t e a b read next goes last x = tt
    from_last T (Some bytes) ahead later line None s t e a b read next goes last x = tt
    from_last T (Some bytes) None later line (Some s0) s t e a b read next goes last x = absurd read
    from_last T (Some bytes) (Some old) later line (Some s0) None t e a b read next goes last x = absurd read
    from_last T (Some bytes) (Some old) None line (Some s0) (Some s) t e a b read next goes last x = absurd next
    from_last T (Some bytes) (Some old) (Some new) line (Some s0) (Some s) None e a b read next goes last x = absurd x
    from_last T (Some bytes) (Some old) (Some new) line (Some s0) (Some s) (Some t) e a b read next goes last x = limited bytes old s0 s e a b read (line_last old new line n s t a b next goes last x)

    -- the last line that is taken was done
    pub read_last : (T : Type 0) (given ahead later : Option (List ℕ)) (line : Line) (m0 m m' : Moment) → HasRead counting given ahead n m0 m → NextLine ahead line later → goes_on line ≡ true → n ≤ 1 → DoesPart (read_part counting line) m m' →
        DoesLines counting given m0 m' {T = T} (Err stop.LimitReached)
    read_last T given ahead later line m0 m m' read next goes last x = from_last T given ahead later line m0.scene m.scene m'.scene m0.outside m.outside m'.outside read next goes last x

    from_ends : {T : Type 0} (y : T) (given ahead later : Option (List ℕ)) (line : Line) (s0 s t : Option Scene) (e a b : Outside) → ReadFrom counting given ahead n s0 s e a → NextLine ahead line later → goes_on line ≡ false → DoesFrom (read_part counting line) s t a b →
        Ends given s0 e b (Ok y)
    from_ends y None ahead later line s0 s t e a b read next quits x = tt
    from_ends y (Some bytes) ahead later line None s t e a b read next quits x = tt
    from_ends y (Some bytes) None later line (Some s0) s t e a b read next quits x = absurd read
    from_ends y (Some bytes) (Some old) later line (Some s0) None t e a b read next quits x = absurd read
    from_ends y (Some bytes) (Some old) None line (Some s0) (Some s) t e a b read next quits x = absurd next
    from_ends y (Some bytes) (Some old) (Some new) line (Some s0) (Some s) None e a b read next quits x = absurd x
    from_ends y (Some bytes) (Some old) (Some new) line (Some s0) (Some s) (Some t) e a b read next quits x =
        reaches_finishes (lines_script counting bytes s0) (ahead_script counting old n s) Quits e a b read.reaches (line_ends old new line n s t a b next quits x)

    -- the same up to a version
    counted_at : (given ahead later : Option (List ℕ)) (line : Line) (s0 s t : Option Scene) (v : ℕ) (e a b : Outside) → ReadFrom counting given ahead n s0 s e a → NextLine ahead line later → goes_on line ≡ false →
        DoesFrom (read_part counting line) s t a b → IfSome t (λ u. u.core.version ≡ v) → IfSome given (λ text. IfSome s0 (λ u. FinishesCounted (lines_script counting text u) Quits u.core.version v e b))
    counted_at None ahead later line s0 s t v e a b read next quits x is = tt
    counted_at (Some bytes) ahead later line None s t v e a b read next quits x is = tt
    counted_at (Some bytes) None later line (Some s0) s t v e a b read next quits x is = absurd read
    counted_at (Some bytes) (Some old) later line (Some s0) None t v e a b read next quits x is = absurd read
    counted_at (Some bytes) (Some old) None line (Some s0) (Some s) t v e a b read next quits x is = absurd next
    counted_at (Some bytes) (Some old) (Some new) line (Some s0) (Some s) None v e a b read next quits x is = absurd x
    counted_at (Some bytes) (Some old) (Some new) line (Some s0) (Some s) (Some t) v e a b read next quits x is =
        rises_finishes (lines_script counting bytes s0) (ahead_script counting old n s) Quits s0.core.version s.core.version v e a b read
        (subst (λ (w : ℕ). FinishesCounted (ahead_script counting old n s) Quits s.core.version w a b) is (line_rests old new line n s t a b next quits x))

    pub read_counted : (given ahead later : Option (List ℕ)) (line : Line) (m0 m m' : Moment) (v : ℕ) → HasRead counting given ahead n m0 m → NextLine ahead line later → goes_on line ≡ false →
        DoesPart (read_part counting line) m m' → IfSome m'.scene (λ u. u.core.version ≡ v) → CountsLines counting given m0 m' v
    read_counted given ahead later line m0 m m' v read next quits x is = counted_at given ahead later line m0.scene m.scene m'.scene v m0.outside m.outside m'.outside read next quits x is

    -- the session ended with a line, or the input has ended
    pub read_ends : {T : Type 0} (y : T) (given ahead later : Option (List ℕ)) (line : Line) (m0 m m' : Moment) → HasRead counting given ahead n m0 m → NextLine ahead line later → goes_on line ≡ false → DoesPart (read_part counting line) m m' →
        DoesLines counting given m0 m' (Ok y)
    read_ends y given ahead later line m0 m m' read next quits x = from_ends y given ahead later line m0.scene m.scene m'.scene m0.outside m.outside m'.outside read next quits x

    from_stops : (T : Type 0) (z : Stop) (given ahead later : Option (List ℕ)) (line : Line) (s0 s : Option Scene) (e a b : Outside) → ReadFrom counting given ahead n s0 s e a → NextLine ahead line later → StopsFrom z (read_part counting line) s a b →
        Ends {T = T} given s0 e b (Err z)
    from_stops T z None ahead later line s0 s e a b read next x = tt
    from_stops T z (Some bytes) ahead later line None s e a b read next x = tt
    from_stops T z (Some bytes) None later line (Some s0) s e a b read next x = absurd read
    from_stops T z (Some bytes) (Some old) later line (Some s0) None e a b read next x = absurd read
    from_stops T z (Some bytes) (Some old) None line (Some s0) (Some s) e a b read next x = absurd next
    from_stops T z (Some bytes) (Some old) (Some new) line (Some s0) (Some s) e a b read next x =
        let halted = line_stops old new line n z s a b next x in (
          reaches_halts (lines_script counting bytes s0) (ahead_script counting old n s) e a b read.reaches halted.0,
          λ is. reaches_finishes (lines_script counting bytes s0) (ahead_script counting old n s) Limit e a b read.reaches (halted.1 is),
        )

    -- a line stopped
    pub read_stops : (T : Type 0) (z : Stop) (given ahead later : Option (List ℕ)) (line : Line) (m0 m m' : Moment) → HasRead counting given ahead n m0 m → NextLine ahead line later → StopsPart z (read_part counting line) m m' →
        DoesLines counting given m0 m' {T = T} (Err z)
    read_stops T z given ahead later line m0 m m' read next x = from_stops T z given ahead later line m0.scene m.scene m0.outside m.outside m'.outside read next x

    unlimited : (f : LineFault) → line_stop f ≢ stop.LimitReached
    unlimited fault.Failed = λ is. cc
    unlimited fault.NoMemory = λ is. cc

    from_fault : (T : Type 0) (f : LineFault) (given ahead : Option (List ℕ)) (s0 s : Option Scene) (e a : Outside) → ReadFrom counting given ahead n s0 s e a → Ends {T = T} given s0 e a (Err (line_stop f))
    from_fault T f None ahead s0 s e a read = tt
    from_fault T f (Some bytes) ahead None s e a read = tt
    from_fault T f (Some bytes) None (Some s0) s e a read = absurd read
    from_fault T f (Some bytes) (Some old) (Some s0) None e a read = absurd read
    from_fault T f (Some bytes) (Some old) (Some s0) (Some s) e a read =
        (reaches_halts (lines_script counting bytes s0) (ahead_script counting old n s) e a a read.reaches (not_begun (ahead_script counting old n s) a), λ is. absurd (unlimited f is))

    -- no line was read
    pub read_faults : (T : Type 0) (f : LineFault) (given ahead : Option (List ℕ)) (m0 m : Moment) → HasRead counting given ahead n m0 m → DoesLines counting given m0 m {T = T} (Err (line_stop f))
    read_faults T f given ahead m0 m read = from_fault T f given ahead m0.scene m.scene m0.outside m.outside read
