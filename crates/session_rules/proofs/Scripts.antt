-- Scripts of sessions: how far they are done, line by line.
use Rattle.std.proofs.Common.{◌≡◌, ℕ, ◌-◌, true, false, List, [], ◌∷◌, ◌++◌, refl, sym, ap, ◌∙◌, append_assoc}
use Rattle.std.specs.Prelude.{Option, nat_lt, if◌then◌else◌}
use Rattle.std.proofs.lemmas.List.{append-nil}
use Rattle.io_ends.specs.Lines.{TextLine}
use Rattle.op_keys.specs.declared.order.Exit.{Exit}
use Rattle.session_rules.specs.Outputs.{Output, exits}
use Rattle.session_rules.specs.Outside.{Outside}
use Rattle.session_rules.specs.Parts.{Turn, Part, Does, StopsIn, UsesUp}
use Rattle.session_rules.specs.Scenes.{Scene, expecting}
use Rattle.session_rules.specs.Sessions.{Script, Reaches, Halts, Finishes}
use Rattle.session_rules.specs.Steps.{Counting}
use Rattle.session_rules.specs.Transcripts.{End, Quits, Limit, Transcript, before, continued, ended, goes_on, is_quit, line_part, lines_from, next_line}
use Rattle.session_rules.proofs.Doing.{did_more, did_none, did_stops, nothing_done, stopped_longer, then_stopped}
use Rattle.session_rules.proofs.Growing.{exits_append, exits_more}

pub before_before : (xs ys : List Output) (t : Transcript) → before xs (before ys t) ≡ before (xs ++ ys) t
before_before xs ys t = ap (λ (l : List Output). record { outputs = l; end = t.end }) (sym (append_assoc xs ys t.outputs))

-- the beginning
unfoldable pub reaches_start : (t : Script) (e : Outside) → Reaches t t e e
reaches_start t e = record { outputs = []; goes = λ more. refl; did = did_none e }

-- a script was done up to another, and that one up to a third
unfoldable pub reaches_then : (t u v : Script) (a b c : Outside) → Reaches t u a b → Reaches u v b c → Reaches t v a c
reaches_then t u v a b c x y = record {
  outputs = x.outputs ++ y.outputs;
  goes = λ more.
      ap t (exits_more x.outputs y.outputs more) ∙ x.goes (exits y.outputs ++ more) ∙ ap (before x.outputs) (y.goes more) ∙ before_before x.outputs y.outputs (v more);
  did = did_more x.outputs y.outputs a b c x.did y.did;
}

-- a script was done up to another, which stopped
pub reaches_halts : (t u : Script) (a b c : Outside) → Reaches t u a b → Halts u b c → Halts t a c
unfolding then_stopped
reaches_halts t u a b c x y = record {
  outputs = x.outputs ++ y.outputs;
  stopped = then_stopped x.outputs y.outputs a b c x.did y.stopped;
  goes = ap (λ (l : List Exit). (t l).outputs) (exits_append x.outputs y.stopped.done) ∙ ap (λ (r : Transcript). r.outputs) (x.goes (exits y.stopped.done)) ∙ ap (λ (l : List Output). x.outputs ++ l) y.goes;
}

-- a script was done up to another, which came to its end
unfoldable pub reaches_finishes : (t u : Script) (end : End) (a b c : Outside) → Reaches t u a b → Finishes u end b c → Finishes t end a c
reaches_finishes t u end a b c x y = record {
  outputs = x.outputs ++ y.outputs;
  goes = ap t (exits_append x.outputs y.outputs) ∙ x.goes (exits y.outputs) ∙ ap (before x.outputs) y.goes;
  did = did_more x.outputs y.outputs a b c x.did y.did;
}

-- a script was not begun
pub not_begun : (t : Script) (e : Outside) → Halts t e e
unfolding nothing_done did_stops
not_begun t e = record { outputs = (t []).outputs; stopped = nothing_done (t []).outputs e; goes = refl }

-- what came to its end did not go beyond it
pub finishes_halts : (t : Script) (end : End) (a b : Outside) → Finishes t end a b → Halts t a b
unfolding did_stops
finishes_halts t end a b x = record {
  outputs = x.outputs ++ [];
  stopped = did_stops x.outputs [] a b x.did;
  goes = ap (λ (r : Transcript). r.outputs) x.goes ∙ sym (append-nil x.outputs);
}

-- nothing is left to do
unfoldable pub finishes_now : (end : End) (e : Outside) → Finishes (λ xs. ended end) end e e
finishes_now end e = record { outputs = []; goes = refl; did = did_none e }

-- ---- a part, and the script after it

-- the script of a part and of what follows the scene after it
abbrev pub script_of : Part → Scene → (Scene → Transcript) → Script
script_of p s next xs = continued (p (expecting xs s)) next

-- what follows a scene
abbrev pub script_from : (Scene → Transcript) → Scene → Script
script_from next s xs = next (expecting xs s)

-- the part was done
unfoldable pub part_reaches : (p : Part) (s t : Scene) (next : Scene → Transcript) (a b : Outside) → Does p s t a b → Reaches (script_of p s next) (script_from next t) a b
part_reaches p s t next a b x = record { outputs = x.outputs; goes = λ more. ap (λ (w : Turn). continued w next) (x.goes more); did = x.did }

-- what is left after a part that stopped
abbrev rest_of : Option Scene → (Scene → Transcript) → List Output
rest_of scene next = (goes_on scene next).outputs

-- the part stopped
pub part_halts : (p : Part) (s : Scene) (next : Scene → Transcript) (a b : Outside) → StopsIn p s a b → Halts (script_of p s next) a b
unfolding stopped_longer
part_halts p s next a b x =
    let rest = rest_of (p (expecting (exits x.stopped.done) s)).scene next in
    record {
      outputs = x.outputs ++ rest;
      stopped = stopped_longer x.outputs rest a b x.stopped;
      goes = ap (λ (l : List Output). l ++ rest) x.goes;
    }

-- the numbers are used up
pub part_uses_up : (p : Part) (s : Scene) (next : Scene → Transcript) (a b : Outside) → UsesUp p s a b → Finishes (script_of p s next) Limit a b
part_uses_up p s next a b x = record {
  outputs = x.outputs;
  goes = ap (λ (w : Turn). continued w next) x.goes ∙ ap (λ (l : List Output). record { outputs = l; end = Limit }) (append-nil x.outputs);
  did = x.did;
}

-- ---- lines

-- the script of some lines, of which n may still be taken
abbrev pub script_for : Counting → List TextLine → ℕ → Scene → Script
script_for counting lines n s xs = lines_from counting lines n (expecting xs s)

module _ (counting : Counting) (line : TextLine) (lines : List TextLine) where
  -- a line that doesn't end the session
  line_is : (n : ℕ) (s : Scene) → is_quit line ≡ false → lines_from counting (line ∷ lines) n s ≡ continued (line_part counting line s) (next_line n (lines_from counting lines))
  line_is n s goes = ap (λ b. if b then ended Quits else continued (line_part counting line s) (next_line n (lines_from counting lines))) goes

  -- the script of a line and of those after it is that of its part
  pub line_script : (n : ℕ) (s : Scene) → is_quit line ≡ false → script_for counting (line ∷ lines) n s ≡ script_of (line_part counting line) s (next_line n (lines_from counting lines))
  line_script n s goes = λ i xs. line_is n (expecting xs s) goes i

  -- after a line that isn't the last one that is taken the next ones follow
  pub next_is : (n : ℕ) (s : Scene) → nat_lt 1 n ≡ true → script_from (next_line n (lines_from counting lines)) s ≡ script_for counting lines (n - 1) s
  next_is n s more = λ i xs. if more i then lines_from counting lines (n - 1) (expecting xs s) else ended Limit

  -- after the last one the session ends
  last_is : (n : ℕ) (s : Scene) → nat_lt 1 n ≡ false → script_from (next_line n (lines_from counting lines)) s ≡ (λ xs. ended Limit)
  last_is n s last = λ i xs. if last i then lines_from counting lines (n - 1) (expecting xs s) else ended Limit

  -- the line that ends the session
  pub quit_finishes : (n : ℕ) (s : Scene) (e : Outside) → is_quit line ≡ true → Finishes (script_for counting (line ∷ lines) n s) Quits e e
  quit_finishes n s e quits = record {
    outputs = [];
    goes = ap (λ b. if b then ended Quits else continued (line_part counting line (expecting [] s)) (next_line n (lines_from counting lines))) quits;
    did = did_none e;
  }

  -- a line was done, and others may follow
  pub line_reaches : (n : ℕ) (s t : Scene) (a b : Outside) → is_quit line ≡ false → nat_lt 1 n ≡ true → Does (line_part counting line) s t a b →
      Reaches (script_for counting (line ∷ lines) n s) (script_for counting lines (n - 1) t) a b
  line_reaches n s t a b goes more x =
      rw (line_script n s goes, sym (next_is n t more)) (part_reaches (line_part counting line) s t (next_line n (lines_from counting lines)) a b x)

  -- the last line that is taken was done
  pub last_finishes : (n : ℕ) (s t : Scene) (a b : Outside) → is_quit line ≡ false → nat_lt 1 n ≡ false → Does (line_part counting line) s t a b →
      Finishes (script_for counting (line ∷ lines) n s) Limit a b
  last_finishes n s t a b goes last x =
      let reached = part_reaches (line_part counting line) s t (next_line n (lines_from counting lines)) a b x in
      rw (line_script n s goes) (reaches_finishes _ _ Limit a b b reached (rw (last_is n t last) (finishes_now Limit b)))

  -- a line stopped
  pub line_halts : (n : ℕ) (s : Scene) (a b : Outside) → is_quit line ≡ false → StopsIn (line_part counting line) s a b → Halts (script_for counting (line ∷ lines) n s) a b
  line_halts n s a b goes x = rw (line_script n s goes) (part_halts (line_part counting line) s (next_line n (lines_from counting lines)) a b x)

  -- a line used up the numbers
  pub line_uses_up : (n : ℕ) (s : Scene) (a b : Outside) → is_quit line ≡ false → UsesUp (line_part counting line) s a b → Finishes (script_for counting (line ∷ lines) n s) Limit a b
  line_uses_up n s a b goes x = rw (line_script n s goes) (part_uses_up (line_part counting line) s (next_line n (lines_from counting lines)) a b x)

-- no line is left
pub none_finishes : (counting : Counting) (n : ℕ) (s : Scene) (e : Outside) → Finishes (script_for counting [] n s) Quits e e
none_finishes counting n s e = record { outputs = []; goes = refl; did = did_none e }
