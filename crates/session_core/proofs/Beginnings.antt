-- What follows the commit of an opening: the lines of version 1, files, orders, and the lines of the input.
use Rattle.std.proofs.Common.{◌≡◌, ◌≢◌, ◌-◌, ℕ, Bool, true, false, List, [], ◌∷◌, refl, sym, ap, ◌∙◌, arith}
use Rattle.std.specs.Prelude.{IfOk, IfSome}
use Rattle.std.specs.Option.{option_map}
use Rattle.std.specs.declared.option.Option.{Option}
use Rattle.std.specs.declared.option.Option.TheVariants.{None, Some}
use Rattle.std.specs.declared.result.Result.{Result}
use Rattle.std.specs.declared.result.Result.TheVariants.{Ok, Err}
use Rattle.std.specs.Io.KnownBytes.{Appends}
use Rattle.io_ends.specs.Causes.{AppendsFront}
use Rattle.io_ends.specs.Known.{Contents}
use Rattle.io_ends.specs.Lines.{lines_of}
use Rattle.core_rules.specs.Core.{CoreState}
use Rattle.core_rules.specs.Entries.{fresh_of}
use Rattle.core_rules.specs.Openings.{opening_reply}
use Rattle.core_rules.specs.declared.done.Done.{Done}
use Rattle.report_text.specs.Lines.{reply_text}
use Rattle.session_rules.specs.Outputs.{Print}
use Rattle.session_rules.specs.Outside.{Outside}
use Rattle.session_rules.specs.Parts.{then_do}
use Rattle.session_rules.specs.Scenes.{Scene}
use Rattle.session_rules.specs.Steps.{Counting, all_orders}
use Rattle.session_rules.specs.Transcripts.{Limit, Quits, Transcript, line_count, lines_from}
use Rattle.session_rules.specs.Versions.{FinishesCounted}
use Rattle.session_rules.specs.Watching.{watch_all}
use Rattle.session_rules.proofs.Composing.{does_known}
use Rattle.session_rules.proofs.Doing.{print_failed, printed}
use Rattle.session_rules.proofs.Scripts.{part_halts, part_reaches, part_uses_up, reaches_finishes, reaches_halts}
use Rattle.session_rules.proofs.Versions.{CountsIn, counts_then, orders_count, part_rises, rises_finishes, watch_counts}
use Rattle.session_core.specs.Doing.{DoesFrom, DoesPart, Moment, StopsPart, scene_of}
use Rattle.session_core.specs.Lines.{CountsLines, DoesLines, EndsScript, lines_script}
use Rattle.session_core.specs.Numbers.{CountsSince, counting, number}
use Rattle.session_core.specs.declared.stop.Stop.{Stop}
use Rattle.session_core.specs.declared.stop.Stop.TheVariants as stop
use Rattle.session_core.specs.inside.Opening.{CountsCommitted, DoesCommitted, after_commit, committed_script, opening_lines}
use Rattle.session_core.proofs.Played.{at, does_from, stops_from}
use Rattle.session_core.proofs.Playing.{StopsFrom}

-- the number that is shown at an opening
number_is : (b : Bool) (n : ℕ) → number b n ≡ option_map (λ count. n) (counting b)
number_is true n = refl
number_is false n = refl

-- the lines of version 1
abbrev pub opening_text : Counting → CoreState → List ℕ
opening_text counts c = reply_text c.program (opening_reply c) (option_map (λ count. (fresh_of c).ticks) counts)

pub text_is : (b : Bool) (c : CoreState) (n : ℕ) → n ≡ (fresh_of c).ticks → reply_text c.program (opening_reply c) (number b n) ≡ opening_text (counting b) c
text_is b c n is = ap (reply_text c.program (opening_reply c)) (ap (number b) is ∙ number_is b (fresh_of c).ticks)

-- the lines of a reply, by the number that was counted
pub shown_is : (b : Bool) (c : CoreState) (done : Done) (n ticks : ℕ) → done ≡ opening_reply c → ticks ≡ (fresh_of c).ticks → CountsSince 0 ticks n → reply_text c.program done (number b n) ≡ opening_text (counting b) c
shown_is b c done n ticks reply counted since =
    let all : n ≡ ticks = since 0 refl (omega arith) ∙ (let same : ticks - 0 ≡ ticks = omega arith in same) in
    ap (λ (r : Done). reply_text c.program r (number b n)) reply ∙ text_is b c n (all ∙ counted)

-- out of memory isn't the limit
pub not_limit : (z : Stop) → z ≡ stop.NoMemory → z ≢ stop.LimitReached
not_limit z is same = let no : stop.NoMemory ≡ stop.LimitReached = sym is ∙ same in absurd (cc)

module _ (counts : Counting) (c : CoreState) (last : ℕ) (rs : Option (List ℕ)) (f : Option Contents) (e : Outside) (wr : Option (List ℕ)) where
  abbrev before : Moment
  before = record { scene = scene_of c last rs f; outside = e }

  abbrev after : Moment
  after = record { scene = scene_of c last rs f; outside = record e { written = wr } }

  -- they were written
  pub opening_said : Appends e.written wr (opening_text counts c) → DoesPart (opening_lines counts) before after
  opening_said wrote = does_from (opening_lines counts) c c last e (record e { written = wr }) rs f (λ r g.
      does_known (Print (opening_text counts c) ∷ []) (at c last r g) (at c last r g) e (record e { written = wr }) (opening_lines counts) refl (λ more. refl) (printed (opening_text counts c) e wr wrote))

  -- they were not written whole
  pub opening_unsaid : (z : Stop) → AppendsFront e.written wr (opening_text counts c) × (z ≢ stop.LimitReached) → StopsPart z (opening_lines counts) before after
  opening_unsaid z wrote = stops_from (opening_lines counts) z c last e (record e { written = wr }) rs f (λ r g. record {
    stops = record { outputs = Print (opening_text counts c) ∷ []; stopped = print_failed (opening_text counts c) [] e wr wrote.0; goes = refl };
    limit = λ is. absurd (wrote.1 is);
  })

-- ---- the lines of the input after it

module _ (counts : Counting) (text : List ℕ) where
  -- what is done for the lines, from a scene on
  abbrev next : Scene → Transcript
  next = lines_from counts (lines_of text) line_count

  ends_after : {T : Type 0} (s t : Scene) (a b c : Outside) (result : Result T Stop) → DoesFrom (after_commit counts) (Some s) (Some t) a b → EndsScript (lines_script counts text t) b c result →
      EndsScript (committed_script counts text s) a c result
  ends_after s t a b c (Ok x) did ends = reaches_finishes (committed_script counts text s) (lines_script counts text t) Quits a b c (part_reaches (after_commit counts) s t next a b did) ends
  ends_after s t a b c (Err z) did ends =
      let reached = part_reaches (after_commit counts) s t next a b did in
      (reaches_halts (committed_script counts text s) (lines_script counts text t) a b c reached ends.0, λ is. reaches_finishes (committed_script counts text s) (lines_script counts text t) Limit a b c reached (ends.1 is))

  after_by : {T : Type 0} (s t : Option Scene) (a b c : Outside) (result : Result T Stop) → DoesFrom (after_commit counts) s t a b → DoesLines counts (Some text) (record { scene = t; outside = b }) (record { scene = None; outside = c }) result →
      DoesCommitted counts (Some text) (record { scene = s; outside = a }) (record { scene = None; outside = c }) result
  after_by None t a b c result did ends = tt
  after_by (Some s) None a b c result did ends = absurd did
  after_by (Some s) (Some t) a b c result did ends = ends_after s t a b c result did ends

  stops_by : (T : Type 0) (z : Stop) (s : Option Scene) (a c : Outside) → StopsFrom z (after_commit counts) s a c → DoesCommitted counts (Some text) (record { scene = s; outside = a }) (record { scene = None; outside = c }) {T = T} (Err z)
  stops_by T z None a c x = tt
  stops_by T z (Some s) a c x = (part_halts (after_commit counts) s next a c x.stops, λ is. part_uses_up (after_commit counts) s next a c (x.limit is))

begin_counts : (counts : Counting) → CountsIn (after_commit counts)
begin_counts counts = counts_then (opening_lines counts) (then_do (watch_all counts) (all_orders counts)) (λ s. omega arith)
    (counts_then (watch_all counts) (all_orders counts) (watch_counts counts) (orders_count counts))

counted_by : (counts : Counting) (text : List ℕ) (s t : Option Scene) (v : ℕ) (a b c : Outside) → DoesFrom (after_commit counts) s t a b →
    IfSome t (λ u. FinishesCounted (lines_script counts text u) Quits u.core.version v b c) → IfSome s (λ u. FinishesCounted (committed_script counts text u) Quits u.core.version v a c)
counted_by counts text None t v a b c did ends = tt
counted_by counts text (Some s) None v a b c did ends = absurd did
counted_by counts text (Some s) (Some t) v a b c did ends =
    rises_finishes (committed_script counts text s) (lines_script counts text t) Quits s.core.version t.core.version v a b c
    (part_rises (after_commit counts) s t (next counts text) a b (begin_counts counts) did) ends

-- and up to a version
pub then_counted : (counts : Counting) (bytes : Option (List ℕ)) (m n o : Moment) (v : ℕ) → DoesPart (after_commit counts) m n → CountsLines counts bytes n o v → CountsCommitted counts bytes m o v
then_counted counts None m n o v did ends = tt
then_counted counts (Some text) m n o v did ends = counted_by counts text m.scene n.scene v m.outside n.outside o.outside did ends

-- the lines were done after the beginning
pub then_lines : {T : Type 0} (counts : Counting) (bytes : Option (List ℕ)) (m n o : Moment) (result : Result T Stop) → DoesPart (after_commit counts) m n → DoesLines counts bytes n o result → DoesCommitted counts bytes m o result
then_lines counts None m n o result did ends = tt
then_lines counts (Some text) m n o result did ends = after_by counts text m.scene n.scene m.outside n.outside o.outside result did ends

-- the beginning stopped
pub begin_stops : (T : Type 0) (counts : Counting) (bytes : Option (List ℕ)) (z : Stop) (m o : Moment) → StopsPart z (after_commit counts) m o → DoesCommitted counts bytes m o {T = T} (Err z)
begin_stops T counts None z m o x = tt
begin_stops T counts (Some text) z m o x = stops_by counts text T z m.scene m.outside o.outside x

-- what follows for a call that was done
pub if_done : {T P Q : Type 0} (result : Result T Stop) → (P → Q) → IfOk result (λ _. P) → IfOk result (λ _. Q)
if_done (Ok x) follows p = follows p
if_done (Err z) follows p = tt
