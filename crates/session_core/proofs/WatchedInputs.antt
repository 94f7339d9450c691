-- One input that is watched.
use Rattle.std.proofs.Common.{◌≡◌, ◌<◌, ◌≤◌, ◌-◌, ℕ, zero, suc, Bool, true, false, List, [], ◌∷◌, length, take, refl, sym, ap, subst, ◌∙◌, arith}
use Rattle.std.specs.Prelude.{IfOk, get_or, if◌then◌else◌, nat_lt, slice_get}
use Rattle.std.specs.Io.BufRead.{ends_with_byte, strip_last}
use Rattle.std.specs.declared.option.Option.{Option}
use Rattle.std.specs.declared.option.Option.TheVariants.{None, Some}
use Rattle.std.specs.declared.result.Result.{Result}
use Rattle.std.specs.declared.result.Result.TheVariants.{Ok, Err}
use Rattle.std.proofs.lemmas.Bool.{cond_both, ltb-false}
use Rattle.io_ends.specs.Known.{Contents}
use Rattle.value_core.specs.Codes.{value_code}
use Rattle.value_core.specs.Reading.{FailsText, text_read}
use Rattle.value_core.specs.Same.{same}
use Rattle.value_core.specs.Texts.{is_text}
use Rattle.value_core.specs.declared.text.TextFault.{TextFault}
use Rattle.value_core.specs.declared.text.TextFault.TheVariants as fault
use Rattle.value_core.specs.declared.value.Value.{Value}
use Rattle.value_core.specs.declared.value.Value.TheVariants as value
use Rattle.term_core.specs.Evaluation.{value_or_unit}
use Rattle.term_core.specs.declared.program.InputDecl.{InputDecl}
use Rattle.term_check.proofs.Small.{small_words}
use Rattle.core_rules.specs.declared.events.What.TheVariants as what
use Rattle.core_rules.specs.Core.{CoreState}
use Rattle.engine_rules.specs.Proper.{IsLight}
use Rattle.report_text.specs.declared.watched.WatchFault.{WatchFault}
use Rattle.report_text.specs.declared.watched.WatchFault.TheVariants as watch
use Rattle.report_text.specs.Lines.{watch_line}
use Rattle.session_rules.specs.Outputs.{Print}
use Rattle.session_rules.specs.Outside.{Outside}
use Rattle.session_rules.specs.Parts.{Part, nothing}
use Rattle.session_rules.specs.Scenes.{Scene}
use Rattle.session_rules.specs.Steps.{Counting, event}
use Rattle.session_rules.specs.Watching.{faulty, has_text, set_text, text_found, watch_one}
use Rattle.session_rules.proofs.Composing.{does_known}
use Rattle.session_rules.proofs.Doing.{print_failed, printed}
use Rattle.session_core.specs.declared.stop.Stop.{Stop}
use Rattle.session_core.specs.Doing.{DoesPart, Moment, Plays, scene_of}
use Rattle.session_core.specs.Printing.{Writes}
use Rattle.session_core.specs.Watched.{watch_file, watch_found, watch_nth}
use Rattle.session_core.proofs.Played.{does_from, stops_from}
use Rattle.session_core.proofs.Playing.{plays_nothing, plays_same}

-- ---- the line of a file

module _ (name : List ℕ) (why : WatchFault) (c : CoreState) (last : ℕ) (rs : Option (List ℕ)) (f : Option Contents) (e : Outside) (wr : Option (List ℕ)) where
  -- it was written, or a front of it
  pub faulty_plays : {T : Type 0} (result : Result T Stop) → Writes (watch_line name why) e.written wr result →
      Plays (faulty name (Some why)) (record { scene = scene_of c last rs f; outside = e }) (record { scene = scene_of c last rs f; outside = record e { written = wr } }) result
  faulty_plays (Ok x) wrote = does_from (faulty name (Some why)) c c last e (record e { written = wr }) rs f (λ r g.
      let s : Scene = record { core = c; last = last; readings = r; contents = g; exits = [] } in
      does_known (Print (watch_line name why) ∷ []) s s e (record e { written = wr }) (faulty name (Some why)) refl (λ more. refl) (printed (watch_line name why) e wr wrote))
  faulty_plays (Err z) wrote = stops_from (faulty name (Some why)) z c last e (record e { written = wr }) rs f (λ r g. record {
    stops = record { outputs = Print (watch_line name why) ∷ []; stopped = print_failed (watch_line name why) [] e wr wrote.0; goes = refl };
    limit = λ is. absurd (wrote.1 is);
  })

-- ---- a text

-- a text of at most 65,536 bytes is light
pub text_light : (t : List ℕ) → length t ≤ 65536 → IsLight (value.Words t)
text_light t short = let s = small_words t short in record { bounded = s.bounded; light = s.light }

take_short : (n : ℕ) (xs : List ℕ) → length (take n xs) ≤ length xs
take_short zero xs = omega arith
take_short (suc n) [] = omega arith
take_short (suc n) (x ∷ xs) = let h = take_short n xs in omega (arith, h)

strip_short : (xs : List ℕ) → length (strip_last 10 xs) ≤ length xs
strip_short xs = cond_both (ends_with_byte 10 xs) (take (length xs - 1) xs) xs (λ ys. length ys ≤ length xs) (λ _. take_short (length xs - 1) xs) (λ _. omega arith)

abbrev IsShort : Result (List ℕ) TextFault → Type 0
IsShort r = IfOk r (λ t. length t ≤ 65536)

read_short : (bytes : List ℕ) → IsShort (text_read bytes)
read_short bytes = elim (nat_lt 65536 (length bytes)) as (λ b. nat_lt 65536 (length bytes) ≡ b →
    IsShort (if b then Err (fault.TooLarge (length bytes)) else (if is_text bytes then Ok (strip_last 10 bytes) else Err fault.NotText))) [
      | true ↦ λ e. tt
      | false ↦ λ e. cond_both (is_text bytes) (Ok (strip_last 10 bytes)) (Err fault.NotText) IsShort
          (λ _. let a = strip_short bytes in let b = ltb-false 65536 (length bytes) e in omega (arith, a, b)) (λ _. tt)
    ] refl

-- what is read has at most so many
pub text_short : (bytes t : List ℕ) → text_read bytes ≡ Ok t → length t ≤ 65536
text_short bytes t is = subst IsShort is (read_short bytes)

module _ (counting : Counting) (index : ℕ) (name t : List ℕ) (c : CoreState) (last : ℕ) (rs : Option (List ℕ)) (f : Option Contents) (e : Outside) where
  abbrev now : Moment
  now = record { scene = scene_of c last rs f; outside = e }

  -- what is done by whether the input has the text
  abbrev by_test : Bool → Part
  by_test b s = if b then nothing s else event counting (what.SetInput name (value.Words t)) s

  set_is : (b : Bool) → has_text c index t ≡ b → (s : Scene) → s.core ≡ c → s.last ≡ last → by_test b s ≡ set_text counting index name t s
  set_is b has s core at = ap (λ (x : Bool). by_test x s) (sym has ∙ ap (λ (d : CoreState). has_text d index t) (sym core))

  has_is : (v : Value) (b : Bool) → slice_get c.inputs index ≡ Some v → b ≡ same value_code v (value.Words t) → has_text c index t ≡ b
  has_is v b at is = ap (λ (o : Option Value). same value_code (value_or_unit o) (value.Words t)) at ∙ sym is

  -- the input has it
  pub set_already : (v : Value) (b : Bool) → slice_get c.inputs index ≡ Some v → b ≡ same value_code v (value.Words t) → b ≡ true → DoesPart (set_text counting index name t) now now
  set_already v b at is holds =
      let r : Result (Unit {0}) Stop = Ok tt in
      plays_same (by_test true) (set_text counting index name t) c last rs f (set_is true (has_is v b at is ∙ holds)) e now r (plays_nothing now)

  -- the input is set
  pub set_plays : {T : Type 0} (v : Value) (b : Bool) (n : Moment) (result : Result T Stop) → slice_get c.inputs index ≡ Some v → b ≡ same value_code v (value.Words t) → b ≡ false →
      Plays (event counting (what.SetInput name (value.Words t))) now n result → Plays (set_text counting index name t) now n result
  set_plays v b n result at is fails y = plays_same (by_test false) (set_text counting index name t) c last rs f (set_is false (has_is v b at is ∙ fails)) e n result y

-- ---- what a content is read as

module _ (counting : Counting) (index : ℕ) (name bytes : List ℕ) (m n : Moment) {T : Type 0} (result : Result T Stop) where
  found_by : (r : Result (List ℕ) TextFault) → text_read bytes ≡ r → Plays (text_found counting index name r) m n result → Plays (text_found counting index name (text_read bytes)) m n result
  found_by r is y = subst (λ (q : Result (List ℕ) TextFault). Plays (text_found counting index name q) m n result) (sym is) y

  -- a text
  pub text_plays : (t : List ℕ) → text_read bytes ≡ Ok t → Plays (set_text counting index name t) m n result → Plays (text_found counting index name (text_read bytes)) m n result
  text_plays t is y = found_by (Ok t) is y

  -- too many bytes
  pub large_plays : (x : TextFault) (k : ℕ) → x ≡ fault.TooLarge k → FailsText x (text_read bytes) → Plays (faulty name (Some watch.TooLarge)) m n result → Plays (text_found counting index name (text_read bytes)) m n result
  large_plays x k is fails y = found_by (Err (fault.TooLarge k)) (subst (λ (z : TextFault). FailsText z (text_read bytes)) is fails) y

  -- no text
  pub other_plays : (x : TextFault) → x ≡ fault.NotText → FailsText x (text_read bytes) → Plays (faulty name (Some watch.NotText)) m n result → Plays (text_found counting index name (text_read bytes)) m n result
  other_plays x is fails y = found_by (Err fault.NotText) (subst (λ (z : TextFault). FailsText z (text_read bytes)) is fails) y

-- ---- an input by its index

get_is : (ds : List InputDecl) (i : ℕ) (d : InputDecl) → i < length ds → d ≡ get_or ds i d → slice_get ds i ≡ Some d
get_is [] i d less is = absurd (omega (arith, less))
get_is (x ∷ xs) zero d less is = ap (λ (y : InputDecl). Some y) (sym is)
get_is (x ∷ xs) (suc i) d less is = get_is xs i d (omega (arith, less)) is

-- the input that is found at an index
pub found_at : (ds es : List InputDecl) (i : ℕ) (d : InputDecl) → es ≡ ds → i < length ds → d ≡ get_or es i d → slice_get ds i ≡ Some d
found_at ds es i d same less is = get_is ds i d less (is ∙ ap (λ (l : List InputDecl). get_or l i d) same)

module _ (counting : Counting) (index : ℕ) (inputs : List InputDecl) (d : InputDecl) (at : slice_get inputs index ≡ Some d) where
  nth_is : (w : Option (List ℕ)) → d.watch ≡ w → (s : Scene) → watch_nth counting index inputs s ≡ watch_one counting index d.name w s
  nth_is w is s = ap (λ (o : Option InputDecl). watch_found counting index o s) at ∙ ap (λ (x : Option (List ℕ)). watch_one counting index d.name x s) is

  -- it has no file
  pub nth_unwatched : d.watch ≡ None → (s : Scene) → watch_nth counting index inputs s ≡ nothing s
  nth_unwatched none s = nth_is None none s

  -- it has one
  pub nth_plays : {T : Type 0} (name path : List ℕ) (m n : Moment) (result : Result T Stop) → name ≡ d.name → d.watch ≡ Some path → Plays (watch_file counting index name path) m n result → Plays (watch_nth counting index inputs) m n result
  nth_plays name path m n result named watched y =
      let is : watch_file counting index name path ≡ watch_nth counting index inputs =
      (λ i. λ s. (ap (λ (k : List ℕ). watch_file counting index k path s) named ∙ sym (nth_is (Some path) watched s)) i) in
      subst (λ (q : Part). Plays q m n result) is y
