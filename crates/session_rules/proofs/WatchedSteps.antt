-- A worked run whose input follows a file. States are named by their versions.
use Rattle.std.proofs.Common.{◌≡◌, ℕ, ◌<◌, Bool, true, false, List, [], ◌∷◌, length, take, Some, None, refl, ap, arith}
use Rattle.std.specs.Prelude.{codes, if◌then◌else◌, slice_index, Result, Err}
use Rattle.std.specs.FinMap.{empty}
use Rattle.std.specs.Str.{bytes_eq}
use Rattle.std.proofs.lemmas.List.{length-take}
use Rattle.io_ends.specs.Known.{content_now, contents_later}
use Rattle.value_core.specs.declared.text.TextFault.TheVariants.{TooLarge}
use Rattle.value_core.specs.declared.text.TextFault.{TextFault}
use Rattle.value_core.specs.declared.value.Value.{Value}
use Rattle.value_core.specs.declared.value.Value as V
use denote.Hole.Carrier as C
use Rattle.value_core.specs.declared.value.Value.TheVariants as value
use Rattle.value_core.specs.declared.state.State.TheVariants.{Fine}
use Rattle.value_core.specs.Codes.{value_code}
use Rattle.value_core.specs.Parts.{text_in}
use Rattle.value_core.specs.Printed.{printed}
use Rattle.value_core.specs.Reading.{text_read}
use Rattle.value_core.specs.Same.{same}
use Rattle.value_core.proofs.Sames.{same_refl, same_true}
use Rattle.term_core.specs.declared.program.Program.{Program}
use Rattle.term_core.specs.declared.program.Term.TheVariants as term
use Rattle.term_core.specs.Evaluation.{context_of}
use Rattle.term_core.specs.Fresh.{FreshRun}
use Rattle.term_core.specs.Fresh as nodes
use Rattle.term_core.specs.World.{World}
use Rattle.core_rules.specs.declared.events.What.{What}
use Rattle.core_rules.specs.declared.events.What.TheVariants as what
use Rattle.core_rules.specs.Core.{CoreState}
use Rattle.core_rules.specs.Openings.{start}
use Rattle.core_rules.specs.declared.done.Done.{Done}
use Rattle.core_rules.specs.declared.done.Delta.{Delta}
use Rattle.core_rules.specs.Replies.{next_alone}
use Rattle.core_rules.specs.Steps.{Accepted, step}
use Rattle.core_rules.proofs.Leaves.{input_is}
use Rattle.core_rules.proofs.ReplyParts.{other_text, sets}
use Rattle.core_rules.proofs.WorkedRuns.{Evaluated, answered, at, nothing_stored, opens, quiet}
use Rattle.session_rules.specs.Parts.{followed, nothing}
use Rattle.session_rules.specs.Scenes.{Scene, contents_after}
use Rattle.session_rules.specs.Watching.{content_found, has_text, watch_all}

-- ---- the pipeline

abbrev pub pipeline : Program
pipeline = record {
  version = 1;
  inputs = record { name = codes "t"; value = value.Words (codes "a"); watch = Some (codes "t.txt") } ∷ [];
  pools = [];
  clients = [];
  workers = [];
  ops = [];
  nodes = record { name = codes "n"; term = term.Input (codes "t") } ∷ [];
}

pub fresh_is : (t : List ℕ) (w : World) → nodes.fresh pipeline (value.Words t ∷ []) w ≡ record { states = Fine (value.Words t) ∷ []; wants = []; ticks = 1 }
unfolding nodes.fresh
fresh_is t w =
    let none : FreshRun = record { states = []; wants = []; ticks = 0 } in
    ap (λ m. nodes.run_before (m []) none) (input_is (context_of pipeline 0 (value.Words t ∷ []) [] w) (codes "t"))

abbrev pub with_text : List ℕ → Evaluated
with_text t = record { program = pipeline; inputs = value.Words t ∷ []; run = λ entry. record { states = Fine (value.Words t) ∷ []; wants = []; ticks = 1 }; is = fresh_is t }

abbrev pub a : Evaluated
a = with_text (codes "a")

-- ---- versions

-- a version with a text
abbrev pub version : ℕ → List ℕ → CoreState
version n t = record {
  program = pipeline;
  threshold = None;
  now = 0;
  version = n;
  inputs = value.Words t ∷ [];
  rows = empty;
  next = 1;
  jobs = [];
  fair = record { tickets = []; next = []; rates = []; paused = []; hints = empty };
}

pub opening : start pipeline nothing_stored None 0 ≡ Some (version 1 (codes "a"))
opening = opens (with_text (codes "a")) None 0 refl refl

-- the input is set to the text
abbrev pub set_b : What
set_b = what.SetInput (codes "t") (value.Words (codes "b"))

abbrev pub stored : Delta
stored = record (next_alone 1) { input = Some (codes "t", printed (value.Words (codes "b"))) }

abbrev pub setting : Done
setting = record (quiet 2 1) { changed = (0, Fine (value.Words (codes "b"))) ∷ []; delta = stored }

pub sets_b : step (version 1 (codes "a")) (at 0 set_b) ≡ Accepted (version 2 (codes "b")) setting
sets_b = answered (with_text (codes "a")) [] (version 1 (codes "a")) (with_text (codes "b")) [] _ (sets (codes "t") (codes "a") (codes "b")) refl refl refl refl
    (other_text (codes "a") (codes "b") (λ e. omega (arith, ap (λ t. slice_index t 0) e)))

-- ---- the file

-- its contents, in order of the reads
abbrev pub held : List (List ℕ) → List ℕ → List (List ℕ)
held contents path = if bytes_eq path (codes "t.txt") then contents else []

read_or_not : (contents : List (List ℕ)) (b : Bool) → (if b then contents_later (if b then contents else []) else (if b then contents else [])) ≡ (if b then contents_later contents else [])
read_or_not contents true = refl
read_or_not contents false = refl

after_read : (contents : List (List ℕ)) → contents_after (codes "t.txt") (held contents) ≡ held (contents_later contents)
after_read contents = λ i path. read_or_not contents (bytes_eq path (codes "t.txt")) i

-- a scene with contents that are still to come
abbrev pub watching : CoreState → List (List ℕ) → Scene
watching core contents = record { core = core; last = 0; readings = []; contents = held contents; exits = [] }

-- what a read comes to
pub watch_is : (n : ℕ) (t : List ℕ) (contents : List (List ℕ)) →
    watch_all None (watching (version n t) contents) ≡ followed (content_found None 0 (codes "t") (content_now contents) (watching (version n t) (contents_later contents))) nothing
unfolding watch_all
watch_is n t contents = ap (λ (f : List ℕ → List (List ℕ)). followed (content_found None 0 (codes "t") (content_now contents) (record { core = version n t; last = 0; readings = []; contents = f; exits = [] })) nothing) (after_read contents)

-- the input has the text, or another one
pub has_it : (n : ℕ) (t : List ℕ) → has_text (version n t) 0 t ≡ true
has_it n t = same_refl value_code (value.Words t)

texts_apart : (t u : List ℕ) → (t ≡ u → ⊥) → value.Words t ≡ value.Words u → ⊥
unfolding V.out-Value C.out
texts_apart t u h e = h (ap text_in e)

pub has_another : (n : ℕ) (t u : List ℕ) → (t ≡ u → ⊥) → has_text (version n t) 0 u ≡ false
has_another n t u h = elim (same value_code (value.Words t) (value.Words u)) as (λ (b : Bool). same value_code (value.Words t) (value.Words u) ≡ b → b ≡ false)
    [ true ↦ λ e. absurd (texts_apart t u h (same_true value_code (value.Words t) (value.Words u) e)) | false ↦ λ e. refl ] refl

-- a content that is too long is no text
text_unless : List ℕ → Bool → Result (List ℕ) TextFault → Result (List ℕ) TextFault
text_unless bytes long other = if long then Err (TooLarge (length bytes)) else other

pub too_long : (content : List ℕ) → 65536 < length content → text_read (take 65537 content) ≡ Err (TooLarge 65537)
too_long content long =
    let seen : length (take 65537 content) ≡ 65537 = omega (arith, length-take 65537 content, long) in
    rw (seen) refl
