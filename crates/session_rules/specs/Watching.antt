-- The files of inputs that are watched.
use Rattle.std.specs.Prelude.{ℕ, ◌+◌, Bool, if◌then◌else◌, List, [], ◌∷◌, take, Option, Some, None, Result, Ok, Err, slice_get}
use Rattle.io_ends.specs.Known.{content_now}
use Rattle.value_core.specs.declared.text.TextFault.{TextFault}
use Rattle.value_core.specs.declared.text.TextFault.TheVariants as fault
use Rattle.value_core.specs.declared.value.Value.TheVariants as value
use Rattle.value_core.specs.Codes.{value_code}
use Rattle.value_core.specs.Reading.{text_read}
use Rattle.value_core.specs.Same.{same}
use Rattle.term_core.specs.declared.program.InputDecl.{InputDecl}
use Rattle.term_core.specs.Evaluation.{value_or_unit}
use Rattle.core_rules.specs.declared.events.What.TheVariants as what
use Rattle.core_rules.specs.Core.{CoreState}
use Rattle.report_text.specs.declared.watched.WatchFault.{WatchFault}
use Rattle.report_text.specs.declared.watched.WatchFault.TheVariants as watch
use Rattle.report_text.specs.Lines.{watch_line}
use Rattle.session_rules.specs.Outputs.{Print}
use Rattle.session_rules.specs.Parts.{Part, does, nothing, then_do}
use Rattle.session_rules.specs.Scenes.{at_content}
use Rattle.session_rules.specs.Steps.{Counting, event}

-- a text has at most so many bytes
abbrev pub watch_limit : ℕ
watch_limit = 65536

-- why a content is no text; running out of memory is no reason
abbrev pub watch_fault : TextFault → Option WatchFault
watch_fault (fault.TooLarge n) = Some watch.TooLarge
watch_fault fault.NotText = Some watch.NotText
watch_fault fault.NoMemory = None

-- the line of a file that isn't as it should be
abbrev pub faulty : List ℕ → Option WatchFault → Part
faulty name None s = nothing s
faulty name (Some f) s = does (Print (watch_line name f) ∷ []) s

-- whether the input at an index has this text
abbrev pub has_text : CoreState → ℕ → List ℕ → Bool
has_text core index t = same value_code (value_or_unit (slice_get core.inputs index)) (value.Words t)

-- the input is set to a text, unless it has it
abbrev pub set_text : Counting → ℕ → List ℕ → List ℕ → Part
set_text counting index name t s =
    if has_text s.core index t then nothing s else event counting (what.SetInput name (value.Words t)) s

-- what is done for a content, by the text that it is
abbrev pub text_found : Counting → ℕ → List ℕ → Result (List ℕ) TextFault → Part
text_found counting index name (Ok t) s = set_text counting index name t s
text_found counting index name (Err f) s = faulty name (watch_fault f) s

-- what is done for what a read finds, of which one byte more than a text has is looked at
abbrev pub content_found : Counting → ℕ → List ℕ → Option (List ℕ) → Part
content_found counting index name None s = faulty name (Some watch.Missing) s
content_found counting index name (Some content) s =
    text_found counting index name (text_read (take (watch_limit + 1) content)) s

-- the file of an input, if it has one
abbrev pub watch_one : Counting → ℕ → List ℕ → Option (List ℕ) → Part
watch_one counting index name None s = nothing s
watch_one counting index name (Some path) s =
    content_found counting index name (content_now (s.contents path)) (at_content path s)

-- the files of these inputs, whose indices go from a number on
abbrev pub watch_from : Counting → ℕ → List InputDecl → Part
watch_from counting index [] = nothing
watch_from counting index (d ∷ ds) =
    then_do (watch_one counting index d.name d.watch) (watch_from counting (index + 1) ds)

-- all files that are watched, in order of the inputs, at the last reading
unfoldable pub watch_all : Counting → Part
watch_all counting s = watch_from counting 0 s.core.program.inputs s
