-- A worked session: an input follows a file, whose contents are read at the opening and four times more.
use Rattle.std.proofs.Common.{◌≡◌, ℕ, zero, suc, ◌<◌, Bool, true, List, [], ◌∷◌, ◌++◌, length, replicate, take, Option, Some, None, refl, ap, ◌∙◌, arith}
use Rattle.std.specs.Prelude.{codes, if◌then◌else◌, nat_lt, slice_index, ◌-◌, Ok, Err, Result}
use Rattle.std.specs.Char.{encode_utf8}
use Rattle.std.specs.Fmt.{digits}
use Rattle.std.specs.Str.{chars, is_utf8}
use Rattle.std.proofs.lemmas.List.{length-replicate}
use Rattle.io_ends.specs.Lines.{TextLine, Bytes}
use Rattle.io_ends.specs.Known.{content_now, contents_later}
use Rattle.value_core.specs.declared.value.Value.TheVariants as value
use Rattle.core_rules.specs.declared.events.What.TheVariants as what
use Rattle.value_core.specs.declared.text.TextFault.{TextFault}
use Rattle.value_core.specs.declared.text.TextFault.TheVariants.{NotText, TooLarge}
use Rattle.report_text.specs.declared.watched.WatchFault.{WatchFault}
use Rattle.report_text.specs.declared.watched.WatchFault.TheVariants as watch
use Rattle.value_core.specs.Lexing.{lexed}
use Rattle.value_core.specs.Reading.{text_read}
use Rattle.core_rules.specs.declared.done.Done.{Done}
use Rattle.core_rules.specs.Replies.{next_alone}
use Rattle.core_rules.specs.Steps.{Answer}
use Rattle.core_rules.proofs.WorkedRuns.{found, found_is}
use Rattle.report_text.specs.declared.controls.Control.TheVariants.{Poll}
use Rattle.report_text.specs.Controls.{control_read, control_word}
use Rattle.report_text.specs.Lines.{reply_text, step_text, note_text, start_line, end_line, ending_text, target_text, key_text, set_text, version_text, node_line, state_text, conflict_line, evaluated_text, watch_line}
use Rattle.session_rules.specs.Outputs.{Output, Commit, Print, texts}
use Rattle.session_rules.specs.Parts.{Turn, preceded, does, followed, nothing}
use Rattle.session_rules.specs.Scenes.{Ends, Scene}
use Rattle.session_rules.specs.Steps.{all_orders, answered, event}
use Rattle.keeper_core.specs.Contents.{fresh, loaded}
use Rattle.session_rules.specs.Transcripts.{Quits, asked_part, before, before_lines, lines_from, opening_part, session_of, transcript}
use Rattle.session_rules.specs.Watching.{content_found, faulty, text_found, watch_all, watch_fault}
use Rattle.session_rules.proofs.Going.{before_lines_are, line_goes, opening_by, opening_shown, orders_end, session_goes, fresh_goes}
use Rattle.session_rules.proofs.Texts.{printed_words}
use Rattle.session_rules.proofs.WatchedSteps.{a, has_another, has_it, held, opening, pipeline, set_b, sets_b, setting, stored, too_long, version, watch_is, watching}

-- ---- contents

-- more than a text may have
abbrev pub long : List ℕ
long = replicate 65537 99

is_long : 65536 < length long
is_long = omega (arith, length-replicate {A = ℕ} 65537 99)

-- those after the first, the second and so on
abbrev pub later_4 : List (List ℕ)
later_4 = long ∷ []

abbrev pub later_3 : List (List ℕ)
later_3 = codes "b" ∷ later_4

abbrev pub later_2 : List (List ℕ)
later_2 = codes "b\n" ∷ later_3

abbrev pub later_1 : List (List ℕ)
later_1 = (255 ∷ []) ∷ later_2

abbrev pub all_contents : List (List ℕ)
all_contents = codes "a\n" ∷ later_1

-- ---- single reads

-- a text that the input has already
kept : (n : ℕ) (t content : List ℕ) (rest : List (List ℕ)) → text_read (take 65537 content) ≡ Ok t → content_found None 0 (codes "t") (Some content) (watching (version n t) rest) ≡ does [] (watching (version n t) rest)
kept n t content rest reads =
    let s : Scene = watching (version n t) rest in
    ap (λ (r : Result (List ℕ) TextFault). text_found None 0 (codes "t") r s) reads
    ∙ ap (λ (b : Bool). if b then nothing s else event None (what.SetInput (codes "t") (value.Words t)) s) (has_it n t)

-- a content that is no text, and its line
refused : (n : ℕ) (t content : List ℕ) (rest : List (List ℕ)) (f : TextFault) (w : WatchFault) (line : List ℕ) → watch_fault f ≡ Some w → watch_line (codes "t") w ≡ line → text_read (take 65537 content) ≡ Err f →
    content_found None 0 (codes "t") (Some content) (watching (version n t) rest) ≡ does (Print line ∷ []) (watching (version n t) rest)
refused n t content rest f w line fault is reads =
    let s : Scene = watching (version n t) rest in
    ap (λ (r : Result (List ℕ) TextFault). text_found None 0 (codes "t") r s) reads
    ∙ ap (λ (o : Option WatchFault). faulty (codes "t") o s) fault
    ∙ ap (λ (l : List ℕ). does (Print l ∷ []) s) is

not_text : watch_line (codes "t") watch.NotText ≡ codes "watch t not text\n"
unfolding watch_line
not_text = refl

too_large : watch_line (codes "t") watch.TooLarge ≡ codes "watch t too large\n"
unfolding watch_line
too_large = refl

-- the new text
text_b : reply_text pipeline setting None ≡ codes "version 2\nn: ok \"b\"\n"
unfolding reply_text step_text note_text start_line end_line ending_text target_text key_text set_text version_text node_line state_text conflict_line evaluated_text digits
text_b = rw (printed_words (codes "b")) refl

b_read : text_read (take 65537 (codes "b\n")) ≡ Ok (codes "b")
unfolding is_utf8 chars encode_utf8
b_read = refl

follows : content_found None 0 (codes "t") (Some (codes "b\n")) (watching (version 1 (codes "a")) later_3) ≡ does (Commit stored ∷ Print (codes "version 2\nn: ok \"b\"\n") ∷ []) (watching (version 2 (codes "b")) later_3)
follows =
    let s : Scene = watching (version 1 (codes "a")) later_3 in
    ap (λ (r : Result (List ℕ) TextFault). text_found None 0 (codes "t") r s) b_read
    ∙ ap (λ (b : Bool). if b then nothing s else event None set_b s) (has_another 1 (codes "a") (codes "b") (λ e. omega (arith, ap (λ t. slice_index t 0) e)))
    ∙ ap (λ (answer : Answer). answered None s answer) sets_b
    ∙ ap (λ (t : List ℕ). does (Commit stored ∷ Print t ∷ []) (watching (version 2 (codes "b")) later_3)) text_b

-- ---- polls

no_orders : (n : ℕ) (t : List ℕ) (contents : List (List ℕ)) → all_orders None (watching (version n t) contents) ≡ does [] (watching (version n t) contents)
unfolding all_orders
no_orders n t contents = orders_end None (watching (version n t) contents) 999 refl

asks : control_read (codes "poll") ≡ Some Poll
unfolding control_word lexed is_utf8 chars encode_utf8
asks = refl

-- what a read does
read_does : (n m : ℕ) (t u : List ℕ) (contents : List (List ℕ)) (outputs : List Output) →
    content_found None 0 (codes "t") (content_now contents) (watching (version n t) (contents_later contents)) ≡ does outputs (watching (version m u) (contents_later contents)) →
    watch_all None (watching (version n t) contents) ≡ does (outputs ++ []) (watching (version m u) (contents_later contents))
read_does n m t u contents outputs reads = watch_is n t contents ∙ ap (λ (w : Turn). followed w nothing) reads

poll_does : (n m : ℕ) (t u : List ℕ) (contents : List (List ℕ)) (outputs : List Output) →
    content_found None 0 (codes "t") (content_now contents) (watching (version n t) (contents_later contents)) ≡ does outputs (watching (version m u) (contents_later contents)) →
    asked_part None (Some Poll) (watching (version n t) contents) ≡ does ((outputs ++ []) ++ []) (watching (version m u) (contents_later contents))
poll_does n m t u contents outputs reads =
    ap (λ (w : Turn). followed w (all_orders None)) (read_does n m t u contents outputs reads)
    ∙ ap (λ (w : Turn). preceded (outputs ++ []) w) (no_orders m u (contents_later contents))

-- the second text again
b_again : text_read (take 65537 (codes "b")) ≡ Ok (codes "b")
unfolding is_utf8 chars encode_utf8
b_again = refl

-- the first text, at the opening
a_read : text_read (take 65537 (codes "a\n")) ≡ Ok (codes "a")
unfolding is_utf8 chars encode_utf8
a_read = refl

text_opening : reply_text pipeline (opening_by (version 1 (codes "a")) (found a [] (version 1 (codes "a")))) None ≡ codes "version 1\nn: ok \"a\"\n"
unfolding reply_text step_text note_text start_line end_line ending_text target_text key_text set_text version_text node_line state_text conflict_line evaluated_text digits
text_opening = rw (printed_words (codes "a")) refl

-- version 1
abbrev pub first_outputs : List Output
first_outputs = Commit (next_alone 1) ∷ Print (codes "version 1\nn: ok \"a\"\n") ∷ []

opens : (contents : List (List ℕ)) → opening_part None (watching (version 1 (codes "a")) contents) ≡ does first_outputs (watching (version 1 (codes "a")) contents)
opens contents =
    ap (λ (r : Done). does (Commit r.delta ∷ Print (reply_text pipeline r None) ∷ []) (watching (version 1 (codes "a")) contents))
    (opening_shown (version 1 (codes "a")) (found a [] (version 1 (codes "a"))) (found_is a [] (version 1 (codes "a"))))
    ∙ ap (λ (t : List ℕ). does (Commit (next_alone 1) ∷ Print t ∷ []) (watching (version 1 (codes "a")) contents)) text_opening

before_first : before_lines None (watching (version 1 (codes "a")) all_contents) ≡ does first_outputs (watching (version 1 (codes "a")) later_1)
before_first = before_lines_are None (watching (version 1 (codes "a")) all_contents) (opens all_contents) (read_does 1 1 (codes "a") (codes "a") all_contents [] (kept 1 (codes "a") (codes "a\n") later_1 a_read)) (no_orders 1 (codes "a") later_1)

-- ---- all of it

-- four lines
abbrev pub input : List ℕ
input = codes "poll\npoll\npoll\npoll\n"

abbrev pub ends : Ends
ends = record { bytes = input; readings = []; contents = held all_contents; exits = [] }

-- all outputs
abbrev pub all_outputs : List Output
all_outputs = first_outputs ++ (Print (codes "watch t not text\n") ∷ Commit stored ∷ Print (codes "version 2\nn: ok \"b\"\n") ∷ Print (codes "watch t too large\n") ∷ [])

-- the byte ff is no text
ff_read : text_read (take 65537 (255 ∷ [])) ≡ Err NotText
unfolding is_utf8 chars encode_utf8
ff_read = refl

polls : (rest : List TextLine) (n m k : ℕ) (t u : List ℕ) (contents : List (List ℕ)) (outputs : List Output) →
    content_found None 0 (codes "t") (content_now contents) (watching (version n t) (contents_later contents)) ≡ does outputs (watching (version m u) (contents_later contents)) → nat_lt 1 k ≡ true →
    lines_from None (Bytes (codes "poll") ∷ rest) k (watching (version n t) contents) ≡ before ((outputs ++ []) ++ []) (lines_from None rest (k - 1) (watching (version m u) (contents_later contents)))
polls rest n m k t u contents outputs reads more = line_goes None (watching (version n t) contents) (codes "poll") rest k asks refl (poll_does n m t u contents outputs reads) more

-- so many polls
abbrev left : ℕ → List TextLine
left zero = []
left (suc n) = Bytes (codes "poll") ∷ left n

pub script_is : transcript pipeline (loaded fresh) None None ends ≡ record { outputs = all_outputs; end = Quits }
script_is =
    fresh_goes pipeline None None ends
    ∙ ap (session_of None ends) opening
    ∙ session_goes None ends (version 1 (codes "a")) before_first
    ∙ ap (before first_outputs) (
    polls (left 3) 1 1 1000000 (codes "a") (codes "a") later_1 _ (refused 1 (codes "a") (255 ∷ []) later_2 NotText watch.NotText _ refl not_text ff_read) refl
    ∙ ap (before (Print (codes "watch t not text\n") ∷ [])) (
    polls (left 2) 1 2 999999 (codes "a") (codes "b") later_2 _ follows refl
    ∙ ap (before (Commit stored ∷ Print (codes "version 2\nn: ok \"b\"\n") ∷ [])) (
    polls (left 1) 2 2 999998 (codes "b") (codes "b") later_3 [] (kept 2 (codes "b") (codes "b") later_4 b_again) refl
    ∙ polls (left 0) 2 2 999997 (codes "b") (codes "b") later_4 _ (refused 2 (codes "b") long later_4 (TooLarge 65537) watch.TooLarge _ refl too_large (too_long long is_long)) refl
    )
    )
    )

-- what is written
pub text_is : texts all_outputs ≡ codes "version 1\nn: ok \"a\"\nwatch t not text\nversion 2\nn: ok \"b\"\nwatch t too large\n"
text_is = refl

-- ---- a file that is missing

abbrev pub missing_ends : Ends
missing_ends = record { bytes = []; readings = []; contents = held []; exits = [] }

none_found : content_found None 0 (codes "t") None (watching (version 1 (codes "a")) []) ≡ does (Print (codes "watch t missing\n") ∷ []) (watching (version 1 (codes "a")) [])
unfolding watch_line
none_found = refl

missing_first : before_lines None (watching (version 1 (codes "a")) []) ≡ does (first_outputs ++ (Print (codes "watch t missing\n") ∷ [])) (watching (version 1 (codes "a")) [])
missing_first = before_lines_are None (watching (version 1 (codes "a")) []) (opens []) (read_does 1 1 (codes "a") (codes "a") [] (Print (codes "watch t missing\n") ∷ []) none_found) (no_orders 1 (codes "a") [])

pub missing_is : transcript pipeline (loaded fresh) None None missing_ends ≡ record { outputs = first_outputs ++ (Print (codes "watch t missing\n") ∷ []); end = Quits }
missing_is = fresh_goes pipeline None None missing_ends ∙ ap (session_of None missing_ends) opening ∙ session_goes None missing_ends (version 1 (codes "a")) missing_first

pub missing_text_is : texts (first_outputs ++ (Print (codes "watch t missing\n") ∷ [])) ≡ codes "version 1\nn: ok \"a\"\nwatch t missing\n"
missing_text_is = refl
