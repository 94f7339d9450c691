-- A worked session: a worker is paused, and the threshold goes and comes back; the job that waits is confirmed and run
use Rattle.std.proofs.Common.{◌≡◌, ℕ, List, [], ◌∷◌, ◌++◌, Some, None, refl, ap, ◌∙◌}
use Rattle.std.specs.Prelude.{codes}
use Rattle.std.specs.Char.{encode_utf8}
use Rattle.std.specs.Fmt.{digits}
use Rattle.std.specs.Str.{chars, is_utf8}
use Rattle.value_core.specs.declared.value.Value.TheVariants as value
use Rattle.value_core.specs.declared.state.State.TheVariants.{Fine, Active}
use Rattle.value_core.specs.declared.state.Stage.TheVariants.{Ready, Waiting, Running}
use Rattle.value_core.specs.Lexing.{lexed}
use Rattle.op_keys.specs.declared.level.Level.TheVariants.{Average}
use Rattle.pipe_text.specs.Words.{level_word}
use Rattle.io_ends.specs.Lines.{Bytes}
use Rattle.core_rules.specs.declared.events.What.TheVariants as what
use Rattle.core_rules.specs.declared.notes.Ending.TheVariants as ending
use Rattle.core_rules.specs.declared.notes.Note.TheVariants as note
use Rattle.core_rules.specs.declared.done.Done.{Done}
use Rattle.core_rules.specs.Replies.{next_alone}
use Rattle.core_rules.specs.Steps.{Refused, step}
use Rattle.core_rules.specs.declared.events.Refusal.TheVariants as refusal
use Rattle.term_core.specs.Counts.{count_of}
use Rattle.term_core.specs.Fresh.{FreshRun}
use Rattle.core_rules.proofs.WorkedRuns.{found, found_is, quiet}
use Rattle.report_text.specs.declared.controls.Control.TheVariants.{Event, Jobs}
use Rattle.report_text.specs.Controls.{control_read, control_word}
use Rattle.report_text.specs.Lines.{reply_text, step_text, note_text, start_line, end_line, ending_text, target_text, key_text, set_text, version_text, node_line, state_text, conflict_line, evaluated_text, job_line, jobs_text}
use Rattle.session_rules.specs.Outputs.{Output, Commit, Print, Run, texts}
use Rattle.session_rules.specs.Parts.{preceded, does}
use Rattle.session_rules.specs.Steps.{all_orders, one_order}
use Rattle.keeper_core.specs.Contents.{fresh, loaded}
use Rattle.session_rules.specs.Transcripts.{Quits, asked_part, before, before_lines, event_now, opening_part, session_of, transcript}
use Rattle.session_rules.specs.Watching.{watch_all}
use Rattle.session_rules.proofs.Going.{before_lines_are, event_goes, event_refused, line_goes, opening_by, opening_shown, order_is, orders_end, orders_go, session_goes, fresh_goes}
use Rattle.session_rules.proofs.Texts.{printed_words}
use Rattle.session_rules.proofs.Written.{fine, over_at, scene_at}
use Rattle.core_rules.proofs.OneBuild.{order, pipeline, queued, x}
use Rattle.core_rules.proofs.LevelRun.{confirmed, eighth, ended, fifth, fourth, held_back, left, let_go, opened, opening, paused, resumed, second, sixth, taken, third}

-- ---- what is done

abbrev pub first_outputs : List Output
first_outputs = Commit (next_alone 2) ∷ Print (codes "version 1\nr: active waiting at r\n") ∷ []

abbrev pub line_0 : List Output
line_0 = Commit (next_alone 2) ∷ Print (codes "version 2\n") ∷ []

abbrev pub line_1 : List Output
line_1 = Commit (next_alone 2) ∷ Print (codes "version 3\nr: active ready at r\n") ∷ []

abbrev pub line_2 : List Output
line_2 = Commit (next_alone 2) ∷ Print (codes "version 4\nr: active waiting at r\n") ∷ []

abbrev pub line_3 : List Output
line_3 = Commit (next_alone 2) ∷ Print (codes "version 5\n") ∷ []

abbrev pub order_15 : List Output
order_15 =
    Commit (next_alone 2)
    ∷ Print (codes "start 1 w test \"x\"\nversion 7\nr: active running at r\n")
    ∷ Run (order 1 (codes "x")) (fine (codes "one\n"))
    ∷ Commit (record (next_alone 2) { put = Some left; log = Some (1, codes "one\n") })
    ∷ Print (codes "end 1 ok\nversion 8\nr: ok \"one\"\n")
    ∷ []

abbrev pub line_4 : List Output
line_4 = Commit (next_alone 2) ∷ Print (codes "version 6\nr: active ready at r\n") ∷ (order_15)

-- ---- before the first line

text_1 : reply_text pipeline (opening_by opened (found x ([]) opened)) None ≡ codes "version 1\nr: active waiting at r\n"
unfolding reply_text step_text note_text start_line end_line ending_text target_text key_text set_text version_text node_line state_text conflict_line evaluated_text digits
text_1 = refl

opens : opening_part None (scene_at opened 0 ([]) (fine (codes "one\n") ∷ [])) ≡ does first_outputs (scene_at opened 0 ([]) (fine (codes "one\n") ∷ []))
opens = ap (λ (r : Done). does (Commit r.delta ∷ Print (reply_text pipeline r None) ∷ []) (scene_at opened 0 ([]) (fine (codes "one\n") ∷ []))) (opening_shown opened (found x ([]) opened) (found_is x ([]) opened))
    ∙ ap (λ (t : List ℕ). does (Commit (next_alone 2) ∷ Print t ∷ []) (scene_at opened 0 ([]) (fine (codes "one\n") ∷ []))) text_1

watches : watch_all None (scene_at opened 0 ([]) (fine (codes "one\n") ∷ [])) ≡ does [] (scene_at opened 0 ([]) (fine (codes "one\n") ∷ []))
unfolding watch_all
watches = refl

all_2 : all_orders None (scene_at opened 0 ([]) (fine (codes "one\n") ∷ [])) ≡ does ([]) (scene_at opened 0 ([]) (fine (codes "one\n") ∷ []))
unfolding all_orders
all_2 = orders_end None (scene_at opened 0 ([]) (fine (codes "one\n") ∷ [])) 999 refl

before_first : before_lines None (scene_at opened 0 ([]) (fine (codes "one\n") ∷ [])) ≡ does (first_outputs ++ ([] ++ ([]))) (scene_at opened 0 ([]) (fine (codes "one\n") ∷ []))
before_first = before_lines_are None (scene_at opened 0 ([]) (fine (codes "one\n") ∷ [])) opens watches all_2

-- ---- a line

asks_0 : control_read (codes "pause w") ≡ Some (Event (what.Pause (codes "w")))
unfolding control_word lexed is_utf8 chars encode_utf8 level_word
asks_0 = refl

text_3 : reply_text pipeline (quiet 2 2) None ≡ codes "version 2\n"
unfolding reply_text step_text note_text start_line end_line ending_text target_text key_text set_text version_text node_line state_text conflict_line evaluated_text digits
text_3 = refl

all_4 : all_orders None (scene_at second 0 ([]) (fine (codes "one\n") ∷ [])) ≡ does ([]) (scene_at second 0 ([]) (fine (codes "one\n") ∷ []))
unfolding all_orders
all_4 = orders_end None (scene_at second 0 ([]) (fine (codes "one\n") ∷ [])) 999 refl

goes_0 : asked_part None (Some (Event (what.Pause (codes "w")))) (scene_at opened 0 ([]) (fine (codes "one\n") ∷ [])) ≡ does line_0 (scene_at second 0 ([]) (fine (codes "one\n") ∷ []))
goes_0 = event_goes None (scene_at opened 0 ([]) (fine (codes "one\n") ∷ [])) (what.Pause (codes "w")) (paused) ∙ (λ i. preceded (Commit (next_alone 2) ∷ Print (text_3 i) ∷ []) (all_4 i))

-- ---- a line

asks_1 : control_read (codes "level none") ≡ Some (Event (what.SetLevel None))
unfolding control_word lexed is_utf8 chars encode_utf8 level_word
asks_1 = refl

text_5 : reply_text pipeline (record (quiet 3 2) { changed = (0, Active 0 Ready) ∷ [] }) None ≡ codes "version 3\nr: active ready at r\n"
unfolding reply_text step_text note_text start_line end_line ending_text target_text key_text set_text version_text node_line state_text conflict_line evaluated_text digits
text_5 = refl

all_6 : all_orders None (scene_at third 0 ([]) (fine (codes "one\n") ∷ [])) ≡ does ([]) (scene_at third 0 ([]) (fine (codes "one\n") ∷ []))
unfolding all_orders
all_6 = orders_end None (scene_at third 0 ([]) (fine (codes "one\n") ∷ [])) 999 refl

goes_1 : asked_part None (Some (Event (what.SetLevel None))) (scene_at second 0 ([]) (fine (codes "one\n") ∷ [])) ≡ does line_1 (scene_at third 0 ([]) (fine (codes "one\n") ∷ []))
goes_1 = event_goes None (scene_at second 0 ([]) (fine (codes "one\n") ∷ [])) (what.SetLevel None) (let_go) ∙ (λ i. preceded (Commit (next_alone 2) ∷ Print (text_5 i) ∷ []) (all_6 i))

-- ---- a line

asks_2 : control_read (codes "level average") ≡ Some (Event (what.SetLevel (Some Average)))
unfolding control_word lexed is_utf8 chars encode_utf8 level_word
asks_2 = refl

text_7 : reply_text pipeline (record (quiet 4 2) { changed = (0, Active 0 Waiting) ∷ [] }) None ≡ codes "version 4\nr: active waiting at r\n"
unfolding reply_text step_text note_text start_line end_line ending_text target_text key_text set_text version_text node_line state_text conflict_line evaluated_text digits
text_7 = refl

all_8 : all_orders None (scene_at fourth 0 ([]) (fine (codes "one\n") ∷ [])) ≡ does ([]) (scene_at fourth 0 ([]) (fine (codes "one\n") ∷ []))
unfolding all_orders
all_8 = orders_end None (scene_at fourth 0 ([]) (fine (codes "one\n") ∷ [])) 999 refl

goes_2 : asked_part None (Some (Event (what.SetLevel (Some Average)))) (scene_at third 0 ([]) (fine (codes "one\n") ∷ [])) ≡ does line_2 (scene_at fourth 0 ([]) (fine (codes "one\n") ∷ []))
goes_2 = event_goes None (scene_at third 0 ([]) (fine (codes "one\n") ∷ [])) (what.SetLevel (Some Average)) (held_back) ∙ (λ i. preceded (Commit (next_alone 2) ∷ Print (text_7 i) ∷ []) (all_8 i))

-- ---- a line

asks_3 : control_read (codes "resume w") ≡ Some (Event (what.Resume (codes "w")))
unfolding control_word lexed is_utf8 chars encode_utf8 level_word
asks_3 = refl

text_9 : reply_text pipeline (quiet 5 2) None ≡ codes "version 5\n"
unfolding reply_text step_text note_text start_line end_line ending_text target_text key_text set_text version_text node_line state_text conflict_line evaluated_text digits
text_9 = refl

all_10 : all_orders None (scene_at fifth 0 ([]) (fine (codes "one\n") ∷ [])) ≡ does ([]) (scene_at fifth 0 ([]) (fine (codes "one\n") ∷ []))
unfolding all_orders
all_10 = orders_end None (scene_at fifth 0 ([]) (fine (codes "one\n") ∷ [])) 999 refl

goes_3 : asked_part None (Some (Event (what.Resume (codes "w")))) (scene_at fourth 0 ([]) (fine (codes "one\n") ∷ [])) ≡ does line_3 (scene_at fifth 0 ([]) (fine (codes "one\n") ∷ []))
goes_3 = event_goes None (scene_at fourth 0 ([]) (fine (codes "one\n") ∷ [])) (what.Resume (codes "w")) (resumed) ∙ (λ i. preceded (Commit (next_alone 2) ∷ Print (text_9 i) ∷ []) (all_10 i))

-- ---- a line

asks_4 : control_read (codes "confirm 1") ≡ Some (Event (what.Confirm 1))
unfolding control_word lexed is_utf8 chars encode_utf8 level_word
asks_4 = refl

text_11 : reply_text pipeline (record (quiet 6 2) { changed = (0, Active 0 Ready) ∷ [] }) None ≡ codes "version 6\nr: active ready at r\n"
unfolding reply_text step_text note_text start_line end_line ending_text target_text key_text set_text version_text node_line state_text conflict_line evaluated_text digits
text_11 = refl

text_13 : reply_text pipeline (record (quiet 7 2) { note = note.Started (order 1 (codes "x")); changed = (0, Active 0 Running) ∷ [] }) None ≡ codes "start 1 w test \"x\"\nversion 7\nr: active running at r\n"
unfolding reply_text step_text note_text start_line end_line ending_text target_text key_text set_text version_text node_line state_text conflict_line evaluated_text digits
text_13 = refl

text_14 : reply_text pipeline (record (quiet 8 2) { note = note.Ended 1 ending.Fine; changed = (0, Fine (value.Words (codes "one"))) ∷ []; delta = record (next_alone 2) { put = Some left; log = Some (1, codes "one\n") } }) None ≡ codes "end 1 ok\nversion 8\nr: ok \"one\"\n"
unfolding reply_text step_text note_text start_line end_line ending_text target_text key_text set_text version_text node_line state_text conflict_line evaluated_text digits
text_14 = rw (printed_words (codes "one")) refl

order_15_is : one_order None 0 (scene_at sixth 0 ([]) (fine (codes "one\n") ∷ [])) ≡ does order_15 (scene_at eighth 0 ([]) ([]))
order_15_is = order_is None (scene_at sixth 0 ([]) (fine (codes "one\n") ∷ [])) 0 (order 1 (codes "x")) (taken) refl (ended)
    ∙ (λ i. does (Commit (next_alone 2) ∷ Print (text_13 i) ∷ Run (order 1 (codes "x")) (fine (codes "one\n")) ∷ Commit (record (next_alone 2) { put = Some left; log = Some (1, codes "one\n") }) ∷ Print (text_14 i) ∷ []) (scene_at eighth 0 ([]) ([])))

all_12 : all_orders None (scene_at sixth 0 ([]) (fine (codes "one\n") ∷ [])) ≡ does (order_15) (scene_at eighth 0 ([]) ([]))
unfolding all_orders
all_12 = orders_go None (scene_at sixth 0 ([]) (fine (codes "one\n") ∷ [])) 999 0 refl order_15_is ∙ ap (preceded order_15) (orders_end None (scene_at eighth 0 ([]) ([])) 998 refl)

goes_4 : asked_part None (Some (Event (what.Confirm 1))) (scene_at fifth 0 ([]) (fine (codes "one\n") ∷ [])) ≡ does line_4 (scene_at eighth 0 ([]) ([]))
goes_4 = event_goes None (scene_at fifth 0 ([]) (fine (codes "one\n") ∷ [])) (what.Confirm 1) (confirmed) ∙ (λ i. preceded (Commit (next_alone 2) ∷ Print (text_11 i) ∷ []) (all_12 i))

-- ---- all of it

-- the input
abbrev pub input : List ℕ
input = codes "pause w\nlevel none\nlevel average\nresume w\nconfirm 1\n"

-- all outputs
abbrev pub all_outputs : List Output
all_outputs = (first_outputs ++ ([])) ++ (line_0 ++ (line_1 ++ (line_2 ++ (line_3 ++ (line_4)))))

pub script_is : transcript pipeline (loaded fresh) (Some Average) None (over_at (input) ([]) (fine (codes "one\n") ∷ [])) ≡ record { outputs = all_outputs; end = Quits }
script_is =
    fresh_goes pipeline (Some Average) None (over_at (input) ([]) (fine (codes "one\n") ∷ []))
    ∙ ap (session_of None (over_at (input) ([]) (fine (codes "one\n") ∷ []))) opening
    ∙ session_goes None (over_at (input) ([]) (fine (codes "one\n") ∷ [])) opened before_first
    ∙ ap (before (first_outputs ++ ([]))) (line_goes None (scene_at opened 0 ([]) (fine (codes "one\n") ∷ [])) (codes "pause w") (Bytes (codes "level none") ∷ Bytes (codes "level average") ∷ Bytes (codes "resume w") ∷ Bytes (codes "confirm 1") ∷ []) 1000000 asks_0 refl goes_0 refl ∙ ap (before line_0) (line_goes None (scene_at second 0 ([]) (fine (codes "one\n") ∷ [])) (codes "level none") (Bytes (codes "level average") ∷ Bytes (codes "resume w") ∷ Bytes (codes "confirm 1") ∷ []) 999999 asks_1 refl goes_1 refl ∙ ap (before line_1) (line_goes None (scene_at third 0 ([]) (fine (codes "one\n") ∷ [])) (codes "level average") (Bytes (codes "resume w") ∷ Bytes (codes "confirm 1") ∷ []) 999998 asks_2 refl goes_2 refl ∙ ap (before line_2) (line_goes None (scene_at fourth 0 ([]) (fine (codes "one\n") ∷ [])) (codes "resume w") (Bytes (codes "confirm 1") ∷ []) 999997 asks_3 refl goes_3 refl ∙ ap (before line_3) (line_goes None (scene_at fifth 0 ([]) (fine (codes "one\n") ∷ [])) (codes "confirm 1") ([]) 999996 asks_4 refl goes_4 refl)))))

-- what is written
pub text_is : texts all_outputs ≡ codes "version 1\nr: active waiting at r\nversion 2\nversion 3\nr: active ready at r\nversion 4\nr: active waiting at r\nversion 5\nversion 6\nr: active ready at r\nstart 1 w test \"x\"\nversion 7\nr: active running at r\nend 1 ok\nversion 8\nr: ok \"one\"\n"
text_is = refl

-- ---- `jobs` at its beginning

-- the line of the job that waits, by what the nodes come to
abbrev jobs_by : FreshRun → List ℕ
jobs_by f = job_line pipeline (queued 1 (codes "x")) Waiting (count_of f.wants (queued 1 (codes "x")).triple) ++ []

pub jobs_are : jobs_text opened ≡ codes "job 1 test \"x\" waiting refs 1\n"
unfolding jobs_text job_line target_text key_text set_text digits
jobs_are = ap jobs_by (found_is x [] opened)

pub jobs_print : asked_part None (Some Jobs) (scene_at opened 0 [] []) ≡ does (Print (codes "job 1 test \"x\" waiting refs 1\n") ∷ []) (scene_at opened 0 [] [])
jobs_print = ap (λ (t : List ℕ). does (Print t ∷ []) (scene_at opened 0 [] [])) jobs_are

-- a job that isn't there is refused
refused_9 : step opened (record { at = 0; what = what.Cancel 9 }) ≡ Refused refusal.UnknownJob
unfolding step
refused_9 = refl

pub refusal_prints : event_now None (what.Cancel 9) (scene_at opened 0 [] []) ≡ does (Print (codes "refused unknown job\n") ∷ []) (scene_at opened 0 [] [])
refusal_prints = event_refused None (scene_at opened 0 [] []) (what.Cancel 9) refused_9 refl
