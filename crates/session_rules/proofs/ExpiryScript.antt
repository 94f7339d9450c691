-- A worked session: a row runs out 1,000 milliseconds after its end, which the next event sees
use Rattle.std.proofs.Common.{◌≡◌, ℕ, false, List, [], ◌∷◌, ◌++◌, Some, None, refl, ap, ◌∙◌}
use Rattle.std.specs.Prelude.{codes}
use Rattle.std.specs.Char.{encode_utf8}
use Rattle.std.specs.Fmt.{digits}
use Rattle.std.specs.Str.{chars, is_utf8}
use Rattle.value_core.specs.declared.value.Value.TheVariants as value
use Rattle.value_core.specs.declared.state.State.TheVariants.{Fine, Active}
use Rattle.value_core.specs.declared.state.Stage.TheVariants.{Ready, Running}
use Rattle.value_core.specs.Lexing.{lexed}
use Rattle.pipe_text.specs.Words.{level_word}
use Rattle.io_ends.specs.Lines.{Bytes}
use Rattle.core_rules.specs.declared.events.What.TheVariants as what
use Rattle.core_rules.specs.declared.notes.Ending.TheVariants as ending
use Rattle.core_rules.specs.declared.notes.Note.TheVariants as note
use Rattle.core_rules.specs.declared.done.Done.{Done}
use Rattle.core_rules.specs.Replies.{next_alone}
use Rattle.core_rules.proofs.WorkedRuns.{found, found_is, quiet}
use Rattle.report_text.specs.declared.controls.Control.TheVariants.{Event}
use Rattle.report_text.specs.Controls.{control_read, control_word}
use Rattle.report_text.specs.Lines.{reply_text, step_text, note_text, start_line, end_line, ending_text, target_text, key_text, set_text, version_text, node_line, state_text, conflict_line, evaluated_text}
use Rattle.session_rules.specs.Outputs.{Output, Commit, Print, Run, texts}
use Rattle.session_rules.specs.Parts.{preceded, does}
use Rattle.session_rules.specs.Steps.{all_orders, one_order}
use Rattle.keeper_core.specs.Contents.{fresh, loaded}
use Rattle.session_rules.specs.Transcripts.{Quits, asked_part, before, before_lines, opening_part, session_of, transcript}
use Rattle.session_rules.specs.Watching.{watch_all}
use Rattle.session_rules.proofs.Going.{before_lines_are, event_goes, line_goes, opening_by, opening_shown, order_is, orders_end, orders_go, session_goes, fresh_goes}
use Rattle.session_rules.proofs.Texts.{printed_words}
use Rattle.session_rules.proofs.Written.{fine, over_at, scene_at}
use Rattle.core_rules.proofs.ExpiryRun.{eighth, ended_anew, fifth, for_a_second, fourth, not_set_back, one, opened, opening, run_out, sixth, still_valid, taken_anew, third, two, x}
use Rattle.core_rules.proofs.OneBuild.{order, pipeline_with}
use Rattle.session_rules.proofs.ExpirySteps.{ending_one, ends_one, takes, taking}

-- ---- what is done

abbrev pub first_outputs : List Output
first_outputs = Commit (next_alone 2) ∷ Print (codes "version 1\nr: active ready at r\n") ∷ []

abbrev pub order_5 : List Output
order_5 =
    Commit (next_alone 2)
    ∷ Print (codes "start 1 w test \"x\"\nversion 2\nr: active running at r\n")
    ∷ Run (order 1 (codes "x")) (fine (codes "one\n"))
    ∷ Commit (record (next_alone 2) { put = Some one; log = Some (1, codes "one\n") })
    ∷ Print (codes "end 1 ok\nversion 3\nr: ok \"one\"\n")
    ∷ []

abbrev pub line_0 : List Output
line_0 = Commit (next_alone 2) ∷ Print (codes "version 4\n") ∷ []

abbrev pub line_1 : List Output
line_1 = Commit (next_alone 2) ∷ Print (codes "version 5\n") ∷ []

abbrev pub order_14 : List Output
order_14 =
    Commit (next_alone 3)
    ∷ Print (codes "start 2 w test \"x\"\nversion 7\nr: active running at r\n")
    ∷ Run (order 2 (codes "x")) (fine (codes "two\n"))
    ∷ Commit (record (next_alone 3) { put = Some two; log = Some (2, codes "two\n") })
    ∷ Print (codes "end 2 ok\nversion 8\nr: ok \"two\"\n")
    ∷ []

abbrev pub line_2 : List Output
line_2 = Commit (next_alone 3) ∷ Print (codes "version 6\nr: active ready at r\n") ∷ (order_14)

-- ---- before the first line

text_1 : reply_text (pipeline_with for_a_second false) (opening_by opened (found x ([]) opened)) None ≡ codes "version 1\nr: active ready at r\n"
unfolding reply_text step_text note_text start_line end_line ending_text target_text key_text set_text version_text node_line state_text conflict_line evaluated_text digits
text_1 = refl

opens : opening_part None (scene_at opened 5000 (6000 ∷ 6999 ∷ 6000 ∷ 7000 ∷ 7000 ∷ []) (fine (codes "one\n") ∷ fine (codes "two\n") ∷ [])) ≡ does first_outputs (scene_at opened 5000 (6000 ∷ 6999 ∷ 6000 ∷ 7000 ∷ 7000 ∷ []) (fine (codes "one\n") ∷ fine (codes "two\n") ∷ []))
opens = ap (λ (r : Done). does (Commit r.delta ∷ Print (reply_text (pipeline_with for_a_second false) r None) ∷ []) (scene_at opened 5000 (6000 ∷ 6999 ∷ 6000 ∷ 7000 ∷ 7000 ∷ []) (fine (codes "one\n") ∷ fine (codes "two\n") ∷ []))) (opening_shown opened (found x ([]) opened) (found_is x ([]) opened))
    ∙ ap (λ (t : List ℕ). does (Commit (next_alone 2) ∷ Print t ∷ []) (scene_at opened 5000 (6000 ∷ 6999 ∷ 6000 ∷ 7000 ∷ 7000 ∷ []) (fine (codes "one\n") ∷ fine (codes "two\n") ∷ []))) text_1

watches : watch_all None (scene_at opened 5000 (6000 ∷ 6999 ∷ 6000 ∷ 7000 ∷ 7000 ∷ []) (fine (codes "one\n") ∷ fine (codes "two\n") ∷ [])) ≡ does [] (scene_at opened 5000 (6000 ∷ 6999 ∷ 6000 ∷ 7000 ∷ 7000 ∷ []) (fine (codes "one\n") ∷ fine (codes "two\n") ∷ []))
unfolding watch_all
watches = refl

text_3 : reply_text (pipeline_with for_a_second false) (taking) None ≡ codes "start 1 w test \"x\"\nversion 2\nr: active running at r\n"
unfolding reply_text step_text note_text start_line end_line ending_text target_text key_text set_text version_text node_line state_text conflict_line evaluated_text digits
text_3 = refl

text_4 : reply_text (pipeline_with for_a_second false) (ending_one) None ≡ codes "end 1 ok\nversion 3\nr: ok \"one\"\n"
unfolding reply_text step_text note_text start_line end_line ending_text target_text key_text set_text version_text node_line state_text conflict_line evaluated_text digits
text_4 = rw (printed_words (codes "one")) refl

order_5_is : one_order None 0 (scene_at opened 5000 (6000 ∷ 6999 ∷ 6000 ∷ 7000 ∷ 7000 ∷ []) (fine (codes "one\n") ∷ fine (codes "two\n") ∷ [])) ≡ does order_5 (scene_at third 6000 (6999 ∷ 6000 ∷ 7000 ∷ 7000 ∷ []) (fine (codes "two\n") ∷ []))
order_5_is = order_is None (scene_at opened 5000 (6000 ∷ 6999 ∷ 6000 ∷ 7000 ∷ 7000 ∷ []) (fine (codes "one\n") ∷ fine (codes "two\n") ∷ [])) 0 (order 1 (codes "x")) (takes) refl (ends_one)
    ∙ (λ i. does (Commit (next_alone 2) ∷ Print (text_3 i) ∷ Run (order 1 (codes "x")) (fine (codes "one\n")) ∷ Commit (record (next_alone 2) { put = Some one; log = Some (1, codes "one\n") }) ∷ Print (text_4 i) ∷ []) (scene_at third 6000 (6999 ∷ 6000 ∷ 7000 ∷ 7000 ∷ []) (fine (codes "two\n") ∷ [])))

all_2 : all_orders None (scene_at opened 5000 (6000 ∷ 6999 ∷ 6000 ∷ 7000 ∷ 7000 ∷ []) (fine (codes "one\n") ∷ fine (codes "two\n") ∷ [])) ≡ does (order_5) (scene_at third 6000 (6999 ∷ 6000 ∷ 7000 ∷ 7000 ∷ []) (fine (codes "two\n") ∷ []))
unfolding all_orders
all_2 = orders_go None (scene_at opened 5000 (6000 ∷ 6999 ∷ 6000 ∷ 7000 ∷ 7000 ∷ []) (fine (codes "one\n") ∷ fine (codes "two\n") ∷ [])) 999 0 refl order_5_is ∙ ap (preceded order_5) (orders_end None (scene_at third 6000 (6999 ∷ 6000 ∷ 7000 ∷ 7000 ∷ []) (fine (codes "two\n") ∷ [])) 998 refl)

before_first : before_lines None (scene_at opened 5000 (6000 ∷ 6999 ∷ 6000 ∷ 7000 ∷ 7000 ∷ []) (fine (codes "one\n") ∷ fine (codes "two\n") ∷ [])) ≡ does (first_outputs ++ ([] ++ (order_5))) (scene_at third 6000 (6999 ∷ 6000 ∷ 7000 ∷ 7000 ∷ []) (fine (codes "two\n") ∷ []))
before_first = before_lines_are None (scene_at opened 5000 (6000 ∷ 6999 ∷ 6000 ∷ 7000 ∷ 7000 ∷ []) (fine (codes "one\n") ∷ fine (codes "two\n") ∷ [])) opens watches all_2

-- ---- a line

asks_0 : control_read (codes "tick") ≡ Some (Event (what.Tick))
unfolding control_word lexed is_utf8 chars encode_utf8 level_word
asks_0 = refl

text_6 : reply_text (pipeline_with for_a_second false) (quiet 4 2) None ≡ codes "version 4\n"
unfolding reply_text step_text note_text start_line end_line ending_text target_text key_text set_text version_text node_line state_text conflict_line evaluated_text digits
text_6 = refl

all_7 : all_orders None (scene_at fourth 6999 (6000 ∷ 7000 ∷ 7000 ∷ []) (fine (codes "two\n") ∷ [])) ≡ does ([]) (scene_at fourth 6999 (6000 ∷ 7000 ∷ 7000 ∷ []) (fine (codes "two\n") ∷ []))
unfolding all_orders
all_7 = orders_end None (scene_at fourth 6999 (6000 ∷ 7000 ∷ 7000 ∷ []) (fine (codes "two\n") ∷ [])) 999 refl

goes_0 : asked_part None (Some (Event (what.Tick))) (scene_at third 6000 (6999 ∷ 6000 ∷ 7000 ∷ 7000 ∷ []) (fine (codes "two\n") ∷ [])) ≡ does line_0 (scene_at fourth 6999 (6000 ∷ 7000 ∷ 7000 ∷ []) (fine (codes "two\n") ∷ []))
goes_0 = event_goes None (scene_at third 6999 (6000 ∷ 7000 ∷ 7000 ∷ []) (fine (codes "two\n") ∷ [])) (what.Tick) (still_valid) ∙ (λ i. preceded (Commit (next_alone 2) ∷ Print (text_6 i) ∷ []) (all_7 i))

-- ---- a line

asks_1 : control_read (codes "tick") ≡ Some (Event (what.Tick))
unfolding control_word lexed is_utf8 chars encode_utf8 level_word
asks_1 = refl

text_8 : reply_text (pipeline_with for_a_second false) (quiet 5 2) None ≡ codes "version 5\n"
unfolding reply_text step_text note_text start_line end_line ending_text target_text key_text set_text version_text node_line state_text conflict_line evaluated_text digits
text_8 = refl

all_9 : all_orders None (scene_at fifth 6000 (7000 ∷ 7000 ∷ []) (fine (codes "two\n") ∷ [])) ≡ does ([]) (scene_at fifth 6000 (7000 ∷ 7000 ∷ []) (fine (codes "two\n") ∷ []))
unfolding all_orders
all_9 = orders_end None (scene_at fifth 6000 (7000 ∷ 7000 ∷ []) (fine (codes "two\n") ∷ [])) 999 refl

goes_1 : asked_part None (Some (Event (what.Tick))) (scene_at fourth 6999 (6000 ∷ 7000 ∷ 7000 ∷ []) (fine (codes "two\n") ∷ [])) ≡ does line_1 (scene_at fifth 6000 (7000 ∷ 7000 ∷ []) (fine (codes "two\n") ∷ []))
goes_1 = event_goes None (scene_at fourth 6000 (7000 ∷ 7000 ∷ []) (fine (codes "two\n") ∷ [])) (what.Tick) (not_set_back) ∙ (λ i. preceded (Commit (next_alone 2) ∷ Print (text_8 i) ∷ []) (all_9 i))

-- ---- a line

asks_2 : control_read (codes "tick") ≡ Some (Event (what.Tick))
unfolding control_word lexed is_utf8 chars encode_utf8 level_word
asks_2 = refl

text_10 : reply_text (pipeline_with for_a_second false) (record (quiet 6 3) { changed = (0, Active 0 Ready) ∷ [] }) None ≡ codes "version 6\nr: active ready at r\n"
unfolding reply_text step_text note_text start_line end_line ending_text target_text key_text set_text version_text node_line state_text conflict_line evaluated_text digits
text_10 = refl

text_12 : reply_text (pipeline_with for_a_second false) (record (quiet 7 3) { note = note.Started (order 2 (codes "x")); changed = (0, Active 0 Running) ∷ [] }) None ≡ codes "start 2 w test \"x\"\nversion 7\nr: active running at r\n"
unfolding reply_text step_text note_text start_line end_line ending_text target_text key_text set_text version_text node_line state_text conflict_line evaluated_text digits
text_12 = refl

text_13 : reply_text (pipeline_with for_a_second false) (record (quiet 8 3) { note = note.Ended 2 ending.Fine; changed = (0, Fine (value.Words (codes "two"))) ∷ []; delta = record (next_alone 3) { put = Some two; log = Some (2, codes "two\n") } }) None ≡ codes "end 2 ok\nversion 8\nr: ok \"two\"\n"
unfolding reply_text step_text note_text start_line end_line ending_text target_text key_text set_text version_text node_line state_text conflict_line evaluated_text digits
text_13 = rw (printed_words (codes "two")) refl

order_14_is : one_order None 0 (scene_at sixth 7000 (7000 ∷ []) (fine (codes "two\n") ∷ [])) ≡ does order_14 (scene_at eighth 7000 (7000 ∷ []) ([]))
order_14_is = order_is None (scene_at sixth 7000 (7000 ∷ []) (fine (codes "two\n") ∷ [])) 0 (order 2 (codes "x")) (taken_anew) refl (ended_anew)
    ∙ (λ i. does (Commit (next_alone 3) ∷ Print (text_12 i) ∷ Run (order 2 (codes "x")) (fine (codes "two\n")) ∷ Commit (record (next_alone 3) { put = Some two; log = Some (2, codes "two\n") }) ∷ Print (text_13 i) ∷ []) (scene_at eighth 7000 (7000 ∷ []) ([])))

all_11 : all_orders None (scene_at sixth 7000 (7000 ∷ []) (fine (codes "two\n") ∷ [])) ≡ does (order_14) (scene_at eighth 7000 (7000 ∷ []) ([]))
unfolding all_orders
all_11 = orders_go None (scene_at sixth 7000 (7000 ∷ []) (fine (codes "two\n") ∷ [])) 999 0 refl order_14_is ∙ ap (preceded order_14) (orders_end None (scene_at eighth 7000 (7000 ∷ []) ([])) 998 refl)

goes_2 : asked_part None (Some (Event (what.Tick))) (scene_at fifth 6000 (7000 ∷ 7000 ∷ []) (fine (codes "two\n") ∷ [])) ≡ does line_2 (scene_at eighth 7000 (7000 ∷ []) ([]))
goes_2 = event_goes None (scene_at fifth 7000 (7000 ∷ []) (fine (codes "two\n") ∷ [])) (what.Tick) (run_out) ∙ (λ i. preceded (Commit (next_alone 3) ∷ Print (text_10 i) ∷ []) (all_11 i))

-- ---- all of it

-- the input
abbrev pub input : List ℕ
input = codes "tick\ntick\ntick\n"

-- all outputs
abbrev pub all_outputs : List Output
all_outputs = (first_outputs ++ (order_5)) ++ (line_0 ++ (line_1 ++ (line_2)))

pub script_is : transcript (pipeline_with for_a_second false) (loaded fresh) None None (over_at (input) (5000 ∷ 6000 ∷ 6999 ∷ 6000 ∷ 7000 ∷ 7000 ∷ []) (fine (codes "one\n") ∷ fine (codes "two\n") ∷ [])) ≡ record { outputs = all_outputs; end = Quits }
script_is =
    fresh_goes (pipeline_with for_a_second false) None None (over_at (input) (5000 ∷ 6000 ∷ 6999 ∷ 6000 ∷ 7000 ∷ 7000 ∷ []) (fine (codes "one\n") ∷ fine (codes "two\n") ∷ []))
    ∙ ap (session_of None (over_at (input) (5000 ∷ 6000 ∷ 6999 ∷ 6000 ∷ 7000 ∷ 7000 ∷ []) (fine (codes "one\n") ∷ fine (codes "two\n") ∷ []))) opening
    ∙ session_goes None (over_at (input) (5000 ∷ 6000 ∷ 6999 ∷ 6000 ∷ 7000 ∷ 7000 ∷ []) (fine (codes "one\n") ∷ fine (codes "two\n") ∷ [])) opened before_first
    ∙ ap (before (first_outputs ++ (order_5))) (line_goes None (scene_at third 6000 (6999 ∷ 6000 ∷ 7000 ∷ 7000 ∷ []) (fine (codes "two\n") ∷ [])) (codes "tick") (Bytes (codes "tick") ∷ Bytes (codes "tick") ∷ []) 1000000 asks_0 refl goes_0 refl ∙ ap (before line_0) (line_goes None (scene_at fourth 6999 (6000 ∷ 7000 ∷ 7000 ∷ []) (fine (codes "two\n") ∷ [])) (codes "tick") (Bytes (codes "tick") ∷ []) 999999 asks_1 refl goes_1 refl ∙ ap (before line_1) (line_goes None (scene_at fifth 6000 (7000 ∷ 7000 ∷ []) (fine (codes "two\n") ∷ [])) (codes "tick") ([]) 999998 asks_2 refl goes_2 refl)))

-- what is written
pub text_is : texts all_outputs ≡ codes "version 1\nr: active ready at r\nstart 1 w test \"x\"\nversion 2\nr: active running at r\nend 1 ok\nversion 3\nr: ok \"one\"\nversion 4\nversion 5\nversion 6\nr: active ready at r\nstart 2 w test \"x\"\nversion 7\nr: active running at r\nend 2 ok\nversion 8\nr: ok \"two\"\n"
text_is = refl
