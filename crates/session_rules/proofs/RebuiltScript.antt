-- A worked session: a row is to be made anew, and is kept in view meanwhile where its operation is latched
use Rattle.std.proofs.Common.{◌≡◌, ℕ, List, [], ◌∷◌, ◌++◌, Some, None, refl, ap, ◌∙◌}
use Rattle.std.specs.Prelude.{codes}
use Rattle.std.specs.Char.{encode_utf8}
use Rattle.std.specs.Fmt.{digits}
use Rattle.std.specs.Str.{chars, is_utf8}
use Rattle.value_core.specs.Lexing.{lexed}
use Rattle.pipe_text.specs.Words.{level_word}
use Rattle.io_ends.specs.Lines.{Bytes}
use Rattle.core_rules.specs.declared.events.What.TheVariants as what
use Rattle.core_rules.specs.declared.done.Done.{Done}
use Rattle.core_rules.specs.Replies.{next_alone}
use Rattle.core_rules.proofs.WorkedRuns.{found, found_is}
use Rattle.report_text.specs.declared.controls.Control.TheVariants.{Event}
use Rattle.report_text.specs.Controls.{control_read, control_word}
use Rattle.report_text.specs.Lines.{reply_text, step_text, note_text, start_line, end_line, ending_text, target_text, key_text, set_text, version_text, node_line, state_text, conflict_line, evaluated_text}
use Rattle.session_rules.specs.Outputs.{Output, Commit, Print, Run, texts}
use Rattle.session_rules.specs.Parts.{preceded, does}
use Rattle.session_rules.specs.Steps.{all_orders, one_order}
use Rattle.keeper_core.specs.Contents.{fresh, loaded}
use Rattle.session_rules.specs.Transcripts.{Quits, asked_part, before, before_lines, opening_part, session_of, transcript}
use Rattle.session_rules.specs.Watching.{watch_all}
use Rattle.session_rules.proofs.Going.{before_lines_are, event_goes, event_refused, line_goes, opening_by, opening_shown, order_is, orders_end, orders_go, session_goes, fresh_goes}
use Rattle.session_rules.proofs.Texts.{printed_words}
use Rattle.session_rules.proofs.Written.{fine, over_at, scene_at}
use Rattle.session_rules.proofs.RebuiltSteps.{all, busy, core_1, core_11, core_12, core_13, core_3, core_5, core_6, core_8, core_9, no_row, opening, pipeline, reply_10, reply_11, reply_12, reply_13, reply_2, reply_3, reply_4, reply_5, reply_6, reply_7, reply_8, reply_9, row_1, row_2, row_3, row_4, row_5, row_6, row_7, step_10, step_11, step_12, step_13, step_2, step_3, step_4, step_5, step_6, step_7, step_8, step_9}
use Rattle.session_rules.proofs.BuiltParts.{built_order}

-- ---- what is done

abbrev pub first_outputs : List Output
first_outputs = Commit (next_alone 3) ∷ Print (codes "version 1\na: active ready at a\nb: active ready at b\n") ∷ []

abbrev pub order_5 : List Output
order_5 =
    Commit (next_alone 3)
    ∷ Print (codes "start 1 w plain \"k\"\nversion 2\na: active running at a\n")
    ∷ Run (built_order 1 0 (codes "k")) (fine (codes "one\n"))
    ∷ Commit (record (next_alone 3) { put = Some row_1; log = Some (1, codes "one\n") })
    ∷ Print (codes "end 1 ok\nversion 3\na: ok \"one\"\n")
    ∷ []

abbrev pub order_8 : List Output
order_8 =
    Commit (next_alone 3)
    ∷ Print (codes "start 2 w latch \"k\"\nversion 4\nb: active running at b\n")
    ∷ Run (built_order 2 1 (codes "k")) (fine (codes "two\n"))
    ∷ Commit (record (next_alone 3) { put = Some row_2; log = Some (2, codes "two\n") })
    ∷ Print (codes "end 2 ok\nversion 5\nb: ok \"two\"\n")
    ∷ []

abbrev pub order_13 : List Output
order_13 =
    Commit (next_alone 4)
    ∷ Print (codes "start 3 w plain \"k\"\nversion 7\na: active running at a\n")
    ∷ Run (built_order 3 0 (codes "k")) (fine (codes "three\n"))
    ∷ Commit (record (next_alone 4) { put = Some row_4; log = Some (3, codes "three\n") })
    ∷ Print (codes "end 3 ok\nversion 8\na: ok \"three\"\n")
    ∷ []

abbrev pub line_0 : List Output
line_0 = Commit (record (next_alone 4) { put = Some row_3 }) ∷ Print (codes "version 6\na: active ready at a\n") ∷ (order_13)

abbrev pub order_18 : List Output
order_18 =
    Commit (next_alone 5)
    ∷ Print (codes "start 4 w latch \"k\"\nversion 10\n")
    ∷ Run (built_order 4 1 (codes "k")) (fine (codes "four\n"))
    ∷ Commit (record (next_alone 5) { put = Some row_6; log = Some (4, codes "four\n") })
    ∷ Print (codes "end 4 ok\nversion 11\nb: ok \"four\"\n")
    ∷ []

abbrev pub line_1 : List Output
line_1 = Commit (record (next_alone 5) { put = Some row_5 }) ∷ Print (codes "version 9\n") ∷ (order_18)

abbrev pub line_2 : List Output
line_2 = Print (codes "refused no row\n") ∷ []

abbrev pub line_3 : List Output
line_3 = Commit (next_alone 5) ∷ Print (codes "version 12\n") ∷ []

abbrev pub line_4 : List Output
line_4 = Commit (record (next_alone 6) { put = Some row_7 }) ∷ Print (codes "version 13\na: active ready at a\n") ∷ []

abbrev pub line_5 : List Output
line_5 = Print (codes "refused busy 5\n") ∷ []

-- ---- before the first line

text_1 : reply_text pipeline (opening_by core_1 (found all ([]) core_1)) None ≡ codes "version 1\na: active ready at a\nb: active ready at b\n"
unfolding reply_text step_text note_text start_line end_line ending_text target_text key_text set_text version_text node_line state_text conflict_line evaluated_text digits
text_1 = refl

opens : opening_part None (scene_at core_1 0 ([]) (fine (codes "one\n") ∷ fine (codes "two\n") ∷ fine (codes "three\n") ∷ fine (codes "four\n") ∷ [])) ≡ does first_outputs (scene_at core_1 0 ([]) (fine (codes "one\n") ∷ fine (codes "two\n") ∷ fine (codes "three\n") ∷ fine (codes "four\n") ∷ []))
opens = ap (λ (r : Done). does (Commit r.delta ∷ Print (reply_text pipeline r None) ∷ []) (scene_at core_1 0 ([]) (fine (codes "one\n") ∷ fine (codes "two\n") ∷ fine (codes "three\n") ∷ fine (codes "four\n") ∷ []))) (opening_shown core_1 (found all ([]) core_1) (found_is all ([]) core_1))
    ∙ ap (λ (t : List ℕ). does (Commit (next_alone 3) ∷ Print t ∷ []) (scene_at core_1 0 ([]) (fine (codes "one\n") ∷ fine (codes "two\n") ∷ fine (codes "three\n") ∷ fine (codes "four\n") ∷ []))) text_1

watches : watch_all None (scene_at core_1 0 ([]) (fine (codes "one\n") ∷ fine (codes "two\n") ∷ fine (codes "three\n") ∷ fine (codes "four\n") ∷ [])) ≡ does [] (scene_at core_1 0 ([]) (fine (codes "one\n") ∷ fine (codes "two\n") ∷ fine (codes "three\n") ∷ fine (codes "four\n") ∷ []))
unfolding watch_all
watches = refl

text_3 : reply_text pipeline (reply_2) None ≡ codes "start 1 w plain \"k\"\nversion 2\na: active running at a\n"
unfolding reply_text step_text note_text start_line end_line ending_text target_text key_text set_text version_text node_line state_text conflict_line evaluated_text digits
text_3 = refl

text_4 : reply_text pipeline (reply_3) None ≡ codes "end 1 ok\nversion 3\na: ok \"one\"\n"
unfolding reply_text step_text note_text start_line end_line ending_text target_text key_text set_text version_text node_line state_text conflict_line evaluated_text digits
text_4 = rw (printed_words (codes "one")) refl

order_5_is : one_order None 0 (scene_at core_1 0 ([]) (fine (codes "one\n") ∷ fine (codes "two\n") ∷ fine (codes "three\n") ∷ fine (codes "four\n") ∷ [])) ≡ does order_5 (scene_at core_3 0 ([]) (fine (codes "two\n") ∷ fine (codes "three\n") ∷ fine (codes "four\n") ∷ []))
order_5_is = order_is None (scene_at core_1 0 ([]) (fine (codes "one\n") ∷ fine (codes "two\n") ∷ fine (codes "three\n") ∷ fine (codes "four\n") ∷ [])) 0 (built_order 1 0 (codes "k")) (step_2) refl (step_3)
    ∙ (λ i. does (Commit (next_alone 3) ∷ Print (text_3 i) ∷ Run (built_order 1 0 (codes "k")) (fine (codes "one\n")) ∷ Commit (record (next_alone 3) { put = Some row_1; log = Some (1, codes "one\n") }) ∷ Print (text_4 i) ∷ []) (scene_at core_3 0 ([]) (fine (codes "two\n") ∷ fine (codes "three\n") ∷ fine (codes "four\n") ∷ [])))

text_6 : reply_text pipeline (reply_4) None ≡ codes "start 2 w latch \"k\"\nversion 4\nb: active running at b\n"
unfolding reply_text step_text note_text start_line end_line ending_text target_text key_text set_text version_text node_line state_text conflict_line evaluated_text digits
text_6 = refl

text_7 : reply_text pipeline (reply_5) None ≡ codes "end 2 ok\nversion 5\nb: ok \"two\"\n"
unfolding reply_text step_text note_text start_line end_line ending_text target_text key_text set_text version_text node_line state_text conflict_line evaluated_text digits
text_7 = rw (printed_words (codes "two")) refl

order_8_is : one_order None 0 (scene_at core_3 0 ([]) (fine (codes "two\n") ∷ fine (codes "three\n") ∷ fine (codes "four\n") ∷ [])) ≡ does order_8 (scene_at core_5 0 ([]) (fine (codes "three\n") ∷ fine (codes "four\n") ∷ []))
order_8_is = order_is None (scene_at core_3 0 ([]) (fine (codes "two\n") ∷ fine (codes "three\n") ∷ fine (codes "four\n") ∷ [])) 0 (built_order 2 1 (codes "k")) (step_4) refl (step_5)
    ∙ (λ i. does (Commit (next_alone 3) ∷ Print (text_6 i) ∷ Run (built_order 2 1 (codes "k")) (fine (codes "two\n")) ∷ Commit (record (next_alone 3) { put = Some row_2; log = Some (2, codes "two\n") }) ∷ Print (text_7 i) ∷ []) (scene_at core_5 0 ([]) (fine (codes "three\n") ∷ fine (codes "four\n") ∷ [])))

all_2 : all_orders None (scene_at core_1 0 ([]) (fine (codes "one\n") ∷ fine (codes "two\n") ∷ fine (codes "three\n") ∷ fine (codes "four\n") ∷ [])) ≡ does (order_5 ++ (order_8)) (scene_at core_5 0 ([]) (fine (codes "three\n") ∷ fine (codes "four\n") ∷ []))
unfolding all_orders
all_2 = orders_go None (scene_at core_1 0 ([]) (fine (codes "one\n") ∷ fine (codes "two\n") ∷ fine (codes "three\n") ∷ fine (codes "four\n") ∷ [])) 999 0 refl order_5_is ∙ ap (preceded order_5) (orders_go None (scene_at core_3 0 ([]) (fine (codes "two\n") ∷ fine (codes "three\n") ∷ fine (codes "four\n") ∷ [])) 998 0 refl order_8_is ∙ ap (preceded order_8) (orders_end None (scene_at core_5 0 ([]) (fine (codes "three\n") ∷ fine (codes "four\n") ∷ [])) 997 refl))

before_first : before_lines None (scene_at core_1 0 ([]) (fine (codes "one\n") ∷ fine (codes "two\n") ∷ fine (codes "three\n") ∷ fine (codes "four\n") ∷ [])) ≡ does (first_outputs ++ ([] ++ (order_5 ++ (order_8)))) (scene_at core_5 0 ([]) (fine (codes "three\n") ∷ fine (codes "four\n") ∷ []))
before_first = before_lines_are None (scene_at core_1 0 ([]) (fine (codes "one\n") ∷ fine (codes "two\n") ∷ fine (codes "three\n") ∷ fine (codes "four\n") ∷ [])) opens watches all_2

-- ---- a line

asks_0 : control_read (codes "rebuild plain \"k\"") ≡ Some (Event (what.Rebuild (codes "plain") (codes "k")))
unfolding control_word lexed is_utf8 chars encode_utf8 level_word
asks_0 = refl

text_9 : reply_text pipeline (reply_6) None ≡ codes "version 6\na: active ready at a\n"
unfolding reply_text step_text note_text start_line end_line ending_text target_text key_text set_text version_text node_line state_text conflict_line evaluated_text digits
text_9 = refl

text_11 : reply_text pipeline (reply_7) None ≡ codes "start 3 w plain \"k\"\nversion 7\na: active running at a\n"
unfolding reply_text step_text note_text start_line end_line ending_text target_text key_text set_text version_text node_line state_text conflict_line evaluated_text digits
text_11 = refl

text_12 : reply_text pipeline (reply_8) None ≡ codes "end 3 ok\nversion 8\na: ok \"three\"\n"
unfolding reply_text step_text note_text start_line end_line ending_text target_text key_text set_text version_text node_line state_text conflict_line evaluated_text digits
text_12 = rw (printed_words (codes "three")) refl

order_13_is : one_order None 0 (scene_at core_6 0 ([]) (fine (codes "three\n") ∷ fine (codes "four\n") ∷ [])) ≡ does order_13 (scene_at core_8 0 ([]) (fine (codes "four\n") ∷ []))
order_13_is = order_is None (scene_at core_6 0 ([]) (fine (codes "three\n") ∷ fine (codes "four\n") ∷ [])) 0 (built_order 3 0 (codes "k")) (step_7) refl (step_8)
    ∙ (λ i. does (Commit (next_alone 4) ∷ Print (text_11 i) ∷ Run (built_order 3 0 (codes "k")) (fine (codes "three\n")) ∷ Commit (record (next_alone 4) { put = Some row_4; log = Some (3, codes "three\n") }) ∷ Print (text_12 i) ∷ []) (scene_at core_8 0 ([]) (fine (codes "four\n") ∷ [])))

all_10 : all_orders None (scene_at core_6 0 ([]) (fine (codes "three\n") ∷ fine (codes "four\n") ∷ [])) ≡ does (order_13) (scene_at core_8 0 ([]) (fine (codes "four\n") ∷ []))
unfolding all_orders
all_10 = orders_go None (scene_at core_6 0 ([]) (fine (codes "three\n") ∷ fine (codes "four\n") ∷ [])) 999 0 refl order_13_is ∙ ap (preceded order_13) (orders_end None (scene_at core_8 0 ([]) (fine (codes "four\n") ∷ [])) 998 refl)

goes_0 : asked_part None (Some (Event (what.Rebuild (codes "plain") (codes "k")))) (scene_at core_5 0 ([]) (fine (codes "three\n") ∷ fine (codes "four\n") ∷ [])) ≡ does line_0 (scene_at core_8 0 ([]) (fine (codes "four\n") ∷ []))
goes_0 = event_goes None (scene_at core_5 0 ([]) (fine (codes "three\n") ∷ fine (codes "four\n") ∷ [])) (what.Rebuild (codes "plain") (codes "k")) (step_6) ∙ (λ i. preceded (Commit (record (next_alone 4) { put = Some row_3 }) ∷ Print (text_9 i) ∷ []) (all_10 i))

-- ---- a line

asks_1 : control_read (codes "rebuild latch \"k\"") ≡ Some (Event (what.Rebuild (codes "latch") (codes "k")))
unfolding control_word lexed is_utf8 chars encode_utf8 level_word
asks_1 = refl

text_14 : reply_text pipeline (reply_9) None ≡ codes "version 9\n"
unfolding reply_text step_text note_text start_line end_line ending_text target_text key_text set_text version_text node_line state_text conflict_line evaluated_text digits
text_14 = refl

text_16 : reply_text pipeline (reply_10) None ≡ codes "start 4 w latch \"k\"\nversion 10\n"
unfolding reply_text step_text note_text start_line end_line ending_text target_text key_text set_text version_text node_line state_text conflict_line evaluated_text digits
text_16 = refl

text_17 : reply_text pipeline (reply_11) None ≡ codes "end 4 ok\nversion 11\nb: ok \"four\"\n"
unfolding reply_text step_text note_text start_line end_line ending_text target_text key_text set_text version_text node_line state_text conflict_line evaluated_text digits
text_17 = rw (printed_words (codes "four")) refl

order_18_is : one_order None 0 (scene_at core_9 0 ([]) (fine (codes "four\n") ∷ [])) ≡ does order_18 (scene_at core_11 0 ([]) ([]))
order_18_is = order_is None (scene_at core_9 0 ([]) (fine (codes "four\n") ∷ [])) 0 (built_order 4 1 (codes "k")) (step_10) refl (step_11)
    ∙ (λ i. does (Commit (next_alone 5) ∷ Print (text_16 i) ∷ Run (built_order 4 1 (codes "k")) (fine (codes "four\n")) ∷ Commit (record (next_alone 5) { put = Some row_6; log = Some (4, codes "four\n") }) ∷ Print (text_17 i) ∷ []) (scene_at core_11 0 ([]) ([])))

all_15 : all_orders None (scene_at core_9 0 ([]) (fine (codes "four\n") ∷ [])) ≡ does (order_18) (scene_at core_11 0 ([]) ([]))
unfolding all_orders
all_15 = orders_go None (scene_at core_9 0 ([]) (fine (codes "four\n") ∷ [])) 999 0 refl order_18_is ∙ ap (preceded order_18) (orders_end None (scene_at core_11 0 ([]) ([])) 998 refl)

goes_1 : asked_part None (Some (Event (what.Rebuild (codes "latch") (codes "k")))) (scene_at core_8 0 ([]) (fine (codes "four\n") ∷ [])) ≡ does line_1 (scene_at core_11 0 ([]) ([]))
goes_1 = event_goes None (scene_at core_8 0 ([]) (fine (codes "four\n") ∷ [])) (what.Rebuild (codes "latch") (codes "k")) (step_9) ∙ (λ i. preceded (Commit (record (next_alone 5) { put = Some row_5 }) ∷ Print (text_14 i) ∷ []) (all_15 i))

-- ---- a line

asks_2 : control_read (codes "rebuild plain \"z\"") ≡ Some (Event (what.Rebuild (codes "plain") (codes "z")))
unfolding control_word lexed is_utf8 chars encode_utf8 level_word
asks_2 = refl

goes_2 : asked_part None (Some (Event (what.Rebuild (codes "plain") (codes "z")))) (scene_at core_11 0 ([]) ([])) ≡ does line_2 (scene_at core_11 0 ([]) ([]))
unfolding digits
goes_2 = event_refused None (scene_at core_11 0 ([]) ([])) (what.Rebuild (codes "plain") (codes "z")) (no_row) refl

-- ---- a line

asks_3 : control_read (codes "pause w") ≡ Some (Event (what.Pause (codes "w")))
unfolding control_word lexed is_utf8 chars encode_utf8 level_word
asks_3 = refl

text_19 : reply_text pipeline (reply_12) None ≡ codes "version 12\n"
unfolding reply_text step_text note_text start_line end_line ending_text target_text key_text set_text version_text node_line state_text conflict_line evaluated_text digits
text_19 = refl

all_20 : all_orders None (scene_at core_12 0 ([]) ([])) ≡ does ([]) (scene_at core_12 0 ([]) ([]))
unfolding all_orders
all_20 = orders_end None (scene_at core_12 0 ([]) ([])) 999 refl

goes_3 : asked_part None (Some (Event (what.Pause (codes "w")))) (scene_at core_11 0 ([]) ([])) ≡ does line_3 (scene_at core_12 0 ([]) ([]))
goes_3 = event_goes None (scene_at core_11 0 ([]) ([])) (what.Pause (codes "w")) (step_12) ∙ (λ i. preceded (Commit (next_alone 5) ∷ Print (text_19 i) ∷ []) (all_20 i))

-- ---- a line

asks_4 : control_read (codes "rebuild plain \"k\"") ≡ Some (Event (what.Rebuild (codes "plain") (codes "k")))
unfolding control_word lexed is_utf8 chars encode_utf8 level_word
asks_4 = refl

text_21 : reply_text pipeline (reply_13) None ≡ codes "version 13\na: active ready at a\n"
unfolding reply_text step_text note_text start_line end_line ending_text target_text key_text set_text version_text node_line state_text conflict_line evaluated_text digits
text_21 = refl

all_22 : all_orders None (scene_at core_13 0 ([]) ([])) ≡ does ([]) (scene_at core_13 0 ([]) ([]))
unfolding all_orders
all_22 = orders_end None (scene_at core_13 0 ([]) ([])) 999 refl

goes_4 : asked_part None (Some (Event (what.Rebuild (codes "plain") (codes "k")))) (scene_at core_12 0 ([]) ([])) ≡ does line_4 (scene_at core_13 0 ([]) ([]))
goes_4 = event_goes None (scene_at core_12 0 ([]) ([])) (what.Rebuild (codes "plain") (codes "k")) (step_13) ∙ (λ i. preceded (Commit (record (next_alone 6) { put = Some row_7 }) ∷ Print (text_21 i) ∷ []) (all_22 i))

-- ---- a line

asks_5 : control_read (codes "rebuild plain \"k\"") ≡ Some (Event (what.Rebuild (codes "plain") (codes "k")))
unfolding control_word lexed is_utf8 chars encode_utf8 level_word
asks_5 = refl

goes_5 : asked_part None (Some (Event (what.Rebuild (codes "plain") (codes "k")))) (scene_at core_13 0 ([]) ([])) ≡ does line_5 (scene_at core_13 0 ([]) ([]))
unfolding digits
goes_5 = event_refused None (scene_at core_13 0 ([]) ([])) (what.Rebuild (codes "plain") (codes "k")) (busy) refl

-- ---- all of it

-- the input
abbrev pub input : List ℕ
input = codes "rebuild plain \"k\"\nrebuild latch \"k\"\nrebuild plain \"z\"\npause w\nrebuild plain \"k\"\nrebuild plain \"k\"\n"

-- all outputs
abbrev pub all_outputs : List Output
all_outputs = (first_outputs ++ (order_5 ++ (order_8))) ++ (line_0 ++ (line_1 ++ (line_2 ++ (line_3 ++ (line_4 ++ (line_5))))))

pub script_is : transcript pipeline (loaded fresh) None None (over_at (input) ([]) (fine (codes "one\n") ∷ fine (codes "two\n") ∷ fine (codes "three\n") ∷ fine (codes "four\n") ∷ [])) ≡ record { outputs = all_outputs; end = Quits }
script_is =
    fresh_goes pipeline None None (over_at (input) ([]) (fine (codes "one\n") ∷ fine (codes "two\n") ∷ fine (codes "three\n") ∷ fine (codes "four\n") ∷ []))
    ∙ ap (session_of None (over_at (input) ([]) (fine (codes "one\n") ∷ fine (codes "two\n") ∷ fine (codes "three\n") ∷ fine (codes "four\n") ∷ []))) opening
    ∙ session_goes None (over_at (input) ([]) (fine (codes "one\n") ∷ fine (codes "two\n") ∷ fine (codes "three\n") ∷ fine (codes "four\n") ∷ [])) core_1 before_first
    ∙ ap (before (first_outputs ++ (order_5 ++ (order_8)))) (line_goes None (scene_at core_5 0 ([]) (fine (codes "three\n") ∷ fine (codes "four\n") ∷ [])) (codes "rebuild plain \"k\"") (Bytes (codes "rebuild latch \"k\"") ∷ Bytes (codes "rebuild plain \"z\"") ∷ Bytes (codes "pause w") ∷ Bytes (codes "rebuild plain \"k\"") ∷ Bytes (codes "rebuild plain \"k\"") ∷ []) 1000000 asks_0 refl goes_0 refl ∙ ap (before line_0) (line_goes None (scene_at core_8 0 ([]) (fine (codes "four\n") ∷ [])) (codes "rebuild latch \"k\"") (Bytes (codes "rebuild plain \"z\"") ∷ Bytes (codes "pause w") ∷ Bytes (codes "rebuild plain \"k\"") ∷ Bytes (codes "rebuild plain \"k\"") ∷ []) 999999 asks_1 refl goes_1 refl ∙ ap (before line_1) (line_goes None (scene_at core_11 0 ([]) ([])) (codes "rebuild plain \"z\"") (Bytes (codes "pause w") ∷ Bytes (codes "rebuild plain \"k\"") ∷ Bytes (codes "rebuild plain \"k\"") ∷ []) 999998 asks_2 refl goes_2 refl ∙ ap (before line_2) (line_goes None (scene_at core_11 0 ([]) ([])) (codes "pause w") (Bytes (codes "rebuild plain \"k\"") ∷ Bytes (codes "rebuild plain \"k\"") ∷ []) 999997 asks_3 refl goes_3 refl ∙ ap (before line_3) (line_goes None (scene_at core_12 0 ([]) ([])) (codes "rebuild plain \"k\"") (Bytes (codes "rebuild plain \"k\"") ∷ []) 999996 asks_4 refl goes_4 refl ∙ ap (before line_4) (line_goes None (scene_at core_13 0 ([]) ([])) (codes "rebuild plain \"k\"") ([]) 999995 asks_5 refl goes_5 refl))))))

-- what is written
pub text_is : texts all_outputs ≡ codes "version 1\na: active ready at a\nb: active ready at b\nstart 1 w plain \"k\"\nversion 2\na: active running at a\nend 1 ok\nversion 3\na: ok \"one\"\nstart 2 w latch \"k\"\nversion 4\nb: active running at b\nend 2 ok\nversion 5\nb: ok \"two\"\nversion 6\na: active ready at a\nstart 3 w plain \"k\"\nversion 7\na: active running at a\nend 3 ok\nversion 8\na: ok \"three\"\nversion 9\nstart 4 w latch \"k\"\nversion 10\nend 4 ok\nversion 11\nb: ok \"four\"\nrefused no row\nversion 12\nversion 13\na: active ready at a\nrefused busy 5\n"
text_is = refl
