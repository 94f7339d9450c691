-- A worked session: seven builds of three clients run before the first line
use Rattle.std.proofs.Common.{◌≡◌, ℕ, List, [], ◌∷◌, ◌++◌, Some, None, refl, ap, ◌∙◌}
use Rattle.std.specs.Prelude.{codes}
use Rattle.std.specs.Char.{encode_utf8}
use Rattle.std.specs.Fmt.{digits}
use Rattle.std.specs.Str.{chars, is_utf8}
use Rattle.value_core.specs.Lexing.{lexed}
use Rattle.pipe_text.specs.Words.{level_word}
use Rattle.io_ends.specs.Lines.{Bytes}
use Rattle.core_rules.specs.declared.events.What.TheVariants as what
use Rattle.core_rules.specs.declared.done.Done.{Done}
use Rattle.core_rules.specs.Replies.{next_alone}
use Rattle.core_rules.proofs.WorkedRuns.{found, found_is}
use Rattle.report_text.specs.declared.controls.Control.TheVariants.{Event}
use Rattle.report_text.specs.Controls.{control_read, control_word}
use Rattle.report_text.specs.Lines.{reply_text, step_text, note_text, start_line, end_line, ending_text, target_text, key_text, set_text, version_text, node_line, state_text, conflict_line, evaluated_text}
use Rattle.session_rules.specs.Outputs.{Output, Commit, Print, Run, texts}
use Rattle.session_rules.specs.Parts.{preceded, does}
use Rattle.session_rules.specs.Steps.{all_orders, one_order}
use Rattle.keeper_core.specs.Contents.{fresh, loaded}
use Rattle.session_rules.specs.Transcripts.{Quits, asked_part, before, before_lines, opening_part, session_of, transcript}
use Rattle.session_rules.specs.Watching.{watch_all}
use Rattle.session_rules.proofs.Going.{before_lines_are, event_goes, line_goes, opening_by, opening_shown, order_is, orders_end, orders_go, session_goes, fresh_goes}
use Rattle.session_rules.proofs.Texts.{printed_words}
use Rattle.session_rules.proofs.Written.{fine, over_at, scene_at}
use Rattle.session_rules.proofs.SharedSteps.{all, core_1, core_11, core_13, core_15, core_16, core_17, core_3, core_5, core_7, core_9, opening, pipeline, reply_10, reply_11, reply_12, reply_13, reply_14, reply_15, reply_16, reply_17, reply_2, reply_3, reply_4, reply_5, reply_6, reply_7, reply_8, reply_9, row_1, row_2, row_3, row_4, row_5, row_6, row_7, step_10, step_11, step_12, step_13, step_14, step_15, step_16, step_17, step_2, step_3, step_4, step_5, step_6, step_7, step_8, step_9}
use Rattle.session_rules.proofs.BuiltParts.{built_order}

-- ---- what is done

abbrev pub first_outputs : List Output
first_outputs = Commit (next_alone 8) ∷ Print (codes "version 1\nn0: active ready at n0\nn1: active ready at n1\nn2: active ready at n2\nn3: active ready at n3\nn4: active ready at n4\nn5: active ready at n5\nn6: active ready at n6\n") ∷ []

abbrev pub order_5 : List Output
order_5 =
    Commit (next_alone 8)
    ∷ Print (codes "start 7 w u \"1\"\nversion 2\nn6: active running at n6\n")
    ∷ Run (built_order 7 3 (codes "1")) (fine (codes "one\n"))
    ∷ Commit (record (next_alone 8) { put = Some row_1; log = Some (7, codes "one\n") })
    ∷ Print (codes "end 7 ok\nversion 3\nn6: ok \"one\"\n")
    ∷ []

abbrev pub order_8 : List Output
order_8 =
    Commit (next_alone 8)
    ∷ Print (codes "start 1 w a \"1\"\nversion 4\nn0: active running at n0\n")
    ∷ Run (built_order 1 0 (codes "1")) (fine (codes "two\n"))
    ∷ Commit (record (next_alone 8) { put = Some row_2; log = Some (1, codes "two\n") })
    ∷ Print (codes "end 1 ok\nversion 5\nn0: ok \"two\"\n")
    ∷ []

abbrev pub order_11 : List Output
order_11 =
    Commit (next_alone 8)
    ∷ Print (codes "start 3 w b \"1\"\nversion 6\nn2: active running at n2\n")
    ∷ Run (built_order 3 1 (codes "1")) (fine (codes "three\n"))
    ∷ Commit (record (next_alone 8) { put = Some row_3; log = Some (3, codes "three\n") })
    ∷ Print (codes "end 3 ok\nversion 7\nn2: ok \"three\"\n")
    ∷ []

abbrev pub order_14 : List Output
order_14 =
    Commit (next_alone 8)
    ∷ Print (codes "start 5 w d \"1\"\nversion 8\nn4: active running at n4\n")
    ∷ Run (built_order 5 2 (codes "1")) (fine (codes "four\n"))
    ∷ Commit (record (next_alone 8) { put = Some row_4; log = Some (5, codes "four\n") })
    ∷ Print (codes "end 5 ok\nversion 9\nn4: ok \"four\"\n")
    ∷ []

abbrev pub order_17 : List Output
order_17 =
    Commit (next_alone 8)
    ∷ Print (codes "start 6 w d \"2\"\nversion 10\nn5: active running at n5\n")
    ∷ Run (built_order 6 2 (codes "2")) (fine (codes "five\n"))
    ∷ Commit (record (next_alone 8) { put = Some row_5; log = Some (6, codes "five\n") })
    ∷ Print (codes "end 6 ok\nversion 11\nn5: ok \"five\"\n")
    ∷ []

abbrev pub order_20 : List Output
order_20 =
    Commit (next_alone 8)
    ∷ Print (codes "start 4 w b \"2\"\nversion 12\nn3: active running at n3\n")
    ∷ Run (built_order 4 1 (codes "2")) (fine (codes "six\n"))
    ∷ Commit (record (next_alone 8) { put = Some row_6; log = Some (4, codes "six\n") })
    ∷ Print (codes "end 4 ok\nversion 13\nn3: ok \"six\"\n")
    ∷ []

abbrev pub order_23 : List Output
order_23 =
    Commit (next_alone 8)
    ∷ Print (codes "start 2 w a \"2\"\nversion 14\nn1: active running at n1\n")
    ∷ Run (built_order 2 0 (codes "2")) (fine (codes "seven\n"))
    ∷ Commit (record (next_alone 8) { put = Some row_7; log = Some (2, codes "seven\n") })
    ∷ Print (codes "end 2 ok\nversion 15\nn1: ok \"seven\"\n")
    ∷ []

abbrev pub line_0 : List Output
line_0 = Commit (next_alone 8) ∷ Print (codes "version 16\n") ∷ []

abbrev pub line_1 : List Output
line_1 = Commit (next_alone 8) ∷ Print (codes "version 17\n") ∷ []

-- ---- before the first line

text_1 : reply_text pipeline (opening_by core_1 (found all ([]) core_1)) None ≡ codes "version 1\nn0: active ready at n0\nn1: active ready at n1\nn2: active ready at n2\nn3: active ready at n3\nn4: active ready at n4\nn5: active ready at n5\nn6: active ready at n6\n"
unfolding reply_text step_text note_text start_line end_line ending_text target_text key_text set_text version_text node_line state_text conflict_line evaluated_text digits
text_1 = refl

opens : opening_part None (scene_at core_1 0 ([]) (fine (codes "one\n") ∷ fine (codes "two\n") ∷ fine (codes "three\n") ∷ fine (codes "four\n") ∷ fine (codes "five\n") ∷ fine (codes "six\n") ∷ fine (codes "seven\n") ∷ [])) ≡ does first_outputs (scene_at core_1 0 ([]) (fine (codes "one\n") ∷ fine (codes "two\n") ∷ fine (codes "three\n") ∷ fine (codes "four\n") ∷ fine (codes "five\n") ∷ fine (codes "six\n") ∷ fine (codes "seven\n") ∷ []))
opens = ap (λ (r : Done). does (Commit r.delta ∷ Print (reply_text pipeline r None) ∷ []) (scene_at core_1 0 ([]) (fine (codes "one\n") ∷ fine (codes "two\n") ∷ fine (codes "three\n") ∷ fine (codes "four\n") ∷ fine (codes "five\n") ∷ fine (codes "six\n") ∷ fine (codes "seven\n") ∷ []))) (opening_shown core_1 (found all ([]) core_1) (found_is all ([]) core_1))
    ∙ ap (λ (t : List ℕ). does (Commit (next_alone 8) ∷ Print t ∷ []) (scene_at core_1 0 ([]) (fine (codes "one\n") ∷ fine (codes "two\n") ∷ fine (codes "three\n") ∷ fine (codes "four\n") ∷ fine (codes "five\n") ∷ fine (codes "six\n") ∷ fine (codes "seven\n") ∷ []))) text_1

watches : watch_all None (scene_at core_1 0 ([]) (fine (codes "one\n") ∷ fine (codes "two\n") ∷ fine (codes "three\n") ∷ fine (codes "four\n") ∷ fine (codes "five\n") ∷ fine (codes "six\n") ∷ fine (codes "seven\n") ∷ [])) ≡ does [] (scene_at core_1 0 ([]) (fine (codes "one\n") ∷ fine (codes "two\n") ∷ fine (codes "three\n") ∷ fine (codes "four\n") ∷ fine (codes "five\n") ∷ fine (codes "six\n") ∷ fine (codes "seven\n") ∷ []))
unfolding watch_all
watches = refl

text_3 : reply_text pipeline (reply_2) None ≡ codes "start 7 w u \"1\"\nversion 2\nn6: active running at n6\n"
unfolding reply_text step_text note_text start_line end_line ending_text target_text key_text set_text version_text node_line state_text conflict_line evaluated_text digits
text_3 = refl

text_4 : reply_text pipeline (reply_3) None ≡ codes "end 7 ok\nversion 3\nn6: ok \"one\"\n"
unfolding reply_text step_text note_text start_line end_line ending_text target_text key_text set_text version_text node_line state_text conflict_line evaluated_text digits
text_4 = rw (printed_words (codes "one")) refl

order_5_is : one_order None 0 (scene_at core_1 0 ([]) (fine (codes "one\n") ∷ fine (codes "two\n") ∷ fine (codes "three\n") ∷ fine (codes "four\n") ∷ fine (codes "five\n") ∷ fine (codes "six\n") ∷ fine (codes "seven\n") ∷ [])) ≡ does order_5 (scene_at core_3 0 ([]) (fine (codes "two\n") ∷ fine (codes "three\n") ∷ fine (codes "four\n") ∷ fine (codes "five\n") ∷ fine (codes "six\n") ∷ fine (codes "seven\n") ∷ []))
order_5_is = order_is None (scene_at core_1 0 ([]) (fine (codes "one\n") ∷ fine (codes "two\n") ∷ fine (codes "three\n") ∷ fine (codes "four\n") ∷ fine (codes "five\n") ∷ fine (codes "six\n") ∷ fine (codes "seven\n") ∷ [])) 0 (built_order 7 3 (codes "1")) (step_2) refl (step_3)
    ∙ (λ i. does (Commit (next_alone 8) ∷ Print (text_3 i) ∷ Run (built_order 7 3 (codes "1")) (fine (codes "one\n")) ∷ Commit (record (next_alone 8) { put = Some row_1; log = Some (7, codes "one\n") }) ∷ Print (text_4 i) ∷ []) (scene_at core_3 0 ([]) (fine (codes "two\n") ∷ fine (codes "three\n") ∷ fine (codes "four\n") ∷ fine (codes "five\n") ∷ fine (codes "six\n") ∷ fine (codes "seven\n") ∷ [])))

text_6 : reply_text pipeline (reply_4) None ≡ codes "start 1 w a \"1\"\nversion 4\nn0: active running at n0\n"
unfolding reply_text step_text note_text start_line end_line ending_text target_text key_text set_text version_text node_line state_text conflict_line evaluated_text digits
text_6 = refl

text_7 : reply_text pipeline (reply_5) None ≡ codes "end 1 ok\nversion 5\nn0: ok \"two\"\n"
unfolding reply_text step_text note_text start_line end_line ending_text target_text key_text set_text version_text node_line state_text conflict_line evaluated_text digits
text_7 = rw (printed_words (codes "two")) refl

order_8_is : one_order None 0 (scene_at core_3 0 ([]) (fine (codes "two\n") ∷ fine (codes "three\n") ∷ fine (codes "four\n") ∷ fine (codes "five\n") ∷ fine (codes "six\n") ∷ fine (codes "seven\n") ∷ [])) ≡ does order_8 (scene_at core_5 0 ([]) (fine (codes "three\n") ∷ fine (codes "four\n") ∷ fine (codes "five\n") ∷ fine (codes "six\n") ∷ fine (codes "seven\n") ∷ []))
order_8_is = order_is None (scene_at core_3 0 ([]) (fine (codes "two\n") ∷ fine (codes "three\n") ∷ fine (codes "four\n") ∷ fine (codes "five\n") ∷ fine (codes "six\n") ∷ fine (codes "seven\n") ∷ [])) 0 (built_order 1 0 (codes "1")) (step_4) refl (step_5)
    ∙ (λ i. does (Commit (next_alone 8) ∷ Print (text_6 i) ∷ Run (built_order 1 0 (codes "1")) (fine (codes "two\n")) ∷ Commit (record (next_alone 8) { put = Some row_2; log = Some (1, codes "two\n") }) ∷ Print (text_7 i) ∷ []) (scene_at core_5 0 ([]) (fine (codes "three\n") ∷ fine (codes "four\n") ∷ fine (codes "five\n") ∷ fine (codes "six\n") ∷ fine (codes "seven\n") ∷ [])))

text_9 : reply_text pipeline (reply_6) None ≡ codes "start 3 w b \"1\"\nversion 6\nn2: active running at n2\n"
unfolding reply_text step_text note_text start_line end_line ending_text target_text key_text set_text version_text node_line state_text conflict_line evaluated_text digits
text_9 = refl

text_10 : reply_text pipeline (reply_7) None ≡ codes "end 3 ok\nversion 7\nn2: ok \"three\"\n"
unfolding reply_text step_text note_text start_line end_line ending_text target_text key_text set_text version_text node_line state_text conflict_line evaluated_text digits
text_10 = rw (printed_words (codes "three")) refl

order_11_is : one_order None 0 (scene_at core_5 0 ([]) (fine (codes "three\n") ∷ fine (codes "four\n") ∷ fine (codes "five\n") ∷ fine (codes "six\n") ∷ fine (codes "seven\n") ∷ [])) ≡ does order_11 (scene_at core_7 0 ([]) (fine (codes "four\n") ∷ fine (codes "five\n") ∷ fine (codes "six\n") ∷ fine (codes "seven\n") ∷ []))
order_11_is = order_is None (scene_at core_5 0 ([]) (fine (codes "three\n") ∷ fine (codes "four\n") ∷ fine (codes "five\n") ∷ fine (codes "six\n") ∷ fine (codes "seven\n") ∷ [])) 0 (built_order 3 1 (codes "1")) (step_6) refl (step_7)
    ∙ (λ i. does (Commit (next_alone 8) ∷ Print (text_9 i) ∷ Run (built_order 3 1 (codes "1")) (fine (codes "three\n")) ∷ Commit (record (next_alone 8) { put = Some row_3; log = Some (3, codes "three\n") }) ∷ Print (text_10 i) ∷ []) (scene_at core_7 0 ([]) (fine (codes "four\n") ∷ fine (codes "five\n") ∷ fine (codes "six\n") ∷ fine (codes "seven\n") ∷ [])))

text_12 : reply_text pipeline (reply_8) None ≡ codes "start 5 w d \"1\"\nversion 8\nn4: active running at n4\n"
unfolding reply_text step_text note_text start_line end_line ending_text target_text key_text set_text version_text node_line state_text conflict_line evaluated_text digits
text_12 = refl

text_13 : reply_text pipeline (reply_9) None ≡ codes "end 5 ok\nversion 9\nn4: ok \"four\"\n"
unfolding reply_text step_text note_text start_line end_line ending_text target_text key_text set_text version_text node_line state_text conflict_line evaluated_text digits
text_13 = rw (printed_words (codes "four")) refl

order_14_is : one_order None 0 (scene_at core_7 0 ([]) (fine (codes "four\n") ∷ fine (codes "five\n") ∷ fine (codes "six\n") ∷ fine (codes "seven\n") ∷ [])) ≡ does order_14 (scene_at core_9 0 ([]) (fine (codes "five\n") ∷ fine (codes "six\n") ∷ fine (codes "seven\n") ∷ []))
order_14_is = order_is None (scene_at core_7 0 ([]) (fine (codes "four\n") ∷ fine (codes "five\n") ∷ fine (codes "six\n") ∷ fine (codes "seven\n") ∷ [])) 0 (built_order 5 2 (codes "1")) (step_8) refl (step_9)
    ∙ (λ i. does (Commit (next_alone 8) ∷ Print (text_12 i) ∷ Run (built_order 5 2 (codes "1")) (fine (codes "four\n")) ∷ Commit (record (next_alone 8) { put = Some row_4; log = Some (5, codes "four\n") }) ∷ Print (text_13 i) ∷ []) (scene_at core_9 0 ([]) (fine (codes "five\n") ∷ fine (codes "six\n") ∷ fine (codes "seven\n") ∷ [])))

text_15 : reply_text pipeline (reply_10) None ≡ codes "start 6 w d \"2\"\nversion 10\nn5: active running at n5\n"
unfolding reply_text step_text note_text start_line end_line ending_text target_text key_text set_text version_text node_line state_text conflict_line evaluated_text digits
text_15 = refl

text_16 : reply_text pipeline (reply_11) None ≡ codes "end 6 ok\nversion 11\nn5: ok \"five\"\n"
unfolding reply_text step_text note_text start_line end_line ending_text target_text key_text set_text version_text node_line state_text conflict_line evaluated_text digits
text_16 = rw (printed_words (codes "five")) refl

order_17_is : one_order None 0 (scene_at core_9 0 ([]) (fine (codes "five\n") ∷ fine (codes "six\n") ∷ fine (codes "seven\n") ∷ [])) ≡ does order_17 (scene_at core_11 0 ([]) (fine (codes "six\n") ∷ fine (codes "seven\n") ∷ []))
order_17_is = order_is None (scene_at core_9 0 ([]) (fine (codes "five\n") ∷ fine (codes "six\n") ∷ fine (codes "seven\n") ∷ [])) 0 (built_order 6 2 (codes "2")) (step_10) refl (step_11)
    ∙ (λ i. does (Commit (next_alone 8) ∷ Print (text_15 i) ∷ Run (built_order 6 2 (codes "2")) (fine (codes "five\n")) ∷ Commit (record (next_alone 8) { put = Some row_5; log = Some (6, codes "five\n") }) ∷ Print (text_16 i) ∷ []) (scene_at core_11 0 ([]) (fine (codes "six\n") ∷ fine (codes "seven\n") ∷ [])))

text_18 : reply_text pipeline (reply_12) None ≡ codes "start 4 w b \"2\"\nversion 12\nn3: active running at n3\n"
unfolding reply_text step_text note_text start_line end_line ending_text target_text key_text set_text version_text node_line state_text conflict_line evaluated_text digits
text_18 = refl

text_19 : reply_text pipeline (reply_13) None ≡ codes "end 4 ok\nversion 13\nn3: ok \"six\"\n"
unfolding reply_text step_text note_text start_line end_line ending_text target_text key_text set_text version_text node_line state_text conflict_line evaluated_text digits
text_19 = rw (printed_words (codes "six")) refl

order_20_is : one_order None 0 (scene_at core_11 0 ([]) (fine (codes "six\n") ∷ fine (codes "seven\n") ∷ [])) ≡ does order_20 (scene_at core_13 0 ([]) (fine (codes "seven\n") ∷ []))
order_20_is = order_is None (scene_at core_11 0 ([]) (fine (codes "six\n") ∷ fine (codes "seven\n") ∷ [])) 0 (built_order 4 1 (codes "2")) (step_12) refl (step_13)
    ∙ (λ i. does (Commit (next_alone 8) ∷ Print (text_18 i) ∷ Run (built_order 4 1 (codes "2")) (fine (codes "six\n")) ∷ Commit (record (next_alone 8) { put = Some row_6; log = Some (4, codes "six\n") }) ∷ Print (text_19 i) ∷ []) (scene_at core_13 0 ([]) (fine (codes "seven\n") ∷ [])))

text_21 : reply_text pipeline (reply_14) None ≡ codes "start 2 w a \"2\"\nversion 14\nn1: active running at n1\n"
unfolding reply_text step_text note_text start_line end_line ending_text target_text key_text set_text version_text node_line state_text conflict_line evaluated_text digits
text_21 = refl

text_22 : reply_text pipeline (reply_15) None ≡ codes "end 2 ok\nversion 15\nn1: ok \"seven\"\n"
unfolding reply_text step_text note_text start_line end_line ending_text target_text key_text set_text version_text node_line state_text conflict_line evaluated_text digits
text_22 = rw (printed_words (codes "seven")) refl

order_23_is : one_order None 0 (scene_at core_13 0 ([]) (fine (codes "seven\n") ∷ [])) ≡ does order_23 (scene_at core_15 0 ([]) ([]))
order_23_is = order_is None (scene_at core_13 0 ([]) (fine (codes "seven\n") ∷ [])) 0 (built_order 2 0 (codes "2")) (step_14) refl (step_15)
    ∙ (λ i. does (Commit (next_alone 8) ∷ Print (text_21 i) ∷ Run (built_order 2 0 (codes "2")) (fine (codes "seven\n")) ∷ Commit (record (next_alone 8) { put = Some row_7; log = Some (2, codes "seven\n") }) ∷ Print (text_22 i) ∷ []) (scene_at core_15 0 ([]) ([])))

all_2 : all_orders None (scene_at core_1 0 ([]) (fine (codes "one\n") ∷ fine (codes "two\n") ∷ fine (codes "three\n") ∷ fine (codes "four\n") ∷ fine (codes "five\n") ∷ fine (codes "six\n") ∷ fine (codes "seven\n") ∷ [])) ≡ does (order_5 ++ (order_8 ++ (order_11 ++ (order_14 ++ (order_17 ++ (order_20 ++ (order_23))))))) (scene_at core_15 0 ([]) ([]))
unfolding all_orders
all_2 = orders_go None (scene_at core_1 0 ([]) (fine (codes "one\n") ∷ fine (codes "two\n") ∷ fine (codes "three\n") ∷ fine (codes "four\n") ∷ fine (codes "five\n") ∷ fine (codes "six\n") ∷ fine (codes "seven\n") ∷ [])) 999 0 refl order_5_is ∙ ap (preceded order_5) (orders_go None (scene_at core_3 0 ([]) (fine (codes "two\n") ∷ fine (codes "three\n") ∷ fine (codes "four\n") ∷ fine (codes "five\n") ∷ fine (codes "six\n") ∷ fine (codes "seven\n") ∷ [])) 998 0 refl order_8_is ∙ ap (preceded order_8) (orders_go None (scene_at core_5 0 ([]) (fine (codes "three\n") ∷ fine (codes "four\n") ∷ fine (codes "five\n") ∷ fine (codes "six\n") ∷ fine (codes "seven\n") ∷ [])) 997 0 refl order_11_is ∙ ap (preceded order_11) (orders_go None (scene_at core_7 0 ([]) (fine (codes "four\n") ∷ fine (codes "five\n") ∷ fine (codes "six\n") ∷ fine (codes "seven\n") ∷ [])) 996 0 refl order_14_is ∙ ap (preceded order_14) (orders_go None (scene_at core_9 0 ([]) (fine (codes "five\n") ∷ fine (codes "six\n") ∷ fine (codes "seven\n") ∷ [])) 995 0 refl order_17_is ∙ ap (preceded order_17) (orders_go None (scene_at core_11 0 ([]) (fine (codes "six\n") ∷ fine (codes "seven\n") ∷ [])) 994 0 refl order_20_is ∙ ap (preceded order_20) (orders_go None (scene_at core_13 0 ([]) (fine (codes "seven\n") ∷ [])) 993 0 refl order_23_is ∙ ap (preceded order_23) (orders_end None (scene_at core_15 0 ([]) ([])) 992 refl)))))))

before_first : before_lines None (scene_at core_1 0 ([]) (fine (codes "one\n") ∷ fine (codes "two\n") ∷ fine (codes "three\n") ∷ fine (codes "four\n") ∷ fine (codes "five\n") ∷ fine (codes "six\n") ∷ fine (codes "seven\n") ∷ [])) ≡ does (first_outputs ++ ([] ++ (order_5 ++ (order_8 ++ (order_11 ++ (order_14 ++ (order_17 ++ (order_20 ++ (order_23))))))))) (scene_at core_15 0 ([]) ([]))
before_first = before_lines_are None (scene_at core_1 0 ([]) (fine (codes "one\n") ∷ fine (codes "two\n") ∷ fine (codes "three\n") ∷ fine (codes "four\n") ∷ fine (codes "five\n") ∷ fine (codes "six\n") ∷ fine (codes "seven\n") ∷ [])) opens watches all_2

-- ---- a line

asks_0 : control_read (codes "pause w") ≡ Some (Event (what.Pause (codes "w")))
unfolding control_word lexed is_utf8 chars encode_utf8 level_word
asks_0 = refl

text_24 : reply_text pipeline (reply_16) None ≡ codes "version 16\n"
unfolding reply_text step_text note_text start_line end_line ending_text target_text key_text set_text version_text node_line state_text conflict_line evaluated_text digits
text_24 = refl

all_25 : all_orders None (scene_at core_16 0 ([]) ([])) ≡ does ([]) (scene_at core_16 0 ([]) ([]))
unfolding all_orders
all_25 = orders_end None (scene_at core_16 0 ([]) ([])) 999 refl

goes_0 : asked_part None (Some (Event (what.Pause (codes "w")))) (scene_at core_15 0 ([]) ([])) ≡ does line_0 (scene_at core_16 0 ([]) ([]))
goes_0 = event_goes None (scene_at core_15 0 ([]) ([])) (what.Pause (codes "w")) (step_16) ∙ (λ i. preceded (Commit (next_alone 8) ∷ Print (text_24 i) ∷ []) (all_25 i))

-- ---- a line

asks_1 : control_read (codes "tick") ≡ Some (Event (what.Tick))
unfolding control_word lexed is_utf8 chars encode_utf8 level_word
asks_1 = refl

text_26 : reply_text pipeline (reply_17) None ≡ codes "version 17\n"
unfolding reply_text step_text note_text start_line end_line ending_text target_text key_text set_text version_text node_line state_text conflict_line evaluated_text digits
text_26 = refl

all_27 : all_orders None (scene_at core_17 0 ([]) ([])) ≡ does ([]) (scene_at core_17 0 ([]) ([]))
unfolding all_orders
all_27 = orders_end None (scene_at core_17 0 ([]) ([])) 999 refl

goes_1 : asked_part None (Some (Event (what.Tick))) (scene_at core_16 0 ([]) ([])) ≡ does line_1 (scene_at core_17 0 ([]) ([]))
goes_1 = event_goes None (scene_at core_16 0 ([]) ([])) (what.Tick) (step_17) ∙ (λ i. preceded (Commit (next_alone 8) ∷ Print (text_26 i) ∷ []) (all_27 i))

-- ---- all of it

-- the input
abbrev pub input : List ℕ
input = codes "pause w\ntick\n"

-- all outputs
abbrev pub all_outputs : List Output
all_outputs = (first_outputs ++ (order_5 ++ (order_8 ++ (order_11 ++ (order_14 ++ (order_17 ++ (order_20 ++ (order_23)))))))) ++ (line_0 ++ (line_1))

pub script_is : transcript pipeline (loaded fresh) None None (over_at (input) ([]) (fine (codes "one\n") ∷ fine (codes "two\n") ∷ fine (codes "three\n") ∷ fine (codes "four\n") ∷ fine (codes "five\n") ∷ fine (codes "six\n") ∷ fine (codes "seven\n") ∷ [])) ≡ record { outputs = all_outputs; end = Quits }
script_is =
    fresh_goes pipeline None None (over_at (input) ([]) (fine (codes "one\n") ∷ fine (codes "two\n") ∷ fine (codes "three\n") ∷ fine (codes "four\n") ∷ fine (codes "five\n") ∷ fine (codes "six\n") ∷ fine (codes "seven\n") ∷ []))
    ∙ ap (session_of None (over_at (input) ([]) (fine (codes "one\n") ∷ fine (codes "two\n") ∷ fine (codes "three\n") ∷ fine (codes "four\n") ∷ fine (codes "five\n") ∷ fine (codes "six\n") ∷ fine (codes "seven\n") ∷ []))) opening
    ∙ session_goes None (over_at (input) ([]) (fine (codes "one\n") ∷ fine (codes "two\n") ∷ fine (codes "three\n") ∷ fine (codes "four\n") ∷ fine (codes "five\n") ∷ fine (codes "six\n") ∷ fine (codes "seven\n") ∷ [])) core_1 before_first
    ∙ ap (before (first_outputs ++ (order_5 ++ (order_8 ++ (order_11 ++ (order_14 ++ (order_17 ++ (order_20 ++ (order_23))))))))) (line_goes None (scene_at core_15 0 ([]) ([])) (codes "pause w") (Bytes (codes "tick") ∷ []) 1000000 asks_0 refl goes_0 refl ∙ ap (before line_0) (line_goes None (scene_at core_16 0 ([]) ([])) (codes "tick") ([]) 999999 asks_1 refl goes_1 refl))

-- what is written
pub text_is : texts all_outputs ≡ codes "version 1\nn0: active ready at n0\nn1: active ready at n1\nn2: active ready at n2\nn3: active ready at n3\nn4: active ready at n4\nn5: active ready at n5\nn6: active ready at n6\nstart 7 w u \"1\"\nversion 2\nn6: active running at n6\nend 7 ok\nversion 3\nn6: ok \"one\"\nstart 1 w a \"1\"\nversion 4\nn0: active running at n0\nend 1 ok\nversion 5\nn0: ok \"two\"\nstart 3 w b \"1\"\nversion 6\nn2: active running at n2\nend 3 ok\nversion 7\nn2: ok \"three\"\nstart 5 w d \"1\"\nversion 8\nn4: active running at n4\nend 5 ok\nversion 9\nn4: ok \"four\"\nstart 6 w d \"2\"\nversion 10\nn5: active running at n5\nend 6 ok\nversion 11\nn5: ok \"five\"\nstart 4 w b \"2\"\nversion 12\nn3: active running at n3\nend 4 ok\nversion 13\nn3: ok \"six\"\nstart 2 w a \"2\"\nversion 14\nn1: active running at n1\nend 2 ok\nversion 15\nn1: ok \"seven\"\nversion 16\nversion 17\n"
text_is = refl
