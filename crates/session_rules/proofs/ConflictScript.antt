-- A worked session: two nodes want one key to have different values, and then one
use Rattle.std.proofs.Common.{◌≡◌, ℕ, List, [], ◌∷◌, ◌++◌, Some, None, refl, ap, ◌∙◌}
use Rattle.std.specs.Prelude.{codes}
use Rattle.std.specs.Char.{encode_utf8}
use Rattle.std.specs.Fmt.{digits}
use Rattle.std.specs.Str.{chars, is_utf8}
use Rattle.value_core.specs.declared.value.Value.TheVariants as value
use Rattle.value_core.specs.Lexing.{lexed}
use Rattle.pipe_text.specs.Words.{level_word}
use Rattle.core_rules.specs.declared.events.What.TheVariants as what
use Rattle.core_rules.specs.declared.done.Done.{Done}
use Rattle.core_rules.specs.Replies.{next_alone}
use Rattle.core_rules.proofs.WorkedRuns.{found, found_is}
use Rattle.report_text.specs.declared.controls.Control.TheVariants.{Event}
use Rattle.report_text.specs.Controls.{control_read, control_word}
use Rattle.report_text.specs.Lines.{reply_text, step_text, note_text, start_line, end_line, ending_text, target_text, key_text, set_text, version_text, node_line, state_text, conflict_line, evaluated_text}
use Rattle.session_rules.specs.Outputs.{Output, Commit, Print, Run, texts}
use Rattle.session_rules.specs.Parts.{preceded, does}
use Rattle.session_rules.specs.Steps.{all_orders, one_order}
use Rattle.keeper_core.specs.Contents.{fresh, loaded}
use Rattle.session_rules.specs.Transcripts.{Quits, asked_part, before, before_lines, opening_part, session_of, transcript}
use Rattle.session_rules.specs.Watching.{watch_all}
use Rattle.session_rules.proofs.Going.{before_lines_are, event_goes, line_goes, opening_by, opening_shown, order_is, orders_end, orders_go, session_goes, fresh_goes}
use Rattle.session_rules.proofs.Texts.{printed_unit}
use Rattle.session_rules.proofs.Written.{fine, over_at, scene_at}
use Rattle.value_core.specs.Printed.{printed}
use Rattle.core_rules.proofs.SharedKey.{order}
use Rattle.session_rules.proofs.TwoInputs.{apart, pipeline}
use Rattle.session_rules.proofs.ConflictSteps.{ending_one, ending_two, ends_one, ends_two, fourth, one, opened, opening, setting_a, sets_a, sixth, takes, takes_other, taking, taking_other, third, two}

-- ---- what is done

abbrev pub first_outputs : List Output
first_outputs = Commit (next_alone 2) ∷ Print (codes "version 1\nm: active ready at m\nn: active ready at n\nconflict put \"k\"\n") ∷ []

abbrev pub order_5 : List Output
order_5 =
    Commit (record (next_alone 2) { void = Some (codes "put", codes "k") })
    ∷ Print (codes "start 1 w put \"k\" \"v1\"\nversion 2\nm: active running at m\n")
    ∷ Run (order 1 (codes "v1")) (fine (codes "one\n"))
    ∷ Commit (record (next_alone 2) { put = Some one; log = Some (1, codes "one\n") })
    ∷ Print (codes "end 1 ok\nversion 3\nm: ok ()\n")
    ∷ []

abbrev pub order_10 : List Output
order_10 =
    Commit (record (next_alone 3) { void = Some (codes "put", codes "k") })
    ∷ Print (codes "start 2 w put \"k\" \"v2\"\nversion 5\nm: active running at m\nn: active running at n\n")
    ∷ Run (order 2 (codes "v2")) (fine (codes "two\n"))
    ∷ Commit (record (next_alone 3) { put = Some two; log = Some (2, codes "two\n") })
    ∷ Print (codes "end 2 ok\nversion 6\nm: ok ()\nn: ok ()\n")
    ∷ []

abbrev pub line_0 : List Output
line_0 = Commit (record (next_alone 3) { input = Some (codes "a", printed (value.Words (codes "v2"))) }) ∷ Print (codes "version 4\nm: active ready at m\n") ∷ (order_10)

-- ---- before the first line

text_1 : reply_text pipeline (opening_by opened (found apart ([]) opened)) None ≡ codes "version 1\nm: active ready at m\nn: active ready at n\nconflict put \"k\"\n"
unfolding reply_text step_text note_text start_line end_line ending_text target_text key_text set_text version_text node_line state_text conflict_line evaluated_text digits
text_1 = refl

opens : opening_part None (scene_at opened 0 ([]) (fine (codes "one\n") ∷ fine (codes "two\n") ∷ [])) ≡ does first_outputs (scene_at opened 0 ([]) (fine (codes "one\n") ∷ fine (codes "two\n") ∷ []))
opens = ap (λ (r : Done). does (Commit r.delta ∷ Print (reply_text pipeline r None) ∷ []) (scene_at opened 0 ([]) (fine (codes "one\n") ∷ fine (codes "two\n") ∷ []))) (opening_shown opened (found apart ([]) opened) (found_is apart ([]) opened))
    ∙ ap (λ (t : List ℕ). does (Commit (next_alone 2) ∷ Print t ∷ []) (scene_at opened 0 ([]) (fine (codes "one\n") ∷ fine (codes "two\n") ∷ []))) text_1

watches : watch_all None (scene_at opened 0 ([]) (fine (codes "one\n") ∷ fine (codes "two\n") ∷ [])) ≡ does [] (scene_at opened 0 ([]) (fine (codes "one\n") ∷ fine (codes "two\n") ∷ []))
unfolding watch_all
watches = refl

text_3 : reply_text pipeline (taking) None ≡ codes "start 1 w put \"k\" \"v1\"\nversion 2\nm: active running at m\n"
unfolding reply_text step_text note_text start_line end_line ending_text target_text key_text set_text version_text node_line state_text conflict_line evaluated_text digits
text_3 = refl

text_4 : reply_text pipeline (ending_one) None ≡ codes "end 1 ok\nversion 3\nm: ok ()\n"
unfolding reply_text step_text note_text start_line end_line ending_text target_text key_text set_text version_text node_line state_text conflict_line evaluated_text digits
text_4 = rw printed_unit refl

order_5_is : one_order None 0 (scene_at opened 0 ([]) (fine (codes "one\n") ∷ fine (codes "two\n") ∷ [])) ≡ does order_5 (scene_at third 0 ([]) (fine (codes "two\n") ∷ []))
order_5_is = order_is None (scene_at opened 0 ([]) (fine (codes "one\n") ∷ fine (codes "two\n") ∷ [])) 0 (order 1 (codes "v1")) (takes) refl (ends_one)
    ∙ (λ i. does (Commit (record (next_alone 2) { void = Some (codes "put", codes "k") }) ∷ Print (text_3 i) ∷ Run (order 1 (codes "v1")) (fine (codes "one\n")) ∷ Commit (record (next_alone 2) { put = Some one; log = Some (1, codes "one\n") }) ∷ Print (text_4 i) ∷ []) (scene_at third 0 ([]) (fine (codes "two\n") ∷ [])))

all_2 : all_orders None (scene_at opened 0 ([]) (fine (codes "one\n") ∷ fine (codes "two\n") ∷ [])) ≡ does (order_5) (scene_at third 0 ([]) (fine (codes "two\n") ∷ []))
unfolding all_orders
all_2 = orders_go None (scene_at opened 0 ([]) (fine (codes "one\n") ∷ fine (codes "two\n") ∷ [])) 999 0 refl order_5_is ∙ ap (preceded order_5) (orders_end None (scene_at third 0 ([]) (fine (codes "two\n") ∷ [])) 998 refl)

before_first : before_lines None (scene_at opened 0 ([]) (fine (codes "one\n") ∷ fine (codes "two\n") ∷ [])) ≡ does (first_outputs ++ ([] ++ (order_5))) (scene_at third 0 ([]) (fine (codes "two\n") ∷ []))
before_first = before_lines_are None (scene_at opened 0 ([]) (fine (codes "one\n") ∷ fine (codes "two\n") ∷ [])) opens watches all_2

-- ---- a line

asks_0 : control_read (codes "set a \"v2\"") ≡ Some (Event (what.SetInput (codes "a") (value.Words (codes "v2"))))
unfolding control_word lexed is_utf8 chars encode_utf8 level_word
asks_0 = refl

text_6 : reply_text pipeline (setting_a) None ≡ codes "version 4\nm: active ready at m\n"
unfolding reply_text step_text note_text start_line end_line ending_text target_text key_text set_text version_text node_line state_text conflict_line evaluated_text digits
text_6 = refl

text_8 : reply_text pipeline (taking_other) None ≡ codes "start 2 w put \"k\" \"v2\"\nversion 5\nm: active running at m\nn: active running at n\n"
unfolding reply_text step_text note_text start_line end_line ending_text target_text key_text set_text version_text node_line state_text conflict_line evaluated_text digits
text_8 = refl

text_9 : reply_text pipeline (ending_two) None ≡ codes "end 2 ok\nversion 6\nm: ok ()\nn: ok ()\n"
unfolding reply_text step_text note_text start_line end_line ending_text target_text key_text set_text version_text node_line state_text conflict_line evaluated_text digits
text_9 = rw printed_unit refl

order_10_is : one_order None 0 (scene_at fourth 0 ([]) (fine (codes "two\n") ∷ [])) ≡ does order_10 (scene_at sixth 0 ([]) ([]))
order_10_is = order_is None (scene_at fourth 0 ([]) (fine (codes "two\n") ∷ [])) 0 (order 2 (codes "v2")) (takes_other) refl (ends_two)
    ∙ (λ i. does (Commit (record (next_alone 3) { void = Some (codes "put", codes "k") }) ∷ Print (text_8 i) ∷ Run (order 2 (codes "v2")) (fine (codes "two\n")) ∷ Commit (record (next_alone 3) { put = Some two; log = Some (2, codes "two\n") }) ∷ Print (text_9 i) ∷ []) (scene_at sixth 0 ([]) ([])))

all_7 : all_orders None (scene_at fourth 0 ([]) (fine (codes "two\n") ∷ [])) ≡ does (order_10) (scene_at sixth 0 ([]) ([]))
unfolding all_orders
all_7 = orders_go None (scene_at fourth 0 ([]) (fine (codes "two\n") ∷ [])) 999 0 refl order_10_is ∙ ap (preceded order_10) (orders_end None (scene_at sixth 0 ([]) ([])) 998 refl)

goes_0 : asked_part None (Some (Event (what.SetInput (codes "a") (value.Words (codes "v2"))))) (scene_at third 0 ([]) (fine (codes "two\n") ∷ [])) ≡ does line_0 (scene_at sixth 0 ([]) ([]))
goes_0 = event_goes None (scene_at third 0 ([]) (fine (codes "two\n") ∷ [])) (what.SetInput (codes "a") (value.Words (codes "v2"))) (sets_a) ∙ (λ i. preceded (Commit (record (next_alone 3) { input = Some (codes "a", printed (value.Words (codes "v2"))) }) ∷ Print (text_6 i) ∷ []) (all_7 i))

-- ---- all of it

-- the input
abbrev pub input : List ℕ
input = codes "set a \"v2\"\n"

-- all outputs
abbrev pub all_outputs : List Output
all_outputs = (first_outputs ++ (order_5)) ++ (line_0)

pub script_is : transcript pipeline (loaded fresh) None None (over_at (input) ([]) (fine (codes "one\n") ∷ fine (codes "two\n") ∷ [])) ≡ record { outputs = all_outputs; end = Quits }
script_is =
    fresh_goes pipeline None None (over_at (input) ([]) (fine (codes "one\n") ∷ fine (codes "two\n") ∷ []))
    ∙ ap (session_of None (over_at (input) ([]) (fine (codes "one\n") ∷ fine (codes "two\n") ∷ []))) opening
    ∙ session_goes None (over_at (input) ([]) (fine (codes "one\n") ∷ fine (codes "two\n") ∷ [])) opened before_first
    ∙ ap (before (first_outputs ++ (order_5))) (line_goes None (scene_at third 0 ([]) (fine (codes "two\n") ∷ [])) (codes "set a \"v2\"") ([]) 1000000 asks_0 refl goes_0 refl)

-- what is written
pub text_is : texts all_outputs ≡ codes "version 1\nm: active ready at m\nn: active ready at n\nconflict put \"k\"\nstart 1 w put \"k\" \"v1\"\nversion 2\nm: active running at m\nend 1 ok\nversion 3\nm: ok ()\nversion 4\nm: active ready at m\nstart 2 w put \"k\" \"v2\"\nversion 5\nm: active running at m\nn: active running at n\nend 2 ok\nversion 6\nm: ok ()\nn: ok ()\n"
text_is = refl
