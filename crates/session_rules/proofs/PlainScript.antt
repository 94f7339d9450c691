-- A worked session: an input is set twice, and two nodes follow it
use Rattle.std.proofs.Common.{◌≡◌, ℕ, List, [], ◌∷◌, ◌++◌, Some, None, refl, ap, ◌∙◌}
use Rattle.std.specs.Prelude.{codes}
use Rattle.std.specs.Char.{encode_utf8}
use Rattle.std.specs.Fmt.{digits}
use Rattle.std.specs.Str.{chars, is_utf8}
use Rattle.value_core.specs.declared.value.Value.TheVariants as value
use Rattle.value_core.specs.Lexing.{lexed}
use Rattle.pipe_text.specs.Words.{level_word}
use Rattle.io_ends.specs.Lines.{Bytes}
use Rattle.core_rules.specs.declared.done.Done.{Done}
use Rattle.core_rules.specs.Replies.{next_alone}
use Rattle.core_rules.proofs.WorkedRuns.{found, found_is}
use Rattle.report_text.specs.declared.controls.Control.TheVariants.{Event}
use Rattle.report_text.specs.Controls.{control_read, control_word}
use Rattle.report_text.specs.Lines.{reply_text, step_text, note_text, start_line, end_line, ending_text, target_text, key_text, set_text, version_text, node_line, state_text, conflict_line, evaluated_text}
use Rattle.session_rules.specs.Outputs.{Output, Commit, Print, texts}
use Rattle.session_rules.specs.Parts.{preceded, does}
use Rattle.session_rules.specs.Steps.{all_orders}
use Rattle.keeper_core.specs.Contents.{fresh, loaded}
use Rattle.session_rules.specs.Transcripts.{Quits, asked_part, before, before_lines, opening_part, session_of, transcript}
use Rattle.session_rules.specs.Watching.{watch_all}
use Rattle.session_rules.proofs.Going.{before_lines_are, event_goes, line_goes, opening_by, opening_shown, orders_end, session_goes, fresh_goes}
use Rattle.session_rules.proofs.Texts.{printed_words, printed_num, printed_pair}
use Rattle.session_rules.proofs.Written.{over_at, scene_at}
use Rattle.session_rules.proofs.PlainSteps.{a, opening, pipeline, set, sets_b, sets_c_d, setting, stored, version}

-- ---- what is done

abbrev pub first_outputs : List Output
first_outputs = Commit (next_alone 1) ∷ Print (codes "version 1\ntip: ok \"a\"\nboth: ok (\"a\", 7)\n") ∷ []

abbrev pub line_0 : List Output
line_0 = Commit (stored (codes "b")) ∷ Print (codes "version 2\ntip: ok \"b\"\nboth: ok (\"b\", 7)\n") ∷ []

abbrev pub line_1 : List Output
line_1 = Commit (stored (codes "c d")) ∷ Print (codes "version 3\ntip: ok \"c d\"\nboth: ok (\"c d\", 7)\n") ∷ []

-- ---- before the first line

text_1 : reply_text pipeline (opening_by (version 1 (codes "a")) (found a ([]) (version 1 (codes "a")))) None ≡ codes "version 1\ntip: ok \"a\"\nboth: ok (\"a\", 7)\n"
unfolding reply_text step_text note_text start_line end_line ending_text target_text key_text set_text version_text node_line state_text conflict_line evaluated_text digits
text_1 = rw (printed_pair (value.Words (codes "a")) (value.Num 7), printed_words (codes "a"), printed_num 7) refl

opens : opening_part None (scene_at (version 1 (codes "a")) 0 ([]) ([])) ≡ does first_outputs (scene_at (version 1 (codes "a")) 0 ([]) ([]))
opens = ap (λ (r : Done). does (Commit r.delta ∷ Print (reply_text pipeline r None) ∷ []) (scene_at (version 1 (codes "a")) 0 ([]) ([]))) (opening_shown (version 1 (codes "a")) (found a ([]) (version 1 (codes "a"))) (found_is a ([]) (version 1 (codes "a"))))
    ∙ ap (λ (t : List ℕ). does (Commit (next_alone 1) ∷ Print t ∷ []) (scene_at (version 1 (codes "a")) 0 ([]) ([]))) text_1

watches : watch_all None (scene_at (version 1 (codes "a")) 0 ([]) ([])) ≡ does [] (scene_at (version 1 (codes "a")) 0 ([]) ([]))
unfolding watch_all
watches = refl

all_2 : all_orders None (scene_at (version 1 (codes "a")) 0 ([]) ([])) ≡ does ([]) (scene_at (version 1 (codes "a")) 0 ([]) ([]))
unfolding all_orders
all_2 = orders_end None (scene_at (version 1 (codes "a")) 0 ([]) ([])) 999 refl

before_first : before_lines None (scene_at (version 1 (codes "a")) 0 ([]) ([])) ≡ does (first_outputs ++ ([] ++ ([]))) (scene_at (version 1 (codes "a")) 0 ([]) ([]))
before_first = before_lines_are None (scene_at (version 1 (codes "a")) 0 ([]) ([])) opens watches all_2

-- ---- a line

asks_0 : control_read (codes "set head \"b\"") ≡ Some (Event (set (codes "b")))
unfolding control_word lexed is_utf8 chars encode_utf8 level_word
asks_0 = refl

text_3 : reply_text pipeline (setting 2 (codes "b")) None ≡ codes "version 2\ntip: ok \"b\"\nboth: ok (\"b\", 7)\n"
unfolding reply_text step_text note_text start_line end_line ending_text target_text key_text set_text version_text node_line state_text conflict_line evaluated_text digits
text_3 = rw (printed_pair (value.Words (codes "b")) (value.Num 7), printed_words (codes "b"), printed_num 7) refl

all_4 : all_orders None (scene_at (version 2 (codes "b")) 0 ([]) ([])) ≡ does ([]) (scene_at (version 2 (codes "b")) 0 ([]) ([]))
unfolding all_orders
all_4 = orders_end None (scene_at (version 2 (codes "b")) 0 ([]) ([])) 999 refl

goes_0 : asked_part None (Some (Event (set (codes "b")))) (scene_at (version 1 (codes "a")) 0 ([]) ([])) ≡ does line_0 (scene_at (version 2 (codes "b")) 0 ([]) ([]))
goes_0 = event_goes None (scene_at (version 1 (codes "a")) 0 ([]) ([])) (set (codes "b")) (sets_b) ∙ (λ i. preceded (Commit (stored (codes "b")) ∷ Print (text_3 i) ∷ []) (all_4 i))

-- ---- a line

asks_1 : control_read (codes "set head \"c d\"") ≡ Some (Event (set (codes "c d")))
unfolding control_word lexed is_utf8 chars encode_utf8 level_word
asks_1 = refl

text_5 : reply_text pipeline (setting 3 (codes "c d")) None ≡ codes "version 3\ntip: ok \"c d\"\nboth: ok (\"c d\", 7)\n"
unfolding reply_text step_text note_text start_line end_line ending_text target_text key_text set_text version_text node_line state_text conflict_line evaluated_text digits
text_5 = rw (printed_pair (value.Words (codes "c d")) (value.Num 7), printed_words (codes "c d"), printed_num 7) refl

all_6 : all_orders None (scene_at (version 3 (codes "c d")) 0 ([]) ([])) ≡ does ([]) (scene_at (version 3 (codes "c d")) 0 ([]) ([]))
unfolding all_orders
all_6 = orders_end None (scene_at (version 3 (codes "c d")) 0 ([]) ([])) 999 refl

goes_1 : asked_part None (Some (Event (set (codes "c d")))) (scene_at (version 2 (codes "b")) 0 ([]) ([])) ≡ does line_1 (scene_at (version 3 (codes "c d")) 0 ([]) ([]))
goes_1 = event_goes None (scene_at (version 2 (codes "b")) 0 ([]) ([])) (set (codes "c d")) (sets_c_d) ∙ (λ i. preceded (Commit (stored (codes "c d")) ∷ Print (text_5 i) ∷ []) (all_6 i))

-- ---- all of it

-- the input
abbrev pub input : List ℕ
input = codes "set head \"b\"\nset head \"c d\"\n"

-- all outputs
abbrev pub all_outputs : List Output
all_outputs = (first_outputs ++ ([])) ++ (line_0 ++ (line_1))

pub script_is : transcript pipeline (loaded fresh) None None (over_at (input) ([]) ([])) ≡ record { outputs = all_outputs; end = Quits }
script_is =
    fresh_goes pipeline None None (over_at (input) ([]) ([]))
    ∙ ap (session_of None (over_at (input) ([]) ([]))) opening
    ∙ session_goes None (over_at (input) ([]) ([])) (version 1 (codes "a")) before_first
    ∙ ap (before (first_outputs ++ ([]))) (line_goes None (scene_at (version 1 (codes "a")) 0 ([]) ([])) (codes "set head \"b\"") (Bytes (codes "set head \"c d\"") ∷ []) 1000000 asks_0 refl goes_0 refl ∙ ap (before line_0) (line_goes None (scene_at (version 2 (codes "b")) 0 ([]) ([])) (codes "set head \"c d\"") ([]) 999999 asks_1 refl goes_1 refl))

-- what is written
pub text_is : texts all_outputs ≡ codes "version 1\ntip: ok \"a\"\nboth: ok (\"a\", 7)\nversion 2\ntip: ok \"b\"\nboth: ok (\"b\", 7)\nversion 3\ntip: ok \"c d\"\nboth: ok (\"c d\", 7)\n"
text_is = refl
