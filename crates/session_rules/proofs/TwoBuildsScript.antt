-- A worked session: a node builds the input's text, which is set to another one and back.
use Rattle.std.proofs.Common.{◌≡◌, ℕ, List, [], ◌∷◌, ◌++◌, Some, None, refl, ap, ◌∙◌}
use Rattle.std.specs.Prelude.{codes}
use Rattle.std.specs.Char.{encode_utf8}
use Rattle.std.specs.Fmt.{digits}
use Rattle.std.specs.Str.{chars, is_utf8}
use Rattle.value_core.specs.Lexing.{lexed}
use Rattle.op_keys.specs.declared.order.Exit.{Exit}
use Rattle.io_ends.specs.Lines.{Bytes}
use Rattle.core_rules.specs.declared.done.Done.{Done}
use Rattle.core_rules.specs.Replies.{next_alone}
use Rattle.core_rules.proofs.OneBuild.{order, pipeline, set, text_stored, x}
use Rattle.core_rules.proofs.WorkedRuns.{found, found_is}
use Rattle.report_text.specs.declared.controls.Control.TheVariants.{Event}
use Rattle.report_text.specs.Controls.{control_read, control_word}
use Rattle.report_text.specs.Lines.{reply_text, step_text, note_text, start_line, end_line, ending_text, target_text, key_text, set_text, version_text, node_line, state_text, conflict_line, evaluated_text}
use Rattle.session_rules.specs.Outputs.{Output, Commit, Print, Run, texts}
use Rattle.session_rules.specs.Parts.{preceded, does}
use Rattle.session_rules.specs.Steps.{all_orders, free_worker, one_order}
use Rattle.keeper_core.specs.Contents.{fresh, loaded}
use Rattle.session_rules.specs.Transcripts.{Quits, asked_part, before, before_lines, first_scene, opening_part, session_of, transcript}
use Rattle.session_rules.specs.Watching.{watch_all}
use Rattle.session_rules.proofs.Going.{before_lines_are, event_goes, line_goes, opening_by, opening_shown, order_is, orders_end, orders_go, session_goes, fresh_goes}
use Rattle.session_rules.proofs.Texts.{printed_words}
use Rattle.session_rules.proofs.TwoBuildsSteps.{ending_one, ending_two, ends_one, ends_two, fourth, one, opened, opening, setting_x, setting_y, seventh, sets_x, sets_y, sixth, takes, takes_y, taking, taking_y, third, two}
use Rattle.session_rules.proofs.Written.{fine, over, scene}

-- ---- what is done

-- version 1
abbrev pub first_outputs : List Output
first_outputs = Commit (next_alone 2) ∷ Print (codes "version 1\nr: active ready at r\n") ∷ []

-- the first order
abbrev pub order_one : List Output
order_one =
    Commit (next_alone 2)
    ∷ Print (codes "start 1 w test \"x\"\nversion 2\nr: active running at r\n")
    ∷ Run (order 1 (codes "x")) (fine (codes "one\n"))
    ∷ Commit (record (next_alone 2) { put = Some one; log = Some (1, codes "one\n") })
    ∷ Print (codes "end 1 ok\nversion 3\nr: ok \"one\"\n")
    ∷ []

-- another text, and the second order
abbrev pub set_to_y : List Output
set_to_y =
    Commit (text_stored 3 (codes "y"))
    ∷ Print (codes "version 4\nr: active ready at r\n")
    ∷ Commit (next_alone 3)
    ∷ Print (codes "start 2 w test \"y\"\nversion 5\nr: active running at r\n")
    ∷ Run (order 2 (codes "y")) (fine (codes "two\n"))
    ∷ Commit (record (next_alone 3) { put = Some two; log = Some (2, codes "two\n") })
    ∷ Print (codes "end 2 ok\nversion 6\nr: ok \"two\"\n")
    ∷ []

-- back to the first text
abbrev pub set_to_x : List Output
set_to_x = Commit (text_stored 3 (codes "x")) ∷ Print (codes "version 7\nr: ok \"one\"\n") ∷ []

-- ---- texts

-- the reply of the opening
abbrev opening_reply_shown : Done
opening_reply_shown = opening_by opened (found x [] opened)

text_opening : reply_text pipeline opening_reply_shown None ≡ codes "version 1\nr: active ready at r\n"
unfolding reply_text step_text note_text start_line end_line ending_text target_text key_text set_text version_text node_line state_text conflict_line evaluated_text digits
text_opening = refl

text_taking : reply_text pipeline taking None ≡ codes "start 1 w test \"x\"\nversion 2\nr: active running at r\n"
unfolding reply_text step_text note_text start_line end_line ending_text target_text key_text set_text version_text node_line state_text conflict_line evaluated_text digits
text_taking = refl

text_one : reply_text pipeline ending_one None ≡ codes "end 1 ok\nversion 3\nr: ok \"one\"\n"
unfolding reply_text step_text note_text start_line end_line ending_text target_text key_text set_text version_text node_line state_text conflict_line evaluated_text digits
text_one = rw (printed_words (codes "one")) refl

text_y : reply_text pipeline setting_y None ≡ codes "version 4\nr: active ready at r\n"
unfolding reply_text step_text note_text start_line end_line ending_text target_text key_text set_text version_text node_line state_text conflict_line evaluated_text digits
text_y = refl

text_taking_y : reply_text pipeline taking_y None ≡ codes "start 2 w test \"y\"\nversion 5\nr: active running at r\n"
unfolding reply_text step_text note_text start_line end_line ending_text target_text key_text set_text version_text node_line state_text conflict_line evaluated_text digits
text_taking_y = refl

text_two : reply_text pipeline ending_two None ≡ codes "end 2 ok\nversion 6\nr: ok \"two\"\n"
unfolding reply_text step_text note_text start_line end_line ending_text target_text key_text set_text version_text node_line state_text conflict_line evaluated_text digits
text_two = rw (printed_words (codes "two")) refl

text_x : reply_text pipeline setting_x None ≡ codes "version 7\nr: ok \"one\"\n"
unfolding reply_text step_text note_text start_line end_line ending_text target_text key_text set_text version_text node_line state_text conflict_line evaluated_text digits
text_x = rw (printed_words (codes "one")) refl

-- ---- before the first line

xs : List Exit
xs = fine (codes "one\n") ∷ fine (codes "two\n") ∷ []

opens : opening_part None (scene opened xs) ≡ does first_outputs (scene opened xs)
opens = ap (λ (r : Done). does (Commit r.delta ∷ Print (reply_text pipeline r None) ∷ []) (scene opened xs)) (opening_shown opened (found x [] opened) (found_is x [] opened))
    ∙ ap (λ (t : List ℕ). does (Commit (next_alone 2) ∷ Print t ∷ []) (scene opened xs)) text_opening

watches : watch_all None (scene opened xs) ≡ does [] (scene opened xs)
unfolding watch_all
watches = refl

orders_one : one_order None 0 (scene opened xs) ≡ does order_one (scene third (fine (codes "two\n") ∷ []))
unfolding xs
orders_one = order_is None (scene opened xs) 0 (order 1 (codes "x")) takes refl ends_one
    ∙ (λ i. does (Commit taking.delta ∷ Print (text_taking i) ∷ Run (order 1 (codes "x")) (fine (codes "one\n")) ∷ Commit ending_one.delta ∷ Print (text_one i) ∷ []) (scene third (fine (codes "two\n") ∷ [])))

free_one : free_worker (scene opened xs) ≡ Some 0
free_one = refl

none_free : (zs : List Exit) → free_worker (scene third zs) ≡ None
none_free zs = refl

all_one : all_orders None (scene opened xs) ≡ does order_one (scene third (fine (codes "two\n") ∷ []))
unfolding all_orders
all_one = orders_go None (scene opened xs) 999 0 free_one orders_one ∙ ap (preceded order_one) (orders_end None (scene third (fine (codes "two\n") ∷ [])) 998 refl)

-- ---- the first line

asks_y : control_read (codes "set br \"y\"") ≡ Some (Event (set (codes "y")))
unfolding control_word lexed is_utf8 chars encode_utf8
asks_y = refl

-- the second order
order_two : List Output
order_two =
    Commit (next_alone 3)
    ∷ Print (codes "start 2 w test \"y\"\nversion 5\nr: active running at r\n")
    ∷ Run (order 2 (codes "y")) (fine (codes "two\n"))
    ∷ Commit (record (next_alone 3) { put = Some two; log = Some (2, codes "two\n") })
    ∷ Print (codes "end 2 ok\nversion 6\nr: ok \"two\"\n")
    ∷ []

orders_two : one_order None 0 (scene fourth (fine (codes "two\n") ∷ [])) ≡ does order_two (scene sixth [])
unfolding order_two
orders_two = order_is None (scene fourth (fine (codes "two\n") ∷ [])) 0 (order 2 (codes "y")) takes_y refl ends_two
    ∙ (λ i. does (Commit taking_y.delta ∷ Print (text_taking_y i) ∷ Run (order 2 (codes "y")) (fine (codes "two\n")) ∷ Commit ending_two.delta ∷ Print (text_two i) ∷ []) (scene sixth []))

all_two : all_orders None (scene fourth (fine (codes "two\n") ∷ [])) ≡ does order_two (scene sixth [])
unfolding all_orders order_two
all_two = orders_go None (scene fourth (fine (codes "two\n") ∷ [])) 999 0 refl orders_two ∙ ap (preceded order_two) (orders_end None (scene sixth []) 998 refl)

goes_y : asked_part None (Some (Event (set (codes "y")))) (scene third (fine (codes "two\n") ∷ [])) ≡ does set_to_y (scene sixth [])
unfolding order_two
goes_y = event_goes None (scene third (fine (codes "two\n") ∷ [])) (set (codes "y")) sets_y
    ∙ (λ i. preceded (Commit setting_y.delta ∷ Print (text_y i) ∷ []) (all_two i))

-- ---- the second line

asks_x : control_read (codes "set br \"x\"") ≡ Some (Event (set (codes "x")))
unfolding control_word lexed is_utf8 chars encode_utf8
asks_x = refl

none_left : all_orders None (scene seventh []) ≡ does [] (scene seventh [])
unfolding all_orders
none_left = orders_end None (scene seventh []) 999 refl

goes_x : asked_part None (Some (Event (set (codes "x")))) (scene sixth []) ≡ does set_to_x (scene seventh [])
goes_x = event_goes None (scene sixth []) (set (codes "x")) sets_x ∙ (λ i. preceded (Commit setting_x.delta ∷ Print (text_x i) ∷ []) (none_left i))

-- ---- all of it

-- the input: two lines
abbrev pub input : List ℕ
input = codes "set br \"y\"\nset br \"x\"\n"

-- the outputs of the orders
abbrev pub outputs : List Exit
outputs = fine (codes "one\n") ∷ fine (codes "two\n") ∷ []

-- all outputs
abbrev pub all_outputs : List Output
all_outputs = first_outputs ++ (order_one ++ (set_to_y ++ set_to_x))

before_first : before_lines None (first_scene (over input outputs) opened) ≡ does (first_outputs ++ ([] ++ order_one)) (scene third (fine (codes "two\n") ∷ []))
unfolding xs
before_first = before_lines_are None (scene opened xs) opens watches all_one

pub script_is : transcript pipeline (loaded fresh) None None (over input outputs) ≡ record { outputs = all_outputs; end = Quits }
script_is =
    fresh_goes pipeline None None (over input outputs)
    ∙ ap (session_of None (over input outputs)) opening
    ∙ session_goes None (over input outputs) opened before_first
    ∙ ap (before (first_outputs ++ order_one)) (
    line_goes None (scene third (fine (codes "two\n") ∷ [])) (codes "set br \"y\"") (Bytes (codes "set br \"x\"") ∷ []) 1000000 asks_y refl goes_y refl
    ∙ ap (before set_to_y) (line_goes None (scene sixth []) (codes "set br \"x\"") [] 999999 asks_x refl goes_x refl)
    )

-- what is written
pub text_is : texts all_outputs ≡ codes "version 1\nr: active ready at r\nstart 1 w test \"x\"\nversion 2\nr: active running at r\nend 1 ok\nversion 3\nr: ok \"one\"\nversion 4\nr: active ready at r\nstart 2 w test \"y\"\nversion 5\nr: active running at r\nend 2 ok\nversion 6\nr: ok \"two\"\nversion 7\nr: ok \"one\"\n"
text_is = refl
