-- Worked sessions at the limit of lines: on the pipeline that declares nothing, lines that ask for nothing.
use Rattle.std.proofs.Common.{◌≡◌, ℕ, zero, suc, ◌+◌, ◌-◌, true, List, [], ◌∷◌, ◌++◌, Some, None, refl, ap, ◌∙◌, arith}
use Rattle.std.specs.Prelude.{codes, if◌then◌else◌, nat_lt}
use Rattle.std.specs.FinMap.{empty}
use Rattle.std.specs.Fmt.{digits}
use Rattle.std.proofs.lemmas.Bool.Decides.{nat_tests}
use Rattle.io_ends.specs.Lines.{TextLine, Bytes, Long, lines_of}
use Rattle.value_core.specs.Lexing.{lexed}
use Rattle.term_core.specs.declared.program.Program.{Program}
use Rattle.term_core.specs.Fresh as nodes
use Rattle.term_core.specs.World.{World}
use Rattle.core_rules.specs.Core.{CoreState}
use Rattle.core_rules.specs.Openings.{start}
use Rattle.core_rules.specs.declared.done.Done.{Done}
use Rattle.core_rules.specs.Replies.{next_alone}
use Rattle.core_rules.proofs.WorkedRuns.{Evaluated, found, found_is, nothing_stored}
use Rattle.core_rules.proofs.WorkedRuns as run
use Rattle.report_text.specs.declared.controls.Control.TheVariants.{Empty, Quit}
use Rattle.report_text.specs.Controls.{control_read, control_word}
use Rattle.report_text.specs.Lines.{reply_text, step_text, note_text, start_line, end_line, ending_text, target_text, key_text, set_text, version_text, node_line, state_text, conflict_line, evaluated_text}
use Rattle.session_rules.specs.Outputs.{Output, Commit, Print}
use Rattle.session_rules.specs.Parts.{does}
use Rattle.session_rules.specs.Scenes.{Scene}
use Rattle.session_rules.specs.Steps.{all_orders}
use Rattle.keeper_core.specs.Contents.{fresh, loaded}
use Rattle.session_rules.specs.Transcripts.{Limit, Quits, before, ended, line_part, lines_from, next_line, continued, is_end, asked_part, opening_part, session_of, transcript}
use Rattle.session_rules.specs.Watching.{watch_all}
use Rattle.session_rules.proofs.Going.{before_lines_are, line_goes, opening_by, opening_shown, orders_end, session_goes, fresh_goes}
use Rattle.session_rules.proofs.Written.{over, scene}

-- ---- lines that ask for nothing

-- so many newlines
pub newlines : ℕ → List ℕ
newlines zero = []
newlines (suc n) = 10 ∷ newlines n

-- so many empty lines
empties : ℕ → List TextLine
empties zero = []
empties (suc n) = Bytes [] ∷ empties n

lines_are : (n : ℕ) (more : List ℕ) → lines_of (newlines n ++ more) ≡ empties n ++ lines_of more
unfolding newlines empties
lines_are zero more = refl
lines_are (suc n) more = ap (λ (l : List TextLine). Bytes [] ∷ l) (lines_are n more)

empty_asks : control_read [] ≡ Some Empty
unfolding lexed
empty_asks = refl

-- an empty line after which others may follow
empty_goes : (lines : List TextLine) (n : ℕ) (s : Scene) → nat_lt 1 n ≡ true → lines_from None (Bytes [] ∷ lines) n s ≡ lines_from None lines (n - 1) s
empty_goes lines n s more = line_goes None s [] lines n empty_asks refl refl more

-- n of them
passes : (n m : ℕ) (lines : List TextLine) (s : Scene) → lines_from None (empties n ++ lines) (n + suc m) s ≡ lines_from None lines (suc m) s
unfolding empties
passes zero m lines s =
    let none : 0 + suc m ≡ suc m = omega arith in
    ap (λ k. lines_from None lines k s) none
passes (suc n) m lines s =
    let more : nat_lt 1 (suc n + suc m) ≡ true = grind (arith, nat_tests) in
    let one_less : (suc n + suc m) - 1 ≡ n + suc m = omega arith in
    empty_goes (empties n ++ lines) (suc n + suc m) s more ∙ ap (λ k. lines_from None (empties n ++ lines) k s) one_less ∙ passes n m lines s

-- the last line that is taken
last_is : (lines : List TextLine) (s : Scene) → lines_from None (Bytes [] ∷ lines) 1 s ≡ ended Limit
last_is lines s = ap (λ c. if is_end c then ended Quits else continued (asked_part None c s) (next_line 1 (lines_from None lines))) empty_asks

quit_asks : control_read (codes "quit") ≡ Some Quit
unfolding control_word lexed
quit_asks = refl

quit_is : (lines : List TextLine) (n : ℕ) (s : Scene) → lines_from None (Bytes (codes "quit") ∷ lines) n s ≡ ended Quits
quit_is lines n s = ap (λ c. if is_end c then ended Quits else continued (asked_part None c s) (next_line n (lines_from None lines))) quit_asks

-- ---- the pipeline

abbrev pub bare : Program
bare = record { version = 1; inputs = []; pools = []; clients = []; workers = []; ops = []; nodes = [] }

pub bare_is : (w : World) → nodes.fresh bare [] w ≡ record { states = []; wants = []; ticks = 0 }
unfolding nodes.fresh
bare_is w = refl

abbrev pub nothing : Evaluated
nothing = record { program = bare; inputs = []; run = λ entry. record { states = []; wants = []; ticks = 0 }; is = bare_is }

abbrev pub opened : CoreState
opened = record {
  program = bare;
  threshold = None;
  now = 0;
  version = 1;
  inputs = [];
  rows = empty;
  next = 1;
  jobs = [];
  fair = record { tickets = []; next = []; rates = []; paused = []; hints = empty };
}

opening : start bare nothing_stored None 0 ≡ Some opened
opening = run.opens nothing None 0 refl refl

-- ---- sessions on it

-- version 1
abbrev pub first_outputs : List Output
first_outputs = Commit (next_alone 1) ∷ Print (codes "version 1\n") ∷ []

text_opening : reply_text bare (opening_by opened (found nothing [] opened)) None ≡ codes "version 1\n"
unfolding reply_text step_text note_text start_line end_line ending_text target_text key_text set_text version_text node_line state_text conflict_line evaluated_text digits
text_opening = refl

opens : opening_part None (scene opened []) ≡ does first_outputs (scene opened [])
opens = ap (λ (r : Done). does (Commit r.delta ∷ Print (reply_text bare r None) ∷ []) (scene opened [])) (opening_shown opened (found nothing [] opened) (found_is nothing [] opened))
    ∙ ap (λ (t : List ℕ). does (Commit (next_alone 1) ∷ Print t ∷ []) (scene opened [])) text_opening

watches : watch_all None (scene opened []) ≡ does [] (scene opened [])
unfolding watch_all
watches = refl

no_orders : all_orders None (scene opened []) ≡ does [] (scene opened [])
unfolding all_orders
no_orders = orders_end None (scene opened []) 999 refl

script : (bytes : List ℕ) → transcript bare (loaded fresh) None None (over bytes []) ≡ before first_outputs (lines_from None (lines_of bytes) 1000000 (scene opened []))
script bytes = fresh_goes bare None None (over bytes []) ∙ ap (session_of None (over bytes [])) opening ∙ session_goes None (over bytes []) opened (before_lines_are None (scene opened []) opens watches no_orders)

-- 1,000,000 empty lines, whatever follows: the session ends with the last of them
pub limit_is : (more : List ℕ) → transcript bare (loaded fresh) None None (over (newlines 999999 ++ (10 ∷ more)) []) ≡ record { outputs = first_outputs; end = Limit }
limit_is more =
    script (newlines 999999 ++ (10 ∷ more))
    ∙ ap (λ (lines : List TextLine). before first_outputs (lines_from None lines 1000000 (scene opened []))) (lines_are 999999 (10 ∷ more))
    ∙ ap (before first_outputs) (passes 999999 0 (lines_of (10 ∷ more)) (scene opened []) ∙ last_is (lines_of more) (scene opened []))

-- 999,999 empty lines and then `quit`: it ends by that word
pub quit_in_time : transcript bare (loaded fresh) None None (over (newlines 999999 ++ codes "quit\n") []) ≡ record { outputs = first_outputs; end = Quits }
quit_in_time =
    script (newlines 999999 ++ codes "quit\n")
    ∙ ap (λ (lines : List TextLine). before first_outputs (lines_from None lines 1000000 (scene opened []))) (lines_are 999999 (codes "quit\n"))
    ∙ ap (before first_outputs) (passes 999999 0 (lines_of (codes "quit\n")) (scene opened []) ∙ quit_is [] 1 (scene opened []))

-- a line that is too long is refused
pub too_long : (s : Scene) → line_part None Long s ≡ does (Print (codes "refused line too long\n") ∷ []) s
too_long s = refl
