-- Commands on a pipeline file, by what it is found to be.
use Rattle.std.proofs.Common.{◌≡◌, ℕ, List, refl, sym, ap, subst, ◌∙◌, arith, inl, inr}
use Rattle.std.specs.Prelude.{◌⊎◌, Bool, true, false, IsTrue, IfSome, Option, Some, None, codes}
use Rattle.io_ends.specs.Causes.{SinkSide}
use Rattle.io_ends.specs.Known.{Contents, TakesContent, content_now}
use Rattle.op_keys.specs.declared.level.Level.{Level}
use Rattle.op_keys.specs.declared.order.Exit.{Exit}
use Rattle.op_keys.specs.declared.order.Order.{Order}
use Rattle.term_core.specs.declared.program.Program.{Program}
use Rattle.keeper_core.specs.declared.stored.Stored.{Stored}
use Rattle.keeper_core.specs.KeeperCalls.{begun}
use Rattle.report_text.specs.FaultLines.{error_line}
use Rattle.session_rules.specs.Commands.{File, Missing, Refused, Sound, Plan, check_plan, telling, usage}
use Rattle.session_rules.specs.Runs.{Follows, FollowsOn, Given, IsCheck, IsRun, IsRunOn, LeavesNoMore, Seen, read_once}
use Rattle.session_rules.specs.Scenes.{contents_after}
use Rattle.session_rules.specs.Steps.{Counting}
use Rattle.store_reports.specs.Causes.{Tells}
use Rattle.current_cli.specs.Calls.{report}
use Rattle.current_cli.specs.Files.{IsFile}
use Rattle.current_cli.specs.inside.FileFound.{Refuses, Unread, file_found}
use Rattle.current_cli.specs.inside.Parts.{IsCheckOf, IsChecked}
use Rattle.current_cli.proofs.OneFile.{only_found}
use Rattle.current_cli.proofs.Running.{unopened}
use Rattle.store_reports.proofs.Told.{IsAnswered, Prints, Quiet, quiet_on, side, stopped_text, told, told_or_not}

no : false ≡ true → ⊥
no e = cc

-- ---- one text

abbrev prints : (text : List ℕ) (n : ℕ) → IsAnswered n → Prints (telling text n) text n
prints text n answered = record { outputs = refl; status = refl; answered = answered }

-- nothing was read, and so nothing is written
unread : (text : List ℕ) (n status w w' : ℕ) (e e' : Seen) → IsAnswered n → Unread status (side e w) (side e' w') → e'.ran ≡ e.ran → Quiet (telling text n) status e e'
unread text n status w w' e e' answered (inl four, same) ran = stopped_text (telling text n) text n status e e' (prints text n answered) (omega (arith, four)) (omega (arith, four)) (ap (λ (x : SinkSide). x.written) same) ran
unread text n status w w' e e' answered (inr seven, same) ran = stopped_text (telling text n) text n status e e' (prints text n answered) (omega (arith, seven)) (omega (arith, seven)) (ap (λ (x : SinkSide). x.written) same) ran

-- the text was told, or nothing was read
told_text : (text : List ℕ) (n status w w' : ℕ) (e e' : Seen) → IsAnswered n → Tells text n status (side e w) (side e' w') ⊎ Unread status (side e w) (side e' w') → e'.ran ≡ e.ran
    → Quiet (telling text n) status e e'
told_text text n status w w' e e' answered (inl t) ran = told (telling text n) text n status w w' e e' (prints text n answered) t ran
told_text text n status w w' e e' answered (inr u) ran = unread text n status w w' e e' answered u ran

-- ---- no command

pub usage_told : (status w w' : ℕ) (e e' : Seen) → Tells (error_line (codes "usage")) 2 status (side e w) (side e' w') → e'.ran ≡ e.ran → Follows (λ xs. usage) status e e'
usage_told status w w' e e' t ran = (told usage (error_line (codes "usage")) 2 status w w' e e' (prints (error_line (codes "usage")) 2 (inr (inl refl))) t ran).follows

-- the words weren't read
pub usage_lost : (status : ℕ) (e : Seen) → status ≡ 7 → Follows (λ xs. usage) status e e
usage_lost status e seven = (stopped_text usage (error_line (codes "usage")) 2 status e e (prints (error_line (codes "usage")) 2 (inr (inl refl))) (omega (arith, seven)) (omega (arith, seven)) refl refl).follows

-- ---- `check`

check_of : (f : File) (status w w' : ℕ) (e e' : Seen) → IsCheckOf f status (side e w) (side e' w') → e'.ran ≡ e.ran → Follows (λ xs. check_plan f report) status e e'
check_of Missing status w w' e e' x ran = (told_text (error_line (codes "no file")) 2 status w w' e e' (inr (inl refl)) x ran).follows
check_of (Refused line) status w w' e e' x ran = (told_text line 3 status w w' e e' (inr (inr (inl refl))) x ran).follows
check_of (Sound p) status w w' e e' (inl t) ran = (told_or_not (telling (report p) 0) (report p) 0 status w w' e e' (prints (report p) 0 (inl refl)) t ran).follows
check_of (Sound p) status w w' e e' (inr u) ran = (unread (report p) 0 status w w' e e' (inl refl) u ran).follows

check_by : (held : Option Contents) (path : List ℕ) (status w w' : ℕ) (e e' : Seen) → IsChecked held path status (side e w) (side e' w') → e'.ran ≡ e.ran
    → IfSome held (λ contents. (f : File) → IsFile (content_now (contents path)) f → Follows (λ xs. check_plan f report) status e e')
check_by None path status w w' e e' x ran = tt
check_by (Some contents) path status w w' e e' x ran = λ f is.
    subst (λ (g : File). Follows (λ xs. check_plan g report) status e e') (sym (only_found (content_now (contents path)) f is)) (check_of (file_found (content_now (contents path))) status w w' e e' x ran)

pub is_check : (given : Given) (path : List ℕ) (status w w' : ℕ) (e e' : Seen) → IsChecked given.contents path status (side e w) (side e' w') → e'.ran ≡ e.ran
    → IsCheck IsFile (λ f. check_plan f report) path given status e e'
is_check given path status w w' e e' x ran = check_by given.contents path status w w' e e' x ran

-- ---- `run` of a file without a program

no_store : (p : Plan) (s : Stored) (status : ℕ) (e e' : Seen) → Quiet p status e e' → (IsTrue p.opens → ⊥) → LeavesNoMore e e' → FollowsOn (λ xs. p) s status e e'
no_store p s status e e' q opens no_more = quiet_on p s status e e' q (inr no_more) (λ own is. absurd (opens is))

told_run : (f : File) (text : List ℕ) (n : ℕ) (path : Option (List ℕ)) (threshold : Option Level) (counting : Counting) (bytes readings : Option (List ℕ)) (contents : Option Contents) (held : Option (List ℕ → Stored))
    (status : ℕ) (e e' : Seen) → ((s : Stored) → FollowsOn (λ xs. telling text n) s status e e') → ((f ≡ Missing) × (text ≡ error_line (codes "no file")) × (n ≡ 2)) ⊎ ((f ≡ Refused text) × (n ≡ 3))
    → IsRunOn f path threshold counting (record { bytes = bytes; readings = readings; contents = contents; held = held }) status e e'
told_run f text n path threshold counting None readings contents held status e e' follows is = λ known. tt
told_run f text n path threshold counting (Some bytes) None contents held status e e' follows is = λ known. tt
told_run f text n path threshold counting (Some bytes) (Some readings) None held status e e' follows is = λ known. tt
told_run f text n path threshold counting (Some bytes) (Some readings) (Some contents) None status e e' follows is = λ known. tt
told_run f text n path threshold counting (Some bytes) (Some readings) (Some contents) (Some held) status e e' follows (inl is) = λ known. rw (is.0, ← is.1, ← is.2) (follows (begun held path))
told_run f text n path threshold counting (Some bytes) (Some readings) (Some contents) (Some held) status e e' follows (inr is) = λ known. rw (is.0, ← is.1) (follows (begun held path))

refused_run : (f : File) (path : Option (List ℕ)) (threshold : Option Level) (counting : Counting) (given : Given) (status w w' : ℕ) (e e' : Seen) → Refuses f status (side e w) (side e' w') → e'.ran ≡ e.ran
    → LeavesNoMore e e' → IsRunOn f path threshold counting given status e e'
refused_run Missing path threshold counting given status w w' e e' x ran no_more =
    told_run Missing (error_line (codes "no file")) 2 path threshold counting given.bytes given.readings given.contents given.held status e e'
    (λ s. no_store (telling (error_line (codes "no file")) 2) s status e e' (told_text (error_line (codes "no file")) 2 status w w' e e' (inr (inl refl)) x ran) no no_more) (inl (refl, refl, refl))
refused_run (Refused line) path threshold counting given status w w' e e' x ran no_more =
    told_run (Refused line) line 3 path threshold counting given.bytes given.readings given.contents given.held status e e'
    (λ s. no_store (telling line 3) s status e e' (told_text line 3 status w w' e e' (inr (inr (inl refl))) x ran) no no_more) (inr (refl, refl))
refused_run (Sound p) path threshold counting given status w w' e e' (inl four, same) ran no_more =
    unopened p path threshold counting given status e e' (omega (arith, four)) (omega (arith, four)) (ap (λ (x : SinkSide). x.written) same) ran no_more
refused_run (Sound p) path threshold counting given status w w' e e' (inr seven, same) ran no_more =
    unopened p path threshold counting given status e e' (omega (arith, seven)) (omega (arith, seven)) (ap (λ (x : SinkSide). x.written) same) ran no_more

refused_by : (held : Option Contents) (file_path : List ℕ) (path : Option (List ℕ)) (threshold : Option Level) (counting : Counting) (given : Given) (status w w' : ℕ) (e e' : Seen)
    → IfSome held (λ contents. Refuses (file_found (content_now (contents file_path))) status (side e w) (side e' w')) → e'.ran ≡ e.ran → LeavesNoMore e e'
    → IfSome held (λ contents. (f : File) → IsFile (content_now (contents file_path)) f → IsRunOn f path threshold counting (read_once file_path contents given) status e e')
refused_by None file_path path threshold counting given status w w' e e' x ran no_more = tt
refused_by (Some contents) file_path path threshold counting given status w w' e e' x ran no_more = λ f is.
    subst (λ (g : File). IsRunOn g path threshold counting (read_once file_path contents given) status e e') (sym (only_found (content_now (contents file_path)) f is))
    (refused_run (file_found (content_now (contents file_path))) path threshold counting (read_once file_path contents given) status w w' e e' x ran no_more)

pub is_refused : (file_path : List ℕ) (path : Option (List ℕ)) (threshold : Option Level) (counting : Counting) (given : Given) (status w w' : ℕ) (e e' : Seen)
    → IfSome given.contents (λ contents. Refuses (file_found (content_now (contents file_path))) status (side e w) (side e' w')) → e'.ran ≡ e.ran → LeavesNoMore e e'
    → IsRun IsFile file_path path threshold counting given status e e'
is_refused file_path path threshold counting given status w w' e e' x ran no_more = refused_by given.contents file_path path threshold counting given status w w' e e' x ran no_more

-- ---- `run` of a sound file

-- what was given before and after the file was read
sound_by : (held held' : Option Contents) (p : Program) (file_path : List ℕ) (path : Option (List ℕ)) (threshold : Option Level) (counting : Counting) (given : Given) (status : ℕ) (e e' : Seen)
    → IfSome held (λ contents. file_found (content_now (contents file_path)) ≡ Sound p) → TakesContent held file_path held'
    → IsRunOn (Sound p) path threshold counting (record given { contents = held' }) status e e'
    → IfSome held (λ contents. (f : File) → IsFile (content_now (contents file_path)) f → IsRunOn f path threshold counting (read_once file_path contents given) status e e')
sound_by None held' p file_path path threshold counting given status e e' found taken run = tt
sound_by (Some contents) None p file_path path threshold counting given status e e' found taken run = absurd taken
sound_by (Some contents) (Some later) p file_path path threshold counting given status e e' found taken run = λ f is.
    let same : later ≡ contents_after file_path contents = (λ i q. taken q i) in
    subst (λ (g : File). IsRunOn g path threshold counting (read_once file_path contents given) status e e') (sym (only_found (content_now (contents file_path)) f is ∙ found))
    (subst (λ (c : Contents). IsRunOn (Sound p) path threshold counting (record given { contents = Some c }) status e e') same run)

pub is_sound : (held' : Option Contents) (p : Program) (file_path : List ℕ) (path : Option (List ℕ)) (threshold : Option Level) (counting : Counting) (given : Given) (status : ℕ) (e e' : Seen)
    → IfSome given.contents (λ contents. file_found (content_now (contents file_path)) ≡ Sound p) → TakesContent given.contents file_path held'
    → IsRunOn (Sound p) path threshold counting (record given { contents = held' }) status e e' → IsRun IsFile file_path path threshold counting given status e e'
is_sound held' p file_path path threshold counting given status e e' found taken run = sound_by given.contents held' p file_path path threshold counting given status e e' found taken run

-- the same run, where what is seen before it and the readings are the same
pub same_run : (p : Program) (path : Option (List ℕ)) (threshold : Option Level) (counting : Counting) (bytes readings readings' : Option (List ℕ)) (contents : Option Contents) (held : Option (List ℕ → Stored)) (status : ℕ)
    (w w' : Option (List ℕ)) (r r' : Option (List (Order × Exit))) (knows : Bool) (left : Stored → Type 0) (e' : Seen) → readings ≡ readings' → w ≡ w' → r ≡ r'
    → IsRunOn (Sound p) path threshold counting (record { bytes = bytes; readings = readings; contents = contents; held = held }) status (record { written = w; ran = r; knows_left = knows; left = left }) e'
    → IsRunOn (Sound p) path threshold counting (record { bytes = bytes; readings = readings'; contents = contents; held = held }) status (record { written = w'; ran = r'; knows_left = knows; left = left }) e'
same_run p path threshold counting bytes readings readings' contents held status w w' r r' knows left e' clock written ran run =
    subst (λ (x : Option (List ℕ)). IsRunOn (Sound p) path threshold counting (record { bytes = bytes; readings = x; contents = contents; held = held }) status (record { written = w'; ran = r'; knows_left = knows; left = left }) e') clock
    (subst (λ (x : Option (List ℕ)). IsRunOn (Sound p) path threshold counting (record { bytes = bytes; readings = readings; contents = contents; held = held }) status (record { written = x; ran = r'; knows_left = knows; left = left }) e') written
    (subst (λ (x : Option (List (Order × Exit))). IsRunOn (Sound p) path threshold counting (record { bytes = bytes; readings = readings; contents = contents; held = held }) status (record { written = w; ran = x; knows_left = knows; left = left }) e') ran run))
