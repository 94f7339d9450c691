-- What a call of the program promises: how far it came in the plan of its command, and with which status.
use Rattle.std.specs.Prelude.{◌≡◌, ◌≢◌, ℕ, ◌-◌, ◌≤◌, Bool, true, false, IsTrue, List, [], ◌∷◌, ◌++◌, ◌⊎◌, length, slice_index_or, IfSome}
use Rattle.std.specs.declared.option.Option.{Option}
use Rattle.std.specs.declared.option.Option.TheVariants.{None, Some}
use Rattle.std.specs.Io.KnownBytes.{Appends}
use Rattle.io_ends.specs.Known.{Contents, content_now}
use Rattle.op_keys.specs.declared.level.Level.{Level}
use Rattle.op_keys.specs.declared.order.Exit.{Exit}
use Rattle.op_keys.specs.declared.order.Exit.TheVariants as exit
use Rattle.op_keys.specs.declared.order.Order.{Order}
use Rattle.core_rules.specs.declared.done.Delta.{Delta}
use Rattle.keeper_core.specs.declared.stored.Stored.{Stored}
use Rattle.keeper_core.specs.Contents.{fresh, loaded}
use Rattle.keeper_core.specs.KeeperCalls.{begun}
use Rattle.session_rules.specs.Commands.{Plan, File, Missing, Refused, Sound, made_program, made_script, run_plan, summary}
use Rattle.session_rules.specs.Outputs.{Output, Commit, Print, Run, deltas, exits, runs, texts}
use Rattle.session_rules.specs.Outside.{Grows, IsPart, with_deltas}
use Rattle.session_rules.specs.Scenes.{contents_after}
use Rattle.session_rules.specs.Steps.{Counting}
use Rattle.session_rules.specs.Transcripts.{Transcript, Quits, transcript}

-- ---- what is seen of the ends

-- before or after a call: what was written, the orders that were run with their exits, and the tables that a stop may leave, if these are known
pub record Seen : Type 1 where
  pub written : Option (List ℕ)
  pub ran : Option (List (Order × Exit))
  pub knows_left : Bool
  pub left : Stored → Type 0

-- a stop leaves, if that is known, the store after the commits, or after one more that was in progress
abbrev pub LeavesOf : Stored → List Delta → List Delta → Seen → Type 0
LeavesOf store ds more e =
    IsTrue e.knows_left → (x : Stored) → e.left x → (x ≡ with_deltas ds store) ⊎ (x ≡ with_deltas (ds ++ more) store)

-- a stop leaves no more than before
abbrev pub LeavesNoMore : Seen → Seen → Type 0
LeavesNoMore e e' = IsTrue e'.knows_left → (x : Stored) → e'.left x → e.left x

-- ---- plans that are followed

-- the status is that of the plan, or that of a fault: of reading, of writing, of a keeper, or out of memory
abbrev pub IsStatusOf : Plan → ℕ → Type 0
IsStatusOf plan status = (status ≡ plan.status) ⊎ ((4 ≤ status) × (status ≤ 7))

-- The first outputs of the plan were done, and perhaps a part of the next: all of them if the status is the plan's.
-- The plan goes by the exits of the orders that were run.
pub record Follows (plan : List Exit → Plan) (status : ℕ) (e e' : Seen) : Type 0 where
  pub done : List Output
  pub left : List Output
  pub text : List ℕ
  pub more : List Delta
  pub split : (plan (exits done)).outputs ≡ done ++ left
  pub part : IsPart left text more
  pub wrote : Appends e.written e'.written (texts done ++ text)
  pub ran : Grows e.ran e'.ran (runs done)
  pub status_of : IsStatusOf (plan (exits done)) status
  pub whole : status ≡ (plan (exits done)).status → left ≡ []

-- The same of a plan over a store: a stop leaves the store after the commits that were done, and perhaps after one that
-- was in progress. If the store wasn't opened, nothing was committed, and a stop leaves no more than before.
pub record FollowsOn (plan : List Exit → Plan) (store : Stored) (status : ℕ) (e e' : Seen) : Type 0 where
  pub follows : Follows plan status e e'
  pub leaves : LeavesOf store (deltas follows.done) follows.more e' ⊎ ((deltas follows.done ≡ []) × LeavesNoMore e e')
  pub opened : status ≡ (plan (exits follows.done)).status → IsTrue (plan (exits follows.done)).opens → LeavesOf store (deltas follows.done) [] e'

-- ---- commands

-- what a call is given by its ends, as far as it is known
pub record Given : Type 0 where
  pub bytes : Option (List ℕ)
  pub readings : Option (List ℕ)
  pub contents : Option Contents
  pub held : Option (List ℕ → Stored)

-- whether `run` on a file opens a store
abbrev pub opens_store : File → Bool
opens_store Missing = false
opens_store (Refused line) = false
opens_store (Sound p) = true

-- `run` on a file that is found to be so, over a store, if the store that it opens is known to the end
abbrev pub IsRunOn : File → Option (List ℕ) → Option Level → Counting → Given → ℕ → Seen → Seen → Type 0
IsRunOn file path threshold counting given status e e' =
    (IsTrue (opens_store file) → IsTrue e'.knows_left) →
    IfSome given.bytes (λ bytes. IfSome given.readings (λ readings. IfSome given.contents (λ contents. IfSome given.held (λ held.
    FollowsOn (λ xs. run_plan file (begun held path) threshold counting (record { bytes = bytes; readings = readings; contents = contents; exits = xs }))
    (begun held path) status e e'))))

-- the ends after the read of the pipeline file
abbrev pub read_once : List ℕ → Contents → Given → Given
read_once path contents given = record given { contents = Some (contents_after path contents) }

-- `run` on the file of a path: `IsFile` says what a content, or that there is none, is found to be
abbrev pub IsRun : (Option (List ℕ) → File → Type 0) → List ℕ → Option (List ℕ) → Option Level → Counting → Given → ℕ → Seen → Seen → Type 0
IsRun IsFile file_path path threshold counting given status e e' =
    IfSome given.contents (λ contents. (file : File) → IsFile (content_now (contents file_path)) file →
    IsRunOn file path threshold counting (read_once file_path contents given) status e e')

-- a command that reads a store alone, if the store is known to the end: `jobs`, `stats` and `log`
abbrev pub IsReport : (Stored → Plan) → List ℕ → Given → ℕ → Seen → Seen → Type 0
IsReport plan path given status e e' = IsTrue e'.knows_left → IfSome given.held (λ held. FollowsOn (λ xs. plan (held path)) (held path) status e e')

-- a command that goes by a file alone: `check`
abbrev pub IsCheck : (Option (List ℕ) → File → Type 0) → (File → Plan) → List ℕ → Given → ℕ → Seen → Seen → Type 0
IsCheck IsFile plan file_path given status e e' =
    IfSome given.contents (λ contents. (file : File) → IsFile (content_now (contents file_path)) file → Follows (λ xs. plan file) status e e')

-- ---- `make`

-- the exit that echoes an order: its last word, with code 0
abbrev pub echo : Order → Exit
echo order = exit.Ended (Some 0) (slice_index_or order.words (length order.words - 1) [])

-- each order among the outputs was echoed
abbrev pub AreEchoes : List Output → Type 0
AreEchoes [] = Unit {0}
AreEchoes (Commit delta ∷ outputs) = AreEchoes outputs
AreEchoes (Print text ∷ outputs) = AreEchoes outputs
AreEchoes (Run order x ∷ outputs) = (x ≡ echo order) × AreEchoes outputs

-- the session on the made pipeline and script, over fresh tables, with a clock that reads 0
abbrev pub made_transcript : ℕ → List Exit → Transcript
made_transcript n xs =
    transcript (made_program n) (loaded fresh) None None (record { bytes = made_script n; readings = []; contents = λ path. []; exits = xs })

-- the summary of that session, whose orders are echoed
abbrev pub IsSummary : ℕ → List ℕ → Type 0
IsSummary n text =
    (xs : List Exit) × AreEchoes (made_transcript n xs).outputs × ((made_transcript n xs).end ≡ Quits) × (text ≡ summary n (made_transcript n xs).outputs)

-- ---- `migrate`

-- a stop leaves, if that is known, the new store or the old one: the new one alone if all was done, and the old one alone if a row isn't well formed
abbrev pub IsMoved : Stored → Stored → ℕ → Seen → Type 0
IsMoved old new status e =
    IsTrue e.knows_left → (x : Stored) → e.left x → ((x ≡ new) × (status ≢ 9)) ⊎ ((x ≡ old) × (status ≡ 0 → old ≡ new))
