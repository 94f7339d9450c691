-- Settling: of the live jobs some go, some are marked, and new ones are created.
use Rattle.std.specs.Prelude.{ℕ, ◌+◌, ◌^◌, Bool, true, false, not, ◌&&◌, ◌||◌, ◌==◌, nat_lt, if◌then◌else◌, List, [], ◌∷◌, ◌++◌, map, length, Option, Some, None, is_some, filter}
use Rattle.std.specs.List.{find}
use Rattle.std.specs.Option.{option_and_then, option_map}
use Rattle.std.specs.Ordering.{is_lt}
use Rattle.std.specs.Str.{bytes_eq}
use Rattle.value_core.specs.declared.state.Triple.{Triple}
use Rattle.op_keys.specs.declared.declarations.OpDecl.{OpDecl}
use Rattle.op_keys.specs.Filling.{filled}
use Rattle.term_core.specs.Counts.{in_order, is_wanted}
use Rattle.sched_rows.specs.declared.row.Row.{Row}
use Rattle.value_core.specs.Orders.{bytes_cmp}
use Rattle.sched_rows.specs.Validity.{valid}
use Rattle.fair_pool.specs.declared.ticket.Ticket.{Ticket}
use Rattle.fair_pool.specs.Fair.{Fair, ticketed, with_ticket}
use Rattle.core_rules.specs.declared.jobs.Job.{Job}
use Rattle.core_rules.specs.declared.jobs.Mark.{Mark}
use Rattle.core_rules.specs.declared.jobs.Mark.TheVariants.{Unmarked, Automatic, User}
use Rattle.core_rules.specs.Core.{CoreState, layout_of, op_of, expiry_of, goes_on, has_job}
use Rattle.core_rules.specs.Entries.{row_of, wants}

-- ---- what is wanted

-- the wanted triples in order, each once
abbrev pub wanted : CoreState → List Triple
wanted s = in_order (wants s)

-- ---- 1. each queued job without a reference goes, with its ticket

-- whether a job stays
abbrev pub stays : List Triple → Job → Bool
stays ws j = is_some j.worker || is_wanted ws j.triple

-- the jobs that stay, and their tickets
abbrev pub dropped : List Triple → CoreState → CoreState
dropped ws s =
    let jobs = filter (stays ws) s.jobs in
    record s { jobs = jobs; fair = record s.fair { tickets = filter (λ k. has_job jobs k.job) s.fair.tickets } }

-- ---- 2. each running job without a reference or a mark gets the automatic mark, if its operation doesn't let it go on

-- whether a job has no mark
abbrev pub is_unmarked : Mark → Bool
is_unmarked Unmarked = true
is_unmarked Automatic = false
is_unmarked User = false

-- whether a job gets the automatic mark
abbrev pub is_lost : List Triple → CoreState → Job → Bool
is_lost ws s j = is_some j.worker && (not (is_wanted ws j.triple) && (is_unmarked j.mark && not (goes_on (op_of s j.triple.op))))

-- a job with its mark
abbrev pub mark_lost : List Triple → CoreState → Job → Job
mark_lost ws s j = if is_lost ws s j then record j { mark = Automatic } else j

-- all jobs with their marks
abbrev pub lost_marked : List Triple → CoreState → CoreState
lost_marked ws s = record s { jobs = map (mark_lost ws s) s.jobs }

-- the numbers of the jobs that get the mark
abbrev pub newly_marked : List Triple → CoreState → List ℕ
newly_marked ws s = map (λ j. j.number) (filter (is_lost ws s) s.jobs)

-- ---- targets: the one value that each operation and key is to have

-- whether a triple is of an operation and key
abbrev pub on_key : ℕ → List ℕ → Triple → Bool
on_key op key t = t.op == op && bytes_eq t.key key

-- the live job of an operation and key
abbrev pub live_on : List Job → ℕ → List ℕ → Option Job
live_on js op key = find (λ j. on_key op key j.triple) js

-- the wanted values of an operation and key
abbrev pub values_on : List Triple → ℕ → List ℕ → List (List ℕ)
values_on ws op key = map (λ t. t.value) (filter (on_key op key) ws)

-- the least of a text and some more
abbrev pub least_text : List ℕ → List (List ℕ) → List ℕ
least_text v [] = v
least_text v (u ∷ us) = least_text (if is_lt (bytes_cmp u v) then u else v) us

-- the least of some texts
abbrev pub least_value : List (List ℕ) → Option (List ℕ)
least_value [] = None
least_value (v ∷ vs) = Some (least_text v vs)

-- a text, or one that isn't greater
abbrev pub lesser : Option (List ℕ) → List ℕ → List ℕ
lesser None v = v
lesser (Some u) v = if is_lt (bytes_cmp v u) then v else u

-- the least of some texts and one that may be there
abbrev pub least_from : Option (List ℕ) → List (List ℕ) → Option (List ℕ)
least_from None vs = least_value vs
least_from (Some v) vs = Some (least_text v vs)

-- the value of a job, where it is wanted
abbrev pub wanted_value : List Triple → Job → Option (List ℕ)
wanted_value ws j = if is_wanted ws j.triple then Some j.triple.value else None

-- the first value where it is there, else the least of the others
abbrev pub or_least : List (List ℕ) → Option (List ℕ) → Option (List ℕ)
or_least vs (Some v) = Some v
or_least vs None = least_value vs

-- the value of the live job of that key where it is wanted, else the least wanted value
abbrev pub target : List Triple → List Job → ℕ → List ℕ → Option (List ℕ)
target ws js op key = or_least (values_on ws op key) (option_and_then (wanted_value ws) (live_on js op key))

-- whether a value is the one that is there
abbrev pub is_value : Option (List ℕ) → List ℕ → Bool
is_value None v = false
is_value (Some u) v = bytes_eq u v

-- the wanted triples whose values are the targets of their keys
abbrev pub targets : List Triple → List Job → List Triple
targets ws js = filter (λ t. is_value (target ws js t.op t.key) t.value) ws

-- ---- 3. each target without a valid row gets a new job, if its operation and key have no live one

-- the hint of an order for a triple, where its operation has one
abbrev pub hint_for : OpDecl → Triple → Option (List ℕ)
hint_for d t = option_map (filled t.key t.value) d.hint

-- a job that isn't confirmed
abbrev pub new_job : ℕ → Triple → Job
new_job n t = record { number = n; triple = t; confirmed = false; worker = None; mark = Unmarked }

-- with the ticket of the next job; what isn't declared has a ticket of a pool that no worker is of
abbrev pub new_ticket : CoreState → Triple → Option OpDecl → Fair
new_ticket s t (Some d) = ticketed (layout_of s.program) s.now s.next d (hint_for d t) s.fair
new_ticket s t None =
    let k : Ticket = record { job = s.next; pool = length s.program.pools + 1; urgent = false; hint = None; start = s.now; created = s.now } in
    record s.fair { tickets = with_ticket k s.fair.tickets }

-- with a job of the next number, and its ticket
abbrev pub created : CoreState → Triple → CoreState
created s t = record s { jobs = s.jobs ++ new_job s.next t ∷ []; next = s.next + 1; fair = new_ticket s t (op_of s t.op) }

-- whether a row is there and valid
abbrev pub is_valid : CoreState → Option OpDecl → Option Row → Bool
is_valid s d (Some r) = valid (expiry_of d) s.now r
is_valid s d None = false

-- whether a row of a triple is there and valid, or its operation and key have a live job
abbrev pub served_by : CoreState → Triple → Option Row → Bool
served_by s t r = is_valid s (op_of s t.op) r || is_some (live_on s.jobs t.op t.key)

-- the same, by the triple's own row
abbrev pub is_served : CoreState → Triple → Bool
is_served s t = served_by s t (row_of s t)

-- a target that isn't served gets a job; undefined where that needs the number 2^62
abbrev pub create : CoreState → Triple → Option CoreState
create s t = if is_served s t then Some s else (if nat_lt s.next (2 ^ 62) then Some (created s t) else None)

-- the same for each of some targets, in order
abbrev pub create_all : CoreState → List Triple → Option CoreState
create_all s [] = Some s
create_all s (t ∷ ts) = option_and_then (λ s'. create_all s' ts) (create s t)

-- ---- all three

-- settled for these wanted triples, in order, each once
abbrev pub settle_for : List Triple → CoreState → Option CoreState
settle_for ws s = create_all (lost_marked ws (dropped ws s)) (targets ws s.jobs)

-- settled for what is wanted at the beginning; undefined exactly where a job of the number 2^62 would be needed
abbrev pub settle : CoreState → Option CoreState
settle s = settle_for (wanted s) s
