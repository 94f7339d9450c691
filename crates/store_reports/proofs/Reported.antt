-- How a question is answered.
use Rattle.std.proofs.Common.{◌≡◌, ℕ, ◌≤◌, List, [], refl, sym, ap, subst, ◌∙◌, arith, inl, inr}
use Rattle.std.specs.Prelude.{◌⊎◌, ◌&&◌, Bool, true, false, IsTrue, IfSome, is_some, Option, Some, None}
use Rattle.keeper_core.specs.declared.keeper.KeepFault.{KeepFault}
use Rattle.keeper_core.specs.declared.keeper.KeepFault.TheVariants.{Fault, NoMemory}
use Rattle.keeper_core.specs.declared.stored.Stored.{Stored}
use Rattle.keeper_core.specs.KeeperCalls.{Holds, Known, LeavesAsKeeper, knows_after}
use Rattle.session_rules.specs.Commands.{Plan, after_opening, telling}
use Rattle.session_rules.specs.Runs.{FollowsOn, LeavesNoMore, LeavesOf, Seen}
use Rattle.store_reports.specs.Causes.{Tells, fault_status}
use Rattle.store_reports.specs.Questions.{HasStatus, question_plan}
use Rattle.store_reports.specs.declared.answers.Question.{Question}
use Rattle.store_reports.specs.inside.Answering.{OnlyReads}
use Rattle.store_reports.proofs.Plans.{IsSmall, OneText, prints_of, question_small}
use Rattle.store_reports.proofs.Told.{IsAnswered, Prints, no_fault, quiet_on, side, stopped, told}

-- ---- nothing was done

-- a keeper's fault, or memory ran out
abbrev pub IsLoss : ℕ → Type 0
IsLoss status = (status ≡ 6) ⊎ (status ≡ 7)

pub fault_is : (f : KeepFault) (status : ℕ) → status ≡ fault_status f → IsLoss status
fault_is Fault status e = inl e
fault_is NoMemory status e = inr e

pub low : (status : ℕ) → IsLoss status → 4 ≤ status
low status (inl e) = omega (arith, e)
low status (inr e) = omega (arith, e)

pub high : (status : ℕ) → IsLoss status → status ≤ 7
high status (inl e) = omega (arith, e)
high status (inr e) = omega (arith, e)

-- the status of a text isn't that of a loss
other : (p : Plan) (status : ℕ) → OneText p → IsLoss status → status ≡ p.status → ⊥
other p status one loss same =
    let own : status ≡ one.status = same ∙ one.prints.status in
    no_fault one.status one.prints.answered (subst (λ (k : ℕ). 4 ≤ k) own (low status loss)) (subst (λ (k : ℕ). k ≤ 7) own (high status loss))

none_left : (p : Plan) (status : ℕ) → IsSmall p → IsLoss status → status ≡ p.status → p.outputs ≡ []
none_left p status (inl is) loss same = ap (λ (q : Plan). q.outputs) is
none_left p status (inr one) loss same = absurd (other p status one loss same)

pub no : false ≡ true → ⊥
no e = cc

none_opened : (p : Plan) (status : ℕ) → IsSmall p → IsLoss status → status ≡ p.status → IsTrue p.opens → ⊥
none_opened p status (inl is) loss same opens = no (subst IsTrue (ap (λ (q : Plan). q.opens) is) opens)
none_opened p status (inr one) loss same opens = other p status one loss same

pub lost_follows : (q : Question) (s : Stored) (status : ℕ) (e e' : Seen) → IsLoss status → e'.written ≡ e.written → e'.ran ≡ e.ran → LeavesOf s [] [] e' ⊎ LeavesNoMore e e'
    → FollowsOn (λ xs. question_plan q s) s status e e'
lost_follows q s status e e' loss written ran leaves =
    let p = question_plan q s in
    let small = question_small q s in
    quiet_on p s status e e' (stopped p status e e' (low status loss) (high status loss) (none_left p status small loss) written ran) leaves (λ same opens. absurd (none_opened p status small loss same opens))

-- ---- the answer was printed, or a front of it

told_follows : (q : Question) (s : Stored) (text : List ℕ) (n status w w' : ℕ) (e e' : Seen) → Prints (question_plan q s) text n → Tells text n status (side e w) (side e' w') → e'.ran ≡ e.ran
    → LeavesOf s [] [] e' → FollowsOn (λ xs. question_plan q s) s status e e'
told_follows q s text n status w w' e e' prints t ran leaves =
    quiet_on (question_plan q s) s status e e' (told (question_plan q s) text n status w w' e e' prints t ran) (inl leaves) (λ same opens. leaves)

-- ---- what a stop leaves of a keeper that was given back

-- if it is known, it is the store that the keeper was opened with
leaves_store : (s : Stored) (k k' : Known) (e' : Seen) → Holds s k → OnlyReads k k' → LeavesAsKeeper e'.knows_left e'.left k' → LeavesOf s [] [] e'
leaves_store s k k' e' holds reads same knows x left = inl ((holds.left x).0 (reads.no_more x ((same knows x).0 left)))

-- a keeper failed or memory ran out after it was opened
pub failed_follows : (q : Question) (s : Stored) (status : ℕ) (k k' : Known) (e e' : Seen) → IsLoss status → e'.written ≡ e.written → e'.ran ≡ e.ran → Holds s k → OnlyReads k k'
    → LeavesAsKeeper e'.knows_left e'.left k' → FollowsOn (λ xs. question_plan q s) s status e e'
failed_follows q s status k k' e e' loss written ran holds reads same = lost_follows q s status e e' loss written ran (inl (leaves_store s k k' e' holds reads same))

some_is : (x y : Stored) → Some x ≡ Some y → x ≡ y
some_is x y e = cc

pub second_true : (a b : Bool) → IsTrue (a && b) → IsTrue b
second_true true b both = both
second_true false b both = absurd (no both)

same_store : (k k' : Known) (s x : Stored) → Holds s k → OnlyReads k k' → k'.tables ≡ Some x → x ≡ s
same_store k k' s x holds reads is = some_is x s (sym (rw is at reads.same) ∙ holds.tables)

found_store : (P : Stored → Type 0) (s : Stored) (k k' : Known) (o : Option Stored) → k'.tables ≡ o → Holds s k → OnlyReads k k' → IsTrue (is_some o) → IfSome o P → P s
found_store P s k k' None is holds reads some at = absurd (no some)
found_store P s k k' (Some x) is holds reads some at = subst P (same_store k k' s x holds reads is) at

-- a keeper whose tables are known at the end has the store that it was opened with
known_store : (P : Stored → Type 0) (s : Stored) (knows : Bool) (k k' : Known) → Holds s k → OnlyReads k k' → IsTrue (knows_after knows k') → IfSome k'.tables P → P s
known_store P s knows k k' holds reads known at = found_store P s k k' k'.tables refl holds reads (second_true knows (is_some k'.tables) known) at

-- the status of an answer is that of a text
answered_by : (q : Question) (tables : Option Stored) (n : ℕ) → HasStatus q tables n → IsAnswered n
answered_by q tables n (inl e) = inl e
answered_by q tables n (inr (inl e)) = inr (inr (inr (inr e)))
answered_by q tables n (inr (inr e)) = inr (inl e.0)

-- the answer of a keeper whose tables are known at the end
pub answer_follows : (q : Question) (s : Stored) (knows : Bool) (k k' : Known) (text : List ℕ) (n status w w' : ℕ) (e e' : Seen) → Holds s k → OnlyReads k k' → IsTrue (knows_after knows k')
    → IfSome k'.tables (λ store. question_plan q store ≡ after_opening (telling text n)) → HasStatus q k'.tables n → Tells text n status (side e w) (side e' w') → e'.ran ≡ e.ran
    → LeavesAsKeeper e'.knows_left e'.left k' → FollowsOn (λ xs. question_plan q s) s status e e'
answer_follows q s knows k k' text n status w w' e e' holds reads known is has t ran same =
    let plan = known_store (λ store. question_plan q store ≡ after_opening (telling text n)) s knows k k' holds reads known is in
    told_follows q s text n status w w' e e' (prints_of (question_plan q s) text n plan (answered_by q k'.tables n has)) t ran (leaves_store s k k' e' holds reads same)

-- a claim about what is held, if that is known
pub if_held : (o : Option (List ℕ → Stored)) (P : (List ℕ → Stored) → Type 0) → ((held : List ℕ → Stored) → o ≡ Some held → P held) → IfSome o P
if_held None P f = tt
if_held (Some held) P f = f held refl

-- such a claim at what is held
pub held_at : (o : Option (List ℕ → Stored)) (P : (List ℕ → Stored) → Type 0) (held : List ℕ → Stored) → o ≡ Some held → IfSome o P → P held
held_at o P held is at = rw is at at
