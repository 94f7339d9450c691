-- How a migration is done.
use Rattle.std.proofs.Common.{◌≡◌, ℕ, List, refl, sym, ap, subst, ◌∙◌, arith, inl, inr}
use Rattle.std.specs.Prelude.{◌≢◌, Bool, if◌then◌else◌, IsTrue, IfOk, is_some, length, Option, Some, None, Result, Ok, Err, codes}
use Rattle.std.specs.FinMap.{entries}
use Rattle.std.specs.declared.alloc.AllocError.{AllocError}
use Rattle.value_core.proofs.Basics.{some_is}
use Rattle.io_ends.specs.Causes.{SinkSide}
use Rattle.keeper_core.specs.declared.keeper.MigrateFault.TheVariants.{BadRow}
use Rattle.keeper_core.specs.declared.keeper.Migrated.{Migrated}
use Rattle.keeper_core.specs.declared.keeper.Migrated.TheVariants.{Rows, Already}
use Rattle.keeper_core.specs.declared.stored.Stored.{Stored}
use Rattle.keeper_core.specs.declared.stored.Stored.TheVariants.{Current, Old}
use Rattle.keeper_core.specs.declared.tables.Table.{Table}
use Rattle.keeper_core.specs.declared.tables.Table.TheVariants as table
use Rattle.keeper_core.specs.EitherSchema.{first_unmovable, is_current, migrated}
use Rattle.keeper_core.specs.KeeperCalls.{HasMoved, Holds, Known, LeavesAsKeeper, LeavesEither, Migrates, knows_after}
use Rattle.session_rules.specs.Commands.{Plan, by_row, migrate_plan, moved_line, moved_plan, telling}
use Rattle.session_rules.specs.Runs.{Follows, LeavesNoMore, Seen}
use Rattle.session_rules.specs.StoreTexts.{bad_row_line}
use Rattle.session_rules.proofs.Growing.{if_some_at}
use Rattle.store_reports.specs.Causes.{Tells, TellsMade, TellsOrNot}
use Rattle.store_reports.specs.Migrating.{LeavesMoved, moved_text}
use Rattle.store_reports.proofs.Plans.{OneText}
use Rattle.store_reports.proofs.Reported.{IsLoss, high, low, no, second_true}
use Rattle.store_reports.proofs.Told.{IsAnswered, Prints, side, stopped_text, told_or_not}

-- ---- the plan of a migration

plan_is : (s : Stored) (o : Option (Table × ℕ)) → first_unmovable s ≡ o → migrate_plan s ≡ by_row o (moved_plan s)
plan_is s o e = ap (λ (x : Option (Table × ℕ)). by_row x (moved_plan s)) e

prints_by : (p : Plan) (text : List ℕ) (n : ℕ) → p ≡ telling text n → IsAnswered n → Prints p text n
prints_by p text n is answered = record { outputs = ap (λ (q : Plan). q.outputs) is; status = ap (λ (q : Plan). q.status) is; answered = answered }

-- it prints one text
moved_small : (s : Stored) (p : Plan) → p ≡ moved_plan s → OneText p
moved_small (Current t) p is = record { text = codes "already schema 2\n"; status = 0; prints = prints_by p (codes "already schema 2\n") 0 is (inl refl) }
moved_small (Old t) p is = record { text = moved_line (length (entries t.cache)); status = 0; prints = prints_by p (moved_line (length (entries t.cache))) 0 is (inl refl) }

bad_prints : (s : Stored) (bad : Table × ℕ) → first_unmovable s ≡ Some bad → Prints (migrate_plan s) (bad_row_line bad) 9
bad_prints s bad e = prints_by (migrate_plan s) (bad_row_line bad) 9 (plan_is s (Some bad) e) (inr (inr (inr (inr refl))))

row_small : (s : Stored) (o : Option (Table × ℕ)) → first_unmovable s ≡ o → OneText (migrate_plan s)
row_small s (Some bad) e = record { text = bad_row_line bad; status = 9; prints = bad_prints s bad e }
row_small s None e = moved_small s (migrate_plan s) (plan_is s None e)

migrate_small : (s : Stored) → OneText (migrate_plan s)
migrate_small s = row_small s (first_unmovable s) refl

-- ---- nothing was printed

stopped_follows : (s : Stored) (status : ℕ) (e e' : Seen) → IsLoss status → e'.written ≡ e.written → e'.ran ≡ e.ran → Follows (λ xs. migrate_plan s) status e e'
stopped_follows s status e e' loss written ran =
    let one = migrate_small s in
    (stopped_text (migrate_plan s) one.text one.status status e e' one.prints (low status loss) (high status loss) written ran).follows

loss_fails : (status : ℕ) → IsLoss status → status ≢ 0
loss_fails status (inl e) zero = omega (arith, e, zero)
loss_fails status (inr e) zero = omega (arith, e, zero)

loss_no_row : (status : ℕ) → IsLoss status → status ≢ 9
loss_no_row status (inl e) nine = omega (arith, e, nine)
loss_no_row status (inr e) nine = omega (arith, e, nine)

-- no keeper was opened
pub unopened : (s : Stored) (status : ℕ) (e e' : Seen) → IsLoss status → e'.written ≡ e.written → e'.ran ≡ e.ran → LeavesNoMore e e' → Follows (λ xs. migrate_plan s) status e e' × LeavesMoved s status e e'
unopened s status e e' loss written ran less = (stopped_follows s status e e' loss written ran, inr (loss_fails status loss, less))

-- a keeper failed, or memory ran out: the tables may have been moved
pub unmoved : (s : Stored) (status : ℕ) (k k' : Known) (e e' : Seen) → IsLoss status → e'.written ≡ e.written → e'.ran ≡ e.ran → Holds s k → LeavesEither migrated k k' → LeavesAsKeeper e'.knows_left e'.left k'
    → Follows (λ xs. migrate_plan s) status e e' × LeavesMoved s status e e'
unmoved s status k k' e e' loss written ran holds either same = (
  stopped_follows s status e e' loss written ran,
  inl (λ known x left. elim (either x ((same known x).0 left)) [
    | inl before ↦ inr ((holds.left x).0 before, λ zero. absurd (loss_fails status loss zero))
    | inr with ↦ inl (with.2 ∙ ap migrated (some_is with.0 s (sym with.1 ∙ holds.tables)), loss_no_row status loss)
  ]),
)

-- ---- a text was printed, or a front of it, or none was made

pub made_tells : (made : Result (List ℕ) AllocError) (text : List ℕ) (n status : ℕ) (old new : SinkSide) → IfOk made (λ t. t ≡ text) → TellsMade made n status old new → TellsOrNot text n status old new
made_tells (Ok t) text n status old new is tells = inl (subst (λ (x : List ℕ). Tells x n status old new) is tells)
made_tells (Err fault) text n status old new is tells = inr tells

done_no_row : (text : List ℕ) (status : ℕ) (old new : SinkSide) → TellsOrNot text 0 status old new → status ≢ 9
done_no_row text status old new (inl (inl t)) nine = omega (arith, t.0, nine)
done_no_row text status old new (inl (inr t)) nine = omega (arith, t.0, nine)
done_no_row text status old new (inr t) nine = omega (arith, t.0, nine)

row_fails : (text : List ℕ) (status : ℕ) (old new : SinkSide) → TellsOrNot text 9 status old new → status ≢ 0
row_fails text status old new (inl (inl t)) zero = omega (arith, t.0, zero)
row_fails text status old new (inl (inr t)) zero = omega (arith, t.0, zero)
row_fails text status old new (inr t) zero = omega (arith, t.0, zero)

-- ---- what was moved

-- the tables of a keeper that are known at the end
found : (o : Option Stored) → IsTrue (is_some o) → (x : Stored) × (o ≡ Some x)
found None some = absurd (no some)
found (Some x) some = (x, refl)

-- the plan printed this, and a stop leaves what was moved
record Moved (s : Stored) (moved : Migrated) (now : Known) : Type 0 where
  plan : migrate_plan s ≡ telling (moved_text moved) 0
  left : (x : Stored) → now.after_stop x → x ≡ migrated s

rows_moved : (n : ℕ) (s x : Stored) (k k' : Known) → Holds s k → k'.tables ≡ Some x → Migrates k k' (Ok (Rows n)) → Moved s (Rows n) k'
rows_moved n s x k k' holds at moves =
    let has = if_some_at k'.tables (HasMoved n k.tables) x moves.0 at in
    let old : s ≡ Old has.old = some_is s (Old has.old) (sym holds.tables ∙ has.was) in
    let sure = if_some_at k'.tables _ x moves.1 at in
    record {
      plan = plan_is s None (subst (λ (y : Stored). first_unmovable y ≡ None) (sym old) has.sound) ∙ ap moved_plan old ∙ ap (λ (m : ℕ). telling (moved_line m) 0) (sym has.results);
      left = λ y left. (sure y).0 left ∙ has.moved ∙ sym (ap migrated old);
    }

current_plan : (s : Stored) → IsTrue (is_current s) → (migrate_plan s ≡ telling (codes "already schema 2\n") 0) × (migrated s ≡ s)
current_plan (Current t) current = (plan_is (Current t) None (ap (λ (b : Bool). if b then None else Some (table.Meta, 1)) current), refl)
current_plan (Old t) current = absurd (no current)

already_moved : (s x : Stored) (k k' : Known) → Holds s k → k'.tables ≡ Some x → Migrates k k' (Ok Already) → Moved s Already k'
already_moved s x k k' holds at moves =
    let has = if_some_at k'.tables (λ (y : Stored). (k.tables ≡ Some y) × IsTrue (is_current y)) x moves.0 at in
    let same : x ≡ s = some_is x s (sym has.0 ∙ holds.tables) in
    let plan = current_plan s (subst (λ (y : Stored). IsTrue (is_current y)) same has.1) in
    let sure = if_some_at k'.tables _ x moves.1 at in
    record { plan = plan.0; left = λ y left. (sure y).0 left ∙ same ∙ sym plan.1 }

all_moved : (moved : Migrated) (s x : Stored) (k k' : Known) → Holds s k → k'.tables ≡ Some x → Migrates k k' (Ok moved) → Moved s moved k'
all_moved (Rows n) s x k k' holds at moves = rows_moved n s x k k' holds at moves
all_moved Already s x k k' holds at moves = already_moved s x k k' holds at moves

pub moved_migration : (s : Stored) (moved : Migrated) (knows : Bool) (k k' : Known) (status w w' : ℕ) (e e' : Seen) → Holds s k → Migrates k k' (Ok moved) → IsTrue (knows_after knows k')
    → TellsOrNot (moved_text moved) 0 status (side e w) (side e' w') → e'.ran ≡ e.ran → LeavesAsKeeper e'.knows_left e'.left k' → Follows (λ xs. migrate_plan s) status e e' × LeavesMoved s status e e'
moved_migration s moved knows k k' status w w' e e' holds moves known tells ran same =
    let at = found k'.tables (second_true knows (is_some k'.tables) known) in
    let m = all_moved moved s at.0 k k' holds at.1 moves in (
      (told_or_not (migrate_plan s) (moved_text moved) 0 status w w' e e' (prints_by (migrate_plan s) (moved_text moved) 0 m.plan (inl refl)) tells ran).follows,
      inl (λ knows_left x left. inl (m.left x ((same knows_left x).0 left), done_no_row (moved_text moved) status (side e w) (side e' w') tells)),
    )

-- ---- a row isn't well formed

pub bad_migration : (s : Stored) (t : Table) (n : ℕ) (knows : Bool) (k k' : Known) (status w w' : ℕ) (e e' : Seen) → Holds s k → Migrates k k' (Err (BadRow t n)) → IsTrue (knows_after knows k')
    → TellsOrNot (bad_row_line (t, n)) 9 status (side e w) (side e' w') → e'.ran ≡ e.ran → LeavesAsKeeper e'.knows_left e'.left k' → Follows (λ xs. migrate_plan s) status e e' × LeavesMoved s status e e'
bad_migration s t n knows k k' status w w' e e' holds moves known tells ran same =
    let at = found k'.tables (second_true knows (is_some k'.tables) known) in
    let has = if_some_at k'.tables (λ (y : Stored). (k.tables ≡ Some y) × (first_unmovable y ≡ Some (t, n))) at.0 moves.0 at.1 in
    let bad = subst (λ (y : Stored). first_unmovable y ≡ Some (t, n)) (some_is at.0 s (sym has.0 ∙ holds.tables)) has.1 in (
      (told_or_not (migrate_plan s) (bad_row_line (t, n)) 9 status w w' e e' (bad_prints s (t, n) bad) tells ran).follows,
      inl (λ knows_left x left. inr ((holds.left x).0 ((moves.1 x).0 ((same knows_left x).0 left)), λ zero. absurd (row_fails (bad_row_line (t, n)) status (side e w) (side e' w') tells zero))),
    )
