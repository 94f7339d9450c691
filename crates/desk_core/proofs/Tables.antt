-- What a desk's calls make of its keeper's tables, put together of the keeper's calls.
use Rattle.std.proofs.Common.{◌≡◌, ◌⊎◌, inl, inr, ◌^◌, ℕ, pos, Bool, true, false, cond, ◌&&◌, List, [], ◌∷◌, Option, Some, None, refl, ap, sym, ◌∙◌, subst}
use Rattle.std.specs.Prelude.{IfSome}
use Rattle.op_keys.specs.declared.level.Level.{Level}
use Rattle.term_core.specs.declared.program.Program.{Program}
use Rattle.core_rules.specs.Core.{CoreState}
use Rattle.core_rules.specs.Openings.{Durable, opening_reply, start}
use Rattle.core_rules.specs.declared.done.Done.{Done}
use Rattle.keeper_core.specs.Chains.{HoldsState, durable_in}
use Rattle.keeper_core.specs.Commits.{with_delta}
use Rattle.keeper_core.specs.Contents.{Contents, has_format, loaded, meta_rows}
use Rattle.keeper_core.specs.Durables.{durable_of}
use Rattle.keeper_core.specs.EitherSchema.{committed, loaded_of}
use Rattle.keeper_core.specs.KeeperCalls.{BecomesBy, Known, LeavesEither, LeavesNoMore, LeavesSame, Stays}
use Rattle.keeper_core.specs.Laws.{IsWellFormed}
use Rattle.keeper_core.specs.WellFormed.{first_bad, is_meta, is_within}
use Rattle.keeper_core.specs.declared.stored.Stored.{Stored}
use Rattle.keeper_core.specs.declared.stored.Stored.TheVariants.{Current, Old}
use Rattle.keeper_core.specs.declared.tables.MetaRow.{MetaRow}
use Rattle.keeper_core.specs.declared.tables.Table.TheVariants as table
use Rattle.keeper_core.specs.declared.tables.Tables.{Tables}
use Rattle.keeper_core.proofs.ChainLaws.{openings_are_held}
use Rattle.engine_core.specs.Answers.{IsOpening}
use Rattle.desk_core.specs.Desk.{HoldsCore, IsReadFrom, opened_by, opened_tables, start_in, with_start}

-- ---- what may be known

pub at_some : {A : Type 0} (P : A → Type 0) (o : Option A) (x : A) → IfSome o P → o ≡ Some x → P x
at_some {A = A} P o x h e = subst (λ (q : Option A). IfSome q P) e h

pub each_some : {A : Type 0} (P : A → Type 0) (o : Option A) → ((x : A) → o ≡ Some x → P x) → IfSome o P
each_some P None f = tt
each_some P (Some x) f = f x refl

-- ---- one call after another

pub stays_then : (a b c : Known) → Stays a b → Stays b c → Stays a c
stays_then a b c h k = each_some (λ (s : Stored). a.tables ≡ Some s) c.tables (λ s e. at_some (λ (s : Stored). a.tables ≡ Some s) b.tables s h (at_some (λ (s : Stored). b.tables ≡ Some s) c.tables s k e))

pub no_more_then : (a b c : Known) → LeavesNoMore a b → LeavesNoMore b c → LeavesNoMore a c
no_more_then a b c h k x e = h x (k x e)

pub same_no_more : (a b : Known) → LeavesSame a b → LeavesNoMore a b
same_no_more a b h x = (h x).0

-- changes that make the same of what is there
abbrev pub AgreeOn : (Stored → Stored) → (Stored → Stored) → Known → Type 0
AgreeOn f g k = IfSome k.tables (λ s. f s ≡ g s)

pub becomes_then : (f g : Stored → Stored) (a b c : Known) → Stays a b → AgreeOn f g b → BecomesBy f b c → BecomesBy g a c
becomes_then f g a b c h agree k = each_some (λ (s : Stored). (was : Stored) × (a.tables ≡ Some was) × (s ≡ g was)) c.tables (λ s e.
    let made = at_some (λ (s : Stored). (was : Stored) × (b.tables ≡ Some was) × (s ≡ f was)) c.tables s k e in
    (made.0, at_some (λ (s : Stored). a.tables ≡ Some s) b.tables made.0 h made.1, made.2 ∙ at_some (λ (s : Stored). f s ≡ g s) b.tables made.0 agree made.1))

pub either_then : (f g : Stored → Stored) (a b c : Known) → Stays a b → LeavesNoMore a b → AgreeOn f g b → LeavesEither f b c → LeavesEither g a c
either_then f g a b c h more agree k x e = elim (k x e) [
  | inl was ↦ inl (more x was)
  | inr made ↦ inr (made.0, at_some (λ (s : Stored). a.tables ≡ Some s) b.tables made.0 h made.1, made.2 ∙ at_some (λ (s : Stored). f s ≡ g s) b.tables made.0 agree made.1)
]

pub kept_then : (f g : Stored → Stored) (a b c : Known) → Stays a b → AgreeOn f g b → Stays b c ⊎ BecomesBy f b c → Stays a c ⊎ BecomesBy g a c
kept_then f g a b c h agree (inl k) = inl (stays_then a b c h k)
kept_then f g a b c h agree (inr k) = inr (becomes_then f g a b c h agree k)

-- ---- what is read

no_meta : (ms : List MetaRow) → has_format (pos 2) ms ≡ false → is_meta (pos 2) ms ≡ false
no_meta [] e = refl
no_meta (m ∷ []) e = ap (λ b. b && is_within (pos 1) (pos (2 ^ 62)) m.next_job) e
no_meta (m ∷ n ∷ ms) e = refl

bad_meta : (ms : List MetaRow) → is_meta (pos 2) ms ≡ false → first_bad (meta_rows ms) ≡ Some (table.Meta, 1)
bad_meta ms e = rw e refl

old_read : (ms : List MetaRow) (t : Tables) (b : Bool) → has_format (pos 2) ms ≡ b → cond b None (Some (meta_rows ms)) ≡ Some t → first_bad t ≡ None → ⊥
old_read ms t true is e h = let z : ⊥ = cc in z
old_read ms t false is e h =
    let same : meta_rows ms ≡ t = cc in
    let bad : first_bad t ≡ Some (table.Meta, 1) = ap first_bad (sym same) ∙ bad_meta ms (no_meta ms is) in
    let z : ⊥ = cc in z

-- what was loaded and is well formed was of the second schema
pub read_from : (s : Stored) (t : Tables) (d : Durable) → loaded_of s ≡ Some t → first_bad t ≡ None → d ≡ durable_of t → IsReadFrom d s
read_from (Current c) t d e h is =
    let same : loaded c ≡ t = cc in
    record { contents = c; is = refl; well_formed = ap first_bad same ∙ h; durable = is ∙ ap durable_of (sym same) }
read_from (Old o) t d e h is = absurd (old_read o.meta t (has_format (pos 2) o.meta) refl e h)

-- ---- the commit of an opening

commit_by : (opens : Durable → Option CoreState) (d : Durable) (s : CoreState) (done : Done) (x : Stored) (c : Contents) → x ≡ Current c → IsWellFormed c → d ≡ durable_in c → opens d ≡ Some s → done ≡ opening_reply s → committed done.delta x ≡ opened_tables opens x
commit_by opens d s done x c is well read opened reply =
    ap (committed done.delta) is
    ∙ ap (λ (r : Done). Current (with_delta r.delta c)) reply
    ∙ sym (ap (λ o. with_start o c) (ap opens (sym read) ∙ opened))
    ∙ sym (ap (opened_by opens c) well)
    ∙ sym (ap (opened_tables opens) is)

-- it is the change that an opening makes of what it was read from
pub opening_commits : (opens : Durable → Option CoreState) (d : Durable) (s : CoreState) (done : Done) (k : Known) → IfSome k.tables (IsReadFrom d) → IsOpening (opens d) s done → AgreeOn (committed done.delta) (opened_tables opens) k
opening_commits opens d s done k read o = each_some (λ (x : Stored). committed done.delta x ≡ opened_tables opens x) k.tables (λ x e.
    let r = at_some (IsReadFrom d) k.tables x read e in
    commit_by opens d s done x r.contents r.is r.well_formed r.durable o.state o.reply)

holds_by : (program : Program) (threshold : Option Level) (reading : ℕ) (d : Durable) (s : CoreState) (done : Done) (x y : Stored) → IsReadFrom d x → IsOpening (start program d threshold reading) s done → y ≡ committed done.delta x → HoldsCore s y
holds_by program threshold reading d s done x y r o is =
    let held : HoldsState s (with_delta (opening_reply s).delta r.contents) =
    openings_are_held program threshold reading r.contents s r.well_formed (ap (λ (e : Durable). start program e threshold reading) (sym r.durable) ∙ o.state) in
    subst (HoldsCore s) (sym (is ∙ ap (committed done.delta) r.is ∙ ap (λ (q : Done). Current (with_delta q.delta r.contents)) o.reply)) held

-- after it the tables hold the opened state
pub opening_holds : (program : Program) (threshold : Option Level) (reading : ℕ) (d : Durable) (s : CoreState) (done : Done) (b c : Known) → IfSome b.tables (IsReadFrom d) → IsOpening (start_in program threshold reading d) s done → BecomesBy (committed done.delta) b c →
    IfSome c.tables (HoldsCore s)
opening_holds program threshold reading d s done b c read o k = each_some (HoldsCore s) c.tables (λ y e.
    let made = at_some (λ (y : Stored). (was : Stored) × (b.tables ≡ Some was) × (y ≡ committed done.delta was)) c.tables y k e in
    holds_by program threshold reading d s done made.0 y (at_some (IsReadFrom d) b.tables made.0 read made.1) o made.2)

-- what was loaded before the commit was read from the tables before
pub opening_read : (f : Stored → Stored) (d : Durable) (a b c : Known) → Stays a b → IfSome b.tables (IsReadFrom d) → BecomesBy f b c → IfSome c.tables (λ _. IfSome a.tables (IsReadFrom d))
opening_read f d a b c h read k = each_some (λ (_ : Stored). IfSome a.tables (IsReadFrom d)) c.tables (λ y e.
    let made = at_some (λ (y : Stored). (was : Stored) × (b.tables ≡ Some was) × (y ≡ f was)) c.tables y k e in
    subst (λ (o : Option Stored). IfSome o (IsReadFrom d)) (sym (at_some (λ (s : Stored). a.tables ≡ Some s) b.tables made.0 h made.1)) (at_some (IsReadFrom d) b.tables made.0 read made.1))
