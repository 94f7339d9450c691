-- What is known of a keeper, from what a call says of the connection.
use Rattle.std.proofs.Common.{◌≡◌, inl, inr, ℕ, Bool, true, false, if◌then◌else◌, Some, None, IfSome, IsTrue, Result, Ok, Err, arith, refl, sym, ap, subst, ◌∙◌}
use Rattle.sqlite.specs.Tree.{Trees}
use Rattle.sqlite.specs.Store.{Ghosts}
use Rattle.sqlite.specs.View.{doubt}
use Rattle.sqlite.specs.Effect.{Database}
use Rattle.sqlite.specs.Held.{Held, state}
use Rattle.sqlite.specs.State.{State, HasCleanDisk, Survives}
use Rattle.sqlite_trees.proofs.Doubt.{no_doubt}
use Rattle.core_rules.specs.declared.done.Delta.{Delta}
use Rattle.keeper_core.specs.declared.keeper.KeepFault.{KeepFault}
use Rattle.keeper_core.specs.declared.keeper.KeepFault.TheVariants as keep
use Rattle.keeper_core.specs.declared.stored.Stored.{Stored}
use Rattle.keeper_core.specs.declared.stored.Stored.TheVariants.{Current, Old}
use Rattle.keeper_core.specs.Commits.{with_delta}
use Rattle.keeper_core.specs.Contents.{Contents, old_rows}
use Rattle.keeper_core.specs.WellFormed.{old_first_bad}
use Rattle.keeper_core.specs.declared.tables.Table.{Table}
use Rattle.keeper_core.specs.EitherSchema.{committed, first_unmovable, is_old, migrated}
use Rattle.keeper_core.specs.KeeperCalls as calls
use Rattle.sql_keeper.specs.Kept.{Kept, MayLeave, known_of, tables_of}
use Rattle.sql_keeper.specs.Rows.{contents, old_contents, stored, stored_as}
use Rattle.sql_keeper.specs.inside.Databases.{IsStoreDatabase}
use Rattle.sql_keeper.specs.inside.Keeping.{IsKept, unmigrated}
use Rattle.sql_keeper.specs.inside.Moving.{HasMovedAll, LeavesMoved, ShowsStill}
use Rattle.sql_keeper.specs.inside.Steps.{HasCommitted, LeavesEither}
use Rattle.sql_keeper.proofs.Stores.{stored_current, stored_is}

-- what the laws of the store say
pub record IsLawful (s : State) : Type 0 where
  pub clean : IsTrue s.is_open → HasCleanDisk s
  pub sure : IsTrue s.is_open → (db : Trees) → s.may_leave db → db ≡ s.committed.trees
  pub stays : IsTrue s.is_open → s.may_leave s.committed.trees

is_clean : (clean is_open : Bool) → (clean ≡ false → is_open ≡ false) → IsTrue is_open → doubt clean ≡ 0
is_clean true is_open shut opened = no_doubt true refl
is_clean false is_open shut opened = absurd (let e = shut refl in cc)

pub lawful : {S : Type 0} (g : Ghosts S) (h : Held S)
    → ((g.view h.store).is_clean ≡ false → (g.view h.store).is_open ≡ false)
    → ((db : Trees) → IsTrue (g.view h.store).is_open → g.recovers h.store db → db ≡ (g.view h.store).committed)
    → (IsTrue (g.view h.store).is_open → g.recovers h.store (g.view h.store).committed) → IsLawful (state g h)
lawful g h shut settled stays = record { clean = is_clean (g.view h.store).is_clean (g.view h.store).is_open shut; sure = λ o db r. settled db o r; stays = stays }

tables_some : (s : State) → IsTrue s.is_open → tables_of s ≡ Some (stored s.committed.trees)
tables_some s o = rw o

-- each fact on the tables has to hold if the connection is open
pub when_known : (s : State) (P : Stored → Type 0) → (IsTrue s.is_open → P (stored s.committed.trees)) → IfSome (tables_of s) P
when_known s P h = go s.is_open h
  where
    go : (b : Bool) → (b ≡ true → P (stored s.committed.trees)) → IfSome (if b then Some (stored s.committed.trees) else None) P
    go true k = k refl
    go false k = tt

module _ {S : Type 0} (g : Ghosts S) (old new : Kept S) (law : IsLawful (state g new.conn)) where
  abbrev was : State
  was = state g old.conn

  abbrev is : State
  is = state g new.conn

  -- the tables of the second schema before the call, with the delta
  with_it : (d : Delta) → IsKept g old → old.is_old ≡ false → HasCleanDisk was → IsTrue was.is_open → Current (with_delta d (contents was.now.trees)) ≡ committed d (stored was.committed.trees)
  with_it d kept current clean opened =
      let store = subst (λ b. IsStoreDatabase b was.now) current (kept.database clean opened) in
      ap (committed d) (sym (stored_current was.now store)) ∙ ap (λ (b : Database). committed d (stored b.trees)) (kept.settled clean opened)

  pub becomes : (d : Delta) → IsKept g old → old.is_old ≡ false → (HasCleanDisk is → HasCleanDisk was) → (HasCleanDisk is → HasCommitted (with_delta d) was is) → calls.BecomesBy (committed d) (known_of g old) (known_of g new)
  becomes d kept current before h = when_known is _ (λ opened.
      let clean = law.clean opened in
      let it = h clean in (
        stored was.committed.trees,
        tables_some was it.was_open,
        ap (λ (b : Database). stored b.trees) it.committed ∙ stored_current is.now it.database ∙ ap Current it.contents ∙ with_it d kept current (before clean) it.was_open,
      ))

  pub stays_known : (HasCleanDisk is → IsTrue is.is_open → IsTrue was.is_open × (is.committed ≡ was.committed)) → calls.Stays (known_of g old) (known_of g new)
  stays_known h = when_known is _ (λ opened.
      let it = h (law.clean opened) opened in tables_some was it.0 ∙ ap (λ (b : Database). Some (stored b.trees)) (sym it.1))

  -- a stop leaves just the tables
  pub is_sure : IsKept g new → IsLawful (state g new.last) → calls.IsSure (known_of g new)
  is_sure kept last = when_known is _ (λ opened x.
      let it = kept.last opened in (
        λ left. left.is ∙ ap (λ (t : Trees). stored t) (last.sure it.0 left.db left.left ∙ ap (λ (b : Database). b.trees) it.1),
        λ e. record {
          clean = last.clean it.0;
          db = (state g new.last).committed.trees;
          left = last.stays it.0;
          is = e ∙ ap (λ (b : Database). stored b.trees) (sym it.1);
        },
      ))

  -- the last commit is the one that was in progress
  pub either : (d : Delta) → IsKept g old → old.is_old ≡ false → new.last ≡ new.conn → (HasCleanDisk is → HasCleanDisk was) → (HasCleanDisk is → LeavesEither (with_delta d) was is) → calls.LeavesEither (committed d) (known_of g old) (known_of g new)
  either d kept current last before h x given =
      let left : MayLeave is x = subst (λ (c : Held S). MayLeave (state g c) x) last given in
      elim (h left.clean left.db left.left) [
        | inl same ↦ inl (subst (MayLeave (state g old.last)) (sym left.is) (kept.covered (before left.clean) left.db same))
        | inr after ↦ inr (stored was.committed.trees, tables_some was after.0, left.is ∙ after.1 ∙ with_it d kept current (before left.clean) after.0)
      ]

  -- the last commit is the one before
  pub same_last : new.last ≡ old.last → calls.LeavesSame (known_of g old) (known_of g new)
  same_last last x = (λ left. subst (λ (c : Held S). MayLeave (state g c) x) last left, λ left. subst (λ (c : Held S). MayLeave (state g c) x) (sym last) left)

module _ {S : Type 0} (g : Ghosts S) (old new : Kept S) where
  -- out of memory, nothing more may be left
  pub kept_spared : new.last ≡ old.last → new.is_old ≡ old.is_old → IsKept g old → IsLawful (state g new.conn) → new.conn.in_transaction ≡ false
      → (HasCleanDisk (state g new.conn) → HasCleanDisk (state g old.conn))
      → (HasCleanDisk (state g new.conn) → IsTrue (state g new.conn).is_open
      → IsTrue (state g old.conn).is_open × ((state g new.conn).now ≡ (state g old.conn).committed) × ((state g new.conn).committed ≡ (state g old.conn).committed))
      → (HasCleanDisk (state g new.conn) → (db : Trees) → (state g new.conn).may_leave db → (state g old.conn).may_leave db) → IsKept g new
  kept_spared last schema kept law idle before same spared = record {
    idle = idle;
    database = λ clean opened. let it = same clean opened in subst (λ b. IsStoreDatabase b (state g new.conn).now) (sym schema) (subst (IsStoreDatabase old.is_old) (kept.settled (before clean) it.0 ∙ sym it.1) (kept.database (before clean) it.0));
    settled = λ clean opened. let it = same clean opened in it.1 ∙ sym it.2;
    last = λ opened.
        let it = same (law.clean opened) opened in
        let was = kept.last it.0 in
        subst (λ (c : Held S). IsTrue (state g c).is_open × ((state g c).committed ≡ (state g new.conn).committed)) (sym last) (was.0, was.1 ∙ sym it.2);
    covered = λ clean db left. subst (λ (c : Held S). MayLeave (state g c) (stored db)) (sym last) (kept.covered (before clean) db (spared clean db left));
  }

  -- after a commit the connection is as the last commit left it
  pub kept_written : {change : Contents → Contents} → new.is_old ≡ false → IsLawful (state g new.conn) → new.last ≡ new.conn → new.conn.in_transaction ≡ false
      → (HasCleanDisk (state g new.conn) → HasCommitted change (state g old.conn) (state g new.conn)) → IsKept g new
  kept_written current law last idle h = record {
    idle = idle;
    database = λ clean opened. subst (λ b. IsStoreDatabase b (state g new.conn).now) (sym current) (h clean).database;
    settled = λ clean opened. sym (h clean).committed;
    last = λ opened. subst (λ (c : Held S). IsTrue (state g c).is_open × ((state g c).committed ≡ (state g new.conn).committed)) (sym last) (opened, refl);
    covered = λ clean db left. subst (λ (c : Held S). MayLeave (state g c) (stored db)) (sym last) (record { clean = clean; db = db; left = left; is = refl });
  }

-- tables of the second schema aren't refused as old ones
pub refuses_none : {S T : Type 0} (g : Ghosts S) (old : Kept S) (now : calls.Known) (r : Result T KeepFault) → IsKept g old → IsLawful (state g old.conn) → old.is_old ≡ false → calls.RefusesOld (known_of g old) now r
refuses_none g old now r kept law current = when_known (state g old.conn) _ (λ opened old_ones.
    let clean = law.clean opened in
    let store = subst (λ b. IsStoreDatabase b (state g old.conn).now) current (kept.database clean opened) in
    let is = ap (λ (b : Database). stored b.trees) (sym (kept.settled clean opened)) ∙ stored_current (state g old.conn).now store in
    absurd (let e : IsTrue (is_old (Current (contents (state g old.conn).now.trees))) = subst (λ s. IsTrue (is_old s)) is old_ones in cc))

-- a call that did nothing
pub stays_same : {S : Type 0} (g : Ghosts S) (k : Kept S) (now : calls.Known) → now.tables ≡ (known_of g k).tables → calls.Stays (known_of g k) now
stays_same g k now is = subst (λ o. IfSome o (λ s. tables_of (state g k.conn) ≡ Some s)) (sym is) (when_known (state g k.conn) _ (λ opened. tables_some (state g k.conn) opened))

-- ---- after a call that only read

-- what such a call says of the connection
pub record Reads (old new : State) : Type 0 where
  pub same : HasCleanDisk new → IsTrue new.is_open → IsTrue old.is_open × (new.now ≡ old.committed) × (new.committed ≡ old.committed)
  pub survives : Survives old new (λ _. ⊥)

module _ {S : Type 0} (g : Ghosts S) (old new : Kept S) (last : new.last ≡ old.last) (schema : new.is_old ≡ old.is_old) (kept : IsKept g old) (law : IsLawful (state g new.conn)) (reads : Reads (state g old.conn) (state g new.conn)) where
  before : HasCleanDisk (state g new.conn) → HasCleanDisk (state g old.conn)
  before clean = let s = reads.survives.clean in omega arith

  pub kept_still : new.conn.in_transaction ≡ false → IsKept g new
  kept_still idle = kept_spared g old new last schema kept law idle before reads.same
      (λ clean db left. elim (reads.survives.crash clean db left) [ inl was ↦ was | inr none ↦ absurd none ])

  pub knows_same : calls.Stays (known_of g old) (known_of g new)
  knows_same = stays_known g old new law (λ clean opened. let it = reads.same clean opened in (it.0, it.2))

  pub no_more : calls.LeavesNoMore (known_of g old) (known_of g new)
  no_more x left = (same_last g old new law last x).0 left

  pub reads_ok : {T : Type 0} (value : T) → new.conn.in_transaction ≡ false → IsLawful (state g new.last) → calls.ReadsOnly (known_of g old) (known_of g new) (Ok value)
  reads_ok value idle other = record { same = knows_same; no_more = no_more; sure = is_sure g old new law (kept_still idle) other; unsure = tt }

  pub reads_err : {T : Type 0} (e : KeepFault) → calls.ReadsOnly {T = T} (known_of g old) (known_of g new) (Err e)
  reads_err e = record { same = knows_same; no_more = no_more; sure = tt; unsure = same_last g old new law last }

  -- the tables that the call read are those of the last commit
  read_is : HasCleanDisk (state g new.conn) → IsTrue (state g new.conn).is_open → stored_as old.is_old (state g old.conn).now.trees ≡ stored (state g new.conn).committed.trees
  read_is clean opened =
      let it = reads.same clean opened in
      sym (stored_is old.is_old (state g old.conn).now (kept.database (before clean) it.0)) ∙ ap (λ (d : Database). stored d.trees) (kept.settled (before clean) it.0 ∙ sym it.2)

  pub shows : (P : Stored → Type 0) → (HasCleanDisk (state g new.conn) → P (stored_as old.is_old (state g old.conn).now.trees)) → IfSome (tables_of (state g new.conn)) P
  shows P h = when_known (state g new.conn) _ (λ opened. let clean = law.clean opened in subst P (read_is clean opened) (h clean))

  -- the tables are those before, and are as they were read
  pub knows_that : (P : Stored → Type 0) → (HasCleanDisk (state g new.conn) → P (stored_as old.is_old (state g old.conn).now.trees)) → IfSome (tables_of (state g new.conn)) (λ s. (tables_of (state g old.conn) ≡ Some s) × P s)
  knows_that P h = when_known (state g new.conn) _ (λ opened.
      let clean = law.clean opened in
      let it = reads.same clean opened in
      (tables_some (state g old.conn) it.0 ∙ ap (λ (d : Database). Some (stored d.trees)) (sym it.2), subst P (read_is clean opened) (h clean)))

  pub migrates_err : (e : KeepFault) → calls.Migrates (known_of g old) (known_of g new) (Err (unmigrated e))
  migrates_err keep.Fault = inl knows_same
  migrates_err keep.NoMemory = (knows_same, same_last g old new law last)

-- ---- after a migration

module _ {S : Type 0} (g : Ghosts S) (old new : Kept S) (law : IsLawful (state g new.conn)) (kept : IsKept g old) (old_ones : old.is_old ≡ true) (before : HasCleanDisk (state g new.conn) → HasCleanDisk (state g old.conn)) where
  -- the tables of the first schema from before
  old_is : HasCleanDisk (state g old.conn) → IsTrue (state g old.conn).is_open → stored (state g old.conn).committed.trees ≡ Old (old_contents (state g old.conn).now.trees)
  old_is clean opened =
      let store = subst (λ b. IsStoreDatabase b (state g old.conn).now) old_ones (kept.database clean opened) in
      ap (λ (b : Database). stored b.trees) (sym (kept.settled clean opened)) ∙ stored_is true (state g old.conn).now store

  pub moved_to : (n : ℕ) → (HasCleanDisk (state g new.conn) → HasMovedAll n (state g old.conn) (state g new.conn)) → IfSome (tables_of (state g new.conn)) (calls.HasMoved n (tables_of (state g old.conn)))
  moved_to n h = when_known (state g new.conn) _ (λ opened.
      let clean = law.clean opened in
      let it = h clean in
      record {
        old = old_contents (state g old.conn).now.trees;
        was = tables_some (state g old.conn) it.was_open ∙ ap Some (old_is (before clean) it.was_open);
        sound = it.sound;
        moved = ap (λ (b : Database). stored b.trees) it.committed ∙ it.shown;
        results = it.results;
      })

  pub kept_moved : (n : ℕ) → new.is_old ≡ false → new.last ≡ new.conn → new.conn.in_transaction ≡ false → (HasCleanDisk (state g new.conn) → HasMovedAll n (state g old.conn) (state g new.conn)) → IsKept g new
  kept_moved n current last idle h = record {
    idle = idle;
    database = λ clean opened. subst (λ b. IsStoreDatabase b (state g new.conn).now) (sym current) (h clean).database;
    settled = λ clean opened. sym (h clean).committed;
    last = λ opened. subst (λ (c : Held S). IsTrue (state g c).is_open × ((state g c).committed ≡ (state g new.conn).committed)) (sym last) (opened, refl);
    covered = λ clean db left. subst (λ (c : Held S). MayLeave (state g c) (stored db)) (sym last) (record { clean = clean; db = db; left = left; is = refl });
  }

  pub either_moved : new.last ≡ new.conn → (HasCleanDisk (state g new.conn) → LeavesMoved (state g old.conn) (state g new.conn)) → calls.LeavesEither migrated (known_of g old) (known_of g new)
  either_moved last h x given =
      let left : MayLeave (state g new.conn) x = subst (λ (c : Held S). MayLeave (state g c) x) last given in
      elim (h left.clean left.db left.left) [
        | inl same ↦ inl (subst (MayLeave (state g old.last)) (sym left.is) (kept.covered (before left.clean) left.db same))
        | inr after ↦ inr (stored (state g old.conn).committed.trees, tables_some (state g old.conn) after.0, left.is ∙ after.1 ∙ ap migrated (sym (old_is (before left.clean) after.0)))
      ]

  -- the first bad row of the tables, which are as before
  pub bad_row : (bad : Table × ℕ) → (HasCleanDisk (state g new.conn) → (old_first_bad (old_rows (old_contents (state g old.conn).now.trees)) ≡ Some bad) × ShowsStill (state g old.conn) (state g new.conn))
      → IfSome (tables_of (state g new.conn)) (λ s. (tables_of (state g old.conn) ≡ Some s) × (first_unmovable s ≡ Some bad))
  bad_row bad h = when_known (state g new.conn) _ (λ opened.
      let clean = law.clean opened in
      let it = h clean in
      let still = it.1 opened in
      let same : stored (state g old.conn).committed.trees ≡ stored (state g new.conn).committed.trees = ap (λ (b : Database). stored b.trees) (sym still.2) in (
        tables_some (state g old.conn) still.0 ∙ ap Some same,
        subst (λ s. first_unmovable s ≡ Some bad) (sym (old_is (before clean) still.0) ∙ same) it.0,
      ))
