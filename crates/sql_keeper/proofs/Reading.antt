-- What a query inside a transaction leaves of the connection.
use Rattle.std.proofs.Common.{◌≡◌, ◌⊎◌, inl, inr, ℕ, Bool, List, Option, None, Some, Result, Ok, Err, IfOk, OnErr, OnOk, sym, ap, subst, ◌∙◌}
use Rattle.sqlite.specs.Order.{Row}
use Rattle.sqlite.specs.Listing.{understood}
use Rattle.sqlite.specs.State.{FailsToQuery, FailsToShow, IsNotRun, IsTooLate, IsUnchanged, Shown, State}
use Rattle.sqlite.specs.declared.error.Error.{Error}
use Rattle.sqlite_resolve.specs.declared.compiled.Compiled.{Compiled}
use Rattle.sqlite_schema.specs.declared.command.Returning.{Returning}
use Rattle.sqlite.proofs.Callers.{IsPlain}
use Rattle.sql_keeper.specs.inside.Schemas.{schema_of}
use Rattle.sql_keeper.specs.inside.Databases.{IsStoreDatabase}
use Rattle.sql_keeper.specs.inside.Steps.{IsReadyFor, IsUndone, Stays}

-- a query that shows rows changes nothing
pub shown_same : (is_old : Bool) (old new : State) (sql : List ℕ) (params : Row) (rows : List Row) → IsStoreDatabase is_old old.now → IsPlain (understood (schema_of is_old) sql) → Shown sql params old new rows → IsUnchanged old new
unfolding Shown
shown_same is_old old new sql params rows database plain h =
    let known = sym h.1.is ∙ ap (λ s. understood s sql) database.schema in
    let bare = subst IsPlain (sym known) plain in
    let it = rw bare.0 at h.2 in
    it.3

pub stays : (is_old : Bool) (old new : State) → IsReadyFor is_old old → IsUnchanged old new → Stays is_old old new
stays is_old old new ready same = record {
  ready = record { is_open = same.0.is_open; database = subst (IsStoreDatabase is_old) (sym same.0.now_is) ready.database; inside = same.0.mode ∙ ready.inside };
  same = same.0.now_is;
  kept = same.0.committed_is;
}

show_undone : (old new : State) (sql : List ℕ) (c : Compiled) (params : Row) (e : Error) (what : Option Returning) → FailsToShow old new sql c params e what → IsUndone old new
show_undone old new sql c params e None h = inl h.3
show_undone old new sql c params e (Some what) h = elim h [ inl refused ↦ inl refused.1 | inr failed ↦ inr failed.3 ]

-- a query that fails changes nothing, or ends the transaction
pub query_undone : (sql : List ℕ) (params : Row) (old new : State) (e : Error) → FailsToQuery sql params old new e ⊎ IsTooLate sql params old new e → IsUndone old new
unfolding FailsToQuery IsNotRun
query_undone sql params old new e (inl (inl (inl unread))) = inl unread.1
query_undone sql params old new e (inl (inl (inr failed))) = inr failed.3
query_undone sql params old new e (inl (inr shown)) = show_undone old new sql shown.0 _ e _ shown.2
query_undone sql params old new e (inr late) = inl late.5

-- an answer of the same value
pub ok_same : {T : Type 0} (r : Result T Error) (a b : T) → a ≡ b → IfOk r (λ x. x ≡ a) → IfOk r (λ x. x ≡ b)
ok_same (Ok x) a b e h = h ∙ e
ok_same (Err x) a b e h = tt

pub ok_then : {T : Type 0} (r : Result T Error) (P Q : T → Type 0) → ((x : T) → P x → Q x) → IfOk r P → IfOk r Q
ok_then (Ok x) P Q f h = f x h
ok_then (Err x) P Q f h = tt

pub on_ok_then : {T : Type 0} (r : Result T Error) (P Q : Type 0) → (P → Q) → OnOk r P → OnOk r Q
on_ok_then (Ok x) P Q f h = f h
on_ok_then (Err x) P Q f h = tt

-- a fact, whatever was answered
pub on_ok : {T : Type 0} (r : Result T Error) (P : Type 0) → P → OnOk r P
on_ok (Ok x) P p = p
on_ok (Err x) P p = tt

pub on_err : {T : Type 0} (r : Result T Error) (P : Type 0) → P → OnErr r P
on_err (Ok x) P p = tt
on_err (Err x) P p = p
