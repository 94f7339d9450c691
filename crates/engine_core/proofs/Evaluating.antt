-- The evaluation of an edit, in the terms of the state.
use Rattle.std.proofs.Common.{◌≡◌, List, Result, Ok, Err, subst}
use Rattle.std.specs.Prelude.{IfErr, IfOk, IsErrAnd, OnOk}
use Rattle.value_core.specs.declared.value.Value.{Value}
use Rattle.term_core.specs.World.{World}
use Rattle.term_core.specs.declared.program.Program.{Program}
use Rattle.visit_rules.specs.Differences.{CoversChanges}
use Rattle.visit_rules.specs.declared.changes.Changes.{Changes}
use Rattle.visit_rules.specs.declared.visit.Visit.{Visit}

pub covers_along : (c : Changes) (p p' : Program) (vs vs' : List Visit) (xs xs' : List Value) (w w' : World) → p' ≡ p → vs' ≡ vs → xs' ≡ xs → w' ≡ w → CoversChanges p' vs' c xs' w' → CoversChanges p vs c xs w
covers_along c p p' vs vs' xs xs' w w' e f g h k =
    subst (λ (q : Program). CoversChanges q vs c xs w) e
    (subst (λ (us : List Visit). CoversChanges p' us c xs w) f
    (subst (λ (ys : List Value). CoversChanges p' vs' c ys w) g
    (subst (λ (v : World). CoversChanges p' vs' c xs' v) h k)))

pub both_ok : {A E : Type 0} (P Q R : A → Type 0) (r : Result A E) → ((x : A) → P x → Q x → R x) → IfOk r P → IfOk r Q → IfOk r R
both_ok P Q R (Ok x) f p q = f x p q
both_ok P Q R (Err e) f p q = tt

pub then_ok : {A E : Type 0} (r : Result A E) (P Q : Type 0) → (P → Q) → OnOk r P → OnOk r Q
then_ok (Ok x) P Q f p = f p
then_ok (Err e) P Q f p = tt

pub ok_so : {A E : Type 0} (P Q : A → Type 0) (r : Result A E) → ((x : A) → P x → Q x) → IfOk r P → IfOk r Q
ok_so P Q (Ok x) f p = f x p
ok_so P Q (Err e) f p = tt

pub err_so : {A E : Type 0} (P Q : E → Type 0) (r : Result A E) → ((e : E) → P e → Q e) → IfErr r P → IfErr r Q
err_so P Q (Ok x) f p = tt
err_so P Q (Err e) f p = f e p

-- at the exit of a `?` there is no value
pub failed_ok : {A E : Type 0} (P : A → Type 0) (Q : E → Type 0) (r : Result A E) → IsErrAnd r Q → IfOk r P
failed_ok P Q (Ok x) is = absurd is
failed_ok P Q (Err e) is = tt

pub failed_err : {A E : Type 0} (P Q : E → Type 0) (r : Result A E) → ((e : E) → P e → Q e) → IsErrAnd r P → IfErr r Q
failed_err P Q (Ok x) f is = absurd is
failed_err P Q (Err e) f is = f e is
