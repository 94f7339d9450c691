-- Plans that print one text at most, and how far they were followed.
use Rattle.std.proofs.Common.{◌≡◌, ℕ, ◌≤◌, List, [], ◌∷◌, ◌++◌, take, drop, refl, sym, ap, subst, ◌∙◌, arith, inl, inr}
use Rattle.std.specs.Prelude.{◌⊎◌, IsTrue}
use Rattle.std.specs.Io.KnownBytes.{Appends}
use Rattle.std.proofs.lemmas.List.{append-nil, take-append-drop}
use Rattle.io_ends.specs.Causes.{SinkSide}
use Rattle.core_rules.specs.declared.done.Delta.{Delta}
use Rattle.keeper_core.specs.declared.stored.Stored.{Stored}
use Rattle.session_rules.specs.Commands.{Plan}
use Rattle.session_rules.specs.Outputs.{Print, deltas}
use Rattle.session_rules.specs.Runs.{Follows, FollowsOn, LeavesNoMore, LeavesOf, Seen}
use Rattle.session_rules.proofs.Doing.{part_none}
use Rattle.session_rules.proofs.Growing.{appends_none, appends_same, grows_none}
use Rattle.store_reports.specs.Causes.{Tells, TellsOrNot}

-- a plan was followed so far, and nothing was committed
pub record Quiet (p : Plan) (status : ℕ) (e e' : Seen) : Type 0 where
  pub follows : Follows (λ xs. p) status e e'
  pub none : deltas follows.done ≡ []
  pub no_more : follows.more ≡ []

-- over a store
pub quiet_on : (p : Plan) (s : Stored) (status : ℕ) (e e' : Seen) → Quiet p status e e' → LeavesOf s [] [] e' ⊎ LeavesNoMore e e' → (status ≡ p.status → IsTrue p.opens → LeavesOf s [] [] e')
    → FollowsOn (λ xs. p) s status e e'
quiet_on p s status e e' q leaves opened = record {
  follows = q.follows;
  leaves = elim leaves [
    | inl same ↦ inl (subst (λ (ds : List Delta). LeavesOf s ds q.follows.more e') (sym q.none) (subst (λ (ds : List Delta). LeavesOf s [] ds e') (sym q.no_more) same))
    | inr less ↦ inr (q.none, less)
  ];
  opened = λ same opens. subst (λ (ds : List Delta). LeavesOf s ds [] e') (sym q.none) (opened same opens);
}

-- a status of a plan that prints one text
abbrev pub IsAnswered : ℕ → Type 0
IsAnswered n = (n ≡ 0) ⊎ ((n ≡ 2) ⊎ ((n ≡ 3) ⊎ ((n ≡ 8) ⊎ (n ≡ 9))))

-- it is no fault's
pub no_fault : (n : ℕ) → IsAnswered n → 4 ≤ n → n ≤ 7 → ⊥
no_fault n (inl e) low high = omega (arith, e, low, high)
no_fault n (inr (inl e)) low high = omega (arith, e, low, high)
no_fault n (inr (inr (inl e))) low high = omega (arith, e, low, high)
no_fault n (inr (inr (inr (inl e)))) low high = omega (arith, e, low, high)
no_fault n (inr (inr (inr (inr e)))) low high = omega (arith, e, low, high)

-- the plan prints this text, and has this status
pub record Prints (p : Plan) (text : List ℕ) (n : ℕ) : Type 0 where
  pub outputs : p.outputs ≡ Print text ∷ []
  pub status : p.status ≡ n
  pub answered : IsAnswered n

-- what a sink shows of what is seen
abbrev pub side : Seen → ℕ → SinkSide
side e faults = record { written = e.written; faults = faults }

-- a fault before anything was written
pub stopped : (p : Plan) (status : ℕ) (e e' : Seen) → 4 ≤ status → status ≤ 7 → (status ≡ p.status → p.outputs ≡ []) → e'.written ≡ e.written → e'.ran ≡ e.ran → Quiet p status e e'
stopped p status e e' low high whole written ran = record {
  follows = record {
    done = [];
    left = p.outputs;
    text = [];
    more = [];
    split = refl;
    part = part_none p.outputs;
    wrote = rw written (appends_none e.written);
    ran = rw ran (grows_none e.ran);
    status_of = inr (low, high);
    whole = whole;
  };
  none = refl;
  no_more = refl;
}

pub stopped_text : (p : Plan) (text : List ℕ) (n status : ℕ) (e e' : Seen) → Prints p text n → 4 ≤ status → status ≤ 7 → e'.written ≡ e.written → e'.ran ≡ e.ran → Quiet p status e e'
stopped_text p text n status e e' prints low high written ran =
    stopped p status e e' low high (λ same. absurd (no_fault status (subst IsAnswered (sym (same ∙ prints.status)) prints.answered) low high)) written ran

-- the text was written
whole_text : (p : Plan) (text : List ℕ) (n : ℕ) (e e' : Seen) → Prints p text n → Appends e.written e'.written text → e'.ran ≡ e.ran → Quiet p n e e'
whole_text p text n e e' prints wrote ran = record {
  follows = record {
    done = Print text ∷ [];
    left = [];
    text = [];
    more = [];
    split = prints.outputs;
    part = (refl, refl);
    wrote = appends_same e.written e'.written text ((text ++ []) ++ []) wrote (sym (append-nil (text ++ []) ∙ append-nil text));
    ran = rw ran (grows_none e.ran);
    status_of = inl (sym prints.status);
    whole = λ same. refl;
  };
  none = refl;
  no_more = refl;
}

-- a front of it was
front_text : (p : Plan) (text : List ℕ) (n k : ℕ) (e e' : Seen) → Prints p text n → Appends e.written e'.written (take k text) → e'.ran ≡ e.ran → Quiet p 5 e e'
front_text p text n k e e' prints wrote ran = record {
  follows = record {
    done = [];
    left = Print text ∷ [];
    text = take k text;
    more = [];
    split = prints.outputs;
    part = ((drop k text, sym (take-append-drop k text)), refl);
    wrote = wrote;
    ran = rw ran (grows_none e.ran);
    status_of = inr (omega arith, omega arith);
    whole = λ same. absurd (no_fault 5 (subst IsAnswered (sym (same ∙ prints.status)) prints.answered) (omega arith) (omega arith));
  };
  none = refl;
  no_more = refl;
}

pub told : (p : Plan) (text : List ℕ) (n status w w' : ℕ) (e e' : Seen) → Prints p text n → Tells text n status (side e w) (side e' w') → e'.ran ≡ e.ran → Quiet p status e e'
told p text n status w w' e e' prints (inl t) ran = rw t.0 (whole_text p text n e e' prints t.1 ran)
told p text n status w w' e e' prints (inr t) ran = rw t.0 (front_text p text n t.1.0 e e' prints t.1.2 ran)

pub told_or_not : (p : Plan) (text : List ℕ) (n status w w' : ℕ) (e e' : Seen) → Prints p text n → TellsOrNot text n status (side e w) (side e' w') → e'.ran ≡ e.ran → Quiet p status e e'
told_or_not p text n status w w' e e' prints (inl t) ran = told p text n status w w' e e' prints t ran
told_or_not p text n status w w' e e' prints (inr t) ran =
    stopped_text p text n status e e' prints (omega (arith, t.0)) (omega (arith, t.0)) (ap (λ (x : SinkSide). x.written) t.1) ran
