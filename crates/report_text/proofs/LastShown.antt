-- What the lines of a version show.
use Rattle.std.proofs.Common.{◌≡◌, ℕ, zero, suc, ◌+◌, ◌<◌, Bool, true, false, List, [], ◌∷◌, length, Option, Some, None, refl, ap, subst, ◌∙◌, arith}
use Rattle.std.specs.Prelude.{◌==◌, if◌then◌else◌, slice_get}
use Rattle.value_core.specs.declared.state.State.{State}
use Rattle.value_core.specs.Codes.{state_code}
use Rattle.value_core.specs.Same.{same}
use Rattle.value_core.proofs.Sames.{same_true}
use Rattle.std.proofs.lemmas.Bool.Decides.{nat_tests}
use Rattle.core_rules.specs.Replies.{changed_from}
use Rattle.report_text.specs.LastShown.{last_shown, ShowsAll}

-- ---- the state that was last shown

-- a line of another node, and a line of the node
passes : (c : ℕ × State) (known : Option State) (node : ℕ) (cs : List (ℕ × State)) → (c.0 == node) ≡ false → last_shown known node (c ∷ cs) ≡ last_shown known node cs
passes c known node cs e = ap (λ (b : Bool). last_shown (if b then Some c.1 else known) node cs) e

takes : (c : ℕ × State) (known : Option State) (node : ℕ) (cs : List (ℕ × State)) → (c.0 == node) ≡ true → last_shown known node (c ∷ cs) ≡ last_shown (Some c.1) node cs
takes c known node cs e = ap (λ (b : Bool). last_shown (if b then Some c.1 else known) node cs) e

is_apart : (a b : ℕ) → b < a → (a == b) ≡ false
is_apart a b above = grind (arith, nat_tests, above)

is_same : (a : ℕ) → (a == a) ≡ true
is_same a = grind (arith, nat_tests)

-- what a line or none shows of an earlier node
skips : (b : Bool) (s : State) (known : Option State) (node at : ℕ) (cs : List (ℕ × State)) → node < at → last_shown known node (if b then cs else (at, s) ∷ cs) ≡ last_shown known node cs
skips true s known node at cs below = refl
skips false s known node at cs below = passes (at, s) known node cs (is_apart at node below)

-- lines of later nodes show nothing of a node
others : (known : Option State) (node at : ℕ) (before ss : List State) → node < at → last_shown known node (changed_from at before ss) ≡ known
others known node at before [] below = refl
others known node at [] (s ∷ ss) below = passes (at, s) known node (changed_from (at + 1) [] ss) (is_apart at node below) ∙ others known node (at + 1) [] ss (omega (arith, below))
others known node at (b ∷ before) (s ∷ ss) below = skips (same state_code b s) s known node at (changed_from (at + 1) before ss) below ∙ others known node (at + 1) before ss (omega (arith, below))

-- the node's own line, or none where its state is the one shown
first : (b : Bool) (shown s : State) (at : ℕ) (before ss : List State) → same state_code shown s ≡ b
    → last_shown (Some shown) at (if b then changed_from (at + 1) before ss else (at, s) ∷ changed_from (at + 1) before ss) ≡ Some s
first true shown s at before ss is = others (Some shown) at (at + 1) before ss (omega arith) ∙ ap (λ (u : State). Some u) (same_true state_code shown s is)
first false shown s at before ss is = takes (at, s) (Some shown) at (changed_from (at + 1) before ss) (is_same at) ∙ others (Some s) at (at + 1) before ss (omega arith)

-- what a line or none shows of a later node
later : (b : Bool) (s : State) (known : Option State) (at node : ℕ) (cs : List (ℕ × State)) → at < node → last_shown known node (if b then cs else (at, s) ∷ cs) ≡ last_shown known node cs
later true s known at node cs above = refl
later false s known at node cs above = passes (at, s) known node cs (grind (arith, nat_tests, above))

shows_from : (at k : ℕ) (before ss : List State) → k < length ss → last_shown (slice_get before k) (at + k) (changed_from at before ss) ≡ slice_get ss k
shows_from at k before [] within = absurd (omega (arith, within))
shows_from at zero [] (s ∷ ss) within = let here : at + 0 ≡ at = omega arith in rw here (takes (at, s) None at (changed_from (at + 1) [] ss) (is_same at) ∙ others (Some s) at (at + 1) [] ss (omega arith))
shows_from at zero (b ∷ before) (s ∷ ss) within = let here : at + 0 ≡ at = omega arith in rw here (first (same state_code b s) b s at before ss refl)
shows_from at (suc k) [] (s ∷ ss) within =
    let next : at + suc k ≡ (at + 1) + k = omega arith in
    rw next (passes (at, s) None ((at + 1) + k) (changed_from (at + 1) [] ss) (grind (arith, nat_tests)) ∙ shows_from (at + 1) k [] ss (omega (arith, within)))
shows_from at (suc k) (b ∷ before) (s ∷ ss) within =
    let next : at + suc k ≡ (at + 1) + k = omega arith in
    rw next (later (same state_code b s) s (slice_get before k) at ((at + 1) + k) (changed_from (at + 1) before ss) (omega arith) ∙ shows_from (at + 1) k before ss (omega (arith, within)))

pub shows_all : ShowsAll
shows_all before states node within = let start : 0 + node ≡ node = omega arith in subst (λ (n : ℕ). last_shown (slice_get before node) n (changed_from 0 before states) ≡ slice_get states node) start (shows_from 0 node before states within)
