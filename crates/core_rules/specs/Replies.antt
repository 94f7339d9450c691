-- What is answered to an event that isn't refused.
use Rattle.std.specs.Prelude.{ℕ, ◌+◌, not, Bool, ◌&&◌, nat_lt, if◌then◌else◌, List, [], ◌∷◌, length, None, filter}
use Rattle.value_core.specs.declared.state.State.{State}
use Rattle.value_core.specs.declared.state.Triple.{Triple}
use Rattle.value_core.specs.Codes.{state_code}
use Rattle.value_core.specs.Same.{same}
use Rattle.core_rules.specs.declared.done.Delta.{Delta}
use Rattle.core_rules.specs.Settling.{on_key}
use Rattle.term_core.specs.Counts.{in_order}

-- the next number alone
abbrev pub next_alone : ℕ → Delta
next_alone next = record { input = None; put = None; void = None; log = None; next = next }

-- ---- changed nodes

-- the nodes whose state differs, in file order from a number on
abbrev pub changed_from : ℕ → List State → List State → List (ℕ × State)
changed_from at old [] = []
changed_from at [] (b ∷ bs) = (at, b) ∷ changed_from (at + 1) [] bs
changed_from at (a ∷ old) (b ∷ bs) = if same state_code a b then changed_from (at + 1) old bs else ((at, b) ∷ changed_from (at + 1) old bs)

-- ---- conflicts

-- whether an operation and key have two or more wanted values
abbrev pub conflicted : List Triple → ℕ → List ℕ → Bool
conflicted ws op key = nat_lt 1 (length (filter (on_key op key) (in_order ws)))

-- the operations and keys of some triples in order, each once
abbrev pub keys_of : List Triple → List (ℕ × List ℕ)
keys_of [] = []
keys_of (t ∷ ts) = if nat_lt 0 (length (filter (on_key t.op t.key) ts)) then keys_of ts else ((t.op, t.key) ∷ keys_of ts)

-- those that have two or more wanted values now and had fewer before, in order
abbrev pub new_conflicts : List Triple → List Triple → List (ℕ × List ℕ)
new_conflicts old new = filter (λ k. conflicted new k.0 k.1 && not (conflicted old k.0 k.1)) (keys_of (in_order new))

-- ---- signals

-- rising numbers with one more in its place
abbrev pub with_number : ℕ → List ℕ → List ℕ
with_number m [] = m ∷ []
with_number m (n ∷ ns) = if nat_lt m n then m ∷ n ∷ ns else n ∷ with_number m ns

-- rising numbers with some more, each in its place
abbrev pub with_numbers : List ℕ → List ℕ → List ℕ
with_numbers [] ns = ns
with_numbers (m ∷ ms) ns = with_number m (with_numbers ms ns)
