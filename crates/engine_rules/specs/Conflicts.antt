-- The keys with two or more wanted values, from the wanted triples in order.
use Rattle.std.specs.Prelude.{◌≡◌, ◌≤◌, ℕ, Bool, true, false, ◌==◌, ◌&&◌, if◌then◌else◌, List, [], ◌∷◌, map}
use Rattle.std.specs.List.{AllByRecursion}
use Rattle.std.specs.Str.{bytes_eq}
use Rattle.std.specs.declared.cmp.Ordering.{Ordering}
use Rattle.std.specs.declared.cmp.Ordering.TheVariants.{Less}
use Rattle.std.specs.Ordering.{is_lt, nat_cmp, ordering_then}
use Rattle.value_core.specs.declared.state.Triple.{Triple}
use Rattle.value_core.specs.Orders.{bytes_cmp}
use Rattle.term_core.specs.Counts.{count_of}
use Rattle.core_rules.specs.Replies.{new_conflicts}
use Rattle.term_core.specs.Counts.{in_order}
use Rattle.value_core.specs.Orders.{triple_cmp}

-- an operation's number and a key
abbrev pub OpKey : Type 0
OpKey = ℕ × List ℕ

-- those of a triple
abbrev pub op_key : Triple → OpKey
op_key t = (t.op, t.key)

-- by the operation, then by the key's bytes
abbrev pub op_key_cmp : OpKey → OpKey → Ordering
op_key_cmp a b = ordering_then (nat_cmp a.0 b.0) (bytes_cmp a.1 b.1)

-- the wanted triples in order, each once, with the number of its references
abbrev pub counted : List Triple → List (Triple × ℕ)
counted ws = map (λ t. (t, count_of ws t)) (in_order ws)

-- the triples of such a list
abbrev pub triples_of : List (Triple × ℕ) → List Triple
triples_of cs = map (λ c. c.0) cs

-- triples that rise, each once
abbrev pub InOrder : List Triple → Type 0
InOrder [] = Unit {0}
InOrder (t ∷ ts) = AllByRecursion (λ u. triple_cmp t u ≡ Less) ts × InOrder ts

-- counted triples that are the wanted ones in order, each wanted once at least
pub record AreCounted (ws : List Triple) (cs : List (Triple × ℕ)) : Type 0 where
  pub triples : triples_of cs ≡ in_order ws
  pub rising : InOrder (triples_of cs)
  pub counts : AllByRecursion (λ (c : Triple × ℕ). 1 ≤ c.1) cs

-- ---- keys that come twice

-- whether two are the same
abbrev pub same_key : OpKey → OpKey → Bool
same_key k l = l.0 == k.0 && bytes_eq l.1 k.1

-- whether some keys begin with this one
abbrev pub begins : OpKey → List OpKey → Bool
begins k [] = false
begins k (l ∷ ls) = same_key k l

-- those of keys in order that come twice or more, each once; the flag says whether the first comes before too
abbrev pub doubled_from : Bool → List OpKey → List OpKey
doubled_from before [] = []
doubled_from before (k ∷ ks) =
    if begins k ks then doubled_from true ks
    else (if before then k ∷ doubled_from false ks else doubled_from false ks)

-- the keys of triples in order that have two or more values
abbrev pub doubled : List Triple → List OpKey
doubled ts = doubled_from false (map op_key ts)

-- the keys of counted triples
abbrev pub keys_in : List (Triple × ℕ) → List OpKey
keys_in cs = map (λ c. op_key c.0) cs

-- ---- keys that are not among others, both in order

-- keys without the first ones that are less than a key
abbrev pub from_key : OpKey → List OpKey → List OpKey
from_key k [] = []
from_key k (l ∷ ls) = if is_lt (op_key_cmp l k) then from_key k ls else l ∷ ls

-- the keys that are not among the old ones
abbrev pub not_among : List OpKey → List OpKey → List OpKey
not_among old [] = []
not_among old (k ∷ ks) =
    let rest : List OpKey = from_key k old in
    if begins k rest then not_among rest ks else k ∷ not_among rest ks

-- the new conflicts of wanted triples, by the counted ones of before and of now
abbrev pub AreNewConflicts : List (Triple × ℕ) → List (Triple × ℕ) → List OpKey → Type 0
AreNewConflicts old new ks = (ws us : List Triple) → triples_of old ≡ in_order ws → triples_of new ≡ in_order us → ks ≡ new_conflicts ws us
