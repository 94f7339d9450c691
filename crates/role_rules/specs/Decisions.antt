-- The decision on a request.
use Rattle.std.specs.Prelude.{ℕ, ◌==◌, ◌||◌, if◌then◌else◌, Bool, true, false, List, [], ◌∷◌, Option, Some, None}
use Rattle.std.specs.List.{find, list_any}
use Rattle.std.specs.Option.{option_map}
use Rattle.std.specs.Str.{bytes_eq}
use Rattle.role_rules.specs.declared.policy.Ask.{Ask}
use Rattle.role_rules.specs.declared.policy.Decision.{Decision}
use Rattle.role_rules.specs.declared.policy.Decision.TheVariants.{Allowed, NoWord, Denied}
use Rattle.role_rules.specs.declared.policy.Grant.{Grant}
use Rattle.role_rules.specs.declared.policy.Policy.{Policy}
use Rattle.role_rules.specs.declared.role.Role.{Role}
use Rattle.role_rules.specs.declared.role.Role.TheVariants.{Viewer, Builder, Monitor, Admin}

-- which role may ask by which rule: 1 nodes; 2 logs; 3 inputs and rebuilds; 4 cancels and ticks; 5
-- confirming, levels, pausing, resuming, rates and quitting
abbrev pub may_ask : ℕ → Role → Bool
may_ask rule Viewer = rule == 1 || rule == 2
may_ask rule Builder = rule == 1 || (rule == 2 || (rule == 3 || rule == 4))
may_ask rule Monitor = rule == 1
may_ask rule Admin = true

-- the grant of a word
abbrev pub granted : List ℕ → List Grant → Option Grant
granted w gs = find (λ g. bytes_eq g.word w) gs

-- the role and the names of a grant, or those of anyone, who has no names
abbrev pub or_anyone : Option Role → Option Grant → Option (Role × List (List ℕ))
or_anyone rest (Some g) = Some (g.role, g.names)
or_anyone rest None = option_map (λ r. (r, [])) rest

-- the grant of the word, if there is one
abbrev pub grant_for : List Grant → Option (List ℕ) → Option Grant
grant_for gs None = None
grant_for gs (Some w) = granted w gs

-- the role and the names of a sender with this word or none
abbrev pub sender : Policy → Option (List ℕ) → Option (Role × List (List ℕ))
sender p word = or_anyone p.anyone (grant_for p.grants word)

-- whether a name is among these
abbrev pub listed : List ℕ → List (List ℕ) → Bool
listed n ns = list_any (λ m. bytes_eq m n) ns

-- whether a word with these names is good for a name
abbrev pub name_passes : List (List ℕ) → List ℕ → Bool
name_passes [] n = true
name_passes (m ∷ ms) n = listed n (m ∷ ms)

-- whether a word has no names
abbrev pub is_for_all : List (List ℕ) → Bool
is_for_all [] = true
is_for_all (m ∷ ms) = false

-- rule 6 for a request that names something, rule 7 for one that doesn't
abbrev pub judged_name : List (List ℕ) → Option (List ℕ) → Bool → Decision
judged_name names (Some n) plain = if name_passes names n then Allowed else Denied 6
judged_name names None plain = if plain || is_for_all names then Allowed else Denied 7

-- the first rule that isn't met
abbrev pub judged : Role → List (List ℕ) → Ask → Decision
judged role names ask =
    if may_ask ask.rule role then judged_name names ask.name ask.plain else Denied ask.rule

-- the decision for a sender
abbrev pub decided_for : Option (Role × List (List ℕ)) → Ask → Decision
decided_for None ask = NoWord
decided_for (Some s) ask = judged s.0 s.1 ask

-- the decision
abbrev pub decided : Policy → Option (List ℕ) → Ask → Decision
decided p word ask = decided_for (sender p word) ask

-- whether a sender gets to see a node in the list of nodes
abbrev pub listed_for : Option (Role × List (List ℕ)) → List ℕ → Bool
listed_for None n = false
listed_for (Some s) n = name_passes s.1 n

-- whether the list of nodes has a node for a sender with this word or none
abbrev pub may_list : Policy → Option (List ℕ) → List ℕ → Bool
may_list p word n = listed_for (sender p word) n
