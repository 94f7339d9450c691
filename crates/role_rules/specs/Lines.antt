-- The lines of a roles file.
use Rattle.std.specs.Prelude.{◌≡◌, ◌≤◌, ◌⊎◌, ℕ, ◌==◌, ◌&&◌, nat_lt, if◌then◌else◌, Bool, true, false, List, [], ◌∷◌, length, codes, Option, Some, None}
use Rattle.std.specs.List.{join_with_byte, list_all}
use Rattle.std.specs.Option.{option_map}
use Rattle.std.specs.Str.{bytes_eq}
use Rattle.value_core.specs.Names.{is_name}
use Rattle.role_rules.specs.declared.line.Line.{Line}
use Rattle.role_rules.specs.declared.line.Line.TheVariants.{Nothing, Grants, Anyone}
use Rattle.role_rules.specs.declared.policy.Grant.{Grant}
use Rattle.role_rules.specs.declared.role.Role.{Role}
use Rattle.role_rules.specs.declared.role.Role.TheVariants.{Viewer, Builder, Monitor, Admin}
use Rattle.role_rules.specs.Pieces.{pieces}

-- the name of a role
abbrev pub role_letters : Role → List ℕ
role_letters Viewer = codes "viewer"
role_letters Builder = codes "builder"
role_letters Monitor = codes "monitor"
role_letters Admin = codes "admin"

-- a byte from 0x21 to 0x7e
abbrev pub is_visible : ℕ → Bool
is_visible b = nat_lt 32 b && nat_lt b 127

-- 1 to 256 visible bytes
abbrev pub is_word : List ℕ → Bool
is_word w = nat_lt 0 (length w) && (nat_lt (length w) 257 && list_all is_visible w)

-- `on` and the names, if there are any
abbrev pub scope_tokens : List (List ℕ) → List (List ℕ)
scope_tokens [] = []
scope_tokens (n ∷ ns) = codes "on" ∷ n ∷ ns

-- with one space between two
abbrev pub spaced : List (List ℕ) → List ℕ
spaced = join_with_byte 32

-- the word is one, and there are at most 64 names
pub record IsGrant (g : Grant) : Type 0 where
  pub word : is_word g.word ≡ true
  pub names : list_all is_name g.names ≡ true
  pub few : length g.names ≤ 64

-- which bytes say what: an empty line and a comment nothing, a role and a word with or without names
-- a grant, `anyone` and a role the role of anyone
abbrev pub Says : List ℕ → Line → Type 0
Says bytes Nothing = (bytes ≡ []) ⊎ ((rest : List ℕ) × (bytes ≡ 35 ∷ rest))
Says bytes (Grants g) =
    (bytes ≡ spaced (role_letters g.role ∷ g.word ∷ scope_tokens g.names)) × IsGrant g
Says bytes (Anyone r) = bytes ≡ spaced (codes "anyone" ∷ role_letters r ∷ [])

-- the first of these whose letters a name has
abbrev pub find_role : List Role → List ℕ → Option Role
find_role [] n = None
find_role (r ∷ rs) n = if bytes_eq n (role_letters r) then Some r else find_role rs n

-- the role with this name
unfoldable pub role_of : List ℕ → Option Role
role_of = find_role (Viewer ∷ Builder ∷ Monitor ∷ Admin ∷ [])

-- the name that a token is
abbrev pub name_read : List ℕ → Option (List ℕ)
name_read n = if is_name n then Some n else None

-- what may come after `on`: 1 to 64 names
abbrev pub names_read : List (List ℕ) → Option (List (List ℕ))
names_read [] = None
names_read (n ∷ ns) =
    if nat_lt (length (n ∷ ns)) 65 && list_all is_name (n ∷ ns) then Some (n ∷ ns) else None

-- what may come after a word: nothing, or `on` and names
abbrev pub scope_read : List (List ℕ) → Option (List (List ℕ))
scope_read [] = Some []
scope_read (on ∷ ns) = if bytes_eq on (codes "on") then names_read ns else None

-- a line that grants a role to a word with these names
abbrev pub grant : Role → List ℕ → List (List ℕ) → Line
grant r w ns = Grants (record { role = r; word = w; names = ns })

-- what may come after a role: a word and its names
abbrev pub grant_read : Role → List (List ℕ) → Option Line
grant_read r [] = None
grant_read r (w ∷ ps) = if is_word w then option_map (grant r w) (scope_read ps) else None

-- what may come after `anyone`: a role
abbrev pub anyone_read : List (List ℕ) → Option Line
anyone_read (p ∷ []) = option_map Anyone (role_of p)
anyone_read ps = None

-- after a role, if the token is one
abbrev pub by_role : Option Role → List (List ℕ) → Option Line
by_role None ps = None
by_role (Some r) ps = grant_read r ps

-- by the first token
abbrev pub tokens_read : List (List ℕ) → Option Line
tokens_read [] = None
tokens_read (p ∷ ps) =
    if bytes_eq p (codes "anyone") then anyone_read ps else by_role (role_of p) ps

-- what a line says, or nothing if it is of no form
abbrev pub line_read : List ℕ → Option Line
line_read [] = Some Nothing
line_read (b ∷ bs) = if b == 35 then Some Nothing else tokens_read (pieces 32 (b ∷ bs))
