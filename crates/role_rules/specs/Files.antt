-- What a roles file is, apart from how it is read.
use Rattle.std.specs.Prelude.{◌≡◌, ◌≤◌, ◌<◌, ◌⊎◌, ℕ, ◌+◌, Bool, true, List, [], ◌∷◌, ◌++◌, length, Option, Some, None}
use Rattle.std.specs.List.{flat_map, IsDistinct}
use Rattle.std.specs.Str.{bytes_eq}
use Rattle.role_rules.specs.declared.line.Line.{Line}
use Rattle.role_rules.specs.declared.line.Line.TheVariants.{Grants, Anyone}
use Rattle.role_rules.specs.declared.policy.Grant.{Grant}
use Rattle.role_rules.specs.declared.policy.Policy.{Policy}
use Rattle.role_rules.specs.declared.reading.RolesFault.{RolesFault}
use Rattle.role_rules.specs.declared.reading.RolesFault.TheVariants.{TooLarge, BadLine, TooMany, Duplicate, NoMemory}
use Rattle.role_rules.specs.declared.role.Role.{Role}
use Rattle.role_rules.specs.Lines.{Says}
use Rattle.role_rules.specs.Pieces.{pieces}
use Rattle.role_rules.specs.Reading.{has_word}

-- each line says its part
abbrev pub Say : List (List ℕ) → List Line → Type 0
Say [] [] = Unit {0}
Say (l ∷ ls) (s ∷ ss) = Says l s × Say ls ss
Say ls ss = ⊥

-- the grant of a line, if it has one
abbrev pub grant_of : Line → List Grant
grant_of (Grants g) = g ∷ []
grant_of s = []

-- the role that a line has for anyone, if it has one
abbrev pub role_for_anyone : Line → List Role
role_for_anyone (Anyone r) = r ∷ []
role_for_anyone s = []

-- the grants of lines, in order
abbrev pub grants_of : List Line → List Grant
grants_of = flat_map grant_of

-- the roles for anyone, in order
abbrev pub roles_for_anyone : List Line → List Role
roles_for_anyone = flat_map role_for_anyone

-- the first, if there is one
abbrev pub first : List Role → Option Role
first [] = None
first (r ∷ rs) = Some r

-- the policy of lines
abbrev pub policy_of : List Line → Policy
policy_of ss = record { grants = grants_of ss; anyone = first (roles_for_anyone ss) }

-- whether two grants are of one word
abbrev pub same_word : Grant → Grant → Bool
same_word g h = bytes_eq g.word h.word

-- lines that may be in one file: at most 256 words, none twice, and one line for anyone at most
pub record Sound (ss : List Line) : Type 0 where
  pub few : length (grants_of ss) ≤ 256
  pub apart : IsDistinct same_word (grants_of ss)
  pub one : length (roles_for_anyone ss) ≤ 1

-- the policy is that of these lines
abbrev pub StandsFor : List (List ℕ) → Policy → Type 0
StandsFor ls p = (ss : List Line) × Say ls ss × Sound ss × (p ≡ policy_of ss)

-- the policy is that of the file's lines
abbrev pub IsPolicyOf : List ℕ → Policy → Type 0
IsPolicyOf bytes p = (length bytes ≤ 65536) × StandsFor (pieces 10 bytes) p

-- the line says nothing that a line may say
abbrev pub IsOfNoForm : List Line → List ℕ → Type 0
IsOfNoForm ss l = (s : Line) → Says l s → ⊥

-- the line has a word more than there may be
abbrev pub IsOneTooMany : List Line → List ℕ → Type 0
IsOneTooMany ss l = (g : Grant) × Says l (Grants g) × (length (grants_of ss) ≡ 256)

-- the line has a word that a line before has, or is one more for anyone
abbrev pub IsThereBefore : List Line → List ℕ → Type 0
IsThereBefore ss l =
    ((g : Grant)
    × Says l (Grants g)
    × (length (grants_of ss) < 256)
    × (has_word g.word (grants_of ss) ≡ true))
    ⊎ ((r : Role) × Says l (Anyone r) × (0 < length (roles_for_anyone ss)))

-- line n is wrong in this way, and the lines before it say what may come together
abbrev pub IsFirstWrong : List (List ℕ) → ℕ → (List Line → List ℕ → Type 0) → Type 0
IsFirstWrong ls n Wrong =
    (before : List (List ℕ)) × (l : List ℕ) × (after : List (List ℕ)) × (ss : List Line)
    × (ls ≡ before ++ l ∷ after) × (n ≡ length before + 1) × Say before ss × Sound ss × Wrong ss l

-- the fault is the file's, unless out of memory
abbrev pub IsFaultOf : List ℕ → RolesFault → Type 0
IsFaultOf bytes TooLarge = 65536 < length bytes
IsFaultOf bytes (BadLine n) =
    (length bytes ≤ 65536) × IsFirstWrong (pieces 10 bytes) n IsOfNoForm
IsFaultOf bytes (TooMany n) =
    (length bytes ≤ 65536) × IsFirstWrong (pieces 10 bytes) n IsOneTooMany
IsFaultOf bytes (Duplicate n) =
    (length bytes ≤ 65536) × IsFirstWrong (pieces 10 bytes) n IsThereBefore
IsFaultOf bytes NoMemory = Unit {0}
