-- A roles file, read line by line.
use Rattle.std.specs.Prelude.{◌≡◌, ℕ, ◌+◌, not, nat_lt, if◌then◌else◌, Bool, List, [], ◌∷◌, ◌++◌, length, Option, Some, None, Result, Ok, Err}
use Rattle.std.specs.List.{list_any}
use Rattle.std.specs.Str.{bytes_eq}
use Rattle.role_rules.specs.declared.line.Line.{Line}
use Rattle.role_rules.specs.declared.line.Line.TheVariants.{Nothing, Grants, Anyone}
use Rattle.role_rules.specs.declared.policy.Grant.{Grant}
use Rattle.role_rules.specs.declared.policy.Policy.{Policy}
use Rattle.role_rules.specs.declared.reading.RolesFault.{RolesFault}
use Rattle.role_rules.specs.declared.reading.RolesFault.TheVariants.{TooLarge, BadLine, TooMany, Duplicate, NoMemory}
use Rattle.role_rules.specs.declared.role.Role.{Role}
use Rattle.role_rules.specs.Lines.{line_read}
use Rattle.role_rules.specs.Pieces.{pieces}

-- whether a word is among the grants
abbrev pub has_word : List ℕ → List Grant → Bool
has_word w gs = list_any (λ g. bytes_eq g.word w) gs

-- one more grant
abbrev pub with_grant : Policy → Grant → Policy
with_grant p g = record { grants = p.grants ++ g ∷ []; anyone = p.anyone }

-- one more grant, unless there are too many or its word is there
abbrev pub grant_taken : ℕ → Policy → Grant → Result Policy RolesFault
grant_taken n p g =
    if not (nat_lt (length p.grants) 256) then Err (TooMany n)
    else (if has_word g.word p.grants then Err (Duplicate n)
    else Ok (with_grant p g))

-- the role of anyone, unless there is one
abbrev pub anyone_taken : ℕ → List Grant → Option Role → Role → Result Policy RolesFault
anyone_taken n gs None r = Ok (record { grants = gs; anyone = Some r })
anyone_taken n gs (Some q) r = Err (Duplicate n)

-- the policy after line n, or its fault
abbrev pub taken : ℕ → Policy → Option Line → Result Policy RolesFault
taken n p None = Err (BadLine n)
taken n p (Some Nothing) = Ok p
taken n p (Some (Grants g)) = grant_taken n p g
taken n p (Some (Anyone r)) = anyone_taken n p.grants p.anyone r

-- what comes of a policy, or the fault as it is
abbrev pub and_then :
    Result Policy RolesFault → (Policy → Result Policy RolesFault) → Result Policy RolesFault
and_then (Ok p) f = f p
and_then (Err e) f = Err e

-- the policy after the lines from n on, or the first fault
abbrev pub lines_taken : ℕ → Policy → List (List ℕ) → Result Policy RolesFault
lines_taken n p [] = Ok p
lines_taken n p (l ∷ ls) = and_then (taken n p (line_read l)) (λ q. lines_taken (n + 1) q ls)

-- a policy that says nothing
abbrev pub nobody : Policy
nobody = record { grants = []; anyone = None }

-- the policy of a file, or its fault
abbrev pub roles_read : List ℕ → Result Policy RolesFault
roles_read bytes =
    if nat_lt 65536 (length bytes) then Err TooLarge else lines_taken 1 nobody (pieces 10 bytes)

-- a fault is the one that was found, unless out of memory
abbrev pub IsFaultReadAs : RolesFault → Result Policy RolesFault → Type 0
IsFaultReadAs NoMemory read = Unit {0}
IsFaultReadAs fault read = read ≡ Err fault

-- what was returned is what the bytes are read as, unless out of memory
abbrev pub IsReadAs : Result Policy RolesFault → Result Policy RolesFault → Type 0
IsReadAs (Ok p) read = read ≡ Ok p
IsReadAs (Err fault) read = IsFaultReadAs fault read
