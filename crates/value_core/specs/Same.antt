-- Whether two values are equal, decided by their codes.
use Rattle.std.specs.Prelude.{Bool, true, false, ◌&&◌, ◌==◌}
use Rattle.std.specs.Coded.{Coded}
use base.Stored.{Gv, gnil, gnum, gcons}

-- whether two codes are equal
abbrev pub same_code : Gv → Gv → Bool
same_code gnil gnil = true
same_code (gnum m) (gnum n) = m == n
same_code (gcons a b) (gcons c d) = same_code a c && same_code b d
same_code _ _ = false

-- whether two values are equal, where c is the code of their type
abbrev pub same : {A : Type 0} → Coded A → A → A → Bool
same c x y = same_code (c.code x) (c.code y)
