-- How far the loops over orders and over watched inputs came.
use Rattle.std.specs.Prelude.{ℕ, List, drop, Option, Some, None}
use Rattle.term_core.specs.declared.program.InputDecl.{InputDecl}
use Rattle.session_rules.specs.Outside.{Outside}
use Rattle.session_rules.specs.Parts.{Leads}
use Rattle.session_rules.specs.Scenes.{Scene}
use Rattle.session_rules.specs.Steps.{Counting, order_limit, orders}
use Rattle.session_rules.specs.Watching.{watch_from}
use Rattle.session_core.specs.Doing.{Moment}

-- up to where so many orders more may be run, if the first scene is known
abbrev pub LedFrom : Counting → ℕ → Option Scene → Option Scene → Outside → Outside → Type 0
LedFrom counting n None s e e' = Unit {0}
LedFrom counting n (Some s) None e e' = ⊥
LedFrom counting n (Some s) (Some s') e e' =
    Leads (orders counting order_limit) (orders counting n) s s' e e'

-- the same from a moment to another one
abbrev pub Led : Counting → ℕ → Moment → Moment → Type 0
Led counting n m m' = LedFrom counting n m.scene m'.scene m.outside m'.outside

-- ---- watched inputs

-- up to where the files of these inputs from an index on are left, if the first scene is known
abbrev pub WatchedFrom :
    Counting → List InputDecl → ℕ → Option Scene → Option Scene → Outside → Outside → Type 0
WatchedFrom counting inputs n None s e e' = Unit {0}
WatchedFrom counting inputs n (Some s) None e e' = ⊥
WatchedFrom counting inputs n (Some s) (Some s') e e' =
    Leads (watch_from counting 0 inputs) (watch_from counting n (drop n inputs)) s s' e e'

-- the same from a moment to another one
abbrev pub Watched : Counting → List InputDecl → ℕ → Moment → Moment → Type 0
Watched counting inputs n m m' = WatchedFrom counting inputs n m.scene m'.scene m.outside m'.outside
