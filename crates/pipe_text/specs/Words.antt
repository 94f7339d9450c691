-- The words that the grammar asks for, and their letters.
use Rattle.std.specs.Prelude.{ℕ, List, [], ◌∷◌, codes, Option, Some, None, if◌then◌else◌}
use Rattle.std.specs.Str.{bytes_eq}
use Rattle.value_core.specs.declared.function.Fun.{Fun}
use Rattle.value_core.specs.declared.function.Fun.TheVariants as fun
use Rattle.op_keys.specs.declared.level.Level.{Level}
use Rattle.op_keys.specs.declared.level.Level.TheVariants as level
use Rattle.term_core.specs.declared.program.FailKind.{FailKind}
use Rattle.term_core.specs.declared.program.FailKind.TheVariants as kind
use Rattle.pipe_text.specs.declared.words.DeclWord.{DeclWord}
use Rattle.pipe_text.specs.declared.words.DeclWord.TheVariants as decl
use Rattle.pipe_text.specs.declared.words.ValueWord.{ValueWord}
use Rattle.pipe_text.specs.declared.words.ValueWord.TheVariants as form
use Rattle.pipe_text.specs.declared.words.OpWord.{OpWord}
use Rattle.pipe_text.specs.declared.words.OpWord.TheVariants as op
use Rattle.pipe_text.specs.declared.words.PeriodWord.{PeriodWord}
use Rattle.pipe_text.specs.declared.words.PeriodWord.TheVariants as period
use Rattle.pipe_text.specs.declared.words.SideWord.{SideWord}
use Rattle.pipe_text.specs.declared.words.SideWord.TheVariants as side
use Rattle.pipe_text.specs.declared.words.BodyWord.{BodyWord}
use Rattle.pipe_text.specs.declared.words.BodyWord.TheVariants as word

-- what a declaration begins with
abbrev pub decl_letters : DeclWord → List ℕ
decl_letters decl.Input = codes "input"
decl_letters decl.Pool = codes "pool"
decl_letters decl.Client = codes "client"
decl_letters decl.Worker = codes "worker"
decl_letters decl.Op = codes "op"
decl_letters decl.Node = codes "node"

-- the words before the value of an input
abbrev pub value_letters : ValueWord → List ℕ
value_letters form.Text = codes "text"
value_letters form.Num = codes "num"
value_letters form.List = codes "list"

-- the two kinds of operation
abbrev pub op_letters : OpWord → List ℕ
op_letters op.Build = codes "build"
op_letters op.Output = codes "output"

-- how often a schedule recurs
abbrev pub period_letters : PeriodWord → List ℕ
period_letters period.Daily = codes "daily"
period_letters period.Monthly = codes "monthly"

-- the side of an offset
abbrev pub side_letters : SideWord → List ℕ
side_letters side.East = codes "east"
side_letters side.West = codes "west"

-- the levels
abbrev pub level_letters : Level → List ℕ
level_letters level.Harmless = codes "harmless"
level_letters level.MostlyHarmless = codes "mostly_harmless"
level_letters level.Average = codes "average"
level_letters level.AboveAverage = codes "above_average"
level_letters level.Dangerous = codes "dangerous"

-- what a term begins with, after its bracket
abbrev pub body_letters : BodyWord → List ℕ
body_letters word.Return = codes "return"
body_letters word.Fail = codes "fail"
body_letters word.Input = codes "input"
body_letters word.Node = codes "node"
body_letters word.Var = codes "var"
body_letters word.Map = codes "map"
body_letters word.Pair = codes "pair"
body_letters word.Bind = codes "bind"
body_letters word.ListMap = codes "list_map"
body_letters word.ListIter = codes "list_iter"
body_letters word.Catch = codes "catch"
body_letters word.State = codes "state"
body_letters word.Gate = codes "gate"
body_letters word.All = codes "all"
body_letters word.Build = codes "build"
body_letters word.Output = codes "output"

-- the functions
abbrev pub fun_letters : Fun → List ℕ
fun_letters fun.Trim = codes "trim"
fun_letters fun.Lines = codes "lines"
fun_letters fun.Words = codes "words"
fun_letters fun.Join = codes "join"
fun_letters fun.Concat = codes "concat"
fun_letters fun.Length = codes "length"
fun_letters fun.Count = codes "count"
fun_letters fun.Number = codes "number"
fun_letters fun.Show = codes "show"
fun_letters fun.Add = codes "add"
fun_letters fun.Equal = codes "equal"
fun_letters fun.AtMost = codes "at_most"
fun_letters fun.First = codes "first"
fun_letters fun.Second = codes "second"
fun_letters fun.Describe = codes "describe"
fun_letters fun.Must = codes "must"

-- the kinds that a failure may be of
abbrev pub kind_letters : FailKind → List ℕ
kind_letters kind.Text = codes "text"
kind_letters kind.Num = codes "num"
kind_letters kind.Unit = codes "unit"
kind_letters kind.List = codes "list"

-- the word of a list that has these letters
abbrev pub find_word : {W : Type 0} → (W → List ℕ) → List W → List ℕ → Option W
find_word letters [] n = None
find_word letters (w ∷ ws) n = if bytes_eq n (letters w) then Some w else find_word letters ws n

-- all that a declaration begins with
abbrev pub all_decls : List DeclWord
all_decls = decl.Input ∷ decl.Pool ∷ decl.Client ∷ decl.Worker ∷ decl.Op ∷ decl.Node ∷ []

-- all words before the value of an input
abbrev pub all_values : List ValueWord
all_values = form.Text ∷ form.Num ∷ form.List ∷ []

-- both kinds of operation
abbrev pub all_ops : List OpWord
all_ops = op.Build ∷ op.Output ∷ []

-- both periods
abbrev pub all_periods : List PeriodWord
all_periods = period.Daily ∷ period.Monthly ∷ []

-- both sides
abbrev pub all_sides : List SideWord
all_sides = side.East ∷ side.West ∷ []

-- all levels
abbrev pub all_levels : List Level
all_levels = level.Harmless ∷ level.MostlyHarmless ∷ level.Average ∷ level.AboveAverage ∷ level.Dangerous ∷ []

-- all that a term begins with
abbrev pub all_bodies : List BodyWord
all_bodies = word.Return ∷ word.Fail ∷ word.Input ∷ word.Node ∷ word.Var ∷ word.Map ∷ word.Pair ∷ word.Bind ∷ word.ListMap ∷ word.ListIter ∷ word.Catch ∷ word.State ∷ word.Gate ∷ word.All ∷ word.Build ∷ word.Output ∷ []

-- all functions
abbrev pub all_funs : List Fun
all_funs = fun.Trim ∷ fun.Lines ∷ fun.Words ∷ fun.Join ∷ fun.Concat ∷ fun.Length ∷ fun.Count ∷ fun.Number ∷ fun.Show ∷ fun.Add ∷ fun.Equal ∷ fun.AtMost ∷ fun.First ∷ fun.Second ∷ fun.Describe ∷ fun.Must ∷ []

-- all kinds of a failure
abbrev pub all_kinds : List FailKind
all_kinds = kind.Text ∷ kind.Num ∷ kind.Unit ∷ kind.List ∷ []

-- what a declaration begins with that has these letters
unfoldable pub decl_word : List ℕ → Option DeclWord
decl_word = find_word decl_letters all_decls

-- the word before an input's value that has these letters
unfoldable pub value_word : List ℕ → Option ValueWord
value_word = find_word value_letters all_values

-- the kind of operation that has these letters
unfoldable pub op_word : List ℕ → Option OpWord
op_word = find_word op_letters all_ops

-- the period that has these letters
unfoldable pub period_word : List ℕ → Option PeriodWord
period_word = find_word period_letters all_periods

-- the side that has these letters
unfoldable pub side_word : List ℕ → Option SideWord
side_word = find_word side_letters all_sides

-- the level that has these letters
unfoldable pub level_word : List ℕ → Option Level
level_word = find_word level_letters all_levels

-- what a term begins with that has these letters
unfoldable pub body_word : List ℕ → Option BodyWord
body_word = find_word body_letters all_bodies

-- the function that has these letters
unfoldable pub fun_word : List ℕ → Option Fun
fun_word = find_word fun_letters all_funs

-- the kind of a failure that has these letters
unfoldable pub kind_word : List ℕ → Option FailKind
kind_word = find_word kind_letters all_kinds
