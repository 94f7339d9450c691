-- Words and their letters: each is found by its letters, and by no others.
use Rattle.std.proofs.Common.{◌≡◌, ℕ, Bool, true, false, cond, List, [], ◌∷◌, refl, ap, ◌∙◌, inl, inr}
use Rattle.std.specs.Prelude.{Option, Some, None, ◌⊎◌}
use Rattle.std.specs.Str.{bytes_eq}
use Rattle.value_core.specs.declared.function.Fun.{Fun}
use Rattle.value_core.specs.declared.function.Fun.TheVariants as fun
use Rattle.op_keys.specs.declared.level.Level.{Level}
use Rattle.op_keys.specs.declared.level.Level.TheVariants as level
use Rattle.term_core.specs.declared.program.FailKind.{FailKind}
use Rattle.term_core.specs.declared.program.FailKind.TheVariants as kind
use Rattle.pipe_text.specs.declared.words.BodyWord.{BodyWord}
use Rattle.pipe_text.specs.declared.words.BodyWord.TheVariants as word
use Rattle.pipe_text.specs.declared.words.DeclWord.{DeclWord}
use Rattle.pipe_text.specs.declared.words.DeclWord.TheVariants as decl
use Rattle.pipe_text.specs.declared.words.ValueWord.{ValueWord}
use Rattle.pipe_text.specs.declared.words.ValueWord.TheVariants as form
use Rattle.pipe_text.specs.declared.words.OpWord.{OpWord}
use Rattle.pipe_text.specs.declared.words.OpWord.TheVariants as op
use Rattle.pipe_text.specs.declared.words.PeriodWord.{PeriodWord}
use Rattle.pipe_text.specs.declared.words.PeriodWord.TheVariants as period
use Rattle.pipe_text.specs.declared.words.SideWord.{SideWord}
use Rattle.pipe_text.specs.declared.words.SideWord.TheVariants as side
use Rattle.pipe_text.specs.Words.{find_word, body_letters, body_word, all_bodies, fun_letters, fun_word, all_funs, kind_letters, kind_word, all_kinds, decl_letters, decl_word, all_decls, value_letters, value_word, all_values, op_letters, op_word, all_ops, period_letters, period_word, all_periods, side_letters, side_word, all_sides, level_letters, level_word, all_levels}
use Rattle.pipe_text.specs.inside.Readers.{only}
use Rattle.value_core.proofs.Basics.{bytes_same}

pick : {W : Type 0} (letters : W → List ℕ) (n : List ℕ) (v : W) (b : Bool) (o : Option W) (w : W) → bytes_eq n (letters v) ≡ b → cond b (Some v) o ≡ Some w → (n ≡ letters w) ⊎ (o ≡ Some w)
pick letters n v true o w t e = let same : v ≡ w = cc in inl (bytes_same n (letters v) t ∙ ap letters same)
pick letters n v false o w t e = inr e

found_letters : {W : Type 0} (letters : W → List ℕ) (ws : List W) (n : List ℕ) (w : W) → find_word letters ws n ≡ Some w → n ≡ letters w
found_letters letters [] n w e = absurd cc
found_letters letters (v ∷ ws) n w e = elim (pick letters n v (bytes_eq n (letters v)) (find_word letters ws n) w refl e) [ inl h ↦ h | inr h ↦ found_letters letters ws n w h ]

if_some : (b : Bool) (u : Unit {0}) → cond b (Some tt) None ≡ Some u → b ≡ true
if_some true u e = refl
if_some false u e = absurd cc

pub only_letters : (letters n : List ℕ) (u : Unit {0}) → only letters n ≡ Some u → n ≡ letters
only_letters letters n u e = bytes_same n letters (if_some (bytes_eq n letters) u e)

pub body_word_is : (w : BodyWord) → body_word (body_letters w) ≡ Some w
unfolding body_word
body_word_is word.Return = refl
body_word_is word.Fail = refl
body_word_is word.Input = refl
body_word_is word.Node = refl
body_word_is word.Var = refl
body_word_is word.Map = refl
body_word_is word.Pair = refl
body_word_is word.Bind = refl
body_word_is word.ListMap = refl
body_word_is word.ListIter = refl
body_word_is word.Catch = refl
body_word_is word.State = refl
body_word_is word.Gate = refl
body_word_is word.All = refl
body_word_is word.Build = refl
body_word_is word.Output = refl

pub body_letters_are : (n : List ℕ) (w : BodyWord) → body_word n ≡ Some w → n ≡ body_letters w
unfolding body_word
body_letters_are n w e = found_letters body_letters all_bodies n w e

pub fun_word_is : (w : Fun) → fun_word (fun_letters w) ≡ Some w
unfolding fun_word
fun_word_is fun.Trim = refl
fun_word_is fun.Lines = refl
fun_word_is fun.Words = refl
fun_word_is fun.Join = refl
fun_word_is fun.Concat = refl
fun_word_is fun.Length = refl
fun_word_is fun.Count = refl
fun_word_is fun.Number = refl
fun_word_is fun.Show = refl
fun_word_is fun.Add = refl
fun_word_is fun.Equal = refl
fun_word_is fun.AtMost = refl
fun_word_is fun.First = refl
fun_word_is fun.Second = refl
fun_word_is fun.Describe = refl
fun_word_is fun.Must = refl

pub fun_letters_are : (n : List ℕ) (w : Fun) → fun_word n ≡ Some w → n ≡ fun_letters w
unfolding fun_word
fun_letters_are n w e = found_letters fun_letters all_funs n w e

pub kind_word_is : (w : FailKind) → kind_word (kind_letters w) ≡ Some w
unfolding kind_word
kind_word_is kind.Text = refl
kind_word_is kind.Num = refl
kind_word_is kind.Unit = refl
kind_word_is kind.List = refl

pub kind_letters_are : (n : List ℕ) (w : FailKind) → kind_word n ≡ Some w → n ≡ kind_letters w
unfolding kind_word
kind_letters_are n w e = found_letters kind_letters all_kinds n w e

pub decl_word_is : (w : DeclWord) → decl_word (decl_letters w) ≡ Some w
unfolding decl_word
decl_word_is decl.Input = refl
decl_word_is decl.Pool = refl
decl_word_is decl.Client = refl
decl_word_is decl.Worker = refl
decl_word_is decl.Op = refl
decl_word_is decl.Node = refl

pub decl_letters_are : (n : List ℕ) (w : DeclWord) → decl_word n ≡ Some w → n ≡ decl_letters w
unfolding decl_word
decl_letters_are n w e = found_letters decl_letters all_decls n w e

pub value_word_is : (w : ValueWord) → value_word (value_letters w) ≡ Some w
unfolding value_word
value_word_is form.Text = refl
value_word_is form.Num = refl
value_word_is form.List = refl

pub value_letters_are : (n : List ℕ) (w : ValueWord) → value_word n ≡ Some w → n ≡ value_letters w
unfolding value_word
value_letters_are n w e = found_letters value_letters all_values n w e

pub op_word_is : (w : OpWord) → op_word (op_letters w) ≡ Some w
unfolding op_word
op_word_is op.Build = refl
op_word_is op.Output = refl

pub op_letters_are : (n : List ℕ) (w : OpWord) → op_word n ≡ Some w → n ≡ op_letters w
unfolding op_word
op_letters_are n w e = found_letters op_letters all_ops n w e

pub period_word_is : (w : PeriodWord) → period_word (period_letters w) ≡ Some w
unfolding period_word
period_word_is period.Daily = refl
period_word_is period.Monthly = refl

pub period_letters_are : (n : List ℕ) (w : PeriodWord) → period_word n ≡ Some w → n ≡ period_letters w
unfolding period_word
period_letters_are n w e = found_letters period_letters all_periods n w e

pub side_word_is : (w : SideWord) → side_word (side_letters w) ≡ Some w
unfolding side_word
side_word_is side.East = refl
side_word_is side.West = refl

pub side_letters_are : (n : List ℕ) (w : SideWord) → side_word n ≡ Some w → n ≡ side_letters w
unfolding side_word
side_letters_are n w e = found_letters side_letters all_sides n w e

pub level_word_is : (w : Level) → level_word (level_letters w) ≡ Some w
unfolding level_word
level_word_is level.Harmless = refl
level_word_is level.MostlyHarmless = refl
level_word_is level.Average = refl
level_word_is level.AboveAverage = refl
level_word_is level.Dangerous = refl

pub level_letters_are : (n : List ℕ) (w : Level) → level_word n ≡ Some w → n ≡ level_letters w
unfolding level_word
level_letters_are n w e = found_letters level_letters all_levels n w e
