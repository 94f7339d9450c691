-- The kinds that the functions want.
use Rattle.std.specs.Prelude.{Bool, true, false, ◌&&◌}
use Rattle.value_core.specs.declared.function.Fun.{Fun}
use Rattle.value_core.specs.declared.function.Fun.TheVariants as fun
use Rattle.value_core.specs.declared.value.Kind.{Kind, Kind-F, out-Kind}
use Rattle.term_check.specs.declared.wanted.Wanted.{Wanted, Wanted-F, fold-Wanted}
use Rattle.term_check.specs.declared.wanted.Wanted.TheVariants as wanted

-- the kind that each function wants
abbrev pub fun_wanted : Fun → Wanted
fun_wanted fun.Trim = wanted.Text
fun_wanted fun.Lines = wanted.Text
fun_wanted fun.Words = wanted.Text
fun_wanted fun.Join = wanted.List wanted.Text
fun_wanted fun.Concat = wanted.Pair wanted.Text wanted.Text
fun_wanted fun.Length = wanted.Text
fun_wanted fun.Count = wanted.List wanted.Any
fun_wanted fun.Number = wanted.Text
fun_wanted fun.Show = wanted.Num
fun_wanted fun.Add = wanted.Pair wanted.Num wanted.Num
fun_wanted fun.Equal = wanted.Pair wanted.Text wanted.Text
fun_wanted fun.AtMost = wanted.Pair wanted.Num wanted.Num
fun_wanted fun.First = wanted.Pair wanted.Any wanted.Any
fun_wanted fun.Second = wanted.Pair wanted.Any wanted.Any
fun_wanted fun.Describe = wanted.Out wanted.Any
fun_wanted fun.Must = wanted.Out wanted.Any

-- whether a layer of a kind fits a layer of one that is wanted, where each part of the latter is its test
abbrev pub layer_suits : Wanted-F (Kind → Bool) → Kind-F Kind → Bool
layer_suits Wanted-F.Any k = true
layer_suits Wanted-F.Text Kind-F.Text = true
layer_suits Wanted-F.Num Kind-F.Num = true
layer_suits Wanted-F.Unit Kind-F.Unit = true
layer_suits (Wanted-F.Pair f g) (Kind-F.Pair a b) = f a && g b
layer_suits (Wanted-F.List f) (Kind-F.List a) = f a
layer_suits (Wanted-F.Out f) (Kind-F.Out a) = f a
layer_suits w k = false

-- whether a kind is one that is wanted
abbrev pub suits : Wanted → Kind → Bool
suits = fold-Wanted (Kind → Bool) (λ w k. layer_suits w (out-Kind k))
