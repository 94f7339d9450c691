-- Which kind of value each function takes, and which it returns for it.
use Rattle.std.specs.Prelude.{◌≡◌, true, if◌then◌else◌, Option, Some, None}
use Rattle.value_core.specs.declared.function.Applied.{Applied}
use Rattle.value_core.specs.declared.function.Applied.TheVariants.{Fine, Bad}
use Rattle.value_core.specs.declared.function.Fun.{Fun}
use Rattle.value_core.specs.declared.function.Fun.TheVariants as fun
use Rattle.value_core.specs.declared.value.Kind.{Kind, Kind-F, out-Kind}
use Rattle.value_core.specs.declared.value.Kind.TheVariants as kind
use Rattle.value_core.specs.declared.value.Value.{Value}
use Rattle.value_core.specs.Codes.{kind_code}
use Rattle.value_core.specs.Functions.{fn_value}
use Rattle.value_core.specs.Same.{same}
use Rattle.value_core.specs.Values.{fits_kind}

-- a kind that is given for one kind alone
abbrev pub given_for : Kind → Kind → Kind → Option Kind
given_for wanted given k = if same kind_code k wanted then Some given else None

-- a number for a list of any items
abbrev pub counted_kind : Kind-F Kind → Option Kind
counted_kind (Kind-F.List item) = Some kind.Num
counted_kind k = None

-- the first kind of a pair
abbrev pub first_kind : Kind-F Kind → Option Kind
first_kind (Kind-F.Pair a b) = Some a
first_kind k = None

-- the second kind of a pair
abbrev pub second_kind : Kind-F Kind → Option Kind
second_kind (Kind-F.Pair a b) = Some b
second_kind k = None

-- a text for an outcome of any value
abbrev pub described_kind : Kind-F Kind → Option Kind
described_kind (Kind-F.Out a) = Some kind.Text
described_kind k = None

-- the kind of an outcome's value
abbrev pub demanded_kind : Kind-F Kind → Option Kind
demanded_kind (Kind-F.Out a) = Some a
demanded_kind k = None

-- the kind that each function returns for a kind, if it takes that kind
unfoldable pub kind_given : Fun → Kind → Option Kind
kind_given fun.Trim k = given_for kind.Text kind.Text k
kind_given fun.Lines k = given_for kind.Text (kind.List kind.Text) k
kind_given fun.Words k = given_for kind.Text (kind.List kind.Text) k
kind_given fun.Join k = given_for (kind.List kind.Text) kind.Text k
kind_given fun.Concat k = given_for (kind.Pair kind.Text kind.Text) kind.Text k
kind_given fun.Length k = given_for kind.Text kind.Num k
kind_given fun.Count k = counted_kind (out-Kind k)
kind_given fun.Number k = given_for kind.Text kind.Num k
kind_given fun.Show k = given_for kind.Num kind.Text k
kind_given fun.Add k = given_for (kind.Pair kind.Num kind.Num) kind.Num k
kind_given fun.Equal k = given_for (kind.Pair kind.Text kind.Text) kind.Unit k
kind_given fun.AtMost k = given_for (kind.Pair kind.Num kind.Num) kind.Unit k
kind_given fun.First k = first_kind (out-Kind k)
kind_given fun.Second k = second_kind (out-Kind k)
kind_given fun.Describe k = described_kind (out-Kind k)
kind_given fun.Must k = demanded_kind (out-Kind k)

-- a value of this kind, or a message
abbrev pub IsOfKind : Kind → Applied → Type 0
IsOfKind k (Fine v) = fits_kind k v ≡ true
IsOfKind k (Bad m) = Unit {0}

-- a function over a value of a kind that it takes fails, or returns a value of the kind that it promises for it
abbrev pub KeepsKinds : Type 0
KeepsKinds = (f : Fun) (k to : Kind) (v : Value) → kind_given f k ≡ Some to → fits_kind k v ≡ true → IsOfKind to (fn_value f v)
