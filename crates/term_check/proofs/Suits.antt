-- A function takes exactly the kinds that it is told to want.
use Rattle.std.proofs.Common.{◌≡◌, Bool, true, false, cond, Some, None, refl, ap, sym, ◌∙◌}
use Rattle.std.specs.Prelude.{is_some}
use Rattle.std.proofs.lemmas.Bool.{and_from, and_parts}
use Rattle.value_core.specs.Codes.{kind_code}
use Rattle.value_core.specs.FunctionKinds.{counted_kind, demanded_kind, described_kind, first_kind, given_for, kind_given, second_kind}
use Rattle.value_core.specs.Same.{same}
use Rattle.value_core.specs.declared.function.Fun.TheVariants as fun
use Rattle.value_core.specs.declared.value.Kind.{Kind, Kind-F, out-Kind, roll-Kind, out-roll-Kind, roll-out-Kind}
use Rattle.value_core.specs.declared.value.Kind.TheVariants as kind
use Rattle.value_core.proofs.Sames.{same_refl, same_true}
use Rattle.term_check.specs.Functions.{layer_suits, suits}
use Rattle.term_check.specs.Laws.{FunctionsTakeWhatTheyWant}
use Rattle.term_check.specs.declared.wanted.Wanted.{Wanted, Wanted-F, roll-Wanted, map-Wanted, fold-roll-Wanted}
use Rattle.term_check.specs.declared.wanted.Wanted.TheVariants as wanted
use Rattle.value_core.proofs.Basics.{same_test}

suits_layer : (x : Wanted-F Wanted) (w : Wanted) → roll-Wanted x ≡ w → (k : Kind) → suits w k ≡ layer_suits (map-Wanted Wanted (Kind → Bool) suits x) (out-Kind k)
suits_layer x w e k = ap (λ (v : Wanted). suits v k) (sym e) ∙ ap (λ (f : Kind → Bool). f k) (fold-roll-Wanted (Kind → Bool) (λ v k. layer_suits v (out-Kind k)) x)

any_suits : (k : Kind) → suits wanted.Any k ≡ true
any_suits k = suits_layer Wanted-F.Any wanted.Any wanted.rolls-Any k

-- the kind of a layer
of_layer : (l : Kind-F Kind) (k : Kind) → out-Kind k ≡ l → k ≡ roll-Kind l
of_layer l k e = sym (roll-out-Kind k) ∙ ap roll-Kind e

text_layer_only : (l : Kind-F Kind) → layer_suits Wanted-F.Text l ≡ true → l ≡ Kind-F.Text
text_layer_only Kind-F.Text h = refl
text_layer_only Kind-F.Num h = absurd cc
text_layer_only Kind-F.Unit h = absurd cc
text_layer_only (Kind-F.Pair a b) h = absurd cc
text_layer_only (Kind-F.List a) h = absurd cc
text_layer_only (Kind-F.Out a) h = absurd cc

number_layer_only : (l : Kind-F Kind) → layer_suits Wanted-F.Num l ≡ true → l ≡ Kind-F.Num
number_layer_only Kind-F.Num h = refl
number_layer_only Kind-F.Text h = absurd cc
number_layer_only Kind-F.Unit h = absurd cc
number_layer_only (Kind-F.Pair a b) h = absurd cc
number_layer_only (Kind-F.List a) h = absurd cc
number_layer_only (Kind-F.Out a) h = absurd cc

-- a wanted kind without open parts: the kind itself alone suits
abbrev IsOnly : Wanted → Kind → Kind → Type 0
IsOnly w j k = (suits w k ≡ true → k ≡ j) × (k ≡ j → suits w k ≡ true)

out_at : (l : Kind-F Kind) (k : Kind) → roll-Kind l ≡ k → out-Kind k ≡ l
out_at l k e = ap out-Kind (sym e) ∙ out-roll-Kind l

only_text : (k : Kind) → IsOnly wanted.Text kind.Text k
only_text k = (
  λ h. of_layer Kind-F.Text k (text_layer_only (out-Kind k) (sym (suits_layer Wanted-F.Text wanted.Text wanted.rolls-Text k) ∙ h)) ∙ kind.rolls-Text,
  λ e. ap (suits wanted.Text) e ∙ suits_layer Wanted-F.Text wanted.Text wanted.rolls-Text kind.Text ∙ ap (layer_suits Wanted-F.Text) (out_at Kind-F.Text kind.Text kind.rolls-Text),
)

only_number : (k : Kind) → IsOnly wanted.Num kind.Num k
only_number k = (
  λ h. of_layer Kind-F.Num k (number_layer_only (out-Kind k) (sym (suits_layer Wanted-F.Num wanted.Num wanted.rolls-Num k) ∙ h)) ∙ kind.rolls-Num,
  λ e. ap (suits wanted.Num) e ∙ suits_layer Wanted-F.Num wanted.Num wanted.rolls-Num kind.Num ∙ ap (layer_suits Wanted-F.Num) (out_at Kind-F.Num kind.Num kind.rolls-Num),
)

list_layer_only : (w : Wanted) (j : Kind) → ((k : Kind) → IsOnly w j k) → (l : Kind-F Kind) → layer_suits (Wanted-F.List (suits w)) l ≡ true → l ≡ Kind-F.List j
list_layer_only w j only (Kind-F.List a) h = ap Kind-F.List ((only a).0 h)
list_layer_only w j only Kind-F.Text h = absurd cc
list_layer_only w j only Kind-F.Num h = absurd cc
list_layer_only w j only Kind-F.Unit h = absurd cc
list_layer_only w j only (Kind-F.Pair a b) h = absurd cc
list_layer_only w j only (Kind-F.Out a) h = absurd cc

only_list : (w : Wanted) (j : Kind) → ((k : Kind) → IsOnly w j k) → (k : Kind) → IsOnly (wanted.List w) (kind.List j) k
only_list w j only k = (
  λ h. of_layer (Kind-F.List j) k (list_layer_only w j only (out-Kind k) (sym (suits_layer (Wanted-F.List w) (wanted.List w) (wanted.rolls-List w) k) ∙ h)) ∙ kind.rolls-List j,
  λ e.
      ap (suits (wanted.List w)) e ∙ suits_layer (Wanted-F.List w) (wanted.List w) (wanted.rolls-List w) (kind.List j)
      ∙ ap (layer_suits (Wanted-F.List (suits w))) (out_at (Kind-F.List j) (kind.List j) (kind.rolls-List j)) ∙ (only j).1 refl,
)

pair_layer_only : (w : Wanted) (j : Kind) → ((k : Kind) → IsOnly w j k) → (l : Kind-F Kind) → layer_suits (Wanted-F.Pair (suits w) (suits w)) l ≡ true → l ≡ Kind-F.Pair j j
pair_layer_only w j only (Kind-F.Pair a b) h =
    let p = and_parts (suits w a) (suits w b) h in
    let first : a ≡ j = (only a).0 p.0 in
    let second : b ≡ j = (only b).0 p.1 in
    λ i. Kind-F.Pair (first i) (second i)
pair_layer_only w j only Kind-F.Text h = absurd cc
pair_layer_only w j only Kind-F.Num h = absurd cc
pair_layer_only w j only Kind-F.Unit h = absurd cc
pair_layer_only w j only (Kind-F.List a) h = absurd cc
pair_layer_only w j only (Kind-F.Out a) h = absurd cc

only_pair : (w : Wanted) (j : Kind) → ((k : Kind) → IsOnly w j k) → (k : Kind) → IsOnly (wanted.Pair w w) (kind.Pair j j) k
only_pair w j only k = (
  λ h. of_layer (Kind-F.Pair j j) k (pair_layer_only w j only (out-Kind k) (sym (suits_layer (Wanted-F.Pair w w) (wanted.Pair w w) (wanted.rolls-Pair w w) k) ∙ h)) ∙ kind.rolls-Pair j j,
  λ e.
      ap (suits (wanted.Pair w w)) e ∙ suits_layer (Wanted-F.Pair w w) (wanted.Pair w w) (wanted.rolls-Pair w w) (kind.Pair j j)
      ∙ ap (layer_suits (Wanted-F.Pair (suits w) (suits w))) (out_at (Kind-F.Pair j j) (kind.Pair j j) (kind.rolls-Pair j j)) ∙ and_from (suits w j) (suits w j) ((only j).1 refl) ((only j).1 refl),
)

some_given : (b : Bool) (j : Kind) → is_some (cond b (Some j) None) ≡ b
some_given true j = refl
some_given false j = refl

-- a function that takes one kind alone
one_taken : (w : Wanted) (j to k : Kind) → ((k : Kind) → IsOnly w j k) → is_some (given_for j to k) ≡ suits w k
one_taken w j to k only =
    some_given (same kind_code k j) to
    ∙ same_test (same kind_code k j) (suits w k) (λ e. (only k).1 (same_true kind_code k j e)) (λ e. ap (λ (x : Kind). same kind_code x j) ((only k).0 e) ∙ same_refl kind_code j)

-- a function that takes each list, pair or outcome
counted_taken : (l : Kind-F Kind) → is_some (counted_kind l) ≡ layer_suits (Wanted-F.List (suits wanted.Any)) l
counted_taken (Kind-F.List a) = sym (any_suits a)
counted_taken Kind-F.Text = refl
counted_taken Kind-F.Num = refl
counted_taken Kind-F.Unit = refl
counted_taken (Kind-F.Pair a b) = refl
counted_taken (Kind-F.Out a) = refl

first_taken : (l : Kind-F Kind) → is_some (first_kind l) ≡ layer_suits (Wanted-F.Pair (suits wanted.Any) (suits wanted.Any)) l
first_taken (Kind-F.Pair a b) = sym (and_from (suits wanted.Any a) (suits wanted.Any b) (any_suits a) (any_suits b))
first_taken Kind-F.Text = refl
first_taken Kind-F.Num = refl
first_taken Kind-F.Unit = refl
first_taken (Kind-F.List a) = refl
first_taken (Kind-F.Out a) = refl

second_taken : (l : Kind-F Kind) → is_some (second_kind l) ≡ layer_suits (Wanted-F.Pair (suits wanted.Any) (suits wanted.Any)) l
second_taken (Kind-F.Pair a b) = sym (and_from (suits wanted.Any a) (suits wanted.Any b) (any_suits a) (any_suits b))
second_taken Kind-F.Text = refl
second_taken Kind-F.Num = refl
second_taken Kind-F.Unit = refl
second_taken (Kind-F.List a) = refl
second_taken (Kind-F.Out a) = refl

described_taken : (l : Kind-F Kind) → is_some (described_kind l) ≡ layer_suits (Wanted-F.Out (suits wanted.Any)) l
described_taken (Kind-F.Out a) = sym (any_suits a)
described_taken Kind-F.Text = refl
described_taken Kind-F.Num = refl
described_taken Kind-F.Unit = refl
described_taken (Kind-F.Pair a b) = refl
described_taken (Kind-F.List a) = refl

demanded_taken : (l : Kind-F Kind) → is_some (demanded_kind l) ≡ layer_suits (Wanted-F.Out (suits wanted.Any)) l
demanded_taken (Kind-F.Out a) = sym (any_suits a)
demanded_taken Kind-F.Text = refl
demanded_taken Kind-F.Num = refl
demanded_taken Kind-F.Unit = refl
demanded_taken (Kind-F.Pair a b) = refl
demanded_taken (Kind-F.List a) = refl

list_suits : (w : Wanted) (k : Kind) → suits (wanted.List w) k ≡ layer_suits (Wanted-F.List (suits w)) (out-Kind k)
list_suits w k = suits_layer (Wanted-F.List w) (wanted.List w) (wanted.rolls-List w) k

pair_suits : (w : Wanted) (k : Kind) → suits (wanted.Pair w w) k ≡ layer_suits (Wanted-F.Pair (suits w) (suits w)) (out-Kind k)
pair_suits w k = suits_layer (Wanted-F.Pair w w) (wanted.Pair w w) (wanted.rolls-Pair w w) k

out_suits : (w : Wanted) (k : Kind) → suits (wanted.Out w) k ≡ layer_suits (Wanted-F.Out (suits w)) (out-Kind k)
out_suits w k = suits_layer (Wanted-F.Out w) (wanted.Out w) (wanted.rolls-Out w) k

pub functions_take : FunctionsTakeWhatTheyWant
unfolding kind_given
functions_take fun.Trim k = one_taken wanted.Text kind.Text kind.Text k only_text
functions_take fun.Lines k = one_taken wanted.Text kind.Text (kind.List kind.Text) k only_text
functions_take fun.Words k = one_taken wanted.Text kind.Text (kind.List kind.Text) k only_text
functions_take fun.Join k = one_taken (wanted.List wanted.Text) (kind.List kind.Text) kind.Text k (only_list wanted.Text kind.Text only_text)
functions_take fun.Concat k = one_taken (wanted.Pair wanted.Text wanted.Text) (kind.Pair kind.Text kind.Text) kind.Text k (only_pair wanted.Text kind.Text only_text)
functions_take fun.Length k = one_taken wanted.Text kind.Text kind.Num k only_text
functions_take fun.Count k = counted_taken (out-Kind k) ∙ sym (list_suits wanted.Any k)
functions_take fun.Number k = one_taken wanted.Text kind.Text kind.Num k only_text
functions_take fun.Show k = one_taken wanted.Num kind.Num kind.Text k only_number
functions_take fun.Add k = one_taken (wanted.Pair wanted.Num wanted.Num) (kind.Pair kind.Num kind.Num) kind.Num k (only_pair wanted.Num kind.Num only_number)
functions_take fun.Equal k = one_taken (wanted.Pair wanted.Text wanted.Text) (kind.Pair kind.Text kind.Text) kind.Unit k (only_pair wanted.Text kind.Text only_text)
functions_take fun.AtMost k = one_taken (wanted.Pair wanted.Num wanted.Num) (kind.Pair kind.Num kind.Num) kind.Unit k (only_pair wanted.Num kind.Num only_number)
functions_take fun.First k = first_taken (out-Kind k) ∙ sym (pair_suits wanted.Any k)
functions_take fun.Second k = second_taken (out-Kind k) ∙ sym (pair_suits wanted.Any k)
functions_take fun.Describe k = described_taken (out-Kind k) ∙ sym (out_suits wanted.Any k)
functions_take fun.Must k = demanded_taken (out-Kind k) ∙ sym (out_suits wanted.Any k)
