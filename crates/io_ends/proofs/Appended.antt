-- Known bytes that grow more than once.
use Rattle.std.proofs.Common.{◌≡◌, ◌≤◌, ◌+◌, ◌-◌, ℕ, List, ◌++◌, length, take, drop, sym, ap, ◌∙◌, append_assoc, arith, length-drop}
use Rattle.std.proofs.Math.Seq.{take-add}
use Rattle.std.proofs.lemmas.List.{take_rest}
use Rattle.std.specs.declared.option.Option.{Option}
use Rattle.std.specs.declared.option.Option.TheVariants.{None, Some}
use Rattle.std.specs.Io.KnownBytes.{Appends}

pub appends_more : (a b c : Option (List ℕ)) (x y z : List ℕ) → Appends a b x → Appends b c y → x ++ y ≡ z → Appends a c z
appends_more None b c x y z p q e = tt
appends_more (Some a) None c x y z p q e = absurd p
appends_more (Some a) (Some b) None x y z p q e = absurd q
appends_more (Some a) (Some b) (Some c) x y z p q e = q ∙ ap (λ (t : List ℕ). t ++ y) p ∙ append_assoc a x y ∙ ap (λ (t : List ℕ). a ++ t) e

-- a front of what is left, after what was written
pub front_more : (xs : List ℕ) (i n : ℕ) → take i xs ++ take n (take (length xs - i) (drop i xs)) ≡ take (i + n) xs
front_more xs i n = rw (take_rest xs i) (sym (take-add i n xs))

pub front_in : (xs : List ℕ) (i n : ℕ) → i ≤ length xs → n ≤ length (take (length xs - i) (drop i xs)) → i + n ≤ length xs
front_in xs i n h k = omega (arith, length-drop i xs, ap length (take_rest xs i))
