-- Lines from their parts.
use Rattle.std.proofs.Common.{◌≡◌, ℕ, List, ◌++◌, ap, ◌∙◌, append_assoc}
use Rattle.std.specs.Prelude.{codes, if◌then◌else◌, is_ok, OnOk}
use Rattle.std.specs.declared.result.Result.{Result}
use Rattle.std.specs.declared.result.Result.TheVariants.{Ok, Err}
use Rattle.value_core.specs.Printed.{quoted}
use Rattle.keeper_core.specs.declared.tables.CacheRow.{CacheRow}
use Rattle.session_rules.specs.StoreTexts.{number, outcome_word, rebuild_text, result_line, value_text}
use Rattle.store_reports.specs.inside.Writers.{end_text, target_text}

-- three parts before another
three : (a b c rest : List ℕ) → (a ++ (b ++ c)) ++ rest ≡ a ++ (b ++ (c ++ rest))
three a b c rest = append_assoc a (b ++ c) rest ∙ ap (λ (x : List ℕ). a ++ x) (append_assoc b c rest)

-- the parts of a line, one after the other
abbrev parts : CacheRow → List ℕ
parts r = (((target_text r ++ codes " ") ++ outcome_word r) ++ end_text r) ++ rebuild_text r

-- the line of a result has its parts
nested : (r : CacheRow) → target_text r ++ (codes " " ++ (outcome_word r ++ (end_text r ++ (rebuild_text r ++ codes "\n")))) ≡ result_line r
unfolding result_line
nested r =
    let last : List ℕ = rebuild_text r ++ codes "\n" in
    let ended : end_text r ++ last ≡ codes " " ++ (number r.job ++ (codes " at " ++ (number r.finished ++ last))) =
    ap (λ (x : List ℕ). codes " " ++ x) (three (number r.job) (codes " at ") (number r.finished) last) in
    let rest : List ℕ = codes " " ++ (outcome_word r ++ (end_text r ++ last)) in
    append_assoc r.op (codes " " ++ (quoted r.ckey ++ value_text r.cvalue)) rest
    ∙ ap (λ (x : List ℕ). r.op ++ (codes " " ++ x)) (append_assoc (quoted r.ckey) (value_text r.cvalue) rest)
    ∙ ap (λ (x : List ℕ). r.op ++ (codes " " ++ (quoted r.ckey ++ (value_text r.cvalue ++ (codes " " ++ (outcome_word r ++ x)))))) ended

line_of_parts : (r : CacheRow) → parts r ++ codes "\n" ≡ result_line r
line_of_parts r =
    let last : List ℕ = rebuild_text r ++ codes "\n" in
    let before : List ℕ = target_text r ++ codes " " in
    append_assoc ((before ++ outcome_word r) ++ end_text r) (rebuild_text r) (codes "\n")
    ∙ append_assoc (before ++ outcome_word r) (end_text r) last
    ∙ append_assoc before (outcome_word r) (end_text r ++ last)
    ∙ append_assoc (target_text r) (codes " ") (outcome_word r ++ (end_text r ++ last))
    ∙ nested r

-- one part more
more : (i j old m x : List ℕ) → i ≡ old ++ m → j ≡ i ++ x → j ≡ old ++ (m ++ x)
more i j old m x e f = f ∙ ap (λ (y : List ℕ). y ++ x) e ∙ append_assoc old m x

-- all parts, as they were written
pub line_written : (r : CacheRow) (old i1 i2 i3 i4 i5 : List ℕ) → i1 ≡ old ++ target_text r → i2 ≡ i1 ++ codes " " → i3 ≡ i2 ++ outcome_word r → i4 ≡ i3 ++ end_text r → i5 ≡ i4 ++ rebuild_text r
    → i5 ++ codes "\n" ≡ old ++ result_line r
line_written r old i1 i2 i3 i4 i5 target space word end rebuild =
    let e2 : i2 ≡ old ++ (target_text r ++ codes " ") = more i1 i2 old (target_text r) (codes " ") target space in
    let e3 : i3 ≡ old ++ ((target_text r ++ codes " ") ++ outcome_word r) = more i2 i3 old (target_text r ++ codes " ") (outcome_word r) e2 word in
    let e4 : i4 ≡ old ++ (((target_text r ++ codes " ") ++ outcome_word r) ++ end_text r) = more i3 i4 old ((target_text r ++ codes " ") ++ outcome_word r) (end_text r) e3 end in
    let e5 : i5 ≡ old ++ parts r = more i4 i5 old (((target_text r ++ codes " ") ++ outcome_word r) ++ end_text r) (rebuild_text r) e4 rebuild in
    ap (λ (y : List ℕ). y ++ codes "\n") e5 ∙ append_assoc old (parts r) (codes "\n") ∙ ap (λ (y : List ℕ). old ++ y) (line_of_parts r)

-- what is written unless memory is out
pub when_ok : {T E : Type 0} (r : Result T E) (new more old whole : List ℕ) → new ≡ (if is_ok r then more else old) → more ≡ whole → OnOk r (new ≡ whole)
when_ok (Ok x) new more old whole e f = e ∙ f
when_ok (Err x) new more old whole e f = tt
