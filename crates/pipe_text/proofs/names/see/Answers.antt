use Rattle.std.proofs.Common.{◌≡◌, Bool, true, false, cond, ◌∙◌, refl, ap}
use Rattle.std.specs.Prelude.{◌||◌}
use Rattle.std.specs.Str.{bytes_eq}
use Rattle.std.specs.Ordering.{nat_cmp}
use Rattle.std.specs.Cmp.Lexicographic.{slice_cmp}
use Rattle.std.specs.BTreeSet.{contains}
use Rattle.std.proofs.lemmas.Map.Text.{is_eq-slice_cmp}
use Rattle.pipe_text.proofs.names.see.Goals as goal

cond_or : (b x : Bool) → cond b true x ≡ (b || x)
cond_or true x = refl
cond_or false x = refl

pub returns : goal.returns
returns c n =
    c.in_ok-insert.ensures.updates.0 n ∙ ap (λ (b : Bool). cond b true (contains (slice_cmp nat_cmp) c.args.seen.now n)) (is_eq-slice_cmp c.args.name n) ∙ cond_or (bytes_eq c.args.name n) (contains (slice_cmp nat_cmp) c.args.seen.now n)
