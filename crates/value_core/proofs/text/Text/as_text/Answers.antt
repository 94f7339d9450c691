use Rattle.std.proofs.Common.{◌≡◌, Bool, true, false, refl, sym, ◌∙◌}
use Rattle.std.specs.Prelude.{not}
use Rattle.value_core.specs.Texts.{no_nul}
use Rattle.value_core.proofs.Texts.{no_nul_strip}
use Rattle.value_core.proofs.text.Text.as_text.Goals as goal

not_not : (b : Bool) → false ≡ not b → b ≡ true
not_not true e = refl
not_not false e = cc

pub of-requires : goal.of-requires
of-requires c =
    let clean : no_nul c.args.bytes.now ≡ true = not_not _ (sym c.if-has_nul.false ∙ c.has_nul.ensures) in
    let whole : c.in-Some.text.now ≡ c.args.bytes.now = c.in-Some.ensures.1 in
    rw (c.without_newline.ensures, whole) (no_nul_strip c.args.bytes.now clean)
