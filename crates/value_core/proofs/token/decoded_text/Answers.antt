use Rattle.std.proofs.Common.{◌≡◌, subst, ap, ◌∙◌}
use Rattle.std.specs.String.{string_bytes}
use Rattle.std.specs.Str.{IsUtf8}
use Rattle.std.proofs.lemmas.Str.{is_utf8-from_IsUtf8, IsUtf8-string_bytes}
use Rattle.value_core.proofs.Scans.{not_utf8}
use Rattle.value_core.proofs.token.decoded_text.Goals as goal

pub returns-in-Ok : goal.returns-in-Ok
returns-in-Ok c =
    let same : string_bytes c.in-Ok.text ≡ c.args.bytes.items = ap (λ v. v.items) c.in-Ok.ensures.ok in
    (c.from_string.ensures ∙ same, is_utf8-from_IsUtf8 _ (subst IsUtf8 same (IsUtf8-string_bytes c.in-Ok.text)))

pub returns : goal.returns
returns c = not_utf8 _ (λ u. let succeeds = rw c.in-Err.is at c.from_utf8.ensures.succeeds u in cc)
