use Rattle.std.proofs.Common.{◌≡◌, ℕ, Bool, List, subst}
use Rattle.std.specs.Prelude.{OnOk}
use Rattle.value_core.specs.declared.token.Token.TheVariants.{Number}
use Rattle.pipe_text.specs.Printing.{with_token}
use Rattle.pipe_text.proofs.printing.put_expiry.Goals as goal

pub returns-in_ok-word-in-After : goal.returns-in_ok-word-in-After
returns-in_ok-word-in-After c =
    rw c.in-After.is (subst (λ (s : List ℕ × Bool). OnOk c.number.result (c.number.new.self ≡ with_token (Number c.in-After.n) s)) c.in_ok-word-in-After.ensures c.number.ensures)
