use Rattle.std.proofs.Common.{rules, ap, ap₂, codes, ◌≡◌, ◌∙◌}
use Rattle.std.proofs.lemmas.Result.{IfOk-weaker}
use Rattle.clap.specs.Words.{app_of, new_app, rule_of, with_rule}
use Rattle.clap.specs.Simple.{app_of_fields}
use Rattle.command_words.specs.Options.{plain_rule}
use Rattle.command_words.proofs.Building.{started, unhelpful}
use Rattle.command_words.proofs.options.make_command.Goals as goal

pub returns : goal.returns
returns c =
    let plain_is : rule_of c.required-plain.result ≡ plain_rule = search rules in
    let begun : app_of c.disable_help_flag.result ≡ started (new_app (codes "make")) =
    ap app_of_fields (c.disable_help_flag.ensures ∙ ap unhelpful c.no_binary_name.ensures) ∙ ap started c.new.ensures.app in
    IfOk-weaker c.arg.result _ _ (λ r h. h.shape (search rules) ∙ ap₂ with_rule begun plain_is) c.arg.ensures
