use Rattle.std.proofs.Common.{rules, ap, ap₂, codes, ◌≡◌, ◌∙◌}
use Rattle.std.proofs.lemmas.Result.{IfOk-weaker}
use Rattle.clap.specs.Words.{app_of, new_app, rule_of, with_rule}
use Rattle.clap.specs.Simple.{app_of_fields}
use Rattle.command_words.specs.Options.{plain_rule, store_rule, confirm_rule, count_rule}
use Rattle.command_words.proofs.Building.{started, unhelpful}
use Rattle.command_words.proofs.options.run_command.Goals as goal

pub returns : goal.returns
returns c =
    let plain_is : rule_of c.required-plain.result ≡ plain_rule = search rules in
    let store_is : rule_of c.long-store.result ≡ store_rule = search rules in
    let confirm_is : rule_of c.long-confirm.result ≡ confirm_rule = search rules in
    let count_is : rule_of c.action-count.result ≡ count_rule = search rules in
    let begun : app_of c.disable_help_flag.result ≡ started (new_app (codes "run")) =
    ap app_of_fields (c.disable_help_flag.ensures ∙ ap unhelpful c.no_binary_name.ensures) ∙ ap started c.new-3.ensures.app in
    let one = c.in_ok-arg.ensures.shape (search rules) ∙ ap₂ with_rule begun plain_is in
    let two = c.in_ok-arg-2.ensures.shape (search rules) ∙ ap₂ with_rule one store_is in
    let three = c.in_ok-arg-3.ensures.shape (search rules) ∙ ap₂ with_rule two confirm_is in
    IfOk-weaker c.arg-4.result _ _ (λ r h. h.shape (search rules) ∙ ap₂ with_rule three count_is) c.arg-4.ensures
