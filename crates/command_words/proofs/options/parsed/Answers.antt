use Rattle.std.proofs.Common.{ap, codes, map, string_bytes, ◌∙◌}
use Rattle.clap.specs.Words.{app_of, found_of}
use Rattle.command_words.specs.Options.{is_true}
use Rattle.command_words.proofs.Parsing.{made_is, parsed_is, simple_is, value_is}
use Rattle.command_words.proofs.options.parsed.Goals as goal

pub returns-in-Ok : goal.returns-in-Ok
returns-in-Ok c =
    let app = app_of c.args.command in
    let words = map string_bytes c.args.words.now in
    let found = found_of c.in-Ok.matches in
    let rows = (c.in-Ok.ensures.matches (simple_is app c.requires)).0 in
    parsed_is app words _ (c.in-Ok.ensures.kinds c.requires)
    (made_is _ _ _ _ _ _ _ _ (c.get_str.ensures ∙ value_is app words found (codes "plain") rows)
    (c.get_str-in-Ok.ensures ∙ value_is app words found (codes "store") rows)
    (c.get_str-in-Ok-2.ensures ∙ value_is app words found (codes "confirm") rows)
    (c.is_true.ensures ∙ ap is_true (c.get_str-in-Ok-3.ensures ∙ value_is app words found (codes "count") rows)))
