use Rattle.std.proofs.Common.{◌≡◌, Err, None, Some, option_map, ap, sym, ◌∙◌}
use Rattle.op_keys.specs.Orders.{capped, length_refused}
use Rattle.engine_rules.proofs.FittingJobs.{never_too_long}
use Rattle.engine_rules.proofs.noting.words.Goals as goal

pub prove-unreachable-requires : goal.prove-unreachable-requires
prove-unreachable-requires g c =
    let long : Some c.in-Err-WordTooLong.field-0-0 ≡ None =
    sym (ap length_refused (c.in-Err-WordTooLong.is ∙ ap Err c.in-Err-WordTooLong.field-0-is))
    ∙ c.words_of.ensures.too_long
    ∙ ap (option_map capped) (never_too_long (g.P.Lookups.state c.args.parts.now).program c.args.triple.now c.in-Some.op.now c.requires (sym c.in-Some.ensures.op)) in
    cc
