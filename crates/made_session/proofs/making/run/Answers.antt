use Rattle.std.proofs.Common.{◌∙◌, drop, ap, refl}
use Rattle.std.specs.declared.option.Option.TheVariants.{None, Some}
use Rattle.io_ends.specs.Memory.{contents_at}
use Rattle.keeper_core.specs.KeeperCalls.{sure}
use Rattle.keeper_core.specs.declared.stored.Stored.TheVariants.{Current}
use Rattle.session_rules.specs.Outside.{Outside}
use Rattle.session_core.specs.Runs.{Given, IsCountedOn, IsEndCaused, IsSessionOn, Subject}
use Rattle.made_session.proofs.Summing.{IsMadeOf, made_ends, made_summed, none_failed}
use Rattle.made_session.proofs.making.run.Goals as goal

pub returns-clause-summed : goal.returns-clause-summed
returns-clause-summed c =
    let ends = c.in_ok-ends.ends in
    let later = c.run_session-keeper.new.ends in
    let end = c.run_session-keeper.result.1 in
    let versions = c.run_session-keeper.result.2 in
    let x : Subject = record { program = c.args.checked; threshold = None; counting = None } in
    let given : Given = record { bytes = Some (drop c.new-input.result.at c.new-input.result.bytes.items); readings = Some (drop ends.clock.at ends.clock.readings.items); contents = Some (contents_at ends.files.files.items) } in
    let e : Outside = record { written = None; ran = Some ends.launcher; keeper = sure (Current c.new.result.tables) } in
    let e' : Outside = record { written = None; ran = Some later.launcher; keeper = sure (Current c.run_session-keeper.result.0.tables) } in
    let made : IsMadeOf c.args.nodes x given e e' later.launcher = record {
      program = c.requires.made;
      threshold = refl;
      counting = refl;
      bytes = c.new-input.ensures.left ∙ ap Some c.in_ok-made_script.ensures;
      readings = c.in_ok-ends.ensures.clock;
      contents = c.in_ok-ends.ensures.files;
      tables = c.new.ensures.tables ∙ ap (λ t. Some (Current t)) c.in_ok-fresh.ensures;
      later = Current c.run_session-keeper.result.0.tables;
      later_tables = refl;
      none = ap Some c.in_ok-ends.ensures.launcher;
      now = refl;
      echoed = c.count-orders.ensures.echoed;
    } in
    let counted : IsCountedOn x given end versions e e' = c.run_session-keeper.ensures.version in
    λ is. made_summed c.args.nodes x given e e' later.launcher made versions c.count-orders.result c.count-orders.ensures.count (λ same. counted is)

pub returns-clause-ends : goal.returns-clause-ends
returns-clause-ends c =
    let ends = c.in_ok-ends.ends in
    let later = c.run_session-keeper.new.ends in
    let end = c.run_session-keeper.result.1 in
    let x : Subject = record { program = c.args.checked; threshold = None; counting = None } in
    let given : Given = record { bytes = Some (drop c.new-input.result.at c.new-input.result.bytes.items); readings = Some (drop ends.clock.at ends.clock.readings.items); contents = Some (contents_at ends.files.files.items) } in
    let e : Outside = record { written = None; ran = Some ends.launcher; keeper = sure (Current c.new.result.tables) } in
    let e' : Outside = record { written = None; ran = Some later.launcher; keeper = sure (Current c.run_session-keeper.result.0.tables) } in
    let made : IsMadeOf c.args.nodes x given e e' later.launcher = record {
      program = c.requires.made;
      threshold = refl;
      counting = refl;
      bytes = c.new-input.ensures.left ∙ ap Some c.in_ok-made_script.ensures;
      readings = c.in_ok-ends.ensures.clock;
      contents = c.in_ok-ends.ensures.files;
      tables = c.new.ensures.tables ∙ ap (λ t. Some (Current t)) c.in_ok-fresh.ensures;
      later = Current c.run_session-keeper.result.0.tables;
      later_tables = refl;
      none = ap Some c.in_ok-ends.ensures.launcher;
      now = refl;
      echoed = c.count-orders.ensures.echoed;
    } in
    let session : IsSessionOn x given end e e' = c.run_session-keeper.ensures.session in
    let cause : IsEndCaused end none_failed none_failed = c.run_session-keeper.ensures.cause in
    made_ends c.args.nodes x given e e' later.launcher made end cause session
