use Rattle.std.proofs.Common.{◌≡◌, ℕ, List, Option, refl, sym, ap, subst, ◌∙◌}
use Rattle.std.specs.Prelude.{IfSome}
use Rattle.keeper_core.specs.KeeperCalls.{Holds, begun, counted}
use Rattle.session_core.specs.Numbers.{counting}
use Rattle.session_core.specs.Runs.{IsEndCaused, faults_of, outside}
use Rattle.session_rules.specs.declared.ends.SessionEnd.{SessionEnd}
use Rattle.store_reports.specs.Causes.{IsCaused}
use Rattle.store_reports.specs.Ends.{side_of}
use Rattle.current_cli.specs.Calls.{given_by, seen_by}
use Rattle.current_cli.proofs.Caused.{counts_in, session_caused}
use Rattle.current_cli.proofs.Running.{fault_high, fault_low, runs_on, unopened}
use Rattle.current_cli.proofs.ends.ProgramEnds.run_program.Goals as goal

pub returns-in-Err-clause-run : goal.returns-in-Err-clause-run
returns-in-Err-clause-run g c =
    let self = c.args.self.now in
    unopened c.args.checked c.args.options.store c.args.options.threshold (counting c.args.options.count)
    (given_by g.S.Source.left g.M.Keepers.held g.C.Clock.readings g.F.Files.held self) c.fault_status.result
    (seen_by g.M.Keepers.knows_left g.M.Keepers.left g.O.Sink.written g.L.Launcher.runs self)
    (record {
      written = g.O.Sink.written self.ends.out;
      ran = g.L.Launcher.runs self.ends.launcher;
      knows_left = g.M.Keepers.knows_left c.open.new.self;
      left = g.M.Keepers.left c.open.new.self;
    })
    (fault_low c.in-Err.fault c.fault_status.result c.fault_status.ensures) (fault_high c.in-Err.fault c.fault_status.result c.fault_status.ensures) refl refl (λ knows x left. c.in-Err.ensures.left x left)

pub returns-clause-run : goal.returns-clause-run
returns-clause-run g c =
    let self = c.args.self.now in
    let mid = c.counted_session-keeper.new.ends in
    let see = outside g.M.K.Keeper.known g.O.Sink.written g.L.Launcher.runs in
    runs_on c.args.checked c.args.options.threshold (counting c.args.options.count) c.counted_session-keeper.result.1 c.tell_end.result
    (see c.in-Ok.keeper self.ends) (see c.counted_session-keeper.result.0 mid)
    (seen_by g.M.Keepers.knows_left g.M.Keepers.left g.O.Sink.written g.L.Launcher.runs self)
    (record {
      written = g.O.Sink.written c.tell_end.new.out;
      ran = g.L.Launcher.runs mid.launcher;
      knows_left = g.M.Keepers.knows_left c.give_back.new.self;
      left = g.M.Keepers.left c.give_back.new.self;
    })
    (side_of g.O.Sink.written g.O.Sink.faults mid.out) (side_of g.O.Sink.written g.O.Sink.faults c.tell_end.new.out)
    c.give_back.ensures.left refl refl refl refl refl c.tell_end.ensures
    c.args.options.store (g.M.Keepers.knows_left c.open.new.self)
    (g.S.Source.left self.input) (g.C.Clock.readings self.ends.clock) (g.F.Files.held self.ends.files) (g.M.Keepers.held self.keepers)
    c.give_back.ensures.known
    (subst (λ (path : Option (List ℕ)). IfSome (g.M.Keepers.held self.keepers) (λ h. Holds (begun h path) (g.M.K.Keeper.known c.in-Ok.keeper))) c.path.ensures c.in-Ok.ensures.tables)
    c.counted_session-keeper.ensures.session

pub returns-clause-cause : goal.returns-clause-cause
returns-clause-cause g c =
    let self = c.args.self.now in
    let mid = c.counted_session-keeper.new in
    let keeper = c.counted_session-keeper.result.0 in
    let end = c.counted_session-keeper.result.1 in
    let faults = faults_of g.S.Source.faults g.M.K.Keeper.faults g.O.Sink.faults g.F.Files.faults in
    let c0 = faults self.input c.in-Ok.keeper self.ends in
    let c1 = faults mid.input keeper mid.ends in
    let a = side_of g.O.Sink.written g.O.Sink.faults mid.ends.out in
    let b = side_of g.O.Sink.written g.O.Sink.faults c.tell_end.new.out in
    let k = g.M.Keepers.faults self.keepers in
    let count : g.M.Keepers.faults c.give_back.new.self ≡ counted k (g.M.K.Keeper.faults keeper) =
    c.give_back.ensures.count ∙ ap (λ (m : ℕ). counted m (g.M.K.Keeper.faults keeper)) c.in-Ok.ensures.cause.kept in
    subst (λ (m : ℕ). IsCaused c.tell_end.result (counts_in c0 c0.sink k) (counts_in c1 b.faults m)) (sym count)
    (session_caused c0 c1 a b k c.in-Ok.ensures.begins refl end c.tell_end.result (λ is. subst (λ (z : SessionEnd). IsEndCaused z c0 c1) is c.counted_session-keeper.ensures.cause) c.counted_session-keeper.ensures.cause c.tell_end.ensures)
