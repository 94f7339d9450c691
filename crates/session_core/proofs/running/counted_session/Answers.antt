use Rattle.std.proofs.Common.{ℕ, ◌∙◌, ap, sym, subst, refl}
use Rattle.session_rules.specs.declared.ends.SessionEnd.{SessionEnd}
use Rattle.session_rules.specs.Outside.{Outside}
use Rattle.session_core.specs.Doing.{Moment, seen}
use Rattle.session_core.specs.Numbers.{counting}
use Rattle.session_core.specs.Runs.{Given, IsCountedOn, IsSessionOn, Subject, given_by, outside}
use Rattle.session_core.proofs.Openings.{by_given, counted_to, end_is, fault_not_quit, not_opened}
use Rattle.session_core.proofs.running.counted_session.Goals as goal

pub returns-in-Ok-clause-session : goal.returns-in-Ok-clause-session
returns-in-Ok-clause-session g c =
    let x : Subject = record { program = c.args.start.checked; threshold = c.args.start.threshold; counting = counting g.N.Numbering.shows } in
    let given : Given = given_by g.S.Source.left g.C.Clock.readings g.F.Files.held c.args.input.now c.args.ends.now in
    let e : Outside = outside g.K.Keeper.known g.O.Sink.written g.L.Launcher.runs c.args.start.keeper c.args.ends.now in
    let m : Moment = seen g.K.Keeper.known g.O.Sink.written g.L.Launcher.runs g.C.Clock.readings g.F.Files.held c.run-run.new.self c.run-run.new.ends in
    let end = end_is c.run-run.result c.end_of_run.result c.end_of_run.ensures in
    let kept = c.into_keeper.ensures in
    let done = by_given g.K.Keeper.known g.K.Keeper.faults x c.run-run.result c.args.start.keeper c.in-Ok.desk c.in-Ok.done e m refl c.read_ms-last.result
    (g.S.Source.left c.args.input.now) (g.C.Clock.readings c.args.ends.now.clock) (g.C.Clock.readings c.read_ms-last.new.self) (g.F.Files.held c.args.ends.now.files)
    c.in-Ok.ensures.opened c.read_ms-last.ensures c.run-run.ensures.script in
    let ended : IsSessionOn x given c.end_of_run.result e m.outside = subst (λ (end : SessionEnd). IsSessionOn x given end e m.outside) (sym end) done in
    subst (λ k. IsSessionOn x given c.end_of_run.result e (outside g.K.Keeper.known g.O.Sink.written g.L.Launcher.runs k c.run-run.new.ends)) (sym kept) ended

pub returns-in-Err-clause-session : goal.returns-in-Err-clause-session
returns-in-Err-clause-session g c =
    let x : Subject = record { program = c.args.start.checked; threshold = c.args.start.threshold; counting = counting g.N.Numbering.shows } in
    let given : Given = given_by g.S.Source.left g.C.Clock.readings g.F.Files.held c.args.input.now c.args.ends.now in
    let e : Outside = outside g.K.Keeper.known g.O.Sink.written g.L.Launcher.runs c.args.start.keeper c.args.ends.now in
    let done = not_opened g.K.Keeper.known g.K.Keeper.faults x c.read_ms-last.result c.args.start.keeper c.in-Err.keeper e refl c.in-Err.fault
    (g.S.Source.left c.args.input.now) (g.C.Clock.readings c.args.ends.now.clock) (g.C.Clock.readings c.read_ms-last.new.self) (g.F.Files.held c.args.ends.now.files)
    c.in-Err.ensures.fault c.read_ms-last.ensures in
    subst (λ (end : SessionEnd). IsSessionOn x given end e (outside g.K.Keeper.known g.O.Sink.written g.L.Launcher.runs c.in-Err.keeper (record c.args.ends.now { clock = c.read_ms-last.new.self }))) (sym c.end_of_fault.ensures) done

pub returns-in-Ok-clause-version : goal.returns-in-Ok-clause-version
returns-in-Ok-clause-version g c =
    let x : Subject = record { program = c.args.start.checked; threshold = c.args.start.threshold; counting = counting g.N.Numbering.shows } in
    let given : Given = given_by g.S.Source.left g.C.Clock.readings g.F.Files.held c.args.input.now c.args.ends.now in
    let e : Outside = outside g.K.Keeper.known g.O.Sink.written g.L.Launcher.runs c.args.start.keeper c.args.ends.now in
    let m : Moment = seen g.K.Keeper.known g.O.Sink.written g.L.Launcher.runs g.C.Clock.readings g.F.Files.held c.run-run.new.self c.run-run.new.ends in
    let v = c.run-run.new.self.desk.engine.core.version in
    let end = end_is c.run-run.result c.end_of_run.result c.end_of_run.ensures in
    let done = counted_to g.K.Keeper.known g.K.Keeper.faults x c.args.start.keeper c.in-Ok.desk c.in-Ok.done e m refl v c.run-run.result c.read_ms-last.result
    (g.S.Source.left c.args.input.now) (g.C.Clock.readings c.args.ends.now.clock) (g.C.Clock.readings c.read_ms-last.new.self) (g.F.Files.held c.args.ends.now.files)
    c.in-Ok.ensures.opened c.read_ms-last.ensures c.run-run.ensures.version in
    let ended : IsCountedOn x given c.end_of_run.result v e m.outside = subst (λ (end : SessionEnd). IsCountedOn x given end v e m.outside) (sym end) done in
    let kept : IsCountedOn x given c.end_of_run.result v e (outside g.K.Keeper.known g.O.Sink.written g.L.Launcher.runs c.into_keeper.result c.run-run.new.ends) =
    subst (λ k. IsCountedOn x given c.end_of_run.result v e (outside g.K.Keeper.known g.O.Sink.written g.L.Launcher.runs k c.run-run.new.ends)) (sym c.into_keeper.ensures) ended in
    subst (λ (w : ℕ). IsCountedOn x given c.end_of_run.result w e (outside g.K.Keeper.known g.O.Sink.written g.L.Launcher.runs c.into_keeper.result c.run-run.new.ends))
    (sym (c.version-version.ensures ∙ ap (λ d. d.core.version) c.engine.ensures)) kept

pub returns-in-Err-clause-version : goal.returns-in-Err-clause-version
returns-in-Err-clause-version g c = λ is. absurd (fault_not_quit c.in-Err.fault (sym c.end_of_fault.ensures ∙ is))
