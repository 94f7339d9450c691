use Rattle.session_core.proofs.running.run_session.Given as goal

abbrev pub ghosts-counted_session : goal.ghosts-counted_session
ghosts-counted_session g a = record { name = a.blank.name; parts = a.blank.parts }
