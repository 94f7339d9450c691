use Rattle.snap_read.proofs.tests.what_was_learnt_is_read.Given as goal

-- the history that was just opened, in which each state may stand
abbrev pub ghosts-read_after_note : goal.ghosts-read_after_note
ghosts-read_after_note g a = record { history = a.opened.history; test = λ p. Unit {0} }
