use Rattle.snap_read.proofs.tests.no_version_falls_while_10000_are_published.Given as goal

-- the history that was just opened, in which each state may stand
abbrev pub ghosts-publish_and_read : goal.ghosts-publish_and_read
ghosts-publish_and_read g a = record { history = a.opened.history; test = λ p. Unit {0} }
