-- Calls after which the tables are as before.
use Rattle.std.proofs.Common.{◌≡◌, ℕ, zero, suc, List, [], take, refl, arith}
use Rattle.std.specs.declared.option.Option.{Option}
use Rattle.std.specs.Io.KnownBytes.{Appends}
use Rattle.io_ends.specs.Causes.{AppendsFront}
use Rattle.keeper_core.specs.KeeperCalls.{Known, LeavesSame, Stays}
use Rattle.session_rules.specs.Outputs.{Output}
use Rattle.session_rules.specs.Outside.{Did, Outside, Stopped}
use Rattle.session_rules.proofs.Doing.{did_still, did_stops}
use Rattle.session_rules.proofs.Growing.{appends_none, appends_same, grows_none, keeps_none}

-- whatever is still to come
unfoldable pub still_stopped : (ms : List Output) (e : Outside) (k : Known) → Stays e.keeper k → LeavesSame e.keeper k → Stopped ms e (record e { keeper = k })
still_stopped ms e k stays same = did_stops [] ms e (record e { keeper = k }) (did_still e k stays (λ x left. (same x).0 left))

-- ---- nothing was written

take_none : (n : ℕ) → take {A = ℕ} n [] ≡ []
take_none zero = refl
take_none (suc n) = refl

-- a front of nothing
pub front_none : (wr wr' : Option (List ℕ)) → AppendsFront wr wr' [] → Appends wr wr' []
front_none wr wr' (n, fits, a) = appends_same wr wr' (take n []) [] a (take_none n)

-- a text without bytes
pub did_empty : (e : Outside) (wr : Option (List ℕ)) → Appends e.written wr [] → Did [] e (record e { written = wr })
did_empty e wr wrote = record { wrote = wrote; ran = grows_none e.ran; kept = keeps_none e.keeper.tables; sure = λ is. is }

-- no byte of a text
pub none_written : (wr : Option (List ℕ)) (text : List ℕ) → AppendsFront wr wr text
none_written wr text = (0, omega arith, appends_none wr)
