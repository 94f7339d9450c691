-- One more order that was echoed.
use Rattle.std.proofs.Common.{◌≡◌, List, [], ◌∷◌, ◌++◌}
use Rattle.op_keys.specs.declared.order.Exit.{Exit}
use Rattle.op_keys.specs.declared.order.Order.{Order}
use Rattle.session_rules.specs.Runs.{echo}
use Rattle.made_session.specs.inside.Echoes.{AreEchoed}

pub echoed_more : (runs : List (Order × Exit)) (o : Order) (x : Exit) → AreEchoed runs → x ≡ echo o → AreEchoed (runs ++ (o, x) ∷ [])
echoed_more [] o x before is = (is, tt)
echoed_more (r ∷ runs) o x before is = (before.0, echoed_more runs o x before.1 is)
