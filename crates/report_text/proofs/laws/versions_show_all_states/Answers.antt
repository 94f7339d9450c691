use Rattle.report_text.proofs.LastShown.{shows_all}
use Rattle.report_text.proofs.laws.versions_show_all_states.Goals as goal

pub returns : goal.returns
returns c = shows_all
