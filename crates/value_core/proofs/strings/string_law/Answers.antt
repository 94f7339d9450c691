use Rattle.value_core.proofs.Bodies.{string_found, body_all}
use Rattle.value_core.proofs.strings.string_law.Goals as goal

pub returns-clause-found : goal.returns-clause-found
returns-clause-found c = string_found

pub returns-clause-all : goal.returns-clause-all
returns-clause-all c = body_all
