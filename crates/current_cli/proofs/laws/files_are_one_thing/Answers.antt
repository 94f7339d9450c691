use Rattle.current_cli.proofs.OneFile.{one_file}
use Rattle.current_cli.proofs.laws.files_are_one_thing.Goals as goal

pub returns : goal.returns
returns c = one_file
