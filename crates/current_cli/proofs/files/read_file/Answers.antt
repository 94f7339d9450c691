use Rattle.std.proofs.Common.{ap, ◌∙◌}
use Rattle.current_cli.specs.inside.FileFound.{file_in}
use Rattle.current_cli.proofs.OneFile.{found_file}
use Rattle.current_cli.proofs.files.read_file.Goals as goal

pub returns-in_ok-file_of-in-Found-clause-file : goal.returns-in_ok-file_of-in-Found-clause-file
returns-in_ok-file_of-in-Found-clause-file g c =
    let read = rw c.in-Found.is at c.in_ok-read_file.ensures.content in
    let is = c.in_ok-file_of-in-Found.ensures ∙ ap file_in c.as_slice.ensures.value in
    found_file (g.F.Files.held c.args.files.now) c.args.path.now c.in-Found.content c.in_ok-file_of-in-Found.field-0 read is
