use Rattle.std.proofs.Common.{◌≡◌, ◌≤◌, ℕ, Bool, List, length, ap, sym, subst, ◌∙◌}
use Rattle.pipe_text.specs.inside.FileReading.{pipeline_of}
use Rattle.pipe_text.specs.Printing.{lines_of, pipeline_text, after_lines}
use Rattle.pipe_text.specs.Files.{IsFileOf, IsSpelled}
use Rattle.pipe_text.proofs.PrintedFile.{printed_spells, printed_stands, printed_read}
use Rattle.pipe_text.proofs.Printings.{all_lines}
use Rattle.pipe_text.proofs.printing.print_pipeline.Goals as goal

pub returns : goal.returns
unfolding pipeline_text
returns c =
    let is : c.into_bytes.result ≡ pipeline_text c.args.program.now = c.into_bytes.ensures ∙ ap (λ (x : List ℕ × Bool). x.0) (c.in_ok-put_program.ensures ∙ ap (λ (x : List ℕ × Bool). after_lines x (lines_of c.args.program.now)) c.new-printer.ensures) ∙ all_lines (lines_of c.args.program.now) in
    record {
      bytes = is;
      spelled = λ given. subst (λ (b : List ℕ). IsSpelled b c.args.program.now) (sym is) (printed_spells c.args.program.now given);
      file = λ fits. subst (λ (b : List ℕ). IsFileOf b c.args.program.now) (sym is) (printed_stands c.args.program.now fits.spelling (subst (λ (b : List ℕ). length b ≤ 1048576) is fits.few_bytes));
      read_back = λ fits. ap pipeline_of is ∙ printed_read c.args.program.now fits.spelling (subst (λ (b : List ℕ). length b ≤ 1048576) is fits.few_bytes);
    }
