use Rattle.value_core.proofs.Cuts.{end_boundary}
use Rattle.value_core.proofs.cutting.trim_end.Goals as goal

pub split_at-requires : goal.split_at-requires
split_at-requires c = rw (c.blank_suffix.ensures.value, c.as_bytes.ensures.value) (end_boundary c.args.text.now c.utf8.text)
