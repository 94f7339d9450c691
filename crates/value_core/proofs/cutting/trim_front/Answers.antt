use Rattle.value_core.proofs.Cuts.{front_boundary}
use Rattle.value_core.proofs.cutting.trim_front.Goals as goal

pub split_at-requires : goal.split_at-requires
split_at-requires c = rw (c.blank_prefix.ensures.value, c.as_bytes.ensures.value) (front_boundary c.args.text.now c.utf8.text)
