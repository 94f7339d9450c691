-- The operation of the made pipeline.
use Rattle.std.specs.Prelude.{false, [], ◌∷◌, None, codes}
use Rattle.op_keys.specs.declared.declarations.Expiry.TheVariants.{Never}
use Rattle.op_keys.specs.declared.declarations.OpDecl.{OpDecl}
use Rattle.op_keys.specs.declared.level.Level.TheVariants.{Average}

-- it takes its key as a word
abbrev pub made_op : OpDecl
made_op = record {
  name = codes "f";
  output = false;
  pool = codes "p";
  client = codes "c";
  full = 1;
  cached = 0;
  hint = None;
  urgent = false;
  level = Average;
  expiry = Never;
  latched = false;
  no_cancel = false;
  words = codes "f" ∷ codes "{key}" ∷ [];
}
