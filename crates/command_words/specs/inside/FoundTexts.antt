-- The texts that were found, as contracts see them.
use Rattle.std.specs.Prelude.{option_map}
use Rattle.command_words.specs.Options.{Options}
use Rattle.command_words.specs.declared.options.Found.{Found}

-- of the slices
abbrev pub texts_of : Found → Options
texts_of f = record {
  plain = option_map (λ s. s.now) f.plain;
  store = option_map (λ s. s.now) f.store;
  confirm = option_map (λ s. s.now) f.confirm;
  count = f.count;
}
