-- Worked rows: templates that are filled, and levels that may start.
use Rattle.std.proofs.Common.{◌≡◌, Some, None, true, false, codes, refl}
use Rattle.op_keys.specs.Filling.{filled}
use Rattle.op_keys.specs.Levels.{permitted}
use Rattle.op_keys.specs.declared.level.Level.TheVariants.{Harmless, MostlyHarmless, Average, AboveAverage, Dangerous}

-- ---- templates, filled once from the left

the_key : filled (codes "main") (codes "v") (codes "{key}") ≡ codes "main"
the_key = refl

both : filled (codes "main") (codes "v") (codes "{key}-{value}") ≡ codes "main-v"
both = refl

not_again : filled (codes "{value}") (codes "v") (codes "{key}{key}") ≡ codes "{value}{value}"
not_again = refl

not_joined : filled (codes "k") (codes "{k") (codes "{value}ey}") ≡ codes "{key}"
not_joined = refl

in_braces : filled (codes "k") (codes "v") (codes "{{key}}") ≡ codes "{k}"
in_braces = refl

cut_off : filled (codes "k") (codes "v") (codes "{ke{value}") ≡ codes "{kev"
cut_off = refl

other_names : filled (codes "k") (codes "v") (codes "é{other}{Key}") ≡ codes "é{other}{Key}"
other_names = refl

nothing : filled (codes "k") (codes "v") (codes "") ≡ codes ""
nothing = refl

-- ---- levels below the threshold

without : permitted None Dangerous ≡ true
without = refl

none_below : permitted (Some Harmless) Harmless ≡ false
none_below = refl

one_below : permitted (Some Average) MostlyHarmless ≡ true
one_below = refl

itself : permitted (Some Average) Average ≡ false
itself = refl

above : permitted (Some Average) AboveAverage ≡ false
above = refl

greatest : permitted (Some Dangerous) Dangerous ≡ false
greatest = refl
