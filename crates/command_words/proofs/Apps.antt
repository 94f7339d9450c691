-- Each command is simple, and no option of it goes by another.
use Rattle.std.proofs.Common.{◌≡◌, refl, true}
use Rattle.clap.specs.Words.{is_simple_and_free}
use Rattle.clap.proofs.OnLiterals.{clap_on_literals}
use Rattle.command_words.specs.Options.{log_app, make_app, check_app, run_app, store_app}

pub run_is_free : is_simple_and_free run_app ≡ true
unfolding clap_on_literals
run_is_free = refl

pub check_is_free : is_simple_and_free check_app ≡ true
unfolding clap_on_literals
check_is_free = refl

pub store_is_free : is_simple_and_free store_app ≡ true
unfolding clap_on_literals
store_is_free = refl

pub log_is_free : is_simple_and_free log_app ≡ true
unfolding clap_on_literals
log_is_free = refl

pub make_is_free : is_simple_and_free make_app ≡ true
unfolding clap_on_literals
make_is_free = refl
