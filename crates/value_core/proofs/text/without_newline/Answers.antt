use Rattle.std.proofs.Common.{sym, lit<}
use Rattle.std.proofs.lemmas.Str.Pattern.{strip_suffix_char}
use Rattle.value_core.proofs.Texts.{stripped_some, stripped_none}
use Rattle.value_core.proofs.text.without_newline.Goals as goal

pub returns-in-Some : goal.returns-in-Some
returns-in-Some c =
    let cut = strip_suffix_char 10 c.args.text.now c.strip_suffix.result c.strip_suffix.ensures.cases (lit< tt) in
    sym (stripped_some c.args.text.now c.in-Some.front.now (rw c.in-Some.is at cut))

pub returns-in-None : goal.returns-in-None
returns-in-None c =
    let cut = strip_suffix_char 10 c.args.text.now c.strip_suffix.result c.strip_suffix.ensures.cases (lit< tt) in
    sym (stripped_none c.args.text.now (rw c.in-None.is at cut))
