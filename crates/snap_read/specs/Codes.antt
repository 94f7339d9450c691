-- The codes of published states, by which proofs tell them apart.
use Rattle.std.specs.Prelude.{ℕ, List, refl}
use Rattle.std.specs.Coded.{Coded, code_by, coded×, coded_ℕ, coded_list}
use Rattle.logbook.specs.Pages.{Book, book_coded}
use Rattle.value_core.specs.contracts.state.Published as published
use Rattle.value_core.specs.declared.state.Published.{Published}
use Rattle.snap_read.specs.Lists.{Opened}

-- the code of published states
abbrev pub published_code : Coded Published
published_code = published.the_row.coded

-- the code of their lists
abbrev pub list_code : Coded (List Published)
list_code = coded_list published_code

-- the code of a history that was opened
abbrev pub opened_code : Coded Opened
opened_code =
    code_by (Book × (Published × ℕ))
    (coded× book_coded (coded× published_code coded_ℕ))
    (λ o. (o.history, (o.first, o.readers)))
    (λ p. record { history = p.0; first = p.1.0; readers = p.1.1 })
    (λ _. refl)
